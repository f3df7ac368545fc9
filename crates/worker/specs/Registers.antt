-- A worker's label and registers, and each of them replaced: what a step does not name keeps its value.
use Rattle.std.specs.Prelude.{ℕ}
use Rattle.worker.specs.declared.Slot.{Slot}
use Rattle.worker.specs.declared.Worker.{Worker}

-- the largest number that a register holds
abbrev pub largest : ℕ
largest = 4294967295

-- holds no buffer, and never did
abbrev pub no_slot : Slot
no_slot = record { id = 0; version = 0 }

-- idle, every register 0
abbrev pub no_worker : Worker
no_worker = record { label = 0; i = 0; v = 0; h = no_slot; attempts = 0; max = 0 }

abbrev pub to : ℕ → Worker → Worker
to label x = record { label = label; i = x.i; v = x.v; h = x.h; attempts = x.attempts; max = x.max }

abbrev pub with_i : ℕ → Worker → Worker
with_i i x = record { label = x.label; i = i; v = x.v; h = x.h; attempts = x.attempts; max = x.max }

abbrev pub with_v : ℕ → Worker → Worker
with_v v x = record { label = x.label; i = x.i; v = v; h = x.h; attempts = x.attempts; max = x.max }

abbrev pub with_h : Slot → Worker → Worker
with_h h x = record { label = x.label; i = x.i; v = x.v; h = h; attempts = x.attempts; max = x.max }

abbrev pub with_attempts : ℕ → Worker → Worker
with_attempts attempts x = record { label = x.label; i = x.i; v = x.v; h = x.h; attempts = attempts; max = x.max }

abbrev pub with_max : ℕ → Worker → Worker
with_max max x = record { label = x.label; i = x.i; v = x.v; h = x.h; attempts = x.attempts; max = max }
