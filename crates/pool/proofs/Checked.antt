-- What is known of the record and the arguments once a check has found nothing: `search` finds each by what the check's code answered.
-- Assumes nothing.
use mathlib.Core.Path.{◌≡◌, ap}
use mathlib.Core.Bool.{true}
use mathlib.Core.List.{List}
use Prim.Native.Nat.{ℕ, ◌≤◌, ◌<◌}
use lib.ListN.{length}
use lib.Dec.{eqb, leb, ltb}
use borrow.Author.Tests.{ltb-false, leb-false, eqb-true}
use Rattle.basics.proofs.Picks.{when_back, unless_back}
use Rattle.pool.specs.declared.Pool.{Pool}
use Rattle.pool.specs.declared.WorkerNo.{WorkerNo}
use Rattle.pool.specs.declared.GuardNo.{GuardNo}
use Rattle.pool.specs.declared.BufferId.{BufferId}
use Rattle.pool.specs.Answers.{fine, refuse, is_fine}
use Rattle.pool.specs.Record.{employer_at, posted_at, state_of}
use Rattle.pool.specs.Sound.{sound_check, sound_of}
use Rattle.pool.specs.Checks.{worker_of, worker_check, begin_check, guard_check, id_check, fire_check, post_check, list_check, give_up_check, take_check, ask_check}
use Rattle.pool.proofs.Parts.{Sizes, sizes_of}
use Rattle.pool.proofs.Firsts.{first_both, never, fine_is}

-- ---- the record is sound

pub sound_of_lem : (p : Pool) → sound_check p ≡ fine → sound_of p ≡ true
unfolding sound_of
sound_of_lem p h = ap is_fine h

pub sound_passes : (p : Pool) → sound_of p ≡ true → sound_check p ≡ fine
unfolding sound_of
sound_passes p h = fine_is (sound_check p) h

-- ---- the worker is one of the pool's

pub record Named (p : Pool) (w : WorkerNo) : Type 0 where
  pub sound : sound_of p ≡ true
  pub sizes : Sizes p
  pub some : 1 ≤ w.0
  pub most : w.0 ≤ p.w

pub named : (p : Pool) (w : WorkerNo) → worker_check p w ≡ fine → Named p w
unfolding worker_check
named p w h =
    let a = first_both (sound_check p) _ h in
    let b = when_back (ltb w.0 1) fine (refuse 3 0) _ never a.1 in
    let c = when_back (ltb p.w w.0) fine (refuse 3 0) _ never b.1 in
    let sound = sound_of_lem p a.0 in
    record { sound = sound; sizes = sizes_of p sound; some = ltb-false _ _ b.0; most = ltb-false _ _ c.0 }

-- ---- and idle

pub record Begun (p : Pool) (w : WorkerNo) : Type 0 where
  pub worker : Named p w
  pub idle : (worker_of p w).label ≡ 0

pub begun : (p : Pool) (w : WorkerNo) → begin_check p w ≡ fine → Begun p w
unfolding begin_check
begun p w h =
    let a = first_both (worker_check p w) _ h in
    let b = unless_back (eqb (worker_of p w).label 0) fine (refuse 4 0) fine never a.1 in
    record { worker = named p w a.0; idle = eqb-true _ _ b.0 }

-- ---- the guard is the worker's own

pub record Employed (p : Pool) (w : WorkerNo) (g : GuardNo) : Type 0 where
  pub guard_below : g.0 < p.g
  pub employed : employer_at p g.0 ≡ w.0

pub employed : (p : Pool) (w : WorkerNo) (g : GuardNo) → guard_check p w g ≡ fine → Employed p w g
unfolding guard_check
employed p w g h =
    let a = when_back (leb p.g g.0) fine (refuse 6 0) _ never h in
    let b = unless_back (eqb (employer_at p g.0) w.0) fine (refuse 7 0) fine never a.1 in
    record { guard_below = leb-false _ _ a.0; employed = eqb-true _ _ b.0 }

-- ---- the id names a buffer

pub record Buffer (p : Pool) (id : ℕ) : Type 0 where
  pub some : 1 ≤ id
  pub most : id ≤ p.b

pub buffer : (p : Pool) (id place : ℕ) → id_check p id place ≡ fine → Buffer p id
unfolding id_check
buffer p id place h =
    let a = when_back (ltb id 1) fine (refuse 9 place) _ never h in
    let b = when_back (ltb p.b id) fine (refuse 9 place) _ never a.1 in
    record { some = ltb-false _ _ a.0; most = ltb-false _ _ b.0 }

-- ---- what the calls' own checks leave

pub record Fires (p : Pool) (w : WorkerNo) (g : GuardNo) : Type 0 where
  pub begun : Begun p w
  pub guard : Employed p w g
  pub unposted : posted_at p g.0 ≡ 0

pub fires : (p : Pool) (w : WorkerNo) (g : GuardNo) → fire_check p w g ≡ fine → Fires p w g
unfolding fire_check
fires p w g h =
    let a = first_both (begin_check p w) _ h in
    let b = first_both (guard_check p w g) _ a.1 in
    let c = unless_back (eqb (posted_at p g.0) 0) fine (refuse 8 0) fine never b.1 in
    record { begun = begun p w a.0; guard = employed p w g b.0; unposted = eqb-true _ _ c.0 }

pub record Posts (p : Pool) (w : WorkerNo) (g : GuardNo) (b : BufferId) : Type 0 where
  pub begun : Begun p w
  pub guard : Employed p w g
  pub most : b.0 ≤ p.b

pub posts : (p : Pool) (w : WorkerNo) (g : GuardNo) (b : BufferId) → post_check p w g b ≡ fine → Posts p w g b
unfolding post_check
posts p w g b h =
    let a = first_both (begin_check p w) _ h in
    let c = first_both (guard_check p w g) _ a.1 in
    let d = when_back (ltb p.b b.0) fine (refuse 9 0) fine never c.1 in
    record { begun = begun p w a.0; guard = employed p w g c.0; most = ltb-false _ _ d.0 }

pub record Takes (p : Pool) (b : BufferId) : Type 0 where
  pub sound : sound_of p ≡ true
  pub sizes : Sizes p
  pub buffer : Buffer p b.0
  pub free : state_of p b.0 ≡ 0

pub takes : (p : Pool) (b : BufferId) → take_check p b ≡ fine → Takes p b
unfolding take_check
takes p b h =
    let a = first_both (sound_check p) _ h in
    let c = first_both (id_check p b.0 0) _ a.1 in
    let d = unless_back (eqb (state_of p b.0) 0) fine (refuse 11 0) fine never c.1 in
    let sound = sound_of_lem p a.0 in
    record { sound = sound; sizes = sizes_of p sound; buffer = buffer p b.0 0 c.0; free = eqb-true _ _ d.0 }

pub record Asks (p : Pool) (w : WorkerNo) (b : BufferId) : Type 0 where
  pub begun : Begun p w
  pub buffer : Buffer p b.0

pub asks : (p : Pool) (w : WorkerNo) (b : BufferId) → ask_check p w b ≡ fine → Asks p w b
unfolding ask_check
asks p w b h = let a = first_both (begin_check p w) _ h in record { begun = begun p w a.0; buffer = buffer p b.0 0 a.1 }

pub record GivesUp (p : Pool) (w : WorkerNo) (ids : List ℕ) : Type 0 where
  pub begun : Begun p w
  pub list : list_check p ids (length ids) ≡ fine

pub gives_up : (p : Pool) (w : WorkerNo) (ids : List ℕ) → give_up_check p w ids ≡ fine → GivesUp p w ids
unfolding give_up_check
gives_up p w ids h = let a = first_both (begin_check p w) _ h in record { begun = begun p w a.0; list = a.1 }

-- ---- what the code's next step asks

-- a sound record has at most 32 guards and 256 buffers
pub few_guards : (p : Pool) (w : WorkerNo) → begin_check p w ≡ fine → p.g ≤ 32
few_guards p w h = (begun p w h).worker.sizes.g_most

pub few_buffers : (p : Pool) → sound_check p ≡ fine → p.b ≤ 256
few_buffers p h = (sizes_of p (sound_of_lem p h)).b_most

pub few_to_name : (p : Pool) (w : WorkerNo) → begin_check p w ≡ fine → p.b ≤ 256
few_to_name p w h = (begun p w h).worker.sizes.b_most
