-- Every call keeps a sound record sound, accepted or refused.
use Rattle.std.specs.Prelude.{◌≡◌, true}
use Rattle.pool.specs.declared.Pool.{Pool}
use Rattle.pool.specs.Sound.{sound_of}
use Rattle.rules.specs.Calls.{Call, call}

abbrev pub KeepsSound : Type 0
KeepsSound = (c : Call) (p : Pool) → sound_of p ≡ true → sound_of (call c p).pool ≡ true
