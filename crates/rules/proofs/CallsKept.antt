-- Any call keeps a sound record sound, and so does a run of calls. Assumes nothing.
use mathlib.Core.Path.{◌≡◌}
use mathlib.Core.Bool.{true}
use mathlib.Core.List.{List, [], ◌∷◌}
use Rattle.pool.specs.declared.Pool.{Pool}
use Rattle.pool.specs.Sound.{sound_of}
use Rattle.rules.specs.Calls.{Call, hiring, firing, posting, giving_up, taking, asking, advancing, call, after}
use Rattle.rules.specs.Kept.{KeepsSound}
use Rattle.rules.proofs.BeginsKept.{hire_kept, fire_kept, post_kept, give_up_kept, take_kept, ask_kept}
use Rattle.rules.proofs.StepsKept.{advance_kept}

pub call_sound : KeepsSound
unfolding call
call_sound (hiring w) p h = hire_kept p _ h
call_sound (firing w g) p h = fire_kept p _ _ h
call_sound (posting w g b) p h = post_kept p _ _ _ h
call_sound (giving_up w ids) p h = give_up_kept p _ ids h
call_sound (taking b) p h = take_kept p _ h
call_sound (asking w b) p h = ask_kept p _ _ h
call_sound (advancing w out) p h = advance_kept p _ out h

pub run_sound : (cs : List Call) (p : Pool) → sound_of p ≡ true → sound_of (after cs p) ≡ true
unfolding after
run_sound [] p h = h
run_sound (c ∷ cs) p h = run_sound cs (call c p).pool (call_sound c p h)
