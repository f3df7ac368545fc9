-- Runs from a sound record. Every call keeps it sound, so a run need not ask each record on its way: that question is nearly all that a call costs to
-- compute. Assumes nothing.
use mathlib.Core.Path.{◌≡◌, refl, ap, ◌∙◌}
use mathlib.Core.Bool.{true}
use mathlib.Core.List.{List, [], ◌∷◌}
use Prim.Native.Nat.{ℕ, ◌-◌}
use lib.Dec.{eqb}
use Rattle.basics.specs.Pick.{when}
use Rattle.pool.specs.declared.Pool.{Pool}
use Rattle.pool.specs.declared.WorkerNo.{WorkerNo}
use Rattle.pool.specs.Answers.{Check, first, Told, after_check}
use Rattle.pool.specs.Record.{set_at}
use Rattle.pool.specs.Sound.{sound_of}
use Rattle.pool.specs.Checks.{worker_of, worker_check}
use Rattle.pool.specs.Steps.{stand_check, advance_check, handed, list_after_check, list_after}
use Rattle.pool.proofs.Checked.{sound_passes}
use Rattle.rules.specs.Calls.{Call, hiring, firing, posting, giving_up, taking, asking, advancing, call, list_of, after, Seen, seen}
use Rattle.rules.proofs.CallsKept.{call_sound}
use Rattle.rules.proofs.Rests.{checked, does, rests}
use Rattle.rules.proofs.Computing.{computing}

unfoldable pub sound_call : Call → Pool → Told
sound_call c p = after_check (checked c p) p (does c p)

sound_call_lem : (c : Call) (p : Pool) → sound_of p ≡ true → call c p ≡ sound_call c p
unfolding sound_call first
sound_call_lem c p h = rests c p ∙ ap (λ (t : Check). after_check (first t (checked c p)) p (does c p)) (sound_passes p h)

sound_list : Call → Pool → List ℕ
sound_list (hiring w) p = []
sound_list (firing w g) p = []
sound_list (posting w g b) p = []
sound_list (giving_up w ids) p = []
sound_list (taking b) p = []
sound_list (asking w b) p = []
sound_list (advancing w out) p =
    let no : WorkerNo = record { 0 = w } in
    list_after_check (checked (advancing w out) p) out (when (eqb (worker_of p no).label 32) (handed (set_at p (w - 1)) out) out)

sound_list_lem : (c : Call) (p : Pool) → sound_of p ≡ true → list_of c p ≡ sound_list c p
unfolding list_of list_after advance_check stand_check worker_check sound_list checked first
sound_list_lem (hiring w) p h = refl
sound_list_lem (firing w g) p h = refl
sound_list_lem (posting w g b) p h = refl
sound_list_lem (giving_up w ids) p h = refl
sound_list_lem (taking b) p h = refl
sound_list_lem (asking w b) p h = refl
sound_list_lem (advancing w out) p h = rw (sound_passes p h)

-- ---- runs

unfoldable pub sound_after : List Call → Pool → Pool
sound_after [] p = p
sound_after (c ∷ cs) p = sound_after cs (sound_call c p).pool

unfoldable pub sound_seen : List Call → Pool → List Seen
unfolding sound_list
sound_seen [] p = []
sound_seen (c ∷ cs) p = record { made = c; answer = (sound_call c p).answer; list = sound_list c p } ∷ sound_seen cs (sound_call c p).pool

pub sound_after_lem : (cs : List Call) (p : Pool) → sound_of p ≡ true → after cs p ≡ sound_after cs p
unfolding after sound_after
sound_after_lem [] p h = refl
sound_after_lem (c ∷ cs) p h = sound_after_lem cs (call c p).pool (call_sound c p h) ∙ ap (λ (t : Told). sound_after cs t.pool) (sound_call_lem c p h)

pub sound_seen_lem : (cs : List Call) (p : Pool) → sound_of p ≡ true → seen cs p ≡ sound_seen cs p
unfolding seen sound_seen
sound_seen_lem [] p h = refl
sound_seen_lem (c ∷ cs) p h = rw (sound_seen_lem cs (call c p).pool (call_sound c p h), sound_call_lem c p h, sound_list_lem c p h)

-- what such a run computes by
unfoldable pub running : Unit {0}
unfolding computing checked does sound_call sound_list sound_after sound_seen
running = tt
