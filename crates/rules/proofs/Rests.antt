-- A call asks first whether the record is sound, and then the rest. Assumes nothing.
use mathlib.Core.Path.{◌≡◌, refl}
use mathlib.Core.List.{List}
use Prim.Native.Nat.{ℕ, ◌-◌, ◌<◌}
use native.Mathlib.Omega.{arith}
use lib.Dec.{eqb, ltb}
use lib.ListN.{length, get_or}
use Rattle.basics.specs.Pick.{when, unless}
use Rattle.basics.proofs.Picks.{when_both}
use Rattle.pool.specs.declared.Pool.{Pool}
use Rattle.pool.specs.declared.WorkerNo.{WorkerNo}
use Rattle.pool.specs.declared.GuardNo.{GuardNo}
use Rattle.pool.specs.Answers.{Check, fine, refuse, first, Told, answering, after_check, accepted, yes, no}
use Rattle.pool.specs.Record.{posted_at, state_of, with_state}
use Rattle.pool.specs.Sound.{sound_check}
use Rattle.pool.specs.Checks.{worker_of, worker_check, begin_check, guard_check, id_check, fire_check, post_check, entry_check, list_check, give_up_check, take_check, ask_check}
use Rattle.pool.specs.Begins.{hiring as hired, firing as fired, posting as posted, giving, hire_of, fire_of, post_of, give_up_of, take_of, ask_of}
use Rattle.pool.specs.Steps.{line_of, hand_check, line_check, stand_check, advance_check, advance_of}
use Rattle.rules.specs.Calls.{Call, hiring, firing, posting, giving_up, taking, asking, advancing, call}
use Rattle.rules.proofs.Passed.{Numbers, of_fine, of_first, of_below, of_unless, of_when, guard_up, id_up}

-- ---- what a call refuses on a sound record, and what it does where it refuses nothing

-- 3; and 4
abbrev pub named : Pool → WorkerNo → Check
named p w = when (ltb w.0 1) (refuse 3 0) (when (ltb p.w w.0) (refuse 3 0) fine)

abbrev idle : Pool → WorkerNo → Check
idle p w = first (named p w) (unless (eqb (worker_of p w).label 0) (refuse 4 0) fine)

unfoldable pub checked : Call → Pool → Check
checked (hiring w) p = idle p (record { 0 = w })
checked (firing w g) p =
    first (idle p (record { 0 = w })) (first (guard_check p (record { 0 = w }) (record { 0 = g })) (unless (eqb (posted_at p g) 0) (refuse 8 0) fine))
checked (posting w g b) p =
    first (idle p (record { 0 = w })) (first (guard_check p (record { 0 = w }) (record { 0 = g })) (when (ltb p.b b) (refuse 9 0) fine))
checked (giving_up w ids) p = first (idle p (record { 0 = w })) (list_check p ids (length ids))
checked (taking b) p = first (id_check p b 0) (unless (eqb (state_of p b) 0) (refuse 11 0) fine)
checked (asking w b) p = first (idle p (record { 0 = w })) (id_check p b 0)
checked (advancing w out) p =
    let no : WorkerNo = record { 0 = w } in
    first (first (named p no) (when (eqb (worker_of p no).label 0) (refuse 5 0) fine)) (line_check (worker_of p no).label (w - 1) p (length out))

unfoldable pub does : Call → Pool → Told
does (hiring w) p = answering accepted (hired (w - 1) p)
does (firing w g) p = answering accepted (fired (w - 1) g p)
does (posting w g b) p = answering accepted (posted (w - 1) g b p)
does (giving_up w ids) p = answering accepted (giving (w - 1) ids p)
does (taking b) p = answering accepted (with_state b 1 p)
does (asking w b) p = answering (when (eqb (state_of p b) 1) yes no) p
does (advancing w out) p = line_of (worker_of p (record { 0 = w })).label (w - 1) p

first_assoc : (a b c : Check) → first (first a b) c ≡ first a (first b c)
unfolding first
first_assoc fine b c = refl
first_assoc (refuse n place) b c = refl

pub rests : (c : Call) (p : Pool) → call c p ≡ after_check (first (sound_check p) (checked c p)) p (does c p)
unfolding call hire_of fire_of post_of give_up_of take_of ask_of advance_of begin_check fire_check post_check give_up_check take_check ask_check stand_check advance_check worker_check checked does
rests (hiring w) p = simp first_assoc
rests (firing w g) p = simp first_assoc
rests (posting w g b) p = simp first_assoc
rests (giving_up w ids) p = simp first_assoc
rests (taking b) p = refl
rests (asking w b) p = simp first_assoc
rests (advancing w out) p = simp first_assoc

-- ---- the numbers from 21 on are those of soundness

abbrev Low : ℕ → Type 0
Low n = n < 21

module _ (p : Pool) where
  pub named_low : (w : WorkerNo) → Numbers Low (named p w)
  named_low w = of_when Low _ 3 0 _ (omega arith) (of_when Low _ 3 0 _ (omega arith) (of_fine Low))

  idle_low : (w : WorkerNo) → Numbers Low (idle p w)
  idle_low w = of_first Low _ _ (named_low w) (of_unless Low _ 4 0 _ (omega arith) (of_fine Low))

  guard_low : (w : WorkerNo) (g : GuardNo) → Numbers Low (guard_check p w g)
  guard_low w g n place h = let l = guard_up p w g n place h in omega arith

  id_low : (id place : ℕ) → Numbers Low (id_check p id place)
  id_low id at n place h = let l = id_up p id at n place h in omega arith

  entry_low : (ids : List ℕ) (k : ℕ) → Numbers Low (entry_check p ids k)
  unfolding entry_check
  entry_low ids k =
      of_first Low _ _ (id_low (get_or ids k 0) k) (of_when Low _ 10 k _ (omega arith) (of_unless Low _ 11 k _ (omega arith) (of_fine Low)))

  line_low : (l k room : ℕ) → Numbers Low (line_check l k p room)
  unfolding line_check hand_check
  line_low l k room =
      when_both (Numbers Low) _ _ _ (λ e. of_when Low _ 12 0 _ (omega arith) (of_fine Low)) (λ e.
      when_both (Numbers Low) _ _ _ (λ e. of_when Low _ 12 0 _ (omega arith) (of_fine Low)) (λ e.
      when_both (Numbers Low) _ _ _ (λ e. of_unless Low _ 14 0 _ (omega arith) (of_when Low _ 13 0 _ (omega arith) (of_fine Low))) (λ e. of_fine Low)))

  pub rest_low : (c : Call) → Numbers Low (checked c p)
  unfolding checked
  rest_low (hiring w) = idle_low (record { 0 = w })
  rest_low (firing w g) =
      of_first Low _ _ (idle_low (record { 0 = w }))
      (of_first Low _ _ (guard_low (record { 0 = w }) (record { 0 = g })) (of_unless Low (eqb (posted_at p g) 0) 8 0 fine (omega arith) (of_fine Low)))
  rest_low (posting w g b) =
      of_first Low _ _ (idle_low (record { 0 = w }))
      (of_first Low _ _ (guard_low (record { 0 = w }) (record { 0 = g })) (of_when Low (ltb p.b b) 9 0 fine (omega arith) (of_fine Low)))
  rest_low (giving_up w ids) =
      of_first Low _ _ (idle_low (record { 0 = w })) (of_below Low (entry_check p ids) (entry_low ids) (length ids))
  rest_low (taking b) = of_first Low _ _ (id_low b 0) (of_unless Low (eqb (state_of p b) 0) 11 0 fine (omega arith) (of_fine Low))
  rest_low (asking w b) = of_first Low _ _ (idle_low (record { 0 = w })) (id_low b 0)
  rest_low (advancing w out) =
      let no : WorkerNo = record { 0 = w } in
      of_first Low _ _ (of_first Low _ _ (named_low no) (of_when Low (eqb (worker_of p no).label 0) 5 0 fine (omega arith) (of_fine Low)))
      (line_low (worker_of p no).label (w - 1) (length out))
