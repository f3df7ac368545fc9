-- An advance keeps a sound record sound. Assumes nothing.
use mathlib.Core.Path.{◌≡◌, refl, sym, ◌∙◌}
use mathlib.Core.Logic.{◌≢◌}
use mathlib.Core.Bool.{Bool, true, false, not, ◌&&◌, ◌||◌, or-true, false≢true}
use mathlib.Core.List.{List}
use Prim.Native.Nat.{ℕ, ◌+◌, ◌-◌, ◌≤◌, ◌<◌}
use native.Mathlib.Omega.{arith}
use lib.Dec.{eqb, leb, ltb}
use lib.ListN.{length}
use borrow.Author.Tests.{le-leb, lt-ltb, leb-true, ltb-true, eq-eqb, eqb-false}
use Rattle.basics.specs.Pick.{when}
use Rattle.basics.specs.Below.{any_below}
use Rattle.basics.proofs.Picks.{when_both, unless_both}
use Rattle.basics.proofs.Truth.{or_cases, by_order}
use Rattle.idset.specs.declared.IdSet.{IdSet}
use Rattle.idset.specs.Members.{member_of, no_ids, within_of, size_of}
use Rattle.idset.proofs.Within.{within_true, none_within, with_within, without_within}
use Rattle.worker.specs.declared.Worker.{Worker}
use Rattle.worker.specs.Registers.{no_worker, to, with_i, with_v, with_h, with_max}
use Rattle.worker.specs.Steps.{at13, failed, last_failed, at22, at31}
use Rattle.pool.specs.declared.Pool.{Pool}
use Rattle.pool.specs.declared.WorkerNo.{WorkerNo}
use Rattle.pool.specs.Answers.{Said, Told, none_found, guard, fired, posted, back}
use Rattle.pool.specs.Record.{taken_at, worker_at, set_at, with_maxg, with_set}
use Rattle.pool.specs.Sound.{is_label, sound_of}
use Rattle.pool.specs.Steps.{i_of, last_guard, posted_here, slot_here, unchanged, refilled, collects, puts, goes, ends, line2, line4, line5, line6, line7, line9, line12, line13, line15, line18, line22, line25, line28, line31, line32, line_of, stand_check, advance_check, advance_of}
use Rattle.pool.specs.ForProofs.Ready.{Stands}
use Rattle.pool.proofs.Parts.{Parts, parts, whole, sizes_of, place_in, three_at, tries_in, worker_in}
use Rattle.rules.proofs.Kept.{guard_in, maxg_kept, taken_kept, employer_kept, posted_kept, slot_kept, some_states_kept, worker_kept, set_kept}
use Rattle.pool.proofs.Firsts.{first_both}
use Rattle.rules.proofs.BeginsKept.{after_kept}
use Rattle.pool.proofs.Standing.{stands, at_guard}
use Rattle.rules.proofs.EachLine.{by_line}

abbrev Sound : Told → Type 0
Sound t = Parts t.pool

-- a worker's numbers, but for what its label asks of them
abbrev Ranged : Pool → Worker → Type 0
Ranged p x = (x.v ≤ p.b) × (x.h.id ≤ p.b) × (x.max < p.g) × (x.attempts ≤ 3)

module _ {p : Pool} (s : Parts p) (k : ℕ) (l : k < p.w) where
  ranged : Ranged p (worker_at p k)
  ranged = let u = worker_in s k l in omega (arith, leb-true, ltb-true)

  -- ---- how a line closes

  puts_kept : (x : Worker) → is_label x.label ≡ true → place_in p.g x ≡ true → tries_in x ≡ true → Ranged p x → Sound (puts k x p)
  unfolding puts
  puts_kept x label place tries r =
      worker_kept s k l x label
      (rw (le-leb x.v p.b r.0, le-leb x.h.id p.b r.1, (worker_in s k l).members))
      (rw (place, lt-ltb x.max p.g r.2, le-leb x.attempts 3 r.3, tries))

  -- at a guard, and at a label that lets the attempts be
  puts_free : (x : Worker) → is_label x.label ≡ true → three_at x.label ≡ true → x.i < p.g → Ranged p x → Sound (puts k x p)
  puts_free x label three below r =
      puts_kept x label (rw (lt-ltb x.i p.g below)) (rw three (or-true (leb x.attempts 2))) r

  -- at a guard, and with an attempt left
  puts_trying : (x : Worker) → is_label x.label ≡ true → x.attempts ≤ 2 → x.i < p.g → Ranged p x → Sound (puts k x p)
  puts_trying x label few below r =
      puts_kept x label (rw (lt-ltb x.i p.g below)) (rw (le-leb x.attempts 2 few)) r

  goes_kept : (label : ℕ) → is_label label ≡ true → three_at label ≡ true → i_of p k < p.g → Sound (goes k label p)
  goes_kept label known three below = puts_free (to label (worker_at p k)) known three below ranged

  ends_kept : (a : Said) → Sound (ends k a p)
  unfolding ends any_below
  ends_kept a =
      let sizes = sizes_of p (whole s) in
      let low = le-leb 0 p.b (omega arith) in
      let some = lt-ltb 0 p.g (omega arith) in
      set_kept (worker_kept s k l no_worker refl (rw (low, (worker_in s k l).members)) (rw some)) k l no_ids (none_within p.b)

-- ---- the lines, of a worker that stands at their labels

-- at 12, and no further than G
place_12 : (g n : ℕ) → n ≤ g → (ltb n g || eqb n g) ≡ true
place_12 g n h = by_order g n (λ b. rw (eq-eqb n g (omega arith)) (or-true (ltb n g))) (λ b. rw (lt-ltb n g b))

module _ {p : Pool} (s : Parts p) (k : ℕ) (l : k < p.w) where
  abbrev x : Worker
  x = worker_at p k

  guard_at : (n : ℕ) → x.label ≡ n → (eqb n 12 || eqb n 32) ≡ false → i_of p k < p.g
  guard_at n e short = at_guard p.g n x (worker_in s k l).place e short

  -- at labels with an attempt left
  few_at : (n : ℕ) → x.label ≡ n → three_at n ≡ false → x.attempts ≤ 2
  few_at n e few =
      or_cases (leb x.attempts 2) (three_at x.label) (worker_in s k l).tries (leb-true x.attempts 2) (λ three.
      absurd (false≢true (sym few ∙ rw e at three)))

  -- what guard i stores
  posted_most : i_of p k < p.g → posted_here p k ≤ p.b
  posted_most below = leb-true _ _ (guard_in s (i_of p k) below).0

  slot_most : i_of p k < p.g → (slot_here p k).id ≤ p.b
  slot_most below = leb-true _ _ (guard_in s (i_of p k) below).1

  -- on to one of two labels, by a test
  either : (y : Worker) (t : Bool) (m n : ℕ) → (t ≡ true → Sound (puts k (to m y) p)) → (t ≡ false → Sound (puts k (to n y) p))
      → Sound (puts k (to (when t m n) y) p)
  either y = when_both (λ n. Sound (puts k (to n y) p))

  line2_kept : x.label ≡ 2 → Sound (line2 k p)
  unfolding line2 any_below
  line2_kept e =
      let below = guard_at 2 e refl in
      unless_both Sound (taken_at p (i_of p k)) _ _
      (λ free. goes_kept (taken_kept s (i_of p k) below true) k l 4 refl refl below)
      (λ taken. when_both Sound (eqb (i_of p k + 1) p.g) _ _
      (λ last. ends_kept s k l none_found)
      (λ more. puts_free s k l (with_i (i_of p k + 1) x) (worker_in s k l).label (rw e) (omega (arith, eqb-false (i_of p k + 1) p.g more)) (ranged s k l)))

  line4_kept : x.label ≡ 4 → Sound (line4 k p)
  unfolding any_below
  line4_kept e =
      let r = ranged s k l in
      let maxg = (sizes_of p (whole s)).maxg_below in
      let y = with_max p.maxg x in
      let below = guard_at 4 e refl in
      either y (ltb p.maxg (i_of p k)) 5 6
      (λ above. puts_free s k l (to 5 y) refl refl below (omega arith))
      (λ within. puts_free s k l (to 6 y) refl refl below (omega arith))

  line5_kept : x.label ≡ 5 → Sound (line5 k p)
  unfolding any_below
  line5_kept e =
      let below = guard_at 5 e refl in
      let kept : (m : ℕ) → m < p.g → Sound (goes k 4 (with_maxg m p)) = λ m h. goes_kept (maxg_kept s m h) k l 4 refl refl below in
      when_both (λ m. Sound (goes k 4 (with_maxg m p))) (eqb p.maxg x.max) (i_of p k) p.maxg
      (λ still. kept (i_of p k) below) (λ risen. kept p.maxg (sizes_of p (whole s)).maxg_below)

  line6_kept : x.label ≡ 6 → Sound (line6 k p)
  line6_kept e = ends_kept (employer_kept s (i_of p k) (guard_at 6 e refl) (k + 1) (omega arith)) k l (guard (i_of p k))

  line7_kept : x.label ≡ 7 → Sound (line7 k p)
  unfolding any_below
  line7_kept e = let below = guard_at 7 e refl in goes_kept (taken_kept s (i_of p k) below false) k l 8 refl refl below

  line9_kept : x.label ≡ 9 → Sound (line9 k p)
  unfolding any_below
  line9_kept e =
      let below = guard_at 9 e refl in
      goes_kept (posted_kept s (i_of p k) below x.v (ranged s k l).0) k l 10 refl refl below

  -- 12: on to 32 with i as it was, G at the most
  line12_kept : x.label ≡ 12 → Sound (line12 k p)
  unfolding any_below
  line12_kept e =
      let r = ranged s k l in
      let maxg = (sizes_of p (whole s)).maxg_below in
      let max = ltb-true x.max p.g (worker_in s k l).max in
      either x (leb (i_of p k) (last_guard k p)) 13 32
      (λ in_use. goes_kept s k l 13 refl refl (omega (arith, leb-true (i_of p k) (last_guard k p) in_use)))
      (λ past. puts_kept s k l (to 32 x) refl (rw e at (worker_in s k l).place) (or-true (leb x.attempts 2)) r)

  line13_kept : x.label ≡ 13 → Sound (line13 k p)
  unfolding any_below
  line13_kept e =
      let r = ranged s k l in
      let below = guard_at 13 e refl in
      let stored = slot_most below in
      puts_trying s k l (at13 x (slot_here p k)) refl (omega arith) below (omega arith)

  line15_kept : x.label ≡ 15 → Sound (line15 k p)
  unfolding any_below
  line15_kept e =
      let r = ranged s k l in
      let below = guard_at 15 e refl in
      let stored = posted_most below in
      let y = with_v (posted_here p k) x in
      either y (not (eqb (posted_here p k) 0) && member_of (set_at p k) (posted_here p k)) 18 28
      (λ trapped. puts_trying s k l (to 18 y) refl (few_at 15 e refl) below (omega arith))
      (λ clear. puts_free s k l (to 28 y) refl refl below (omega arith))

  -- slot i refilled by an id, and the set another
  refilled_kept : (id : ℕ) (t : IdSet) → id ≤ p.b → within_of t p.b ≡ true → i_of p k < p.g → Sound (goes k 31 (with_set k t (refilled k id p)))
  unfolding any_below
  refilled_kept id t h within below = goes_kept (set_kept (slot_kept s (i_of p k) below _ h) k l t within) k l 31 refl refl below

  line18_kept : x.label ≡ 18 → Sound (line18 k p)
  unfolding line18 any_below
  line18_kept e =
      let r = ranged s k l in
      let below = guard_at 18 e refl in
      let u = worker_in s k l in
      unless_both Sound (unchanged k p) _ _
      (λ changed. puts_trying s k l (to 22 x) refl (few_at 18 e refl) below r)
      (λ same. refilled_kept x.v _ r.0 (with_within _ x.h.id p.b (without_within _ x.v p.b u.members) r.1) below)

  line22_kept : x.label ≡ 22 → Sound (line22 k p)
  unfolding at22 any_below
  line22_kept e =
      let r = ranged s k l in
      let below = guard_at 22 e refl in
      let few = few_at 22 e refl in
      let stored = slot_most below in
      when_both (λ y. Sound (puts k y p)) (last_failed x) _ _
      (λ third. puts_free s k l (to 31 (failed x)) refl refl below (omega arith))
      (λ before.
      let fewer : x.attempts + 1 ≢ 3 = λ q. false≢true (sym (rw q at before)) in
      puts_trying s k l (to 25 (with_h (slot_here p k) (failed x))) refl (omega (arith, fewer)) below (omega arith))

  line25_kept : x.label ≡ 25 → Sound (line25 k p)
  unfolding any_below
  line25_kept e =
      let below = guard_at 25 e refl in
      either x _ 31 18
      (λ done. goes_kept s k l 31 refl refl below)
      (λ again. puts_trying s k l (to 18 x) refl (few_at 25 e refl) below (ranged s k l))

  line28_kept : x.label ≡ 28 → Sound (line28 k p)
  unfolding line28 any_below
  line28_kept e =
      let below = guard_at 28 e refl in
      unless_both Sound (collects k p) _ _
      (λ left. goes_kept s k l 31 refl refl below)
      (λ taken. refilled_kept 0 _ (omega arith) (with_within _ x.h.id p.b (worker_in s k l).members (ranged s k l).1) below)

  -- 31: i + 1 is G at the most, and at 12 it may be
  line31_kept : x.label ≡ 31 → Sound (line31 k p)
  unfolding any_below
  line31_kept e = puts_kept s k l (at31 x) refl (place_12 p.g (i_of p k + 1) (omega (arith, guard_at 31 e refl))) (or-true (leb x.attempts 2)) (ranged s k l)

  line32_kept : Sound (line32 k p)
  line32_kept =
      ends_kept (some_states_kept s (member_of (set_at p k)) 0 (within_true (set_at p k) p.b (worker_in s k l).members) (omega arith)) k l
      (back (size_of (set_at p k)))

-- ---- the table

lines_kept : (p : Pool) (k : ℕ) → Stands p k → Sound (line_of (worker_at p k).label k p)
lines_kept p k a =
    let s = parts a.sound in
    let l = a.k_below in
    by_line Sound (worker_at p k).label k p (
    record {
      at2 = line2_kept s k l;
      at4 = line4_kept s k l;
      at5 = line5_kept s k l;
      at6 = line6_kept s k l;
      at7 = line7_kept s k l;
      at8 = λ e. ends_kept s k l fired;
      at9 = line9_kept s k l;
      at10 = λ e. ends_kept s k l posted;
      at12 = line12_kept s k l;
      at13 = line13_kept s k l;
      at15 = line15_kept s k l;
      at18 = line18_kept s k l;
      at22 = line22_kept s k l;
      at25 = line25_kept s k l;
      at28 = line28_kept s k l;
      at31 = line31_kept s k l;
      at32 = λ none. line32_kept s k l;
    })

pub advance_kept : (p : Pool) (w : WorkerNo) (out : List ℕ) → sound_of p ≡ true → sound_of (advance_of p w out).pool ≡ true
unfolding advance_of advance_check
advance_kept p w out h =
    after_kept (advance_check p w (length out)) p _ h (λ e. lines_kept p (w.0 - 1) (stands p w (first_both (stand_check p w) _ e).0))
