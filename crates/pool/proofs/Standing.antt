-- A worker that may advance: one of the pool's, and not idle; and what its label tells. Assumes nothing.
use mathlib.Core.Path.{◌≡◌, refl, sym}
use mathlib.Core.Bool.{Bool, true, false, ◌||◌, false≢true}
use mathlib.Core.List.{List, [], ◌∷◌}
use Prim.Native.Nat.{ℕ, ◌-◌, ◌<◌}
use native.Mathlib.Omega.{arith}
use lib.Dec.{eqb, ltb}
use lib.ListN.{length, get_or}
use borrow.Author.Tests.{eqb-true, eqb-false, ne_eqb, ltb-true, leb-true}
use Rattle.basics.specs.Among.{among}
use Rattle.basics.specs.Below.{all_below, any_below}
use Rattle.basics.proofs.Picks.{when_back}
use Rattle.basics.proofs.Truth.{or_cases, and_left}
use Rattle.basics.proofs.All.{all_at}
use Rattle.basics.proofs.Any.{among_each}
use Rattle.worker.specs.declared.Worker.{Worker}
use Rattle.pool.specs.declared.Pool.{Pool}
use Rattle.pool.specs.declared.WorkerNo.{WorkerNo}
use Rattle.pool.specs.Answers.{fine, refuse}
use Rattle.pool.specs.Record.{worker_at}
use Rattle.pool.specs.Sound.{labels}
use Rattle.pool.specs.Checks.{worker_of, worker_check}
use Rattle.pool.specs.Steps.{stand_check}
use Rattle.pool.specs.ForProofs.Ready.{Ready, Stands}
use Rattle.pool.proofs.Parts.{parts, sizes_of, place_in, InUse, worker_in}
use Rattle.pool.proofs.Firsts.{first_both, never}
use Rattle.pool.proofs.Checked.{Named, named}

-- ---- what the check of an advance leaves

pub record Standing (p : Pool) (w : WorkerNo) : Type 0 where
  pub worker : Named p w
  pub busy : (worker_of p w).label ≡ 0 → ⊥

pub standing : (p : Pool) (w : WorkerNo) → stand_check p w ≡ fine → Standing p w
unfolding stand_check
standing p w h =
    let a = first_both (worker_check p w) _ h in
    let b = when_back (eqb (worker_of p w).label 0) fine (refuse 5 0) fine never a.1 in
    record { worker = named p w a.0; busy = eqb-false _ _ b.0 }

pub stands : (p : Pool) (w : WorkerNo) → stand_check p w ≡ fine → Stands p (w.0 - 1)
stands p w h =
    let a = standing p w h in
    record { sound = a.worker.sound; k_below = omega arith; busy = a.busy }

-- ---- its entry and registers

module _ {p : Pool} {k : ℕ} (s : Stands p k) where
  pub in_use : InUse p k
  in_use = worker_in (parts s.sound) k s.k_below

  pub worker_below : k < 8
  worker_below = omega (arith, s.k_below, (sizes_of p s.sound).w_most)

-- only at 12 and 32 may i be G
pub at_guard : (g l : ℕ) (x : Worker) → place_in g x ≡ true → x.label ≡ l → (eqb l 12 || eqb l 32) ≡ false → x.i < g
at_guard g l x h e short =
    or_cases (ltb x.i g) _ h (ltb-true x.i g) (λ past.
    absurd (false≢true (rw (e, short) at (and_left (eqb x.label 12 || eqb x.label 32) (eqb x.i g) past))))

pub ready : (p : Pool) (k l : ℕ) → Stands p k → (worker_at p k).label ≡ l → (eqb l 12 || eqb l 32) ≡ false → Ready p k
ready p k l s e short =
    let u = in_use s in
    let below = at_guard p.g l (worker_at p k) u.place e short in
    let sizes = sizes_of p s.sound in
    record { i_below = omega arith; attempts_most = leb-true _ _ u.attempts }

-- ---- the last label

-- the paper's labels from 2 to 31
abbrev pub before32 : List ℕ
before32 = 2 ∷ 4 ∷ 5 ∷ 6 ∷ 7 ∷ 8 ∷ 9 ∷ 10 ∷ 12 ∷ 13 ∷ 15 ∷ 18 ∷ 22 ∷ 25 ∷ 28 ∷ 31 ∷ []

abbrev sorted : ℕ → Bool
sorted l = eqb l 0 || among before32 l || eqb l 32

labels_sorted : all_below (length labels) (λ j. sorted (get_or labels j 0)) ≡ true
unfolding all_below any_below
labels_sorted = refl

pub last_label : {p : Pool} {k : ℕ} → Stands p k → among before32 (worker_at p k).label ≡ false → (worker_at p k).label ≡ 32
last_label {p} {k} s none =
    let l = (worker_at p k).label in
    let all : sorted l ≡ true = among_each (λ l. sorted l ≡ true) labels (all_at (length labels) (λ j. sorted (get_or labels j 0)) labels_sorted) l (in_use s).label in
    let zero : eqb l 0 ≡ false = ne_eqb l 0 s.busy in
    eqb-true l 32 (rw (zero, none) at all)

-- none of the labels, asked one by one
module _ (l : ℕ) where
  other : (n : ℕ) → (l ≡ n → ⊥) → eqb n l ≡ false
  other n h = ne_eqb n l (λ e. h (sym e))

  pub none_before : (l ≡ 2 → ⊥) → (l ≡ 4 → ⊥) → (l ≡ 5 → ⊥) → (l ≡ 6 → ⊥) → (l ≡ 7 → ⊥) → (l ≡ 8 → ⊥) → (l ≡ 9 → ⊥) → (l ≡ 10 → ⊥)
      → (l ≡ 12 → ⊥) → (l ≡ 13 → ⊥) → (l ≡ 15 → ⊥) → (l ≡ 18 → ⊥) → (l ≡ 22 → ⊥) → (l ≡ 25 → ⊥) → (l ≡ 28 → ⊥) → (l ≡ 31 → ⊥)
      → among before32 l ≡ false
  unfolding any_below
  none_before n2 n4 n5 n6 n7 n8 n9 n10 n12 n13 n15 n18 n22 n25 n28 n31 =
      rw (other 2 n2, other 4 n4, other 5 n5, other 6 n6, other 7 n7, other 8 n8, other 9 n9, other 10 n10, other 12 n12, other 13 n13, other 15 n15, other 18 n18, other 22 n22, other 25 n25, other 28 n28, other 31 n31)
