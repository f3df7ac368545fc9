-- A worker's set handed back: what the loops over its members make, turn by turn. Assumes nothing.
use mathlib.Core.Path.{◌≡◌, refl, sym, ap, ap₂, ◌∙◌}
use mathlib.Core.Bool.{Bool, true, not, ◌&&◌, ◌||◌, and-true}
use mathlib.Core.List.{List, ◌++◌, append-nil, append_assoc}
use Prim.Native.Nat.{ℕ, suc, ◌+◌, ◌-◌, ◌≤◌, ◌<◌}
use native.Mathlib.Decide.{ℕ_discrete}
use native.Mathlib.Omega.{arith}
use native.Mathlib.Numerals.{add-one}
use lib.Dec.{eqb, leb}
use lib.ListN.{length, get_or, set, take, drop, length-set, take-append-drop}
use lib.Seq.{get_or-set_same, get_or-set_other, take-suc-set, drop-set-lt, drop-drop}
use borrow.Author.Tests.{le-leb, lt-leb, leb-true}
use Rattle.basics.specs.Pick.{when}
use Rattle.basics.specs.Below.{all_below, table}
use Rattle.basics.proofs.Truth.{both, by_order}
use Rattle.basics.proofs.All.{all_of, all_split}
use Rattle.basics.proofs.Table.{table_at, table_is, table_length, table_cong}
use Rattle.idset.specs.declared.IdSet.{IdSet}
use Rattle.idset.specs.Members.{member_of, size_of, ids_of, above, members_of}
use Rattle.idset.proofs.Members.{no_member, too_high}
use Rattle.idset.proofs.Listed.{Passed, Met, above_passed, above_met, members_size}
use Rattle.pool.specs.Steps.{handed}

-- ---- whether the members up to a are leaving

-- tests from n to m that pass change nothing
all_skip : (f : ℕ → Bool) (n m : ℕ) → n ≤ m → ((j : ℕ) → n ≤ j → j < m → f j ≡ true) → all_below n f ≡ all_below m f
all_skip f n m l h =
    let q : n + (m - n) ≡ m = omega arith in
    let passed = all_of (m - n) (λ k. f (n + k)) (λ k b. h (n + k) (omega arith) (omega arith)) in
    sym (and-true (all_below n f)) ∙ ap (λ (t : Bool). all_below n f && t) (sym passed) ∙ sym (all_split n (m - n) f) ∙ ap (λ (k : ℕ). all_below k f) q

abbrev pub leaves : IdSet → List ℕ → ℕ → Bool
leaves s st j = not (member_of s (suc j)) || eqb (get_or st j 0) 2

module _ (st : List ℕ) {s : IdSet} {ok : Bool} where
  pub leaves_passed : {a v : ℕ} → Passed s a v → ok ≡ all_below a (leaves s st) → ok ≡ all_below v (leaves s st)
  leaves_passed {a} {v} p e = e ∙ all_skip (leaves s st) a v p.up (λ j lo hi. rw (p.none (suc j) (omega arith) (omega arith)))

  pub leaves_met : {k : ℕ} → Met s k → ok ≡ all_below k (leaves s st) → (ok && eqb (get_or st k 0) 2) ≡ all_below (k + 1) (leaves s st)
  unfolding all_below
  leaves_met {k} met e = rw (add-one, e, ← add-one k, met.member)

-- ---- the states with the members up to a free

abbrev up_to : IdSet → ℕ → ℕ → Bool
up_to s a b = leb b a && member_of s b

abbrev freed_to : IdSet → List ℕ → ℕ → List ℕ
freed_to s st a = table (length st) (λ j. when (up_to s a (suc j)) 0 (get_or st j 0))

freed_none : (s : IdSet) (st : List ℕ) → st ≡ freed_to s st 0
unfolding when
freed_none s st = table_is (length st) _ st 0 refl (λ j l. rw (lt-leb (suc j) 0 (omega arith)))

module _ (st : List ℕ) {after : List ℕ} where
  freed_passed : {s : IdSet} {a v : ℕ} → Passed s a v → after ≡ freed_to s st a → after ≡ freed_to s st v
  freed_passed {s} {a} {v} p e = e ∙ table_cong (length st) _ _ (λ j l. ap (λ (t : Bool). when t 0 (get_or st j 0)) (same (suc j)))
    where
      same : (b : ℕ) → up_to s a b ≡ up_to s v b
      same b =
          let up = p.up in
          by_order b a
          (λ l. rw (le-leb b a l, le-leb b v (omega arith)))
          (λ l. by_order b v
          (λ m. rw (lt-leb b a l, le-leb b v m, p.none b l m))
          (λ m. rw (lt-leb b a l, lt-leb b v m)))

  freed_met : {s : IdSet} {k : ℕ} → Met s k → after ≡ freed_to s st k → set after k 0 ≡ freed_to s st (k + 1)
  unfolding when
  freed_met {s} {k} met e = table_is (length st) _ (set after k 0) 0 (length-set after k 0 ∙ long) (λ j l. go j l (ℕ_discrete j k))
    where
      long : length after ≡ length st
      long = ap length e ∙ table_length (length st) _

      go : (j : ℕ) → j < length st → Dec (j ≡ k) → get_or (set after k 0) j 0 ≡ when (up_to s (k + 1) (suc j)) 0 (get_or st j 0)
      go j l (yes q) =
          ap (λ (n : ℕ). get_or (set after k 0) n 0) q ∙ get_or-set_same after k 0 0 (omega (arith, long))
          ∙ rw (le-leb (suc j) (k + 1) (omega arith), q, ← add-one k, met.member)
      go j l (no n) =
          get_or-set_other after k j 0 0 n ∙ ap (λ (x : List ℕ). get_or x j 0) e
          ∙ table_at (length st) (λ i. when (up_to s k (suc i)) 0 (get_or st i 0)) j 0 l
          ∙ ap (λ (t : Bool). when (t && member_of s (suc j)) 0 (get_or st j 0))
          (both (leb (suc j) k) (leb (suc j) (k + 1))
          (λ t. le-leb (suc j) (k + 1) (omega (arith, leb-true (suc j) k t)))
          (λ t. le-leb (suc j) k (omega (arith, leb-true (suc j) (k + 1) t))))

  freed_all : (s : IdSet) → after ≡ freed_to s st 256 → after ≡ table (length st) (λ j. when (member_of s (suc j)) 0 (get_or st j 0))
  freed_all s e = e ∙ table_cong (length st) _ _ (λ j l. ap (λ (t : Bool). when t 0 (get_or st j 0)) (all (suc j)))
    where
      all : (b : ℕ) → up_to s 256 b ≡ member_of s b
      all b = by_order b 256 (λ l. rw (le-leb b 256 l)) (λ l. rw (lt-leb b 256 l, no_member s b (too_high l)))

-- ---- the walk that hands back: the states with the members up to a free, and the lent list, whose first n entries are these members

pub record Handing (s : IdSet) (st old after out : List ℕ) (n a : ℕ) : Type 0 where
  pub free : after ≡ freed_to s st a
  pub long : length out ≡ length old
  pub left : n + length (above s a) ≡ size_of s
  pub front : take n out ++ above s a ≡ members_of s
  pub rest : drop n out ≡ drop n old

pub handing_none : (s : IdSet) (st old : List ℕ) → Handing s st old st old 0 0
unfolding members_of
handing_none s st old = record { free = freed_none s st; long = refl; left = omega (arith, members_size s); front = refl; rest = refl }

module _ {s : IdSet} {st old after out : List ℕ} {n : ℕ} where
  pub handing_passed : {a v : ℕ} → Passed s a v → Handing s st old after out n a → Handing s st old after out n v
  handing_passed p h = record {
    free = freed_passed st p h.free;
    long = h.long;
    left = rw (← above_passed p) h.left;
    front = rw (← above_passed p) h.front;
    rest = h.rest;
  }

  pub handing_room : {k : ℕ} → Met s k → Handing s st old after out n k → n < size_of s
  handing_room met h = omega (arith, h.left, ap length (above_met met))

  pub handing_met : {k : ℕ} → Met s k → n < length out → Handing s st old after out n k
      → Handing s st old (set after k 0) (set out n (k + 1)) (n + 1) (k + 1)
  handing_met {k} met l h = record {
    free = freed_met st met h.free;
    long = length-set out n (k + 1) ∙ h.long;
    left = omega (arith, h.left, ap length (above_met met));
    front = rw (add-one n, take-suc-set, append_assoc, ← above_met met) h.front;
    rest = drop-set-lt (n + 1) out n (k + 1) (omega arith) ∙ sym (drop-drop 1 n out) ∙ ap (drop 1) h.rest ∙ drop-drop 1 n old;
  }

  pub handing_all : Handing s st old after out n 256 → (after ≡ table (length st) (λ j. when (member_of s (suc j)) 0 (get_or st j 0))) × (out ≡ handed s old)
  unfolding handed above ids_of
  handing_all h =
      let whole : n ≡ size_of s = omega (arith, h.left) in
      let front : take n out ≡ members_of s = rw append-nil at h.front in (
        freed_all st s h.free,
        sym (take-append-drop n out) ∙ ap₂ ◌++◌ front (h.rest ∙ ap (λ (i : ℕ). drop i old) whole),
      )
