-- A label by its bit in one word. Assumes nothing.
use mathlib.Core.Path.{◌≡◌, refl, sym}
use mathlib.Core.Bool.{Bool, true, false, not, ◌&&◌}
use mathlib.Core.List.{List}
use Prim.Native.Nat.{ℕ, ◌/◌, ◌%◌, ◌^◌, ◌≤◌}
use native.Mathlib.Nat.{mod-eq_of_lt}
use native.Mathlib.Omega.{arith}
use lib.Dec.{eqb, ltb}
use lib.ListN.{length, get_or}
use borrow.Author.Tests.{lt-ltb, le-ltb, ltb-true, ne_eqb}
use Rattle.basics.specs.Among.{among}
use Rattle.basics.specs.Below.{all_below, any_below}
use Rattle.basics.proofs.Any.{any_false}
use Rattle.basics.proofs.All.{all_at}
use Rattle.basics.proofs.Truth.{by_order}
use Rattle.pool.specs.Sound.{labels, is_label}

-- what is larger than each entry is not among them
too_large : (n x : ℕ) (l : List ℕ) → all_below (length l) (λ j. ltb (get_or l j 0) n) ≡ true → n ≤ x → among l x ≡ false
too_large n x l h le =
    any_false (length l) (λ j. eqb (get_or l j 0) x) (λ j b.
    let low = ltb-true (get_or l j 0) n (all_at (length l) (λ j. ltb (get_or l j 0) n) h j b) in
    ne_eqb (get_or l j 0) x (λ e. omega arith))

same : Bool → Bool → Bool
same true b = b
same false b = not b

same_eq : (a b : Bool) → same a b ≡ true → a ≡ b
unfolding same
same_eq true b h = sym h
same_eq false true h = h
same_eq false false h = refl

marked : ℕ → Bool
marked l = eqb (0x1_9244_b7f5 / 2 ^ l % 2) 1

table : all_below 64 (λ l. same (marked l) (is_label l)) ≡ true
unfolding all_below any_below same marked
table = refl

pub label_mask : (l : ℕ) → (ltb l 64 && eqb (0x1_9244_b7f5 / 2 ^ (l % 64) % 2) 1) ≡ is_label l
unfolding marked all_below
label_mask l =
    by_order 64 l
    (λ h. rw (le-ltb l 64 h) (sym (too_large 64 l labels refl h)))
    (λ h. rw (lt-ltb l 64 h, mod-eq_of_lt h) (same_eq (marked l) (is_label l) (all_at 64 (λ l. same (marked l) (is_label l)) table l h)))
