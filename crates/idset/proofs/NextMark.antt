-- The laws of the search for a word's next mark. Assumes nothing.
use mathlib.Core.Path.{◌≡◌, refl, sym, ap, ◌∙◌}
use mathlib.Core.Bool.{Bool, true, false, true≢false}
use Prim.Native.Nat.{ℕ, zero, suc, ◌+◌, ◌-◌, ◌/◌, ◌^◌, ◌≤◌, ◌<◌}
use native.Mathlib.Nat.{lt_of_le_of_lt}
use native.Mathlib.Omega.{arith}
use lib.Pow.{shr_le}
use lib.Count.{count_trailing_zeros}
use Rattle.std.specs.Prelude.{Option, Some, None}
use Rattle.basics.specs.Pick.{when}
use Rattle.basics.proofs.Truth.{by_order}
use Rattle.idset.specs.Members.{digit, first_mark, next_mark}
use Rattle.idset.proofs.Digits.{digit_shr, digit_short, digit_none, trailing_lowest}

-- place r is the first mark of w at m or above
pub record Mark (w m r : ℕ) : Type 0 where
  pub up : m ≤ r
  pub top : r < 64
  pub here : digit w r ≡ true
  pub none : (j : ℕ) → m ≤ j → j < r → digit w j ≡ false

-- what a search for it tells
abbrev pub Told : ℕ → ℕ → Option ℕ → Type 0
Told w m None = (j : ℕ) → m ≤ j → j < 64 → digit w j ≡ false
Told w m (Some r) = Mark w m r

first_is : (w n m : ℕ) → m + n ≡ 64 → Told w m (first_mark w n m)
unfolding first_mark when
first_is w zero m h = λ j lo up. absurd (omega arith)
first_is w (suc n) m h = go (digit w m) refl (first_mark w n (suc m)) (first_is w n (suc m) (omega arith))
  where
    unmarked : digit w m ≡ false → (j : ℕ) → m ≤ j → (suc m ≤ j → digit w j ≡ false) → digit w j ≡ false
    unmarked e j lo f = by_order j m (λ l. let q : j ≡ m = omega arith in ap (digit w) q ∙ e) f

    go : (t : Bool) → digit w m ≡ t → (o : Option ℕ) → Told w (suc m) o → Told w m (when t (Some m) o)
    go true e o ih = record { up = omega arith; top = omega arith; here = e; none = λ j lo up. absurd (omega arith) }
    go false e None ih = λ j lo up. unmarked e j lo (λ l. ih j l up)
    go false e (Some r) ih =
        let up = ih.up in
        record { up = omega arith; top = ih.top; here = ih.here; none = λ j lo u. unmarked e j lo (λ l. ih.none j l u) }

pub mark_is : (w m : ℕ) → Told w m (next_mark w m)
unfolding next_mark first_mark
mark_is w m =
    by_order m 64
    (λ l. first_is w (64 - m) m (omega arith))
    (λ l. let z : 64 - m ≡ 0 = omega arith in rw z (λ j lo up. absurd (omega arith)))

-- there is but one
not_above : {w m r t : ℕ} → Mark w m r → Mark w m t → r < t → ⊥
not_above {w} {m} {r} a b l = true≢false (sym a.here ∙ b.none r a.up l)

mark_only : (w m : ℕ) (a b : Option ℕ) → Told w m a → Told w m b → a ≡ b
mark_only w m None None p q = refl
mark_only w m None (Some r) p q = absurd (true≢false (sym q.here ∙ p r q.up q.top))
mark_only w m (Some r) None p q = absurd (true≢false (sym p.here ∙ q r p.up p.top))
mark_only w m (Some r) (Some t) p q =
    let e : r ≡ t = by_order r t (λ l. by_order t r (λ g. omega arith) (λ g. absurd (not_above p q g))) (λ l. absurd (not_above q p l)) in
    ap Some e

-- ---- the code's search: w shifted down to place m

module _ (w m : ℕ) where
  pub next_past : 64 ≤ m → None ≡ next_mark w m
  next_past h = mark_only w m None (next_mark w m) (λ j lo up. absurd (omega arith)) (mark_is w m)

  shifted : (j : ℕ) → m ≤ j → digit w j ≡ digit (w / 2 ^ m) (j - m)
  shifted j l = let q : j ≡ m + (j - m) = omega arith in ap (digit w) q ∙ sym (digit_shr w m (j - m))

  pub next_none : w / 2 ^ m ≡ 0 → None ≡ next_mark w m
  next_none z =
      mark_only w m None (next_mark w m) (λ j lo up. shifted j lo ∙ ap (λ (x : ℕ). digit x (j - m)) z ∙ digit_none (j - m)) (mark_is w m)

  pub next_some : w < 2 ^ 64 → (w / 2 ^ m ≡ 0 → ⊥) → Some (m + count_trailing_zeros 64 (w / 2 ^ m)) ≡ next_mark w m
  next_some h f =
      let t = count_trailing_zeros 64 (w / 2 ^ m) in
      let low = (trailing_lowest 64 (w / 2 ^ m) (lt_of_le_of_lt (shr_le w m) h) f).1 in
      let here : digit w (m + t) ≡ true = sym (digit_shr w m t) ∙ low.here in
      let l : m + t < 64 = digit_short 64 (m + t) h here in
      mark_only w m (Some (m + t)) (next_mark w m)
      (record { up = omega arith; top = l; here = here; none = λ j lo up. shifted j lo ∙ low.below (j - m) (omega arith) })
      (mark_is w m)
