-- The laws of `table`: its length, its entries, and a list that it is. Assumes nothing.
use Prim.Native.Nat.{ℕ, zero, suc, ◌+◌, ◌<◌}
use mathlib.Core.Path.{◌≡◌, refl, sym, ap, ◌∙◌, subst}
use mathlib.Core.List.{List, [], ◌∷◌, ◌++◌}
use native.Mathlib.Omega.{arith}
use lib.ListN.{length, get_or, length-append, get_or-append}
use lib.Seq.{ext_get_or, get_or-append-add}
use Rattle.basics.specs.Below.{table}
use Rattle.basics.proofs.Truth.{by_order}

module _ {A : Type 0} where
  pub table_length : (n : ℕ) (f : ℕ → A) → length (table n f) ≡ n
  unfolding table
  table_length zero f = refl
  table_length (suc n) f = length-append (table n f) (f n ∷ []) ∙ omega (arith, table_length n f)

  pub table_at : (n : ℕ) (f : ℕ → A) (i : ℕ) (d : A) → i < n → get_or (table n f) i d ≡ f i
  unfolding table
  table_at zero f i d l = absurd (omega arith)
  table_at (suc n) f i d l =
      by_order n i
      (λ h. let q : i ≡ n + 0 = omega arith in
      let e : length (table n f) + 0 ≡ n + 0 = ap (λ (m : ℕ). m + 0) (table_length n f) in
      ap (λ (m : ℕ). get_or (table n f ++ (f n ∷ [])) m d) (q ∙ sym e) ∙ get_or-append-add (table n f) (f n ∷ []) 0 d
      ∙ ap f (omega arith))
      (λ h. get_or-append (table n f) (f n ∷ []) d i (subst (λ (m : ℕ). i < m) (sym (table_length n f)) h) ∙ table_at n f i d h)

  -- a list of n entries, each as f says
  pub table_is : (n : ℕ) (f : ℕ → A) (l : List A) (d : A) → length l ≡ n → ((i : ℕ) → i < n → get_or l i d ≡ f i) → l ≡ table n f
  table_is n f l d e h =
      ext_get_or d l (table n f) (e ∙ sym (table_length n f)) (λ i b.
      let lt : i < n = subst (λ (m : ℕ). i < m) e b in
      h i lt ∙ sym (table_at n f i d lt))

  pub table_cong : (n : ℕ) (f g : ℕ → A) → ((i : ℕ) → i < n → f i ≡ g i) → table n f ≡ table n g
  unfolding table
  table_cong zero f g e = refl
  table_cong (suc n) f g e = rw (table_cong n f g (λ i l. e i (omega arith)), e n (omega arith))
