-- The table of an advance, line by line: what holds of each line at its label holds of the table. Assumes nothing.
use mathlib.Core.Path.{◌≡◌}
use mathlib.Core.Bool.{false}
use Prim.Native.Nat.{ℕ}
use lib.Dec.{eqb}
use borrow.Author.Tests.{eqb-true, eqb-false}
use Rattle.basics.specs.Among.{among}
use Rattle.basics.specs.Pick.{when}
use Rattle.basics.proofs.Picks.{when_both}
use Rattle.pool.specs.declared.Pool.{Pool}
use Rattle.pool.specs.Answers.{Told}
use Rattle.pool.specs.Steps.{line2, line4, line5, line6, line7, line8, line9, line10, line12, line13, line15, line18, line22, line25, line28, line31, line32, line_of}
use Rattle.pool.proofs.Standing.{before32, none_before}

-- P of each line, where the label l leads to it
pub record EachLine (P : Told → Type 0) (l k : ℕ) (p : Pool) : Type 0 where
  pub at2 : l ≡ 2 → P (line2 k p)
  pub at4 : l ≡ 4 → P (line4 k p)
  pub at5 : l ≡ 5 → P (line5 k p)
  pub at6 : l ≡ 6 → P (line6 k p)
  pub at7 : l ≡ 7 → P (line7 k p)
  pub at8 : l ≡ 8 → P (line8 k p)
  pub at9 : l ≡ 9 → P (line9 k p)
  pub at10 : l ≡ 10 → P (line10 k p)
  pub at12 : l ≡ 12 → P (line12 k p)
  pub at13 : l ≡ 13 → P (line13 k p)
  pub at15 : l ≡ 15 → P (line15 k p)
  pub at18 : l ≡ 18 → P (line18 k p)
  pub at22 : l ≡ 22 → P (line22 k p)
  pub at25 : l ≡ 25 → P (line25 k p)
  pub at28 : l ≡ 28 → P (line28 k p)
  pub at31 : l ≡ 31 → P (line31 k p)
  pub at32 : among before32 l ≡ false → P (line32 k p)

module _ (P : Told → Type 0) (l k : ℕ) (p : Pool) where
  -- the label is n, or the lines after it decide
  at_label : (n : ℕ) (a b : Told) → (l ≡ n → P a) → ((l ≡ n → ⊥) → P b) → P (when (eqb l n) a b)
  at_label n a b f g = when_both P (eqb l n) a b (λ e. f (eqb-true l n e)) (λ e. g (eqb-false l n e))

  pub by_line : EachLine P l k p → P (line_of l k p)
  unfolding line_of
  by_line c =
      at_label 2 _ _ c.at2 (λ n2. at_label 4 _ _ c.at4 (λ n4. at_label 5 _ _ c.at5 (λ n5. at_label 6 _ _ c.at6 (λ n6.
      at_label 7 _ _ c.at7 (λ n7. at_label 8 _ _ c.at8 (λ n8. at_label 9 _ _ c.at9 (λ n9. at_label 10 _ _ c.at10 (λ n10.
      at_label 12 _ _ c.at12 (λ n12. at_label 13 _ _ c.at13 (λ n13. at_label 15 _ _ c.at15 (λ n15. at_label 18 _ _ c.at18 (λ n18.
      at_label 22 _ _ c.at22 (λ n22. at_label 25 _ _ c.at25 (λ n25. at_label 28 _ _ c.at28 (λ n28. at_label 31 _ _ c.at31 (λ n31.
      c.at32 (none_before l n2 n4 n5 n6 n7 n8 n9 n10 n12 n13 n15 n18 n22 n25 n28 n31)))))))))))))))))
