-- Laws of a word as a number: what the loop over its digits goes by. Assumes nothing.
use Rattle.std.proofs.Common.{◌≡◌, ℕ, ◌+◌, ◌-◌, ◌*◌, ◌≤◌, ◌<◌, List, [], ◌∷◌, length, get_or, drop, true, false, not, ◌&&◌, eqb, leb, Some, None, refl, sym, ◌∙◌, arith}
use Rattle.std.proofs.lemmas.List.{at_drop_more, at_drop_all}
use mathlib.Core.Bool.{and-false}
use borrow.Author.Tests.{lt-leb, le-leb, ne_eqb}
use Rattle.basics.proofs.Picks.{when_yes, when_no}
use Rattle.grammar.specs.Words.{is_digit, digits, value, unpadded, number_of}

pub unpadded_one : (w : List ℕ) → 1 ≤ length w → length w < 2 → unpadded w ≡ true
unfolding unpadded
unpadded_one [] h l = absurd (omega arith)
unpadded_one (b ∷ []) h l = refl
unpadded_one (b ∷ c ∷ w) h l = absurd (omega arith)

unpadded_none : (w : List ℕ) → length w < 1 → unpadded w ≡ false
unfolding unpadded
unpadded_none [] h = refl
unpadded_none (b ∷ w) h = absurd (omega arith)

unpadded_more : (w : List ℕ) → 2 ≤ length w → unpadded w ≡ not (eqb (get_or w 0 0) 48)
unfolding unpadded
unpadded_more [] h = absurd (omega arith)
unpadded_more (b ∷ []) h = absurd (omega arith)
unpadded_more (b ∷ c ∷ w) h = refl

pub unpadded_led : (w : List ℕ) → 2 ≤ length w → (get_or w 0 0 ≡ 48 → ⊥) → unpadded w ≡ true
unpadded_led w h n = rw (unpadded_more w h, ne_eqb (get_or w 0 0) 48 n)

-- ---- no number

module _ (w : List ℕ) where
  refused : unpadded w && (digits w && leb (value 0 w) 4294967295) ≡ false → None ≡ number_of w
  unfolding number_of
  refused e = when_no _ _ _ _ e refl

  pub number_none : length w < 1 → None ≡ number_of w
  number_none h = refused (rw (unpadded_none w h))

  pub number_padded : 2 ≤ length w → get_or w 0 0 ≡ 48 → None ≡ number_of w
  number_padded h e = refused (rw (unpadded_more w h, e))

  number_other : digits w ≡ false → None ≡ number_of w
  number_other e = refused (rw (e, and-false (unpadded w)))

  number_large : 4294967295 < value 0 w → None ≡ number_of w
  number_large h = refused (rw (lt-leb (value 0 w) 4294967295 h, and-false (digits w), and-false (unpadded w)))

value_grows : (v : ℕ) (l : List ℕ) → v ≤ value v l
unfolding value
value_grows v [] = omega arith
value_grows v (b ∷ l) = omega (arith, value_grows (v * 10 + (b - 48)) l)

-- ---- after i bytes, of which v was made

module _ (w : List ℕ) (i v : ℕ) (made : value v (drop i w) ≡ value 0 w) (all : digits (drop i w) ≡ digits w) where
  module _ (l : i < length w) where
    abbrev next : ℕ
    next = get_or w i 0

    pub other_told : is_digit next ≡ false → None ≡ number_of w
    unfolding digits
    other_told e = number_other w (sym all ∙ (at_drop_more digits w i 0 l ∙ rw e))

    pub value_on : value (v * 10 + (next - 48)) (drop (i + 1) w) ≡ value 0 w
    unfolding value
    value_on = sym (at_drop_more (value v) w i 0 l) ∙ made

    pub digits_on : is_digit next ≡ true → digits (drop (i + 1) w) ≡ digits w
    unfolding digits
    digits_on e = (rw e at (sym (at_drop_more digits w i 0 l))) ∙ all

    pub large_told : 4294967295 < v * 10 + (next - 48) → None ≡ number_of w
    large_told h = number_large w (omega (arith, value_on, value_grows (v * 10 + (next - 48)) (drop (i + 1) w)))

  pub number_told : unpadded w ≡ true → length w ≤ i → v ≤ 4294967295 → Some v ≡ number_of w
  unfolding number_of value digits
  number_told bare h small =
      let ends : v ≡ value 0 w = sym (at_drop_all (value v) w i h) ∙ made in
      let digital : digits w ≡ true = sym all ∙ at_drop_all digits w i h in
      when_yes _ _ _ _ (rw (bare, digital, ← ends, le-leb v 4294967295 small)) (rw (← ends))
