-- Laws of `end_of`: the fuel does not matter, and a turn of the loop that seeks it. Assumes nothing.
use Rattle.std.proofs.Common.{◌≡◌, ℕ, zero, suc, ◌+◌, ◌-◌, ◌≤◌, ◌<◌, List, length, Bool, true, false, ◌&&◌, eqb, leb, Option, Some, None, ◌⊎◌, inl, inr, refl, ap, sym, ◌∙◌, arith}
use borrow.Author.Tests.{le-leb, lt-leb, leb-false, ne_eqb}
use Rattle.basics.specs.Pick.{when}
use Rattle.basics.proofs.Picks.{when_both}
use Rattle.grammar.specs.Line.{after_of, kind_of}
use Rattle.grammar.specs.declared.Kind.{Kind}
use Rattle.grammar.specs.declared.Kind.TheVariants.{Make, Call, Repeat, End}
use Rattle.grammar.proofs.Laws.{after_more, after_within, after_end}
use Rattle.schedule.specs.Text.{is_end, open_after, end_from, end_of}

-- two choices by one test, whose second arms agree where they are taken
module _ {A : Type 0} where
  pub when_cong : (b : Bool) (x y z : A) → (b ≡ false → y ≡ z) → when b x y ≡ when b x z
  unfolding when
  when_cong true x y z h = refl
  when_cong false x y z h = h refl

open_le : (k : Option Kind) (m i j : ℕ) → m ≤ i → i < j → open_after k m ≤ j
open_le None m i j h l = omega arith
open_le (Some Make) m i j h l = omega arith
open_le (Some Call) m i j h l = omega arith
open_le (Some (Repeat n)) m i j h l = omega arith
open_le (Some End) m i j h l = omega arith

end_fuel : (k j : ℕ) (s : List ℕ) (i m : ℕ) → i ≤ length s → length s ≤ i + k → length s ≤ i + j → end_from k s i m ≡ end_from j s i m
unfolding end_from when
end_fuel zero zero s i m w a b = refl
end_fuel zero (suc j) s i m w a b = rw (le-leb (length s) i (omega arith))
end_fuel (suc k) zero s i m w a b = rw (le-leb (length s) i (omega arith))
end_fuel (suc k) (suc j) s i m w a b =
    when_cong (leb (length s) i) _ _ _ (λ e. when_cong (is_end (kind_of s i) && eqb m 0) _ _ _ (λ _.
    let l : i < length s = leb-false (length s) i e in
    end_fuel k j s (after_of s i) (open_after (kind_of s i) m) (after_within s i (omega arith)) (omega (arith, after_more s i l)) (omega (arith, after_more s i l))))

end_within : (k : ℕ) (s : List ℕ) (i m : ℕ) → i ≤ length s → (i ≤ end_from k s i m) × (end_from k s i m ≤ length s)
unfolding end_from
end_within zero s i m w = omega arith
end_within (suc k) s i m w =
    let P : ℕ → Type 0 = λ r. (i ≤ r) × (r ≤ length s) in
    when_both P (leb (length s) i) _ _ (λ _. omega arith)
    (λ e. when_both P (is_end (kind_of s i) && eqb m 0) _ _ (λ _. omega arith)
    (λ _. let l : i < length s = leb-false (length s) i e in omega (arith, after_more s i l, end_within k s (after_of s i) (open_after (kind_of s i) m) (after_within s i (omega arith)))))

pub end_of_within : (s : List ℕ) (i m : ℕ) → i ≤ length s → (i ≤ end_of s i m) × (end_of s i m ≤ length s)
unfolding end_of
end_of_within s i m w = end_within (length s - i) s i m w

module _ (s : List ℕ) (i m : ℕ) where
  end_here : i < length s → (is_end (kind_of s i) && eqb m 0) ≡ true → i ≡ end_of s i m
  unfolding end_of end_from when
  end_here l e = sym (end_fuel (length s - i) (suc (length s - i)) s i m (omega arith) (omega arith) (omega arith) ∙ rw (lt-leb (length s) i l, e))

  end_on : i < length s → (is_end (kind_of s i) && eqb m 0) ≡ false → end_of s (after_of s i) (open_after (kind_of s i) m) ≡ end_of s i m
  unfolding end_of end_from when
  end_on l e =
      let w = after_within s i (omega arith) in
      let o = after_more s i l in
      sym (end_fuel (length s - i) (suc (length s - (i + 1))) s i m (omega arith) (omega arith) (omega arith)
      ∙ (rw (lt-leb (length s) i l, e) (end_fuel (length s - (i + 1)) (length s - after_of s i) s (after_of s i) (open_after (kind_of s i) m) w (omega arith) (omega arith))))

  end_none : length s ≤ i → i ≡ end_of s i m
  unfolding end_of end_from
  end_none l = let z : length s - i ≡ 0 = omega arith in rw z

-- what the loop goes by: the end sought, e, is the same from each place passed, with the blocks open there
module _ (s : List ℕ) (i m e : ℕ) (h : end_of s i m ≡ e) where
  pub seek_none : length s ≤ i → i ≤ length s → i ≡ after_of s e
  seek_none l w = let z : i ≡ length s = omega arith in rw (← h, ← end_none s i m l, z) (sym (after_end s))

  -- the line at i is of the kind k, and r says whether it is an `end`
  module _ (l : i < length s) (k : Option Kind) (r : Bool) (p : k ≡ kind_of s i) (q : r ≡ is_end k) where
    pub seek_here : (n : ℕ) → r ≡ true → m ≡ 0 → n ≡ after_of s i → n ≡ after_of s e
    seek_here n t z a = a ∙ ap (after_of s) (end_here s i m l (rw (← p, ← q, t, z)) ∙ h)

    pub seek_on : (j n : ℕ) → ((r ≡ true) × (m ≡ 0 → ⊥)) ⊎ (r ≡ false) → j ≡ after_of s i → n ≡ open_after k m → m ≤ i → (i < j) × (j ≤ length s) × (n ≤ j) × (end_of s j n ≡ e)
    seek_on j n t a b w =
        let o = after_more s i l in
        let f : is_end (kind_of s i) && eqb m 0 ≡ false = rw (← p, ← q) (other t) in
        rw (a, b, p) (o, after_within s i (omega arith), open_le (kind_of s i) m i (after_of s i) w o, end_on s i m l f ∙ h)
      where
        other : ((r ≡ true) × (m ≡ 0 → ⊥)) ⊎ (r ≡ false) → r && eqb m 0 ≡ false
        other (inl (t, n)) = rw (t, ne_eqb m 0 n)
        other (inr t) = rw t
