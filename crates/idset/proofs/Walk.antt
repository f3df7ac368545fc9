-- What a walk over a word's marks has left: the next mark, and what is left after it. Assumes nothing.
use mathlib.Core.Path.{◌≡◌, refl, sym, ap, ◌∙◌, subst}
use mathlib.Core.List.{List, [], ◌∷◌}
use Prim.Native.Nat.{ℕ, suc, ◌+◌, ◌-◌, ◌*◌, ◌≤◌, ◌<◌}
use native.Mathlib.Numerals.{add-one}
use native.Mathlib.Omega.{arith}
use Rattle.std.specs.Prelude.{Option, Some, None, get_or}
use Rattle.idset.specs.declared.IdSet.{IdSet}
use Rattle.idset.specs.Members.{digit, next_mark, ids_of, marks_from}
use Rattle.idset.proofs.Listed.{Passed, Met, ids_skip, ids_hit, mark_met, marks_passed}
use Rattle.idset.proofs.NextMark.{Mark, Told, mark_is}

module _ (w m : ℕ) where
  pub left_none : None ≡ next_mark w m → marks_from w m ≡ []
  unfolding marks_from ids_of
  left_none e =
      let none : Told w m None = subst (Told w m) (sym e) (mark_is w m) in
      let count : 64 - m ≡ 64 - m + 0 = omega arith in
      ap (λ (n : ℕ). ids_of (digit w) n m) count ∙ ids_skip (digit w) (64 - m) 0 m (λ j l. none (m + j) (omega arith) (omega arith))

  pub left_some : {r : ℕ} → Some r ≡ next_mark w m → marks_from w m ≡ r ∷ marks_from w (r + 1)
  unfolding marks_from
  left_some {r} e =
      let mark : Mark w m r = subst (Told w m) (sym e) (mark_is w m) in
      let up = mark.up in
      let top = mark.top in
      let count : 64 - m ≡ (r - m) + suc (64 - (r + 1)) = omega arith in
      let here : m + (r - m) ≡ r = omega arith in
      ap (λ (n : ℕ). ids_of (digit w) n m) count
      ∙ ids_skip (digit w) (r - m) (suc (64 - (r + 1))) m (λ j l. mark.none (m + j) (omega arith) (omega arith))
      ∙ ap (ids_of (digit w) (suc (64 - (r + 1)))) here
      ∙ ids_hit (digit w) (64 - (r + 1)) r mark.here
      ∙ ap (λ (b : ℕ). r ∷ ids_of (digit w) (64 - (r + 1)) b) (sym (add-one r))

  pub place_fits : {r : ℕ} → Some r ≡ next_mark w m → r < 64
  place_fits {r} e = let mark : Mark w m r = subst (Told w m) (sym e) (mark_is w m) in mark.top

  -- what stands first in what is left is the next mark
  next_of : {r : ℕ} {rest : List ℕ} → marks_from w m ≡ r ∷ rest → (Some r ≡ next_mark w m) × (rest ≡ marks_from w (r + 1))
  next_of {r} {rest} e = go (next_mark w m) refl
    where
      go : (o : Option ℕ) → o ≡ next_mark w m → (Some r ≡ next_mark w m) × (rest ≡ marks_from w (r + 1))
      go None q = let p : [] ≡ r ∷ rest = sym (left_none q) ∙ e in let z : ◌≡◌ {A = ℕ} 0 1 = cc in absurd (omega arith)
      go (Some t) q = let p : t ∷ marks_from w (t + 1) ≡ r ∷ rest = sym (left_some q) ∙ e in let h : t ≡ r = cc in (rw (← h) q, cc)

  next_at_end : marks_from w m ≡ [] → None ≡ next_mark w m
  next_at_end e = go (next_mark w m) refl
    where
      go : (o : Option ℕ) → o ≡ next_mark w m → None ≡ next_mark w m
      go None q = q
      go (Some t) q = let p : [] ≡ t ∷ marks_from w (t + 1) = sym e ∙ left_some q in let z : ◌≡◌ {A = ℕ} 0 1 = cc in absurd (omega arith)

-- the same of word i of a set: the member at the mark, and that none stands before it; or that none stands up to the word's end
module _ (s : IdSet) (i m : ℕ) (hi : i < 4) where
  pub mark_first : {r : ℕ} {rest : List ℕ} → marks_from (get_or s.words i 0) m ≡ r ∷ rest
      → (r < 64) × Passed s (64 * i + m) (64 * i + r) × Met s (64 * i + r) × (rest ≡ marks_from (get_or s.words i 0) (r + 1))
  mark_first e =
      let next = next_of (get_or s.words i 0) m e in
      let met = mark_met s i m hi next.0 in
      (met.0, met.1, met.2, next.1)

  pub marks_done : m ≤ 64 → marks_from (get_or s.words i 0) m ≡ [] → Passed s (64 * i + m) (64 * (i + 1))
  marks_done h e = marks_passed s i m hi h (next_at_end (get_or s.words i 0) m e)
