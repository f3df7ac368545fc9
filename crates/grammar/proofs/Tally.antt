-- Laws of a line's words as numbers: what the loop over them goes by. Assumes nothing.
use Rattle.std.proofs.Common.{◌≡◌, ℕ, ◌+◌, ◌≤◌, ◌<◌, List, [], ◌∷◌, length, get_or, drop, set, eqb, Option, Result, Ok, Err, Some, None, ap, sym, ◌∙◌, arith}
use Rattle.std.proofs.lemmas.Iterator.{YieldsList}
use Rattle.std.proofs.lemmas.List.{drop_more, drop_all, length-drop}
use Rattle.std.proofs.lemmas.List.Splits.{length-slice_split}
use Rattle.std.proofs.lemmas.List.Sums.{count_by-le-length}
use Rattle.std.specs.List.{slice_split}
use Rattle.basics.specs.Pick.{when}
use Rattle.tables.specs.Write.{write_at}
use Rattle.tables.proofs.Laws.{write_one}
use Rattle.tables.proofs.Left.{Left, left_first_lem, left_on, left_done}
use Rattle.grammar.specs.Words.{words, number_of, numbers_of, all_numbers, tally}

-- a line has a first word
pub some_word : (l : List ℕ) → 0 < length (words l)
unfolding words
some_word l = omega (arith, length-slice_split (λ b. eqb b 32) l)

pub few_words : (l : List ℕ) → length (drop 1 (words l)) ≤ length l
unfolding words
few_words l = omega (arith, length-drop 1 (slice_split (λ b. eqb b 32) l), length-slice_split (λ b. eqb b 32) l, count_by-le-length (λ b. eqb b 32) l)

-- what an iterator yields after its first item
pub after_first : {S A B : Type 0} {steps : S → Option A → S → Type 0} {v : A → B} {s t : S} (ys : List B) (r : Option A) → YieldsList steps v s ys → 0 < length ys → steps s r t → YieldsList steps v t (drop 1 ys)
after_first [] r e h x = absurd (omega arith)
after_first (y ∷ ys) None e h x = absurd (e.runs.0 _ x)
after_first (y ∷ ys) (Some i) e h x = record { runs = (e.runs.1 i _ x).1 }

-- the words from the n-th on, after n numbers
abbrev pub tally_from : ℕ → List (List ℕ) → Result ℕ ℕ
tally_from n ws = when (all_numbers ws) (Ok (n + length (numbers_of ws))) (Err (n + length (numbers_of ws)))

-- in the table t₀ the numbers of all the words; in t the first n of them
pub record Read (ws : List (List ℕ)) (t₀ t : List ℕ) (n : ℕ) : Type 0 where
  pub told : tally_from n (drop n ws) ≡ tally ws
  pub left : Left t₀ 0 (numbers_of ws) t n (numbers_of (drop n ws))

pub read_first : (ws : List (List ℕ)) (t : List ℕ) → Read ws t t 0
read_first ws t = record {
  told = let z : 0 + length (numbers_of ws) ≡ length (numbers_of ws) = omega arith in rw z;
  left = left_first_lem t 0 (numbers_of ws);
}

module _ (ws : List (List ℕ)) (t₀ t : List ℕ) (n : ℕ) (r : Read ws t₀ t n) where
  -- the k-th word is w
  module _ (w : List ℕ) (k : ℕ) (q : n ≡ k) (l : (k < length ws) × (w ≡ get_or ws k w)) where
    rest : drop n ws ≡ w ∷ drop (n + 1) ws
    rest = rw q (drop_more ws k w l.0 ∙ ap (λ (x : List ℕ). x ∷ drop (k + 1) ws) (sym l.1))

    pub read_none : number_of w ≡ None → (Err n ≡ tally ws) × (t ≡ write_at t₀ 0 (numbers_of ws))
    unfolding numbers_of all_numbers when
    read_none e =
        let z : n + 0 ≡ n = omega arith in
        let none : numbers_of (drop n ws) ≡ [] = rw (rest, e) in
        (rw (none, rest, e, z) at r.told, (left_done _ _ _ _ _ _ r.left none).1)

    pub read_on : (v : ℕ) (u : List ℕ) → number_of w ≡ Some v → u ≡ set t n v → Read ws t₀ u (n + 1)
    unfolding numbers_of all_numbers
    read_on v u e p =
        let some : numbers_of (drop n ws) ≡ v ∷ numbers_of (drop (n + 1) ws) = rw (rest, e) in
        let z : n + length (v ∷ numbers_of (drop (n + 1) ws)) ≡ n + 1 + length (numbers_of (drop (n + 1) ws)) = omega arith in
        record {
          told = rw (some, z, rest, e) at r.told;
          left = left_on _ _ _ _ _ _ r.left (v ∷ []) _ u (n + 1) some (omega arith) (p ∙ sym (write_one t n v));
        }

  pub read_all : length ws ≤ n → (Ok n ≡ tally ws) × (t ≡ write_at t₀ 0 (numbers_of ws))
  unfolding numbers_of all_numbers when
  read_all h =
      let z : n + 0 ≡ n = omega arith in
      let none : drop n ws ≡ [] = drop_all n ws h in
      (rw (none, z) at r.told, (left_done _ _ _ _ _ _ r.left (rw none)).1)
