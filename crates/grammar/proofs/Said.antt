-- What a line says, in the words of the calls' answers. Assumes nothing.
use Rattle.std.proofs.Common.{◌≡◌, ℕ, ◌<◌, List, [], ◌∷◌, length, get_or, take, drop, min, Bool, true, false, Option, Result, Ok, Err, Some, None, refl, ap, sym, ◌∙◌, arith}
use Rattle.std.specs.List.{slice_range}
use Rattle.std.specs.Result.{result_ok}
use Rattle.std.proofs.lemmas.List.{drop_more}
use borrow.Author.Tests.{le-leb, lt-leb, ne_eqb}
use Rattle.basics.specs.Pick.{when}
use Rattle.tables.specs.Write.{write_at}
use Rattle.tables.proofs.Laws.{write_beyond}
use Rattle.grammar.specs.declared.Line.{Line}
use Rattle.grammar.specs.Line.{stop_of, line_by, line_of, numbers_at}
use Rattle.grammar.specs.Words.{words, numbers_of, all_numbers, tally}

-- the first four of the numbers, in a list of four zeros
first_few : (l : List ℕ) → take (min (length l) 4) (write_at (0 ∷ 0 ∷ 0 ∷ 0 ∷ []) 0 l) ≡ take 4 l
unfolding write_at
first_few [] = refl
first_few (x ∷ []) = refl
first_few (x ∷ y ∷ []) = refl
first_few (x ∷ y ∷ z ∷ []) = refl
first_few (x ∷ y ∷ z ∷ u ∷ l) =
    let four : min (length (x ∷ y ∷ z ∷ u ∷ l)) 4 ≡ 4 = omega arith in
    rw (four, write_beyond (x ∷ y ∷ z ∷ u ∷ []) 4 l (omega arith))

-- no line has more than three numbers of its own
by_few : (w ns : List ℕ) → line_by w (take 4 ns) ≡ line_by w ns
by_few w [] = refl
by_few w (x ∷ []) = refl
by_few w (x ∷ y ∷ []) = refl
by_few w (x ∷ y ∷ z ∷ []) = refl
by_few w (x ∷ y ∷ z ∷ u ∷ ns) =
    let n = length (x ∷ y ∷ z ∷ u ∷ ns) in
    rw (ne_eqb n 3 (λ e. omega arith), ne_eqb n 2 (λ e. omega arith), ne_eqb n 1 (λ e. omega arith), ne_eqb n 0 (λ e. omega arith), le-leb 1 n (omega arith))

-- the tally, where it is asked for all or nothing
told_some : (t : Bool) (m n : ℕ) → Some n ≡ result_ok {E = ℕ} (when t (Ok m) (Err m)) → (t ≡ true) × (n ≡ m)
unfolding when
told_some true m n h = (refl, cc)
told_some false m n h = cc

told_none : (t : Bool) (m : ℕ) → None ≡ result_ok {E = ℕ} (when t (Ok m) (Err m)) → t ≡ false
unfolding when
told_none true m h = cc
told_none false m h = refl

module _ (s : List ℕ) (at e : ℕ) (p : e ≡ stop_of s at) where
  pub line_none : e ≡ length s → None ≡ line_of s at
  unfolding line_of when
  line_none l = rw (← p, le-leb (length s) e (omega arith))

  -- a line with a newline, with its first word
  module _ (l : e < length s) (w : List ℕ) (f : (0 < length (words (slice_range s at e))) × (w ≡ get_or (words (slice_range s at e)) 0 w)) where
    abbrev others : List (List ℕ)
    others = drop 1 (words (slice_range s at e))

    first : words (slice_range s at e) ≡ w ∷ others
    first = drop_more (words (slice_range s at e)) 0 w f.0 ∙ ap (λ (x : List ℕ). x ∷ others) (sym f.1)

    line_is : line_of s at ≡ when (all_numbers others) (line_by w (numbers_of others)) None
    unfolding line_of when
    line_is = rw (← p, lt-leb (length s) e l, first)

    pub line_bad : None ≡ result_ok (tally others) → None ≡ line_of s at
    unfolding when
    line_bad t = sym (line_is ∙ rw (told_none (all_numbers others) (length (numbers_of others)) t))

    pub line_told : (n : ℕ) (list : List ℕ) (x : Option Line) → Some n ≡ result_ok (tally others) → list ≡ write_at (0 ∷ 0 ∷ 0 ∷ 0 ∷ []) 0 (numbers_of others) → x ≡ line_by w (take (min n 4) list) → x ≡ line_of s at
    unfolding when
    line_told n list x t q y =
        let o = told_some (all_numbers others) (length (numbers_of others)) n t in
        (rw (o.1, q, first_few (numbers_of others), by_few w (numbers_of others)) at y) ∙ sym (line_is ∙ rw o.0)

-- how many numbers there are, whether all words are or not
count_ok : (t : Bool) (m n : ℕ) → ◌≡◌ {A = Result ℕ ℕ} (Ok n) (when t (Ok m) (Err m)) → n ≡ m
unfolding when
count_ok true m n h = cc
count_ok false m n h = cc

count_err : (t : Bool) (m n : ℕ) → ◌≡◌ {A = Result ℕ ℕ} (Err n) (when t (Ok m) (Err m)) → n ≡ m
unfolding when
count_err true m n h = cc
count_err false m n h = cc

module _ (s : List ℕ) (at e : ℕ) (p : e ≡ stop_of s at) where
  pub numbers_ok : (n : ℕ) → Ok n ≡ tally (drop 1 (words (slice_range s at e))) → n ≡ length (numbers_at s at)
  unfolding numbers_at
  numbers_ok n h = rw (← p) (count_ok _ _ n h)

  pub numbers_err : (n : ℕ) → Err n ≡ tally (drop 1 (words (slice_range s at e))) → n ≡ length (numbers_at s at)
  unfolding numbers_at
  numbers_err n h = rw (← p) (count_err _ _ n h)

  pub numbers_listed : (t u : List ℕ) → u ≡ write_at t 0 (numbers_of (drop 1 (words (slice_range s at e)))) → u ≡ write_at t 0 (numbers_at s at)
  unfolding numbers_at
  numbers_listed t u h = rw (← p) h
