-- What the lawful lines are known for: a repeat's number is from 1 to 1,000, a give-up has at least a worker, and a line has no more numbers than half its
-- bytes. Assumes nothing.
use Rattle.std.proofs.Common.{◌≡◌, ℕ, suc, ◌+◌, ◌*◌, ◌≤◌, List, [], ◌∷◌, length, get_or, drop, Bool, true, false, ◌&&◌, cond, eqb, leb, codes, Option, Some, None, refl, subst, ◌∙◌, arith, length-drop, length-take}
use Rattle.std.specs.List.{onto_first, slice_range}
use Rattle.std.specs.Option.{option_map}
use Rattle.std.specs.Str.{bytes_eq}
use borrow.Author.Tests.{leb-true}
use Rattle.basics.proofs.Truth.{and_left, and_right}
use Rattle.basics.specs.Pick.{when}
use Rattle.basics.proofs.Picks.{when_both}
use Rattle.grammar.specs.declared.Line.{Line}
use Rattle.grammar.specs.declared.Line.TheVariants.{Make, Take, Hire, Fire, Post, Give, Ask, Step, Repeat, End}
use Rattle.grammar.specs.declared.Kind.{Kind}
use Rattle.grammar.specs.declared.Kind.TheVariants as are
use Rattle.grammar.specs.Words.{words, unpadded, number_of, before, numbers_of, all_numbers}
use Rattle.grammar.specs.Line.{stop_of, line_by, line_of_words, line_of, words_at, numbers_at, kind, kind_of}

-- a line with n numbers
abbrev Lawful : ℕ → Option Line → Type 0
Lawful n None = Unit {0}
Lawful n (Some (Repeat k)) = (1 ≤ k) × (k ≤ 1000)
Lawful n (Some (Give w)) = 1 ≤ n
Lawful n (Some (Make w g b)) = Unit {0}
Lawful n (Some (Take b)) = Unit {0}
Lawful n (Some (Hire w)) = Unit {0}
Lawful n (Some (Fire w g)) = Unit {0}
Lawful n (Some (Post w g b)) = Unit {0}
Lawful n (Some (Ask w b)) = Unit {0}
Lawful n (Some (Step w)) = Unit {0}
Lawful n (Some End) = Unit {0}

either : (n : ℕ) (t : Bool) (x y : Option Line) → (t ≡ true → Lawful n x) → (t ≡ false → Lawful n y) → Lawful n (cond t x y)
either n true x y f g = f refl
either n false x y f g = g refl

-- a line of any number that asks for nothing more
plain : (n : ℕ) (t : Bool) (l : Line) → Lawful n (Some l) → Lawful n (cond t (Some l) None)
plain n t l h = either n t (Some l) None (λ _. h) (λ _. tt)

lawful_by : (w ns : List ℕ) → Lawful (length ns) (line_by w ns)
lawful_by w ns =
    let n = length ns in
    either n (bytes_eq w (codes "make")) _ _ (λ _. plain n (eqb n 3) _ tt)
    (λ _. either n (bytes_eq w (codes "take")) _ _ (λ _. plain n (eqb n 1) _ tt)
    (λ _. either n (bytes_eq w (codes "hire")) _ _ (λ _. plain n (eqb n 1) _ tt)
    (λ _. either n (bytes_eq w (codes "fire")) _ _ (λ _. plain n (eqb n 2) _ tt)
    (λ _. either n (bytes_eq w (codes "post")) _ _ (λ _. plain n (eqb n 3) _ tt)
    (λ _. either n (bytes_eq w (codes "give")) _ _ (λ _. either n (leb 1 n) _ _ (λ l. leb-true 1 n l) (λ _. tt))
    (λ _. either n (bytes_eq w (codes "ask")) _ _ (λ _. plain n (eqb n 2) _ tt)
    (λ _. either n (bytes_eq w (codes "step")) _ _ (λ _. plain n (eqb n 1) _ tt)
    (λ _. either n (bytes_eq w (codes "repeat")) _ _
    (λ _. either n (leb 1 (get_or ns 0 0) && leb (get_or ns 0 0) 1000) _ _ (λ l. plain n (eqb n 1) _ (within (get_or ns 0 0) l)) (λ _. tt))
    (λ _. either n (bytes_eq w (codes "end")) _ _ (λ _. plain n (eqb n 0) _ tt) (λ _. tt))))))))))
  where
    within : (a : ℕ) → leb 1 a && leb a 1000 ≡ true → (1 ≤ a) × (a ≤ 1000)
    within a l = (leb-true 1 a (and_left (leb 1 a) (leb a 1000) l), leb-true a 1000 (and_right (leb 1 a) (leb a 1000) l))

lawful_words : (ws : List (List ℕ)) → Lawful (length (numbers_of (drop 1 ws))) (line_of_words ws)
lawful_words [] = tt
lawful_words (w ∷ ws) = when_both (Lawful (length (numbers_of ws))) (all_numbers ws) (line_by w (numbers_of ws)) None (λ _. lawful_by w (numbers_of ws)) (λ _. tt)

lawful : (s : List ℕ) (at : ℕ) → Lawful (length (numbers_at s at)) (line_of s at)
unfolding line_of numbers_at
lawful s at = when_both (Lawful (length (numbers_of (drop 1 (words_at s at))))) (leb (length s) (stop_of s at)) None _ (λ _. tt) (λ _. lawful_words (words_at s at))

pub give_some : (s : List ℕ) (at w : ℕ) → line_of s at ≡ Some (Give w) → 1 ≤ length (numbers_at s at)
give_some s at w e = subst (Lawful (length (numbers_at s at))) e (lawful s at)

Small : Option Kind → Type 0
Small None = Unit {0}
Small (Some (are.Repeat n)) = (1 ≤ n) × (n ≤ 1000)
Small (Some are.Make) = Unit {0}
Small (Some are.Call) = Unit {0}
Small (Some are.End) = Unit {0}

small : (n : ℕ) (l : Option Line) → Lawful n l → Small (option_map kind l)
unfolding Small
small n None h = tt
small n (Some (Repeat k)) h = h
small n (Some (Make w g b)) h = tt
small n (Some (Take b)) h = tt
small n (Some (Hire w)) h = tt
small n (Some (Fire w g)) h = tt
small n (Some (Post w g b)) h = tt
small n (Some (Give w)) h = tt
small n (Some (Ask w b)) h = tt
small n (Some (Step w)) h = tt
small n (Some End) h = tt

pub repeat_range : (s : List ℕ) (at n : ℕ) → kind_of s at ≡ Some (are.Repeat n) → (1 ≤ n) × (n ≤ 1000)
unfolding kind_of Small
repeat_range s at n e = subst Small e (small (length (numbers_at s at)) (line_of s at) (lawful s at))

-- the bytes of some words, with one for what stands between them
parted : List (List ℕ) → ℕ
parted [] = 0
parted (w ∷ ws) = length w + 1 + parted ws

parted_first : (b : ℕ) (ws : List (List ℕ)) (n : ℕ) → parted ws ≡ n + 1 → parted (onto_first b ws) ≡ suc n + 1
unfolding parted
parted_first b [] n h = absurd (omega (arith, h))
parted_first b (w ∷ ws) n h = omega (arith, h)

parted_split : (b : ℕ) (ws : List (List ℕ)) (n : ℕ) (t : Bool) → parted ws ≡ n + 1 → parted (cond t ([] ∷ ws) (onto_first b ws)) ≡ suc n + 1
unfolding parted
parted_split b ws n true h = omega (arith, h)
parted_split b ws n false h = parted_first b ws n h

parted_words : (l : List ℕ) → parted (words l) ≡ length l + 1
unfolding parted words
parted_words [] = refl
parted_words (b ∷ l) = parted_split b (words l) (length l) (eqb b 32) (parted_words l)

cons_parted : (w : List ℕ) (ws : List (List ℕ)) → length w + 1 + parted ws ≡ parted (w ∷ ws)
unfolding parted
cons_parted w ws = refl

empty_word : number_of [] ≡ None
unfolding number_of unpadded when
empty_word = refl

-- a number has at least one byte
numbers_parted : (ws : List (List ℕ)) → 2 * length (numbers_of ws) ≤ parted ws
unfolding numbers_of parted
numbers_parted [] = omega arith
numbers_parted ([] ∷ ws) = rw empty_word (omega arith)
numbers_parted ((b ∷ w) ∷ ws) = some (number_of (b ∷ w)) (numbers_parted ws)
  where
    some : (n : Option ℕ) → 2 * length (numbers_of ws) ≤ parted ws → 2 * length (before n (numbers_of ws)) ≤ suc (length w) + 1 + parted ws
    some (Some v) h = omega (arith, h)
    some None h = omega arith

pub numbers_few : (s : List ℕ) (at : ℕ) → at ≤ length s → 2 * length (numbers_at s at) ≤ length s
unfolding numbers_at numbers_of
numbers_few s at h = few (words_at s at) (parted_words (slice_range s at (stop_of s at)))
  where
    few : (ws : List (List ℕ)) → parted ws ≡ length (slice_range s at (stop_of s at)) + 1 → 2 * length (numbers_of (drop 1 ws)) ≤ length s
    few [] p = omega arith
    few (w ∷ ws) p =
        let q = cons_parted w ws ∙ p in
        let m = numbers_parted ws in
        let long : length (slice_range s at (stop_of s at)) ≤ length s = simp (length-take, length-drop) (omega arith) in
        omega arith
