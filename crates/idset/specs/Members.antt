-- Membership of an id in a set, and the sets, counts and searches that the contracts state by it.
use Rattle.std.specs.Prelude.{◌≡◌, Bool, false, not, ◌&&◌, ◌||◌, List, [], ◌∷◌, ℕ, zero, suc, ◌+◌, ◌-◌, ◌*◌, ◌/◌, ◌%◌, ◌^◌, max, get_or, eqb, leb, Option, Some, None}
use Rattle.basics.specs.Pick.{when}
use Rattle.basics.specs.Below.{all_below, count_below, one}
use Rattle.idset.specs.declared.IdSet.{IdSet}
use Rattle.idset.specs.declared.Marks.{Marks}

-- binary digit k of n, the lowest at k = 0
unfoldable pub digit : ℕ → ℕ → Bool
digit n k = eqb (n / 2 ^ k % 2) 1

-- the ids that a set can hold: 0 is no buffer
unfoldable pub is_id : ℕ → Bool
is_id b = leb 1 b && leb b 256

-- the set that four words are
abbrev pub set_in : List ℕ → IdSet
set_in words = record { words = words }

-- b is a member of s: its mark is set
unfoldable pub member_of : IdSet → ℕ → Bool
member_of s b = is_id b && digit (get_or s.words ((b - 1) / 64) 0) ((b - 1) % 64)

-- the word that has b's mark, and the mark's place in it
unfoldable pub place_of : ℕ → Option (ℕ × ℕ)
place_of b = when (is_id b) (Some ((b - 1) / 64, (b - 1) % 64)) None

-- ---- sets

-- the number whose n lowest digits are p 0, p 1, ..
unfoldable pub pack : (ℕ → Bool) → ℕ → ℕ
pack p zero = 0
pack p (suc n) = one (p 0) + 2 * pack (λ k. p (suc k)) n

-- the word of the 64 ids that follow id base
unfoldable pub word_of : (ℕ → Bool) → ℕ → ℕ
word_of p base = pack (λ k. p (suc (base + k))) 64

-- the set of the ids that p holds of
unfoldable pub set_of : (ℕ → Bool) → IdSet
set_of p = record { words = word_of p 0 ∷ word_of p 64 ∷ word_of p 128 ∷ word_of p 192 ∷ [] }

-- s is nothing but its members' marks: four words of 64 digits, as every array of the code is; behind a reference no contract knows it
abbrev pub MarksAlone : IdSet → Type 0
MarksAlone s = s ≡ set_of (member_of s)

unfoldable pub no_ids : IdSet
no_ids = set_of (λ b. false)

-- s and a; s but for a
unfoldable pub with_of : IdSet → ℕ → IdSet
with_of s a = set_of (λ b. eqb b a || member_of s b)

unfoldable pub without_of : IdSet → ℕ → IdSet
without_of s a = set_of (λ b. not (eqb b a) && member_of s b)

-- the larger of the words at i
abbrev pub larger_at : IdSet → IdSet → ℕ → ℕ
larger_at s t i = max (get_or s.words i 0) (get_or t.words i 0)

-- word by word the larger of the two: it is within a limit exactly when both are
unfoldable pub larger_of : IdSet → IdSet → IdSet
larger_of s t = record { words = larger_at s t 0 ∷ larger_at s t 1 ∷ larger_at s t 2 ∷ larger_at s t 3 ∷ [] }

-- ---- questions

-- how many of the ids 1 to 256 are members
unfoldable pub size_of : IdSet → ℕ
size_of s = count_below 256 (λ k. member_of s (suc k))

-- the first of the places j, j + 1, .., j + n - 1 of word w that is marked
unfoldable pub first_mark : ℕ → ℕ → ℕ → Option ℕ
first_mark w zero j = None
first_mark w (suc n) j = when (digit w j) (Some j) (first_mark w n (suc j))

-- the first marked place of word w at j or above
unfoldable pub next_mark : ℕ → ℕ → Option ℕ
next_mark w j = first_mark w (64 - j) j

-- every member is at most a
unfoldable pub within_of : IdSet → ℕ → Bool
within_of s a = all_below 256 (λ k. not (member_of s (suc k)) || leb (suc k) a)

-- those of b, b + 1, .., b + n - 1 that p holds of, ascending
unfoldable pub ids_of : (ℕ → Bool) → ℕ → ℕ → List ℕ
ids_of p zero b = []
ids_of p (suc n) b = when (p b) (b ∷ ids_of p n (suc b)) (ids_of p n (suc b))

-- the marked places of word w at j or above, ascending; those that a walk has not come to yet
unfoldable pub marks_from : ℕ → ℕ → List ℕ
marks_from w j = ids_of (digit w) (64 - j) j

abbrev pub marks_left : Marks → List ℕ
marks_left m = marks_from m.word m.from

-- the members above a, and all members, ascending
unfoldable pub above : IdSet → ℕ → List ℕ
above s a = ids_of (member_of s) (256 - a) (suc a)

unfoldable pub members_of : IdSet → List ℕ
members_of s = above s 0
