-- Laws of what a call prints: its numbers are the library's, how long it is, and what one part after another leaves on a page. Assumes nothing.
use Prim.Native.Nat.{ℕ, zero, suc, ◌+◌, ◌*◌, ◌/◌, ◌%◌, ◌^◌, ◌≤◌, ◌<◌}
use native.Mathlib.Omega.{arith}
use mathlib.Core.Path.{◌≡◌, refl, ap, sym, ◌∙◌}
use mathlib.Core.List.{List, [], ◌∷◌, ◌++◌}
use lib.Dec.{ltb}
use lib.ListN.{length, get_or, take, length-append, length-take}
use lib.Seq.{drop-drop}
use borrow.Author.Tests.{lt-ltb, le-ltb}
use borrow.Rule.Slice.PartMut.{put_mid}
use Rattle.std.specs.Fmt.{decimal as std_decimal}
use Rattle.std.specs.List.{flat_map}
use Rattle.std.proofs.lemmas.Fmt.{AppendsLastDigit, decimal_from_appends, length-decimal-le}
use Rattle.std.proofs.lemmas.List.{flat_map_more}
use Rattle.std.proofs.lemmas.List.Folds.{length-flat_map-take}
use Rattle.basics.specs.Pick.{when}
use Rattle.basics.proofs.Picks.{when_both}
use Rattle.tables.specs.Write.{write_at}
use Rattle.tables.proofs.Laws.{write_length, write_append, write_parts}
use Rattle.pool.specs.Answers.{Said, accepted, yes, no, none_found, fired, posted, clear, label, guard, back, count, fault, refused}
use Rattle.printed.specs.declared.Page.{Page}
use Rattle.printed.specs.Page.{HasRoom, Wrote}
use Rattle.printed.specs.Printed.{decimal_in, decimal, spaced, in_words, line_for}

-- ---- a number's digits

in_length : (k n : ℕ) → length (decimal_in k n) ≤ k
unfolding decimal_in
in_length zero n = omega arith
in_length (suc k) n =
    when_both (λ (l : List ℕ). length l ≤ suc k) (ltb n 10) ((48 + n) ∷ []) (decimal_in k (n / 10) ++ ((48 + n % 10) ∷ []))
    (λ _. omega arith)
    (λ _. omega (arith, in_length k (n / 10), length-append (decimal_in k (n / 10)) ((48 + n % 10) ∷ [])))

pub decimal_fits : (n : ℕ) → length (decimal n) ≤ 20
unfolding decimal
decimal_fits n = in_length 20 n

in_appends : AppendsLastDigit decimal_in
unfolding decimal_in when
in_appends = record {
  one = λ k n h. rw (lt-ltb n 10 h);
  more = λ k n h. rw (le-ltb n 10 h);
}

-- what the library writes of a number
pub decimal_is : (n : ℕ) → n < 2 ^ 64 → decimal n ≡ std_decimal n
unfolding decimal
decimal_is n h = decimal_from_appends decimal_in in_appends 20 n h (length-decimal-le 20 n (omega arith) (omega arith) h)

-- ---- how long a line is

spaced_fits : (n : ℕ) → length (spaced n) ≤ 21
unfolding spaced
spaced_fits n = omega (arith, decimal_fits n)

all_fits : (l : List ℕ) → length (flat_map spaced l) ≤ 21 * length l
all_fits [] = omega arith
all_fits (n ∷ l) = omega (arith, length-append (spaced n) (flat_map spaced l), spaced_fits n, all_fits l)

words_fit : (a : Said) (l : List ℕ) → length l ≤ 256 → length (in_words a l) ≤ 5400
unfolding in_words
words_fit accepted l h = omega arith
words_fit yes l h = omega arith
words_fit no l h = omega arith
words_fit none_found l h = omega arith
words_fit fired l h = omega arith
words_fit posted l h = omega arith
words_fit clear l h = omega arith
words_fit (label n) l h = omega (arith, spaced_fits n)
words_fit (guard n) l h = omega (arith, spaced_fits n)
words_fit (back n) l h = omega (arith, all_fits (take n l), length-take n l)
words_fit (count n) l h = omega (arith, spaced_fits n)
words_fit (fault b n) l h = omega (arith, length-append (spaced b) (spaced n), spaced_fits b, spaced_fits n)
words_fit (refused n k) l h = omega (arith, length-append (spaced n) (spaced k), spaced_fits n, spaced_fits k)

-- a buffer of 5500 bytes has room for every line
pub line_fits : (number : ℕ) (a : Said) (l : List ℕ) → length l ≤ 256 → length (line_for number a l) ≤ 5500
unfolding line_for
line_fits number a l h =
    omega (arith, length-append (decimal number) (in_words a l ++ (10 ∷ [])), length-append (in_words a l) (10 ∷ []), decimal_fits number, words_fit a l h)

-- ---- one part after another on a page

pub wrote_none : (p : Page) → Wrote p p []
unfolding write_at
wrote_none p = record { same_reference = refl; at = omega arith; bytes = refl }

pub wrote_both : {p q r : Page} {a b : List ℕ} → Wrote p q a → Wrote q r b → Wrote p r (a ++ b)
wrote_both {p} {q} {r} {a} {b} v w = record {
  same_reference = w.same_reference ∙ v.same_reference;
  at = omega (arith, w.at, v.at, length-append a b);
  bytes = w.bytes ∙ rw (v.bytes, v.at) (sym (write_append p.bytes.now p.at a b));
}

pub room_front : {p : Page} (a b : List ℕ) → HasRoom p (a ++ b) → HasRoom p a
room_front a b h = record { fits = omega (arith, h.fits, length-append a b) }

pub room_behind : {p q : Page} {a b : List ℕ} → Wrote p q a → HasRoom p (a ++ b) → HasRoom q b
room_behind {p} {q} {a} {b} v h = record { fits = omega (arith, h.fits, v.at, ap length v.bytes, write_length p.bytes.now p.at a, length-append a b) }

-- a part of a list that becomes l
pub part_becomes : (t l m : List ℕ) (at k : ℕ) → at + length l ≤ length t → k ≡ length l → m ≡ l → put_mid at k t m ≡ write_at t at l
part_becomes t l m at k h e f = rw (e, f, write_parts t at l h, drop-drop)

-- ---- numbers, each after a space

pub spaced_room : {p q : Page} (xs : List ℕ) (i x : ℕ) → i < length xs → x ≡ get_or xs i x → Wrote p q (flat_map spaced (take i xs)) → HasRoom p (flat_map spaced xs) → HasRoom q (spaced x)
spaced_room {p} {q} xs i x l e v h = record {
  fits = omega (arith, h.fits, v.at, ap length v.bytes, write_length p.bytes.now p.at (flat_map spaced (take i xs)), length-flat_map-take spaced xs i x l, ap (λ (y : ℕ). length (spaced y)) e);
}

pub spaced_more : {p q r : Page} (xs : List ℕ) (x : ℕ) → Wrote p q (flat_map spaced xs) → Wrote q r (spaced x) → Wrote p r (flat_map spaced (xs ++ x ∷ []))
spaced_more xs x v w = rw (← flat_map_more spaced [] xs x) (wrote_both v w)

-- ---- the whole buffer, from its start on

pub room_from_start : {p : Page} {t l : List ℕ} → p.at ≡ 0 → p.bytes.now ≡ t → length l ≤ length t → HasRoom p l
room_from_start start lent h = record { fits = rw (start, lent) (omega arith) }

pub written_from_start : {p q : Page} {t l : List ℕ} → p.at ≡ 0 → p.bytes.now ≡ t → Wrote p q l → (q.at ≡ length l) × (q.bytes.now ≡ write_at t 0 l)
written_from_start start lent w = (omega (arith, w.at), rw (start, lent) at w.bytes)
