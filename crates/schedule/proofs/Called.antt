-- What is known of a text that is read as calls. Assumes nothing.
use Prim.Native.Nat.{ℕ, zero, suc, ◌-◌, ◌≤◌}
use native.Mathlib.Omega.{arith}
use mathlib.Core.Path.{◌≡◌, refl, ap, sym, subst}
use mathlib.Core.List.{List, [], ◌∷◌, ◌++◌}
use mathlib.Core.Bool.{true}
use lib.ListN.{length}
use lib.Dec.{eqb, leb, ltb}
use borrow.Author.Tests.{leb-false, ltb-false}
use Rattle.std.specs.Prelude.{Option, Some, None, Result, Ok, Err}
use Rattle.basics.proofs.Picks.{when_both}
use Rattle.grammar.specs.Line.{after_of, kind_of}
use Rattle.grammar.specs.declared.Kind.{Kind}
use Rattle.grammar.specs.declared.Kind.TheVariants.{Make, Call, Repeat, End}
use Rattle.std.specs.List.{repeat}
use Rattle.tables.proofs.Laws.{write_length}
use Rattle.schedule.specs.Text.{Block, is_end, line_with, block_of, block_at, lower}
use Rattle.schedule.specs.declared.Unread.{Unread}
use Rattle.schedule.specs.declared.Unread.TheVariants.{TooLong, BadLine}
use Rattle.schedule.specs.Read.{Reading, too_long, bad_line, calls, is_make, limited, judged_by, stray_end, judged, read_of, answered, filled, CallsAt, Faultless}

calls_join : (s a b : List ℕ) → CallsAt s a → CallsAt s b → CallsAt s (a ++ b)
unfolding CallsAt
calls_join s [] b p q = q
calls_join s (at ∷ a) b p q = (p.0, p.1, calls_join s a b p.2 q)

calls_repeat : (s : List ℕ) (n : ℕ) (l : List ℕ) → CallsAt s l → CallsAt s (repeat n l)
unfolding CallsAt
calls_repeat s zero l p = tt
calls_repeat s (suc n) l p = calls_join s l (repeat n l) p (calls_repeat s n l p)

no_calls : (s : List ℕ) → CallsAt s []
unfolding CallsAt
no_calls s = tt

one_call : (s : List ℕ) (at : ℕ) → at ≤ length s → kind_of s at ≡ Some Call → CallsAt s (at ∷ [])
unfolding CallsAt
one_call s at h e = (h, e, tt)

abbrev Called : List ℕ → Block → Type 0
Called s b = CallsAt s b.calls

line_called : (s : List ℕ) (at d : ℕ) (k : Option Kind) (b : Block) → at ≤ length s → kind_of s at ≡ k → Called s b → Called s (line_with k b s at d)
line_called s at d (Some Call) b h e p = one_call s at h e
line_called s at d (Some (Repeat n)) b h e p =
    when_both (Called s) (eqb d 0) _ _ (λ _. no_calls s)
    (λ _. when_both (Called s) (ltb b.next (length s)) _ _ (λ _. calls_repeat s n b.calls p) (λ _. no_calls s))
line_called s at d (Some Make) b h e p = no_calls s
line_called s at d (Some End) b h e p = no_calls s
line_called s at d None b h e p = no_calls s

block_called : (k : ℕ) (s : List ℕ) (at d : ℕ) → Called s (block_of k s at d)
unfolding block_of
block_called zero s at d = no_calls s
block_called (suc k) s at d =
    when_both (Called s) (leb (length s) at) _ _ (λ _. no_calls s)
    (λ e. when_both (Called s) (is_end (kind_of s at)) _ _ (λ _. no_calls s)
    (λ _. let line = line_with (kind_of s at) (block_of k s (after_of s at) (d - 1)) s at d in
    calls_join s line.calls (block_of k s line.next d).calls
    (line_called s at d (kind_of s at) (block_of k s (after_of s at) (d - 1)) (omega (arith, leb-false (length s) at e)) refl (block_called k s (after_of s at) (d - 1)))
    (block_called k s line.next d)))

is_make_lem : (k : Option Kind) → is_make k ≡ true → k ≡ Some Make
is_make_lem None e = cc
is_make_lem (Some Make) e = refl
is_make_lem (Some Call) e = cc
is_make_lem (Some (Repeat n)) e = cc
is_make_lem (Some End) e = cc

abbrev Reads : List ℕ → Reading → Type 0
Reads s too_long = Unit {0}
Reads s (bad_line n) = Unit {0}
Reads s (calls places) = Faultless s places

limits : (s : List ℕ) (b : Block) → length s ≤ 16384 → kind_of s 0 ≡ Some Make → Called s b → Reads s (limited (0 ∷ b.calls))
limits s b short make p =
    when_both (Reads s) (ltb 100000 (suc (length b.calls))) too_long (calls (0 ∷ b.calls)) (λ _. tt)
    (λ few. record { short = short; making = make; rest = b.calls; first = refl; others = p; few = ltb-false 100000 (suc (length b.calls)) few })

judges : (s : List ℕ) (b : Block) → length s ≤ 16384 → kind_of s 0 ≡ Some Make → Called s b → Reads s (judged s b)
judges s b short make p = by (lower b.fault (stray_end s b))
  where
    by : (o : Option ℕ) → Reads s (judged_by o s (0 ∷ b.calls))
    by None = limits s b short make p
    by (Some f) = tt

at_called : (s : List ℕ) (at d : ℕ) → Called s (block_at s at d)
unfolding block_at
at_called s at d = block_called (length s - at) s at d

reads : (s : List ℕ) → Reads s (read_of s)
unfolding read_of
reads s =
    when_both (Reads s) (ltb 16384 (length s)) too_long _ (λ _. tt)
    (λ short. when_both (Reads s) (is_make (kind_of s 0)) (judged s (block_at s (after_of s 0) 4)) (bad_line 1)
    (λ make. judges s (block_at s (after_of s 0) 4) (ltb-false 16384 (length s) short) (is_make_lem (kind_of s 0) make) (at_called s (after_of s 0) 4))
    (λ _. tt))

pub faultless : (s places : List ℕ) → read_of s ≡ calls places → Faultless s places
faultless s places e = subst (Reads s) e (reads s)

-- what the code answers of such a text
abbrev Few : Result ℕ Unread → Type 0
Few (Err e) = Unit {0}
Few (Ok n) = n ≤ 100000

few_told : (s : List ℕ) (x : Reading) → Reads s x → Few (answered x)
few_told s too_long h = tt
few_told s (bad_line n) h = tt
few_told s (calls places) h = h.few

filled_length : (x : Reading) (t : List ℕ) → length (filled x t) ≡ length t
filled_length too_long t = refl
filled_length (bad_line n) t = refl
filled_length (calls places) t = write_length t 0 places

-- n calls have their places in the table
pub few_calls : (s t u : List ℕ) (n : ℕ) → Ok n ≡ answered (read_of s) → u ≡ filled (read_of s) t → length t ≡ 100000 → n ≤ length u
few_calls s t u n e f h =
    let few : n ≤ 100000 = subst Few (sym e) (few_told s (read_of s) (reads s)) in
    omega (arith, few, ap length f, filled_length (read_of s) t, h)

-- what the answer tells of the reading
abbrev pub ReadAs : Reading → Result ℕ Unread → Type 0
ReadAs x (Err TooLong) = x ≡ too_long
ReadAs x (Err (BadLine l)) = x ≡ bad_line l
ReadAs x (Ok n) = (places : List ℕ) × ((x ≡ calls places) × (n ≡ length places))

as_answered : (x : Reading) → ReadAs x (answered x)
as_answered too_long = refl
as_answered (bad_line l) = refl
as_answered (calls places) = (places, (refl, refl))

pub read_as : (s : List ℕ) (r : Result ℕ Unread) → r ≡ answered (read_of s) → ReadAs (read_of s) r
read_as s r e = subst (ReadAs (read_of s)) (sym e) (as_answered (read_of s))
