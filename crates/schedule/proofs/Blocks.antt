-- Laws of the text's definitions: what is read lies within the text, the fuel does not matter, and a turn of the block reader's loop. Assumes nothing.
use Rattle.std.proofs.Common.{◌≡◌, ℕ, zero, suc, ◌+◌, ◌-◌, ◌≤◌, ◌<◌, min, List, [], ◌∷◌, ◌++◌, length, Bool, true, false, not, ◌&&◌, eqb, leb, ltb, Option, Some, None, refl, ap, ◌∙◌, arith}
use Rattle.std.specs.Option.{option_or}
use borrow.Author.Tests.{le-leb, lt-leb, leb-false, ltb-true, ltb-false, not-true, not-false}
use Rattle.basics.specs.Pick.{when}
use Rattle.basics.proofs.Truth.{and_left, and_right}
use Rattle.basics.proofs.Picks.{when_both}
use Rattle.grammar.specs.Line.{after_of, kind_of}
use Rattle.grammar.specs.declared.Kind.{Kind}
use Rattle.grammar.specs.declared.Kind.TheVariants.{Make, Call, Repeat, End}
use Rattle.grammar.proofs.Laws.{after_more, after_within, after_from}
use Rattle.schedule.specs.Text.{Block, lower, and_then, is_end, end_of, single, closed, too_deep, line_with, has_line, block_of, block_at, line_at}
use Rattle.schedule.proofs.Seek.{when_cong, end_of_within}

-- a line at fault, if there is one, lies from lo on and before hi
abbrev pub Among : ℕ → ℕ → Option ℕ → Type 0
Among lo hi None = Unit {0}
Among lo hi (Some f) = (lo ≤ f) × (f < hi)

among_wider : (lo hi lo' hi' : ℕ) (f : Option ℕ) → lo' ≤ lo → hi ≤ hi' → Among lo hi f → Among lo' hi' f
among_wider lo hi lo' hi' None p q h = tt
among_wider lo hi lo' hi' (Some f) p q h = omega arith

pub among_both : (lo mid hi : ℕ) (f g : Option ℕ) → lo ≤ mid → mid ≤ hi → Among lo mid f → Among mid hi g → Among lo hi (lower f g)
among_both lo mid hi None g p q a b = among_wider mid hi lo hi g p (omega arith) b
among_both lo mid hi (Some f) None p q a b = omega arith
among_both lo mid hi (Some f) (Some g) p q a b = omega arith

-- of lines in order the first at fault is the lowest
pub lower_in_order : (lo mid hi : ℕ) (f g : Option ℕ) → Among lo mid f → Among mid hi g → lower f g ≡ option_or f g
lower_in_order lo mid hi None g a b = refl
lower_in_order lo mid hi (Some f) None a b = refl
lower_in_order lo mid hi (Some f) (Some g) a b = let z : min f g ≡ f = omega arith in ap Some z

-- it ends at or after lo and within the text, and its line at fault lies in it
abbrev pub Within : ℕ → List ℕ → Block → Type 0
Within lo s b = (lo ≤ b.next) × (b.next ≤ length s) × Among lo b.next b.fault

abbrev pub Beyond : ℕ → List ℕ → Block → Type 0
Beyond lo s b = (lo < b.next) × (b.next ≤ length s) × Among lo b.next b.fault

module _ (s : List ℕ) (at : ℕ) (h : at < length s) where
  single_beyond : (f : Option ℕ) (l : List ℕ) → Among at (after_of s at) f → Beyond at s (single s at f l)
  single_beyond f l w = (after_more s at h, after_within s at (omega arith), w)

  wrong_beyond : Beyond at s (single s at (Some at) [])
  wrong_beyond = let m = after_more s at h in single_beyond (Some at) [] (omega arith)

  deep_beyond : Beyond at s (too_deep s at)
  deep_beyond =
      let w = after_within s at (omega arith) in
      let e = end_of_within s (after_of s at) 0 w in
      let l : at < after_of s (end_of s (after_of s at) 0) = omega (arith, after_more s at h, e, after_from s (end_of s (after_of s at) 0)) in
      (l, after_within s (end_of s (after_of s at) 0) e.1, omega arith)

  closed_beyond : (n : ℕ) (b : Block) → Within (after_of s at) s b → Beyond at s (closed s at n b)
  closed_beyond n b w =
      when_both (Beyond at s) (ltb b.next (length s)) _ _
      (λ e. let l = ltb-true b.next (length s) e in
      let m = after_more s at h in
      let n = after_more s b.next l in
      (omega arith, after_within s b.next (omega arith), among_wider (after_of s at) b.next at (after_of s b.next) b.fault (omega arith) (omega arith) w.2))
      (λ e. let m = after_more s at h in (omega arith, w.1, omega arith))

  pub line_beyond : (k : Option Kind) (d : ℕ) (b : Block) → Within (after_of s at) s b → Beyond at s (line_with k b s at d)
  line_beyond (Some Call) d b w = single_beyond None (at ∷ []) tt
  line_beyond (Some (Repeat n)) d b w = when_both (Beyond at s) (eqb d 0) _ _ (λ _. deep_beyond) (λ _. closed_beyond n b w)
  line_beyond (Some Make) d b w = wrong_beyond
  line_beyond (Some End) d b w = wrong_beyond
  line_beyond None d b w = wrong_beyond

then_within : (lo : ℕ) (s : List ℕ) (a : Block) (f : ℕ → Block) → Beyond lo s a → ((i : ℕ) → lo < i → i ≤ length s → Within i s (f i)) → Within lo s (and_then a f)
then_within lo s a f o h =
    let w = h a.next o.0 o.1 in
    (omega arith, w.1, among_both lo a.next (f a.next).next a.fault (f a.next).fault (omega arith) w.0 o.2 w.2)

then_cong : (lo : ℕ) (s : List ℕ) (a : Block) (f g : ℕ → Block) → Beyond lo s a → ((i : ℕ) → lo < i → i ≤ length s → f i ≡ g i) → and_then a f ≡ and_then a g
then_cong lo s a f g o e =
    ap (λ (b : Block). record { next = b.next; fault = lower a.fault b.fault; calls = a.calls ++ b.calls }) (e a.next o.0 o.1)

block_within : (k : ℕ) (s : List ℕ) (at d : ℕ) → at ≤ length s → Within at s (block_of k s at d)
unfolding block_of
block_within zero s at d h = (omega arith, h, tt)
block_within (suc k) s at d h =
    when_both (Within at s) (leb (length s) at) _ _ (λ _. (omega arith, h, tt))
    (λ e. when_both (Within at s) (is_end (kind_of s at)) _ _ (λ _. (omega arith, h, tt))
    (λ _. let l = leb-false (length s) at e in
    then_within at s (line_with (kind_of s at) (block_of k s (after_of s at) (d - 1)) s at d) (λ i. block_of k s i d)
    (line_beyond s at l (kind_of s at) d (block_of k s (after_of s at) (d - 1)) (block_within k s (after_of s at) (d - 1) (after_within s at h)))
    (λ i lo hi. block_within k s i d hi)))

-- any fuel that reaches the end reads the same
fuel : (k j : ℕ) (s : List ℕ) (at d : ℕ) → at ≤ length s → length s ≤ at + k → length s ≤ at + j → block_of k s at d ≡ block_of j s at d
unfolding block_of when
fuel zero zero s at d h a b = refl
fuel zero (suc j) s at d h a b = rw (le-leb (length s) at (omega arith))
fuel (suc k) zero s at d h a b = rw (le-leb (length s) at (omega arith))
fuel (suc k) (suc j) s at d h a b =
    when_cong (leb (length s) at) _ _ _ (λ e. when_cong (is_end (kind_of s at)) _ _ _ (λ _.
    let l = leb-false (length s) at e in
    let m = after_more s at l in
    let w = after_within s at h in
    then_cong at s (line_with (kind_of s at) (block_of k s (after_of s at) (d - 1)) s at d) (λ i. block_of k s i d) (λ i. block_of j s i d)
    (line_beyond s at l (kind_of s at) d (block_of k s (after_of s at) (d - 1)) (block_within k s (after_of s at) (d - 1) w))
    (λ i lo hi. fuel k j s i d hi (omega arith) (omega arith))
    ∙ ap (λ (b : Block). and_then (line_with (kind_of s at) b s at d) (λ i. block_of j s i d)) (fuel k j s (after_of s at) (d - 1) w (omega arith) (omega arith))))

pub at_within : (s : List ℕ) (at d : ℕ) → at ≤ length s → Within at s (block_at s at d)
unfolding block_at
at_within s at d h = block_within (length s - at) s at d h

pub line_at_beyond : (s : List ℕ) (at d : ℕ) → at < length s → Beyond at s (line_at s at d)
unfolding line_at
line_at_beyond s at d h = line_beyond s at h (kind_of s at) d (block_at s (after_of s at) (d - 1)) (at_within s (after_of s at) (d - 1) (after_within s at (omega arith)))

abbrev pub stopped : List ℕ → ℕ → Block
stopped s at = record { next = at; fault = None; calls = [] }

module _ (s : List ℕ) (at d : ℕ) where
  block_none : length s ≤ at → block_at s at d ≡ stopped s at
  unfolding block_at block_of
  block_none h = let z : length s - at ≡ 0 = omega arith in rw z

  block_end : at < length s → is_end (kind_of s at) ≡ true → block_at s at d ≡ stopped s at
  unfolding block_at block_of when
  block_end h e = fuel (length s - at) (suc (length s - at)) s at d (omega arith) (omega arith) (omega arith) ∙ rw (lt-leb (length s) at h, e)

  block_step : at < length s → is_end (kind_of s at) ≡ false → block_at s at d ≡ and_then (line_at s at d) (λ i. block_at s i d)
  unfolding block_at line_at block_of when
  block_step h e =
      let m = after_more s at h in
      let w = after_within s at (omega arith) in
      fuel (length s - at) (suc (length s - (at + 1))) s at d (omega arith) (omega arith) (omega arith)
      ∙ (rw (lt-leb (length s) at h, e)
      (then_cong at s (line_with (kind_of s at) (block_of (length s - (at + 1)) s (after_of s at) (d - 1)) s at d) (λ i. block_of (length s - (at + 1)) s i d) (λ i. block_of (length s - i) s i d)
      (line_beyond s at h (kind_of s at) d (block_of (length s - (at + 1)) s (after_of s at) (d - 1)) (block_within (length s - (at + 1)) s (after_of s at) (d - 1) w))
      (λ i lo hi. fuel (length s - (at + 1)) (length s - i) s i d hi (omega arith) (omega arith))
      ∙ ap (λ (b : Block). and_then (line_with (kind_of s at) b s at d) (λ i. block_of (length s - i) s i d)) (fuel (length s - (at + 1)) (length s - after_of s at) s (after_of s at) (d - 1) w (omega arith) (omega arith))))

  pub block_stops : has_line s at ≡ false → block_at s at d ≡ stopped s at
  block_stops e = by (ltb at (length s)) refl e
    where
      by : (t : Bool) → ltb at (length s) ≡ t → t && not (is_end (kind_of s at)) ≡ false → block_at s at d ≡ stopped s at
      by true p e = block_end (ltb-true at (length s) p) (not-false (is_end (kind_of s at)) e)
      by false p e = block_none (ltb-false at (length s) p)

  pub block_goes : has_line s at ≡ true → at < length s
  block_goes e = ltb-true at (length s) (and_left (ltb at (length s)) (not (is_end (kind_of s at))) e)

  pub block_turns : has_line s at ≡ true → block_at s at d ≡ and_then (line_at s at d) (λ i. block_at s i d)
  block_turns e = block_step (block_goes e) (not-true (is_end (kind_of s at)) (and_right (ltb at (length s)) (not (is_end (kind_of s at))) e))
