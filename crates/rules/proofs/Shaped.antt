-- Every call keeps the lengths of the arrays, and a made pool has them. Assumes nothing.
use mathlib.Core.Path.{◌≡◌, refl, ap, ◌∙◌}
use mathlib.Core.Bool.{Bool}
use mathlib.Core.List.{List, []}
use Prim.Native.Nat.{ℕ, ◌<◌}
use native.Mathlib.Decide.{ℕ_discrete}
use native.Mathlib.Omega.{arith}
use lib.ListN.{length, get_or, set, replicate, get_or-replicate, length-set}
use lib.Seq.{get_or-set_same, get_or-set_other}
use Rattle.basics.proofs.Picks.{when_both, unless_both}
use Rattle.basics.proofs.Table.{table_length}
use Rattle.idset.specs.declared.IdSet.{IdSet}
use Rattle.idset.specs.Members.{set_of, no_ids, with_of}
use Rattle.pool.specs.declared.Pool.{Pool}
use Rattle.pool.specs.Answers.{Check, Told, after_check}
use Rattle.pool.specs.Record.{blank}
use Rattle.pool.specs.Begins.{hire_of, fire_of, post_of, give_up_of, take_of, ask_of}
use Rattle.pool.specs.Make.{make_of}
use Rattle.pool.specs.Steps.{puts, ends, line2, line18, line28, line_of, advance_of}
use Rattle.rules.specs.Calls.{hiring, firing, posting, giving_up, taking, asking, advancing, call}
use Rattle.rules.specs.Shaped.{FourWords, Shaped, MadeShaped, KeepsShape}
use Rattle.rules.proofs.Outcomes.{after_both}
use Rattle.rules.proofs.EachLine.{by_line}

set_long : {A : Type 0} {n : ℕ} (l : List A) (i : ℕ) (a : A) → length l ≡ n → length (set l i a) ≡ n
set_long l i a e = length-set l i a ∙ e

-- ---- the words of a set

set_words : (p : ℕ → Bool) → length (set_of p).words ≡ 4
unfolding set_of
set_words p = refl

none_words : length no_ids.words ≡ 4
unfolding no_ids
none_words = set_words _

with_words : (s : IdSet) (a : ℕ) → length (with_of s a).words ≡ 4
unfolding with_of
with_words s a = set_words _

replaced_words : (l : List IdSet) (k : ℕ) (s : IdSet) → length l ≡ 8 → FourWords l → length s.words ≡ 4 → FourWords (set l k s)
replaced_words l k s long four own = record { words = λ j below. at j below (ℕ_discrete j k) }
  where
    at : (j : ℕ) → j < 8 → Dec (j ≡ k) → length (get_or (set l k s) j (record { words = [] })).words ≡ 4
    at j below (yes e) = rw (e, get_or-set_same l k s (record { words = [] }) (omega arith)) own
    at j below (no n) = rw (get_or-set_other l k j s (record { words = [] }) n) (four.words j below)

-- each array: untouched, replaced at one entry, or a table of its length
ruleset shapes = (set_long, table_length, replaced_words, set_words, none_words, with_words)

abbrev Keeps : Told → Type 0
Keeps t = Shaped t.pool

blank_words : FourWords (replicate 8 no_ids)
blank_words = record { words = λ k below. ap (λ (s : IdSet). length s.words) (get_or-replicate 8 k no_ids (record { words = [] }) below) ∙ none_words }

pub blank_shaped : (w g b : ℕ) → Shaped (blank w g b)
blank_shaped w g b =
    record { taken = refl; employers = refl; posted = refl; slot_ids = refl; slot_versions = refl; states = refl; workers = refl; sets = refl; marks = blank_words }

pub made_shaped : MadeShaped
unfolding make_of
made_shaped w g b = unless_both Keeps _ _ _ (λ e. blank_shaped 0 0 0) (λ e. blank_shaped w g b)

module _ (p : Pool) (s : Shaped p) where
  after_shaped : (c : Check) (d : Told) → Keeps d → Keeps (after_check c p d)
  after_shaped c d h = after_both Keeps c p d (λ e. h) (λ n place e. s)

  lines_shaped : (l k : ℕ) → Keeps (line_of l k p)
  unfolding puts ends line2 line18 line28
  lines_shaped l k =
      by_line Keeps l k p (
      record {
        at2 = λ e. unless_both Keeps _ _ _ (λ t. search shapes) (λ t. when_both Keeps _ _ _ (λ t. search shapes) (λ t. search shapes));
        at4 = λ e. search shapes;
        at5 = λ e. search shapes;
        at6 = λ e. search shapes;
        at7 = λ e. search shapes;
        at8 = λ e. search shapes;
        at9 = λ e. search shapes;
        at10 = λ e. search shapes;
        at12 = λ e. search shapes;
        at13 = λ e. search shapes;
        at15 = λ e. search shapes;
        at18 = λ e. unless_both Keeps _ _ _ (λ t. search shapes) (λ t. search shapes);
        at22 = λ e. search shapes;
        at25 = λ e. search shapes;
        at28 = λ e. unless_both Keeps _ _ _ (λ t. search shapes) (λ t. search shapes);
        at31 = λ e. search shapes;
        at32 = λ e. search shapes;
      })

pub call_shaped : KeepsShape
unfolding call hire_of fire_of post_of give_up_of take_of ask_of advance_of
call_shaped (hiring w) p s = after_shaped p s _ _ (search shapes)
call_shaped (firing w g) p s = after_shaped p s _ _ (search shapes)
call_shaped (posting w g b) p s = after_shaped p s _ _ (search shapes)
call_shaped (giving_up w ids) p s = after_shaped p s _ _ (search shapes)
call_shaped (taking b) p s = after_shaped p s _ _ (search shapes)
call_shaped (asking w b) p s = after_shaped p s _ _ s
call_shaped (advancing w out) p s = after_shaped p s _ _ (lines_shaped p s _ _)
