-- A list's entries marked one after the other: the marks of the first k are the ids among them. Of any list, for whoever walks one and marks what it
-- meets. Assumes nothing.
use mathlib.Core.Path.{◌≡◌, sym, ap, ap₂, ◌∙◌}
use mathlib.Core.Bool.{Bool, true, ◌&&◌, ◌||◌, or_comm}
use mathlib.Core.List.{List}
use Prim.Native.Nat.{ℕ, ◌+◌}
use native.Mathlib.Numerals.{add-one}
use lib.Dec.{eqb}
use lib.ListN.{length, get_or}
use Rattle.basics.specs.Below.{any_below}
use Rattle.basics.specs.Among.{among_first, among}
use Rattle.basics.proofs.Truth.{eqb_same}
use Rattle.idset.specs.declared.IdSet.{IdSet}
use Rattle.idset.specs.Members.{is_id, member_of, set_of, MarksAlone, no_ids, with_of}
use Rattle.idset.proofs.Members.{formed_by, member_set_of, set_of_self, set_of_cong}

-- before the first entry
pub met_none : (l : List ℕ) {s : IdSet} → s ≡ no_ids → s ≡ set_of (among_first l 0)
unfolding no_ids any_below
met_none l e = e

-- the first k entries are met
module _ (l : List ℕ) (k : ℕ) {s : IdSet} (e : s ≡ set_of (among_first l k)) where
  pub met_alone : MarksAlone s
  met_alone = set_of_self (formed_by (among_first l k) e)

  -- an id is marked exactly when it is among them
  pub met_before : (x : ℕ) → is_id x ≡ true → member_of s x ≡ among_first l k x
  met_before x h = ap (λ (t : IdSet). member_of t x) e ∙ member_set_of (among_first l k) x ∙ ap (λ (t : Bool). t && among_first l k x) h

  -- the next one is marked
  pub met_again : {next : IdSet} → next ≡ with_of s (get_or l k 0) → next ≡ set_of (among_first l (k + 1))
  unfolding with_of any_below
  met_again {next} h =
      let x = get_or l k 0 in
      h ∙ set_of_cong {p = λ b. eqb b x || member_of s b} {q = among_first l (k + 1)} (λ b is.
      ap₂ ◌||◌ (eqb_same b x x b sym sym) (met_before b is) ∙ or_comm (eqb x b) (among_first l k b) ∙ ap (λ (n : ℕ). among_first l n b) (sym (add-one k)))

  -- after the last
  pub met_all : k ≡ length l → s ≡ set_of (among l)
  met_all q = e ∙ ap (λ (n : ℕ). set_of (among_first l n)) q
