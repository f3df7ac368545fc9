-- The laws of the audit, one turn of its search each. Assumes nothing.
use mathlib.Core.Path.{◌≡◌, refl, sym, ap, ◌∙◌}
use Prim.Native.Nat.{ℕ, suc, ◌+◌, ◌-◌, ◌≤◌, ◌<◌}
use native.Mathlib.Omega.{arith}
use native.Mathlib.Numerals.{add-one}
use lib.Dec.{eqb}
use mir.Val.{bool_byte}
use borrow.Author.Tests.{eq-eqb, ne_eqb}
use Rattle.basics.specs.Below.{count_below}
use Rattle.basics.proofs.Count.{byte_one}
use Rattle.basics.proofs.Picks.{when_yes, when_no}
use Rattle.idset.specs.Members.{member_of}
use Rattle.pool.specs.declared.Pool.{Pool}
use Rattle.pool.specs.Answers.{Said, clear, fault}
use Rattle.pool.specs.Record.{slot_at, state_of, set_at}
use Rattle.pool.specs.Questions.{places_of, wanted_of, audit_from}

-- the two kinds of places, of which k are asked
abbrev pub slots_below : Pool → ℕ → ℕ → ℕ
slots_below p id k = count_below k (λ i. eqb (slot_at p i).id id)

abbrev pub sets_below : Pool → ℕ → ℕ → ℕ
sets_below p id k = count_below k (λ j. member_of (set_at p j) id)

-- the audit of the ids from id to B
abbrev pub rest : Pool → ℕ → Said
rest p id = audit_from p (p.b + 1 - id) id

module _ (p : Pool) where
  pub rest_all : rest p 1 ≡ audit_from p p.b 1
  rest_all = ap (λ (n : ℕ). audit_from p n 1) (omega arith)

  pub rest_none : (id : ℕ) (s : Said) → p.b < id → rest p id ≡ s → clear ≡ s
  unfolding audit_from
  rest_none id s l h = let none : p.b + 1 - id ≡ 0 = omega arith in rw none at h

  -- all places of an id up to B are asked
  module _ (id slots sets k : ℕ) (s : Said) (h : rest p id ≡ s) (l : id ≤ p.b)
      (f : slots ≡ slots_below p id 32) (g : sets ≡ sets_below p id k) (most : k ≤ 8) (least : 8 ≤ k) where
    places : places_of p id ≡ slots + sets
    unfolding places_of
    places = let q : k ≡ 8 = omega arith in rw (f, g, q)

    one_more : p.b + 1 - id ≡ suc (p.b - id)
    one_more = omega arith

    -- the places are as the state wants
    pub rest_on : slots + sets ≡ bool_byte (eqb (state_of p id) 2) → rest p (id + 1) ≡ s
    unfolding audit_from
    rest_on e =
        let n : p.b + 1 - (id + 1) ≡ p.b - id = omega arith in
        rw (n, add-one)
        (when_yes (eqb (places_of p id) (wanted_of p id)) (audit_from p (p.b - id) (suc id)) _ _
        (eq-eqb (places_of p id) (wanted_of p id) (places ∙ e ∙ byte_one (eqb (state_of p id) 2))) refl
        ∙ (rw one_more at h))

    -- they are not
    pub rest_fault : (slots + sets ≡ bool_byte (eqb (state_of p id) 2) → ⊥) → fault id (slots + sets) ≡ s
    unfolding audit_from
    rest_fault n =
        when_no (eqb (places_of p id) (wanted_of p id)) (fault id (slots + sets)) _ _
        (ne_eqb (places_of p id) (wanted_of p id) (λ e. n (sym places ∙ e ∙ sym (byte_one (eqb (state_of p id) 2)))))
        (ap (fault id) (sym places))
        ∙ (rw one_more at h)
