-- Truth values: what a chain of tests tells, and two tests that agree. Assumes nothing.
use mathlib.Core.Path.{◌≡◌, refl, sym, ◌∙◌}
use mathlib.Core.Bool.{Bool, true, false, ◌&&◌, ◌||◌, false≢true, and_assoc, and_comm}
use mathlib.Core.List.{List, [], ◌∷◌}
use Prim.Native.Nat.{ℕ, ◌≤◌, ◌<◌}
use native.Mathlib.Nat.{lt_of_not-le}
use native.Mathlib.Decide.{ℕ_discrete, dec_le}
use lib.Dec.{eqb}
use borrow.Author.Tests.{eq-eqb, ne_eqb}

pub and_left : (a b : Bool) → (a && b) ≡ true → a ≡ true
and_left true b h = refl
and_left false b h = h

pub and_right : (a b : Bool) → (a && b) ≡ true → b ≡ true
and_right true b h = h
and_right false b h = absurd (false≢true h)

pub or_cases : (a b : Bool) {P : Type 0} → (a || b) ≡ true → (a ≡ true → P) → (b ≡ true → P) → P
or_cases true b h f g = f refl
or_cases false b h f g = g h

-- the second test counts only where the first holds
pub and_cong : (x : Bool) {y z : Bool} → (x ≡ true → y ≡ z) → (x && y) ≡ (x && z)
and_cong true f = f refl
and_cong false f = refl

pub and_swap : (x y z : Bool) → (x && (y && z)) ≡ (y && (x && z))
and_swap true true z = refl
and_swap true false z = refl
and_swap false true z = refl
and_swap false false z = refl

-- a chain of tests in any order: `simp reorder`
pub ruleset reorder = (and_assoc, and_comm, and_swap)

-- what is not true is false
pub is_false : (x : Bool) → (x ≡ true → ⊥) → x ≡ false
is_false true f = absurd (f refl)
is_false false f = refl

-- two tests that imply each other
pub both : (x y : Bool) → (x ≡ true → y ≡ true) → (y ≡ true → x ≡ true) → x ≡ y
both true y f g = sym (f refl)
both false true f g = g refl
both false false f g = refl

-- two comparisons that ask the same
pub eqb_same : (a b c d : ℕ) → (a ≡ b → c ≡ d) → (c ≡ d → a ≡ b) → eqb a b ≡ eqb c d
eqb_same a b c d f g = go (ℕ_discrete a b)
  where
    go : Dec (a ≡ b) → eqb a b ≡ eqb c d
    go (yes e) = eq-eqb a b e ∙ sym (eq-eqb c d (f e))
    go (no n) = ne_eqb a b n ∙ sym (ne_eqb c d (λ e. n (g e)))

-- by which of two numbers is the larger
pub by_order : (a b : ℕ) {P : Type 0} → (a ≤ b → P) → (b < a → P) → P
by_order a b {P} f g = go (dec_le a b)
  where
    go : Dec (a ≤ b) → P
    go (yes l) = f l
    go (no n) = g (lt_of_not-le n)

-- A chain of tests as code and contracts write it, `a && b && c`, is `chain a (b ∷ c ∷ [])` by computation.
abbrev pub chain : Bool → List Bool → Bool
chain a [] = a
chain a (b ∷ l) = chain (a && b) l

abbrev pub Each : Bool → List Bool → Type 0
Each a [] = a ≡ true
Each a (b ∷ l) = (a ≡ true) × Each b l

chain_first : (a : Bool) (l : List Bool) → chain a l ≡ true → a ≡ true
chain_first a [] h = h
chain_first a (b ∷ l) h = and_left a b (chain_first (a && b) l h)

chain_rest : (a b : Bool) (l : List Bool) → chain (a && b) l ≡ true → chain b l ≡ true
chain_rest true b l h = h
chain_rest false b l h = absurd (false≢true (chain_first false l h))

-- each test of a chain that held
pub each : (a : Bool) (l : List Bool) → chain a l ≡ true → Each a l
each a [] h = h
each a (b ∷ l) h = (chain_first a (b ∷ l) h, each b l (chain_rest a b l h))

-- a chain of tests that each hold
pub chained : (a : Bool) (l : List Bool) → Each a l → chain a l ≡ true
chained a [] h = h
chained true (b ∷ l) h = chained b l h.1
chained false (b ∷ l) h = absurd (false≢true h.0)
