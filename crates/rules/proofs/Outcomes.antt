-- An outcome, by what the check before it found, and back. Assumes nothing.
use mathlib.Core.Path.{◌≡◌, refl, sym}
use Prim.Native.Nat.{ℕ}
use native.Mathlib.Omega.{arith}
use Rattle.pool.specs.declared.Pool.{Pool}
use Rattle.pool.specs.Answers.{Check, fine, refuse, first, Told, answering, accepted, refused, after_check}
use Rattle.pool.proofs.Firsts.{never}

-- two constructors are never equal: of such an equation `cc` makes this one
pub apart : ◌≡◌ {A = ℕ} 0 1 → ⊥
apart z = omega arith

pub accepted_apart : {n place : ℕ} → accepted ≡ refused n place → ⊥
accepted_apart h = apart (cc)

pub fine_apart : {n place : ℕ} → fine ≡ refuse n place → ⊥
fine_apart h = never (sym h)

pub same_number : {m at n place : ℕ} → refuse m at ≡ refuse n place → m ≡ n
same_number h = cc

-- ---- from the check to the outcome

pub after_both : (P : Told → Type 0) (c : Check) (p : Pool) (d : Told) → (c ≡ fine → P d)
    → ((n place : ℕ) → c ≡ refuse n place → P (answering (refused n place) p)) → P (after_check c p d)
unfolding after_check
after_both P fine p d f g = f refl
after_both P (refuse n place) p d f g = g n place refl

module _ (c : Check) (p : Pool) (d : Told) where
  pub fine_says : c ≡ fine → (after_check c p d).answer ≡ d.answer
  unfolding after_check
  fine_says e = rw e

  pub refuse_says : {n place : ℕ} → c ≡ refuse n place → (after_check c p d).answer ≡ refused n place
  unfolding after_check
  refuse_says e = rw e

-- ---- from the outcome to the check

pub said_accepted : (c : Check) (p q : Pool) → (after_check c p (answering accepted q)).answer ≡ accepted → c ≡ fine
unfolding after_check
said_accepted fine p q h = refl
said_accepted (refuse n place) p q h = absurd (apart (cc))

-- where what follows the check answers no refusal
pub said_refused : (c : Check) (p : Pool) (d : Told) (n place : ℕ) → (d.answer ≡ refused n place → ⊥) → (after_check c p d).answer ≡ refused n place
    → c ≡ refuse n place
unfolding after_check
said_refused fine p d n place none h = absurd (none h)
said_refused (refuse m at) p d n place none h = cc

-- of two checks the second
pub first_second : (a b : Check) (n place : ℕ) → (a ≡ refuse n place → ⊥) → first a b ≡ refuse n place → (a ≡ fine) × (b ≡ refuse n place)
unfolding first
first_second fine b n place none h = (refl, h)
first_second (refuse m at) b n place none h = absurd (none h)
