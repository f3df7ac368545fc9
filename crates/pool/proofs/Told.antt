-- What a call says, from what its code and the checks that it calls answer; and the sets by which `search` finds it. Assumes nothing.
use mathlib.Core.Path.{◌≡◌, sym, ap, ◌∙◌}
use Prim.Native.Nat.{ℕ}
use Rattle.basics.proofs.Picks.{picks}
use Rattle.pool.specs.declared.Pool.{Pool}
use Rattle.std.specs.Prelude.{Result, Ok, Err, IsErrAnd}
use Rattle.pool.specs.declared.Answer.{Answer}
use Rattle.pool.specs.declared.Answer.TheVariants.{Refused as RefusedAt}
use Rattle.pool.specs.ForProofs.Calls.{answered}
use Rattle.pool.specs.declared.Refused.{Refused}
use Rattle.pool.specs.Answers.{Said, said, Told, Check, fine, refuse, number_of, verdict, first, after_check, answer_after, answering, refused}

-- the record that a callee made
pub same_pool : (a : Said) (p q : Pool) → p ≡ q → answering a p ≡ answering a q
same_pool a p q e = rw e

pub same_answer : (a b : Said) (p : Pool) → a ≡ b → answering a p ≡ answering b p
same_answer a b p e = rw e

-- a refusal that the code made, by its number and place
pub same_refusal : (a b x y : ℕ) → a ≡ b → x ≡ y → refuse a x ≡ refuse b y
same_refusal a b x y e h = rw (e, h)

pub same_refused : (a b x y : ℕ) (p q : Pool) → a ≡ b → x ≡ y → p ≡ q → answering (refused a x) p ≡ answering (refused b y) q
same_refused a b x y p q e h g = rw (e, h, g)

-- ---- a check that was called answered v: what it found

module _ {A : Type 0} (v : Result A Refused) {s : Check} (e : verdict v ≡ s) where
  pub fine_by : {y : A} → v ≡ Ok y → s ≡ fine
  fine_by q = sym e ∙ ap verdict q

  pub refuse_by : {r : Refused} → v ≡ Err r → s ≡ refuse (number_of r.refusal) r.place
  refuse_by q = sym e ∙ ap verdict q

-- ---- what follows a check, by what the check found

module _ {A : Type 0} (v : Result A Refused) where
  pub first_fine : {y : A} (x a b : Check) → verdict v ≡ a → v ≡ Ok y → x ≡ b → x ≡ first a b
  unfolding first
  first_fine x a b e q h = rw (fine_by v e q) h

  pub first_refuse : {r : Refused} (a b : Check) → verdict v ≡ a → v ≡ Err r → refuse (number_of r.refusal) r.place ≡ first a b
  unfolding first
  first_refuse a b e q = rw (refuse_by v e q)

  pub after_fine : {y : A} (x : Told) (a : Check) (p : Pool) (d : Told) → verdict v ≡ a → v ≡ Ok y → x ≡ d → x ≡ after_check a p d
  unfolding after_check
  after_fine x a p d e q h = rw (fine_by v e q) h

  pub after_refuse : {r : Refused} (a : Check) (p : Pool) (d : Told) → verdict v ≡ a → v ≡ Err r
      → answering (refused (number_of r.refusal) r.place) p ≡ after_check a p d
  unfolding after_check
  after_refuse a p d e q = rw (refuse_by v e q)

  pub answer_fine : {y : A} (x : Said) (a : Check) (s : Said) → verdict v ≡ a → v ≡ Ok y → x ≡ s → x ≡ answer_after a s
  unfolding answer_after
  answer_fine x a s e q h = rw (fine_by v e q) h

  pub answer_refuse : {r : Refused} (a : Check) (s : Said) → verdict v ≡ a → v ≡ Err r → refused (number_of r.refusal) r.place ≡ answer_after a s
  unfolding answer_after
  answer_refuse a s e q = rw (refuse_by v e q)

-- ---- what `?` hands on is what the check answered

module _ {A : Type 0} where
  pub handed_on : (r : Result A Refused) (e : Refused) → IsErrAnd r (λ x. x ≡ e) → r ≡ Err e
  handed_on (Ok x) e h = elim h [ ]
  handed_on (Err x) e h = ap Err h

module _ {A B : Type 0} {v : Result A Refused} (r : Result B Refused) {e : Refused} (failed : v ≡ Err e) (on : IsErrAnd r (λ x. x ≡ e)) {a : Check} (h : verdict v ≡ a) where
  pub check_on : verdict r ≡ a
  check_on = ap verdict (handed_on r e on) ∙ sym (refuse_by v h failed)

  pub first_on : (b : Check) → verdict r ≡ first a b
  first_on b = ap verdict (handed_on r e on) ∙ first_refuse v a b h failed

module _ {A : Type 0} {v : Result A Refused} (r : Result Answer Refused) {e : Refused} (failed : v ≡ Err e) (on : IsErrAnd r (λ x. x ≡ e)) {a : Check} (h : verdict v ≡ a) where
  pub after_on : (p : Pool) (d : Told) → answering (answered r) p ≡ after_check a p d
  after_on p d = rw (handed_on r e on) (after_refuse v a p d h failed)

module _ {A : Type 0} (v : Result A Refused) (x : Answer) {r : Refused} where
  pub answer_into : (a : Check) (s : Said) → v ≡ Err r → verdict v ≡ a → x ≡ RefusedAt r.refusal r.place → said x ≡ answer_after a s
  answer_into a s q e made = ap said made ∙ answer_refuse v a s e q

  pub after_into : (a : Check) (p : Pool) (d : Told) → v ≡ Err r → verdict v ≡ a → x ≡ RefusedAt r.refusal r.place → answering (said x) p ≡ after_check a p d
  after_into a p d q e made = rw made (after_refuse v a p d e q)

-- ---- after a check, by what it found

module _ {c : Check} where
  pub after_is : {x : Told} (p : Pool) (d : Told) → c ≡ fine → x ≡ d → x ≡ after_check c p d
  unfolding after_check
  after_is p d e h = rw e h

  pub after_stops : {n place : ℕ} (p : Pool) (d : Told) → c ≡ refuse n place → answering (refused n place) p ≡ after_check c p d
  unfolding after_check
  after_stops p d e = rw e

pub ruleset makes = (picks, same_pool)

pub ruleset checks = (picks, same_refusal, first_fine, first_refuse)

pub ruleset begins = (picks, after_fine, after_refuse, after_into, same_pool, same_answer, same_refused)

pub ruleset answers = (picks, answer_fine, answer_refuse, answer_into)
