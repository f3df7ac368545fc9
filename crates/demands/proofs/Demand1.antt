-- Demand 1. Assumes nothing.
use mathlib.Core.Path.{sym, ap, ◌∙◌}
use Rattle.pool.specs.Answers.{Told}
use Rattle.rules.proofs.Refused.{refused_unchanged}
use Rattle.demands.specs.Allowed.{NothingAsked}
use Rattle.demands.specs.Demands.{Demand1}
use Rattle.demands.proofs.OneToOne.{same_answer, same_outcome, same_verdict}
use Rattle.demands.proofs.Steps.{stepped, left, answered}

nothing_asked : NothingAsked
nothing_asked =
    record {
      make = λ w g b. tt;
      blank = λ w g b. tt;
      soundness = λ p. tt;
      hire = λ p w. tt;
      fire = λ p w g. tt;
      post = λ p w g b. tt;
      give_up = λ κs p w ids. tt;
      take = λ p b. tt;
      ask = λ p w b. tt;
      advance = λ κs p w out. tt;
      set_size = λ p w. tt;
      leaving_count = λ p. tt;
      audit = λ p. tt;
      number = λ r. tt;
      from = λ r. tt;
    }

pub demand_1_lem : Demand1
demand_1_lem =
    record {
      nothing_asked = nothing_asked;
      unchanged = λ c p r list n place h answer.
          let e = stepped c p r list h in
          let u = refused_unchanged c p n place (sym (ap (λ (t : Told). t.answer) e.0) ∙ answer) in
          (left c p r list h ∙ u.pool, e.1 ∙ u.list);
      one_outcome = λ c p r s l m a b.
          let x = stepped c p r l a in
          let y = stepped c p s m b in
          (same_outcome r s (x.0 ∙ sym y.0), x.1 ∙ sym y.1);
      one_made = λ w g b r s x y. same_outcome r s (x.1 ∙ sym y.1);
      one_answer = λ x p a b u v. same_answer a b (answered x p a u ∙ sym (answered x p b v));
      one_test = λ p u v x y. same_verdict u v (x.1 ∙ sym y.1);
      one_blank = λ w g b p q x y. x.1 ∙ sym y.1;
      one_number = λ r m n x y. x.1 ∙ sym y.1;
      one_refused = λ r a b x y. x.1 ∙ sym y.1;
    }
