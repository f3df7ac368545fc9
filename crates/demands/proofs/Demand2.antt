-- Demand 2. Assumes nothing.
use mathlib.Core.Path.{◌≡◌, ap, ◌∙◌, subst⁻¹}
use mathlib.Core.Bool.{Bool, true, false}
use Prim.Native.Nat.{◌-◌}
use Rattle.pool.specs.declared.Pool.{Pool}
use Rattle.pool.specs.Answers.{Told, said}
use Rattle.pool.specs.Sound.{sound_of}
use Rattle.pool.specs.Make.{Fresh}
use Rattle.rules.specs.Calls.{advancing}
use Rattle.rules.specs.Shaped.{Shaped}
use Rattle.rules.specs.Frame.{Frame}
use Rattle.rules.proofs.Cases.{starred_hold}
use Rattle.rules.proofs.Fresh.{made_fresh}
use Rattle.rules.proofs.CallsKept.{call_sound}
use Rattle.rules.proofs.Shaped.{made_shaped, call_shaped}
use Rattle.rules.proofs.StepsFrame.{advance_frame}
use Rattle.rules.proofs.Sentences.{sentences}
use Rattle.rules.proofs.Lent.{lent}
use Rattle.demands.specs.Demands.{Demand2}
use Rattle.demands.proofs.Steps.{stepped, left, answered}

abbrev Judged : Bool → Pool → Type 0
Judged t p = sound_of p ≡ t

pub demand_2_lem : Demand2
demand_2_lem =
    record {
      step = stepped;
      making = λ w g b r m. m.1;
      answer = answered;
      test = λ p t h. h.1;
      counts_alone = λ w g b p h. h.1;
      number = λ r n h. h.1;
      as_answer = λ r a h. ap said h.1;
      made = λ w g b r m range.
          let made = made_fresh.made_in_range w g b range in
          let pool = ap (λ (t : Told). t.pool) m.1 in
          (ap (λ (t : Told). t.answer) m.1 ∙ made.answer, subst⁻¹ (Fresh w g b) pool made.fresh, subst⁻¹ (Judged true) pool made.sound);
      not_made = λ w g b r m range.
          let not_made = made_fresh.out_of_range w g b range in
          let pool = ap (λ (t : Told). t.pool) m.1 in
          (ap (λ (t : Told). t.answer) m.1 ∙ not_made.answer, subst⁻¹ (Fresh 0 0 0) pool not_made.all_zero, subst⁻¹ (Judged false) pool not_made.unsound);
      kept_sound = λ c p r list h sound. subst⁻¹ (Judged true) (left c p r list h) (call_sound c p sound);
      made_shape = λ w g b r m. subst⁻¹ Shaped (ap (λ (t : Told). t.pool) m.1) (made_shaped w g b);
      kept_shape = λ c p r list h shaped. subst⁻¹ Shaped (left c p r list h) (call_shaped c p shaped);
      frame = λ w out list p r h. subst⁻¹ (Frame p (w - 1)) (left (advancing w out) p r list h) (advance_frame.record_framed w out p);
      list_frame = λ w out list p r h other. (stepped (advancing w out) p r list h).1 ∙ advance_frame.list_framed w out p other;
      cases = starred_hold;
      sentences = sentences;
      lent_alone = lent;
    }
