-- Request 101. Assumes nothing.
use mathlib.Core.Path.{◌≡◌, sym, ap, subst⁻¹, ◌∙◌}
use mathlib.Core.Logic.{◌↔◌}
use Rattle.pool.specs.declared.Pool.{Pool}
use Rattle.pool.specs.Answers.{Check, refuse, Told}
use Rattle.pool.proofs.Checked.{sound_of_lem, sound_passes}
use Rattle.rules.specs.Unsound.{Breaks, Names}
use Rattle.rules.proofs.Unsound.{unsound_sentences}
use Rattle.demands.specs.Allowed.{Question, set_size, leaving_count, audit}
use Rattle.demands.specs.Demands.{question_of, Request101}
use Rattle.demands.proofs.Steps.{stepped, answered}

question_names : (x : Question) (p : Pool) → Names p (question_of x p)
question_names (set_size w) p = unsound_sentences.set_size p w
question_names leaving_count p = unsound_sentences.leaving_count p
question_names audit p = unsound_sentences.audit p

pub request_101_lem : Request101
request_101_lem =
    record {
      found = λ p v h n place. subst⁻¹ (λ (c : Check). (c ≡ refuse n place) ↔ Breaks p n place) h.1 (unsound_sentences.test p n place);
      nothing_found = λ p v h. (λ e. sound_of_lem p (sym h.1 ∙ e), λ s. h.1 ∙ sound_passes p s);
      calls = λ c p r list h. subst⁻¹ (Names p) (ap (λ (t : Told). t.answer) (stepped c p r list h).0) (unsound_sentences.calls c p);
      questions = λ x p a h. subst⁻¹ (Names p) (answered x p a h) (question_names x p);
      sentences = unsound_sentences;
    }
