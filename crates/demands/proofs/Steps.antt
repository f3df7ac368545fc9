-- Each result that a contract allows is the one that the definitions give: the promise, read at the arguments. Assumes nothing.
use mathlib.Core.Path.{◌≡◌, refl, sym, ap, ◌∙◌}
use mathlib.Core.List.{List}
use Prim.Native.Nat.{ℕ}
use Rattle.pool.specs.declared.Pool.{Pool}
use Rattle.pool.specs.declared.Answer.{Answer}
use Rattle.pool.specs.declared.Outcome.{Outcome}
use Rattle.pool.specs.Answers.{Told, said, told}
use Rattle.pool.specs.Begins.{give_up_of}
use Rattle.pool.specs.Steps.{advance_of, list_after}
use Rattle.rules.specs.Calls.{Call, call, list_of}
use Rattle.demands.specs.Allowed.{worker, Allows, hires, fires, posts, gives_up, takes, asks, advances, Question, Answers, size_said, count_said, audit_said}
use Rattle.demands.specs.Demands.{question_of}

pub stepped : (c : Call) (p : Pool) (r : Outcome) (list : List ℕ) → Allows p r c list → (told r ≡ call c p) × (list ≡ list_of c p)
unfolding call list_of
stepped c p r list (hires w h) = (h.1, refl)
stepped c p r list (fires w g h) = (h.1, refl)
stepped c p r list (posts w g b h) = (h.1, refl)
stepped c p r list (gives_up w ids h) = (h.allowed ∙ ap (give_up_of p (worker w)) h.lent_so, refl)
stepped c p r list (takes b h) = (h.1, refl)
stepped c p r list (asks w b h) = (h.1, refl)
stepped c p r list (advances w out after h) =
    (h.allowed.0 ∙ ap (advance_of p (worker w)) h.lent_so, sym h.left_so ∙ h.allowed.1 ∙ ap (list_after p (worker w)) h.lent_so)

pub answered : (x : Question) (p : Pool) (a : Answer) → Answers p a x → said a ≡ question_of x p
answered x p a (size_said w h) = h.1
answered x p a (count_said h) = h.1
answered x p a (audit_said h) = h.1

-- the record that a call leaves
pub left : (c : Call) (p : Pool) (r : Outcome) (list : List ℕ) → Allows p r c list → r.pool ≡ (call c p).pool
left c p r list h = ap (λ (t : Told). t.pool) (stepped c p r list h).0
