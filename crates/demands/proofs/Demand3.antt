-- Demand 3: results that the contracts allow are a run, and every run follows. Assumes nothing.
use mathlib.Core.Path.{◌≡◌, refl, sym, ap, ap₂, ◌∙◌, subst⁻¹}
use mathlib.Core.Bool.{Bool, true, false}
use mathlib.Core.List.{List, ◌∷◌}
use Prim.Native.Nat.{ℕ}
use native.Mathlib.Omega.{arith}
use Rattle.basics.specs.Pick.{unless}
use Rattle.pool.specs.declared.Pool.{Pool}
use Rattle.pool.specs.Answers.{Said, Told, accepted, refused, answering}
use Rattle.pool.specs.Record.{blank}
use Rattle.pool.specs.Sound.{in_range}
use Rattle.pool.specs.Make.{make_of}
use Rattle.rules.specs.Calls.{advancing, after, Seen, seen}
use Rattle.rules.proofs.Fresh.{made}
use Rattle.history.specs.History.{history_after, fresh}
use Rattle.history.specs.Runs.{Follows}
use Rattle.history.proofs.Runs.{every_run}
use Rattle.history.proofs.Examples.{held_and_kept, held_by_another, kept_back}
use Rattle.demands.specs.Runs.{Ran, begins, calls, asks, FromMaking, calls_in, IsRun}
use Rattle.demands.specs.Demands.{Demand3}
use Rattle.demands.proofs.Steps.{stepped, left}

-- ---- a sequence of allowed results is a run

is_run : {p q : Pool} {es : List Seen} → Ran p es q → IsRun p es q
unfolding calls_in seen after
is_run (begins p) = record { seen_so = refl; left_so = refl }
is_run (calls {p} {q} {es} c r list h rest) =
    let s = is_run rest in
    let e = stepped c p r list h in
    let pool = left c p r list h in
    record {
      seen_so = ap₂ (λ (e : Seen) (es : List Seen). e ∷ es)
          (ap₂ (λ (a : Said) (l : List ℕ). record { made = c; answer = a; list = l }) (ap (λ (t : Told). t.answer) e.0) e.1)
          (s.seen_so ∙ ap (seen (calls_in es)) pool);
      left_so = s.left_so ∙ ap (after (calls_in es)) pool;
    }
is_run (asks x a h rest) = is_run rest

-- ---- a pool that was made

in_range_lem : (w g b : ℕ) → (make_of w g b).answer ≡ accepted → in_range w g b ≡ true
unfolding make_of unless
in_range_lem w g b = go (in_range w g b)
  where
    go : (t : Bool) → (unless t (answering (refused 1 0) (blank 0 0 0)) (answering accepted (blank w g b))).answer ≡ accepted → t ≡ true
    go true e = refl
    go false e = absurd (let z : ◌≡◌ {A = ℕ} 0 1 = cc in omega arith)

module _ (w g b : ℕ) (es : List Seen) (q : Pool) (f : FromMaking w g b es q) where
  range : in_range w g b ≡ true
  range = in_range_lem w g b (sym (ap (λ (t : Told). t.answer) f.makes.1) ∙ f.taken_on)

  start : f.made.pool ≡ blank w g b
  start = ap (λ (t : Told). t.pool) (f.makes.1 ∙ made w g b range)

  follows : Follows w g b q (history_after fresh es)
  follows =
      let run = is_run f.ran in
      let seen_so = run.seen_so ∙ ap (seen (calls_in es)) start in
      let left_so = run.left_so ∙ ap (after (calls_in es)) start in
      subst⁻¹ (λ (x : Pool). Follows w g b x (history_after fresh es)) left_so
      (subst⁻¹ (λ (x : List Seen). Follows w g b (after (calls_in es) (blank w g b)) (history_after fresh x)) seen_so (every_run w g b range (calls_in es)))

pub demand_3_lem : Demand3
demand_3_lem =
    record {
      run = λ p q es. is_run;
      follows = follows;
      safe = λ w g b es q f v out list r n h answer i id lo handed held.
          let e = stepped (advancing v out) q r list h in
          (follows w g b es q f).safe v out n (sym (ap (λ (t : Told). t.answer) e.0) ∙ answer) i id (omega arith) (rw (← e.1) handed) held;
      held = held_and_kept;
      held_by_another = held_by_another;
      kept_back = kept_back;
    }
