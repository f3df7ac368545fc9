-- Every run: call after call, from a record that agrees with its history. Assumes nothing.
use mathlib.Core.Path.{◌≡◌, refl, sym, ap, ◌∙◌, subst}
use mathlib.Core.List.{List, [], ◌∷◌}
use Prim.Native.Nat.{ℕ, zero, suc, ◌+◌, ◌-◌, ◌≤◌}
use native.Mathlib.Omega.{arith}
use lib.Dec.{eqb, leb}
use borrow.Author.Tests.{leb-true}
use Rattle.basics.specs.Below.{one}
use Rattle.basics.proofs.All.{all_at}
use Rattle.pool.specs.declared.Pool.{Pool}
use Rattle.pool.specs.Record.{state_of}
use Rattle.pool.proofs.Parts.{parts, sizes_of}
use Rattle.rules.specs.Calls.{Call, call, list_of, after, seen}
use Rattle.rules.proofs.CallsKept.{call_sound}
use Rattle.rules.proofs.Shaped.{call_shaped}
use Rattle.history.specs.History.{History, tells, history_after, fresh}
use Rattle.history.specs.Runs.{Follows, FollowsOn, EveryRun}
use Rattle.history.proofs.Heard.{call_told}
use Rattle.history.proofs.Places.{call_placed}
use Rattle.history.proofs.Leaving.{leaving_number, leaving_held}
use Rattle.history.proofs.Counted.{call_counted, fresh_counted}
use Rattle.history.proofs.Watching.{Known}
use Rattle.history.proofs.Watched.{call_watched}
use Rattle.history.proofs.Safe.{safe, fresh_known}

-- a record of the counts of p0 that agrees with its history
pub record Kept (p0 p : Pool) (h : History) : Type 0 where
  pub w : p.w ≡ p0.w
  pub g : p.g ≡ p0.g
  pub b : p.b ≡ p0.b
  pub known : Known p h
  pub counted : h.given ≡ h.back + leaving_number p

one_call : (c : Call) (p0 p : Pool) (h : History) → Kept p0 p h → Kept p0 (call c p).pool (tells (record { made = c; answer = (call c p).answer; list = list_of c p }) h)
unfolding tells
one_call c p0 p h k =
    let f = k.known in
    let t = call_told p h.states f.sound f.shaped f.agrees c in
    record {
      w = t.w ∙ k.w;
      g = t.g ∙ k.g;
      b = t.b ∙ k.b;
      known = record {
        sound = call_sound c p f.sound;
        shaped = call_shaped c p f.shaped;
        placed = call_placed p f.sound f.shaped f.placed c;
        agrees = λ id lo hi. t.same id lo (subst (λ (n : ℕ). id ≤ n) t.b hi);
        watching = call_watched f c;
      };
      counted = omega (arith, k.counted, call_counted p f.sound f.shaped f.placed c);
    }

run : (calls : List Call) (p0 p : Pool) (h : History) → Kept p0 p h → Kept p0 (after calls p) (history_after h (seen calls p))
unfolding after seen history_after
run [] p0 p h k = k
run (c ∷ calls) p0 p h k = run calls p0 (call c p).pool _ (one_call c p0 p h k)

three : (n : ℕ) → n ≤ 2 → one (eqb n 0) + one (eqb n 1) + one (eqb n 2) ≡ 1
three zero l = refl
three (suc zero) l = refl
three (suc (suc zero)) l = refl
three (suc (suc (suc n))) l = absurd (omega arith)

follows : (p0 p : Pool) (h : History) → Kept p0 p h → Follows p0.w p0.g p0.b p h
follows p0 p h k =
    let f = k.known in
    let within : (id : ℕ) → id ≤ p0.b → id ≤ p.b = λ id hi. subst (λ (n : ℕ). id ≤ n) (sym k.b) hi in
    let most = (sizes_of p f.sound).b_most in
    record {
      sound = f.sound;
      workers = k.w;
      guards = k.g;
      buffers = k.b;
      states = λ id lo hi. f.agrees id lo (within id hi);
      place = λ id lo hi.
          let u = within id hi in
          let known : state_of p (suc (id - 1)) ≤ 2 = leb-true _ _ (all_at 256 (λ k. leb (state_of p (suc k)) 2) (parts f.sound).states (id - 1) (omega arith)) in
          let t = three (state_of p id) (subst (λ (n : ℕ). state_of p n ≤ 2) (omega arith) known) in
          let z = ap (λ (n : ℕ). one (eqb n 0)) (f.agrees id lo u) in
          let o = ap (λ (n : ℕ). one (eqb n 1)) (f.agrees id lo u) in
          omega (arith, f.placed.places id lo u);
      counts = omega (arith, k.counted, leaving_held p f.sound f.placed);
      safe = safe p h f;
    }

-- any record that agrees with its history, and any calls from there
pub follows_on : (p : Pool) (h : History) → Known p h → h.given ≡ h.back + leaving_number p → FollowsOn p h
follows_on p h f c calls = follows p _ _ (run calls p p h (record { w = refl; g = refl; b = refl; known = f; counted = c }))

pub every_run : EveryRun
every_run w g b h = follows_on _ fresh (fresh_known w g b h) (omega (arith, fresh_counted w g b))
