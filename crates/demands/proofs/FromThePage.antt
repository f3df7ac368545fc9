-- The instances, by the page's statement alone. Assumes nothing.
use native.Mathlib.Omega.{arith}
use Rattle.demands.specs.Demands.{Demand3}
use Rattle.demands.specs.Instances.{Instances}

pub instances : Demand3 → Instances
instances d =
    record {
      first = λ w g b es q f held out list r n h answer handed. d.safe w g b es q f 1 out list r n h answer 0 1 (omega arith) handed held;
      another_guard = λ w g b es q f held out list r n h answer handed. d.safe w g b es q f 1 out list r n h answer 1 3 (omega arith) handed held;
      last = λ w g b es q f held out list r n h answer handed. d.safe w g b es q f 8 out list r n h answer 31 256 (omega arith) handed held;
      places = λ w g es q f.
          let p = (d.follows w g 3 es q f).place in
          (p 1 (omega arith) (omega arith), p 2 (omega arith) (omega arith), p 3 (omega arith) (omega arith));
      counts = λ w g b es q f given back. omega (arith, (d.follows w g b es q f).counts);
    }
