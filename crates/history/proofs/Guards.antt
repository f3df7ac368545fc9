-- Guards, their employers and what they hold, kept by every move; p, q and r are workers' numbers less 1. Assumes nothing.
use mathlib.Core.Path.{◌≡◌, refl, ap, sym, ◌∙◌}
use mathlib.Core.Logic.{◌≢◌}
use Prim.Native.Nat.{ℕ, ◌+◌, ◌≤◌, ◌<◌}
use native.Mathlib.Omega.{arith}
use Rattle.history.specs.Holds.{changed}
use Rattle.history.proofs.Changed.{changed_case, changed_same, not_pos}
use Rattle.history.proofs.Moves.{Mover, mover, Desk, desk, still, Serve, hire, s2y, s2n, s2e, s4a, s4b, s5y, s5n, s6, fire, s7, s8, post, s9, s10}

-- A worker, at a guard whose entries are tk, em, po, ho.
pub record Clerk (m tk em po ho p : ℕ) (x : Mover) : Type 0 where
  pub busy : 4 ≤ x.label → x.label ≤ 7 → (tk ≡ 1) × (em ≡ 0)
  pub above : x.label ≡ 5 → x.max < x.i
  pub below : x.label ≡ 6 → x.i ≤ m
  pub mine : 9 ≤ x.label → x.label ≤ 10 → (em ≡ p + 1) × (ho ≡ 0)
  pub posted : x.label ≡ 10 → po ≡ x.v

abbrev pub ClerkAt : Desk → ℕ → Mover → Type 0
ClerkAt d p x = Clerk d.maxg (d.taken x.i) (d.employer x.i) (d.posted x.i) (d.holds x.i) p x

-- Two workers.
abbrev pub Apart : Mover → Mover → Type 0
Apart x y = 4 ≤ x.label → x.label ≤ 7 → 4 ≤ y.label → y.label ≤ 7 → x.i ≢ y.i

-- Guard g.
pub record Guard (m g tk em po ho : ℕ) : Type 0 where
  pub own : 0 < em → (tk ≡ 1) × (g ≤ m)
  pub stands : 0 < ho → (po ≡ ho) × (g ≤ m)

abbrev pub GuardAt : Desk → ℕ → Type 0
GuardAt d g = Guard d.maxg g (d.taken g) (d.employer g) (d.posted g) (d.holds g)

pub record Guards (d : Desk) (w : ℕ → Mover) : Type 0 where
  pub clerk : (p : ℕ) → ClerkAt d p (w p)
  pub apart : (p q : ℕ) → p ≢ q → Apart (w p) (w q)
  pub guard : (g : ℕ) → GuardAt d g

-- Worker p alone moves.
rebuild : (d : Desk) (w : ℕ → Mover) (p : ℕ) (x : Mover) → ((q r : ℕ) → q ≢ r → Apart (w q) (w r)) → ClerkAt d p x →
    ((q : ℕ) → q ≢ p → ClerkAt d q (w q)) → ((q : ℕ) → q ≢ p → Apart x (w q)) → ((g : ℕ) → GuardAt d g) → Guards d (changed w p x)
rebuild d w p x old own others apart guard = record {
  clerk = λ q. changed_case (λ y. ClerkAt d q y) w p x q (λ e. rw e own) (others q);
  apart = λ q r n. changed_case (λ y. Apart y (changed w p x r)) w p x q
      (λ e. changed_case (λ y. Apart x y) w p x r (λ f. absurd (n (e ∙ sym f))) (λ m. apart r m))
      (λ m. changed_case (λ y. Apart (w q) y) w p x r (λ _ a b c d e. apart q m c d a b (sym e)) (λ _. old q r n));
  guard = guard;
}

-- A worker outside the labels of a hire, a fire and a post.
pub away : {m tk em po ho p : ℕ} {x : Mover} → (4 ≤ x.label → x.label ≤ 10 → ⊥) → Clerk m tk em po ho p x
away off = record {
  busy = λ a b. absurd (off a (omega arith));
  above = λ a. absurd (off (omega arith) (omega arith));
  below = λ a. absurd (off (omega arith) (omega arith));
  mine = λ a b. absurd (off (omega arith) b);
  posted = λ a. absurd (off (omega arith) (omega arith));
}

pub off_desk : (d : Desk) (w : ℕ → Mover) (p : ℕ) (x : Mover) → Guards d w → (4 ≤ x.label → x.label ≤ 10 → ⊥) → Guards d (changed w p x)
off_desk d w p x inv off = rebuild d w p x inv.apart (away off) (λ q _. inv.clerk q) (λ q _ a b. absurd (off a (omega arith))) inv.guard

-- Another value of one of the guard's entries.
on_taken : {m tk em po ho p : ℕ} {x : Mover} (tk' : ℕ) → Clerk m tk em po ho p x → (4 ≤ x.label → x.label ≤ 7 → tk' ≡ 1) → Clerk m tk' em po ho p x
on_taken tk' c f = record { busy = λ a b. (f a b, (c.busy a b).1); above = c.above; below = c.below; mine = c.mine; posted = c.posted }

on_emp : {m tk em po ho p : ℕ} {x : Mover} (em' : ℕ) → Clerk m tk em po ho p x → (4 ≤ x.label → x.label ≤ 7 → em' ≡ 0) → (9 ≤ x.label → x.label ≤ 10 → em' ≡ p + 1) →
    Clerk m tk em' po ho p x
on_emp em' c f g = record { busy = λ a b. ((c.busy a b).0, f a b); above = c.above; below = c.below; mine = λ a b. (g a b, (c.mine a b).1); posted = c.posted }

on_hold : {m tk em po ho p : ℕ} {x : Mover} (ho' : ℕ) → Clerk m tk em po ho p x → (9 ≤ x.label → x.label ≤ 10 → ho' ≡ 0) → Clerk m tk em po ho' p x
on_hold ho' c g = record { busy = c.busy; above = c.above; below = c.below; mine = λ a b. ((c.mine a b).0, g a b); posted = c.posted }

on_max : {m tk em po ho p : ℕ} {x : Mover} (m' : ℕ) → Clerk m tk em po ho p x → m ≤ m' → Clerk m' tk em po ho p x
on_max m' c l = record { busy = c.busy; above = c.above; below = λ a. omega (arith, c.below a); mine = c.mine; posted = c.posted }

module _ (d : Desk) (w : ℕ → Mover) (p : ℕ) (s : ℕ → ℕ) (inv : Guards d w) where
  abbrev here : ℕ
  here = (w p).i

  two_y : (w p).label ≡ 2 → d.taken here ≡ 0 → Guards (desk d.maxg (changed d.taken here 1) d.employer d.posted d.holds) (changed w p (mover 4 here (w p).v (w p).h (w p).attempts (w p).max s))
  two_y e t = rebuild _ w p _ inv.apart
      (let z = not_pos (d.employer here) (λ a. omega (arith, (inv.guard here).own a)) in let u = changed_same d.taken here 1 in omega arith)
      (λ q n. changed_case (λ t. Clerk d.maxg t (d.employer (w q).i) (d.posted (w q).i) (d.holds (w q).i) q (w q)) d.taken here 1 (w q).i
      (λ s. on_taken 1 (inv.clerk q) (λ _ _. refl)) (λ _. inv.clerk q))
      (λ q n _ _ a b s. omega (arith, (inv.clerk q).busy a b, ap d.taken s))
      (λ g. changed_case (λ t. Guard d.maxg g t (d.employer g) (d.posted g) (d.holds g)) d.taken here 1 g
      (λ s. record { own = λ a. (refl, ((inv.guard g).own a).1); stands = (inv.guard g).stands }) (λ _. inv.guard g))

  -- a hire goes on, at the same guard
  hire_on : (x : Mover) → 4 ≤ (w p).label → (w p).label ≤ 7 → x.i ≡ here → 4 ≤ x.label → x.label ≤ 6 → (x.label ≡ 5 → x.max < here) → (x.label ≡ 6 → here ≤ d.maxg) → Guards d (changed w p x)
  hire_on x l u s l' u' f g = rebuild d w p x inv.apart
      (rw s record { busy = λ _ _. (inv.clerk p).busy l u; above = f; below = g; mine = omega arith; posted = omega arith })
      (λ q n. inv.clerk q)
      (λ q n _ _ a b z. inv.apart q p n a b l u (sym z ∙ s))
      inv.guard

  five_y : (w p).label ≡ 5 → d.maxg ≡ (w p).max → Guards (desk here d.taken d.employer d.posted d.holds) (changed w p (mover 4 here (w p).v (w p).h (w p).attempts (w p).max s))
  five_y e l =
      let c = inv.clerk p in
      let t : d.maxg ≤ here = omega (arith, c.above e) in
      rebuild _ w p _ inv.apart
      (record { busy = λ _ _. c.busy (omega arith) (omega arith); above = omega arith; below = omega arith; mine = omega arith; posted = omega arith })
      (λ q n. on_max here (inv.clerk q) t)
      (λ q n _ _ a b s. inv.apart q p n a b (omega arith) (omega arith) (sym s))
      (λ g. record { own = λ a. (((inv.guard g).own a).0, omega (arith, (inv.guard g).own a)); stands = λ a. (((inv.guard g).stands a).0, omega (arith, (inv.guard g).stands a)) })

  six : (w p).label ≡ 6 → Guards (desk d.maxg d.taken (changed d.employer here (p + 1)) d.posted d.holds) (changed w p (still s))
  six e =
      let c = (inv.clerk p).busy (omega arith) (omega arith) in
      rebuild _ w p _ inv.apart (omega arith)
      (λ q n. changed_case (λ t. Clerk d.maxg (d.taken (w q).i) t (d.posted (w q).i) (d.holds (w q).i) q (w q)) d.employer here (p + 1) (w q).i
      (λ s. on_emp (p + 1) (inv.clerk q) (λ a b. absurd (inv.apart q p n a b (omega arith) (omega arith) s)) (λ a b. omega (arith, (inv.clerk q).mine a b, ap d.employer s)))
      (λ _. inv.clerk q))
      (λ q n. omega arith)
      (λ g. changed_case (λ t. Guard d.maxg g (d.taken g) t (d.posted g) (d.holds g)) d.employer here (p + 1) g
      (λ s. record { own = λ a. (omega (arith, ap d.taken s), omega (arith, (inv.clerk p).below e)); stands = (inv.guard g).stands }) (λ _. inv.guard g))

  fired : (g : ℕ) → (w p).label ≡ 0 → d.employer g ≡ p + 1 →
      Guards (desk d.maxg d.taken (changed d.employer g 0) d.posted d.holds) (changed w p (mover 7 g (w p).v (w p).h (w p).attempts (w p).max s))
  fired g e f = rebuild _ w p _ inv.apart
      (omega (arith, changed_same d.employer g 0, (inv.guard g).own (omega arith)))
      (λ q n. changed_case (λ t. Clerk d.maxg (d.taken (w q).i) t (d.posted (w q).i) (d.holds (w q).i) q (w q)) d.employer g 0 (w q).i
      (λ s. on_emp 0 (inv.clerk q) (λ a b. refl) (λ a b. absurd (n (omega (arith, (inv.clerk q).mine a b, ap d.employer s)))))
      (λ _. inv.clerk q))
      (λ q n _ _ a b s. omega (arith, (inv.clerk q).busy a b, ap d.employer s))
      (λ h. changed_case (λ t. Guard d.maxg h (d.taken h) t (d.posted h) (d.holds h)) d.employer g 0 h
      (λ s. record { own = omega arith; stands = (inv.guard h).stands }) (λ _. inv.guard h))

  seven : (w p).label ≡ 7 → Guards (desk d.maxg (changed d.taken here 0) d.employer d.posted d.holds) (changed w p (mover 8 here (w p).v (w p).h (w p).attempts (w p).max s))
  seven e =
      let c = (inv.clerk p).busy (omega arith) (omega arith) in
      rebuild _ w p _ inv.apart (omega arith)
      (λ q n. changed_case (λ t. Clerk d.maxg t (d.employer (w q).i) (d.posted (w q).i) (d.holds (w q).i) q (w q)) d.taken here 0 (w q).i
      (λ s. on_taken 0 (inv.clerk q) (λ a b. absurd (inv.apart q p n a b (omega arith) (omega arith) s)))
      (λ _. inv.clerk q))
      (λ q n. omega arith)
      (λ g. changed_case (λ t. Guard d.maxg g t (d.employer g) (d.posted g) (d.holds g)) d.taken here 0 g
      (λ s. record { own = λ a. absurd (omega (arith, ap d.employer s)); stands = (inv.guard g).stands }) (λ _. inv.guard g))

  posting : (g b : ℕ) → (w p).label ≡ 0 → d.employer g ≡ p + 1 →
      Guards (desk d.maxg d.taken d.employer d.posted (changed d.holds g 0)) (changed w p (mover 9 g b (w p).h (w p).attempts (w p).max s))
  posting g b e f = rebuild _ w p _ inv.apart
      (omega (arith, changed_same d.holds g 0))
      (λ q n. changed_case (λ t. Clerk d.maxg (d.taken (w q).i) (d.employer (w q).i) (d.posted (w q).i) t q (w q)) d.holds g 0 (w q).i
      (λ s. on_hold 0 (inv.clerk q) (λ a b. refl)) (λ _. inv.clerk q))
      (λ q n. omega arith)
      (λ h. changed_case (λ t. Guard d.maxg h (d.taken h) (d.employer h) (d.posted h) t) d.holds g 0 h
      (λ s. record { own = (inv.guard h).own; stands = omega arith }) (λ _. inv.guard h))

  -- two workers post on two guards
  alone : (q : ℕ) → q ≢ p → 9 ≤ (w p).label → (w p).label ≤ 10 → 9 ≤ (w q).label → (w q).label ≤ 10 → (w q).i ≢ here
  alone q n a b a' b' s = n (omega (arith, (inv.clerk q).mine a' b', (inv.clerk p).mine a b, ap d.employer s))

  nine : (w p).label ≡ 9 → Guards (desk d.maxg d.taken d.employer (changed d.posted here (w p).v) d.holds) (changed w p (mover 10 here (w p).v (w p).h (w p).attempts (w p).max s))
  nine e =
      let c = (inv.clerk p).mine (omega arith) (omega arith) in
      rebuild _ w p _ inv.apart
      (omega (arith, changed_same d.posted here (w p).v))
      (λ q n. changed_case (λ t. Clerk d.maxg (d.taken (w q).i) (d.employer (w q).i) t (d.holds (w q).i) q (w q)) d.posted here (w p).v (w q).i
      (λ s. let k = inv.clerk q in
      record { busy = k.busy; above = k.above; below = k.below; mine = k.mine; posted = λ a. absurd (alone q n (omega arith) (omega arith) (omega arith) (omega arith) s) })
      (λ _. inv.clerk q))
      (λ q n. omega arith)
      (λ g. changed_case (λ t. Guard d.maxg g (d.taken g) (d.employer g) t (d.holds g)) d.posted here (w p).v g
      (λ s. record { own = (inv.guard g).own; stands = λ a. absurd (omega (arith, ap d.holds s)) }) (λ _. inv.guard g))

  ten : (c : ℕ) → (w p).label ≡ 10 → (0 < c → c ≡ (w p).v) → Guards (desk d.maxg d.taken d.employer d.posted (changed d.holds here c)) (changed w p (still s))
  ten c e f = rebuild _ w p _ inv.apart (omega arith)
      (λ q n. changed_case (λ t. Clerk d.maxg (d.taken (w q).i) (d.employer (w q).i) (d.posted (w q).i) t q (w q)) d.holds here c (w q).i
      (λ s. on_hold c (inv.clerk q) (λ a b. absurd (alone q n (omega arith) (omega arith) a b s))) (λ _. inv.clerk q))
      (λ q n. omega arith)
      (λ g. changed_case (λ t. Guard d.maxg g (d.taken g) (d.employer g) (d.posted g) t) d.holds here c g
      (λ s. let k = (inv.clerk p).mine (omega arith) (omega arith) in record {
        own = (inv.guard g).own;
        stands = λ a.
            (omega (arith, f a, (inv.clerk p).posted e, ap d.posted s), omega (arith, (inv.guard here).own (omega arith)));
      }) (λ _. inv.guard g))

  pub serve_guards : (d' : Desk) (x' : Mover) → Serve d p (w p) s d' x' → Guards d' (changed w p x')
  serve_guards d' x' (hire e) = off_desk d w p _ inv (omega arith)
  serve_guards d' x' (s2y e t) = two_y e t
  serve_guards d' x' (s2n e) = off_desk d w p _ inv (omega arith)
  serve_guards d' x' (s2e e) = off_desk d w p _ inv (omega arith)
  serve_guards d' x' (s4a e l) = hire_on _ (omega arith) (omega arith) refl (omega arith) (omega arith) (omega arith) (omega arith)
  serve_guards d' x' (s4b e l) = hire_on _ (omega arith) (omega arith) refl (omega arith) (omega arith) (omega arith) (omega arith)
  serve_guards d' x' (s5y e l) = five_y e l
  serve_guards d' x' (s5n e) = hire_on _ (omega arith) (omega arith) refl (omega arith) (omega arith) (omega arith) (omega arith)
  serve_guards d' x' (s6 e) = six e
  serve_guards d' x' (fire g e f) = fired g e f
  serve_guards d' x' (s7 e) = seven e
  serve_guards d' x' (s8 e) = off_desk d w p _ inv (omega arith)
  serve_guards d' x' (post g b e f) = posting g b e f
  serve_guards d' x' (s9 e) = nine e
  serve_guards d' x' (s10 c e h) = ten c e h
