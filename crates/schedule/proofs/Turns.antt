-- What the readers' answers are, in the words of their calls' answers: the turns of the block reader's loop, and the kinds of line. Assumes nothing.
use Rattle.std.proofs.Common.{◌≡◌, ℕ, zero, suc, ◌+◌, ◌*◌, ◌-◌, ◌≤◌, ◌<◌, min, List, [], length, true, false, Option, Some, None, refl, ap, sym, ◌∙◌, subst, arith, length-append}
use Rattle.std.specs.Option.{option_or}
use borrow.Author.Tests.{ne_eqb, lt-ltb, le-ltb}
use native.Mathlib.Nat.{zero-mul, suc-mul}
use Rattle.basics.specs.Pick.{when}
use Rattle.basics.proofs.Truth.{by_order}
use Rattle.grammar.specs.Line.{after_of, kind_of}
use Rattle.grammar.specs.declared.Kind.{Kind}
use Rattle.grammar.specs.declared.Kind.TheVariants.{Make, Call, Repeat, End}
use Rattle.grammar.proofs.Laws.{after_within}
use Rattle.tables.proofs.Laws.{repeat_length}
use Rattle.schedule.specs.declared.Got.{Got}
use Rattle.schedule.specs.Text.{Block, lower, end_of, single, line_with, has_line, block_at, line_at, tell}
use Rattle.schedule.proofs.Blocks.{at_within, line_at_beyond, lower_in_order, block_stops, block_goes, block_turns}

pub same_got : {n c n' c' : ℕ} {f f' : Option ℕ} → n ≡ n' → f ≡ f' → c ≡ c' → ◌≡◌ {A = Got} (record { next = n; fault = f; calls = c }) (record { next = n'; fault = f'; calls = c' })
same_got p q r = λ i. record { next = p i; fault = q i; calls = r i }

-- lines, and then others
abbrev pub joined : Got → Got → Got
joined f g = record { next = g.next; fault = option_or f.fault g.fault; calls = min (f.calls + g.calls) 100001 }

option_or_assoc : (a b c : Option ℕ) → option_or (option_or a b) c ≡ option_or a (option_or b c)
option_or_assoc None b c = refl
option_or_assoc (Some a) b c = refl

-- a count that stopped, m times
stopped_times : (m a : ℕ) → min (m * min a 100001) 100001 ≡ min (m * a) 100001
stopped_times zero a = rw (zero-mul (min a 100001), zero-mul a)
stopped_times (suc m) a =
    by_order a 100001
    (λ l. let z : min a 100001 ≡ a = omega arith in rw z)
    (λ l. let z : min a 100001 ≡ 100001 = omega arith in rw z (omega (arith, suc-mul m 100001, suc-mul m a)))

module _ (s : List ℕ) (d : ℕ) where
  pub turn_end : (f b : Got) → has_line s f.next ≡ false → f.calls ≤ 100001 → joined f (tell (block_at s f.next d)) ≡ b → f ≡ b
  turn_end f b e w h = same_got refl (none f.fault) (omega arith) ∙ (ap (λ (x : Block). joined f (tell x)) (sym (block_stops s f.next d e)) ∙ h)
    where
      none : (g : Option ℕ) → g ≡ option_or g None
      none None = refl
      none (Some g) = refl

  module _ (f g : Got) (t : has_line s f.next ≡ true) (e : g ≡ tell (line_at s f.next d)) where
    pub turn_within : (f.next < g.next) × (g.next ≤ length s)
    turn_within = let o = line_at_beyond s f.next d (block_goes s f.next d t) in rw e (o.0, o.1)

    pub turn_on : (b : Got) → joined f (tell (block_at s f.next d)) ≡ b → joined (joined f g) (tell (block_at s g.next d)) ≡ b
    turn_on b h =
        let L = line_at s f.next d in
        let B = block_at s L.next d in
        let o = line_at_beyond s f.next d (block_goes s f.next d t) in
        let in_order : lower L.fault B.fault ≡ option_or L.fault B.fault = lower_in_order f.next L.next B.next L.fault B.fault o.2 (at_within s L.next d o.1).2 in
        rw e
        (same_got refl (option_or_assoc f.fault L.fault B.fault ∙ ap (option_or f.fault) (sym in_order)) (omega (arith, length-append L.calls B.calls))
        ∙ (ap (λ (x : Block). joined f (tell x)) (sym (block_turns s f.next d t)) ∙ h))

-- ---- a line of each kind

-- a line that is neither a call nor a repeat is at fault
pub wrong_kind : (k : Kind) (b : Block) (s : List ℕ) (at d : ℕ) → (k ≡ Call → ⊥) → ((m : ℕ) → k ≡ Repeat m → ⊥) → line_with (Some k) b s at d ≡ single s at (Some at) []
wrong_kind Make b s at d f g = refl
wrong_kind Call b s at d f g = absurd (f refl)
wrong_kind (Repeat m) b s at d f g = absurd (g m refl)
wrong_kind End b s at d f g = refl

module _ (s : List ℕ) (at d n : ℕ) (q : n ≡ after_of s at) where
  abbrev inner : Block
  inner = block_at s (after_of s at) (d - 1)

  abbrev Said : Got → Type 0
  Said g = g ≡ tell (line_at s at d)

  pub said_none : None ≡ kind_of s at → Said (record { next = n; fault = Some at; calls = 0 })
  unfolding line_at
  said_none p = rw (← p) (same_got q refl refl)

  -- a line of the kind k
  module _ (k : Kind) (p : Some k ≡ kind_of s at) where
    pub said_call : k ≡ Call → Said (record { next = n; fault = None; calls = 1 })
    unfolding line_at
    said_call e = rw (← p, e) (same_got q refl refl)

    pub said_other : (k ≡ Call → ⊥) → ((m : ℕ) → k ≡ Repeat m → ⊥) → Said (record { next = n; fault = Some at; calls = 0 })
    unfolding line_at
    said_other a b = rw (← p, wrong_kind k inner s at d a b) (same_got q refl refl)

    pub said_deep : (m j : ℕ) → k ≡ Repeat m → d ≡ 0 → j ≡ after_of s (end_of s n 0) → Said (record { next = j; fault = Some at; calls = 0 })
    unfolding line_at when
    said_deep m j r z u = rw (← p, r, z) (same_got (u ∙ ap (λ (x : ℕ). after_of s (end_of s x 0)) q) refl refl)

    module _ (m : ℕ) (g : Got) (r : k ≡ Repeat m) (z : d ≡ 0 → ⊥) (u : g ≡ tell (block_at s n (d - 1))) where
      at_inner : g ≡ tell inner
      at_inner = u ∙ ap (λ (x : ℕ). tell (block_at s x (d - 1))) q

      pub said_closed : (j c : ℕ) → g.next < length s → j ≡ after_of s g.next → c ≡ min (m * g.calls) 100001 → Said (record { next = j; fault = g.fault; calls = c })
      unfolding line_at when
      said_closed j c l v w =
          rw (← p, r, ne_eqb d 0 z, lt-ltb inner.next (length s) (subst (λ (x : Got). x.next < length s) at_inner l))
          (same_got (v ∙ ap (λ (x : Got). after_of s x.next) at_inner) (ap (λ (x : Got). x.fault) at_inner)
          (w ∙ (ap (λ (x : Got). min (m * x.calls) 100001) at_inner ∙ (stopped_times m (length inner.calls) ∙ ap (λ (x : ℕ). min x 100001) (sym (repeat_length m inner.calls))))))

      pub said_open : length s ≤ g.next → Said (record { next = g.next; fault = Some at; calls = 0 })
      unfolding line_at when
      said_open l =
          rw (← p, r, ne_eqb d 0 z, le-ltb inner.next (length s) (subst (λ (x : Got). length s ≤ x.next) at_inner l))
          (same_got (ap (λ (x : Got). x.next) at_inner) refl refl)

  pub next_in : at < length s → n ≤ length s
  next_in l = rw q (after_within s at (omega arith))

  pub inner_in : (g : Got) → at < length s → g ≡ tell (block_at s n (d - 1)) → g.next ≤ length s
  inner_in g l u = rw u (at_within s n (d - 1) (next_in l)).1
