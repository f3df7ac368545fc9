-- The second pass, in the words of its calls' answers: the turns of the block's loop, and the kinds of line. Assumes nothing.
use Rattle.std.proofs.Common.{◌≡◌, ℕ, suc, ◌+◌, ◌*◌, ◌-◌, ◌≤◌, ◌<◌, List, [], ◌++◌, length, set, Bool, true, false, eqb, ltb, Option, Some, None, take, drop, refl, ap, sym, ◌∙◌, subst, arith, length-drop}
use Rattle.std.specs.List.{repeat, slice_range}
use Rattle.std.proofs.lemmas.List.{take_rest}
use borrow.Rule.Slice.PartMut.{put_mid}
use borrow.Author.Tests.{eqb-false}
use native.Mathlib.Nat.{mul-le-mul_right}
use Rattle.basics.specs.Pick.{when}
use Rattle.grammar.specs.Line.{after_of, kind_of}
use Rattle.grammar.specs.declared.Kind.{Kind}
use Rattle.grammar.specs.declared.Kind.TheVariants.{Call, Repeat}
use Rattle.grammar.proofs.Laws.{after_within}
use Rattle.grammar.proofs.Lawful.{repeat_range}
use Rattle.tables.specs.Write.{write_at}
use Rattle.tables.proofs.Left.{Left, left_room, left_on, left_done}
use Rattle.tables.proofs.Laws.{write_one, write_append, write_length, write_rest, part_written, repeat_length}
use Rattle.schedule.specs.declared.Put.{Put}
use Rattle.schedule.specs.Text.{Block, Ready, lower, and_then, too_deep, line_with, has_line, block_at, line_at, put}
use Rattle.schedule.proofs.Turns.{wrong_kind}
use Rattle.schedule.proofs.Blocks.{at_within, line_at_beyond, stopped, block_stops, block_goes, block_turns}

-- from the block's start, where the table was t₀, to its rest, with n calls written and the table t
pub record Going (s : List ℕ) (whole rest : Block) (t₀ t : List ℕ) (n : ℕ) : Type 0 where
  pub sound : rest.fault ≡ None
  pub ends : rest.next ≡ whole.next
  pub left : Left t₀ 0 whole.calls t n rest.calls

same_put : {n u n' u' : ℕ} → n ≡ n' → u ≡ u' → ◌≡◌ {A = Put} (record { next = n; written = u }) (record { next = n'; written = u' })
same_put p q = λ i. record { next = p i; written = q i }

pub no_fault : (f g : Option ℕ) → lower f g ≡ None → (f ≡ None) × (g ≡ None)
no_fault None g h = (refl, h)
no_fault (Some f) None h = cc
no_fault (Some f) (Some g) h = cc

module _ (s : List ℕ) (d : ℕ) (b : Block) (t₀ t : List ℕ) (p : Put) (g : Going s b (block_at s p.next d) t₀ t p.written) where
  pub going_end : has_line s p.next ≡ false → (p ≡ put b) × (t ≡ write_at t₀ 0 b.calls)
  going_end e =
      let h : Going s b (stopped s p.next) t₀ t p.written = subst (λ (x : Block). Going s b x t₀ t p.written) (block_stops s p.next d e) g in
      let d = left_done _ _ _ _ _ _ h.left refl in
      (same_put h.ends (omega (arith, d.0)), d.1)

  module _ (e : has_line s p.next ≡ true) where
    abbrev first : Block
    first = line_at s p.next d

    abbrev others : Block
    others = block_at s first.next d

    split : Going s b (and_then first (λ j. block_at s j d)) t₀ t p.written
    split = subst (λ (x : Block). Going s b x t₀ t p.written) (block_turns s p.next d e) g

    faults : (first.fault ≡ None) × (others.fault ≡ None)
    faults = no_fault first.fault others.fault split.sound

    module _ (w : length s ≤ 16384) (room : length b.calls ≤ length t₀) where
      pub going_room : p.written + length first.calls ≤ length t
      going_room = left_room _ _ _ _ _ _ split.left first.calls others.calls refl (omega arith)

      pub going_ready : Ready s first (take (length t - p.written) (drop p.written t))
      going_ready = record { short = w; sound = faults.0; room = simp (take_rest, length-drop) (omega (arith, going_room)) }

      pub going_on : (u : List ℕ) (x : Put) → x ≡ put first → u ≡ write_at (take (length t - p.written) (drop p.written t)) 0 first.calls
          → Going s b (block_at s x.next d) t₀ (put_mid p.written (length t - p.written) t u) (p.written + x.written)
      going_on u x y z =
          let all = write_rest t u p.written first.calls going_room z in
          rw y (record { sound = faults.1; ends = split.ends; left = left_on _ _ _ _ _ _ split.left first.calls others.calls _ _ refl refl all })

    pub going_within : (x : Put) → x ≡ put first → (p.next < x.next) × (x.next ≤ length s)
    going_within x y = let o = line_at_beyond s p.next d (block_goes s p.next d e) in rw y (o.0, o.1)

-- a choice between two blocks at fault and one that is not: it is that one
chosen : (u v : Bool) (x y z : Block) (at : ℕ) → x.fault ≡ Some at → z.fault ≡ Some at → (when u x (when v y z)).fault ≡ None → (u ≡ false) × (v ≡ true)
unfolding when
chosen true v x y z at a b e = cc
chosen false true x y z at a b e = (refl, refl)
chosen false false x y z at a b e = cc

module _ (s : List ℕ) (at d : ℕ) (t : List ℕ) (n : ℕ) (l : at < length s) (ready : Ready s (line_at s at d) t) (q : n ≡ after_of s at) where
  abbrev Puts : Put → List ℕ → Type 0
  Puts p u = (p ≡ put (line_at s at d)) × (u ≡ write_at t 0 (line_at s at d).calls)

  -- what a line of a known kind is
  by_kind : (m : Option Kind) → m ≡ kind_of s at → line_at s at d ≡ line_with m (block_at s (after_of s at) (d - 1)) s at d
  unfolding line_at
  by_kind m e = rw (← e)

  at_fault : (line_at s at d).fault ≡ Some at → {P : Type 0} → P
  at_fault f = let g = ready.sound in cc

  -- a line at fault is not ready
  pub put_none : None ≡ kind_of s at → {P : Type 0} → P
  put_none e = at_fault (ap (λ (x : Block). x.fault) (by_kind None e))

  module _ (kd : Kind) (p : Some kd ≡ kind_of s at) where
    pub put_other : (kd ≡ Call → ⊥) → ((m : ℕ) → kd ≡ Repeat m → ⊥) → {P : Type 0} → P
    put_other a b = at_fault (ap (λ (x : Block). x.fault) (by_kind (Some kd) p ∙ wrong_kind kd _ s at d a b))

    pub call_room : kd ≡ Call → 0 < length t
    call_room e = let r : 1 ≤ length t = rw (by_kind (Some Call) (rw e at p)) at ready.room in omega arith

    pub put_call : kd ≡ Call → Puts (record { next = n; written = 1 }) (set t 0 at)
    put_call e = rw (by_kind (Some Call) (rw e at p)) (same_put q refl, sym (write_one t 0 at))

    module _ (m : ℕ) (e : kd ≡ Repeat m) where
      abbrev inner : Block
      inner = block_at s (after_of s at) (d - 1)

      abbrev shut : Block
      shut = record { next = after_of s inner.next; fault = inner.fault; calls = repeat m inner.calls }

      is_repeat : Some (Repeat m) ≡ kind_of s at
      is_repeat = rw e at p

      choice : (eqb d 0 ≡ false) × (ltb inner.next (length s) ≡ true)
      choice =
          chosen (eqb d 0) (ltb inner.next (length s)) (too_deep s at) shut (record { next = inner.next; fault = Some at; calls = [] }) at refl refl
          (sym (ap (λ (x : Block). x.fault) (by_kind (Some (Repeat m)) is_repeat)) ∙ ready.sound)

      as_shut : line_at s at d ≡ shut
      unfolding when
      as_shut = by_kind (Some (Repeat m)) is_repeat ∙ rw (choice.0, choice.1)

      pub deep : 0 < d
      deep = omega (arith, eqb-false d 0 choice.0)

      times : (1 ≤ m) × (m ≤ 1000)
      times = repeat_range s at m (sym is_repeat)

      room : m * length (block_at s n (d - 1)).calls ≤ length t
      room = rw q (omega (arith, ready.room, ap (λ (x : Block). length x.calls) as_shut, repeat_length m inner.calls))

      pub inner_ready : Ready s (block_at s n (d - 1)) t
      inner_ready =
          record {
            short = ready.short;
            sound = rw q (sym (ap (λ (x : Block). x.fault) as_shut) ∙ ready.sound);
            room = omega (arith, mul-le-mul_right {m = 1} {n = m} (length (block_at s n (d - 1)).calls) times.0, room);
          }

      pub start_in : n ≤ length s
      start_in = rw q (after_within s at (omega arith))

      -- after the block is written once
      module _ (y : Put) (u : List ℕ) (a : y ≡ put (block_at s n (d - 1))) (w : u ≡ write_at t 0 (block_at s n (d - 1)).calls) where
        once : y.written ≡ length (block_at s n (d - 1)).calls
        once = ap (λ (z : Put). z.written) a

        pub end_within : y.next ≤ length s
        end_within = rw a (at_within s n (d - 1) start_in).1

        pub part_ready : (1 ≤ m) × (0 + m * y.written ≤ length u)
        part_ready = (times.0, rw (once, w, write_length t 0 (block_at s n (d - 1)).calls) (omega (arith, room)))

        pub put_repeat : (j v : ℕ) (x : List ℕ) → j ≡ after_of s y.next → v ≡ 0 + m * y.written → x ≡ write_at u (0 + y.written) (repeat (m - 1) (slice_range u 0 (0 + y.written)))
            → Puts (record { next = j; written = v }) x
        put_repeat j v x f g h =
            let c = (block_at s n (d - 1)).calls in
            let cut : 0 + length c - 0 ≡ length c = omega arith in
            let kept : slice_range u 0 (0 + length c) ≡ c = rw (w, cut) (part_written t 0 c (omega (arith, inner_ready.room))) in
            let more : m ≡ suc (m - 1) = omega (arith, times) in
            let whole : repeat m c ≡ c ++ repeat (m - 1) c = ap (λ (x : ℕ). repeat x c) more in
            let same : line_at s at d ≡ record { next = after_of s (block_at s n (d - 1)).next; fault = (block_at s n (d - 1)).fault; calls = repeat m c } = rw q as_shut in
            rw same (
              same_put (f ∙ ap (λ (z : Put). after_of s z.next) a) (omega (arith, g, ap (λ (z : ℕ). m * z) once, repeat_length m c)),
              h ∙ (rw (once, kept, w, whole) (sym (write_append t 0 c (repeat (m - 1) c)))),
            )
