-- What the whole text is read as, in the words of the calls' answers. Assumes nothing.
use Rattle.std.proofs.Common.{◌≡◌, ◌-◌, ◌+◌, ℕ, suc, ◌≤◌, ◌<◌, List, length, set, Bool, true, false, not, ltb, Option, Some, None, Ok, Err, refl, ap, sym, ◌∙◌, subst, arith, length-drop}
use Rattle.std.proofs.lemmas.List.{length-set, take_rest}
use borrow.Rule.Slice.PartMut.{mid_of, put_mid}
use Rattle.std.specs.Bool.{then_some}
use Rattle.std.specs.Option.{option_or}
use borrow.Author.Tests.{lt-ltb, le-ltb, ltb-true, not-true, not-false}
use Rattle.basics.specs.Pick.{when}
use Rattle.grammar.specs.Line.{after_of, kind_of}
use Rattle.grammar.specs.declared.Kind.{Kind}
use Rattle.grammar.proofs.Laws.{after_within}
use Rattle.tables.specs.Write.{write_at}
use Rattle.tables.proofs.Laws.{write_cons, write_rest}
use Rattle.schedule.specs.declared.Got.{Got}
use Rattle.schedule.specs.declared.Put.{Put}
use Rattle.schedule.specs.declared.Unread.{Unread}
use Rattle.schedule.specs.declared.Unread.TheVariants.{TooLong, BadLine}
use Rattle.schedule.specs.Text.{Block, Ready, lower, block_at, tell, put}
use Rattle.schedule.specs.Read.{is_make, line_number, stray_end, judged, read_of, Playable, answered, filled}
use Rattle.schedule.proofs.Blocks.{Among, among_both, at_within, lower_in_order}
use Rattle.schedule.proofs.Puts.{no_fault}

-- ---- which text is played

module _ (s : List ℕ) where
  abbrev Refused : Unread → Type 0
  Refused e = answered (read_of s) ≡ Err e

  pub read_long : 16384 < length s → Refused TooLong
  unfolding read_of when
  read_long h = rw (lt-ltb 16384 (length s) h)

  -- k is the kind of line 1, and r says whether it is no making
  module _ (w : length s ≤ 16384) (k : Option Kind) (r : Bool) (p : k ≡ kind_of s 0) (q : r ≡ not (is_make k)) where
    pub read_first : r ≡ true → Refused (BadLine 1)
    unfolding read_of when
    read_first e = rw (le-ltb 16384 (length s) w, ← p, not-true (is_make k) (sym q ∙ e))

    module _ (e : r ≡ false) (n : ℕ) (v : n ≡ after_of s 0) where
      abbrev rest : Block
      rest = block_at s n 4

      body : read_of s ≡ judged s rest
      unfolding read_of when
      body = rw (le-ltb 16384 (length s) w, ← p, not-false (is_make k) (sym q ∙ e), v)

      pub start_within : n ≤ length s
      start_within = rw v (after_within s 0 (omega arith))

      -- o is the lowest line at fault, if there is one
      module _ (g : Got) (o : Option ℕ) (a : g ≡ tell rest) (b : o ≡ option_or g.fault (then_some (ltb g.next (length s)) g.next)) where
        rest_within : (n ≤ rest.next) × (rest.next ≤ length s) × Among n rest.next rest.fault
        rest_within = at_within s n 4 start_within

        stray_among : (t : Bool) → ltb rest.next (length s) ≡ t → Among rest.next (length s) (then_some t rest.next)
        stray_among true h = let l = ltb-true rest.next (length s) h in omega arith
        stray_among false h = tt

        stray : Among rest.next (length s) (stray_end s rest)
        stray = stray_among (ltb rest.next (length s)) refl

        lowest : o ≡ lower rest.fault (stray_end s rest)
        lowest = b ∙ (ap (λ (x : Got). option_or x.fault (then_some (ltb x.next (length s)) x.next)) a ∙ sym (lower_in_order n rest.next (length s) rest.fault (stray_end s rest) rest_within.2 stray))

        pub fault_within : (f : ℕ) → o ≡ Some f → f ≤ length s
        fault_within f h = omega (arith, subst (Among n (length s)) (sym lowest ∙ h) (among_both n rest.next (length s) rest.fault (stray_end s rest) rest_within.0 rest_within.1 rest_within.2 stray))

        pub read_bad : (f m : ℕ) → o ≡ Some f → m ≡ line_number s f → Refused (BadLine m)
        read_bad f m h y = rw (y, body, ← lowest, h)

        module _ (l : o ≡ None) where
          none : lower rest.fault (stray_end s rest) ≡ None
          none = sym lowest ∙ l

          pub read_many : 100000 ≤ g.calls → Refused TooLong
          unfolding when
          read_many h = rw (body, none, lt-ltb 100000 (suc (length rest.calls)) (omega (arith, ap (λ (x : Got). x.calls) a)))

          pub playable : g.calls < 100000 → Playable s n
          unfolding when
          playable h =
              let few : length rest.calls < 100000 = omega (arith, ap (λ (x : Got). x.calls) a) in
              record {
                short = w;
                start = v;
                sound = (no_fault rest.fault (stray_end s rest) none).0;
                few = few;
                read = body ∙ rw (none, le-ltb 100000 (suc (length rest.calls)) (omega arith));
              }

-- ---- what is written of it

module _ (s t : List ℕ) (n : ℕ) (k : Playable s n) where
  pub start_in : n ≤ length s
  start_in = rw k.start (after_within s 0 (omega arith))

  -- m entries of the table t follow the first, which is written
  module _ (m : ℕ) (e : length t ≡ m + 1) where
    others : m ≡ length (set t 0 0) - 1
    others = omega (arith, e, length-set t 0 0)

    pub write_ready : 99999 ≤ m → Ready s (block_at s n 4) (mid_of 1 m (set t 0 0))
    write_ready h =
        record {
          short = k.short;
          sound = k.sound;
          room = rw (others, take_rest (set t 0 0) 1) (omega (arith, k.few, length-drop 1 (set t 0 0), length-set t 0 0));
        }

    pub written : (y : Put) (u : List ℕ) → 99999 ≤ m → y ≡ put (block_at s n 4) → u ≡ write_at (mid_of 1 m (set t 0 0)) 0 (block_at s n 4).calls
        → (Ok (1 + y.written) ≡ answered (read_of s)) × (put_mid 1 m (set t 0 0) u ≡ filled (read_of s) t)
    written y u h c d =
        let calls = (block_at s n 4).calls in
        let all : put_mid 1 m (set t 0 0) u ≡ write_at (set t 0 0) 1 calls = rw others (write_rest (set t 0 0) u 1 calls (omega (arith, k.few, e, length-set t 0 0)) (rw others at d)) in
        rw (c, k.read) (ap Ok (omega arith), all ∙ sym (write_cons t 0 0 calls))
