-- The lines of a faultless text, played one after the other, print its transcript. Assumes nothing.
use Prim.Native.Nat.{ℕ, ◌+◌, ◌≤◌}
use native.Mathlib.Omega.{arith}
use mathlib.Core.Path.{◌≡◌, refl, ap, sym, ◌∙◌, subst}
use mathlib.Core.List.{List, [], ◌∷◌, ◌++◌}
use lib.ListN.{length}
use borrow.Author.Tests.{le-ltb}
use Rattle.std.proofs.Common.{Option, Some, None, option_map}
use Rattle.basics.specs.Pick.{when}
use Rattle.pool.specs.declared.Pool.{Pool}
use Rattle.rules.specs.Calls.{Call, call, after, seen}
use Rattle.grammar.specs.declared.Line.{Line}
use Rattle.grammar.specs.declared.Line.TheVariants.{Make, Take, Hire, Fire, Post, Give, Ask, Step, Repeat, End}
use Rattle.grammar.specs.declared.Kind.{Kind}
use Rattle.grammar.specs.declared.Kind.TheVariants as are
use Rattle.grammar.specs.Line.{line_of, numbers_at, kind, kind_of}
use Rattle.schedule.specs.Read.{calls as reading, read_of, CallsAt, Faultless}
use Rattle.schedule.proofs.Called.{faultless}
use Rattle.player.specs.Turns.{Deed, makes, calls, deed_of, deed_at, Played, turn_of, turn_at}
use Rattle.player.specs.Transcript.{call_in, unrolled, printed_from, played_from, transcript, turns_from}

-- what a line does that makes the pool, and one that is a call
abbrev Does : Option Kind → Option Line → Deed → Type 0
Does (Some are.Make) l d = (w : ℕ) × (g : ℕ) × (b : ℕ) × ((l ≡ Some (Make w g b)) × (d ≡ makes w g b))
Does (Some are.Call) l d = (c : Call) × (d ≡ calls c)
Does (Some (are.Repeat n)) l d = Unit {0}
Does (Some are.End) l d = Unit {0}
Does None l d = Unit {0}

does : (l : Option Line) (ns : List ℕ) → Does (option_map kind l) l (deed_of l ns)
does (Some (Make w g b)) ns = (w, g, b, (refl, refl))
does (Some (Take b)) ns = (_, refl)
does (Some (Hire w)) ns = (_, refl)
does (Some (Fire w g)) ns = (_, refl)
does (Some (Post w g b)) ns = (_, refl)
does (Some (Give w)) ns = (_, refl)
does (Some (Ask w b)) ns = (_, refl)
does (Some (Step w)) ns = (_, refl)
does (Some (Repeat n)) ns = tt
does (Some End) ns = tt
does None ns = tt

does_at : (s : List ℕ) (at : ℕ) (k : Option Kind) → kind_of s at ≡ k → Does k (line_of s at) (deed_at s at)
unfolding kind_of deed_at
does_at s at k e = subst (λ (x : Option Kind). Does x (line_of s at) (deed_of (line_of s at) (numbers_at s at))) e (does (line_of s at) (numbers_at s at))

turn_is : (s : List ℕ) (at k : ℕ) (p : Pool) (d : Deed) → length s ≤ 16384 → at ≤ length s → deed_at s at ≡ d → turn_at s at k p ≡ turn_of d k p
unfolding turn_at when
turn_is s at k p d short near e = rw (le-ltb 16384 (length s) short, le-ltb (length s) at near, e)

-- the first of some places
turns_on : (s : List ℕ) (at k : ℕ) (places : List ℕ) (p : Pool) (x : Played) → turn_at s at k p ≡ x
    → turns_from s k (at ∷ places) p ≡ record { pool = (turns_from s (k + 1) places x.pool).pool; bytes = x.bytes ++ (turns_from s (k + 1) places x.pool).bytes }
unfolding turns_from
turns_on s at k places p x e = ap (λ (y : Played). record { pool = (turns_from s (k + 1) places y.pool).pool; bytes = y.bytes ++ (turns_from s (k + 1) places y.pool).bytes }) e

unrolled_on : (s : List ℕ) (at : ℕ) (places : List ℕ) (d : Deed) → deed_at s at ≡ d → unrolled s (at ∷ places) ≡ call_in d ++ unrolled s places
unfolding unrolled
unrolled_on s at places d e = ap (λ (x : Deed). call_in x ++ unrolled s places) e

-- ---- calls one after the other

pub record Plays (s places : List ℕ) (k : ℕ) (p : Pool) : Type 0 where
  pub prints : (turns_from s k places p).bytes ≡ printed_from k (seen (unrolled s places) p)
  pub leaves : (turns_from s k places p).pool ≡ after (unrolled s places) p

none_plays : (s : List ℕ) (k : ℕ) (p : Pool) → Plays s [] k p
unfolding turns_from printed_from unrolled seen after
none_plays s k p = record { prints = refl; leaves = refl }

call_plays : (s : List ℕ) (at : ℕ) (places : List ℕ) (c : Call) (k : ℕ) (p : Pool) → length s ≤ 16384 → at ≤ length s → deed_at s at ≡ calls c → Plays s places (k + 1) (call c p).pool → Plays s (at ∷ places) k p
unfolding printed_from seen after
call_plays s at places c k p short near e h =
    let t = turns_on s at k places p (turn_of (calls c) k p) (turn_is s at k p (calls c) short near e) in
    let u = unrolled_on s at places (calls c) e in
    record {
      prints = ap (λ (x : Played). x.bytes) t ∙ (ap (λ (l : List ℕ). (turn_of (calls c) k p).bytes ++ l) h.prints ∙ ap (λ (cs : List Call). printed_from k (seen cs p)) (sym u));
      leaves = ap (λ (x : Played). x.pool) t ∙ (h.leaves ∙ ap (λ (cs : List Call). after cs p) (sym u));
    }

calls_play : (s places : List ℕ) → length s ≤ 16384 → CallsAt s places → (k : ℕ) (p : Pool) → Plays s places k p
unfolding CallsAt
calls_play s [] short h k p = none_plays s k p
calls_play s (at ∷ places) short h k p =
    let d = does_at s at (Some are.Call) h.1 in
    call_plays s at places d.0 k p short h.0 d.1 (calls_play s places short h.2 (k + 1) (call d.0 p).pool)

-- ---- the whole text, from any record

module _ (s : List ℕ) (short : length s ≤ 16384) (w g b : ℕ) (e : deed_at s 0 ≡ makes w g b) (rest : List ℕ) (h : CallsAt s rest) (p : Pool) where
  abbrev made : Played
  made = turn_of (makes w g b) 1 p

  from_making : turns_from s 1 (0 ∷ rest) p ≡ record { pool = (turns_from s 2 rest made.pool).pool; bytes = made.bytes ++ (turns_from s 2 rest made.pool).bytes }
  from_making = turns_on s 0 1 rest p made (turn_is s 0 1 p (makes w g b) short (omega arith) e)

  no_call : unrolled s (0 ∷ rest) ≡ unrolled s rest
  no_call = unrolled_on s 0 rest (makes w g b) e

  played : (turns_from s 1 (0 ∷ rest) p).bytes ≡ played_from (unrolled s (0 ∷ rest)) (deed_at s 0)
  played =
      ap (λ (x : Played). x.bytes) from_making
      ∙ (ap (λ (l : List ℕ). made.bytes ++ l) (calls_play s rest short h 2 made.pool).prints
      ∙ (ap (λ (cs : List Call). played_from cs (makes w g b)) (sym no_call) ∙ ap (played_from (unrolled s (0 ∷ rest))) (sym e)))

  left : (turns_from s 1 (0 ∷ rest) p).pool ≡ after (unrolled s (0 ∷ rest)) made.pool
  left = ap (λ (x : Played). x.pool) from_making ∙ ((calls_play s rest short h 2 made.pool).leaves ∙ ap (λ (cs : List Call). after cs made.pool) (sym no_call))

module _ (s places : List ℕ) (e : read_of s ≡ reading places) where
  abbrev facts : Faultless s places
  facts = faultless s places e

  pub making : (w : ℕ) × (g : ℕ) × (b : ℕ) × ((line_of s 0 ≡ Some (Make w g b)) × (deed_at s 0 ≡ makes w g b))
  making = does_at s 0 (Some are.Make) facts.making

  pub transcript_is : transcript s ≡ played_from (unrolled s places) (deed_at s 0)
  unfolding transcript
  transcript_is = rw e

  pub whole : (p : Pool) → (turns_from s 1 places p).bytes ≡ transcript s
  whole p =
      let m = making in
      subst (λ (l : List ℕ). (turns_from s 1 l p).bytes ≡ played_from (unrolled s l) (deed_at s 0)) (sym facts.first) (played s facts.short m.0 m.1 m.2 m.3.1 facts.rest facts.others p)
      ∙ sym transcript_is
