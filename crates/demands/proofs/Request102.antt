-- Request 102. Assumes nothing.
use Prim.Native.Nat.{ℕ, ◌+◌, ◌≤◌}
use native.Mathlib.Omega.{arith}
use mathlib.Core.Path.{◌≡◌, refl, sym, ap, ◌∙◌}
use mathlib.Core.List.{List, ◌++◌}
use lib.ListN.{length, take, drop, length-append}
use lib.Seq.{take-append_seam}
use Rattle.tables.specs.Write.{write_at}
use Rattle.tables.specs.Bytes.{bytes}
use Rattle.tables.proofs.Laws.{write_front}
use Rattle.pool.specs.declared.Pool.{Pool}
use Rattle.printed.specs.Printed.{decimal}
use Rattle.printed.proofs.Laws.{decimal_fits}
use Rattle.std.specs.Prelude.{Result, Ok, Err}
use Rattle.schedule.specs.declared.Unread.{Unread}
use Rattle.schedule.specs.declared.Unread.TheVariants.{TooLong, BadLine}
use Rattle.schedule.specs.Read.{Reading, calls, read_of, answered, filled}
use Rattle.schedule.proofs.Called.{ReadAs, read_as, faultless}
use Rattle.schedule.proofs.Examples.{examples}
use Rattle.player.specs.declared.Turn.{Turn}
use Rattle.player.specs.Turns.{Played, turn_at, turned}
use Rattle.player.specs.Transcript.{unrolled, played_from, says_of, transcript, turns_from, judgement}
use Rattle.player.proofs.Example.{example}
use Rattle.player.proofs.ReadBack.{read_back}
use Rattle.player.proofs.Whole.{making, transcript_is, whole}
use Rattle.history.proofs.Runs.{every_run}
use Rattle.demands.specs.Schedules.{Unrolls, PlaysLine, Judges, PlaysLines, ends, plays, Prints, played, too_long, bad_line}
use Rattle.demands.specs.Demands.{Request102}

-- ---- a list at the start of a lent table

front : (t u l : List ℕ) (n : ℕ) → u ≡ write_at t 0 l → n ≡ length l → length l ≤ length t → take n u ≡ l
front t u l n e f h = rw (e, f, write_front t l h) (take-append_seam l (drop (length l) t))

-- ---- the three functions, by their contracts

unrolls : (s : List ℕ) (r : Result ℕ Unread) (left : List ℕ) → Unrolls s r left → ReadAs (read_of s) r
unrolls s r left h = read_as s r (h.allowed.0 ∙ ap (λ (x : List ℕ). answered (read_of x)) h.text_so)

places_in : (s : List ℕ) (n : ℕ) (left places : List ℕ) → Unrolls s (Ok n) left → read_of s ≡ calls places → n ≡ length places → take n left ≡ places
places_in s n left places h e f =
    let t = h.table.now in
    let w : left ≡ write_at t 0 places = sym h.left_so ∙ (h.allowed.1 ∙ (ap (λ (x : List ℕ). filled (read_of x) t) h.text_so ∙ ap (λ (x : Reading). filled x t) e)) in
    front t left places n w f (omega (arith, (faultless s places e).few, h.room))

turns_so : (s : List ℕ) (place k : ℕ) (p : Pool) (r : Turn) (b : List ℕ) → PlaysLine s place k p r b → (r.pool ≡ (turn_at s place k p).pool) × (b ≡ (turn_at s place k p).bytes)
turns_so s place k p r b h =
    let at : turn_at h.text.now place k p ≡ turn_at s place k p = ap (λ (x : List ℕ). turn_at x place k p) h.text_so in
    let told : r ≡ turned (turn_at s place k p) = h.allowed.0 ∙ ap turned at in
    let n : r.written ≡ length (turn_at s place k p).bytes = ap (λ (x : Turn). x.written) told in
    let u = h.allowed.1.0 ∙ ap (λ (x : Played). write_at h.out.now 0 x.bytes) at in (
      ap (λ (x : Turn). x.pool) told,
      sym h.bytes_so ∙ front h.out.now _ (turn_at s place k p).bytes r.written u n (omega (arith, n, h.allowed.1.1, h.room)),
    )

judgement_fits : (r : Result ℕ Unread) → length (judgement r) ≤ 8192
judgement_fits (Err TooLong) = omega arith
judgement_fits (Err (BadLine l)) = omega (arith, decimal_fits l, length-append (decimal l) (bytes "\n"), length-append (bytes "bad line ") (decimal l ++ bytes "\n"))
judgement_fits (Ok n) = omega arith

judges : (r : Result ℕ Unread) (b : List ℕ) → Judges r b → b ≡ judgement r
judges r b h = sym h.bytes_so ∙ front h.out.now _ (judgement r) h.written h.allowed.1 h.allowed.0 (omega (arith, judgement_fits r, h.room))

-- ---- the program

lines_so : {s places b : List ℕ} {k : ℕ} {p : Pool} → PlaysLines s k places p b → b ≡ (turns_from s k places p).bytes
unfolding turns_from
lines_so (ends k p) = refl
lines_so {s} (plays {k} {place} {places} {bytes} {more} {p} r h rest) =
    let t = turns_so s place k p r bytes h in
    let m = lines_so rest ∙ ap (λ (x : Pool). (turns_from s (k + 1) places x).bytes) t.0 in
    ap (λ (x : List ℕ). x ++ more) t.1 ∙ ap (λ (x : List ℕ). (turn_at s place k p).bytes ++ x) m

said_so : (s : List ℕ) (x : Reading) → read_of s ≡ x → says_of s x ≡ transcript s
unfolding transcript
said_so s x e = rw e

prints : (s b : List ℕ) → Prints s b → b ≡ transcript s
prints s b (played n left bytes p u h) =
    let r = unrolls s (Ok n) left u in
    lines_so h
    ∙ (ap (λ (l : List ℕ). (turns_from s 1 l p).bytes) (places_in s n left r.0 u r.1.0 r.1.1) ∙ whole s r.0 r.1.0 p)
prints s b (too_long left bytes u h) = judges (Err TooLong) bytes h ∙ said_so s _ (unrolls s (Err TooLong) left u)
prints s b (bad_line l left bytes u h) = judges (Err (BadLine l)) bytes h ∙ said_so s _ (unrolls s (Err (BadLine l)) left u)

pub request_102_lem : Request102
request_102_lem =
    record {
      nothing_asked = record { unroll = λ κs text table. tt; play_line = λ κs text place k p out. tt; put_read = λ κs r out. tt };
      printed = prints;
      run = λ s places e.
          let m = making s places e in
          (m.0, m.1, m.2, m.3.0, transcript_is s places e ∙ ap (played_from (unrolled s places)) m.3.1);
      follows = λ s places w g b e line range now later split. every_run w g b range now;
      read_back = read_back;
      example = example;
      texts = examples;
    }
