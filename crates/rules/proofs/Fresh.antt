-- A pool that is made is the paper's fresh pool, and sound; the all-zero record of a refused making is not sound. Assumes nothing.
use mathlib.Core.Path.{◌≡◌, refl, ap, ap₂, ◌∙◌}
use mathlib.Core.Bool.{Bool, true, false, ◌&&◌, ◌||◌, or-true}
use mathlib.Core.List.{[], ◌∷◌}
use Prim.Native.Nat.{ℕ, zero, suc, ◌-◌, ◌<◌}
use native.Mathlib.Omega.{arith}
use lib.Dec.{leb, ltb}
use lib.ListN.{get_or, replicate, get_or-replicate}
use borrow.Author.Tests.{le-leb, leb-true, lt-ltb}
use Rattle.basics.specs.Pick.{unless}
use Rattle.basics.specs.Below.{any_below}
use Rattle.basics.proofs.All.{all_of}
use Rattle.basics.proofs.Truth.{each}
use Rattle.idset.specs.declared.IdSet.{IdSet}
use Rattle.idset.specs.Members.{member_of, no_ids}
use Rattle.idset.proofs.Members.{member_none}
use Rattle.idset.proofs.Within.{none_within}
use Rattle.worker.specs.Registers.{no_worker}
use Rattle.pool.specs.Answers.{first, answering, accepted, refused}
use Rattle.pool.specs.Record.{set_at, blank}
use Rattle.pool.specs.Sound.{in_range, guards_beyond, buffers_beyond, workers_beyond, counts_check, sound_check, sound_of}
use Rattle.pool.specs.Make.{make_of, Fresh}
use Rattle.pool.proofs.Parts.{Parts, whole}
use Rattle.rules.specs.Fresh.{MadeFresh}

pub made : (w g b : ℕ) → in_range w g b ≡ true → make_of w g b ≡ answering accepted (blank w g b)
unfolding make_of unless
made w g b h = rw h

-- an entry of a repeated array, and what stands past its end
module _ {A : Type 0} where
  repeated : (n i : ℕ) (a : A) → get_or (replicate n a) i a ≡ a
  repeated zero i a = refl
  repeated (suc n) zero a = refl
  repeated (suc n) (suc i) a = repeated n i a

zeros : (n i : ℕ) → ◌≡◌ {A = ℕ} (get_or (replicate n 0) i 0) 0
zeros n i = repeated n i 0

set_of_blank : (w g b k : ℕ) → k < 8 → set_at (blank w g b) k ≡ no_ids
set_of_blank w g b k h = get_or-replicate 8 k no_ids (record { words = [] }) h

pub blank_fresh : (w g b : ℕ) → Fresh w g b (blank w g b)
blank_fresh w g b =
    record {
      workers = refl;
      guards = refl;
      buffers = refl;
      lowest = refl;
      untaken = λ i. repeated 32 i false;
      unemployed = λ i. zeros 32 i;
      unposted = λ i. zeros 32 i;
      unused = λ i. ap₂ (λ (x y : ℕ). record { id = x; version = y }) (zeros 32 i) (zeros 32 i);
      free = λ id. zeros 256 (id - 1);
      idle = λ k. repeated 8 k no_worker;
      empty = λ k id h. ap (λ (s : IdSet). member_of s id) (set_of_blank w g b k h) ∙ member_none id;
    }

or_right : (t x : Bool) → x ≡ true → (t || x) ≡ true
or_right t x e = ap (λ (y : Bool). t || y) e ∙ or-true t

module _ (w g b : ℕ) (h : in_range w g b ≡ true) where
  some : ltb 0 g ≡ true
  some = lt-ltb 0 g (leb-true 1 g (each (leb 1 w) (leb w 8 ∷ leb 1 g ∷ leb g 32 ∷ leb 1 b ∷ leb b 256 ∷ []) h).1.1.0)

  made_parts : Parts (blank w g b)
  unfolding any_below
  made_parts =
      let low : leb 0 b ≡ true = le-leb 0 b (omega arith) in
      record {
        counts = ap₂ ◌&&◌ h some;
        guards_beyond_lem = all_of 32 (guards_beyond (blank w g b)) (λ i l. or_right (ltb i g) _ (rw (repeated 32 i false, zeros 32 i)));
        buffers_beyond_lem = all_of 256 (buffers_beyond (blank w g b)) (λ k l. or_right (ltb k b) _ (rw (zeros 256 (suc k - 1))));
        workers_beyond_lem = all_of 8 (workers_beyond (blank w g b)) (λ k l. or_right (ltb k w) _ (rw (repeated 8 k no_worker, set_of_blank w g b k l) (none_within 0)));
        employers = all_of 32 _ (λ i l. rw (zeros 32 i) (le-leb 0 w (omega arith)));
        states = all_of 256 _ (λ k l. rw (zeros 256 (suc k - 1)));
        labels = all_of 8 _ (λ k l. rw (repeated 8 k no_worker));
        guard_ids_lem = all_of 32 _ (λ i l. rw (zeros 32 i, low));
        worker_ids_lem = all_of 8 _ (λ k l. rw (repeated 8 k no_worker, set_of_blank w g b k l, low) (none_within b));
        registers = all_of 8 _ (λ k l. rw (repeated 8 k no_worker, some));
      }

  pub made_sound : sound_of (blank w g b) ≡ true
  made_sound = whole made_parts

-- ---- what making hands back

unmade : (w g b : ℕ) → in_range w g b ≡ false → make_of w g b ≡ answering (refused 1 0) (blank 0 0 0)
unfolding make_of unless
unmade w g b h = rw h

zero_not_sound : sound_of (blank 0 0 0) ≡ false
unfolding sound_of sound_check counts_check unless first
zero_not_sound = refl

pub made_fresh : MadeFresh
made_fresh =
    record {
      made_in_range = λ w g b h.
          let e = made w g b h in
          record { answer = rw e; fresh = rw e (blank_fresh w g b); sound = rw e (made_sound w g b h) };
      out_of_range = λ w g b h.
          let e = unmade w g b h in
          record { answer = rw e; all_zero = rw e (blank_fresh 0 0 0); unsound = rw e zero_not_sound };
    }
