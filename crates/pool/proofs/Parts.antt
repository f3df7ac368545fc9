-- A sound record, rule by rule and array by array. Assumes nothing.
use mathlib.Core.Path.{◌≡◌, refl, sym, ap₂, ◌∙◌}
use mathlib.Core.Bool.{Bool, true, false, not, ◌&&◌, ◌||◌, and_assoc}
use mathlib.Core.List.{[], ◌∷◌}
use Prim.Native.Nat.{ℕ, suc, ◌≤◌, ◌<◌}
use native.Mathlib.Omega.{arith}
use lib.Dec.{eqb, leb, ltb}
use borrow.Author.Tests.{leb-true, ltb-true}
use Rattle.basics.specs.Below.{all_below}
use Rattle.basics.proofs.Truth.{each}
use Rattle.basics.proofs.All.{all_at}
use Rattle.idset.specs.Members.{within_of}
use Rattle.worker.specs.declared.Worker.{Worker}
use Rattle.pool.specs.declared.Pool.{Pool}
use Rattle.pool.specs.Answers.{first, is_fine}
use Rattle.pool.specs.Record.{worker_at, set_at}
use Rattle.pool.specs.Sound.{guards_keep, buffers_keep, workers_keep, counts_sound, counts_check, guards_beyond, buffers_beyond, workers_beyond, beyond_check, employer_in, state_in, is_label, label_in, kinds_check, guard_ids, worker_ids, ids_check, worker_registers, registers_check, sound_check, sound_of}
use Rattle.pool.proofs.Firsts.{fine_first, fine_keeps, fine_each}

-- ---- a sound record passes every test

pub record Parts (p : Pool) : Type 0 where
  pub counts : counts_sound p ≡ true
  pub guards_beyond_lem : all_below 32 (guards_beyond p) ≡ true
  pub buffers_beyond_lem : all_below 256 (buffers_beyond p) ≡ true
  pub workers_beyond_lem : all_below 8 (workers_beyond p) ≡ true
  pub employers : all_below 32 (employer_in p) ≡ true
  pub states : all_below 256 (state_in p) ≡ true
  pub labels : all_below 8 (label_in p) ≡ true
  pub guard_ids_lem : all_below 32 (guard_ids p) ≡ true
  pub worker_ids_lem : all_below 8 (worker_ids p) ≡ true
  pub registers : all_below 8 (worker_registers p) ≡ true

-- a rule that asks guards, buffers and workers
of_three : (rule : ℕ) (f g h : ℕ → Bool)
    → is_fine (first (guards_keep rule f) (first (buffers_keep rule g) (workers_keep rule h))) ≡ (all_below 32 f && (all_below 256 g && all_below 8 h))
of_three rule f g h =
    fine_first (guards_keep rule f) (first (buffers_keep rule g) (workers_keep rule h))
    ∙ ap₂ ◌&&◌ (fine_each 32 rule (λ i. i) f)
    (fine_first (buffers_keep rule g) (workers_keep rule h) ∙ ap₂ ◌&&◌ (fine_each 256 rule suc g) (fine_each 8 rule suc h))

in_a_row : (c a b d e f g h i r : Bool)
    → (c && ((a && (b && d)) && ((e && (f && g)) && ((h && i) && r)))) ≡ (c && a && b && d && e && f && g && h && i && r)
in_a_row c a b d e f g h i r = simp and_assoc

module _ (p : Pool) where
  -- the tests in the order of the rules
  pub sound_tests : sound_of p
      ≡ (counts_sound p && all_below 32 (guards_beyond p) && all_below 256 (buffers_beyond p) && all_below 8 (workers_beyond p)
      && all_below 32 (employer_in p) && all_below 256 (state_in p) && all_below 8 (label_in p)
      && all_below 32 (guard_ids p) && all_below 8 (worker_ids p) && all_below 8 (worker_registers p))
  unfolding sound_of sound_check counts_check beyond_check kinds_check ids_check registers_check
  sound_tests =
      fine_first (counts_check p) (first (beyond_check p) (first (kinds_check p) (first (ids_check p) (registers_check p))))
      ∙ ap₂ ◌&&◌ (fine_keeps 21 0 (counts_sound p))
      (fine_first (beyond_check p) (first (kinds_check p) (first (ids_check p) (registers_check p)))
      ∙ ap₂ ◌&&◌ (of_three 22 (guards_beyond p) (buffers_beyond p) (workers_beyond p))
      (fine_first (kinds_check p) (first (ids_check p) (registers_check p))
      ∙ ap₂ ◌&&◌ (of_three 23 (employer_in p) (state_in p) (label_in p))
      (fine_first (ids_check p) (registers_check p)
      ∙ ap₂ ◌&&◌
      (fine_first (guards_keep 24 (guard_ids p)) (workers_keep 24 (worker_ids p))
      ∙ ap₂ ◌&&◌ (fine_each 32 24 (λ i. i) (guard_ids p)) (fine_each 8 24 suc (worker_ids p)))
      (fine_each 8 25 suc (worker_registers p)))))
      ∙ in_a_row (counts_sound p) (all_below 32 (guards_beyond p)) (all_below 256 (buffers_beyond p)) (all_below 8 (workers_beyond p))
      (all_below 32 (employer_in p)) (all_below 256 (state_in p)) (all_below 8 (label_in p))
      (all_below 32 (guard_ids p)) (all_below 8 (worker_ids p)) (all_below 8 (worker_registers p))

module _ {p : Pool} where
  pub parts : sound_of p ≡ true → Parts p
  parts h =
      let e =
      each (counts_sound p) (all_below 32 (guards_beyond p) ∷ all_below 256 (buffers_beyond p) ∷ all_below 8 (workers_beyond p)
      ∷ all_below 32 (employer_in p) ∷ all_below 256 (state_in p) ∷ all_below 8 (label_in p)
      ∷ all_below 32 (guard_ids p) ∷ all_below 8 (worker_ids p) ∷ all_below 8 (worker_registers p) ∷ []) (sym (sound_tests p) ∙ h) in
      record {
        counts = e.0;
        guards_beyond_lem = e.1.0;
        buffers_beyond_lem = e.1.1.0;
        workers_beyond_lem = e.1.1.1.0;
        employers = e.1.1.1.1.0;
        states = e.1.1.1.1.1.0;
        labels = e.1.1.1.1.1.1.0;
        guard_ids_lem = e.1.1.1.1.1.1.1.0;
        worker_ids_lem = e.1.1.1.1.1.1.1.1.0;
        registers = e.1.1.1.1.1.1.1.1.1;
      }

  pub whole : Parts p → sound_of p ≡ true
  whole s =
      sound_tests p
      ∙ rw (s.counts, s.guards_beyond_lem, s.buffers_beyond_lem, s.workers_beyond_lem, s.employers, s.states, s.labels, s.guard_ids_lem, s.worker_ids_lem, s.registers)

-- ---- the counts, as plain ranges

pub record Sizes (p : Pool) : Type 0 where
  pub w_some : 1 ≤ p.w
  pub w_most : p.w ≤ 8
  pub g_some : 1 ≤ p.g
  pub g_most : p.g ≤ 32
  pub b_some : 1 ≤ p.b
  pub b_most : p.b ≤ 256
  pub maxg_below : p.maxg < p.g

pub sizes_in : (p : Pool) → counts_sound p ≡ true → Sizes p
sizes_in p h =
    let e = each (leb 1 p.w) (leb p.w 8 ∷ leb 1 p.g ∷ leb p.g 32 ∷ leb 1 p.b ∷ leb p.b 256 ∷ ltb p.maxg p.g ∷ []) h in
    omega (arith, leb-true, ltb-true)

pub sizes_of : (p : Pool) → sound_of p ≡ true → Sizes p
sizes_of p h = sizes_in p (parts h).counts

-- counts that are not are enough to say no
pub unsound_counts : (p : Pool) → counts_sound p ≡ false → false ≡ sound_of p
unsound_counts p h = sym (sound_tests p ∙ rw h refl)

-- ---- a worker's ids and registers, as plain tests

-- the two rules of `registers_in` that look at the label: on i, and on attempts
abbrev pub place_in : ℕ → Worker → Bool
place_in g x = ltb x.i g || (eqb x.label 12 || eqb x.label 32) && eqb x.i g

-- a label at which attempts may be 3
abbrev pub three_at : ℕ → Bool
three_at label = not (eqb label 15 || eqb label 18 || eqb label 22 || eqb label 25)

abbrev pub tries_in : Worker → Bool
tries_in x = leb x.attempts 2 || three_at x.label

pub record InUse (p : Pool) (k : ℕ) : Type 0 where
  pub label : is_label (worker_at p k).label ≡ true
  pub v : leb (worker_at p k).v p.b ≡ true
  pub h : leb (worker_at p k).h.id p.b ≡ true
  pub members : within_of (set_at p k) p.b ≡ true
  pub place : place_in p.g (worker_at p k) ≡ true
  pub max : ltb (worker_at p k).max p.g ≡ true
  pub attempts : leb (worker_at p k).attempts 3 ≡ true
  pub tries : tries_in (worker_at p k) ≡ true

pub worker_in : {p : Pool} → Parts p → (k : ℕ) → k < p.w → InUse p k
worker_in {p} s k l =
    let sizes = sizes_of p (whole s) in
    let l8 : k < 8 = omega arith in
    let x = worker_at p k in
    let ids =
    each (leb x.v p.b) (leb x.h.id p.b ∷ within_of (set_at p k) p.b ∷ [])
    (all_at 8 (worker_ids p) s.worker_ids_lem k l8) in
    let registers =
    each (place_in p.g x) (ltb x.max p.g ∷ leb x.attempts 3 ∷ tries_in x ∷ [])
    (all_at 8 (worker_registers p) s.registers k l8) in
    record {
      label = all_at 8 (label_in p) s.labels k l8;
      v = ids.0;
      h = ids.1.0;
      members = ids.1.1;
      place = registers.0;
      max = registers.1.0;
      attempts = registers.1.1.0;
      tries = registers.1.1.1;
    }
