-- A sound record with one thing replaced is sound, if what is new is in range. Assumes nothing.
use mathlib.Core.Path.{◌≡◌, refl, sym, ap₂, ◌∙◌}
use mathlib.Core.Bool.{Bool, true, false, ◌&&◌, ◌||◌}
use mathlib.Core.List.{List, [], ◌∷◌}
use Prim.Native.Nat.{ℕ, suc, ◌-◌, ◌≤◌, ◌<◌}
use native.Mathlib.Omega.{arith}
use lib.Dec.{eqb, leb, ltb}
use lib.ListN.{get_or, set}
use lib.Seq.{get_or-set_other}
use borrow.Author.Tests.{le-leb, lt-ltb}
use Rattle.basics.specs.Below.{all_below, table}
use Rattle.basics.specs.Pick.{when}
use Rattle.basics.proofs.Truth.{and_left, each}
use Rattle.basics.proofs.All.{all_at, all_of, all_set, all_beyond}
use Rattle.basics.proofs.Table.{table_at}
use Rattle.idset.specs.declared.IdSet.{IdSet}
use Rattle.idset.specs.Members.{within_of}
use Rattle.worker.specs.declared.Slot.{Slot}
use Rattle.worker.specs.declared.Worker.{Worker}
use Rattle.worker.specs.Registers.{no_worker}
use Rattle.pool.specs.declared.Pool.{Pool}
use Rattle.pool.specs.Record.{posted_at, slot_at, state_of, worker_at, set_at, with_maxg, with_taken, with_employer, with_posted, with_slot, with_states, with_state, with_worker, with_set}
use Rattle.pool.specs.Sound.{in_range, counts_sound, guards_beyond, buffers_beyond, workers_beyond, zero_guard, zero_worker, employer_in, state_in, is_label, label_in, guard_ids, ids_in, worker_ids, registers_in, worker_registers}
use Rattle.pool.proofs.Parts.{Parts, whole, sizes_of, worker_in}
use Rattle.pool.proofs.Scans.{fits, entry, states_fit}

-- what is asked of the guards, the buffers and the workers: of those that a change leaves, the same statement after it
abbrev Guards : Pool → Type 0
Guards p = (all_below 32 (guards_beyond p) ≡ true) × (all_below 32 (employer_in p) ≡ true) × (all_below 32 (guard_ids p) ≡ true)

abbrev Buffers : Pool → Type 0
Buffers p = (all_below 256 (state_in p) ≡ true) × (all_below 256 (buffers_beyond p) ≡ true)

abbrev Workers : Pool → Type 0
Workers p =
    (all_below 8 (workers_beyond p) ≡ true) × (all_below 8 (label_in p) ≡ true) × (all_below 8 (worker_ids p) ≡ true) × (all_below 8 (worker_registers p) ≡ true)

made_up : {p : Pool} → counts_sound p ≡ true → Guards p → Buffers p → Workers p → Parts p
made_up c g b w =
    record {
      counts = c;
      guards_beyond_lem = g.0;
      buffers_beyond_lem = b.1;
      workers_beyond_lem = w.0;
      employers = g.1;
      states = b.0;
      labels = w.1;
      guard_ids_lem = g.2;
      worker_ids_lem = w.2;
      registers = w.3;
    }

-- a worker as it is beyond the count
abbrev zeroed : Pool → ℕ → Bool
zeroed p k = zero_worker (worker_at p k) && within_of (set_at p k) 0

-- an entry replaced below the count leaves those from the count on
past : {A : Type 0} {count i : ℕ} → i < count → (xs : List A) (a d : A) (k : ℕ) → count ≤ k → get_or (set xs i a) k d ≡ get_or xs k d
past {i = i} l xs a d k h = get_or-set_other xs i k a d (λ e. omega arith)

module _ {p : Pool} (s : Parts p) where
  guards : Guards p
  guards = (s.guards_beyond_lem, s.employers, s.guard_ids_lem)

  buffers : Buffers p
  buffers = (s.states, s.buffers_beyond_lem)

  workers : Workers p
  workers = (s.workers_beyond_lem, s.labels, s.worker_ids_lem, s.registers)

  pub maxg_kept : (m : ℕ) → m < p.g → Parts (with_maxg m p)
  maxg_kept m h =
      made_up (ap₂ ◌&&◌ (and_left (in_range p.w p.g p.b) (ltb p.maxg p.g) s.counts) (lt-ltb m p.g h))
      guards buffers workers

  -- ---- guards

  beyond_guards : (q : Pool) → ((k : ℕ) → p.g ≤ k → zero_guard q k ≡ zero_guard p k) → all_below 32 (λ k. ltb k p.g || zero_guard q k) ≡ true
  beyond_guards q = all_beyond 32 p.g (zero_guard p) (zero_guard q) s.guards_beyond_lem

  module _ (i : ℕ) (l : i < p.g) where
    pub taken_kept : (t : Bool) → Parts (with_taken i t p)
    taken_kept t =
        made_up s.counts (beyond_guards (with_taken i t p) (λ k b. rw (past l p.taken t false k b)), s.employers, s.guard_ids_lem) buffers workers

    pub employer_kept : (n : ℕ) → n ≤ p.w → Parts (with_employer i n p)
    employer_kept n h =
        made_up s.counts (
          beyond_guards (with_employer i n p) (λ k b. rw (past l p.employer n 0 k b)),
          all_set 32 (λ k x. leb x p.w) p.employer i n 0 s.employers (le-leb n p.w h),
          s.guard_ids_lem,
        ) buffers workers

    -- both ids of guard i are in range
    pub guard_in : (leb (posted_at p i) p.b ≡ true) × (leb (slot_at p i).id p.b ≡ true)
    guard_in =
        let sizes = sizes_of p (whole s) in
        each (leb (posted_at p i) p.b) (leb (slot_at p i).id p.b ∷ []) (all_at 32 (guard_ids p) s.guard_ids_lem i (omega arith))

    pub posted_kept : (id : ℕ) → id ≤ p.b → Parts (with_posted i id p)
    posted_kept id h =
        made_up s.counts (
          beyond_guards (with_posted i id p) (λ k b. rw (past l p.posted id 0 k b)),
          s.employers,
          all_set 32 (λ k x. leb x p.b && leb (slot_at p k).id p.b) p.posted i id 0 s.guard_ids_lem (ap₂ ◌&&◌ (le-leb id p.b h) guard_in.1),
        )
        buffers workers

    pub slot_kept : (x : Slot) → x.id ≤ p.b → Parts (with_slot i x p)
    slot_kept x h =
        made_up s.counts (
          beyond_guards (with_slot i x p) (λ k b. rw (past l p.slot_id x.id 0 k b, past l p.slot_version x.version 0 k b)),
          s.employers,
          all_set 32 (λ k n. leb (posted_at p k) p.b && leb n p.b) p.slot_id i x.id 0 s.guard_ids_lem
              (ap₂ ◌&&◌ guard_in.0 (le-leb x.id p.b h)),
        )
        buffers workers

  -- ---- buffers

  pub states_kept : (l : List ℕ) → all_below 256 (fits l p.b) ≡ true → Parts (with_states l p)
  states_kept l h =
      let q = with_states l p in
      made_up s.counts guards
      (each (all_below 256 (λ k. leb (state_of q (suc k)) 2)) (all_below 256 (buffers_beyond q) ∷ []) (sym (states_fit q) ∙ h)) workers

  states_fitted : all_below 256 (fits p.states p.b) ≡ true
  states_fitted = states_fit p ∙ ap₂ ◌&&◌ s.states s.buffers_beyond_lem

  pub state_kept : (id x : ℕ) → 1 ≤ id → id ≤ p.b → x ≤ 2 → Parts (with_state id x p)
  state_kept id x some most h =
      states_kept (set p.states (id - 1) x)
      (all_set 256 (λ k x. leb x 2 && (ltb k p.b || eqb x 0)) p.states (id - 1) x 0 states_fitted
      (rw (le-leb x 2 h, lt-ltb (id - 1) p.b (omega arith))))

  -- the buffers that a test picks: all to one state
  pub some_states_kept : (test : ℕ → Bool) (x : ℕ) → ((id : ℕ) → test id ≡ true → id ≤ p.b) → x ≤ 2
      → Parts (with_states (table 256 (λ k. when (test (suc k)) x (state_of p (suc k)))) p)
  unfolding when
  some_states_kept test x most h =
      states_kept (table 256 new) (all_of 256 (fits (table 256 new) p.b) (λ k l. rw (table_at 256 new k 0 l) (go k l (test (suc k)) refl)))
    where
      new : ℕ → ℕ
      new k = when (test (suc k)) x (state_of p (suc k))

      go : (k : ℕ) → k < 256 → (t : Bool) → test (suc k) ≡ t
          → (leb (when t x (state_of p (suc k))) 2 && (ltb k p.b || eqb (when t x (state_of p (suc k))) 0)) ≡ true
      go k l true e = rw (le-leb x 2 h, lt-ltb k p.b (most (suc k) e))
      go k l false e = rw (← entry p k) (all_at 256 (fits p.states p.b) states_fitted k l)

  -- ---- workers

  beyond_workers : (q : Pool) → ((j : ℕ) → p.w ≤ j → zeroed q j ≡ zeroed p j) → all_below 8 (λ j. ltb j p.w || zeroed q j) ≡ true
  beyond_workers q = all_beyond 8 p.w (zeroed p) (zeroed q) s.workers_beyond_lem

  module _ (k : ℕ) (l : k < p.w) where
    pub worker_kept : (x : Worker) → is_label x.label ≡ true → ids_in p.b x (set_at p k) ≡ true → registers_in p.g x ≡ true
        → Parts (with_worker k x p)
    worker_kept x label ids registers =
        made_up s.counts guards buffers (
          beyond_workers (with_worker k x p) (λ j b. rw (past l p.workers x no_worker j b)),
          all_set 8 (λ j y. is_label y.label) p.workers k x no_worker s.labels label,
          all_set 8 (λ j y. ids_in p.b y (set_at p j)) p.workers k x no_worker s.worker_ids_lem ids,
          all_set 8 (λ j y. registers_in p.g y) p.workers k x no_worker s.registers registers,
        )

    pub set_kept : (t : IdSet) → within_of t p.b ≡ true → Parts (with_set k t p)
    set_kept t h =
        let u = worker_in s k l in
        let none : IdSet = record { words = [] } in
        made_up s.counts guards buffers (
          beyond_workers (with_set k t p) (λ j b. rw (past l p.sets t none j b)),
          s.labels,
          all_set 8 (λ j y. ids_in p.b (worker_at p j) y) p.sets k t none s.worker_ids_lem (rw (u.v, u.h, h)),
          s.registers,
        )
