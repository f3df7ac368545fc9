-- A begin keeps a sound record sound. Assumes nothing.
use mathlib.Core.Path.{◌≡◌, refl, sym, ◌∙◌}
use mathlib.Core.Bool.{true, or-true}
use mathlib.Core.List.{List}
use Prim.Native.Nat.{ℕ, ◌-◌, ◌≤◌, ◌<◌}
use native.Mathlib.Omega.{arith}
use lib.Dec.{leb}
use lib.ListN.{length}
use borrow.Author.Tests.{le-leb, lt-ltb, leb-true}
use Rattle.basics.specs.Below.{any_below}
use Rattle.basics.specs.Among.{among}
use Rattle.basics.proofs.Truth.{and_right}
use Rattle.idset.specs.Members.{is_id, within_of, set_of}
use Rattle.idset.proofs.Members.{member_set_of}
use Rattle.idset.proofs.Within.{within_all}
use Rattle.worker.specs.Registers.{to, with_i, with_v}
use Rattle.pool.specs.declared.Pool.{Pool}
use Rattle.pool.specs.declared.WorkerNo.{WorkerNo}
use Rattle.pool.specs.declared.GuardNo.{GuardNo}
use Rattle.pool.specs.declared.BufferId.{BufferId}
use Rattle.pool.specs.Answers.{Check, fine, Told, after_check}
use Rattle.pool.specs.Record.{worker_at, with_worker, with_states}
use Rattle.pool.specs.Sound.{is_label, sound_of}
use Rattle.pool.specs.Checks.{begin_check, list_check, fire_check, post_check, give_up_check, take_check, ask_check}
use Rattle.pool.specs.Begins.{leaving, hire_of, fire_of, post_of, give_up_of, take_of, ask_of}
use Rattle.pool.proofs.Parts.{Parts, parts, whole, three_at, worker_in}
use Rattle.pool.proofs.Checked.{begun, fires, posts, gives_up, takes}
use Rattle.rules.proofs.Outcomes.{after_both}
use Rattle.rules.proofs.ListChecked.{listed_buffer}
use Rattle.rules.proofs.Kept.{worker_kept, set_kept, employer_kept, some_states_kept, state_kept}

-- a refusal hands the record back
pub after_kept : (c : Check) (p : Pool) (d : Told) → sound_of p ≡ true → (c ≡ fine → Parts d.pool) → sound_of (after_check c p d).pool ≡ true
after_kept c p d h f = after_both (λ t. sound_of t.pool ≡ true) c p d (λ e. whole (f e)) (λ n place e. h)

-- a worker of the pool sent to a label that lets its attempts be, with i and v in range
module _ {p : Pool} (s : Parts p) (k : ℕ) (l : k < p.w) where
  pub sent : (label i v : ℕ) → is_label label ≡ true → three_at label ≡ true → i < p.g → v ≤ p.b
      → Parts (with_worker k (to label (with_v v (with_i i (worker_at p k)))) p)
  sent label i v known three lower most =
      let u = worker_in s k l in
      worker_kept s k l (to label (with_v v (with_i i (worker_at p k)))) known
      (rw (le-leb v p.b most, u.h, u.members))
      (rw (lt-ltb i p.g lower, u.max, u.attempts, three) (or-true (leb (worker_at p k).attempts 2)))

  -- v as it was
  pub sent_on : (label i : ℕ) → is_label label ≡ true → three_at label ≡ true → i < p.g
      → Parts (with_worker k (to label (with_i i (worker_at p k))) p)
  sent_on label i known three lower =
      let u = worker_in s k l in
      sent label i (worker_at p k).v known three lower (leb-true _ _ u.v)

-- ---- the buffers of a list that may be given up

module _ (p : Pool) (ids : List ℕ) (h : list_check p ids (length ids) ≡ fine) where
  members_within : within_of (set_of (among ids)) p.b ≡ true
  members_within =
      within_all (set_of (among ids)) p.b (λ id m.
      (listed_buffer p ids h id (and_right (is_id id) (among ids id) (sym (member_set_of (among ids) id) ∙ m))).most)

  leaving_kept : Parts p → Parts (with_states (leaving ids p) p)
  leaving_kept s = some_states_kept s (among ids) 2 (λ id e. (listed_buffer p ids h id e).most) (omega arith)

-- ---- the calls

module _ (p : Pool) where
  pub hire_kept : (w : WorkerNo) → sound_of p ≡ true → sound_of (hire_of p w).pool ≡ true
  unfolding hire_of any_below
  hire_kept w h = after_kept (begin_check p w) p _ h (λ e.
      let a = begun p w e in
      sent_on (parts h) (w.0 - 1) (omega arith) 2 0 refl refl (omega arith))

  pub fire_kept : (w : WorkerNo) (g : GuardNo) → sound_of p ≡ true → sound_of (fire_of p w g).pool ≡ true
  unfolding fire_of any_below
  fire_kept w g h = after_kept (fire_check p w g) p _ h (λ e.
      let a = fires p w g e in
      let below = a.guard.guard_below in
      sent_on (employer_kept (parts h) g.0 below 0 (omega arith)) (w.0 - 1) (omega arith) 7 g.0 refl refl below)

  pub post_kept : (w : WorkerNo) (g : GuardNo) (b : BufferId) → sound_of p ≡ true → sound_of (post_of p w g b).pool ≡ true
  unfolding post_of any_below
  post_kept w g b h = after_kept (post_check p w g b) p _ h (λ e.
      let a = posts p w g b e in
      sent (parts h) (w.0 - 1) (omega arith) 9 g.0 b.0 refl refl a.guard.guard_below a.most)

  pub give_up_kept : (w : WorkerNo) (ids : List ℕ) → sound_of p ≡ true → sound_of (give_up_of p w ids).pool ≡ true
  unfolding give_up_of any_below
  give_up_kept w ids h = after_kept (give_up_check p w ids) p _ h (λ e.
      let a = gives_up p w ids e in
      let l : w.0 - 1 < p.w = omega arith in
      sent_on (set_kept (leaving_kept p ids a.list (parts h)) (w.0 - 1) l (set_of (among ids)) (members_within p ids a.list))
      (w.0 - 1) l 12 0 refl refl (omega arith))

  pub take_kept : (b : BufferId) → sound_of p ≡ true → sound_of (take_of p b).pool ≡ true
  unfolding take_of
  take_kept b h = after_kept (take_check p b) p _ h (λ e.
      let a = takes p b e in
      state_kept (parts h) b.0 1 a.buffer.some a.buffer.most (omega arith))

  pub ask_kept : (w : WorkerNo) (b : BufferId) → sound_of p ≡ true → sound_of (ask_of p w b).pool ≡ true
  unfolding ask_of
  ask_kept w b h = after_kept (ask_check p w b) p _ h (λ e. parts h)
