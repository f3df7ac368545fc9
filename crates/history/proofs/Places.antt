-- Any call, and any run from a fresh pool, leaves each leaving buffer its one place. Assumes nothing.
use mathlib.Core.Path.{◌≡◌, refl, sym, ap, ap₂, ◌∙◌}
use mathlib.Core.Bool.{Bool, true, false, not, ◌&&◌, ◌||◌, false≢true}
use mathlib.Core.List.{List}
use Prim.Native.Nat.{ℕ, ◌+◌, ◌-◌, ◌≤◌, ◌<◌}
use native.Mathlib.Decide.{ℕ_discrete}
use native.Mathlib.Omega.{arith}
use lib.Dec.{eqb}
use lib.ListN.{length, get_or, set}
use lib.Seq.{get_or-set_same, get_or-set_other}
use borrow.Author.Tests.{eqb-true, eq-eqb, ne_eqb}
use Rattle.basics.specs.Pick.{when}
use Rattle.basics.specs.Below.{one}
use Rattle.basics.specs.Among.{among}
use Rattle.basics.proofs.Any.{among_each}
use Rattle.basics.proofs.Count.{count_zero}
use Rattle.basics.proofs.Picks.{when_both, unless_both}
use Rattle.basics.proofs.Truth.{and_left, and_right}
use Rattle.idset.specs.declared.IdSet.{IdSet}
use Rattle.idset.specs.Members.{member_of, no_ids, set_of, with_of, without_of}
use Rattle.idset.proofs.Members.{id_true, member_set_of, member_none, member_with, member_without}
use Rattle.worker.specs.declared.Worker.{Worker}
use Rattle.worker.specs.Registers.{no_worker, to, with_v}
use Rattle.worker.specs.Steps.{at22}
use Rattle.pool.specs.declared.WorkerNo.{WorkerNo}
use Rattle.pool.specs.declared.Pool.{Pool}
use Rattle.pool.specs.Answers.{Told, after_check}
use Rattle.pool.specs.Record.{blank, state_of, worker_at, set_at, with_states, with_worker, with_set}
use Rattle.pool.specs.Sound.{sound_of}
use Rattle.pool.specs.Checks.{begin_check, fire_check, post_check, give_up_check, take_check, ask_check}
use Rattle.pool.specs.Begins.{hire_of, fire_of, post_of, leaving, give_up_of, take_of, ask_of}
use Rattle.pool.specs.Steps.{i_of, posted_here, unchanged, unposted, puts, ends, line2, line18, line28, freed, line_of, stand_check, advance_check, advance_of}
use Rattle.pool.specs.ForProofs.Ready.{Stands}
use Rattle.pool.proofs.Parts.{sizes_of}
use Rattle.pool.proofs.Firsts.{first_both}
use Rattle.pool.proofs.Checked.{Begun, begun, fires, posts, takes, GivesUp, gives_up}
use Rattle.pool.proofs.Standing.{stands, worker_below, ready}
use Rattle.rules.specs.Calls.{Call, hiring, firing, posting, giving_up, taking, asking, advancing, call}
use Rattle.rules.proofs.EachLine.{by_line}
use Rattle.rules.proofs.Fresh.{blank_fresh}
use Rattle.rules.proofs.ListChecked.{listed}
use Rattle.rules.specs.Shaped.{Shaped}
use Rattle.rules.proofs.Outcomes.{after_both}
use Rattle.history.proofs.Heard.{at_buffer}
use Rattle.history.proofs.Placed.{gives, tries, Carries, wanted, Placed, restated, member_wanted, slot_alone, replaced, worker_replaced, slot_replaced}

-- ---- a worker and its set, by the label

module _ (x : Worker) (s : IdSet) where
  empty_set : tries x.label ≡ false → ((id : ℕ) → member_of s id ≡ false) → Carries x s
  empty_set t e = record { outside = λ n. e; trying = λ y. absurd (false≢true (sym t ∙ y)) }

  any_set : gives x.label ≡ true → tries x.label ≡ false → Carries x s
  any_set g t = record { outside = λ n. absurd (false≢true (sym n ∙ g)); trying = λ y. absurd (false≢true (sym t ∙ y)) }

  set_with_v : gives x.label ≡ true → member_of s x.v ≡ true → Carries x s
  set_with_v g m = record { outside = λ n. absurd (false≢true (sym n ∙ g)); trying = λ y. m }

module _ (p : Pool) (sound : sound_of p ≡ true) (long : Shaped p) (a : Placed p) where
  abbrev Fine : Told → Type 0
  Fine t = Placed t.pool

  most : p.b ≤ 256
  most = (sizes_of p sound).b_most

  -- ---- begins

  module _ {w : WorkerNo} (b : Begun p w) where
    begun_below : w.0 - 1 < 8
    begun_below = omega arith

    begun_empty : (id : ℕ) → member_of (set_at p (w.0 - 1)) id ≡ false
    begun_empty = (a.holds (w.0 - 1) begun_below).outside (ap gives b.idle)

    begins : (x : Worker) → tries x.label ≡ false → Placed (with_worker (w.0 - 1) x p)
    begins x t = worker_replaced long a (w.0 - 1) begun_below x (empty_set x _ t begun_empty)

  hire_placed : (w : ℕ) → Fine (hire_of p (record { 0 = w }))
  unfolding hire_of after_check
  hire_placed w = after_both Fine (begin_check p _) p _ (λ e. begins (begun p _ e) _ refl) (λ n place e. a)

  fire_placed : (w g : ℕ) → Fine (fire_of p (record { 0 = w }) (record { 0 = g }))
  unfolding fire_of after_check
  fire_placed w g = after_both Fine (fire_check p _ _) p _ (λ e. begins (fires p _ _ e).begun _ refl) (λ n place e. a)

  post_placed : (w g b : ℕ) → Fine (post_of p (record { 0 = w }) (record { 0 = g }) (record { 0 = b }))
  unfolding post_of after_check
  post_placed w g b = after_both Fine (post_check p _ _ _) p _ (λ e. begins (posts p _ _ _ e).begun _ refl) (λ n place e. a)

  ask_placed : (w b : ℕ) → Fine (ask_of p (record { 0 = w }) (record { 0 = b }))
  unfolding ask_of after_check
  ask_placed w b = after_both Fine (ask_check p _ _) p _ (λ e. a) (λ n place e. a)

  -- a listed buffer, in service till now, has the set for its one place
  give_up_change : (w : WorkerNo) (ids : List ℕ) → GivesUp p w ids → (id : ℕ) → 1 ≤ id → id ≤ p.b
      → one (member_of (set_of (among ids)) id) + wanted p.states id ≡ one (member_of (set_at p (w.0 - 1)) id) + wanted (leaving ids p) id
  unfolding when
  give_up_change w ids g id lo hi =
      let m = most in
      rw (member_set_of (among ids) id, id_true id lo (omega arith), begun_empty g.begun id, at_buffer (λ n. when (among ids n) 2 (state_of p n)) id lo (omega arith))
      (change (among ids id) refl)
    where
      change : (t : Bool) → among ids id ≡ t → one t + wanted p.states id ≡ 0 + one (eqb (when t 2 (state_of p id)) 2)
      change true e =
          let q : state_of p id ≡ 1 = among_each (λ id. state_of p id ≡ 1) ids (λ k l. (listed p ids (length ids) g.list k l).in_service) id e in
          rw q
      change false e = refl

  give_up_placed : (w : ℕ) (ids : List ℕ) → Fine (give_up_of p (record { 0 = w }) ids)
  unfolding give_up_of after_check
  give_up_placed w ids =
      after_both Fine (give_up_check p _ ids) p _
      (λ e.
      let g = gives_up p (record { 0 = w }) ids e in
      replaced long a (w - 1) (begun_below g.begun) p.slot_id (leaving ids p) _ _ (any_set _ _ refl refl)
      (λ id lo hi. omega (arith, give_up_change (record { 0 = w }) ids g id lo hi)))
      (λ n place e. a)

  take_placed : (c : ℕ) → Fine (take_of p (record { 0 = c }))
  unfolding take_of after_check
  take_placed c =
      after_both Fine (take_check p _) p _
      (λ e.
      let t = takes p (record { 0 = c }) e in
      restated a (set p.states (c - 1) 1) (λ id lo hi.
      same t.free t.buffer.some t.buffer.most id lo hi (ℕ_discrete id c)))
      (λ n place e. a)
    where
      same : state_of p c ≡ 0 → 1 ≤ c → c ≤ p.b → (id : ℕ) → 1 ≤ id → id ≤ p.b → Dec (id ≡ c) → wanted (set p.states (c - 1) 1) id ≡ wanted p.states id
      same free some top id lo hi (yes q) =
          let m = most in
          let entries = long.states in
          rw (q, get_or-set_same p.states (c - 1) 1 0 (omega arith), free)
      same free some top id lo hi (no n) = rw (get_or-set_other p.states (c - 1) (id - 1) 1 0 (λ e. n (omega arith)))

  -- ---- the advance

  module _ (k : ℕ) (st : Stands p k) where
    abbrev pub x : Worker
    x = worker_at p k

    abbrev pub s : IdSet
    s = set_at p k

    below : k < 8
    below = worker_below st

    held : Carries x s
    held = a.holds k below

    outside_at : (n : ℕ) → x.label ≡ n → gives n ≡ false → (id : ℕ) → member_of s id ≡ false
    outside_at n e g = held.outside (ap gives e ∙ g)

    trying_at : (n : ℕ) → x.label ≡ n → tries n ≡ true → member_of s x.v ≡ true
    trying_at n e t = held.trying (ap tries e ∙ t)

    goes_on : (y : Worker) → Carries y s → Placed (with_worker k y p)
    goes_on y h = worker_replaced long a k below y h

    -- outside of a give-up
    quiet : (n : ℕ) → x.label ≡ n → gives n ≡ false → (y : Worker) → tries y.label ≡ false → Placed (with_worker k y p)
    quiet n e g y t = goes_on y (empty_set y s t (outside_at n e g))

    -- at an end
    abbrev closed : List ℕ → Pool
    closed states = with_set k no_ids (with_worker k no_worker (with_states states p))

    ended : (states : List ℕ)
        → ((id : ℕ) → 1 ≤ id → id ≤ p.b → wanted p.states id ≡ one (member_of s id) + wanted states id)
        → Placed (closed states)
    ended states change =
        replaced long a k below p.slot_id states no_worker no_ids (empty_set no_worker no_ids refl member_none) (λ id lo hi.
        rw (member_none id) (omega (arith, change id lo hi)))

    quiet_end : (n : ℕ) → x.label ≡ n → gives n ≡ false → Placed (closed p.states)
    quiet_end n e g = ended p.states (λ id lo hi. rw (outside_at n e g id) (omega arith))

    -- 32: a member was leaving, and is free
    last_placed : Placed (closed (freed s p))
    unfolding when
    last_placed =
        ended (freed s p) (λ id lo hi.
        let m = most in
        rw (at_buffer (λ n. when (member_of s n) 0 (state_of p n)) id lo (omega arith)) (change id lo hi (member_of s id) refl))
      where
        change : (id : ℕ) → 1 ≤ id → id ≤ p.b → (t : Bool) → member_of s id ≡ t
            → wanted p.states id ≡ one (member_of s id) + one (eqb (when (member_of s id) 0 (state_of p id)) 2)
        change id lo hi true e = rw e (member_wanted a k below id lo hi e)
        change id lo hi false e = rw e (omega arith)

    slot_here_lem : (n : ℕ) → x.label ≡ n → (eqb n 12 || eqb n 32) ≡ false → i_of p k < 32
    slot_here_lem n e short = (ready p k n st e short).i_below

    abbrev pub slot_id : ℕ
    slot_id = get_or p.slot_id (i_of p k) 0

    abbrev pub h : ℕ
    h = x.h.id

    pub same_id : unchanged k p ≡ true → slot_id ≡ h
    same_id e = eqb-true slot_id h (and_left (eqb slot_id h) _ e)

    -- 18: v leaves the set for the slot, and what the slot held joins
    pub exchange_change : x.label ≡ 18 → slot_id ≡ h → (id : ℕ) → 1 ≤ id → id ≤ p.b → Dec (id ≡ x.v) → Dec (id ≡ h)
        → one (eqb x.v id) + one (member_of (with_of (without_of s x.v) h) id) ≡ one (eqb slot_id id) + one (member_of s id)
    exchange_change e q id lo hi d c =
        let m = most in
        rw (member_with (without_of s x.v) h id, member_without s x.v id, id_true id lo (omega arith), q) (go d c)
      where
        alone : id ≡ h → member_of s id ≡ false
        alone r = slot_alone a k below id (i_of p k) lo hi (slot_here_lem 18 e refl) (q ∙ sym r)

        mine : id ≡ x.v → member_of s id ≡ true
        mine r = ap (member_of s) r ∙ trying_at 18 e refl

        go : Dec (id ≡ x.v) → Dec (id ≡ h)
            → one (eqb x.v id) + one (eqb id h || (not (eqb id x.v) && member_of s id)) ≡ one (eqb h id) + one (member_of s id)
        go (yes v) (yes r) = absurd (false≢true (sym (alone r) ∙ mine v))
        go (yes v) (no r) = rw (mine v, eq-eqb id x.v v, eq-eqb x.v id (sym v), ne_eqb id h r, ne_eqb h id (λ z. r (sym z)))
        go (no v) (yes r) = rw (alone r, ne_eqb id x.v v, ne_eqb x.v id (λ z. v (sym z)), eq-eqb id h r, eq-eqb h id (sym r))
        go (no v) (no r) = rw (ne_eqb id x.v v, ne_eqb x.v id (λ z. v (sym z)), ne_eqb id h r, ne_eqb h id (λ z. r (sym z)))

    -- 28: what the slot held joins
    pub collect_change : x.label ≡ 28 → slot_id ≡ h → (id : ℕ) → 1 ≤ id → id ≤ p.b → Dec (id ≡ h)
        → one (eqb 0 id) + one (member_of (with_of s h) id) ≡ one (eqb slot_id id) + one (member_of s id)
    collect_change e q id lo hi d =
        let m = most in
        rw (member_with s h id, id_true id lo (omega arith), q, ne_eqb 0 id (λ z. omega arith)) (go d)
      where
        go : Dec (id ≡ h) → 0 + one (eqb id h || member_of s id) ≡ one (eqb h id) + one (member_of s id)
        go (yes r) =
            rw (slot_alone a k below id (i_of p k) lo hi (slot_here_lem 28 e refl) (q ∙ sym r), eq-eqb id h r, eq-eqb h id (sym r))
        go (no r) = rw (ne_eqb id h r, ne_eqb h id (λ z. r (sym z)))

    lines_placed : Fine (line_of x.label k p)
    unfolding puts ends line2 line18 line28 at22
    lines_placed =
        by_line Fine x.label k p
        (record {
          at2 = λ e. unless_both Fine _ _ _ (λ t. quiet 2 e refl _ refl)
              (λ t. when_both Fine _ _ _ (λ t. quiet_end 2 e refl) (λ t. quiet 2 e refl _ (ap tries e)));
          at4 = λ e. quiet 4 e refl _ (when_both (λ n. tries n ≡ false) _ 5 6 (λ t. refl) (λ t. refl));
          at5 = λ e. quiet 5 e refl _ refl;
          at6 = λ e. quiet_end 6 e refl;
          at7 = λ e. quiet 7 e refl _ refl;
          at8 = λ e. quiet_end 8 e refl;
          at9 = λ e. quiet 9 e refl _ refl;
          at10 = λ e. quiet_end 10 e refl;
          at12 = λ e. goes_on _ (when_both (λ n. Carries (to n x) s) _ 13 32 (λ t. any_set _ _ refl refl) (λ t. any_set _ _ refl refl));
          at13 = λ e. goes_on _ (any_set _ _ refl refl);
          at15 = λ e. goes_on _ (when_both (λ n. Carries (to n (with_v (posted_here p k) x)) s) _ 18 28
              (λ t. set_with_v _ _ refl (and_right (not (eqb (posted_here p k) 0)) _ t)) (λ t. any_set _ _ refl refl));
          at18 = λ e. unless_both Fine _ _ _ (λ t. goes_on _ (set_with_v _ _ refl (trying_at 18 e refl)))
              (λ t.
              slot_replaced long a k below (i_of p k) x.v _ _ (slot_here_lem 18 e refl) (any_set _ _ refl refl) (λ id lo hi.
              exchange_change e (same_id t) id lo hi (ℕ_discrete id x.v) (ℕ_discrete id h)));
          at22 = λ e. goes_on _ (when_both (λ y. Carries y s) _ _ _ (λ t. any_set _ _ refl refl) (λ t. set_with_v _ _ refl (trying_at 22 e refl)));
          at25 = λ e. goes_on _ (when_both (λ n. Carries (to n x) s) _ 31 18 (λ t. any_set _ _ refl refl) (λ t. set_with_v _ _ refl (trying_at 25 e refl)));
          at28 = λ e. unless_both Fine _ _ _ (λ t. goes_on _ (any_set _ _ refl refl))
              (λ t.
              slot_replaced long a k below (i_of p k) 0 _ _ (slot_here_lem 28 e refl) (any_set _ _ refl refl) (λ id lo hi.
              collect_change e (same_id (and_right (unposted k p) (unchanged k p) t)) id lo hi (ℕ_discrete id h)));
          at31 = λ e. goes_on _ (any_set _ _ refl refl);
          at32 = λ none. last_placed;
        })

  advance_placed : (w : ℕ) (out : List ℕ) → Fine (advance_of p (record { 0 = w }) out)
  unfolding advance_of advance_check after_check
  advance_placed w out =
      after_both Fine (advance_check p _ (length out)) p _
      (λ e. let no : WorkerNo = record { 0 = w } in lines_placed (w - 1) (stands p no (first_both (stand_check p no) _ e).0))
      (λ n place e. a)

  -- ---- any call

  pub call_placed : (c : Call) → Fine (call c p)
  unfolding call
  call_placed (hiring w) = hire_placed w
  call_placed (firing w g) = fire_placed w g
  call_placed (posting w g b) = post_placed w g b
  call_placed (giving_up w ids) = give_up_placed w ids
  call_placed (taking b) = take_placed b
  call_placed (asking w b) = ask_placed w b
  call_placed (advancing w out) = advance_placed w out

-- ---- a fresh pool

pub fresh_placed : (w g b : ℕ) → Placed (blank w g b)
fresh_placed w g b =
    let f = blank_fresh w g b in
    record {
      holds = λ k l. empty_set _ _ (ap (λ (x : Worker). tries x.label) (f.idle k)) (λ id. f.empty k id l);
      places = λ id lo hi.
          rw (f.free id)
          (ap₂ ◌+◌
          (count_zero 32 _ (λ i l. ap (λ x. eqb x.id id) (f.unused i) ∙ ne_eqb 0 id (λ z. omega arith)))
          (count_zero 8 _ (λ k l. f.empty k id l)));
    }
