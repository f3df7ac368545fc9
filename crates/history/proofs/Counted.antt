-- Any call, and any run: as many given up as handed back and left leaving. Assumes nothing.
use mathlib.Core.Path.{◌≡◌, refl, ap, ◌∙◌}
use mathlib.Core.Bool.{Bool, true, false}
use mathlib.Core.List.{List}
use Prim.Native.Nat.{ℕ, suc, ◌+◌, ◌-◌, ◌≤◌, ◌<◌}
use native.Mathlib.Decide.{ℕ_discrete}
use native.Mathlib.Omega.{arith}
use lib.Dec.{eqb}
use lib.ListN.{length, get_or, set}
use lib.Seq.{get_or-set_same, get_or-set_other}
use Rattle.basics.specs.Pick.{when}
use Rattle.basics.specs.Below.{one, count_below}
use Rattle.basics.specs.Among.{among}
use Rattle.basics.proofs.Any.{among_each}
use Rattle.basics.proofs.Count.{count_zero, count_cong}
use Rattle.basics.proofs.Picks.{when_both, unless_both}
use Rattle.idset.specs.Members.{member_of, size_of}
use Rattle.pool.specs.declared.WorkerNo.{WorkerNo}
use Rattle.pool.specs.declared.Pool.{Pool}
use Rattle.pool.specs.Answers.{Told, fine, after_check}
use Rattle.pool.specs.Record.{blank, state_of, set_at}
use Rattle.pool.specs.Sound.{sound_of}
use Rattle.pool.specs.Checks.{begin_check, fire_check, post_check, list_check, give_up_check, take_check, ask_check}
use Rattle.pool.specs.Begins.{hire_of, fire_of, post_of, leaving, give_up_of, take_of, ask_of}
use Rattle.pool.specs.Steps.{puts, ends, line2, line18, line28, freed, line_of, stand_check, advance_check, advance_of}
use Rattle.pool.proofs.Parts.{sizes_of}
use Rattle.pool.proofs.Firsts.{first_both}
use Rattle.pool.proofs.Checked.{takes, gives_up}
use Rattle.pool.proofs.Standing.{stands, worker_below}
use Rattle.rules.specs.Calls.{Call, hiring, firing, posting, giving_up, taking, asking, advancing, call}
use Rattle.rules.proofs.EachLine.{by_line}
use Rattle.rules.proofs.Fresh.{blank_fresh}
use Rattle.rules.proofs.ListChecked.{listed}
use Rattle.history.specs.States.{is_accepted, handed_back}
use Rattle.history.specs.Counts.{given_up_by}
use Rattle.rules.specs.Shaped.{Shaped}
use Rattle.rules.proofs.Outcomes.{after_both}
use Rattle.history.proofs.Heard.{at_buffer}
use Rattle.history.proofs.Placed.{Placed, member_wanted}
use Rattle.history.proofs.Sums.{count_parts, count_among}
use Rattle.history.proofs.Leaving.{leaving_number, member_most}

module _ (p : Pool) (sound : sound_of p ≡ true) (long : Shaped p) (a : Placed p) where
  abbrev Balanced : Call → Told → Type 0
  Balanced c t = given_up_by c t.answer + leaving_number p ≡ handed_back t.answer + leaving_number t.pool

  most : p.b ≤ 256
  most = (sizes_of p sound).b_most

  -- ---- begins

  hire_counted : (w : ℕ) → Balanced (hiring w) (hire_of p (record { 0 = w }))
  unfolding hire_of after_check given_up_by handed_back
  hire_counted w = after_both (Balanced (hiring w)) (begin_check p _) p _ (λ e. refl) (λ n place e. refl)

  fire_counted : (w g : ℕ) → Balanced (firing w g) (fire_of p (record { 0 = w }) (record { 0 = g }))
  unfolding fire_of after_check given_up_by handed_back
  fire_counted w g = after_both (Balanced (firing w g)) (fire_check p _ _) p _ (λ e. refl) (λ n place e. refl)

  post_counted : (w g b : ℕ) → Balanced (posting w g b) (post_of p (record { 0 = w }) (record { 0 = g }) (record { 0 = b }))
  unfolding post_of after_check given_up_by handed_back
  post_counted w g b = after_both (Balanced (posting w g b)) (post_check p _ _ _) p _ (λ e. refl) (λ n place e. refl)

  ask_counted : (w b : ℕ) → Balanced (asking w b) (ask_of p (record { 0 = w }) (record { 0 = b }))
  unfolding ask_of after_check given_up_by handed_back
  ask_counted w b =
      after_both (Balanced (asking w b)) (ask_check p _ _) p _
      (λ e. when_both (λ s. 0 + leaving_number p ≡ handed_back s + leaving_number p) (eqb (state_of p b) 1) _ _ (λ t. refl) (λ t. refl))
      (λ n place e. refl)

  -- the listed buffers, each named once and in service till now, are the new ones
  given_counted : (ids : List ℕ) → list_check p ids (length ids) ≡ fine
      → length ids + leaving_number p ≡ count_below 256 (λ k. eqb (get_or (leaving ids p) (suc k - 1) 0) 2)
  unfolding when
  given_counted ids e =
      let m = most in
      let many = count_among 256 ids (length ids) (λ k l.
      let h = listed p ids (length ids) e k l in
      record { some = h.names.some; most = omega arith; first = h.first_named }) in
      let parts = count_parts 256 (λ k. eqb (get_or (leaving ids p) (suc k - 1) 0) 2) (λ k. among ids (suc k)) (λ k. eqb (state_of p (suc k)) 2) (λ k l.
      rw (at_buffer (λ n. when (among ids n) 2 (state_of p n)) (suc k) (omega arith) l) (change (suc k) (among ids (suc k)) refl)) in
      omega arith
    where
      change : (id : ℕ) (t : Bool) → among ids id ≡ t → one (eqb (when t 2 (state_of p id)) 2) ≡ one t + one (eqb (state_of p id) 2)
      change id true q = rw (among_each (λ id. state_of p id ≡ 1) ids (λ k l. (listed p ids (length ids) e k l).in_service) id q)
      change id false q = omega arith

  give_up_counted : (w : ℕ) (ids : List ℕ) → Balanced (giving_up w ids) (give_up_of p (record { 0 = w }) ids)
  unfolding give_up_of after_check given_up_by handed_back is_accepted when
  give_up_counted w ids =
      after_both (Balanced (giving_up w ids)) (give_up_check p _ ids) p _
      (λ e. given_counted ids (gives_up p (record { 0 = w }) ids e).list ∙ omega arith)
      (λ n place e. refl)

  take_counted : (c : ℕ) → Balanced (taking c) (take_of p (record { 0 = c }))
  unfolding take_of after_check given_up_by handed_back
  take_counted c =
      after_both (Balanced (taking c)) (take_check p _) p _
      (λ e.
      let t = takes p (record { 0 = c }) e in
      ap (λ (n : ℕ). 0 + n)
      (count_cong 256 (λ k. eqb (state_of p (suc k)) 2) (λ k. eqb (get_or (set p.states (c - 1) 1) (suc k - 1) 0) 2) (λ k l.
      same t.free t.buffer.some t.buffer.most (suc k) (omega arith) (ℕ_discrete (suc k) c))))
      (λ n place e. refl)
    where
      same : state_of p c ≡ 0 → 1 ≤ c → c ≤ p.b → (id : ℕ) → 1 ≤ id → Dec (id ≡ c)
          → eqb (state_of p id) 2 ≡ eqb (get_or (set p.states (c - 1) 1) (id - 1) 0) 2
      same free some top id lo (yes q) =
          let m = most in
          let entries = long.states in
          rw (q, get_or-set_same p.states (c - 1) 1 0 (omega arith), free)
      same free some top id lo (no n) = rw (get_or-set_other p.states (c - 1) (id - 1) 1 0 (λ e. n (omega arith)))

  -- ---- the advance

  -- 32: the members were leaving, and are free
  back_counted : (k : ℕ) → k < 8 → leaving_number p ≡ size_of (set_at p k) + count_below 256 (λ j. eqb (get_or (freed (set_at p k) p) (suc j - 1) 0) 2)
  unfolding size_of when
  back_counted k below =
      count_parts 256 (λ j. eqb (state_of p (suc j)) 2) (λ j. member_of (set_at p k) (suc j)) (λ j. eqb (get_or (freed (set_at p k) p) (suc j - 1) 0) 2) (λ j l.
      rw (at_buffer (λ n. when (member_of (set_at p k) n) 0 (state_of p n)) (suc j) (omega arith) l) (change (suc j) (omega arith) (member_of (set_at p k) (suc j)) refl))
    where
      change : (id : ℕ) → 1 ≤ id → (t : Bool) → member_of (set_at p k) id ≡ t → one (eqb (state_of p id) 2) ≡ one t + one (eqb (when t 0 (state_of p id)) 2)
      change id lo true m = member_wanted a k below id lo (member_most p sound k below id m) m
      change id lo false m = omega arith

  module _ (w : ℕ) (out : List ℕ) where
    abbrev Fine : Told → Type 0
    Fine = Balanced (advancing w out)

    lines_counted : (l k : ℕ) → k < 8 → Fine (line_of l k p)
    unfolding puts ends line2 line18 line28 given_up_by handed_back
    lines_counted l k below =
        by_line Fine l k p
        (record {
          at2 = λ e. unless_both Fine _ _ _ (λ t. refl) (λ t. when_both Fine _ _ _ (λ t. refl) (λ t. refl));
          at4 = λ e. refl;
          at5 = λ e. refl;
          at6 = λ e. refl;
          at7 = λ e. refl;
          at8 = λ e. refl;
          at9 = λ e. refl;
          at10 = λ e. refl;
          at12 = λ e. refl;
          at13 = λ e. refl;
          at15 = λ e. refl;
          at18 = λ e. unless_both Fine _ _ _ (λ t. refl) (λ t. refl);
          at22 = λ e. refl;
          at25 = λ e. refl;
          at28 = λ e. unless_both Fine _ _ _ (λ t. refl) (λ t. refl);
          at31 = λ e. refl;
          at32 = λ none. omega (arith, back_counted k below);
        })

    advance_counted : Fine (advance_of p (record { 0 = w }) out)
    unfolding advance_of advance_check after_check given_up_by handed_back
    advance_counted =
        after_both Fine (advance_check p _ (length out)) p _
        (λ e. let no : WorkerNo = record { 0 = w } in lines_counted _ (w - 1) (worker_below (stands p no (first_both (stand_check p no) _ e).0)))
        (λ n place e. refl)

  -- ---- any call

  pub call_counted : (c : Call) → given_up_by c (call c p).answer + leaving_number p ≡ handed_back (call c p).answer + leaving_number (call c p).pool
  unfolding call
  call_counted (hiring w) = hire_counted w
  call_counted (firing w g) = fire_counted w g
  call_counted (posting w g b) = post_counted w g b
  call_counted (giving_up w ids) = give_up_counted w ids
  call_counted (taking b) = take_counted b
  call_counted (asking w b) = ask_counted w b
  call_counted (advancing w out) = advance_counted w out

pub fresh_counted : (w g b : ℕ) → leaving_number (blank w g b) ≡ 0
fresh_counted w g b = count_zero 256 (λ k. eqb (state_of (blank w g b) (suc k)) 2) (λ k l. ap (λ (n : ℕ). eqb n 2) ((blank_fresh w g b).free (suc k)))
