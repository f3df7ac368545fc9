-- Any call keeps what a record and its history say together of posts and holds. Assumes nothing.
use mathlib.Core.Path.{◌≡◌, refl, sym, ap, ap₂, ◌∙◌}
use mathlib.Core.Logic.{◌≢◌, inl, inr}
use mathlib.Core.Bool.{Bool, true, false, not, ◌&&◌, ◌||◌, false≢true}
use mathlib.Core.List.{List}
use Prim.Native.Nat.{ℕ, ◌+◌, ◌-◌, ◌≤◌, ◌<◌}
use native.Mathlib.Decide.{ℕ_discrete}
use native.Mathlib.Omega.{arith}
use lib.Dec.{eqb}
use lib.ListN.{length}
use borrow.Author.Tests.{eqb-true, eqb-false, eq-eqb, ne_eqb, ltb-true, ltb-false, leb-true, not-true, not-false}
use Rattle.basics.specs.Pick.{when}
use Rattle.basics.specs.Below.{one}
use Rattle.basics.specs.Among.{among}
use Rattle.basics.proofs.Picks.{when_both, unless_both}
use Rattle.basics.proofs.Truth.{and_left, and_right, or_cases}
use Rattle.idset.specs.Members.{member_of, no_ids, set_of}
use Rattle.idset.proofs.Members.{member_none}
use Rattle.worker.specs.declared.Worker.{Worker}
use Rattle.worker.specs.Registers.{no_worker, to, with_i, with_v, with_max}
use Rattle.worker.specs.Steps.{at22}
use Rattle.pool.specs.declared.WorkerNo.{WorkerNo}
use Rattle.pool.specs.declared.Pool.{Pool}
use Rattle.pool.specs.Answers.{Told, posted, after_check}
use Rattle.pool.specs.Record.{employer_at, posted_at, state_of, taken_at, worker_at, set_at, with_maxg, with_taken, with_employer, with_posted, with_worker}
use Rattle.pool.specs.Checks.{begin_check, fire_check, post_check, give_up_check, take_check, ask_check}
use Rattle.pool.specs.Begins.{hire_of, fire_of, post_of, give_up_of, take_of, ask_of}
use Rattle.pool.specs.Steps.{i_of, posted_here, slot_here, unchanged, unposted, puts, ends, line2, line18, line28, line_of, stand_check, advance_check, advance_of}
use Rattle.pool.specs.ForProofs.Ready.{Stands}
use Rattle.pool.proofs.Firsts.{first_both}
use Rattle.pool.proofs.Checked.{Begun, begun, fires, posts, gives_up}
use Rattle.pool.proofs.Standing.{stands, standing, in_use, worker_below, ready}
use Rattle.rules.specs.Calls.{Call, hiring, firing, posting, giving_up, taking, asking, advancing, call}
use Rattle.rules.proofs.EachLine.{by_line}
use Rattle.history.specs.States.{is_accepted}
use Rattle.history.specs.Holds.{changed, is_posted, begins_post, held_by, completes_post, heard_posts}
use Rattle.history.specs.History.{History}
use Rattle.rules.proofs.Outcomes.{after_both}
use Rattle.history.proofs.Places.{exchange_change, collect_change, same_id}
use Rattle.history.proofs.Tests.{some_id, past_maxg, same_version, third_failure, earlier_failure, collects_some, collects_unposted}
use Rattle.history.proofs.Changed.{changed_case, changed_same, set_changed}
use Rattle.history.proofs.Moves.{desk, hire, s2y, s2n, s2e, s4a, s4b, s5y, s5n, s6, fire, s7, s8, post, s9, s10, w12a, w12b, w13, w15a, w15b, w18n, w22a, w22b, w25a, w25b, w25c, w28n, w31, exchanges, collects}
use Rattle.history.proofs.Buck.{Stays}
use Rattle.history.proofs.Spread.{mover_at, spread}
use Rattle.history.proofs.Watching.{desk_of, Watching, Known, worker_moved, both_moved, serves, serves_on, walks, resets, stores}

or_none : (a b : Bool) → (a || b) ≡ false → b ≡ false
or_none true b h = absurd (false≢true (sym h))
or_none false b h = h

module _ {p : Pool} {h : History} (known : Known p h) where
  abbrev Fine : Call → Told → Type 0
  Fine c t = let posts = heard_posts c t.answer h.states h.posts in Watching t.pool posts.guard_of posts.buffer_of posts.holds

  open known use {sound, shaped, placed as a, watching as i}
  open h.posts use {guard_of as pg, buffer_of as pb, holds as ho}

  none_empty : (b : ℕ) → one (member_of no_ids b) ≡ 0
  none_empty b = ap one (member_none b)

  desk_taken : (g : ℕ) (t : Bool) → g < 32 → desk_of (with_taken g t p) ho ≡ desk p.maxg (changed (λ j. one (taken_at p j)) g (one t)) (employer_at p) (posted_at p) ho
  desk_taken g t l =
      let entries = shaped.taken in
      ap (λ (f : ℕ → ℕ). desk p.maxg f (employer_at p) (posted_at p) ho) (set_changed one p.taken false g t (omega arith))

  desk_employer : (g n : ℕ) → g < 32 → desk_of (with_employer g n p) ho ≡ desk p.maxg (λ j. one (taken_at p j)) (changed (employer_at p) g n) (posted_at p) ho
  desk_employer g n l =
      let entries = shaped.employers in
      ap (λ (f : ℕ → ℕ). desk p.maxg (λ j. one (taken_at p j)) f (posted_at p) ho) (set_changed (λ (n : ℕ). n) p.employer 0 g n (omega arith))

  desk_posted : (g n : ℕ) → g < 32 → desk_of (with_posted g n p) ho ≡ desk p.maxg (λ j. one (taken_at p j)) (employer_at p) (changed (posted_at p) g n) ho
  desk_posted g n l =
      let entries = shaped.posted in
      ap (λ (f : ℕ → ℕ). desk p.maxg (λ j. one (taken_at p j)) (employer_at p) f ho) (set_changed (λ (n : ℕ). n) p.posted 0 g n (omega arith))

  -- ---- begins

  module _ {w : WorkerNo} (b : Begun p w) where
    begun_below : w.0 - 1 < 8
    begun_below = omega arith

    begun_number : w.0 ≡ w.0 - 1 + 1
    begun_number = omega arith

    begun_empty : (id : ℕ) → one (member_of (set_at p (w.0 - 1)) id) ≡ 0
    begun_empty id = (spread p sound shaped a).empty (w.0 - 1) id (omega arith)

  hire_watched : (w : ℕ) → Fine (hiring w) (hire_of p (record { 0 = w }))
  unfolding hire_of after_check heard_posts
  hire_watched w =
      after_both (Fine (hiring w)) (begin_check p _) p _
      (λ e.
      let b = begun p (record { 0 = w }) e in
      serves_on known (w - 1) (begun_below b) _ (mover_at p (w - 1)).member _ _ (hire b.idle) (begun_empty b)
      (worker_moved known (w - 1) (begun_below b) _) refl refl (omega arith))
      (λ n place e. i)

  fire_watched : (w g : ℕ) → Fine (firing w g) (fire_of p (record { 0 = w }) (record { 0 = g }))
  unfolding fire_of after_check heard_posts
  fire_watched w g =
      after_both (Fine (firing w g)) (fire_check p _ _) p _
      (λ e.
      let f = fires p (record { 0 = w }) (record { 0 = g }) e in
      let b = f.begun in
      serves_on known (w - 1) (begun_below b) _ (mover_at p (w - 1)).member _ _ (fire g b.idle (f.guard.employed ∙ begun_number b)) (begun_empty b)
      (worker_moved known (w - 1) (begun_below b) _) (desk_employer g 0 (omega arith)) refl (omega arith))
      (λ n place e. i)

  post_watched : (w g b : ℕ) → Fine (posting w g b) (post_of p (record { 0 = w }) (record { 0 = g }) (record { 0 = b }))
  unfolding post_of after_check heard_posts is_accepted when begins_post
  post_watched w g b =
      after_both (Fine (posting w g b)) (post_check p _ _ _) p _
      (λ e.
      let f = posts p (record { 0 = w }) (record { 0 = g }) (record { 0 = b }) e in
      let s = f.begun in
      let n = begun_number s in
      serves known (w - 1) (begun_below s) _ (changed pg w g) (changed pb w b) (changed ho g 0) (mover_at p (w - 1)).member _ _
      (post g b s.idle (f.guard.employed ∙ n)) (begun_empty s)
      (worker_moved known (w - 1) (begun_below s) _) refl refl
      (λ _ _. (ap (changed pg w g) (sym n) ∙ changed_same pg w g, ap (changed pb w b) (sym n) ∙ changed_same pb w b))
      (λ j m. (other pg g j m s.worker.some, other pb b j m s.worker.some))
      (λ k. changed_case (Stays (state_of p) (ho k)) ho g 0 k (λ _. inr (λ l. absurd (omega arith))) (λ _. inl refl)))
      (λ n place e. i)
    where
      other : (f : ℕ → ℕ) (x j : ℕ) → j ≢ w - 1 → 1 ≤ w → changed f w x (j + 1) ≡ f (j + 1)
      other f x j m l = changed_case (λ y. y ≡ f (j + 1)) f w x (j + 1) (λ e. absurd (m (omega arith))) (λ _. refl)

  ask_watched : (w b : ℕ) → Fine (asking w b) (ask_of p (record { 0 = w }) (record { 0 = b }))
  unfolding ask_of after_check heard_posts
  ask_watched w b = after_both (Fine (asking w b)) (ask_check p _ _) p _ (λ e. i) (λ n place e. i)

  take_watched : (b : ℕ) → Fine (taking b) (take_of p (record { 0 = b }))
  unfolding take_of after_check heard_posts
  take_watched b =
      after_both (Fine (taking b)) (take_check p _) p _
      (λ e. record { recalls = i.recalls; guards = i.guards; buck = i.buck }) (λ n place e. i)

  give_up_watched : (w : ℕ) (ids : List ℕ) → Fine (giving_up w ids) (give_up_of p (record { 0 = w }) ids)
  unfolding give_up_of after_check heard_posts
  give_up_watched w ids =
      after_both (Fine (giving_up w ids)) (give_up_check p _ ids) p _
      (λ e.
      let b = (gives_up p (record { 0 = w }) ids e).begun in
      resets known (w - 1) (begun_below b) _ (to 12 (with_i 0 (worker_at p (w - 1)))) (set_of (among ids))
      (both_moved known (w - 1) (begun_below b) _ _) refl refl (omega arith) (omega arith) (λ g _ _. (omega arith, omega arith)))
      (λ n place e. i)

  -- ---- the advance

  -- what a post on b comes to hold is b, and in service
  held_is : (b : ℕ) → 0 < held_by h.states b → held_by h.states b ≡ b
  unfolding held_by
  held_is b = when_both (λ t. 0 < t → t ≡ b) (eqb (h.states b) 1) b 0 (λ _ _. refl) (λ _ l. absurd (omega arith))

  held_serves : (b : ℕ) → b ≤ p.b → 0 < held_by h.states b → state_of p (held_by h.states b) ≢ 2
  unfolding held_by
  held_serves b u =
      when_both (λ t. 0 < t → state_of p t ≢ 2) (eqb (h.states b) 1) b 0
      (λ q l z. omega (arith, known.agrees b l u, eqb-true (h.states b) 1 q)) (λ _ l. absurd (omega arith))

  module _ (w : ℕ) (out : List ℕ) (some : 1 ≤ w) (st : Stands p (w - 1)) where
    abbrev k : ℕ
    k = w - 1

    abbrev x : Worker
    x = worker_at p k

    abbrev Line : Told → Type 0
    Line = Fine (advancing w out)

    below : k < 8
    below = worker_below st

    guard_here : (n : ℕ) → x.label ≡ n → (eqb n 12 || eqb n 32) ≡ false → i_of p k < 32
    guard_here n e short = (ready p k n st e short).i_below

    empty_here : x.label < 12 → (b : ℕ) → one (member_of (set_at p k) b) ≡ 0
    empty_here l b = (spread p sound shaped a).empty k b l

    -- 10: what is held was in service
    post_ends : x.label ≡ 10 → Watching (ends k posted p).pool pg pb (changed ho (pg w) (held_by h.states (pb w)))
    unfolding ends
    post_ends e =
        let r = i.recalls k (omega arith) (omega arith) in
        let n : w ≡ k + 1 = omega arith in
        let eg : pg w ≡ x.i = ap pg n ∙ r.0 in
        let eb : pb w ≡ x.v = ap pb n ∙ r.1 in
        serves known k below _ pg pb (changed ho (pg w) (held_by h.states (pb w))) (λ b. one (member_of no_ids b)) _ _
        (s10 (held_by h.states x.v) e (held_is x.v)) none_empty (both_moved known k below no_worker no_ids)
        (ap (λ (f : ℕ → ℕ). desk p.maxg (λ j. one (taken_at p j)) (employer_at p) (posted_at p) f) (ap₂ (λ (g b : ℕ). changed ho g (held_by h.states b)) eg eb))
        refl (omega arith) (λ j m. (refl, refl))
        (λ g.
        changed_case (Stays (state_of p) (ho g)) ho (pg w) (held_by h.states (pb w)) g
        (λ _. inr (held_serves (pb w) (omega (arith, leb-true x.v p.b (in_use st).v)))) (λ _. inl refl))

    changed_slot : unchanged k p ≡ false → x.h.id ≡ (slot_here p k).id → x.h.version ≡ (slot_here p k).version → ⊥
    changed_slot t q r = false≢true (sym t ∙ rw (q, r, eq-eqb (slot_here p k).id (slot_here p k).id refl, eq-eqb (slot_here p k).version (slot_here p k).version refl))

    lines_watched : Line (line_of x.label k p)
    unfolding puts ends line2 line18 line28 at22 heard_posts is_posted when completes_post
    lines_watched =
        by_line Line x.label k p
        (record {
          at2 = λ e. unless_both Line (taken_at p (i_of p k)) _ _
              (λ t. serves_on known k below _ _ _ _ (s2y e (ap one t)) (empty_here (omega arith)) (worker_moved known k below _) (desk_taken _ _ (guard_here 2 e refl)) refl (omega arith))
              (λ t. when_both Line (eqb (i_of p k + 1) p.g) _ _
              (λ t. serves_on known k below _ _ _ _ (s2e e) none_empty (both_moved known k below no_worker no_ids) refl refl (omega arith))
              (λ t. serves_on known k below _ _ _ _ (s2n e) (empty_here (omega arith)) (worker_moved known k below _) refl refl (omega arith)));
          at4 = λ e. when_both (λ n. Watching (with_worker k (to n (with_max p.maxg x)) p) pg pb ho) _ 5 6
              (λ t. serves_on known k below _ _ _ _ (s4a e (ltb-true _ _ t)) (empty_here (omega arith)) (worker_moved known k below _) refl refl (omega arith))
              (λ t. serves_on known k below _ _ _ _ (s4b e (ltb-false _ _ t)) (empty_here (omega arith)) (worker_moved known k below _) refl refl (omega arith));
          at5 = λ e. when_both (λ n. Watching (with_worker k (to 4 x) (with_maxg n p)) pg pb ho) _ _ _
              (λ t. serves_on known k below _ _ _ _ (s5y e (eqb-true _ _ t)) (empty_here (omega arith)) (worker_moved known k below _) refl refl (omega arith))
              (λ t. serves_on known k below _ _ _ _ (s5n e) (empty_here (omega arith)) (worker_moved known k below _) refl refl (omega arith));
          at6 = λ e. serves_on known k below _ _ _ _ (s6 e) none_empty (both_moved known k below no_worker no_ids) (desk_employer _ _ (guard_here 6 e refl)) refl (omega arith);
          at7 = λ e. serves_on known k below _ _ _ _ (s7 e) (empty_here (omega arith)) (worker_moved known k below _) (desk_taken _ _ (guard_here 7 e refl)) refl (omega arith);
          at8 = λ e. serves_on known k below _ _ _ _ (s8 e) none_empty (both_moved known k below no_worker no_ids) refl refl (omega arith);
          at9 = λ e. serves_on known k below _ _ _ _ (s9 e) (empty_here (omega arith)) (worker_moved known k below _) (desk_posted _ _ (guard_here 9 e refl)) refl
              (λ _ _. i.recalls k (omega arith) (omega arith));
          at10 = λ e. post_ends e;
          at12 = λ e. when_both (λ n. Watching (with_worker k (to n x) p) pg pb ho) _ 13 32
              (λ t. walks known k below _ (w12a e)) (λ t. walks known k below _ (w12b e (past_maxg k p t)));
          at13 = λ e. walks known k below _ (w13 e);
          at15 = λ e. when_both (λ n. Watching (with_worker k (to n (with_v (posted_here p k) x)) p) pg pb ho) (not (eqb (posted_here p k) 0) && member_of (set_at p k) (posted_here p k)) 18 28
              (λ t.
              walks known k below _ (w15a e (some_id _ (and_left (not (eqb (posted_here p k) 0)) _ t)) (ap one (and_right (not (eqb (posted_here p k) 0)) _ t))))
              (λ t. walks known k below _ (w15b e (λ l. ap one (rw (ne_eqb (posted_here p k) 0 (λ z. omega arith)) at t))));
          at18 = λ e. unless_both Line _ _ _ (λ t. walks known k below _ (w18n e (changed_slot t)))
              (λ t.
              stores known k below x.v _ (exchanges e) (guard_here 18 e refl) (sym (same_id p sound shaped a k st t)) (same_version k p t) (λ b lo hi.
              exchange_change p sound shaped a k st e (same_id p sound shaped a k st t) b lo hi (ℕ_discrete b x.v) (ℕ_discrete b x.h.id)));
          at22 = λ e. when_both (λ y. Watching (with_worker k y p) pg pb ho) _ _ _
              (λ t. walks known k below _ (w22a e (third_failure k p t))) (λ t. walks known k below _ (w22b e (earlier_failure k p t)));
          at25 = λ e. when_both (λ n. Watching (with_worker k (to n x) p) pg pb ho) _ 31 18
              (λ t.
              or_cases (eqb x.attempts 2 && not (eqb x.h.id 0)) _ t
              (λ l. walks known k below _ (w25a e (eqb-true _ _ (and_left (eqb x.attempts 2) _ l)) (some_id _ (and_right (eqb x.attempts 2) _ l))))
              (λ r. walks known k below _ (w25b e (eqb-false _ _ (not-true _ r)))))
              (λ t. walks known k below _ (w25c e (eqb-true _ _ (not-false _ (or_none (eqb x.attempts 2 && not (eqb x.h.id 0)) _ t)))));
          at28 = λ e. unless_both Line _ _ _ (λ t. walks known k below _ (w28n e))
              (λ t.
              let u = and_right (unposted k p) (unchanged k p) t in
              let c = and_left (unposted k p) (unchanged k p) t in
              stores known k below 0 _ (collects e (collects_some k p c) (collects_unposted k p c)) (guard_here 28 e refl) (sym (same_id p sound shaped a k st u)) (same_version k p u) (λ b lo hi.
              collect_change p sound shaped a k st e (same_id p sound shaped a k st u) b lo hi (ℕ_discrete b x.h.id)));
          at31 = λ e. walks known k below _ (w31 e);
          at32 = λ none. resets known k below _ no_worker no_ids (both_moved known k below no_worker no_ids) refl refl (omega arith) (omega arith) (λ g _ m. absurd (omega (arith, none_empty (ho g))));
        })

  advance_watched : (w : ℕ) (out : List ℕ) → Fine (advancing w out) (advance_of p (record { 0 = w }) out)
  unfolding advance_of advance_check after_check heard_posts is_posted when
  advance_watched w out =
      after_both (Fine (advancing w out)) (advance_check p _ (length out)) p _
      (λ e.
      let no : WorkerNo = record { 0 = w } in
      let c = (first_both (stand_check p no) _ e).0 in
      lines_watched w out (standing p no c).worker.some (stands p no c))
      (λ n place e. i)

  -- ---- any call

  pub call_watched : (c : Call) → Fine c (call c p)
  unfolding call
  call_watched (hiring w) = hire_watched w
  call_watched (firing w g) = fire_watched w g
  call_watched (posting w g b) = post_watched w g b
  call_watched (giving_up w ids) = give_up_watched w ids
  call_watched (taking b) = take_watched b
  call_watched (asking w b) = ask_watched w b
  call_watched (advancing w out) = advance_watched w out
