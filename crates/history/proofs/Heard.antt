-- One call: the record afterwards has each buffer in the state that the call and its answer tell. Assumes nothing.
use mathlib.Core.Path.{◌≡◌, refl, sym, ap, ◌∙◌}
use mathlib.Core.Bool.{Bool, true, false}
use mathlib.Core.List.{List, []}
use Prim.Native.Nat.{ℕ, suc, ◌-◌, ◌≤◌}
use native.Mathlib.Decide.{ℕ_discrete}
use native.Mathlib.Omega.{arith}
use lib.Dec.{eqb}
use lib.ListN.{length, get_or, set, drop}
use lib.Seq.{get_or-set_same, get_or-set_other}
use borrow.Author.Tests.{eq-eqb, ne_eqb}
use Rattle.basics.specs.Pick.{when}
use Rattle.basics.specs.Below.{any_below, table}
use Rattle.basics.specs.Among.{among_first, among}
use Rattle.basics.proofs.Any.{among_front}
use Rattle.basics.proofs.Picks.{when_both, unless_both}
use Rattle.basics.proofs.Table.{table_at}
use Rattle.idset.specs.Members.{member_of, size_of, members_of}
use Rattle.idset.proofs.Listed.{members_size, among_members}
use Rattle.worker.specs.declared.Worker.{Worker}
use Rattle.pool.specs.declared.WorkerNo.{WorkerNo}
use Rattle.pool.specs.declared.Pool.{Pool}
use Rattle.pool.specs.Answers.{Said, Told, fine, after_check}
use Rattle.pool.specs.Record.{state_of, set_at}
use Rattle.pool.specs.Sound.{sound_of}
use Rattle.pool.specs.Checks.{worker_of, begin_check, fire_check, post_check, give_up_check, take_check, ask_check}
use Rattle.pool.specs.Begins.{hire_of, fire_of, post_of, give_up_of, take_of, ask_of}
use Rattle.pool.specs.Steps.{puts, ends, line2, line18, line28, line32, line_of, stand_check, advance_check, advance_of, handed, list_after_check, list_after}
use Rattle.pool.proofs.Parts.{sizes_of}
use Rattle.pool.proofs.Firsts.{first_both}
use Rattle.pool.proofs.Checked.{takes}
use Rattle.pool.proofs.Standing.{stands, before32, last_label}
use Rattle.rules.specs.Calls.{Call, hiring, firing, posting, giving_up, taking, asking, advancing, call, list_of}
use Rattle.rules.proofs.EachLine.{by_line}
use Rattle.history.specs.States.{States, is_accepted, handed_back, heard}
use Rattle.rules.specs.Shaped.{Shaped}
use Rattle.rules.proofs.Outcomes.{after_both}

-- each buffer of p is in the state that s says
abbrev pub Agrees : Pool → States → Type 0
Agrees p s = (id : ℕ) → 1 ≤ id → id ≤ p.b → state_of p id ≡ s id

-- t is an outcome on p: the counts are the same, and the states are those that the call and its answer tell
pub record Told-by (p : Pool) (s : States) (c : Call) (list : List ℕ) (t : Told) : Type 0 where
  pub w : t.pool.w ≡ p.w
  pub g : t.pool.g ≡ p.g
  pub b : t.pool.b ≡ p.b
  pub same : (id : ℕ) → 1 ≤ id → id ≤ p.b → state_of t.pool id ≡ heard c t.answer list s id

-- a buffer's entry of a table
pub at_buffer : (f : ℕ → ℕ) (id : ℕ) → 1 ≤ id → id ≤ 256 → get_or (table 256 (λ k. f (suc k))) (id - 1) 0 ≡ f id
at_buffer f id lo hi = table_at 256 (λ k. f (suc k)) (id - 1) 0 (omega arith) ∙ ap f (omega arith)

module _ (p : Pool) (s : States) (sound : sound_of p ≡ true) (long : Shaped p) (a : Agrees p s) where
  most : p.b ≤ 256
  most = (sizes_of p sound).b_most

  -- an outcome that changes no state, of which the history hears nothing
  module _ (c : Call) (list : List ℕ) where
    quiet : (t : Told) → t.pool.w ≡ p.w → t.pool.g ≡ p.g → t.pool.b ≡ p.b → t.pool.states ≡ p.states
        → ((id : ℕ) → heard c t.answer list s id ≡ s id) → Told-by p s c list t
    quiet t ew eg eb es h =
        record {
          w = ew;
          g = eg;
          b = eb;
          same = λ id lo hi. ap (λ (l : List ℕ). get_or l (id - 1) 0) es ∙ a id lo hi ∙ sym (h id);
        }

  -- an outcome in which the buffers that a test picks come to state x, of which the history hears as much
  module _ (c : Call) (list : List ℕ) where
    tabled : (t : Told) (picked : ℕ → Bool) (x : ℕ) → t.pool.w ≡ p.w → t.pool.g ≡ p.g → t.pool.b ≡ p.b
        → t.pool.states ≡ table 256 (λ k. when (picked (suc k)) x (state_of p (suc k)))
        → ((id : ℕ) → 1 ≤ id → id ≤ 256 → heard c t.answer list s id ≡ when (picked id) x (s id)) → Told-by p s c list t
    tabled t picked x ew eg eb es h =
        record {
          w = ew;
          g = eg;
          b = eb;
          same = λ id lo hi.
              let m = most in
              ap (λ (l : List ℕ). get_or l (id - 1) 0) es ∙ at_buffer (λ n. when (picked n) x (state_of p n)) id lo (omega arith)
              ∙ ap (when (picked id) x) (a id lo hi) ∙ sym (h id lo (omega arith));
        }

  -- ---- begins

  hire_told : (w : ℕ) (list : List ℕ) → Told-by p s (hiring w) list (hire_of p (record { 0 = w }))
  unfolding hire_of heard after_check
  hire_told w list =
      after_both (Told-by p s (hiring w) list) (begin_check p _) p _ (λ e. quiet _ list _ refl refl refl refl (λ id. refl))
      (λ n place e. quiet _ list _ refl refl refl refl (λ id. refl))

  fire_told : (w g : ℕ) (list : List ℕ) → Told-by p s (firing w g) list (fire_of p (record { 0 = w }) (record { 0 = g }))
  unfolding fire_of heard after_check
  fire_told w g list =
      after_both (Told-by p s (firing w g) list) (fire_check p _ _) p _ (λ e. quiet _ list _ refl refl refl refl (λ id. refl))
      (λ n place e. quiet _ list _ refl refl refl refl (λ id. refl))

  post_told : (w g b : ℕ) (list : List ℕ) → Told-by p s (posting w g b) list (post_of p (record { 0 = w }) (record { 0 = g }) (record { 0 = b }))
  unfolding post_of heard after_check
  post_told w g b list =
      after_both (Told-by p s (posting w g b) list) (post_check p _ _ _) p _ (λ e. quiet _ list _ refl refl refl refl (λ id. refl))
      (λ n place e. quiet _ list _ refl refl refl refl (λ id. refl))

  ask_told : (w b : ℕ) (list : List ℕ) → Told-by p s (asking w b) list (ask_of p (record { 0 = w }) (record { 0 = b }))
  unfolding ask_of heard after_check
  ask_told w b list =
      after_both (Told-by p s (asking w b) list) (ask_check p _ _) p _ (λ e. quiet _ list _ refl refl refl refl (λ id. refl))
      (λ n place e. quiet _ list _ refl refl refl refl (λ id. refl))

  give_up_told : (w : ℕ) (ids list : List ℕ) → Told-by p s (giving_up w ids) list (give_up_of p (record { 0 = w }) ids)
  unfolding give_up_of heard after_check is_accepted when
  give_up_told w ids list =
      after_both (Told-by p s (giving_up w ids) list) (give_up_check p _ ids) p _
      (λ e.
      tabled _ list _ (among ids) 2 refl refl refl refl (λ id lo hi. refl))
      (λ n place e. quiet _ list _ refl refl refl refl (λ id. refl))

  take_told : (c : ℕ) (list : List ℕ) → Told-by p s (taking c) list (take_of p (record { 0 = c }))
  unfolding take_of heard after_check is_accepted when
  take_told c list =
      after_both (Told-by p s (taking c) list) (take_check p _) p _
      (λ e.
      let t = takes p (record { 0 = c }) e in
      record {
        w = refl;
        g = refl;
        b = refl;
        same = λ id lo hi. one t.buffer.some t.buffer.most id lo hi (ℕ_discrete id c);
      })
      (λ n place e. quiet _ list _ refl refl refl refl (λ id. refl))
    where
      one : 1 ≤ c → c ≤ p.b → (id : ℕ) → 1 ≤ id → id ≤ p.b → Dec (id ≡ c) → get_or (set p.states (c - 1) 1) (id - 1) 0 ≡ when (eqb id c) 1 (s id)
      one some top id lo hi (yes q) =
          let m = most in
          let entries = long.states in
          let at : id - 1 ≡ c - 1 = omega arith in
          ap (λ (n : ℕ). get_or (set p.states (c - 1) 1) n 0) at ∙ get_or-set_same p.states (c - 1) 1 0 (omega arith) ∙ rw (eq-eqb id c q)
      one some top id lo hi (no n) =
          get_or-set_other p.states (c - 1) (id - 1) 1 0 (λ e. n (omega arith)) ∙ a id lo hi ∙ rw (ne_eqb id c n)

  -- ---- the advance

  module _ (w : ℕ) (out list : List ℕ) where
    abbrev Fine : Told → Type 0
    Fine t = Told-by p s (advancing w out) list t

    -- a line that goes on, and one that ends with nothing handed back
    puts_quiet : (k : ℕ) (x : Worker) (q : Pool) → q.w ≡ p.w → q.g ≡ p.g → q.b ≡ p.b → q.states ≡ p.states → Fine (puts k x q)
    unfolding puts heard handed_back any_below when
    puts_quiet k x q ew eg eb es = quiet _ list _ ew eg eb es (λ id. refl)

    ends_quiet : (k : ℕ) (said : Said) (q : Pool) → handed_back said ≡ 0 → q.w ≡ p.w → q.g ≡ p.g → q.b ≡ p.b → q.states ≡ p.states
        → Fine (ends k said q)
    unfolding ends heard any_below when
    ends_quiet k said q e ew eg eb es = quiet _ list _ ew eg eb es (λ id. rw e)

    -- the ids handed back are the set's members
    pub handed_ids : (k id : ℕ) → list ≡ handed (set_at p k) out → 1 ≤ id → id ≤ 256 → among_first list (size_of (set_at p k)) id ≡ member_of (set_at p k) id
    unfolding handed
    handed_ids k id e lo hi =
        let set = set_at p k in
        rw (e, ← members_size set) (among_front (members_of set) (drop (length (members_of set)) out) id) ∙ among_members set id lo hi

    last_told : (k : ℕ) → list ≡ handed (set_at p k) out → Fine (line32 k p)
    unfolding ends heard handed_back
    last_told k e =
        tabled _ list _ (member_of (set_at p k)) 0 refl refl refl refl (λ id lo hi. ap (λ (t : Bool). when t 0 (s id)) (handed_ids k id e lo hi))

    line_told : (l k : ℕ) → (among before32 l ≡ false → list ≡ handed (set_at p k) out) → Fine (line_of l k p)
    unfolding line2 line18 line28 handed_back
    line_told l k e =
        by_line Fine l k p
        (record {
          at2 = λ q. unless_both Fine _ _ _ (λ t. puts_quiet k _ _ refl refl refl refl)
              (λ t. when_both Fine _ _ _ (λ t. ends_quiet k _ _ refl refl refl refl refl) (λ t. puts_quiet k _ _ refl refl refl refl));
          at4 = λ q. puts_quiet k _ _ refl refl refl refl;
          at5 = λ q. puts_quiet k _ _ refl refl refl refl;
          at6 = λ q. ends_quiet k _ _ refl refl refl refl refl;
          at7 = λ q. puts_quiet k _ _ refl refl refl refl;
          at8 = λ q. ends_quiet k _ _ refl refl refl refl refl;
          at9 = λ q. puts_quiet k _ _ refl refl refl refl;
          at10 = λ q. ends_quiet k _ _ refl refl refl refl refl;
          at12 = λ q. puts_quiet k _ _ refl refl refl refl;
          at13 = λ q. puts_quiet k _ _ refl refl refl refl;
          at15 = λ q. puts_quiet k _ _ refl refl refl refl;
          at18 = λ q. unless_both Fine _ _ _ (λ t. puts_quiet k _ _ refl refl refl refl) (λ t. puts_quiet k _ _ refl refl refl refl);
          at22 = λ q. puts_quiet k _ _ refl refl refl refl;
          at25 = λ q. puts_quiet k _ _ refl refl refl refl;
          at28 = λ q. unless_both Fine _ _ _ (λ t. puts_quiet k _ _ refl refl refl refl) (λ t. puts_quiet k _ _ refl refl refl refl);
          at31 = λ q. puts_quiet k _ _ refl refl refl refl;
          at32 = λ q. last_told k (e q);
        })

  -- the list where the check finds nothing and the label is 32
  pub list_written : (w : WorkerNo) (out : List ℕ) → advance_check p w (length out) ≡ fine → (worker_of p w).label ≡ 32
      → list_after p w out ≡ handed (set_at p (w.0 - 1)) out
  unfolding list_after list_after_check when
  list_written w out e q = rw (e, q)

  advance_told : (w : ℕ) (out : List ℕ) → Told-by p s (advancing w out) (list_after p (record { 0 = w }) out) (advance_of p (record { 0 = w }) out)
  unfolding advance_of advance_check heard after_check handed_back any_below when
  advance_told w out =
      after_both (Told-by p s (advancing w out) (list_after p (record { 0 = w }) out)) (advance_check p _ (length out)) p _
      (λ e.
      let no : WorkerNo = record { 0 = w } in
      let st = stands p no (first_both (stand_check p no) _ e).0 in
      line_told w out (list_after p no out) (worker_of p no).label (w - 1) (λ none. list_written no out e (last_label st none)))
      (λ n place e. quiet _ _ _ refl refl refl refl (λ id. refl))

  -- ---- any call

  pub call_told : (c : Call) → Told-by p s c (list_of c p) (call c p)
  unfolding call list_of
  call_told (hiring w) = hire_told w []
  call_told (firing w g) = fire_told w g []
  call_told (posting w g b) = post_told w g b []
  call_told (giving_up w ids) = give_up_told w ids []
  call_told (taking b) = take_told b []
  call_told (asking w b) = ask_told w b []
  call_told (advancing w out) = advance_told w out
