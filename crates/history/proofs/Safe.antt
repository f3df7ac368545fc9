-- No advance hands back a buffer that a guard holds, in any run from a fresh pool. Assumes nothing.
use mathlib.Core.Path.{◌≡◌, sym, ap, ◌∙◌, subst}
use mathlib.Core.Bool.{true, false}
use mathlib.Core.List.{List}
use Prim.Native.Nat.{ℕ, ◌-◌, ◌≤◌}
use native.Mathlib.Omega.{arith}
use lib.ListN.{length}
use Rattle.basics.specs.Below.{one}
use Rattle.basics.specs.Among.{among, among_first}
use Rattle.basics.proofs.Picks.{when_both, unless_both}
use Rattle.idset.specs.Members.{member_of, size_of}
use Rattle.worker.specs.declared.Worker.{Worker}
use Rattle.pool.specs.declared.WorkerNo.{WorkerNo}
use Rattle.pool.specs.declared.Pool.{Pool}
use Rattle.pool.specs.Sound.{in_range}
use Rattle.pool.specs.Answers.{Said, Told, back, after_check}
use Rattle.pool.specs.Record.{blank, worker_at, set_at}
use Rattle.pool.specs.Steps.{puts, ends, line2, line18, line28, line32, line_of, stand_check, advance_check, advance_of, handed, list_after}
use Rattle.pool.proofs.Parts.{sizes_of}
use Rattle.pool.proofs.Firsts.{first_both}
use Rattle.pool.proofs.Standing.{stands, before32, last_label}
use Rattle.rules.specs.Calls.{call, list_of}
use Rattle.rules.proofs.EachLine.{by_line}
use Rattle.rules.proofs.Fresh.{made_sound, blank_fresh}
use Rattle.history.specs.History.{History, fresh}
use Rattle.history.specs.Safe.{Safe}
use Rattle.rules.proofs.Shaped.{blank_shaped}
use Rattle.rules.proofs.Outcomes.{after_both}
use Rattle.history.proofs.Heard.{handed_ids, list_written}
use Rattle.history.proofs.Places.{fresh_placed}
use Rattle.history.proofs.Guards.{away}
use Rattle.history.proofs.Watching.{Watching, Known, hold_low}

-- ---- one advance

module _ {p : Pool} {h : History} (f : Known p h) (w : ℕ) (out : List ℕ) (n g id : ℕ) (lo : 1 ≤ id) (held : h.posts.holds g ≡ id) where
  abbrev Fine : Told → Type 0
  Fine t = t.answer ≡ back n → among_first (list_after p (record { 0 = w }) out) n id ≡ true → ⊥

  -- lines that hand nothing back
  puts_none : (k : ℕ) (x : Worker) (q : Pool) → Fine (puts k x q)
  unfolding puts
  puts_none k x q e m = let z : ◌≡◌ {A = ℕ} 0 1 = cc in omega arith

  ends_none_lem : (k : ℕ) (said : Said) (q : Pool) → (said ≡ back n → ⊥) → Fine (ends k said q)
  unfolding ends
  ends_none_lem k said q never e m = never e

  -- 32: a member that guard g holds is none of a worker at 32
  last_safe : (worker_at p (w - 1)).label ≡ 32 → list_after p (record { 0 = w }) out ≡ handed (set_at p (w - 1)) out → Fine (line32 (w - 1) p)
  unfolding ends
  last_safe l q e m =
      let low : id ≤ p.b = subst (λ (b : ℕ). b ≤ p.b) held (hold_low f g) in
      let size : size_of (set_at p (w - 1)) ≡ n = cc in
      let among-n = handed_ids p h.states f.sound f.shaped f.agrees w out (list_after p (record { 0 = w }) out) (w - 1) id q lo (omega (arith, sizes_of p f.sound)) in
      let hit : among_first (list_after p (record { 0 = w }) out) (size_of (set_at p (w - 1))) id ≡ true = rw size m in
      let mine : one (member_of (set_at p (w - 1)) id) ≡ 1 = ap one (sym among-n ∙ hit) in
      let here : one (member_of (set_at p (w - 1)) (h.posts.holds g)) ≡ 1 = ap (λ (b : ℕ). one (member_of (set_at p (w - 1)) b)) held ∙ mine in
      omega (arith, f.watching.buck.ahead g (w - 1) (omega arith) (omega arith))

  line_safe : (among before32 (worker_at p (w - 1)).label ≡ false → Fine (line32 (w - 1) p)) → Fine (line_of (worker_at p (w - 1)).label (w - 1) p)
  unfolding line2 line18 line28
  line_safe last =
      by_line Fine (worker_at p (w - 1)).label (w - 1) p
      (record {
        at2 = λ e. unless_both Fine _ _ _ (λ t. puts_none _ _ _)
            (λ t. when_both Fine _ _ _ (λ t. ends_none_lem _ _ _ (λ e. let z : ◌≡◌ {A = ℕ} 0 1 = cc in omega arith)) (λ t. puts_none _ _ _));
        at4 = λ e. puts_none _ _ _;
        at5 = λ e. puts_none _ _ _;
        at6 = λ e. ends_none_lem _ _ _ (λ e. let z : ◌≡◌ {A = ℕ} 0 1 = cc in omega arith);
        at7 = λ e. puts_none _ _ _;
        at8 = λ e. ends_none_lem _ _ _ (λ e. let z : ◌≡◌ {A = ℕ} 0 1 = cc in omega arith);
        at9 = λ e. puts_none _ _ _;
        at10 = λ e. ends_none_lem _ _ _ (λ e. let z : ◌≡◌ {A = ℕ} 0 1 = cc in omega arith);
        at12 = λ e. puts_none _ _ _;
        at13 = λ e. puts_none _ _ _;
        at15 = λ e. puts_none _ _ _;
        at18 = λ e. unless_both Fine _ _ _ (λ t. puts_none _ _ _) (λ t. puts_none _ _ _);
        at22 = λ e. puts_none _ _ _;
        at25 = λ e. puts_none _ _ _;
        at28 = λ e. unless_both Fine _ _ _ (λ t. puts_none _ _ _) (λ t. puts_none _ _ _);
        at31 = λ e. puts_none _ _ _;
        at32 = last;
      })

  advance_safe : Fine (advance_of p (record { 0 = w }) out)
  unfolding advance_of advance_check after_check
  advance_safe =
      after_both Fine (advance_check p _ (length out)) p _
      (λ e.
      let no : WorkerNo = record { 0 = w } in
      let st = stands p no (first_both (stand_check p no) _ e).0 in
      line_safe (λ none.
      let l = last_label st none in
      last_safe l (list_written p h.states f.sound f.shaped f.agrees no out e l)))
      (λ m place e r _. let z : ◌≡◌ {A = ℕ} 0 1 = cc in omega arith)

-- ---- every run from a fresh pool

fresh_watching : (w g b : ℕ) → Watching (blank w g b) (λ w. 0) (λ w. 0) (λ g. 0)
fresh_watching w g b =
    let f = blank_fresh w g b in
    let idle : (k : ℕ) → (worker_at (blank w g b) k).label ≡ 0 = λ k. ap (λ (x : Worker). x.label) (f.idle k) in
    record {
      recalls = λ k l u. absurd (omega (arith, idle k));
      guards = record {
        clerk = λ k. away (λ l u. omega (arith, idle k));
        apart = λ k j n l u. absurd (omega (arith, idle k));
        guard = λ g. record { own = λ l. absurd (omega (arith, f.unemployed g)); stands = λ l. absurd (omega arith) };
      };
      buck = record {
        runner = λ k. record {
          old = λ l u. absurd (omega (arith, idle k));
          first = λ l. absurd (omega (arith, idle k));
          differ = λ l. absurd (omega (arith, idle k));
          stuck = λ l. absurd (omega arith);
          keen = λ l. absurd (omega arith);
          last = λ l. absurd (omega arith);
          next = λ l. absurd (omega arith);
        };
        race = λ k j n q l. absurd (omega arith);
        ahead = λ g k l. absurd (omega arith);
        over = λ g j l m. absurd (omega arith);
      };
    }

pub safe : (p : Pool) (h : History) → Known p h → Safe p h
unfolding call list_of
safe p h f worker out n answer i id lo handed held = advance_safe f worker out n i id lo held answer handed

pub fresh_known : (w g b : ℕ) → in_range w g b ≡ true → Known (blank w g b) fresh
fresh_known w g b range =
    record {
      sound = made_sound w g b range;
      placed = fresh_placed w g b;
      shaped = blank_shaped w g b;
      agrees = λ id lo hi. (blank_fresh w g b).free id;
      watching = fresh_watching w g b;
    }
