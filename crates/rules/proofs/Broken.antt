-- The first broken rule: the test finds it, and it is the lowest rule with the first at fault. Assumes nothing.
use mathlib.Core.Path.{◌≡◌, refl, sym, ◌∙◌}
use mathlib.Core.Logic.{◌↔◌, ◌⊎◌, inl, inr}
use mathlib.Core.Bool.{Bool, true, false, true≢false}
use Prim.Native.Nat.{ℕ, zero, suc, ◌≤◌}
use native.Mathlib.Omega.{arith}
use Rattle.basics.specs.Pick.{unless}
use Rattle.pool.specs.declared.Pool.{Pool}
use Rattle.pool.specs.Answers.{Check, fine, refuse, first, first_below}
use Rattle.pool.specs.Sound.{keeps, guards_keep, buffers_keep, workers_keep, counts_sound, counts_check, guards_beyond, buffers_beyond, workers_beyond, beyond_check, employer_in, state_in, label_in, kinds_check, guard_ids, worker_ids, ids_check, worker_registers, registers_check, sound_check}
use Rattle.pool.proofs.Firsts.{each_fine, all_fine, first_stop}
use Rattle.rules.specs.Unsound.{All, Lowest, Guards, Buffers, Workers, LowestGuard, LowestBuffer, LowestWorker, FirstOf, Keeps21, Keeps22, Keeps23, Keeps24, Keeps25, Breaks}
use Rattle.rules.proofs.Outcomes.{fine_apart, same_number}

pub same_place : {m at n place : ℕ} → refuse m at ≡ refuse n place → at ≡ place
same_place h = cc

-- ---- what a check says: nothing where `Holds`, and the number n with a place where `Fails`

pub record Says (c : Check) (Holds : Type 0) (Fails : ℕ → ℕ → Type 0) : Type 0 where
  pub passes : (c ≡ fine) ↔ Holds
  pub fails : (n place : ℕ) → (c ≡ refuse n place) ↔ Fails n place

-- of two checks the first that fails
says_first : (a b : Check) {A B : Type 0} {F G : ℕ → ℕ → Type 0} → Says a A F → Says b B G
    → Says (first a b) (A × B) (λ n place. F n place ⊎ (A × G n place))
unfolding first
says_first fine b {A} {B} {F} {G} s t =
    let holds : A = s.passes.0 refl in
    record {
      passes = (λ h. (holds, t.passes.0 h), λ h. t.passes.1 h.1);
      fails = λ n place. (λ h. inr (holds, (t.fails n place).0 h), λ h. go n place h);
    }
  where
    go : (n place : ℕ) → F n place ⊎ (A × G n place) → b ≡ refuse n place
    go n place (inl f) = absurd (fine_apart ((s.fails n place).1 f))
    go n place (inr g) = (t.fails n place).1 g.1
says_first (refuse m at) b {A} {B} {F} {G} s t =
    record {
      passes = (λ h. absurd (fine_apart (sym h)), λ h. absurd (fine_apart (sym (s.passes.1 h.0))));
      fails = λ n place. (λ h. inl ((s.fails n place).0 h), λ h. go n place h);
    }
  where
    go : (n place : ℕ) → F n place ⊎ (A × G n place) → refuse m at ≡ refuse n place
    go n place (inl f) = (s.fails n place).1 f
    go n place (inr g) = absurd (fine_apart (sym (s.passes.1 g.0)))

-- ---- the tests

says_counts : (t : Bool) → Says (keeps 21 0 t) (t ≡ true) (λ n place. (t ≡ false) × (n ≡ 21) × (place ≡ 0))
unfolding unless
says_counts true =
    record {
      passes = (λ h. refl, λ h. refl);
      fails = λ n place. (λ h. absurd (fine_apart h), λ h. absurd (true≢false h.0));
    }
says_counts false =
    record {
      passes = (λ h. absurd (fine_apart (sym h)), λ h. absurd (true≢false (sym h)));
      fails = λ n place. (λ h. (refl, sym (same_number h), sym (same_place h)), λ h. rw (h.1, h.2));
    }

module _ (rule : ℕ) (no : ℕ → ℕ) (test : ℕ → Bool) where
  abbrev asks : ℕ → Check
  asks k = keeps rule (no k) (test k)

  held : (k : ℕ) → (t : Bool) → keeps rule (no k) t ≡ fine → t ≡ true
  unfolding unless
  held k true h = refl
  held k false h = absurd (fine_apart (sym h))

  holds : (k : ℕ) (t : Bool) → t ≡ true → keeps rule (no k) t ≡ fine
  unfolding unless
  holds k t h = rw h

  failed : (k n place : ℕ) (t : Bool) → keeps rule (no k) t ≡ refuse n place → (t ≡ false) × (n ≡ rule) × (place ≡ no k)
  unfolding unless
  failed k n place true h = absurd (fine_apart h)
  failed k n place false h = (refl, sym (same_number h), sym (same_place h))

  all_held : (count : ℕ) → first_below count asks ≡ fine → All count test
  all_held count h k l = held k (test k) (each_fine asks count h k l)

  lowest : (count n place : ℕ) → first_below count asks ≡ refuse n place → Lowest rule count no test n place
  unfolding first_below first
  lowest zero n place h = absurd (fine_apart h)
  lowest (suc count) n place h = go (first_below count asks) refl h (lowest count n place)
    where
      go : (c : Check) → first_below count asks ≡ c → first c (asks count) ≡ refuse n place
          → (first_below count asks ≡ refuse n place → Lowest rule count no test n place) → Lowest rule (suc count) no test n place
      go fine e q before =
          let f = failed count n place (test count) q in
          record { number = f.1; k = count; below = omega arith; at = f.2; fails = f.0; lower = all_held count e }
      go (refuse m at) e q before =
          let l = before (e ∙ q) in
          record { number = l.number; k = l.k; below = omega (arith, l.below); at = l.at; fails = l.fails; lower = l.lower }

  found : (count n place : ℕ) → Lowest rule count no test n place → first_below count asks ≡ refuse n place
  unfolding unless
  found count n place l =
      sym (first_stop asks l.k count n place (all_fine asks l.k (λ j b. holds j (test j) (l.lower j b))) (rw (l.fails, l.number, l.at)) l.below)

  says_each : (count : ℕ) → Says (first_below count asks) (All count test) (Lowest rule count no test)
  says_each count =
      record {
        passes = (all_held count, λ h. all_fine asks count (λ k l. holds k (test k) (h k l)));
        fails = λ n place. (lowest count n place, found count n place);
      }

-- ---- the rules

module _ (rule : ℕ) where
  guards : (test : ℕ → Bool) → Says (guards_keep rule test) (Guards test) (LowestGuard rule test)
  guards test = says_each rule (λ i. i) test 32

  buffers : (test : ℕ → Bool) → Says (buffers_keep rule test) (Buffers test) (LowestBuffer rule test)
  buffers test = says_each rule suc test 256

  workers : (test : ℕ → Bool) → Says (workers_keep rule test) (Workers test) (LowestWorker rule test)
  workers test = says_each rule suc test 8

  of_three : (f g h : ℕ → Bool) → Says (first (guards_keep rule f) (first (buffers_keep rule g) (workers_keep rule h)))
      (Guards f × (Buffers g × Workers h)) (FirstOf rule f g h)
  of_three f g h = says_first _ _ (guards f) (says_first _ _ (buffers g) (workers h))

pub says_sound : (p : Pool) → Says (sound_check p) (Keeps21 p × (Keeps22 p × (Keeps23 p × (Keeps24 p × Keeps25 p)))) (Breaks p)
unfolding sound_check counts_check beyond_check kinds_check ids_check registers_check
says_sound p =
    says_first _ _ (says_counts (counts_sound p))
    (says_first _ _ (of_three 22 (guards_beyond p) (buffers_beyond p) (workers_beyond p))
    (says_first _ _ (of_three 23 (employer_in p) (state_in p) (label_in p))
    (says_first _ _ (says_first _ _ (guards 24 (guard_ids p)) (workers 24 (worker_ids p)))
    (workers 25 (worker_registers p)))))

-- ---- the numbers are 21 to 25

either : {A B P : Type 0} → A ⊎ B → (A → P) → (B → P) → P
either (inl a) f g = f a
either (inr b) f g = g b

numbered : {rule n place : ℕ} {f g h : ℕ → Bool} → FirstOf rule f g h n place → n ≡ rule
numbered b = either b (λ l. l.number) (λ c. either c.1 (λ l. l.number) (λ d. d.1.number))

in_range_lem : (p : Pool) {n place : ℕ} → Breaks p n place → (21 ≤ n) × (n ≤ 25)
in_range_lem p {n} b =
    either b (λ e. by e.1 (omega arith) (omega arith))
    (λ b. either b.1 (λ e. by (numbered e) (omega arith) (omega arith))
    (λ b. either b.1 (λ e. by (numbered e) (omega arith) (omega arith))
    (λ b. either b.1 (λ e. either e (λ l. by l.number (omega arith) (omega arith)) (λ c. by c.1.number (omega arith) (omega arith)))
    (λ b. by b.1.number (omega arith) (omega arith)))))
  where
    by : {rule : ℕ} → n ≡ rule → 21 ≤ rule → rule ≤ 25 → (21 ≤ n) × (n ≤ 25)
    by e low high = (omega arith, omega arith)

pub rule_low : (p : Pool) {n place : ℕ} → sound_check p ≡ refuse n place → 21 ≤ n
rule_low p {n} {place} h = (in_range_lem p (((says_sound p).fails n place).0 h)).0
