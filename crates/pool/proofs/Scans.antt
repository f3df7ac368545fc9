-- The scans of the soundness test make up the rules, in whatever order each is asked. Assumes nothing.
use mathlib.Core.Path.{◌≡◌, sym, ap, ap₂, ◌∙◌}
use mathlib.Core.Bool.{Bool, true, false, not, ◌&&◌, ◌||◌}
use mathlib.Core.List.{List}
use Prim.Native.Nat.{ℕ, suc, ◌+◌, ◌-◌, ◌≤◌}
use native.Mathlib.Omega.{arith}
use lib.Dec.{eqb, leb, ltb}
use lib.ListN.{length, get_or, take, drop}
use borrow.Author.Tests.{lt-ltb, le-ltb}
use Rattle.std.proofs.lemmas.List.{length-drop, get_or-drop, take_all}
use Rattle.basics.specs.Below.{all_below}
use Rattle.basics.proofs.Truth.{reorder}
use Rattle.basics.proofs.All.{all_of, all_and, all_or_and, all_cong, all_split}
use Rattle.pool.specs.declared.Pool.{Pool}
use Rattle.pool.specs.Record.{taken_at, employer_at, posted_at, slot_at, state_of, worker_at}
use Rattle.pool.specs.Sound.{counts_sound, zero_worker, guards_beyond, buffers_beyond, workers_beyond, state_in, label_in, worker_ids, worker_registers, sound_of}
use Rattle.idset.specs.declared.IdSet.{IdSet}
use Rattle.pool.specs.ForProofs.Scans.{worker_fits, most, zero_from, set_within}
use Rattle.pool.proofs.Parts.{sound_tests}

-- ---- what a scan asks of entry k

-- it is not taken beyond the count
abbrev pub untaken_from : List Bool → ℕ → ℕ → Bool
untaken_from xs count k = ltb k count || not (get_or xs k false)

-- set k is empty beyond the count
abbrev pub empty_from : List IdSet → ℕ → ℕ → Bool
empty_from ss count k = ltb k count || set_within ss 0 k

-- the entries from the count on are those beyond it
pub all_from : {A : Type 0} (xs : List A) (f : A → Bool) (none : A) (n : ℕ) → n ≤ length xs
    → all_below (length (drop n xs)) (λ k. f (get_or (drop n xs) k none)) ≡ all_below (length xs) (λ k. ltb k n || f (get_or xs k none))
all_from xs f none n h =
    let long : length (drop n xs) ≡ length xs - n = length-drop n xs in
    let parts : n + (length xs - n) ≡ length xs = omega arith in
    let passed : all_below n (λ k. ltb k n || f (get_or xs k none)) ≡ true = all_of n _ (λ k l. rw (lt-ltb k n l)) in
    let rest : all_below (length xs - n) (λ k. f (get_or (drop n xs) k none)) ≡ all_below (length xs - n) (λ k. ltb (n + k) n || f (get_or xs (n + k) none)) =
    all_cong (length xs - n) _ _ (λ k l. rw (le-ltb (n + k) n (omega arith), get_or-drop)) in
    ap (λ (m : ℕ). all_below m (λ k. f (get_or (drop n xs) k none))) long ∙ rest
    ∙ sym (ap (λ (t : Bool). t && all_below (length xs - n) (λ k. ltb (n + k) n || f (get_or xs (n + k) none))) passed)
    ∙ sym (all_split n (length xs - n) (λ k. ltb k n || f (get_or xs k none)))
    ∙ ap (λ (m : ℕ). all_below m (λ k. ltb k n || f (get_or xs k none))) parts

-- a scan of a whole array, and of what it has from the count on
pub scanned_all : {A : Type 0} (xs : List A) (f : ℕ → Bool) {r : Bool} {n : ℕ} → length xs ≡ n → r ≡ all_below (length xs) f → r ≡ all_below n f
scanned_all xs f long e = rw long at e

pub scanned_from : {A : Type 0} (xs : List A) (f : A → Bool) (none : A) {r : Bool} {n count : ℕ} → length xs ≡ n → count ≤ n
    → r ≡ all_below (length (take (n - count) (drop count xs))) (λ k. f (get_or (take (n - count) (drop count xs)) k none))
    → r ≡ all_below n (λ k. ltb k count || f (get_or xs k none))
scanned_from xs f none {r} {n} {count} long h e =
    let all : take (n - count) (drop count xs) ≡ drop count xs = take_all (n - count) (drop count xs) (omega (arith, length-drop count xs, long)) in
    rw long at (rw all at e ∙ all_from xs f none count (omega (arith, long)))

-- ---- the scans together

-- entry k is a state, and free beyond the count
abbrev pub fits : List ℕ → ℕ → ℕ → Bool
fits xs count k = most xs 2 k && zero_from xs count k

module _ (p : Pool) where
  abbrev used : ℕ → Bool
  used k = ltb k p.g

  guards_beyond_lem : all_below 32 (guards_beyond p)
      ≡ (all_below 32 (untaken_from p.taken p.g) && all_below 32 (zero_from p.employer p.g) && all_below 32 (zero_from p.posted p.g)
      && all_below 32 (zero_from p.slot_id p.g) && all_below 32 (zero_from p.slot_version p.g))
  guards_beyond_lem =
      all_or_and 32 used (λ i. not (taken_at p i) && eqb (employer_at p i) 0 && eqb (posted_at p i) 0 && eqb (slot_at p i).id 0) (λ i. eqb (slot_at p i).version 0)
      ∙ ap (λ (t : Bool). t && all_below 32 (zero_from p.slot_version p.g))
      (all_or_and 32 used (λ i. not (taken_at p i) && eqb (employer_at p i) 0 && eqb (posted_at p i) 0) (λ i. eqb (slot_at p i).id 0)
      ∙ ap (λ (t : Bool). t && all_below 32 (zero_from p.slot_id p.g))
      (all_or_and 32 used (λ i. not (taken_at p i) && eqb (employer_at p i) 0) (λ i. eqb (posted_at p i) 0)
      ∙ ap (λ (t : Bool). t && all_below 32 (zero_from p.posted p.g))
      (all_or_and 32 used (λ i. not (taken_at p i)) (λ i. eqb (employer_at p i) 0))))

  -- entry k of the states is that of buffer k + 1
  pub entry : (k : ℕ) → get_or p.states k 0 ≡ state_of p (suc k)
  entry k = ap (λ (n : ℕ). get_or p.states n 0) (omega arith)

  buffers_beyond_lem : all_below 256 (zero_from p.states p.b) ≡ all_below 256 (buffers_beyond p)
  buffers_beyond_lem = all_cong 256 (zero_from p.states p.b) (buffers_beyond p) (λ k l. ap (λ (x : ℕ). ltb k p.b || eqb x 0) (entry k))

  states_most : all_below 256 (most p.states 2) ≡ all_below 256 (state_in p)
  states_most = all_cong 256 (most p.states 2) (state_in p) (λ k l. ap (λ (x : ℕ). leb x 2) (entry k))

  pub states_fit : all_below 256 (fits p.states p.b) ≡ (all_below 256 (state_in p) && all_below 256 (buffers_beyond p))
  states_fit = all_and 256 (most p.states 2) (zero_from p.states p.b) ∙ ap₂ ◌&&◌ states_most buffers_beyond_lem

  abbrev idle : ℕ → Bool
  idle k = ltb k p.w || zero_worker (worker_at p k)

  abbrev ids_at : ℕ → Bool
  ids_at k = leb (worker_at p k).v p.b && leb (worker_at p k).h.id p.b

  abbrev pub fit : ℕ → Bool
  fit k = worker_fits p.g p.b (worker_at p k)

  workers_three : all_below 8 fit ≡ (all_below 8 (label_in p) && all_below 8 ids_at && all_below 8 (worker_registers p))
  workers_three =
      all_and 8 (λ k. label_in p k && ids_at k) (worker_registers p)
      ∙ ap (λ (t : Bool). t && all_below 8 (worker_registers p)) (all_and 8 (label_in p) ids_at)

  workers_beyond_lem : all_below 8 (workers_beyond p) ≡ (all_below 8 idle && all_below 8 (empty_from p.sets p.w))
  workers_beyond_lem = all_or_and 8 (λ k. ltb k p.w) (λ k. zero_worker (worker_at p k)) (set_within p.sets 0)

  worker_ids_lem : all_below 8 (worker_ids p) ≡ (all_below 8 ids_at && all_below 8 (set_within p.sets p.b))
  worker_ids_lem = all_and 8 ids_at (set_within p.sets p.b)

reordered : (t e₀ e p₀ p s₀ s v₀ b₀ b w₀ l i r m m₀ : Bool)
    → (t && (e && e₀) && (p && p₀) && (s && s₀) && v₀ && (b && b₀) && ((l && i && r) && w₀) && (m && m₀))
    ≡ ((t && e₀ && p₀ && s₀ && v₀) && b₀ && (w₀ && m₀) && e && b && l && (p && s) && (i && m) && r)
reordered t e₀ e p₀ p s₀ s v₀ b₀ b w₀ l i r m m₀ = simp reorder

-- what the scans answered, of a record whose counts are in range
module _ (p : Pool) {taken employers posts ids versions known free fitting unused members empty : Bool}
    (hc : counts_sound p ≡ true)
    (ht : taken ≡ all_below 32 (untaken_from p.taken p.g))
    (he : employers ≡ (all_below 32 (most p.employer p.w) && all_below 32 (zero_from p.employer p.g)))
    (hp : posts ≡ (all_below 32 (most p.posted p.b) && all_below 32 (zero_from p.posted p.g)))
    (hi : ids ≡ (all_below 32 (most p.slot_id p.b) && all_below 32 (zero_from p.slot_id p.g)))
    (hv : versions ≡ all_below 32 (zero_from p.slot_version p.g))
    (hsm : known ≡ all_below 256 (most p.states 2))
    (hs : free ≡ all_below 256 (zero_from p.states p.b))
    (hw : fitting ≡ all_below 8 (fit p))
    (hu : unused ≡ all_below 8 (idle p))
    (hm : members ≡ all_below 8 (set_within p.sets p.b))
    (hn : empty ≡ all_below 8 (empty_from p.sets p.w)) where
  pub scanned_by :
      (taken && employers && posts && ids && versions && (known && free) && (fitting && unused) && (members && empty))
      ≡ sound_of p
  scanned_by =
      rw (ht, he, hp, hi, hv, hsm, hs, hw, hu, hm, hn)
      (rw (
        sound_tests p,
        hc,
        states_most p,
        buffers_beyond_lem p,
        workers_three p,
        guards_beyond_lem p,
        workers_beyond_lem p,
        worker_ids_lem p,
        all_and 32 (most p.posted p.b) (most p.slot_id p.b),
      )
      (reordered
      (all_below 32 (untaken_from p.taken p.g))
      (all_below 32 (zero_from p.employer p.g))
      (all_below 32 (most p.employer p.w))
      (all_below 32 (zero_from p.posted p.g))
      (all_below 32 (most p.posted p.b))
      (all_below 32 (zero_from p.slot_id p.g))
      (all_below 32 (most p.slot_id p.b))
      (all_below 32 (zero_from p.slot_version p.g))
      (all_below 256 (buffers_beyond p))
      (all_below 256 (state_in p))
      (all_below 8 (idle p))
      (all_below 8 (label_in p))
      (all_below 8 (ids_at p))
      (all_below 8 (worker_registers p))
      (all_below 8 (set_within p.sets p.b))
      (all_below 8 (empty_from p.sets p.w))))
