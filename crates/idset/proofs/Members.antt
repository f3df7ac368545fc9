-- The laws of `member_of` and `set_of`: that a set is its members, and what with and without do to them. Assumes nothing.
use mathlib.Core.Path.{◌≡◌, refl, sym, ap, ap₂, ◌∙◌, subst}
use mathlib.Core.Bool.{Bool, true, false, not, cond, ◌&&◌, ◌||◌, and_self_left}
use mathlib.Core.List.{List, [], ◌∷◌}
use Prim.Native.Nat.{ℕ, zero, suc, ◌+◌, ◌-◌, ◌*◌, ◌/◌, ◌%◌, ◌^◌, ◌≤◌, ◌<◌}
use native.Mathlib.Decide.{ℕ_discrete}
use native.Mathlib.Omega.{arith}
use lib.Dec.{eqb, leb, lit<}
use lib.ListN.{length, get_or, set, length-set}
use lib.Seq.{ext_get_or, get_or-set_same, get_or-set_other}
use mir.Syntax.{w64}
use mir.Val.{Val}
use denote.Array.{each}
use denote.Shadow.{shadow}
use denote.Plain.{UInt}
use borrow.Author.Rules.{elem_Fits}
use borrow.Author.Tests.{le-leb, leb-true, ne_eqb, eqb-true}
use Rattle.basics.proofs.Truth.{and_left, and_right, and_cong, and_swap, is_false, eqb_same}
use Rattle.idset.specs.declared.IdSet.{IdSet}
use Rattle.idset.specs.Members.{digit, is_id, member_of, word_of, set_of, no_ids, with_of, without_of}
use Rattle.idset.proofs.Digits.{digits_ext, pack_lt, pack_digit}

-- ---- ids

pub id_true : (b : ℕ) → 1 ≤ b → b ≤ 256 → is_id b ≡ true
unfolding is_id
id_true b h l = ap₂ ◌&&◌ (le-leb 1 b h) (le-leb b 256 l)

pub id_low : (b : ℕ) → is_id b ≡ true → 1 ≤ b
unfolding is_id
id_low b e = leb-true 1 b (and_left (leb 1 b) (leb b 256) e)

pub id_high : (b : ℕ) → is_id b ≡ true → b ≤ 256
unfolding is_id
id_high b e = leb-true b 256 (and_right (leb 1 b) (leb b 256) e)

-- ---- members are ids; the member at a word and a digit

pub member_id : (s : IdSet) (b : ℕ) → member_of s b ≡ true → is_id b ≡ true
unfolding member_of
member_id s b e = and_left (is_id b) (digit (get_or s.words ((b - 1) / 64) 0) ((b - 1) % 64)) e

pub member_is : (s : IdSet) (b : ℕ) → member_of s b ≡ (is_id b && member_of s b)
unfolding member_of
member_is s b = sym (and_self_left (is_id b) (digit (get_or s.words ((b - 1) / 64) 0) ((b - 1) % 64)))

pub member_at : (s : IdSet) (i j : ℕ) → i < 4 → j < 64 → member_of s (suc (i * 64 + j)) ≡ digit (get_or s.words i 0) j
unfolding member_of
member_at s i j hi hj =
    let b = suc (i * 64 + j) in
    let q : (b - 1) / 64 ≡ i = omega arith in
    let r : (b - 1) % 64 ≡ j = omega arith in
    ap (λ (x : Bool). x && digit (get_or s.words ((b - 1) / 64) 0) ((b - 1) % 64)) (id_true b (omega arith) (omega arith))
    ∙ ap₂ (λ (x y : ℕ). digit (get_or s.words x 0) y) q r

-- ---- four words of 64 digits: what every set of the code is

pub record Formed (s : IdSet) : Type 0 where
  pub four : length s.words ≡ 4
  pub fit : (i : ℕ) → get_or s.words i 0 < 2 ^ 64

-- what owning a set tells, which an answer finds by `search formed_of`
pub formed_of : (s : IdSet) (us : List Val) → length s.words ≡ 4 → shadow (each ℕ (UInt w64).own_val s.words us) → Formed s
formed_of s us n f = record { four = n; fit = λ i. (elem_Fits w64 w64 s.words us i f tt).fits }

-- four words, as the code builds a set
pub formed_words : {a b c d : ℕ} → a < 2 ^ 64 → b < 2 ^ 64 → c < 2 ^ 64 → d < 2 ^ 64 → Formed (record { words = a ∷ b ∷ c ∷ d ∷ [] })
formed_words {a} {b} {c} {d} ha hb hc hd = record { four = refl; fit = fit }
  where
    fit : (i : ℕ) → get_or (a ∷ b ∷ c ∷ d ∷ []) i 0 < 2 ^ 64
    fit zero = ha
    fit (suc zero) = hb
    fit (suc (suc zero)) = hc
    fit (suc (suc (suc zero))) = hd
    fit (suc (suc (suc (suc i)))) = lit< tt

-- two such sets with the same members are equal
pub member_ext : {s t : IdSet} → Formed s → Formed t → ((b : ℕ) → member_of s b ≡ member_of t b) → s ≡ t
member_ext {s} {t} hs ht e =
    ap (λ (l : List ℕ). record { words = l })
    (ext_get_or 0 s.words t.words (hs.four ∙ sym ht.four) (λ i h.
    let l : i < 4 = subst (λ (n : ℕ). i < n) hs.four h in
    digits_ext 64 (get_or s.words i 0) (get_or t.words i 0) (hs.fit i) (ht.fit i) (λ j k.
    sym (member_at s i j l k) ∙ e (suc (i * 64 + j)) ∙ member_at t i j l k)))

-- ---- the set of the ids that p holds of

word_at : (p : ℕ → Bool) (i : ℕ) → i < 4 → get_or (set_of p).words i 0 ≡ word_of p (i * 64)
unfolding set_of
word_at p zero h = refl
word_at p (suc zero) h = refl
word_at p (suc (suc zero)) h = refl
word_at p (suc (suc (suc zero))) h = refl
word_at p (suc (suc (suc (suc i)))) h = absurd (omega arith)

pub set_of_formed : (p : ℕ → Bool) → Formed (set_of p)
unfolding set_of word_of
set_of_formed p =
    formed_words (pack_lt (λ k. p (suc (0 + k))) 64) (pack_lt (λ k. p (suc (64 + k))) 64) (pack_lt (λ k. p (suc (128 + k))) 64) (pack_lt (λ k. p (suc (192 + k))) 64)

pub formed_by : {s : IdSet} (p : ℕ → Bool) → s ≡ set_of p → Formed s
formed_by p e = subst Formed (sym e) (set_of_formed p)

pub member_set_of : (p : ℕ → Bool) (b : ℕ) → member_of (set_of p) b ≡ (is_id b && p b)
unfolding member_of word_of
member_set_of p b = and_cong (is_id b) (λ e.
    let i = (b - 1) / 64 in
    let j = (b - 1) % 64 in
    let lo = id_low b e in
    let hi = id_high b e in
    let back : suc (i * 64 + j) ≡ b = omega arith in
    ap (λ (w : ℕ). digit w j) (word_at p i (omega arith)) ∙ pack_digit (λ k. p (suc (i * 64 + k))) 64 j (omega arith) ∙ ap p back)

-- what a set must be, by its members
pub set_of_eq : {s : IdSet} (p : ℕ → Bool) → Formed s → ((b : ℕ) → is_id b ≡ true → member_of s b ≡ p b) → s ≡ set_of p
set_of_eq {s} p h e = member_ext h (set_of_formed p) (λ b. member_is s b ∙ and_cong (is_id b) (e b) ∙ sym (member_set_of p b))

pub set_of_self : {s : IdSet} → Formed s → s ≡ set_of (member_of s)
set_of_self {s} h = set_of_eq (member_of s) h (λ b e. refl)

pub set_of_cong : {p q : ℕ → Bool} → ((b : ℕ) → is_id b ≡ true → p b ≡ q b) → set_of p ≡ set_of q
set_of_cong {p} {q} e =
    member_ext (set_of_formed p) (set_of_formed q) (λ b. member_set_of p b ∙ and_cong (is_id b) (e b) ∙ sym (member_set_of q b))

-- ---- the laws of `with_of` and `without_of`

pub none_formed : Formed no_ids
unfolding no_ids
none_formed = set_of_formed (λ b. false)

pub member_none : (b : ℕ) → member_of no_ids b ≡ false
unfolding no_ids
member_none b = member_set_of (λ b. false) b ∙ no (is_id b)
  where
    no : (x : Bool) → (x && false) ≡ false
    no true = refl
    no false = refl

pub member_with : (s : IdSet) (a b : ℕ) → member_of (with_of s a) b ≡ (is_id b && (eqb b a || member_of s b))
unfolding with_of
member_with s a b = member_set_of (λ b. eqb b a || member_of s b) b

-- a is an id
pub member_with_id : (s : IdSet) (a b : ℕ) → is_id a ≡ true → member_of (with_of s a) b ≡ (eqb b a || member_of s b)
member_with_id s a b h = member_with s a b ∙ go (eqb b a) refl
  where
    go : (t : Bool) → eqb b a ≡ t → (is_id b && (t || member_of s b)) ≡ (t || member_of s b)
    go true e = ap (λ (x : Bool). x && true) (ap is_id (eqb-true b a e) ∙ h)
    go false e = sym (member_is s b)

pub member_without : (s : IdSet) (a b : ℕ) → member_of (without_of s a) b ≡ (not (eqb b a) && member_of s b)
unfolding without_of
member_without s a b =
    member_set_of (λ b. not (eqb b a) && member_of s b) b ∙ and_swap (is_id b) (not (eqb b a)) (member_of s b)
    ∙ ap (λ (x : Bool). not (eqb b a) && x) (sym (member_is s b))

-- ---- one digit put into a word

abbrev pub put : IdSet → ℕ → ℕ → IdSet
put s i v = record { words = set s.words i v }

fit_set : (m : ℕ) (l : List ℕ) (i v j : ℕ) → ((k : ℕ) → get_or l k 0 < m) → v < m → get_or (set l i v) j 0 < m
fit_set m [] i v j f h = f j
fit_set m (x ∷ l) zero v zero f h = h
fit_set m (x ∷ l) zero v (suc j) f h = f (suc j)
fit_set m (x ∷ l) (suc i) v zero f h = f zero
fit_set m (x ∷ l) (suc i) v (suc j) f h = fit_set m l i v j (λ k. f (suc k)) h

put_formed : {s : IdSet} (i v : ℕ) → Formed s → v < 2 ^ 64 → Formed (put s i v)
put_formed {s} i v h l = record {
  four = length-set s.words i v ∙ h.four;
  fit = λ j. fit_set (2 ^ 64) s.words i v j h.fit l;
}

-- v is word i of s, but that digit j is x: then the set with v there is s, but that id i * 64 + j + 1 is a member as x says
put_member : (s : IdSet) (i j v : ℕ) (x : Bool) → Formed s → i < 4 → j < 64
    → ((k : ℕ) → k < 64 → digit v k ≡ cond (eqb k j) x (digit (get_or s.words i 0) k))
    → (i' j' : ℕ) → i' < 4 → j' < 64
    → digit (get_or (set s.words i v) i' 0) j' ≡ cond (eqb (suc (i' * 64 + j')) (suc (i * 64 + j))) x (digit (get_or s.words i' 0) j')
put_member s i j v x h hi hj e i' j' hi' hj' = go (ℕ_discrete i' i)
  where
    b : ℕ
    b = suc (i' * 64 + j')

    a : ℕ
    a = suc (i * 64 + j)

    l : List ℕ
    l = s.words

    go : Dec (i' ≡ i) → digit (get_or (set l i v) i' 0) j' ≡ cond (eqb b a) x (digit (get_or l i' 0) j')
    go (yes q) =
        let here : get_or (set l i v) i' 0 ≡ v = ap (λ (n : ℕ). get_or (set l i v) n 0) q ∙ get_or-set_same l i v 0 (subst (λ (n : ℕ). i < n) (sym h.four) hi) in
        ap (λ (w : ℕ). digit w j') here ∙ e j' hj'
        ∙ ap₂ (λ (t : Bool) (n : ℕ). cond t x (digit (get_or l n 0) j')) (eqb_same j' j b a (λ z. omega arith) (λ z. omega arith)) (sym q)
    go (no n) =
        ap (λ (w : ℕ). digit w j') (get_or-set_other l i i' v 0 n)
        ∙ ap (λ (t : Bool). cond t x (digit (get_or l i' 0) j')) (sym (ne_eqb b a (λ z. n (omega arith))))

pub put_eq : (s : IdSet) (a v : ℕ) (x : Bool) → Formed s → 1 ≤ a → a ≤ 256 → v < 2 ^ 64
    → ((k : ℕ) → k < 64 → digit v k ≡ cond (eqb k ((a - 1) % 64)) x (digit (get_or s.words ((a - 1) / 64) 0) k))
    → put s ((a - 1) / 64) v ≡ set_of (λ b. cond (eqb b a) x (member_of s b))
put_eq s a v x h lo hi hv e = set_of_eq (λ b. cond (eqb b a) x (member_of s b)) (put_formed ((a - 1) / 64) v h hv) (λ b eb. at b (id_low b eb) (id_high b eb))
  where
    i : ℕ
    i = (a - 1) / 64

    at : (b : ℕ) → 1 ≤ b → b ≤ 256 → member_of (put s i v) b ≡ cond (eqb b a) x (member_of s b)
    at b lb hb =
        let i' = (b - 1) / 64 in
        let j' = (b - 1) % 64 in
        let hi' : i' < 4 = omega arith in
        let hj' : j' < 64 = omega arith in
        let qb : suc (i' * 64 + j') ≡ b = omega arith in
        let qa : suc ((a - 1) / 64 * 64 + (a - 1) % 64) ≡ a = omega arith in
        ap (λ (n : ℕ). member_of (put s i v) n) (sym qb) ∙ member_at (put s i v) i' j' hi' hj'
        ∙ put_member s i ((a - 1) % 64) v x h (omega arith) (omega arith) e i' j' hi' hj'
        ∙ ap (λ (d : Bool). cond (eqb (suc (i' * 64 + j')) (suc ((a - 1) / 64 * 64 + (a - 1) % 64))) x d) (sym (member_at s i' j' hi' hj'))
        ∙ ap₂ (λ (n m : ℕ). cond (eqb n m) x (member_of s n)) qb qa

-- an id that is none changes nothing
pub with_none : (s : IdSet) (a : ℕ) → Formed s → (is_id a ≡ true → ⊥) → s ≡ with_of s a
unfolding with_of
with_none s a h f = set_of_eq (λ b. eqb b a || member_of s b) h (λ b e.
    ap (λ (t : Bool). t || member_of s b) (sym (ne_eqb b a (λ q. f (subst (λ (n : ℕ). is_id n ≡ true) q e)))))

pub without_none : (s : IdSet) (a : ℕ) → Formed s → (is_id a ≡ true → ⊥) → s ≡ without_of s a
unfolding without_of
without_none s a h f = set_of_eq (λ b. not (eqb b a) && member_of s b) h (λ b e.
    ap (λ (t : Bool). not t && member_of s b) (sym (ne_eqb b a (λ q. f (subst (λ (n : ℕ). is_id n ≡ true) q e)))))

-- ---- what is no id

pub no_member : (s : IdSet) (a : ℕ) → (is_id a ≡ true → ⊥) → member_of s a ≡ false
no_member s a f = is_false (member_of s a) (λ e. f (member_id s a e))

pub too_low : {a : ℕ} → a < 1 → is_id a ≡ true → ⊥
too_low {a} h e = omega (arith, id_low a e)

pub too_high : {a : ℕ} → 256 < a → is_id a ≡ true → ⊥
too_high {a} h e = omega (arith, id_high a e)
