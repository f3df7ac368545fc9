-- The members as an ascending list: those above an id, and a walk over them. Assumes nothing.
use mathlib.Core.Path.{◌≡◌, refl, sym, ap, ap₂, ◌∙◌, subst}
use mathlib.Core.Bool.{Bool, true, false, ◌||◌}
use mathlib.Core.List.{List, ◌∷◌}
use Prim.Native.Nat.{ℕ, zero, suc, ◌+◌, ◌-◌, ◌*◌, ◌≤◌, ◌<◌, suc-le-suc}
use native.Mathlib.Nat.{zero-lt-suc, zero-add, suc-add, add-zero}
use native.Mathlib.Numerals.{one-add, add-one}
use native.Mathlib.Omega.{arith}
use lib.ListN.{length, get_or}
use Rattle.std.specs.Prelude.{Some, None}
use Rattle.basics.specs.Pick.{when}
use borrow.Author.Tests.{eq-eqb, ne_eqb}
use Rattle.basics.specs.Below.{count_below, any_below, one}
use Rattle.basics.specs.Among.{among}
use Rattle.basics.proofs.Any.{among_cons}
use Rattle.basics.proofs.Truth.{by_order}
use Rattle.basics.proofs.Count.{count_none, count_front, count_cong}
use Rattle.idset.specs.declared.IdSet.{IdSet}
use Rattle.idset.specs.Members.{digit, member_of, size_of, next_mark, ids_of, above, members_of}
use Rattle.idset.proofs.Members.{member_at}
use Rattle.idset.proofs.NextMark.{Mark, Told, mark_is}

pub ids_skip : (p : ℕ → Bool) (t n b : ℕ) → ((j : ℕ) → j < t → p (b + j) ≡ false) → ids_of p (t + n) b ≡ ids_of p n (b + t)
unfolding ids_of when
ids_skip p zero n b f = ap₂ (ids_of p) (zero-add n) (sym (add-zero b))
ids_skip p (suc t) n b f =
    ap (λ (m : ℕ). ids_of p m b) (suc-add t n)
    ∙ ap (λ (x : Bool). when x (b ∷ ids_of p (t + n) (suc b)) (ids_of p (t + n) (suc b))) (ap p (sym (add-zero b)) ∙ f 0 (zero-lt-suc t))
    ∙ ids_skip p t n (suc b) (λ j l. ap p (move j) ∙ f (suc j) (suc-le-suc l)) ∙ ap (ids_of p n) (move t)
  where
    move : (j : ℕ) → suc b + j ≡ b + suc j
    move j = omega arith

pub ids_hit : (p : ℕ → Bool) (n b : ℕ) → p b ≡ true → ids_of p (suc n) b ≡ b ∷ ids_of p n (suc b)
unfolding ids_of when
ids_hit p n b e = ap (λ (x : Bool). when x (b ∷ ids_of p n (suc b)) (ids_of p n (suc b))) e

-- ---- a walk over the members, that has come from id a to id v

-- no member stands above a and up to v
pub record Passed (s : IdSet) (a v : ℕ) : Type 0 where
  pub up : a ≤ v
  pub top : v ≤ 256
  pub none : (b : ℕ) → a < b → b ≤ v → member_of s b ≡ false

pub above_passed : {s : IdSet} {a v : ℕ} → Passed s a v → above s a ≡ above s v
unfolding above
above_passed {s} {a} {v} p =
    let up = p.up in
    let top = p.top in
    let count : 256 - a ≡ (v - a) + (256 - v) = omega arith in
    let here : suc a + (v - a) ≡ suc v = omega arith in
    ap (λ (n : ℕ). ids_of (member_of s) n (suc a)) count
    ∙ ids_skip (member_of s) (v - a) (256 - v) (suc a) (λ j l. p.none (suc a + j) (omega arith) (omega arith))
    ∙ ap (ids_of (member_of s) (256 - v)) here

-- id k + 1 is a member
pub record Met (s : IdSet) (k : ℕ) : Type 0 where
  pub top : k < 256
  pub member : member_of s (k + 1) ≡ true

pub above_met : {s : IdSet} {k : ℕ} → Met s k → above s k ≡ (k + 1) ∷ above s (k + 1)
unfolding above
above_met {s} {k} met =
    let top = met.top in
    let count : 256 - k ≡ suc (256 - (k + 1)) = omega arith in
    ap₂ (ids_of (member_of s)) count (sym (add-one k)) ∙ ids_hit (member_of s) (256 - (k + 1)) (k + 1) met.member

-- what a search for the next mark of word i tells: the member at its place, and that none stands before it; or that none stands up to the
-- word's end
module _ (s : IdSet) (i m : ℕ) (hi : i < 4) where
  member_in : (b j : ℕ) → j < 64 → b ≡ 64 * i + j + 1 → member_of s b ≡ digit (get_or s.words i 0) j
  member_in b j l q = let q' : b ≡ suc (i * 64 + j) = omega arith in ap (member_of s) q' ∙ member_at s i j hi l

  passed_to : (r : ℕ) → m ≤ r → r ≤ 64 → ((j : ℕ) → m ≤ j → j < r → digit (get_or s.words i 0) j ≡ false) → Passed s (64 * i + m) (64 * i + r)
  passed_to r up top none =
      record {
        up = omega arith;
        top = omega arith;
        none = λ b lo up. let j = b - (64 * i + 1) in member_in b j (omega arith) (omega arith) ∙ none j (omega arith) (omega arith);
      }

  pub mark_met : {r : ℕ} → Some r ≡ next_mark (get_or s.words i 0) m → (r < 64) × Passed s (64 * i + m) (64 * i + r) × Met s (64 * i + r)
  mark_met {r} e =
      let mark : Mark (get_or s.words i 0) m r = subst (Told (get_or s.words i 0) m) (sym e) (mark_is (get_or s.words i 0) m) in
      let below = mark.top in
      (below, passed_to r mark.up (omega arith) mark.none, record { top = omega arith; member = member_in (64 * i + r + 1) r below refl ∙ mark.here })

  pub marks_passed : m ≤ 64 → None ≡ next_mark (get_or s.words i 0) m → Passed s (64 * i + m) (64 * (i + 1))
  marks_passed h e =
      let none : Told (get_or s.words i 0) m None = subst (Told (get_or s.words i 0) m) (sym e) (mark_is (get_or s.words i 0) m) in
      let q : 64 * i + 64 ≡ 64 * (i + 1) = omega arith in
      rw q at (passed_to 64 h (omega arith) none)

-- as many as the count says
ids_length : (p : ℕ → Bool) (n b : ℕ) → length (ids_of p n b) ≡ count_below n (λ k. p (b + k))
unfolding ids_of when
ids_length p zero b = sym (count_none (λ k. p (b + k)))
ids_length p (suc n) b =
    split (p b) (b ∷ ids_of p n (suc b)) (ids_of p n (suc b)) refl
    ∙ ap₂ (λ (x : Bool) (y : ℕ). one x + y) (ap p (sym (add-zero b)))
    (ids_length p n (suc b) ∙ count_cong n (λ k. p (suc b + k)) (λ k. p (b + suc k)) (λ k l. ap p (move k)))
    ∙ sym (count_front n (λ k. p (b + k)))
  where
    split : (t : Bool) (x y : List ℕ) → length x ≡ suc (length y) → length (when t x y) ≡ one t + length y
    split true x y e = omega arith
    split false x y e = omega arith

    move : (j : ℕ) → suc b + j ≡ b + suc j
    move j = omega arith

pub members_size : (s : IdSet) → length (members_of s) ≡ size_of s
unfolding members_of above size_of
members_size s = ids_length (member_of s) 256 1 ∙ count_cong 256 (λ k. member_of s (1 + k)) (λ k. member_of s (suc k)) (λ k l. ap (member_of s) (one-add k))

-- ---- the listed ids are the members

-- another id, listed or not
passed : (b x : ℕ) (l : List ℕ) (t : Bool) → (b ≡ x → ⊥) → among (when t (b ∷ l) l) x ≡ among l x
unfolding when
passed b x l true n = among_cons b l x ∙ ap (λ (t : Bool). t || among l x) (ne_eqb b x n)
passed b x l false n = refl

below_ids : (p : ℕ → Bool) (n b x : ℕ) → x < b → among (ids_of p n b) x ≡ false
unfolding ids_of any_below
below_ids p zero b x l = refl
below_ids p (suc n) b x l = passed b x (ids_of p n (suc b)) (p b) (λ e. omega arith) ∙ below_ids p n (suc b) x (omega arith)

met : (b x : ℕ) (l : List ℕ) (t : Bool) → b ≡ x → among l x ≡ false → among (when t (b ∷ l) l) x ≡ t
unfolding when
met b x l true e h = among_cons b l x ∙ ap (λ (t : Bool). t || among l x) (eq-eqb b x e)
met b x l false e h = h

among_ids : (p : ℕ → Bool) (n b x : ℕ) → b ≤ x → x < b + n → among (ids_of p n b) x ≡ p x
unfolding ids_of
among_ids p zero b x lo up = absurd (omega arith)
among_ids p (suc n) b x lo up =
    by_order x b
    (λ l. let q : b ≡ x = omega arith in met b x (ids_of p n (suc b)) (p b) q (below_ids p n (suc b) x (omega arith)) ∙ ap p q)
    (λ l. passed b x (ids_of p n (suc b)) (p b) (λ e. omega arith) ∙ among_ids p n (suc b) x l (omega arith))

pub among_members : (s : IdSet) (x : ℕ) → 1 ≤ x → x ≤ 256 → among (members_of s) x ≡ member_of s x
unfolding members_of above
among_members s x lo hi = among_ids (member_of s) 256 1 x lo (omega arith)
