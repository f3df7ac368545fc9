-- What the scans of the soundness test answer, entry by entry. A reader of the calls needs only `sound_of`, which they make up together.
use Rattle.std.specs.Prelude.{ℕ, ◌≡◌, Bool, ◌&&◌, ◌||◌, List, [], eqb, leb, ltb, length, get_or}
use Rattle.basics.specs.Below.{all_below}
use Rattle.idset.specs.declared.IdSet.{IdSet}
use Rattle.idset.specs.Members.{within_of}
use Rattle.worker.specs.declared.Worker.{Worker}
use Rattle.pool.specs.Sound.{is_label, registers_in}

-- of all entries, whatever test it is by which the code asks one
abbrev pub Every : {T : Type 0} → (T → Bool → Type 0) → List T → Bool → Type 0
Every {T} asked xs r =
    (test : T → Bool) (none : T) → ((x : T) (b : Bool) → asked x b → b ≡ test x) → r ≡ all_below (length xs) (λ k. test (get_or xs k none))

-- a worker without its set, used or not
abbrev pub worker_fits : ℕ → ℕ → Worker → Bool
worker_fits g b x = is_label x.label && (leb x.v b && leb x.h.id b) && registers_in g x

-- entry k is at most the limit; it is 0 beyond the count
abbrev pub most : List ℕ → ℕ → ℕ → Bool
most xs limit k = leb (get_or xs k 0) limit

abbrev pub zero_from : List ℕ → ℕ → ℕ → Bool
zero_from xs count k = ltb k count || eqb (get_or xs k 0) 0

-- set k is within the limit
abbrev pub set_within : List IdSet → ℕ → ℕ → Bool
set_within ss limit k = within_of (get_or ss k (record { words = [] })) limit
