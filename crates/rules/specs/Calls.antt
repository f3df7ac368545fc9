-- The calls on a record as one type, and runs of them: a call gives its answer, the record and the lent list, refused or not.
use Rattle.std.specs.Prelude.{List, [], ◌∷◌, ℕ}
use Rattle.pool.specs.declared.Pool.{Pool}
use Rattle.pool.specs.Answers.{Said, Told}
use Rattle.pool.specs.Begins.{hire_of, fire_of, post_of, give_up_of, take_of, ask_of}
use Rattle.pool.specs.Steps.{advance_of, list_after}

-- workers, guards and buffers by their numbers; an advance with the list that it is lent
pub data Call : Type 0 where
  hiring : ℕ → Call
  firing : ℕ → ℕ → Call
  posting : ℕ → ℕ → ℕ → Call
  giving_up : ℕ → List ℕ → Call
  taking : ℕ → Call
  asking : ℕ → ℕ → Call
  advancing : ℕ → List ℕ → Call

unfoldable pub call : Call → Pool → Told
call (hiring w) p = hire_of p (record { 0 = w })
call (firing w g) p = fire_of p (record { 0 = w }) (record { 0 = g })
call (posting w g b) p = post_of p (record { 0 = w }) (record { 0 = g }) (record { 0 = b })
call (giving_up w ids) p = give_up_of p (record { 0 = w }) ids
call (taking b) p = take_of p (record { 0 = b })
call (asking w b) p = ask_of p (record { 0 = w }) (record { 0 = b })
call (advancing w out) p = advance_of p (record { 0 = w }) out

-- the list that an advance is lent; the other calls are lent none to write
unfoldable pub lent_to : Call → List ℕ
lent_to (hiring w) = []
lent_to (firing w g) = []
lent_to (posting w g b) = []
lent_to (giving_up w ids) = []
lent_to (taking b) = []
lent_to (asking w b) = []
lent_to (advancing w out) = out

-- the lent list afterwards
unfoldable pub list_of : Call → Pool → List ℕ
list_of (hiring w) p = []
list_of (firing w g) p = []
list_of (posting w g b) p = []
list_of (giving_up w ids) p = []
list_of (taking b) p = []
list_of (asking w b) p = []
list_of (advancing w out) p = list_after p (record { 0 = w }) out

-- ---- runs

-- the record after the calls, one after the other
unfoldable pub after : List Call → Pool → Pool
after [] p = p
after (c ∷ cs) p = after cs (call c p).pool

-- what the caller sees of a call
pub record Seen : Type 0 where
  pub made : Call
  pub answer : Said
  pub list : List ℕ

unfoldable pub seen : List Call → Pool → List Seen
seen [] p = []
seen (c ∷ cs) p = record { made = c; answer = (call c p).answer; list = list_of c p } ∷ seen cs (call c p).pool
