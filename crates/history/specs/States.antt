-- Which buffers are free, in service or leaving, by the calls and what the caller saw of them alone: no definition here takes a record.
use Rattle.std.specs.Prelude.{ℕ, Bool, true, false, ◌&&◌, List, eqb}
use Rattle.basics.specs.Pick.{when}
use Rattle.basics.specs.Among.{among_first, among}
use Rattle.pool.specs.Answers.{Said, accepted, yes, no, none_found, fired, posted, clear, label, guard, back, count, fault, refused}
use Rattle.rules.specs.Calls.{Call, hiring, firing, posting, giving_up, taking, asking, advancing}

-- 0 free, 1 in service, 2 leaving, of each buffer
abbrev pub States : Type 0
States = ℕ → ℕ

unfoldable pub is_accepted : Said → Bool
is_accepted accepted = true
is_accepted yes = false
is_accepted no = false
is_accepted none_found = false
is_accepted fired = false
is_accepted posted = false
is_accepted clear = false
is_accepted (label l) = false
is_accepted (guard g) = false
is_accepted (back n) = false
is_accepted (count n) = false
is_accepted (fault b n) = false
is_accepted (refused n place) = false

-- how many ids an answer says were handed back
unfoldable pub handed_back : Said → ℕ
handed_back accepted = 0
handed_back yes = 0
handed_back no = 0
handed_back none_found = 0
handed_back fired = 0
handed_back posted = 0
handed_back clear = 0
handed_back (label l) = 0
handed_back (guard g) = 0
handed_back (back n) = n
handed_back (count n) = 0
handed_back (fault b n) = 0
handed_back (refused n place) = 0

-- after one more call: an accepted take, an accepted give-up, and the ids at the start of a list that an advance handed back
unfoldable pub heard : Call → Said → List ℕ → States → States
heard (hiring w) answer list s b = s b
heard (firing w g) answer list s b = s b
heard (posting w g c) answer list s b = s b
heard (giving_up w ids) answer list s b = when (is_accepted answer && among ids b) 2 (s b)
heard (taking c) answer list s b = when (is_accepted answer && eqb b c) 1 (s b)
heard (asking w c) answer list s b = s b
heard (advancing w out) answer list s b = when (among_first list (handed_back answer) b) 0 (s b)

-- a fresh pool has every buffer free
abbrev pub all_free : States
all_free b = 0
