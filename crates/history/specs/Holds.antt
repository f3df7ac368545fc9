-- Which buffer each guard holds, by the calls and what the caller saw of them alone: no definition here takes a record. A guard holds a buffer
-- from the advance that completes a post on it, if it is then in service, until the next post on that guard begins.
use Rattle.std.specs.Prelude.{ℕ, Bool, true, false, eqb}
use Rattle.basics.specs.Pick.{when}
use Rattle.pool.specs.Answers.{Said, accepted, yes, no, none_found, fired, posted, clear, label, guard, back, count, fault, refused}
use Rattle.rules.specs.Calls.{Call, hiring, firing, posting, giving_up, taking, asking, advancing}
use Rattle.history.specs.States.{States, is_accepted}

-- of each worker the guard and the buffer of its latest post; of each guard the buffer that it holds, 0 for none
pub record Posts : Type 0 where
  pub guard_of : ℕ → ℕ
  pub buffer_of : ℕ → ℕ
  pub holds : ℕ → ℕ

-- f, but x at k
unfoldable pub changed : {A : Type 0} → (ℕ → A) → ℕ → A → ℕ → A
changed f k x j = when (eqb j k) x (f j)

unfoldable pub is_posted : Said → Bool
is_posted accepted = false
is_posted yes = false
is_posted no = false
is_posted none_found = false
is_posted fired = false
is_posted posted = true
is_posted clear = false
is_posted (label l) = false
is_posted (guard g) = false
is_posted (back n) = false
is_posted (count n) = false
is_posted (fault b n) = false
is_posted (refused n place) = false

-- a post of worker w on guard g and buffer b begins
unfoldable pub begins_post : ℕ → ℕ → ℕ → Posts → Posts
begins_post w g b h =
    record {
      guard_of = changed h.guard_of w g;
      buffer_of = changed h.buffer_of w b;
      holds = changed h.holds g 0;
    }

-- what a completed post on b holds
unfoldable pub held_by : States → ℕ → ℕ
held_by s b = when (eqb (s b) 1) b 0

-- worker w's post completes
unfoldable pub completes_post : States → ℕ → Posts → Posts
completes_post s w h =
    record {
      guard_of = h.guard_of;
      buffer_of = h.buffer_of;
      holds = changed h.holds (h.guard_of w) (held_by s (h.buffer_of w));
    }

-- after one more call, before which the states are s
unfoldable pub heard_posts : Call → Said → States → Posts → Posts
heard_posts (hiring w) answer s h = h
heard_posts (firing w g) answer s h = h
heard_posts (posting w g b) answer s h = when (is_accepted answer) (begins_post w g b h) h
heard_posts (giving_up w ids) answer s h = h
heard_posts (taking c) answer s h = h
heard_posts (asking w c) answer s h = h
heard_posts (advancing w out) answer s h = when (is_posted answer) (completes_post s w h) h

-- nobody has posted
abbrev pub no_posts : Posts
no_posts = record { guard_of = λ w. 0; buffer_of = λ w. 0; holds = λ g. 0 }
