-- All that the calls and what the caller saw of them tell, from any start: one value, with one step for each call.
use Rattle.std.specs.Prelude.{ℕ, ◌+◌, List, [], ◌∷◌}
use Rattle.rules.specs.Calls.{Seen}
use Rattle.history.specs.States.{States, handed_back, heard, all_free}
use Rattle.history.specs.Holds.{Posts, heard_posts, no_posts}
use Rattle.history.specs.Counts.{given_up_by}

-- the state of each buffer, the posts and holds, and how many buffers were given up and handed back
pub record History : Type 0 where
  pub states : States
  pub posts : Posts
  pub given : ℕ
  pub back : ℕ

unfoldable pub tells : Seen → History → History
tells e h =
    record {
      states = heard e.made e.answer e.list h.states;
      posts = heard_posts e.made e.answer h.states h.posts;
      given = h.given + given_up_by e.made e.answer;
      back = h.back + handed_back e.answer;
    }

unfoldable pub history_after : History → List Seen → History
history_after h [] = h
history_after h (e ∷ es) = history_after (tells e h) es

-- of a fresh pool
abbrev pub fresh : History
fresh = record { states = all_free; posts = no_posts; given = 0; back = 0 }
