-- The theorem is not empty: runs from a fresh pool of 2 workers, 2 guards and 3 buffers in which a guard holds a buffer that a worker gives up, and what
-- their histories say.
use Rattle.std.specs.Prelude.{ℕ, ◌+◌, ◌≡◌, true, List, [], ◌∷◌, ◌++◌}
use Rattle.basics.specs.Among.{among_first}
use Rattle.pool.specs.declared.Pool.{Pool}
use Rattle.pool.specs.Answers.{back}
use Rattle.pool.specs.Record.{blank}
use Rattle.rules.specs.Calls.{Call, posting, giving_up, taking, advancing, call, list_of, after, seen}
use Rattle.rules.specs.Cases.{advances, case1, case2, case5, case6, case7}
use Rattle.history.specs.Counts.{in_slots, in_sets}
use Rattle.history.specs.History.{History, history_after, fresh}
use Rattle.history.specs.Runs.{times_placed}

-- the record and the history that a run leaves
abbrev pub left_by : List Call → Pool
left_by calls = after calls (blank 2 2 3)

abbrev pub told_by : List Call → History
told_by calls = history_after fresh (seen calls (blank 2 2 3))

-- ---- guard 0 and buffer 1: the starred cases 1, 5, 6 and 7, each run from the making on

unfoldable pub run5 : List Call
run5 = case1.calls ++ case5.calls

-- the same but for the last advance
unfoldable pub before_empty : List Call
before_empty = case1.calls ++ (taking 1 ∷ posting 1 0 1 ∷ advances 1 2) ++ (giving_up 2 (1 ∷ []) ∷ advances 2 6)

unfoldable pub run6 : List Call
run6 = run5 ++ case6.calls

unfoldable pub run7 : List Call
run7 = run5 ++ case7.calls

pub record HeldAndKept : Type 0 where
  -- guard 0 holds buffer 1, and the give-up of it hands nothing back
  pub five_before : (told_by before_empty).posts.holds 0 ≡ 1
  pub five : (told_by run5).posts.holds 0 ≡ 1
  pub five_back : (told_by run5).back ≡ 0
  -- stood down, it holds nothing, and the next give-up hands buffer 1 back
  pub six : (told_by run6).posts.holds 0 ≡ 0
  pub six_back : (told_by run6).back ≡ 1
  -- posted on buffer 2, it holds that, and the give-up of 2 hands 1 back
  pub seven : (told_by run7).posts.holds 0 ≡ 2
  pub seven_back : (told_by run7).back ≡ 1

-- ---- guard 1 and buffer 3

-- Worker 2 hires guard 1 and posts it on buffer 3. Worker 1 gives up 3 and 1, and stands before its last advance
unfoldable pub before_back : List Call
before_back = case1.calls ++ case2.calls ++ (taking 1 ∷ taking 2 ∷ taking 3 ∷ posting 2 1 3 ∷ advances 2 2) ++ (giving_up 1 (3 ∷ 1 ∷ []) ∷ advances 1 11)

-- that advance, and then the give-up of 2 begins
unfoldable pub after_back : List Call
after_back = before_back ++ advances 1 1 ++ (giving_up 1 (2 ∷ []) ∷ [])

pub record HeldByAnother : Type 0 where
  -- guard 1 holds buffer 3 while worker 1's give-up ends, and afterwards
  pub held_before : (told_by before_back).posts.holds 1 ≡ 3
  pub held_after : (told_by after_back).posts.holds 1 ≡ 3
  -- 3 given up = 1 handed back + 1 in a slot + 1 in a set
  pub given : (told_by after_back).given ≡ 3
  pub back : (told_by after_back).back ≡ 1
  pub slots : in_slots (left_by after_back) ≡ 1
  pub sets : in_sets (left_by after_back) ≡ 1
  -- buffer 1 is free again, and the others leave
  pub free : (told_by after_back).states 1 ≡ 0
  pub leaving : (told_by after_back).states 2 ≡ 2
  pub kept : (told_by after_back).states 3 ≡ 2

-- ---- what the theorem says of these runs

-- whatever list it is lent, worker w's advance after these calls does not hand back buffer id
abbrev KeepsBack : List Call → ℕ → ℕ → Type 0
KeepsBack calls w id =
    (out : List ℕ) (n : ℕ) → (call (advancing w out) (left_by calls)).answer ≡ back n → among_first (list_of (advancing w out) (left_by calls)) n id ≡ true → ⊥

pub record KeptBack : Type 0 where
  -- what guard 0 holds, and what guard 1 holds
  pub first : KeepsBack before_empty 2 1
  pub another : KeepsBack before_back 1 3
  -- one buffer is free, one in a set and one in a slot: each in one place
  pub free_place : times_placed (left_by after_back) (told_by after_back) 1 ≡ 1
  pub set_place : times_placed (left_by after_back) (told_by after_back) 2 ≡ 1
  pub slot_place : times_placed (left_by after_back) (told_by after_back) 3 ≡ 1
  pub counts : 3 ≡ 1 + in_slots (left_by after_back) + in_sets (left_by after_back)
