-- The starred cases come out as the paper says: antt runs the rules on each, from a start that is shown to be sound. Assumes nothing.
use mathlib.Core.Path.{◌≡◌, refl}
use mathlib.Core.Bool.{true}
use Rattle.pool.specs.declared.Pool.{Pool}
use Rattle.pool.specs.Record.{blank, with_taken, with_employer, with_posted, with_slot, with_state}
use Rattle.pool.specs.Sound.{sound_of}
use Rattle.rules.specs.Cases.{Case, Hold, all_held, holds, answers, list_at_end, left, shown_by, shown, advances, case1, case2, case3, case4, case5, case6, case7, case8, case9a, case9b, case10, starred}
use Rattle.rules.proofs.Fresh.{made_sound}
use Rattle.rules.proofs.CallsKept.{run_sound}
use Rattle.rules.proofs.SoundRuns.{sound_after, sound_seen, sound_after_lem, sound_seen_lem, running}

-- what a case computes by
playing : Unit {0}
unfolding running answers list_at_end shown_by advances case1 case2 case3 case4 case5 case6 case7 case8 case9a case9b case10
playing = tt

-- a case whose start is the sound record p
show : (c : Case) (p : Pool) → c.start ≡ p → sound_of p ≡ true
    → shown_by (sound_seen c.calls p) (sound_after c.calls p) c.looked_at ≡ c.expected → shown c ≡ c.expected
unfolding shown left
show c p start sound e = rw (start, sound_seen_lem c.calls p sound, sound_after_lem c.calls p sound) e

leaves : (c : Case) (p q : Pool) → c.start ≡ p → sound_of p ≡ true → sound_after c.calls p ≡ q → left c ≡ q
unfolding left
leaves c p q start sound e = rw (start, sound_after_lem c.calls p sound) e

left_sound : (c : Case) (p q : Pool) → c.start ≡ p → sound_of p ≡ true → left c ≡ q → sound_of q ≡ true
unfolding left
left_sound c p q start sound e = rw (← e, start) (run_sound c.calls p sound)

-- ---- fresh pools

abbrev fresh : Pool
fresh = blank 2 2 3

fresh_sound : sound_of fresh ≡ true
fresh_sound = made_sound 2 2 3 refl

show1 : shown case1 ≡ case1.expected
unfolding playing
show1 = show case1 fresh refl fresh_sound refl

show4 : shown case4 ≡ case4.expected
unfolding playing
show4 = show case4 fresh refl fresh_sound refl

-- ---- where case 1 ended: guard 0 is with worker 1

abbrev pub hired : Pool
hired = with_taken 0 true (with_employer 0 1 fresh)

pub left1 : left case1 ≡ hired
unfolding playing
left1 = leaves case1 fresh hired refl fresh_sound refl

pub hired_sound : sound_of hired ≡ true
unfolding playing
hired_sound = left_sound case1 fresh hired refl fresh_sound left1

show2 : shown case2 ≡ case2.expected
unfolding playing
show2 = show case2 hired left1 hired_sound refl

show5 : shown case5 ≡ case5.expected
unfolding playing
show5 = show case5 hired left1 hired_sound refl

-- ---- where case 5 ended: guard 0 is posted on buffer 1, which is leaving and in its slot

abbrev pub kept : Pool
kept = with_slot 0 (record { id = 1; version = 1 }) (with_posted 0 1 (with_state 1 2 hired))

pub left5 : left case5 ≡ kept
unfolding playing
left5 = leaves case5 hired kept left1 hired_sound refl

pub kept_sound : sound_of kept ≡ true
unfolding playing
kept_sound = left_sound case5 hired kept left1 hired_sound left5

show6 : shown case6 ≡ case6.expected
unfolding playing
show6 = show case6 kept left5 kept_sound refl

show7 : shown case7 ≡ case7.expected
unfolding playing
show7 = show case7 kept left5 kept_sound refl

-- ---- records made for the case

show3 : shown case3 ≡ case3.expected
unfolding playing
show3 = show case3 case3.start refl refl refl

show8 : shown case8 ≡ case8.expected
unfolding playing
show8 = show case8 case8.start refl refl refl

show9a : shown case9a ≡ case9a.expected
unfolding playing
show9a = show case9a case9a.start refl refl refl

show9b : shown case9b ≡ case9b.expected
unfolding playing
show9b = show case9b case9b.start refl refl refl

show10 : shown case10 ≡ case10.expected
unfolding playing
show10 = show case10 case10.start refl refl refl

pub starred_hold : Hold starred
starred_hold =
    holds show1 (holds show2 (holds show3 (holds show4 (holds show5 (holds show6 (holds show7 (holds show8 (holds show9a (holds show9b (holds show10 all_held))))))))))
