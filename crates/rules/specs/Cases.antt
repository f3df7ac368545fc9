-- The starred cases, each a start, the calls and what must come out, in the paper's order. `proofs/Cases.antt` runs them by the rules.
use Rattle.std.specs.Prelude.{◌≡◌, true, List, [], ◌∷◌, ◌++◌, ℕ, zero, suc}
use Rattle.worker.specs.declared.Slot.{Slot}
use Rattle.worker.specs.declared.Worker.{Worker}
use Rattle.worker.specs.Registers.{no_worker, to, with_v, with_h, with_attempts}
use Rattle.pool.specs.declared.Pool.{Pool}
use Rattle.pool.specs.Answers.{Said, accepted, label, guard, none_found, posted, back}
use Rattle.pool.specs.Record.{slot_at, worker_at, blank, with_taken, with_posted, with_slot, with_worker}
use Rattle.rules.specs.Calls.{Call, hiring, posting, giving_up, taking, advancing, after, Seen, seen}

-- ---- what is seen of a run

-- an advance is lent a list of three zeros
abbrev pub lent : List ℕ
lent = 0 ∷ 0 ∷ 0 ∷ []

unfoldable pub answers : List Seen → List Said
answers [] = []
answers (e ∷ es) = e.answer ∷ answers es

-- the lent list as the last call left it
unfoldable pub list_at_end : List Seen → List ℕ
list_at_end [] = lent
list_at_end (e ∷ []) = e.list
list_at_end (e ∷ d ∷ es) = list_at_end (d ∷ es)

-- ---- a case: a start, calls, the worker (its number less 1) that is looked at afterwards, and what must be seen

pub record Shown : Type 0 where
  pub answers : List Said
  pub list : List ℕ
  pub maxg : ℕ
  pub slot : Slot
  pub worker : Worker

pub record Case : Type 0 where
  pub start : Pool
  pub calls : List Call
  pub looked_at : ℕ
  pub expected : Shown

-- the record that a case leaves
unfoldable pub left : Case → Pool
left c = after c.calls c.start

-- the answers in order, the lent list at the end, and of the record that is left MAXG, slot 0 and worker k
unfoldable pub shown_by : List Seen → Pool → ℕ → Shown
shown_by es p k = record { answers = answers es; list = list_at_end es; maxg = p.maxg; slot = slot_at p 0; worker = worker_at p k }

unfoldable pub shown : Case → Shown
shown c = shown_by (seen c.calls c.start) (left c) c.looked_at

-- every case of a list comes out as expected
pub data Hold : List Case → Type 0 where
  all_held : Hold []
  holds : {c : Case} {cs : List Case} → shown c ≡ c.expected → Hold cs → Hold (c ∷ cs)

-- ---- the cases, in the paper's order

abbrev slot_of : ℕ → ℕ → Slot
slot_of id version = record { id = id; version = version }

abbrev fresh : Pool
fresh = blank 2 2 3

-- n advances of worker w
unfoldable pub advances : ℕ → ℕ → List Call
advances w zero = []
advances w (suc n) = advancing w lent ∷ advances w n

-- what is seen where the worker has come to its end: its registers are 0
abbrev ended : List Said → List ℕ → ℕ → Slot → Shown
ended answers list maxg slot = record { answers = answers; list = list; maxg = maxg; slot = slot; worker = no_worker }

unfoldable pub case1 : Case
case1 =
    record {
      start = fresh;
      calls = hiring 1 ∷ advances 1 3;
      looked_at = 0;
      expected = ended (accepted ∷ label 4 ∷ label 6 ∷ guard 0 ∷ []) lent 0 (slot_of 0 0);
    }

unfoldable pub case2 : Case
case2 =
    record {
      start = left case1;
      calls = hiring 2 ∷ advances 2 6;
      looked_at = 1;
      expected = ended (accepted ∷ label 2 ∷ label 4 ∷ label 5 ∷ label 4 ∷ label 6 ∷ guard 1 ∷ []) lent 1 (slot_of 0 0);
    }

unfoldable pub case3 : Case
case3 =
    record {
      start = with_taken 0 true (blank 2 1 3);
      calls = hiring 1 ∷ advances 1 1;
      looked_at = 0;
      expected = ended (accepted ∷ none_found ∷ []) lent 0 (slot_of 0 0);
    }

unfoldable pub case4 : Case
case4 =
    record {
      start = fresh;
      calls = taking 1 ∷ giving_up 1 (1 ∷ []) ∷ advances 1 7;
      looked_at = 0;
      expected = ended (accepted ∷ accepted ∷ label 13 ∷ label 15 ∷ label 28 ∷ label 31 ∷ label 12 ∷ label 32 ∷ back 1 ∷ []) (1 ∷ 0 ∷ 0 ∷ []) 0 (slot_of 0 0);
    }

unfoldable pub case5 : Case
case5 =
    record {
      start = left case1;
      calls = taking 1 ∷ posting 1 0 1 ∷ advances 1 2 ++ (giving_up 2 (1 ∷ []) ∷ advances 2 7);
      looked_at = 1;
      expected = ended (accepted ∷ accepted ∷ label 10 ∷ posted ∷ accepted ∷ label 13 ∷ label 15 ∷ label 18 ∷ label 31 ∷ label 12 ∷ label 32 ∷ back 0 ∷ []) lent 0 (slot_of 1 1);
    }

unfoldable pub case6 : Case
case6 =
    record {
      start = left case5;
      calls = posting 1 0 0 ∷ advances 1 2 ++ (giving_up 2 [] ∷ advances 2 7);
      looked_at = 1;
      expected = ended (accepted ∷ label 10 ∷ posted ∷ accepted ∷ label 13 ∷ label 15 ∷ label 28 ∷ label 31 ∷ label 12 ∷ label 32 ∷ back 1 ∷ []) (1 ∷ 0 ∷ 0 ∷ []) 0 (slot_of 0 2);
    }

unfoldable pub case7 : Case
case7 =
    record {
      start = left case5;
      calls = taking 2 ∷ posting 1 0 2 ∷ advances 1 2 ++ (giving_up 2 (2 ∷ []) ∷ advances 2 7);
      looked_at = 1;
      expected = ended (accepted ∷ accepted ∷ label 10 ∷ posted ∷ accepted ∷ label 13 ∷ label 15 ∷ label 18 ∷ label 31 ∷ label 12 ∷ label 32 ∷ back 1 ∷ []) (1 ∷ 0 ∷ 0 ∷ []) 0 (slot_of 2 2);
    }

-- what is seen where the worker stands on, in a pool whose guards, MAXG and list are as at the start
abbrev standing : List Said → Slot → Worker → Shown
standing answers slot worker = record { answers = answers; list = lent; maxg = 0; slot = slot; worker = worker }

unfoldable pub case8 : Case
case8 =
    record {
      start = with_worker 0 (to 18 no_worker) (with_slot 0 (slot_of 0 1) fresh);
      calls = advances 1 2;
      looked_at = 0;
      expected = standing (label 22 ∷ label 25 ∷ []) (slot_of 0 1) (to 25 (with_attempts 1 (with_h (slot_of 0 1) no_worker)));
    }

-- case 9 has two halves
unfoldable pub case9a : Case
case9a =
    record {
      start = with_worker 0 (to 25 (with_attempts 2 (with_h (slot_of 3 5) no_worker))) fresh;
      calls = advances 1 1;
      looked_at = 0;
      expected = standing (label 31 ∷ []) (slot_of 0 0) (to 31 (with_attempts 2 (with_h (slot_of 3 5) no_worker)));
    }

unfoldable pub case9b : Case
case9b =
    record {
      start = with_worker 0 (to 25 (with_attempts 2 (with_h (slot_of 0 5) (with_v 1 no_worker)))) (with_posted 0 1 fresh);
      calls = advances 1 1;
      looked_at = 0;
      expected = standing (label 18 ∷ []) (slot_of 0 0) (to 18 (with_attempts 2 (with_h (slot_of 0 5) (with_v 1 no_worker))));
    }

-- slot 0 is not what h has, and h is kept
unfoldable pub case10 : Case
case10 =
    record {
      start = with_worker 0 (to 22 (with_attempts 2 (with_h (slot_of 3 5) no_worker))) fresh;
      calls = advances 1 1;
      looked_at = 0;
      expected = standing (label 31 ∷ []) (slot_of 0 0) (to 31 (with_attempts 3 (with_h (slot_of 3 5) no_worker)));
    }

abbrev pub starred : List Case
starred = case1 ∷ case2 ∷ case3 ∷ case4 ∷ case5 ∷ case6 ∷ case7 ∷ case8 ∷ case9a ∷ case9b ∷ case10 ∷ []
