-- Schedules read and played by the libraries' public functions, each with a result that its contract allows; and what a program that does so prints.
use Rattle.std.specs.Prelude.{ℕ, ◌+◌, ◌≡◌, List, [], ◌∷◌, ◌++◌, length, take}
use Rattle.std.specs.Prelude.{Result, Ok, Err}
use Rattle.std.specs.Borrow.{Bor, MutBor}
use contract.Lifetimes.{Lfts}
use Rattle.pool.specs.declared.Pool.{Pool}
use Rattle.schedule.specs.declared.Unread.{Unread}
use Rattle.schedule.specs.declared.Unread.TheVariants.{TooLong, BadLine}
use Rattle.player.specs.declared.Turn.{Turn}
use Rattle.demands.specs.Promises.{UnrollPre, UnrollPost, PlayLinePre, PlayLinePost, PutReadPre, PutReadPost}

-- ---- the three functions, wherever the bytes and the tables stand and however long they are lent

-- text s is unrolled into the lent table of 100,000 places, which is left as `left`
pub record Unrolls (s : List ℕ) (r : Result ℕ Unread) (left : List ℕ) : Type 0 where
  pub lifetimes : Lfts 2
  pub text : Bor (List ℕ)
  pub table : MutBor (List ℕ)
  pub at_exit : _
  pub allowed : UnrollPost lifetimes (text, (table, tt)) r at_exit
  pub text_so : text.now ≡ s
  pub room : length table.now ≡ 100000
  pub left_so : at_exit.1.0.now ≡ left

-- the line at a place of text s is played as call number k on record p, and prints `bytes`: the first ones of the 8,192 that are lent
pub record PlaysLine (s : List ℕ) (place k : ℕ) (p : Pool) (r : Turn) (bytes : List ℕ) : Type 0 where
  pub lifetimes : Lfts 2
  pub text : Bor (List ℕ)
  pub out : MutBor (List ℕ)
  pub at_exit : _
  pub allowed : PlayLinePost lifetimes (text, (place, (k, (p, (out, tt))))) r at_exit
  pub text_so : text.now ≡ s
  pub room : length out.now ≡ 8192
  pub bytes_so : take r.written at_exit.1.1.1.1.0.now ≡ bytes

-- what is printed of a text that is read so
pub record Judges (r : Result ℕ Unread) (bytes : List ℕ) : Type 0 where
  pub lifetimes : Lfts 1
  pub out : MutBor (List ℕ)
  pub written : ℕ
  pub at_exit : _
  pub allowed : PutReadPost lifetimes (r, (out, tt)) written at_exit
  pub room : length out.now ≡ 8192
  pub bytes_so : take written at_exit.1.0.now ≡ bytes

-- ---- a program

-- the lines at some places played one after the other, numbered from k on
pub data PlaysLines (s : List ℕ) : ℕ → List ℕ → Pool → List ℕ → Type 0 where
  ends : (k : ℕ) (p : Pool) → PlaysLines s k [] p []
  plays : {k place : ℕ} {places bytes more : List ℕ} {p : Pool} (r : Turn) → PlaysLine s place k p r bytes → PlaysLines s (k + 1) places r.pool more
      → PlaysLines s k (place ∷ places) p (bytes ++ more)

-- whoever unrolls text s, and plays each call's place or says why there is none, prints `bytes`
pub data Prints (s : List ℕ) : List ℕ → Type 0 where
  played : (n : ℕ) (left bytes : List ℕ) (p : Pool) → Unrolls s (Ok n) left → PlaysLines s 1 (take n left) p bytes → Prints s bytes
  too_long : (left bytes : List ℕ) → Unrolls s (Err TooLong) left → Judges (Err TooLong) bytes → Prints s bytes
  bad_line : (l : ℕ) (left bytes : List ℕ) → Unrolls s (Err (BadLine l)) left → Judges (Err (BadLine l)) bytes → Prints s bytes

-- ---- what is asked of the caller: nothing

pub record NothingAskedToPlay : Type 0 where
  pub unroll : (κs : Lfts 2) (text : Bor (List ℕ)) (table : MutBor (List ℕ)) → UnrollPre κs (text, (table, tt))
  pub play_line : (κs : Lfts 2) (text : Bor (List ℕ)) (place k : ℕ) (p : Pool) (out : MutBor (List ℕ)) → PlayLinePre κs (text, (place, (k, (p, (out, tt)))))
  pub put_read : (κs : Lfts 1) (r : Result ℕ Unread) (out : MutBor (List ℕ)) → PutReadPre κs (r, (out, tt))
