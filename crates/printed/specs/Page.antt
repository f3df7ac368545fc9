-- A lent buffer that is written from its start on: the room behind what is written, and what one more list in it makes of it.
use Rattle.std.specs.Prelude.{◌≡◌, ℕ, ◌+◌, ◌≤◌, List, length}
use Rattle.std.specs.Borrow.{MutBor}
use Rattle.tables.specs.Write.{write_at}
use Rattle.printed.specs.declared.Page.{Page}

abbrev pub written_in : Page → ℕ
written_in p = p.at

-- p is the lent buffer, with nothing written
pub record Starts (p : Page) (lent : MutBor (List ℕ)) : Type 0 where
  pub same_reference : p.bytes.ghost_name ≡ lent.ghost_name
  pub bytes : p.bytes.now ≡ lent.now
  pub at : p.at ≡ 0

pub record HasRoom (p : Page) (l : List ℕ) : Type 0 where
  pub fits : p.at + length l ≤ length p.bytes.now

-- q is p with l behind what was written: the same buffer, and all else in it as it was
pub record Wrote (p q : Page) (l : List ℕ) : Type 0 where
  pub same_reference : q.bytes.ghost_name ≡ p.bytes.ghost_name
  pub at : q.at ≡ p.at + length l
  pub bytes : q.bytes.now ≡ write_at p.bytes.now p.at l
