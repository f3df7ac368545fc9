-- What falls at each call of the block reader and the line reader: the remaining depth and the remaining bytes together. A block's measure is one above its
-- lines', which have its depth and start no earlier; a line that opens a block leaves it one less of depth, and fewer bytes. Assumes nothing.
use Prim.Native.Nat.{ℕ, ◌+◌, ◌*◌, ◌-◌, ◌≤◌, ◌<◌}
use native.Mathlib.Omega.{arith}
use mathlib.Core.Path.{◌≡◌}
use mathlib.Core.List.{List}
use lib.ListN.{length}
use Rattle.grammar.specs.Line.{after_of}
use Rattle.grammar.proofs.Laws.{after_more}

abbrev pub remaining : List ℕ → ℕ → ℕ → ℕ
remaining s at depth = 2 * (depth + (length s - at))

pub line_falls : (s : List ℕ) (at i depth t : ℕ) → remaining s at depth + 1 ≡ t → at ≤ i → remaining s i depth < t
line_falls s at i depth t e h = omega (arith, e)

pub block_falls : (s : List ℕ) (at next depth t : ℕ) → remaining s at depth ≡ t → next ≡ after_of s at → at < length s → 1 ≤ depth → remaining s next (depth - 1) + 1 < t
block_falls s at next depth t e q l h = omega (arith, e, q, after_more s at l)
