-- The bytes of a quoted text.
use Rattle.std.specs.Prelude.{ℕ, List, codes}
use Prim.Native.String.{String}

abbrev pub bytes : String → List ℕ
bytes t = codes t
