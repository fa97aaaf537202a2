-- Fixed texts as bytes.
use Rattle.std.specs.Prelude.{ℕ, List, [], ◌∷◌}
use Prim.Native.Char.{code}
use Prim.Native.String.{String, [] as none, ◌∷◌ as ◌first◌}

-- the bytes of an ASCII text
abbrev pub ascii : String → List ℕ
ascii none = []
ascii (c first s) = code c ∷ ascii s
