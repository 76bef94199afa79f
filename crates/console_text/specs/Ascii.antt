-- Text as bytes.
use Rattle.std.specs.Prelude.{ℕ, List, [], ◌∷◌}
use Prim.Native.Char.{code}
use Prim.Native.String.{String, [] as end, ◌∷◌ as more}

-- the code of each character
abbrev pub ascii : String → List ℕ
ascii end = []
ascii (more c text) = code c ∷ ascii text
