-- What a sink over the caller's memory keeps after it.
use Rattle.std.specs.Prelude.{ℕ, List, [], ◌∷◌, Option, None, Some}

-- a byte after the memory
abbrev pub spared : Option ℕ → List ℕ
spared None = []
spared (Some byte) = byte ∷ []
