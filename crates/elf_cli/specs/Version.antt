-- The version of the program.
use Rattle.std.specs.Prelude.{ℕ, ◌≡◌, ◌⊎◌, List, ◌++◌, ◌∷◌, [], codes}

-- its line: the program's name, and three numbers
abbrev pub version_line : List ℕ
version_line = codes "elfsee 0.1.0" ++ (10 ∷ [])

-- how a program ends that flushes its version last: without a fault, or by one of the output
abbrev pub VersionEnds : ℕ → List ℕ → Type 0
VersionEnds status line = ((status ≡ 0) × (line ≡ [])) ⊎ ((status ≡ 3) × (line ≡ codes "elfsee: write fault"))
