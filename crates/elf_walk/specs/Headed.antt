-- Lines after the line of a path, which is written before the first of them.
use Rattle.std.specs.Prelude.{ℕ, if◌then◌else◌, Bool, List, ◌++◌}
use Rattle.elf_model.specs.FileLists.{path_line}
use Rattle.elf_model.specs.declared.formats.Format.{Format}

-- bytes, after the line of a path if none were written before
abbrev pub text_headed : Format → (path : List ℕ) → (begun : Bool) → List ℕ → List ℕ
text_headed format path begun bytes = if begun then bytes else path_line format path ++ bytes
