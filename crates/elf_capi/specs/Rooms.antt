-- The number of header slots that a file needs.
use Rattle.std.specs.Prelude.{ℕ, min, max, List, if◌then◌else◌}
use Rattle.elf_model.specs.Prelude.{e_phnum, e_shnum, header_checks, pass}

-- the number of slots that a file needs under a limit on headers: the larger of the numbers of
-- section headers and of program headers, at least one
abbrev pub slots_for : List ℕ → ℕ → ℕ
slots_for file headers = if pass (header_checks file) then max (min (max (e_shnum file) (e_phnum file)) headers) 1 else 1
