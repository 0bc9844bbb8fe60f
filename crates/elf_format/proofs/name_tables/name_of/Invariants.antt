use Rattle.std.proofs.Common.{◌≡◌, length}
use Rattle.elf_model.specs.Text.{name_of}
use Rattle.elf_format.specs.Tables.{entries}
use Rattle.elf_format.proofs.name_tables.name_of.Given as goal

-- the entries that are left have the same result as all
abbrev pub invariant-loop-table : goal.invariant-loop-table
invariant-loop-table l = name_of (entries l.table) l.number ≡ name_of (entries l.fn.table) l.number

abbrev pub decreases-loop-table : goal.decreases-loop-table
decreases-loop-table l = length l.table
