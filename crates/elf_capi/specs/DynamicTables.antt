-- The dynamic entries of a section of a file in memory.
use Rattle.std.specs.Prelude.{ℕ, ◌≡◌, ◌<◌, ◌⊎◌, List, Result, Ok, Err}
use Rattle.elf_table.specs.Prelude.{StringTableRange, TableRange as Table, string_table_at, strings, table_at}
use Rattle.elf_table.specs.declared.fault.Fault.{Fault}

-- the string table of n dynamic entries is the one that the section with this header links to; none
-- if there are no entries
abbrev AreNames : List ℕ → ℕ → ℕ → StringTableRange → Type 0
AreNames file header count names = (0 < count → string_table_at file header ≡ Ok names) × (count ≡ 0 → names ≡ strings 0 0)

-- the table of the section with this header and its string table, whose checks pass, or the first
-- check that fails
abbrev pub IsDynamicTable : List ℕ → ℕ → Result (Table × StringTableRange) Fault → Type 0
IsDynamicTable file header (Ok found) = (table_at file header 16 ≡ Ok found.0) × AreNames file header found.0.count found.1
IsDynamicTable file header (Err fault) =
    (table_at file header 16 ≡ Err fault)
    ⊎ ((table : Table) × (table_at file header 16 ≡ Ok table) × (0 < table.count) × (string_table_at file header ≡ Err fault))
