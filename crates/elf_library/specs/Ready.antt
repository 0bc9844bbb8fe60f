-- What the lookups in one file have in common: the counts of its hash table, and that no record of
-- versions is refused.
use Rattle.std.specs.Prelude.{ℕ, ◌≡◌, ◌+◌, ◌*◌, ◌/◌, ◌<◌, ◌==◌, ◌&&◌, if◌then◌else◌, Bool, true, false, List, [], ◌∷◌, length, Option, None, Some, Result, Ok, Err, IfSome}
use Rattle.std.specs.List.{list_any}
use Rattle.elf_model.specs.Prelude.{LookupTables as IsScopeOf, Version, VersionQuery, asked_name, counts_check, first_refusal, record_cost, same, version_indices}
use Rattle.elf_table.specs.Prelude.{strings_in}
use Rattle.elf_table.specs.declared.fault.Fault.{Fault}
use Rattle.elf_hash.specs.Prelude.{IsTable}
use Rattle.elf_hash.specs.declared.table.HashTable.{HashTable}
use Rattle.elf_hash.specs.declared.symbols.VersionRecordTable.{VersionRecordTable}

-- whether bytes have a NUL
abbrev pub has_zero : List ℕ → Bool
has_zero bytes = list_any (λ b. b == 0) bytes

-- the name of the wanted version has no NUL
abbrev pub HasNoNul : VersionQuery → Type 0
HasNoNul asked = IfSome (asked_name asked) (λ version. has_zero version ≡ false)

-- bytes end in a NUL: the name at the index of the last one is the empty one
abbrev pub EndsInNul : List ℕ → Type 0
EndsInNul bytes = (last : ℕ) × (length bytes ≡ last + 1) × (same bytes last [] ≡ Ok true)

-- a table of records is not empty, and its string table ends in a NUL
abbrev pub NamesEnd : List ℕ → VersionRecordTable → Type 0
NamesEnd file records = (0 < records.table.count) × EndsInNul (strings_in file records.names)

-- THE TABLE IS READY for lookups in a file: its counts pass their check, and no version without a
-- NUL in its name is refused
pub record IsReadyTable (file : List ℕ) (told : IsScopeOf) (table : HashTable) : Type 0 where
  pub counts : first_refusal (counts_check file told ∷ []) ≡ None
  pub is : IsTable file told table
  pub versions : (asked : VersionQuery) → HasNoNul asked → (version_indices file told asked).refused ≡ None

-- the same for the table, if there is one
abbrev pub IsReadyIf : List ℕ → IsScopeOf → Option HashTable → Type 0
IsReadyIf file told None = Unit {0}
IsReadyIf file told (Some table) = IsReadyTable file told table

abbrev pub ReturnsReady : List ℕ → IsScopeOf → Result (Option HashTable) Fault → Type 0
ReturnsReady file told (Ok ready) = IsReadyIf file told ready
ReturnsReady file told (Err fault) = Unit {0}

-- a table, if both hold
abbrev pub table_where : (one other : Bool) → HashTable → Option HashTable
table_where one other table = if one && other then Some table else None

-- how many bytes that reads in a source of this size, for any bytes: the counts, the records of
-- versions with a byte of the name of each, and the ends of two string tables
abbrev pub ready_bytes : ℕ → ℕ
ready_bytes size = 16 + size / 8 * record_cost (Version []) + 128
