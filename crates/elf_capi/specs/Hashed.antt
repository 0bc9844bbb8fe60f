-- The symbols that a file's hash table covers, among which a loader looks up names.
use Rattle.std.specs.Prelude.{ℕ, ◌≡◌, ◌+◌, ◌*◌, ◌<◌, List, Result, Ok, Err}
use Rattle.elf_model.specs.Prelude.{DynamicSymbols, lookup_tables_of, symbols_hashed}
use Rattle.elf_model.specs.declared.causes.Refusal.{Refusal}
use Rattle.elf_source.specs.Source.{CountedState}
use Rattle.elf_table.specs.Prelude.{CallReads, fault_of_result, strings_in}
use Rattle.elf_table.specs.declared.fault.Fault.{Fault}
use Rattle.elf_hash.specs.Prelude.{RefusesAs, extent_bytes, scope_cost}
use Rattle.elf_capi.specs.declared.rows.RowPosition.{RowPosition}

-- THE SYMBOLS THAT A LOADER SEES in a file, and how many there are by its hash table; or the first
-- refusal: of the lookup tables, or of the counts of the hash table
abbrev pub hashed_of : List ℕ → (headers : ℕ) → Result (DynamicSymbols × ℕ) Refusal
hashed_of file headers = elim (lookup_tables_of file headers) [
  | Err refusal ↦ Err refusal
  | Ok scope ↦ elim (symbols_hashed file scope) [ Err refusal ↦ Err refusal | Ok count ↦ Ok (scope.symbols, count) ]
]

-- how many bytes that reads at most: for the lookup tables, and then for the counts, the buckets
-- and a chain
abbrev pub hashed_cost : List ℕ → (headers : ℕ) → ℕ
hashed_cost file headers = scope_cost file headers + elim (lookup_tables_of file headers) [ Err refusal ↦ 0 | Ok scope ↦ 16 + extent_bytes file scope ]

-- a position before the first of n symbols, with their string table; that of no symbol is not
-- determined
pub record PlacesHashed (file : List ℕ) (symbols : DynamicSymbols) (count : ℕ) (rows : RowPosition) : Type 0 where
  pub at : rows.at ≡ symbols.place
  pub counted : rows.count ≡ count
  pub first : rows.index ≡ 0
  pub entry : rows.entry ≡ 24
  pub strings : 0 < rows.count → strings_in file (record { at = rows.strings_at; size = rows.strings_len }) ≡ symbols.strings

-- they are returned, or the refusal, except one for lack of budget
abbrev pub ReturnsHashedRows : List ℕ → (headers : ℕ) → Result RowPosition Fault → Type 0
ReturnsHashedRows file headers (Ok rows) = (symbols : DynamicSymbols) × (count : ℕ) × (hashed_of file headers ≡ Ok (symbols, count)) × PlacesHashed file symbols count rows
ReturnsHashedRows file headers (Err fault) = RefusesAs (hashed_of file headers) fault

-- WHAT IS FOUND in a file, if it is known
pub record FindsHashed (file : List ℕ) (headers : ℕ) (old new : CountedState) (result : Result RowPosition Fault) : Type 0 where
  pub costs : CallReads old new (fault_of_result result) (hashed_cost file headers)
  pub tells : ReturnsHashedRows file headers result

-- how many bytes are read at most from a source of this size, with the given number of headers
-- allowed, for any bytes
abbrev pub hashed_bytes : (size headers : ℕ) → ℕ
hashed_bytes size headers = 64 + 64 * headers + size + 16 + size
