-- The number of symbols that a hash table covers, and the cost of counting them.
use Rattle.std.specs.Prelude.{ℕ, suc, ◌≡◌, ◌+◌, ◌-◌, ◌*◌, ◌<◌, List, None, Some, Result}
use Rattle.elf_model.specs.Prelude.{GnuTable, HashTable, LookupTables, SysvTable, first_that, gnu_nbucket, hashed_symbol_count, is_last_in, symbols_hashed}
use Rattle.elf_source.specs.Source.{CountedState}
use Rattle.elf_table.specs.Prelude.{CallReads, IsRead, fault_of_result}
use Rattle.elf_table.specs.declared.fault.Fault.{Fault}
use Rattle.elf_hash.specs.Results.{ReturnsAs}

-- the number of symbols up to the end of the chain that begins at a symbol index
abbrev pub last_in : List ℕ → HashTable → ℕ → ℕ
last_in file table start = elim (first_that (is_last_in file table) start (table.symbols - start)) [
  | None ↦ table.symbols
  | Some y ↦ suc y
]

-- a number of symbols is found, for a few bytes and no more than a chain word for each
pub record EndsChain (few count : ℕ) (old new : CountedState) (result : Result ℕ Fault) : Type 0 where
  pub costs : CallReads old new (fault_of_result result) (few + 4 * count)
  pub tells : IsRead result count

-- the symbols of a lookup begin at an offset, and their strings at another; if there is no symbol
-- the strings are ignored
pub record SymbolsBegin (scope : LookupTables) (symbols strings : ℕ) : Type 0 where
  pub place : scope.symbols.place ≡ symbols
  pub strings_at : 0 < scope.table.symbols → scope.symbols.strings_at ≡ strings

-- how many bytes are requested after the counts
abbrev pub extent_bytes : List ℕ → LookupTables → ℕ
extent_bytes file scope = elim scope.kind [
  | GnuTable ↦ 4 * gnu_nbucket file scope.table.place + 4 * hashed_symbol_count file scope
  | SysvTable ↦ 0
]

-- THE NUMBER OF SYMBOLS that a hash table covers, in a known file
pub record ReturnsExtent (file : List ℕ) (scope : LookupTables) (old new : CountedState) (result : Result ℕ Fault) : Type 0 where
  pub costs : CallReads old new (fault_of_result result) (extent_bytes file scope)
  pub tells : IsRead result (hashed_symbol_count file scope)

-- the same after the counts of the table, or the refusal of these: no more symbols than the symbol
-- table has
pub record CountsSymbols (file : List ℕ) (scope : LookupTables) (old new : CountedState) (result : Result ℕ Fault) : Type 0 where
  pub costs : CallReads old new (fault_of_result result) (16 + extent_bytes file scope)
  pub tells : ReturnsAs (symbols_hashed file scope) result
