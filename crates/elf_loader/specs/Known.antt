-- The symbols of a file that a loader knows.
use Rattle.std.specs.Prelude.{ℕ, ◌≡◌, ◌+◌, ◌≤◌, true, false, List, Option, None, Some, Result, Ok, Err, IfSome}
use Rattle.elf_model.specs.Prelude.{IsBudgetRefusal, LookupTables as IsScopeOf, has_none, known_symbols, least_size}
use Rattle.elf_source.specs.Source.{CountedState}
use Rattle.elf_table.specs.Prelude.{CallReads, fault_of_result}
use Rattle.elf_table.specs.declared.fault.Fault.{Fault}
use Rattle.elf_table.specs.declared.fault.Fault.TheVariants.{Refused, Source}
use Rattle.elf_hash.specs.Prelude.{DynamicSymbolsInBounds, HashTableInBounds, IsDynamicSymbols, IsTable, entries_asked, place_of_table}
use Rattle.elf_loader.specs.declared.known.CountedSymbols.{CountedSymbols}

-- a fault of the tables that a lookup searches: without a hash table there are no symbols
abbrev pub passed_over : Fault → Result (Option CountedSymbols) Fault
passed_over (Refused refusal) = elim (has_none refusal.cause) [ true ↦ Ok None | false ↦ Err (Refused refusal) ]
passed_over (Source fault at) = Err (Source fault at)

-- the symbols are those of the definitions, with their hash table
pub record AreKnown (file : List ℕ) (known : CountedSymbols) : Type 0 where
  pub scope : IsScopeOf
  pub told : known_symbols file ≡ Ok (Some scope)
  pub symbols : IsDynamicSymbols file scope.symbols known.symbols
  pub table : IsTable file scope known.table

-- symbols, or none, are those of the definitions, and so is a refusal, unless that is `Budget`
abbrev pub ReturnsKnown : List ℕ → Result (Option CountedSymbols) Fault → Type 0
ReturnsKnown file (Ok None) = known_symbols file ≡ Ok None
ReturnsKnown file (Ok (Some known)) = AreKnown file known
ReturnsKnown file (Err (Refused refusal)) = (IsBudgetRefusal refusal → ⊥) → known_symbols file ≡ Err refusal
ReturnsKnown file (Err (Source fault at)) = Unit {0}

-- they lie within a source of this size, with their hash table, which covers as many
pub record KnownLies (size : ℕ) (known : CountedSymbols) : Type 0 where
  pub table : HashTableInBounds size known.table
  pub count : known.symbols.table.count ≡ (place_of_table known.table).symbols
  pub symbols : DynamicSymbolsInBounds size known.symbols

abbrev pub KnownLie : ℕ → Option CountedSymbols → Type 0
KnownLie size found = IfSome found (KnownLies size)

-- how many bytes the counts of the hash table request
abbrev pub counts_asked : List ℕ → ℕ
counts_asked file = elim (known_symbols file) [
  | Err refusal ↦ 16
  | Ok None ↦ 0
  | Ok (Some scope) ↦ least_size scope.kind
]

-- THE SYMBOLS of a known file
pub record FindsKnown (file : List ℕ) (old new : CountedState) (result : Result (Option CountedSymbols) Fault) : Type 0 where
  pub costs : CallReads old new (fault_of_result result) (entries_asked file + counts_asked file)
  pub finds : ReturnsKnown file result
