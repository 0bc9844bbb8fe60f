-- The tables that a lookup searches in a file, and their ranges.
use Rattle.std.specs.Prelude.{ℕ, ◌≡◌, ◌+◌, ◌≤◌, List, Result, Ok, Err}
use Rattle.elf_model.specs.Prelude.{IsBudgetRefusal, LookupTables as IsScopeOf, e_machine}
use Rattle.elf_model.specs.declared.causes.Refusal.{Refusal}
use Rattle.elf_table.specs.declared.fault.Fault.{Fault}
use Rattle.elf_table.specs.declared.fault.Fault.TheVariants.{Refused, Source}
use Rattle.elf_hash.specs.HashStyles.{hash_style_of}
use Rattle.elf_hash.specs.Symbols.{IsDynamicSymbols, DynamicSymbolsInBounds}
use Rattle.elf_hash.specs.declared.lookup_tables.LookupTables.{LookupTables}

-- THE TABLES THAT A LOOKUP SEARCHES are those of the model, and the machine is the file's
pub record IsLookupTables (file : List ℕ) (told : IsScopeOf) (scope : LookupTables) : Type 0 where
  pub machine : scope.machine ≡ e_machine file
  pub kind : hash_style_of scope.hash.kind ≡ told.kind
  pub head : scope.hash.head ≡ told.head
  pub place : scope.hash.at ≡ told.table.place
  pub size : scope.hash.size ≡ told.table.size
  pub count : scope.hash.symbols ≡ told.table.symbols
  pub symbols : IsDynamicSymbols file told.symbols scope.symbols

-- it lies within a source of this size
pub record LookupTablesInBounds (size : ℕ) (scope : LookupTables) : Type 0 where
  pub table : scope.hash.at + scope.hash.size ≤ size
  pub count : scope.symbols.table.count ≡ scope.hash.symbols
  pub symbols : DynamicSymbolsInBounds size scope.symbols

-- the model's result is that of the code, or its refusal, unless that is `Budget`
abbrev pub FindsLookupTables : List ℕ → Result IsScopeOf Refusal → Result LookupTables Fault → Type 0
FindsLookupTables file found (Ok scope) = (told : IsScopeOf) × (found ≡ Ok told) × IsLookupTables file told scope
FindsLookupTables file found (Err (Refused refusal)) = (IsBudgetRefusal refusal → ⊥) → found ≡ Err refusal
FindsLookupTables file found (Err (Source fault at)) = Unit {0}
