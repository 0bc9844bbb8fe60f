-- The effect of looking up the symbol of a file that defines a name.
use Rattle.std.specs.Prelude.{ℕ, ◌≡◌, ◌+◌, ◌≤◌, ◌==◌, if◌then◌else◌, Bool, List, Option, None, Some, Result, Ok, Err}
use Rattle.elf_model.specs.Prelude.{CompareResult, DefinerLookup, DynamicSymbols as AreSymbolsOf, IsBudgetRefusal, LookupTables as IsScopeOf, SHN_UNDEF, SymbolQuery, definer_by, definer_walk, defines, definition_cost, is_among, unwalked}
use Rattle.elf_model.specs.declared.causes.Refusal.{Refusal}
use Rattle.elf_source.specs.Source.{CountedState}
use Rattle.elf_hash.specs.Prelude.{IsDynamicSymbols, IsLookupTables}
use Rattle.elf_hash.specs.declared.symbols.DynamicSymbols.{DynamicSymbols}
use Rattle.elf_hash.specs.declared.lookup_tables.LookupTables.{LookupTables}
use Rattle.elf_hash.specs.declared.answer.SymbolMatch.{SymbolMatch}
use Rattle.elf_table.specs.Prelude.{CallDid, CallReads, fault_of_result}
use Rattle.elf_table.specs.declared.fault.Fault.{Fault}
use Rattle.elf_table.specs.declared.fault.Fault.TheVariants.{Refused, Source}

-- it is the matcher for the symbols of a file: for each it returns whether it defines what is
-- wanted
pub record SaysDefines (file : List ℕ) (symbols : DynamicSymbols) (wanted : SymbolQuery) (is_wanted : ℕ → Bool) (says : ℕ → Result Bool Refusal) : Type 0 where
  pub told : AreSymbolsOf
  pub are : IsDynamicSymbols file told symbols
  pub says_so : says ≡ defines file told wanted is_wanted

-- the result of a matcher, unless its symbol is undefined
abbrev pub the_defined : Option SymbolMatch → Option SymbolMatch
the_defined None = None
the_defined (Some answer) = if answer.symbol.st_shndx == SHN_UNDEF then None else Some answer

-- the symbol at an index, or none, is the definition; or the refusal is the lookup's, except one
-- for lack of budget
abbrev pub ReturnsDefiner : DefinerLookup → Result (Option ℕ) Fault → Type 0
ReturnsDefiner looked (Ok found) = looked.answer ≡ Ok found
ReturnsDefiner looked (Err (Refused refusal)) = (IsBudgetRefusal refusal → ⊥) → looked.answer ≡ Err refusal
ReturnsDefiner looked (Err (Source fault at)) = Unit {0}

-- WHAT IS LEFT OF IT in a known file, if n bytes of what it reads were read before: it reads the
-- others and a few
pub record DefinesAfter (wanted : SymbolQuery) (few before : ℕ) (looked : DefinerLookup) (old new : CountedState) (result : Result (Option ℕ) Fault) : Type 0 where
  pub spent : ℕ
  pub costs : CallReads old new (fault_of_result result) spent
  pub within : before + spent ≤ few + definition_cost wanted looked
  pub tells : ReturnsDefiner looked result

-- the effect of a call that continues it: it requested at most n bytes, and if the file is known,
-- and the lookup tables, it does what is left
abbrev pub DefinesOn : CountedState → CountedState → LookupTables → SymbolQuery → Result (Option ℕ) Fault → (few n : ℕ) → (List ℕ → IsScopeOf → (ℕ → DefinerLookup → Type 0) → Type 0) → Type 0
DefinesOn old new scope wanted result few n KeepsSourceUnlimited =
    CallDid old new (fault_of_result result) n
    (λ file. (is : IsScopeOf) → IsLookupTables file is scope → KeepsSourceUnlimited file is (λ before looked. DefinesAfter wanted few before looked old new result))

-- the lookup once the indices of the version are found, or why they are not
abbrev pub definer_with : List ℕ → IsScopeOf → SymbolQuery → CompareResult → DefinerLookup
definer_with file scope wanted compared = elim compared.refused [
  | Some refusal ↦ unwalked compared.read refusal
  | None ↦ definer_by compared.read (definer_walk file scope wanted (λ number. is_among number compared.numbers))
]
