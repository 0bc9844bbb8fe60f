-- Whether a symbol matches, as it is read.
use Rattle.std.specs.Prelude.{ℕ, ◌≡◌, Bool, true, false, List, Option, None, Some, Result, Ok, Err}
use Rattle.elf_model.specs.Prelude.{DynamicSymbols as AreSymbolsOf, IsBudgetRefusal, SymbolQuery, answers, field}
use Rattle.elf_model.specs.declared.causes.Refusal.{Refusal}
use Rattle.elf_record.specs.Sym.{IsSym}
use Rattle.elf_hash.specs.Prelude.{IsDynamicSymbols}
use Rattle.elf_hash.specs.declared.symbols.DynamicSymbols.{DynamicSymbols}
use Rattle.elf_hash.specs.declared.answer.SymbolMatch.{SymbolMatch}
use Rattle.elf_hash.specs.declared.answer.VersymEntry.{VersymEntry}
use Rattle.elf_hash.specs.declared.symbols.VersymTable.{VersymTable}
use Rattle.elf_table.specs.Prelude.{row_at}
use Rattle.elf_table.specs.declared.fault.Fault.{Fault}
use Rattle.elf_loader.specs.declared.version_match.VersionMatch.{VersionMatch}
use Rattle.elf_table.specs.declared.fault.Fault.TheVariants.{Refused, Source}

-- the versym entry of a symbol is at its offset in the file, if there is a version symbol table
abbrev pub IsWord : List ℕ → Option VersymTable → ℕ → Option VersymEntry → Type 0
IsWord file None index None = Unit {0}
IsWord file (Some words) index (Some word) = (word.at ≡ row_at words.words index) × (word.word ≡ field file (row_at words.words index) 2)
IsWord file None index (Some word) = ⊥
IsWord file (Some words) index None = ⊥

-- whether a version matches is known, with the versym entry; or why it cannot be, unless a read
-- failed
abbrev pub ReturnsFit : List ℕ → Option VersymTable → ℕ → Result Bool Refusal → Result VersionMatch Fault → Type 0
ReturnsFit file words index says (Ok fit) = (says ≡ Ok fit.fits) × IsWord file words index fit.version
ReturnsFit file words index says (Err (Refused refusal)) = (IsBudgetRefusal refusal → ⊥) → says ≡ Err refusal
ReturnsFit file words index says (Err (Source fault at)) = Unit {0}

-- a symbol and its versym entry are in the file
abbrev pub IsSymbolWithVersym : List ℕ → DynamicSymbols → ℕ → SymbolMatch → Type 0
IsSymbolWithVersym file symbols index answer = IsSym file (row_at symbols.table index) answer.symbol × IsWord file symbols.words index answer.version

-- whether a symbol matches is known, and it is returned then
abbrev pub ReturnsAnswer : List ℕ → DynamicSymbols → ℕ → Result Bool Refusal → Result (Option SymbolMatch) Fault → Type 0
ReturnsAnswer file symbols index says (Ok (Some answer)) = (says ≡ Ok true) × IsSymbolWithVersym file symbols index answer
ReturnsAnswer file symbols index says (Ok None) = says ≡ Ok false
ReturnsAnswer file symbols index says (Err (Refused refusal)) = (IsBudgetRefusal refusal → ⊥) → says ≡ Err refusal
ReturnsAnswer file symbols index says (Err (Source fault at)) = Unit {0}

-- it is the matcher of the symbols of a file: for each it says whether it matches the query
pub record SaysOf (file : List ℕ) (symbols : DynamicSymbols) (wanted : SymbolQuery) (is_wanted : ℕ → Bool) (says : ℕ → Result Bool Refusal) : Type 0 where
  pub told : AreSymbolsOf
  pub are : IsDynamicSymbols file told symbols
  pub says_so : says ≡ answers file told wanted is_wanted
