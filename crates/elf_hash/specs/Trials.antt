-- The result of a matcher for a symbol.
use Rattle.std.specs.Prelude.{ℕ, ◌≡◌, ◌<◌, Bool, true, false, List, Option, None, Some, Result, Ok, Err}
use Rattle.elf_model.specs.Prelude.{IsBudgetRefusal, has_name, sh_offset, strings_of, symbol_count}
use Rattle.elf_model.specs.declared.causes.Refusal.{Refusal}
use Rattle.elf_table.specs.Prelude.{StringTableRange, TableRange, strings_in}
use Rattle.elf_table.specs.declared.fault.Fault.{Fault}
use Rattle.elf_table.specs.declared.fault.Fault.TheVariants.{Refused, Source}
use Rattle.elf_hash.specs.declared.answer.SymbolMatch.{SymbolMatch}

-- the matcher's result for a symbol is as specified: if it matches, the match; nothing, if it does
-- not; or why it cannot be tried, unless it is refused with `Budget`
abbrev pub TriesSymbol : (is_at : ℕ → SymbolMatch → Type 0) (says : ℕ → Result Bool Refusal) → ℕ → Result (Option SymbolMatch) Fault → Type 0
TriesSymbol is_at says index (Ok (Some answer)) = (says index ≡ Ok true) × is_at index answer
TriesSymbol is_at says index (Ok None) = says index ≡ Ok false
TriesSymbol is_at says index (Err (Refused refusal)) = (IsBudgetRefusal refusal → ⊥) → says index ≡ Err refusal
TriesSymbol is_at says index (Err (Source fault at)) = Unit {0}

-- the same for a symbol that is to be tried, or not
abbrev pub TriesDefinedSymbol : Bool → (is_at : ℕ → SymbolMatch → Type 0) (says : ℕ → Result Bool Refusal) → ℕ → Result (Option SymbolMatch) Fault → Type 0
TriesDefinedSymbol true is_at says index result = TriesSymbol is_at says index result
TriesDefinedSymbol false is_at says index result = result ≡ Ok None

-- the function says of the symbols of a section whose header is at an offset whether they have a
-- name
pub record SaysHasName (file : List ℕ) (symbols : TableRange) (names : StringTableRange) (wanted : List ℕ) (says : ℕ → Result Bool Refusal) : Type 0 where
  pub table : ℕ
  pub start : symbols.at ≡ sh_offset file table
  pub entry : symbols.entry ≡ 24
  pub count : symbols.count ≡ symbol_count file table
  pub strings : 0 < symbols.count → strings_in file names ≡ strings_of file table
  pub says_so : says ≡ has_name file table wanted
