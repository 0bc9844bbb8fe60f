-- The match of a symbol by its name: the symbol's offset, and what its name is compared with.
use Rattle.std.proofs.Common.{◌≡◌, ℕ, ◌<◌, Bool, true, false, List, Option, None, Some, Result, Ok, Err, refl, ap, ◌∙◌, arith}
use Rattle.elf_model.specs.Prelude.{fault_at, same, same_symbol, st_name, symbol_at}
use Rattle.elf_model.specs.declared.causes.Refusal.{Refusal}
use Rattle.elf_record.specs.Prelude.{IsSym}
use Rattle.elf_record.specs.declared.sym.Sym.{Sym}
use Rattle.elf_table.specs.Prelude.{ComparesName, StringTableRange, TableRange, row_at, strings_in}
use Rattle.elf_table.specs.declared.fault.Fault.{Fault}
use Rattle.elf_table.specs.declared.fault.Fault.TheVariants.{Refused, Source}
use Rattle.elf_hash.specs.Prelude.{SaysHasName, TriesSymbol}
use Rattle.elf_hash.specs.declared.answer.SymbolMatch.{SymbolMatch}

-- the symbol, if its name is the wanted one
abbrev pub picked : Sym → Result Bool Fault → Result (Option SymbolMatch) Fault
picked symbol (Ok true) = Ok (Some (record { symbol = symbol; version = None }))
picked symbol (Ok false) = Ok None
picked symbol (Err fault) = Err fault

module _ (file : List ℕ) (symbols : TableRange) (names : StringTableRange) (wanted : List ℕ) (says : ℕ → Result Bool Refusal) (is : SaysHasName file symbols names wanted says) (index : ℕ) where
  pub row_is : row_at symbols index ≡ symbol_at file is.table index
  row_is = rw (is.start, is.entry) (omega arith)

  says_is :
      (symbol : Sym) (off : ℕ) → index < symbols.count → IsSym file (row_at symbols index) symbol → off ≡ symbol.st_name
      → says index ≡ fault_at (row_at symbols index) (same (strings_in file names) off wanted)
  unfolding same_symbol
  says_is symbol off low is_at place =
      let name : off ≡ st_name file (symbol_at file is.table index) = place ∙ (is_at.st_name ∙ ap (st_name file) row_is) in
      rw (is.strings (omega arith), name, row_is) (ap (λ (f : ℕ → Result Bool Refusal). f index) is.says_so)

  -- the result for the symbol by the comparison of its name
  pub tries :
      (symbol : Sym) (off place : ℕ) (equal : Result Bool Fault) → index < symbols.count
      → IsSym file (row_at symbols index) symbol → off ≡ symbol.st_name → place ≡ row_at symbols index
      → ComparesName place equal (same (strings_in file names) off wanted) → TriesSymbol (λ i answer. IsSym file (row_at symbols i) answer.symbol) says index (picked symbol equal)
  tries symbol off place (Ok true) low is_at name here compared = (says_is symbol off low is_at name ∙ rw compared refl, is_at)
  tries symbol off place (Ok false) low is_at name here compared = says_is symbol off low is_at name ∙ rw compared refl
  tries symbol off place (Err (Refused refusal)) low is_at name here refuses = λ other.
      let r = refuses other in says_is symbol off low is_at name ∙ rw (r.1, r.0, here) refl
  tries symbol off place (Err (Source fault offset)) low is_at name here refuses = tt
