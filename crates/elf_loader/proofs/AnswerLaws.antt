-- Whether a symbol matches, by what is read of it.
use Rattle.std.proofs.Common.{◌≡◌, ℕ, ◌<◌, ◌≤◌, nat_lt, Bool, true, false, List, Option, None, Some, Result, Ok, Err, refl, sym, ap, subst, ◌∙◌, arith}
use Rattle.std.proofs.lemmas.Bool.Decides.{nat_tests}
use Rattle.elf_model.specs.Prelude.{DynamicSymbols as AreSymbolsOf, SymbolQuery, VersionQuery, VersymTable as AreWordsOf, answers, field, fits, is_exported, same, st_name, symbol_offset, version_fits, versym_at}
use Rattle.elf_model.specs.declared.causes.Refusal.{Refusal}
use Rattle.elf_model.specs.declared.causes.Cause.TheVariants.{VersionCut}
use Rattle.elf_record.specs.Prelude.{IsSym}
use Rattle.elf_record.specs.declared.sym.Sym.{Sym}
use Rattle.elf_table.specs.Prelude.{Refuses as RefusesName, row_at, strings_in}
use Rattle.elf_table.specs.declared.fault.Fault.{Fault}
use Rattle.elf_table.specs.declared.fault.Fault.TheVariants.{Refused, Source}
use Rattle.elf_hash.specs.Prelude.{AreVersymTable, IsDynamicSymbols, TriesSymbol}
use Rattle.elf_hash.specs.declared.symbols.DynamicSymbols.{DynamicSymbols}
use Rattle.elf_hash.specs.declared.answer.SymbolMatch.{SymbolMatch}
use Rattle.elf_hash.specs.declared.symbols.VersymTable.{VersymTable}
use Rattle.elf_loader.specs.Answering.{SaysOf, IsSymbolWithVersym, ReturnsAnswer, ReturnsFit}

-- without a version symbol table each version matches
pub fits-none :
    (file : List ℕ) (told : Option AreWordsOf) (asked : VersionQuery) (is_wanted : ℕ → Bool) (y : ℕ) → AreVersymTable told None
    → version_fits file told asked is_wanted y ≡ Ok true
unfolding version_fits
fits-none file None asked is_wanted y are = refl
fits-none file (Some told) asked is_wanted y are = absurd are

-- a symbol without a versym entry
pub fits-cut :
    (file : List ℕ) (told : Option AreWordsOf) (words : VersymTable) (asked : VersionQuery) (is_wanted : ℕ → Bool) (y : ℕ) → AreVersymTable told (Some words)
    → words.words.count ≤ y → version_fits file told asked is_wanted y ≡ Err (record { at = words.head; cause = VersionCut })
unfolding version_fits
fits-cut file None words asked is_wanted y are past = absurd are
fits-cut file (Some told) words asked is_wanted y are past =
    let head = are.head in
    let out : nat_lt y told.count ≡ false = let count = are.count in grind (arith, nat_tests) in
    rw (out, head) refl

-- and one with a versym entry
pub fits-word :
    (file : List ℕ) (told : Option AreWordsOf) (words : VersymTable) (asked : VersionQuery) (is_wanted : ℕ → Bool) (y word : ℕ) → AreVersymTable told (Some words)
    → words.words.entry ≡ 2 → y < words.words.count → word ≡ field file (row_at words.words y) 2
    → version_fits file told asked is_wanted y ≡ Ok (fits asked is_wanted word)
unfolding version_fits
fits-word file None words asked is_wanted y word are entry low is = absurd are
fits-word file (Some told) words asked is_wanted y word are entry low is =
    let within : nat_lt y told.count ≡ true = let count = are.count in grind (arith, nat_tests) in
    let place : row_at words.words y ≡ versym_at told y = rw (entry, are.place) (omega arith) in
    rw (within, is, place) refl

-- for a symbol that is read
module _ (file : List ℕ) (told : AreSymbolsOf) (symbols : DynamicSymbols) (wanted : SymbolQuery) (is_wanted : ℕ → Bool) (index : ℕ) (symbol : Sym)
    (is : IsDynamicSymbols file told symbols) (entry : symbols.table.entry ≡ 24) (low : index < symbols.table.count) (is_at : IsSym file (row_at symbols.table index) symbol) where
  pub place-is : row_at symbols.table index ≡ symbol_offset told index
  place-is = rw (entry, is.place) (omega arith)

  pub symbol-is : IsSym file (symbol_offset told index) symbol
  symbol-is = subst (λ (at : ℕ). IsSym file at symbol) place-is is_at

  name-is : same told.strings (st_name file (symbol_offset told index)) wanted.name ≡ same (strings_in file symbols.names) symbol.st_name wanted.name
  name-is =
      let names : strings_in file symbols.names ≡ told.strings = is.names (omega (arith, low)) in
      let name : symbol.st_name ≡ st_name file (symbol_offset told index) = symbol-is.st_name in
      rw (names, name) refl

  -- its name has a fault
  pub fault-answers :
      (place : ℕ) (fault : Fault) → place ≡ row_at symbols.table index → RefusesName place fault (same (strings_in file symbols.names) symbol.st_name wanted.name)
      → ReturnsAnswer file symbols index (answers file told wanted is_wanted index) (Err fault)
  unfolding answers
  fault-answers place (Refused refusal) here tells = λ other.
      let t = tells other in
      let e = name-is ∙ t.1 in
      let at : symbol_offset told index ≡ refusal.at = sym place-is ∙ sym here ∙ sym t.0 in
      rw (e, at, answers) refl
  fault-answers place (Source fault at) here tells = tt

  -- it has another name
  pub other-answers : same (strings_in file symbols.names) symbol.st_name wanted.name ≡ Ok false → answers file told wanted is_wanted index ≡ Ok false
  unfolding answers
  other-answers tells = let e = name-is ∙ tells in rw (e, answers) refl

  -- it is not exported
  pub unoffered-answers :
      same (strings_in file symbols.names) symbol.st_name wanted.name ≡ Ok true → is_exported file (symbol_offset told index) ≡ false
      → answers file told wanted is_wanted index ≡ Ok false
  unfolding answers
  unoffered-answers tells none = let e = name-is ∙ tells in rw (e, none, answers) refl

  -- it is, and so its version decides
  pub offered-answers :
      same (strings_in file symbols.names) symbol.st_name wanted.name ≡ Ok true → is_exported file (symbol_offset told index) ≡ true
      → answers file told wanted is_wanted index ≡ version_fits file told.words wanted.asked is_wanted index
  unfolding answers
  offered-answers tells offered = let e = name-is ∙ tells in rw (e, offered, answers) refl

-- what the version decides, the symbol does
pub fault-tells : (file : List ℕ) (symbols : DynamicSymbols) (words : Option VersymTable) (index : ℕ) (says version : Result Bool Refusal) (fault : Fault) → says ≡ version → ReturnsFit file words index version (Err fault) → ReturnsAnswer file symbols index says (Err fault)
fault-tells file symbols words index says version (Refused refusal) e tells = λ other. e ∙ tells other
fault-tells file symbols words index says version (Source fault at) e tells = tt

-- the result for a symbol is that of the matcher
pub tries-as :
    (file : List ℕ) (symbols : DynamicSymbols) (wanted : SymbolQuery) (is_wanted : ℕ → Bool) (says : ℕ → Result Bool Refusal) (index : ℕ) (result : Result (Option SymbolMatch) Fault)
    → (is : SaysOf file symbols wanted is_wanted says) → ReturnsAnswer file symbols index (answers file is.told wanted is_wanted index) result
    → TriesSymbol (IsSymbolWithVersym file symbols) says index result
tries-as file symbols wanted is_wanted says index (Ok (Some answer)) is tells = (ap (λ (s : ℕ → Result Bool Refusal). s index) is.says_so ∙ tells.0, tells.1)
tries-as file symbols wanted is_wanted says index (Ok None) is tells = ap (λ (s : ℕ → Result Bool Refusal). s index) is.says_so ∙ tells
tries-as file symbols wanted is_wanted says index (Err (Refused refusal)) is tells = λ other. ap (λ (s : ℕ → Result Bool Refusal). s index) is.says_so ∙ tells other
tries-as file symbols wanted is_wanted says index (Err (Source fault at)) is tells = tt
