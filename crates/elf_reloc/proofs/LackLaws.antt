-- What is missing for an entry, step by step.
use Rattle.std.proofs.Common.{◌≡◌, ◌≢◌, ℕ, ◌/◌, ◌%◌, ◌^◌, List, Option, None, Some, Result, Ok, Err, refl, sym, ap, ◌∙◌, subst, arith}
use Rattle.std.proofs.lemmas.Bool.Decides.{nat_tests}
use Rattle.elf_model.specs.Prelude.{Layout, first_refusal, kind_of, linked_at, missing, missing_of, r_sym, r_type, strings_of, symbol_checks, wanted}
use Rattle.elf_model.specs.declared.missing.LayoutAddress.{LayoutAddress}
use Rattle.elf_model.specs.declared.missing.MissingAddress.{MissingAddress}
use Rattle.elf_model.specs.declared.causes.Refusal.{Refusal}
use Rattle.elf_model.specs.declared.relocation_types.RelocationType.{RelocationType}
use Rattle.elf_table.specs.Prelude.{RefersToSymbol, strings_in}
use Rattle.elf_table.specs.declared.fault.Fault.{Fault}
use Rattle.elf_table.specs.declared.fault.Fault.TheVariants.{Refused, Source}
use Rattle.elf_table.specs.declared.linked_symbol.LinkedSymbol.{LinkedSymbol}
use Rattle.elf_record.specs.declared.rela.Rela.{Rela}
use Rattle.elf_reloc.specs.Prelude.{EntryRead, LackOf, Lacks, NamesEntrySymbol}
use Rattle.elf_reloc.specs.declared.missing_item.MissingItem.{MissingItem}
use Rattle.elf_reloc.specs.declared.missing_item.RelocationSymbol.{RelocationSymbol}

module _ (file : List ℕ) (header : ℕ) (layout : Layout) (section : ℕ) (refusal : Refusal) where
  -- the type stores no value
  pub untyped : kind_of (r_type file refusal.at) ≡ None → missing file header layout section refusal ≡ None
  unfolding missing
  untyped h = rw (h, missing) refl

  -- there is no symbol
  pub unlinked : first_refusal (symbol_checks file header refusal.at) ≢ None → missing file header layout section refusal ≡ None
  unfolding missing
  unlinked h = grind arith

  -- the symbol is known
  pub missing_by : (named : RelocationSymbol) (type : RelocationType) → NamesEntrySymbol file header refusal.at named → kind_of (r_type file refusal.at) ≡ Some type
      → missing file header layout section refusal ≡ missing_of (r_type file refusal.at) named.name (wanted refusal.cause type layout section named.symbol)
  unfolding missing
  missing_by named type is kind = grind (arith, nat_tests, is.passed, is.zero, is.fields)

-- the name of a symbol is in the table that its section links to
names_of : (file : List ℕ) (header rela : ℕ) (named : RelocationSymbol) → NamesEntrySymbol file header rela named → named.name ≢ 0
    → strings_in file named.names ≡ strings_of file (linked_at file header)
names_of file header rela named is some = (is.fields (λ zero. some (is.zero zero).0)).2

-- what is missing, by the address that is needed
pub lacks_by : (file : List ℕ) (header rela kind : ℕ) (named : RelocationSymbol) (wanted : Option LayoutAddress) (missed : Option MissingAddress) (found : Option MissingItem)
    → NamesEntrySymbol file header rela named → missed ≡ missing_of kind named.name wanted → LackOf kind named wanted found → Lacks file header missed found
unfolding missing_of
lacks_by file header rela kind named wanted missed None is same lack = same ∙ lack
lacks_by file header rela kind named None missed (Some lacking) is same lack = absurd (cc)
lacks_by file header rela kind named (Some wanted) missed (Some lacking) is same lack =
    let here : named.name ≡ lacking.missing.name = grind arith in (
      same ∙ lack.0,
      ap (λ (n : RelocationSymbol). n.name) lack.1 ∙ here,
      λ some. ap (λ (n : RelocationSymbol). strings_in file n.names) lack.1 ∙ names_of file header rela named is (λ zero. some (sym here ∙ zero)),
    )

-- the type of an entry, and its symbol, as the code has them
pub type_is : (file : List ℕ) (at : ℕ) (entry : Rela) {kind : ℕ} → EntryRead file at (Ok entry) → kind ≡ entry.r_info % 2 ^ 32 → kind ≡ r_type file at
type_is file at entry read is = is ∙ ap (λ (n : ℕ). n % 2 ^ 32) read.r_info

pub symbol_is : (file : List ℕ) (at : ℕ) (entry : Rela) {symbol : ℕ} → EntryRead file at (Ok entry) → symbol ≡ entry.r_info / 2 ^ 32 → symbol ≡ r_sym file at
symbol_is file at entry read is = is ∙ ap (λ (n : ℕ). n / 2 ^ 32) read.r_info

-- an entry whose symbol is not found does not pass the checks of its symbol
pub unfound : (file : List ℕ) (header rela symbol : ℕ) (found : Result (Option LinkedSymbol) Fault) → ((one : Option LinkedSymbol) → found ≡ Ok one → ⊥) → symbol ≡ r_sym file rela
    → RefersToSymbol file header rela symbol found → first_refusal (symbol_checks file header rela) ≢ None
unfound file header rela symbol (Ok one) none is refers = absurd (none one refl)
unfound file header rela symbol (Err (Refused refusal)) none is refers = λ pass. let some = rw is at refers in cc
unfound file header rela symbol (Err (Source fault at)) none is refers = absurd refers

-- the symbol that is found is that of the entry
pub found_is : (file : List ℕ) (header rela symbol : ℕ) {found : Result (Option LinkedSymbol) Fault} {one : Option LinkedSymbol} → found ≡ Ok one → symbol ≡ r_sym file rela
    → RefersToSymbol file header rela symbol found → RefersToSymbol file header rela (r_sym file rela) (Ok one)
found_is file header rela symbol {found = found} known is refers =
    subst (RefersToSymbol file header rela (r_sym file rela)) known (subst (λ (n : ℕ). RefersToSymbol file header rela n found) is refers)
