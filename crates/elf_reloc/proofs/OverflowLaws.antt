-- The value that does not fit, step by step.
use Rattle.std.proofs.Common.{◌≡◌, ◌≢◌, ◌==◌, ℕ, zero, suc, Bool, true, false, List, [], ◌++◌, Option, None, Some, Result, Ok, Err, inl, inr, refl, sym, ap, ◌∙◌, arith}
use Rattle.std.proofs.lemmas.Bool.{cases_Bool}
use Rattle.std.proofs.lemmas.Bool.Decides.{nat_tests}
use Rattle.elf_model.specs.Prelude.{ApplyTarget, DisplayedName, Layout, OverflowEntry, base_there, entry_symbol_name, first_refusal, header_checks, kind_of, linked_at, load_checks, named_value, overflow_in, overflow_with, overflowed, place_there, place_value, r_offset, r_sym, r_type, refused_in, resolved_symbol_name, section_at, st_name, strings_of, symbol_at, symbol_checks, takes_place, value_by, value_there, value_unfit}
use Rattle.elf_model.specs.declared.causes.Refusal.{Refusal}
use Rattle.elf_model.specs.declared.missing.OverflowedValue.{OverflowedValue}
use Rattle.elf_model.specs.declared.relocation_types.Formula.{Formula}
use Rattle.elf_model.specs.declared.relocation_types.RelocationType.{RelocationType}
use Rattle.elf_model.proofs.CheckSteps.{first_refusal-none, first_refusal-some}
use Rattle.elf_table.specs.Prelude.{HeaderRead, LoadedAs, StoreState, strings_in}
use Rattle.elf_table.specs.declared.fault.Fault.{Fault}
use Rattle.elf_table.specs.declared.fault.Fault.TheVariants.{Refused, Source}
use Rattle.elf_table.specs.declared.names.NameEnd.{NameEnd}
use Rattle.elf_reloc.specs.Entries.{taken_place, term_of}
use Rattle.elf_reloc.specs.Explained.{NamesEntrySymbol}
use Rattle.elf_reloc.specs.Overflowed.{ExplainsOverflow, IsByCheck, OverflowLoaded}
use Rattle.elf_reloc.specs.Costs.{ValueOrRefusal}
use Rattle.elf_reloc.specs.declared.missing_item.RelocationSymbol.{RelocationSymbol}
use Rattle.elf_reloc.proofs.NamingLaws.{unnamed}

-- the section of entries that the refusal points into, if there is one
module _ (file : List ℕ) (section : ℕ) (layout : Layout) (rela : ℕ) where
  pub nowhere : refused_in file section rela ≡ None → overflowed file section layout rela ≡ None
  unfolding overflowed
  nowhere h = rw (h, overflowed) refl

  pub somewhere : (index : ℕ) → refused_in file section rela ≡ Some index
      → overflowed file section layout rela ≡ overflow_in (record { file = file; section = section; size = 0; layout = layout }) (section_at file index) rela
  unfolding overflowed
  somewhere index h = rw (h, overflowed) refl

module _ (target : ApplyTarget) (header rela : ℕ) where
  -- the value that is found, or none
  pub no_value : value_unfit target header rela ≡ None → overflow_in target header rela ≡ None
  unfolding overflow_in
  no_value h = rw (h, overflow_in) refl

  pub with_value : (value : ℕ) → value_unfit target header rela ≡ Some value
      → overflow_in target header rela ≡ overflow_with target.file target.section rela value (entry_symbol_name target.file header rela)
  unfolding overflow_in
  with_value value h = rw (h, overflow_in) refl

  -- by the type
  pub untyped : kind_of (r_type target.file rela) ≡ None → value_unfit target header rela ≡ None
  unfolding value_unfit
  untyped h = rw (h, value_unfit) refl

  pub typed : (type : RelocationType) → kind_of (r_type target.file rela) ≡ Some type
      → value_unfit target header rela ≡ value_by target.file rela type (base_there target header rela type) (place_there target rela type.formula)
  unfolding value_unfit
  typed type h = rw (h, value_unfit) refl

  -- B, by what is read of the symbol
  module _ (type : RelocationType) where
    base_by : (first : Option Refusal) → first_refusal (symbol_checks target.file header rela) ≡ first
        → base_there target header rela type ≡ value_there (term_of type.base target header rela)
    unfolding base_there term_of
    base_by None e = rw (e, base_there, term_of) refl
    base_by (Some refusal) e = rw (e, base_there, term_of) refl

    base_is : base_there target header rela type ≡ value_there (term_of type.base target header rela)
    base_is = base_by (first_refusal (symbol_checks target.file header rela)) refl

    pub base_found : (value : ℕ) → term_of type.base target header rela ≡ Ok value → base_there target header rela type ≡ Some value
    base_found value e = base_is ∙ ap value_there e

    pub base_refused : (refusal : Refusal) → term_of type.base target header rela ≡ Err refusal → base_there target header rela type ≡ None
    base_refused refusal e = base_is ∙ ap value_there e

    base_unlinked : (refusal : Refusal) → first_refusal (symbol_checks target.file header rela) ≡ Some refusal → base_there target header rela type ≡ None
    unfolding base_there
    base_unlinked refusal e = rw (e, base_there) refl

    -- an entry whose value is found passes the checks of its symbol
    pub passes_of : (value : ℕ) (place : Option ℕ) → value_by target.file rela type (base_there target header rela type) place ≡ Some value
        → first_refusal (symbol_checks target.file header rela) ≡ None
    passes_of value place is = by_cases (first_refusal (symbol_checks target.file header rela)) refl
      where
        by_cases : (first : Option Refusal) → first_refusal (symbol_checks target.file header rela) ≡ first → first_refusal (symbol_checks target.file header rela) ≡ None
        by_cases None e = e
        by_cases (Some refusal) e =
            let none = ap (λ (b : Option ℕ). value_by target.file rela type b place) (base_unlinked refusal e) in
            let both = sym none ∙ is in cc

  pub passes : (value : ℕ) → value_unfit target header rela ≡ Some value → first_refusal (symbol_checks target.file header rela) ≡ None
  passes value is = by_type (kind_of (r_type target.file rela)) refl
    where
      by_type : (kind : Option RelocationType) → kind_of (r_type target.file rela) ≡ kind → first_refusal (symbol_checks target.file header rela) ≡ None
      by_type None e = let both = sym (untyped e) ∙ is in cc
      by_type (Some type) e = passes_of type value (place_there target rela type.formula) (sym (typed type e) ∙ is)

  -- P
  place_by : (formula : Formula) (taken : Bool) → takes_place formula ≡ taken → place_there target rela formula ≡ value_there (taken_place formula target rela)
  unfolding place_there taken_place
  place_by formula true e = rw (e, place_there, taken_place) refl
  place_by formula false e = rw (e, place_there, taken_place) refl

  pub place_found : (formula : Formula) (answer : Result ℕ Refusal) → taken_place formula target rela ≡ answer → place_there target rela formula ≡ value_there answer
  place_found formula answer e = place_by formula (takes_place formula) refl ∙ ap value_there e

-- a result for B that is a check's refusal
pub base_checked : (target : ApplyTarget) (header rela : ℕ) (type : RelocationType) (fault : Fault) → IsByCheck fault true
    → ValueOrRefusal (Err fault) (term_of type.base target header rela) → base_there target header rela type ≡ None
base_checked target header rela type fault check told =
    let refused = rw check.1 at told in
    base_refused target header rela type check.0 (refused check.2)

-- the name of the symbol that an entry names: none of symbol 0
module _ (file : List ℕ) (header rela : ℕ) where
  symbol_zero : (r_sym file rela == 0) ≡ true → entry_symbol_name file header rela ≡ resolved_symbol_name (strings_of file (linked_at file header)) 0
  unfolding entry_symbol_name
  symbol_zero e = rw (e, entry_symbol_name) refl

  symbol_some : (r_sym file rela == 0) ≡ false
      → entry_symbol_name file header rela
      ≡ resolved_symbol_name (strings_of file (linked_at file header)) (st_name file (symbol_at file (linked_at file header) (r_sym file rela)))
  unfolding entry_symbol_name
  symbol_some e = rw (e, entry_symbol_name) refl

  pub name_is : (named : RelocationSymbol) → NamesEntrySymbol file header rela named
      → resolved_symbol_name (strings_in file named.names) named.name ≡ entry_symbol_name file header rela
  name_is named is = by_symbol (r_sym file rela) refl
    where
      by_symbol : (n : ℕ) → r_sym file rela ≡ n → resolved_symbol_name (strings_in file named.names) named.name ≡ entry_symbol_name file header rela
      by_symbol zero e =
          let test : (r_sym file rela == 0) ≡ true = grind (arith, nat_tests, e) in
          unnamed (strings_in file named.names) named.name (is.zero e).0 ∙ sym (symbol_zero test ∙ unnamed (strings_of file (linked_at file header)) 0 refl)
      by_symbol (suc n) e =
          let test : (r_sym file rela == 0) ≡ false = grind (arith, nat_tests, e) in
          let fields = is.fields (λ none. omega (arith, none, e)) in
          ap (λ (strings : List ℕ). resolved_symbol_name strings named.name) fields.2
          ∙ (ap (resolved_symbol_name (strings_of file (linked_at file header))) fields.0 ∙ sym (symbol_some test))

-- the entry with the fields that were read
pub overflow_is : (file : List ℕ) (section rela value kind symbol offset : ℕ) (name : DisplayedName) → kind ≡ r_type file rela → symbol ≡ r_sym file rela → offset ≡ r_offset file rela
    → overflow_with file section rela value (Ok name)
    ≡ Some (record { overflowed = record { kind = kind; symbol = symbol; section = section; offset = offset; value = value }; name = name })
overflow_is file section rela value kind symbol offset name k s o = rw (k, s, o) refl

-- a refusal of the file's own checks
pub header_stops : (file : List ℕ) (headers : ℕ) (entry : Option OverflowEntry) (fault : Fault) (name : List ℕ) → HeaderRead file (Err fault) → ExplainsOverflow file headers entry (Err fault) name
header_stops file headers entry (Refused refusal) name read = λ other. first_refusal-some (header_checks file) (load_checks file headers) refusal (read other)
header_stops file headers entry (Source fault at) name read = tt

pub load_stops : (file : List ℕ) (headers : ℕ) (entry : Option OverflowEntry) (fault : Fault) (name : List ℕ) (store : StoreState) → first_refusal (header_checks file) ≡ None
    → store.slots ≡ headers → LoadedAs file (Err fault) store → ExplainsOverflow file headers entry (Err fault) name
load_stops file headers entry (Refused refusal) name store passed slots loads = λ other.
    first_refusal-none (header_checks file) (load_checks file headers) passed ∙ (ap (λ (n : ℕ). first_refusal (load_checks file n)) (sym slots) ∙ loads other)
load_stops file headers entry (Source fault at) name store passed slots loads = tt

-- after those checks nothing is refused except with `Budget`
pub loaded_stops : (file : List ℕ) (headers : ℕ) (entry : Option OverflowEntry) (result : Result (Option (OverflowedValue × NameEnd)) Fault) (name : List ℕ)
    → OverflowLoaded entry result name → ExplainsOverflow file headers entry result name
loaded_stops file headers entry (Ok found) name explains = explains
loaded_stops file headers entry (Err (Refused refusal)) name explains = λ other. absurd (other explains)
loaded_stops file headers entry (Err (Source fault at)) name explains = tt
