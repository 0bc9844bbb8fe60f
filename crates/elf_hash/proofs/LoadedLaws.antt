-- What a file implies for the tables that a lookup searches, after its load, and the cost of
-- finding them.
use Rattle.std.proofs.Common.{◌≡◌, ℕ, ◌+◌, ◌*◌, ◌≤◌, ◌==◌, true, false, inl, inr, List, ◌++◌, length, Option, None, Some, Result, Err, refl, sym, ap, subst, ◌∙◌, arith, eq-eqb, ne_eqb}
use Rattle.std.proofs.lemmas.Bool.{cases_Bool, eqb-true}
use Rattle.elf_model.specs.Prelude.{IsBudgetRefusal, LookupTables as IsScopeOf, before_headers, e_phnum, e_shnum, early_checks, first_refusal, header_checks, load_checks, lookup_tables_by_segments, lookup_tables_of, scope_by_sections, segments_asked}
use Rattle.elf_model.specs.declared.causes.Refusal.{Refusal}
use Rattle.elf_model.proofs.CheckSteps.{first_refusal-none, first_refusal-some}
use Rattle.elf_record.specs.Prelude.{IsEhdr}
use Rattle.elf_record.specs.declared.ehdr.Ehdr.{Ehdr}
use Rattle.elf_table.specs.Prelude.{HeaderRead, IsOfRead, LoadedAs, StoreState, load_cost}
use Rattle.elf_table.specs.declared.fault.Fault.{Fault}
use Rattle.elf_table.specs.declared.fault.Fault.TheVariants.{Refused, Source}
use Rattle.elf_table.proofs.LoadLaws.{load-within, load_most}
use Rattle.elf_hash.specs.Prelude.{FindsLookupTables, entries_asked, scope_cost, scope_loaded, segments_bytes}
use Rattle.elf_hash.specs.declared.lookup_tables.LookupTables.{LookupTables}

-- a fault of a read implies nothing
pub read_tells : (file : List ℕ) (found : Result IsScopeOf Refusal) (fault : Fault) → IsOfRead fault → FindsLookupTables file found (Err fault)
read_tells file found (Refused refusal) budget = λ other. absurd (other budget)
read_tells file found (Source fault at) budget = tt

-- a refusal of the file
told_refused : (file : List ℕ) (found : Result IsScopeOf Refusal) (refusal : Refusal) → ((IsBudgetRefusal refusal → ⊥) → found ≡ Err refusal) → FindsLookupTables file found (Err (Refused refusal))
told_refused file found refusal h = h

module _ (file : List ℕ) where
  pub loaded_sections : (result : Result LookupTables Fault) → (e_shnum file ≡ 0 → ⊥) → FindsLookupTables file (scope_by_sections file) result → FindsLookupTables file (scope_loaded file) result
  loaded_sections result some f =
      let other : (e_shnum file == 0) ≡ false = ne_eqb (e_shnum file) 0 some in
      let is : scope_loaded file ≡ scope_by_sections file = rw (other, scope_loaded) refl in
      subst (λ r. FindsLookupTables file r result) (sym is) f

  module _ (none : e_shnum file ≡ 0) where
    zero_is : (e_shnum file == 0) ≡ true
    zero_is = eq-eqb (e_shnum file) 0 none

    pub loaded_segments : (result : Result LookupTables Fault) → FindsLookupTables file (lookup_tables_by_segments file) result → FindsLookupTables file (scope_loaded file) result
    loaded_segments result f =
        let is : scope_loaded file ≡ lookup_tables_by_segments file = rw (zero_is, scope_loaded) refl in
        subst (λ r. FindsLookupTables file r result) (sym is) f

    pub segments_cost : segments_asked file ≡ 56 * e_phnum file + entries_asked file
    unfolding segments_asked
    segments_cost = rw (zero_is, segments_asked) refl

module _ (file : List ℕ) (headers : ℕ) where
  scope_refused : (refusal : Refusal) → first_refusal (header_checks file ++ load_checks file headers) ≡ Some refusal → lookup_tables_of file headers ≡ Err refusal
  unfolding lookup_tables_of
  scope_refused refusal e = rw (e, lookup_tables_of) refl

  scope_passed : first_refusal (header_checks file ++ load_checks file headers) ≡ None → lookup_tables_of file headers ≡ scope_loaded file
  unfolding lookup_tables_of
  scope_passed e = rw (e, lookup_tables_of) refl

  pub tells_header : (fault : Fault) → HeaderRead file (Err fault) → FindsLookupTables file (lookup_tables_of file headers) (Err fault)
  tells_header (Refused refusal) read = λ other. scope_refused refusal (first_refusal-some (header_checks file) (load_checks file headers) refusal (read other))
  tells_header (Source fault at) read = tt

  pub tells_load : (fault : Fault) (store : StoreState) → first_refusal (header_checks file) ≡ None → store.slots ≡ headers → LoadedAs file (Err fault) store
      → FindsLookupTables file (lookup_tables_of file headers) (Err fault)
  tells_load (Refused refusal) store passed slots loads = λ other.
      let fails = ap (λ (n : ℕ). first_refusal (load_checks file n)) (sym slots) ∙ loads other in
      scope_refused refusal (first_refusal-none (header_checks file) (load_checks file headers) passed ∙ fails)
  tells_load (Source fault at) store passed slots loads = tt

  pub tells_loaded : (result : Result LookupTables Fault) → first_refusal (header_checks file) ≡ None → first_refusal (load_checks file headers) ≡ None
      → FindsLookupTables file (scope_loaded file) result → FindsLookupTables file (lookup_tables_of file headers) result
  tells_loaded result header load f =
      let is = scope_passed (first_refusal-none (header_checks file) (load_checks file headers) header ∙ load) in
      subst (λ r. FindsLookupTables file r result) (sym is) f

  -- the cost: the file header at least, and if the early checks pass the headers
  pub scope_least : 64 ≤ scope_cost file headers
  scope_least = go (first_refusal (before_headers file headers)) refl
    where
      go : (first : Option Refusal) → first_refusal (before_headers file headers) ≡ first → 64 ≤ scope_cost file headers
      go None e = let cost : scope_cost file headers ≡ 64 + 64 * e_shnum file + segments_asked file = rw (e, scope_cost) refl in omega (arith, cost)
      go (Some refusal) e = let cost : scope_cost file headers ≡ 64 = rw (e, scope_cost) refl in omega (arith, cost)

  pub cost_loaded : first_refusal (header_checks file) ≡ None → first_refusal (early_checks file headers) ≡ None
      → scope_cost file headers ≡ 64 + 64 * e_shnum file + segments_asked file
  cost_loaded header early =
      let e : first_refusal (before_headers file headers) ≡ None = first_refusal-none (header_checks file) (early_checks file headers) header ∙ early in
      rw (e, scope_cost) refl

  pub load_within : (header : Ehdr) (size : ℕ) → IsEhdr file 0 header → size ≡ length file → first_refusal (header_checks file) ≡ None
      → 64 + load_cost header size headers ≤ scope_cost file headers
  load_within header size is same passed =
      load-within file header size headers _ is same scope_least (λ early. let cost = cost_loaded passed early in let count : header.e_shnum ≡ e_shnum file = is.e_shnum in omega (arith, cost, count))

-- all that is requested: the section headers, or the program headers and the dynamic entries
pub all_within : (header : Ehdr) (size seen slots : ℕ) → header.e_shnum ≤ slots → header.e_phnum ≤ slots
    → load_cost header seen slots + segments_bytes header size ≤ 64 * slots + size
all_within header size seen slots few few_segments =
    let most = load_most header seen slots in
    elim (cases_Bool (header.e_shnum == 0)) [
      | inl none ↦
          let zero : header.e_shnum ≡ 0 = eqb-true header.e_shnum 0 none in
          let bytes : segments_bytes header size ≡ 56 * header.e_phnum + size = rw (none, segments_bytes) refl in
          omega (arith, most, zero, bytes, few_segments)
      | inr some ↦
          let bytes : segments_bytes header size ≡ 0 = rw (some, segments_bytes) refl in
          omega (arith, most, bytes, few)
    ]

pub segments_bytes_is : (header : Ehdr) (size : ℕ) → header.e_shnum ≡ 0 → segments_bytes header size ≡ 56 * header.e_phnum + size
segments_bytes_is header size none = let zero : (header.e_shnum == 0) ≡ true = eq-eqb header.e_shnum 0 none in rw (zero, segments_bytes) refl
