-- What dynamic entries say of relocations, also in a file without any.
use Rattle.std.proofs.Common.{◌≡◌, ℕ, zero, suc, ◌+◌, ◌/◌, ◌<◌, ◌==◌, ◌||◌, Bool, true, false, List, [], ◌∷◌, ◌++◌, length, take, Option, None, Some, Result, Ok, Err, IfErr, refl, sym, ap, subst, ◌∙◌, arith, append_assoc}
use Rattle.std.specs.Prelude.{is_some, option_map, unwrap_or}
use Rattle.std.specs.List.{list_any}
use Rattle.std.proofs.lemmas.List.{drop_all}
use Rattle.std.proofs.lemmas.List.Folds.{list_any-append}
use Rattle.elf_model.specs.Apply.{places_from}
use Rattle.elf_model.specs.Bytes.{field, number}
use Rattle.elf_model.specs.Checks.{Check, first_refusal}
use Rattle.elf_model.specs.DynamicRelocations.{located_table, table_by, tags_of}
use Rattle.elf_model.specs.Find.{first_that}
use Rattle.elf_model.specs.Image.{ImageSource, direct_changes, entry_ranges, has_table, holder_of, image_changes, read_addresses, relative_changes, relocation_changes, resolved_changes}
use Rattle.elf_model.specs.ImageItems.{ItemValues}
use Rattle.elf_model.specs.ImageChecks.{LoadedTable, addend_checks, dynamic_image_checks, image_rows_of, image_symbol_checks, linkage_checks, linkage_table, loaded_table, rela_table, relative_table, repeat_checks}
use Rattle.elf_model.specs.LoaderScope.{dynamic_segment_index, tagged_row}
use Rattle.elf_model.specs.Prelude.{d_tag, d_un, dynamic_count, dynamic_value, has_bits, listed_value, p_filesz, p_offset, p_vaddr, segment_at, segment_dynamic_checks}
use Rattle.elf_model.specs.Traits.{dynamic_entry_value, has_text_relocations}
use Rattle.elf_source.specs.Source.{CountedState}
use Rattle.elf_model.specs.declared.relocation_tables.RelocationTable.{RelocationTable}
use Rattle.elf_model.specs.declared.relocation_tables.RelocationTable.TheVariants as table
use Rattle.elf_model.proofs.CheckSteps.{first_refusal-none, first_refusal-some}
use Rattle.elf_table.specs.Prelude.{CallReads, IsOfCheck, RefusedBy, TableRange, fault_of_result}
use Rattle.elf_table.proofs.LedgerLaws.{CallDid-stop}
use Rattle.elf_table.specs.declared.fault.Fault.{Fault}
use Rattle.elf_table.specs.declared.fault.Fault.TheVariants.{Refused, Source}
use Rattle.elf_hash.specs.Prelude.{dynamic_entry_at, tagged_entry}
use Rattle.elf_hash.specs.declared.dyn_entry.DynEntry.{DynEntry}
use Rattle.elf_hash.proofs.EntryLaws.{listed_is}
use Rattle.elf_image.specs.Located.{AreImageRows, AreRowsAt, ChecksThen, IsMapped, image_entry_checks, found_rows, image_table_checks, loaded_addresses, located_checks_of, row_in, symbol_addresses}
use Rattle.elf_image.specs.Relocated.{AreRelrWords, ReadsAfter, entries_header, is_table_holder, is_holder, relocation_checks, row_count}
use Rattle.elf_image.specs.declared.changes.TableSegments.{TableSegments}
use Rattle.elf_image.specs.declared.dynamic_rows.ImageRows.{ImageRows}
use Rattle.elf_image.specs.declared.tables.MappedTable.{MappedTable}
use Rattle.elf_image.proofs.TableSteps.{flags_entry, text_entry}

-- A FILE WITHOUT DYNAMIC ENTRIES: there are no bytes after its last
no_field : (file : List ℕ) (more width : ℕ) → field file (length file + more) width ≡ 0
unfolding number field
no_field file more width = ap (λ (rest : List ℕ). number (take width rest)) (drop_all (length file + more) file (omega arith)) ∙ none width
  where
    none : (width : ℕ) → number (take width []) ≡ 0
    none zero = refl
    none (suc width) = refl

module _ (file : List ℕ) where
  no_size : p_filesz file (length file) ≡ 0
  no_size = no_field file 32 8

  no_count : dynamic_count file (p_offset file (length file)) (p_filesz file (length file) / 16) ≡ 0
  unfolding dynamic_count
  no_count = rw no_size refl

  no_row : (tag : ℕ) → tagged_row file (length file) tag ≡ None
  unfolding tagged_row first_that
  no_row tag = rw (no_count, tagged_row) refl

  pub no_address : p_vaddr file (length file) ≡ 0
  no_address = no_field file 16 8

  no_rows_of : length (image_rows_of file (length file)) ≡ 0
  unfolding places_from
  no_rows_of = rw no_count refl

  pub empty_rows : (rows : ImageRows) → rows.count ≡ 0 → ((tag : ℕ) → row_in (found_rows rows) tag ≡ None) → AreImageRows file (length file) rows
  empty_rows rows count none = record { held = λ tag is. none tag ∙ sym (ap (option_map (dynamic_entry_at file)) (no_row tag)); count = count ∙ sym no_rows_of }

  no_table : (kind : RelocationTable) → located_table file (length file) kind ≡ Ok None
  unfolding located_table table_by
  no_table kind = rw (no_row (tags_of kind).address, located_table) refl

  pub no_loaded : (kind : RelocationTable) → loaded_table file (length file) kind ≡ None
  unfolding loaded_table
  no_loaded kind = rw (no_table kind, loaded_table) refl

  no_addends : first_refusal (addend_checks file (length file)) ≡ None
  unfolding addend_checks
  no_addends = rw (no_row 17, no_row 23, addend_checks) refl

  no_symbols : first_refusal (image_symbol_checks file (length file)) ≡ None
  unfolding image_symbol_checks
  no_symbols = rw (no_loaded table.Rela, no_loaded table.Jmprel, image_symbol_checks) refl

  no_linkage : first_refusal (linkage_checks file (length file)) ≡ None
  unfolding linkage_checks
  no_linkage = rw (no_loaded table.Rela, linkage_checks) refl

  no_table_checks : first_refusal (image_table_checks file (length file) ++ linkage_checks file (length file)) ≡ None
  no_table_checks =
      let symbols = first_refusal-none (addend_checks file (length file)) (image_symbol_checks file (length file)) no_addends ∙ no_symbols in
      let tables : first_refusal (image_table_checks file (length file)) ≡ None = rw (no_table table.Relr, no_table table.Rela, no_table table.Jmprel) (simp append_empty symbols) in
      first_refusal-none (image_table_checks file (length file)) (linkage_checks file (length file)) tables ∙ no_linkage
    where
      append_empty : (checks : List Check) → checks ++ [] ≡ checks
      append_empty [] = refl
      append_empty (check ∷ checks) = ap (λ (rest : List Check). check ∷ rest) (append_empty checks)

  -- ALL CHECKS: of the entries, and then of what they locate
  pub no_header : dynamic_segment_index file ≡ None → entries_header file ≡ length file
  no_header none = rw (none, entries_header) refl

  pub header_at : (index : ℕ) → dynamic_segment_index file ≡ Some index → entries_header file ≡ segment_at file index
  header_at index some = rw (some, entries_header) refl

  no_entry_checks : dynamic_segment_index file ≡ None → image_entry_checks file ≡ []
  no_entry_checks none = rw (none, image_entry_checks) refl

  entry_checks_at : (index : ℕ) → dynamic_segment_index file ≡ Some index
      → image_entry_checks file ≡ segment_dynamic_checks file (segment_at file index) ++ repeat_checks file (segment_at file index)
  entry_checks_at index some = rw (some, image_entry_checks) refl

  no_relocation_checks : dynamic_segment_index file ≡ None → relocation_checks file ≡ []
  no_relocation_checks none = rw (none, relocation_checks) refl

  relocation_checks_at : (index : ℕ) → dynamic_segment_index file ≡ Some index → relocation_checks file ≡ dynamic_image_checks file (segment_at file index)
  relocation_checks_at index some = rw (some, relocation_checks) refl

  one_list : (at : ℕ) → dynamic_image_checks file at ≡ (segment_dynamic_checks file at ++ repeat_checks file at) ++ (image_table_checks file at ++ linkage_checks file at)
  unfolding dynamic_image_checks
  one_list at = simp append_assoc

  abbrev located_at : (at : ℕ) → List Check
  located_at at = image_table_checks file at ++ linkage_checks file at

  pub all_checks : first_refusal (relocation_checks file) ≡ first_refusal (image_entry_checks file ++ located_checks_of file)
  all_checks = go (dynamic_segment_index file) refl
    where
      go : (index : Option ℕ) → dynamic_segment_index file ≡ index → first_refusal (relocation_checks file) ≡ first_refusal (image_entry_checks file ++ located_checks_of file)
      go None none =
          let located : located_checks_of file ≡ located_at (length file) = ap located_at (no_header none) in
          ap first_refusal (no_relocation_checks none)
          ∙ sym (ap (λ (checks : List Check). first_refusal (checks ++ located_checks_of file)) (no_entry_checks none) ∙ (ap first_refusal located ∙ no_table_checks))
      go (Some index) some =
          let at = segment_at file index in
          let located : located_checks_of file ≡ located_at at = ap located_at (header_at index some) in
          ap first_refusal (relocation_checks_at index some ∙ one_list at)
          ∙ sym (ap (λ (checks : List Check). first_refusal (checks ++ located_checks_of file)) (entry_checks_at index some)
          ∙ ap (λ (checks : List Check). first_refusal ((segment_dynamic_checks file at ++ repeat_checks file at) ++ checks)) located)

  -- the entries are refused, or what they locate
  pub entries_fail : {X Y : Type 0} (Is : X → Type 0) (Was : Y → Type 0) (fault : Fault) → ReadsAfter (image_entry_checks file) Is (Err fault) → ReadsAfter (relocation_checks file) Was (Err fault)
  entries_fail Is Was (Refused refusal) reads = λ other. all_checks ∙ first_refusal-some (image_entry_checks file) (located_checks_of file) refusal (reads other)
  entries_fail Is Was (Source fault at) reads = tt

  pub located_result : {X : Type 0} (Is : X → Type 0) (result : Result X Fault) → first_refusal (image_entry_checks file) ≡ None → ChecksThen (located_checks_of file) Is result → ReadsAfter (relocation_checks file) Is result
  located_result Is (Ok x) passes reads = (all_checks ∙ (first_refusal-none (image_entry_checks file) (located_checks_of file) passes ∙ reads.0), reads.1)
  located_result Is (Err (Refused refusal)) passes reads = λ other. all_checks ∙ (first_refusal-none (image_entry_checks file) (located_checks_of file) passes ∙ reads)
  located_result Is (Err (Source fault at)) passes reads = tt

  -- the entries of a header
  module _ (index : ℕ) (some : dynamic_segment_index file ≡ Some index) where
    entry_checks_are : image_entry_checks file ≡ segment_dynamic_checks file (segment_at file index) ++ repeat_checks file (segment_at file index)
    entry_checks_are = entry_checks_at index some

    pub header_refused : {X : Type 0} (Is : X → Type 0) (fault : Fault) → RefusedBy (segment_dynamic_checks file (segment_at file index)) fault → ReadsAfter (image_entry_checks file) Is (Err fault)
    header_refused Is (Refused refusal) r = λ other. ap first_refusal entry_checks_are ∙ first_refusal-some (segment_dynamic_checks file (segment_at file index)) (repeat_checks file (segment_at file index)) refusal r
    header_refused Is (Source fault at) r = tt

    module _ (passes : first_refusal (segment_dynamic_checks file (segment_at file index)) ≡ None) where
      behind : first_refusal (image_entry_checks file) ≡ first_refusal (repeat_checks file (segment_at file index))
      behind = ap first_refusal entry_checks_are ∙ first_refusal-none (segment_dynamic_checks file (segment_at file index)) (repeat_checks file (segment_at file index)) passes

      pub rows_fail : {X Y : Type 0} (Is : X → Type 0) (Was : Y → Type 0) (fault : Fault) → ReadsAfter (repeat_checks file (segment_at file index)) Is (Err fault) → ReadsAfter (image_entry_checks file) Was (Err fault)
      rows_fail Is Was (Refused refusal) reads = λ other. behind ∙ reads other
      rows_fail Is Was (Source fault at) reads = tt

      pub rows_found : (rows : ImageRows) (address : ℕ) → first_refusal (repeat_checks file (segment_at file index)) ≡ None → AreImageRows file (segment_at file index) rows
          → address ≡ p_vaddr file (segment_at file index) → (first_refusal (image_entry_checks file) ≡ None) × AreRowsAt file (rows, address)
      rows_found rows address none are is =
          let here = header_at index some in
          (behind ∙ none, record { rows = subst (λ (at : ℕ). AreImageRows file at rows) (sym here) are; address = is ∙ ap (p_vaddr file) (sym here) })

  pub rows_without : (rows : ImageRows) → dynamic_segment_index file ≡ None → rows.count ≡ 0 → ((tag : ℕ) → row_in (found_rows rows) tag ≡ None)
      → (first_refusal (image_entry_checks file) ≡ None) × AreRowsAt file (rows, 0)
  rows_without rows none count empty =
      let here = no_header none in
      let passes : first_refusal (image_entry_checks file) ≡ None = ap first_refusal (no_entry_checks none) in
      (passes, record { rows = subst (λ (at : ℕ). AreImageRows file at rows) (sym here) (empty_rows rows count empty); address = sym (ap (p_vaddr file) here ∙ no_address) })

-- VALUES of entries, as traits have them
value_of_entry : (file : List ℕ) (at n tag : ℕ) → dynamic_value file at n tag ≡ option_map (λ (e : DynEntry). e.value) (tagged_entry file at n tag)
unfolding dynamic_value tagged_entry
value_of_entry file at zero tag = refl
value_of_entry file at (suc n) tag = go (value_of_entry file (at + 16) n tag) (d_tag file at == tag) refl
  where
    go : dynamic_value file (at + 16) n tag ≡ option_map (λ (e : DynEntry). e.value) (tagged_entry file (at + 16) n tag)
        → (b : Bool) → (d_tag file at == tag) ≡ b → dynamic_value file at (suc n) tag ≡ option_map (λ (e : DynEntry). e.value) (tagged_entry file at (suc n) tag)
    go rest true t = rw (t, dynamic_value, tagged_entry) refl
    go rest false t = rw (t, dynamic_value, tagged_entry) rest

trait_none : (file : List ℕ) (tag : ℕ) → dynamic_segment_index file ≡ None → dynamic_entry_value file tag ≡ None
unfolding dynamic_entry_value
trait_none file tag none = rw (none, dynamic_entry_value) refl

trait_listed : (file : List ℕ) (tag index : ℕ) → dynamic_segment_index file ≡ Some index
    → dynamic_entry_value file tag ≡ listed_value file (p_offset file (segment_at file index)) (p_filesz file (segment_at file index) / 16) tag
unfolding dynamic_entry_value
trait_listed file tag index some = rw (some, dynamic_entry_value) refl

pub trait_value : (file : List ℕ) (tag : ℕ) → dynamic_entry_value file tag ≡ option_map (d_un file) (tagged_row file (entries_header file) tag)
trait_value file tag = go (dynamic_segment_index file) refl
  where
    values : (row : Option ℕ) → option_map (λ (e : DynEntry). e.value) (option_map (dynamic_entry_at file) row) ≡ option_map (d_un file) row
    values None = refl
    values (Some row) = refl

    by_header : (at : ℕ) → entries_header file ≡ at → option_map (d_un file) (tagged_row file at tag) ≡ option_map (d_un file) (tagged_row file (entries_header file) tag)
    by_header at here = ap (λ (place : ℕ). option_map (d_un file) (tagged_row file place tag)) (sym here)

    go : (index : Option ℕ) → dynamic_segment_index file ≡ index → dynamic_entry_value file tag ≡ option_map (d_un file) (tagged_row file (entries_header file) tag)
    go None none = trait_none file tag none ∙ (sym (ap (option_map (d_un file)) (no_row file tag)) ∙ by_header (length file) (no_header file none))
    go (Some index) some =
        let at = segment_at file index in
        let table : TableRange = record { at = p_offset file at; count = p_filesz file at / 16; entry = 16 } in
        trait_listed file tag index some
        ∙ (value_of_entry file (p_offset file at) (dynamic_count file (p_offset file at) (p_filesz file at / 16)) tag
        ∙ (ap (option_map (λ (e : DynEntry). e.value)) (listed_is file tag at table refl refl) ∙ (values (tagged_row file at tag) ∙ by_header at (header_at file index some))))

-- SEGMENTS with the first byte of a table
table_at : (file : List ℕ) (segment address : ℕ) (holder : Option ℕ) → holder_of file address 1 ≡ holder → has_table file segment address ≡ is_holder holder segment
table_at file segment address None is = rw (is, has_table) refl
table_at file segment address (Some index) is = rw (is, has_table) refl

pub holder_is : (file : List ℕ) (segment address : ℕ) (holder : Option ℕ) → holder ≡ holder_of file address 1 → is_holder holder segment ≡ list_any (has_table file segment) (address ∷ [])
holder_is file segment address holder is = or_none (is_holder holder segment) ∙ ap (λ (b : Bool). b || false) (sym (table_at file segment address holder (sym is)))
  where
    or_none : (b : Bool) → b ≡ (b || false)
    or_none true = refl
    or_none false = refl

pub among_is : (file : List ℕ) (at segment : ℕ) (tables : TableSegments) → is_holder tables.compact segment ≡ list_any (has_table file segment) (loaded_addresses (relative_table file at))
    → is_holder tables.addends segment ≡ list_any (has_table file segment) (loaded_addresses (rela_table file at))
    → is_holder tables.calls segment ≡ list_any (has_table file segment) (loaded_addresses (linkage_table file at))
    → is_holder tables.symbols segment ≡ list_any (has_table file segment) (symbol_addresses file at)
    → is_table_holder tables segment ≡ list_any (has_table file segment) (read_addresses file at)
unfolding read_addresses
among_is file at segment tables compact addends calls symbols =
    let p = has_table file segment in
    let a = loaded_addresses (relative_table file at) in
    let b = loaded_addresses (rela_table file at) in
    let k = loaded_addresses (linkage_table file at) in
    let s = symbol_addresses file at in
    rw (compact, addends, calls, symbols)
    (or_right (list_any p a) (list_any p b) (list_any p k) (list_any p s)
    ∙ sym (list_any-append p ((a ++ b) ++ k) s ∙ ap (λ (x : Bool). x || list_any p s) (list_any-append p (a ++ b) k ∙ ap (λ (x : Bool). x || list_any p k) (list_any-append p a b))))
  where
    or_right : (a b c d : Bool) → (a || (b || (c || d))) ≡ (((a || b) || c) || d)
    or_right true b c d = refl
    or_right false true c d = refl
    or_right false false true d = refl
    or_right false false false d = refl

-- TEXT RELOCATIONS, by the entries
pub text_by : (file : List ℕ) (rows : ImageRows) → AreImageRows file (entries_header file) rows
    → has_text_relocations file ≡ (is_some rows.text || has_bits (unwrap_or (option_map (λ (e : DynEntry). e.value) rows.flags) 0) 4)
unfolding has_text_relocations
text_by file rows are =
    let at = entries_header file in
    let text = ap is_some (trait_value file 22) ∙ (same_some (tagged_row file at 22) ∙ sym (ap is_some (text_entry file at rows are))) in
    let flags = ap (λ (v : Option ℕ). unwrap_or v 0) (trait_value file 30)
    ∙ (same_value (tagged_row file at 30) ∙ sym (ap (λ (e : Option DynEntry). unwrap_or (option_map (λ (d : DynEntry). d.value) e) 0) (flags_entry file at rows are))) in
    rw (text, flags) refl
  where
    same_some : (row : Option ℕ) → is_some (option_map (d_un file) row) ≡ is_some (option_map (dynamic_entry_at file) row)
    same_some None = refl
    same_some (Some row) = refl

    same_value : (row : Option ℕ) → unwrap_or (option_map (d_un file) row) 0 ≡ unwrap_or (option_map (λ (d : DynEntry). d.value) (option_map (dynamic_entry_at file) row)) 0
    same_value None = refl
    same_value (Some row) = refl

-- words and entries of tables that are there
pub words_are : (loaded : Option LoadedTable) (mapped : MappedTable) → IsMapped loaded 8 mapped → AreRelrWords loaded mapped.rows
words_are None mapped is = is
words_are (Some loaded) mapped is = is.1

pub has_tables : (rela linkage : Option LoadedTable) → 0 < row_count rela + row_count linkage → (is_some rela || is_some linkage) ≡ true
has_tables None None some = absurd (omega (arith, some))
has_tables None (Some calls) some = refl
has_tables (Some entries) linkage some = refl

-- a call that reads, and then one that only checks
pub reads_check : {X : Type 0} {a b : CountedState} {n : ℕ} (result : Result X Fault) → IfErr result IsOfCheck → CallReads a b None n → CallReads a b (fault_of_result result) n
reads_check (Ok x) check p = p
reads_check (Err fault) check p = (CallDid-stop {P = λ file. Unit {0}} fault check (record { costs = p; known = λ file held. tt })).costs

-- ALL CHANGES of a file are those by the header of its entries, also without entries
module _ (whole file : List ℕ) (items : ItemValues) where
  abbrev by_entries : (at : ℕ) → ImageSource
  by_entries at = record { whole = whole; file = file; at = at; items = items }

  no_changes : relocation_changes (by_entries (length file)) ≡ []
  unfolding relocation_changes relative_changes direct_changes resolved_changes entry_ranges
  no_changes = rw (no_loaded file table.Relr, no_loaded file table.Rela, no_loaded file table.Jmprel, relocation_changes) refl

  without_entries : dynamic_segment_index file ≡ None → image_changes whole file items ≡ []
  unfolding image_changes
  without_entries none = rw (none, image_changes) refl

  changes_at : (index : ℕ) → dynamic_segment_index file ≡ Some index → image_changes whole file items ≡ relocation_changes (by_entries (segment_at file index))
  unfolding image_changes
  changes_at index some = rw (some, image_changes) refl

  pub changes_are : image_changes whole file items ≡ relocation_changes (by_entries (entries_header file))
  changes_are = go (dynamic_segment_index file) refl
    where
      go : (index : Option ℕ) → dynamic_segment_index file ≡ index → image_changes whole file items ≡ relocation_changes (by_entries (entries_header file))
      go None none = without_entries none ∙ sym (ap (λ (at : ℕ). relocation_changes (by_entries at)) (no_header file none) ∙ no_changes)
      go (Some index) some = changes_at index some ∙ sym (ap (λ (at : ℕ). relocation_changes (by_entries at)) (header_at file index some))
