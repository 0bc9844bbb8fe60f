-- The tables of relocations, and the symbols, that dynamic entries locate.
use Rattle.std.proofs.Common.{◌≡◌, ◌≢◌, ℕ, ◌/◌, ◌%◌, ◌==◌, ◌||◌, not, Bool, true, false, List, [], ◌∷◌, ◌++◌, Option, None, Some, Result, Ok, Err, refl, sym, ap, subst, ◌∙◌}
use Rattle.std.proofs.lemmas.Bool.{ne_eqb, eq-eqb}
use Rattle.std.specs.Prelude.{is_none, option_map}
use Rattle.elf_model.specs.Prelude.{Check, DT_STRSZ, DT_STRTAB, DT_SYMTAB, LocatedSymbols, LocatedTable as IsLocated, SYMBOL_SIZE, d_un, first_refusal, form_by, form_size, located_symbols, located_table, mapped_bytes, mapped_checks, mapped_place, refuse, rest_checks, rest_place, rest_size, symbols_by, symbols_mapped, table_by, table_mapped, table_of_rows, tagged_row, tags_of}
use Rattle.elf_model.specs.declared.causes.Cause.TheVariants.{EntrySize, SizeNotWhole, Unmapped}
use Rattle.elf_model.specs.declared.causes.Refusal.{Refusal}
use Rattle.elf_model.specs.declared.relocation_tables.RelocationForm.{RelocationForm}
use Rattle.elf_model.specs.declared.relocation_tables.RelocationTable.{RelocationTable}
use Rattle.elf_model.proofs.CheckSteps.{first_refusal-none, first_refusal-some}
use Rattle.elf_table.specs.Prelude.{RefusedBy, StringTableRange, TableRange, symbols_linked, rest_mapped, strings, strings_in, strings_mapped}
use Rattle.elf_table.specs.declared.fault.Fault.{Fault}
use Rattle.elf_table.specs.declared.fault.Fault.TheVariants.{Refused, Source}
use Rattle.elf_hash.specs.Prelude.{AreTableEntries, AreTaggedEntries, FindsSymbols, IsEntryOf, TellSymbols, dynamic_entry_at, located_by}
use Rattle.elf_hash.specs.declared.dyn_entry.DynEntry.{DynEntry}
use Rattle.elf_hash.specs.declared.dyn_entry.DynamicTags.{DynamicTags}
use Rattle.elf_hash.specs.declared.relocation_tables.TableLocation.{TableLocation}
use Rattle.elf_hash.specs.declared.relocation_tables.TableEntries.{TableEntries}
use Rattle.elf_hash.proofs.SettleLaws.{checked_fails, checked_passes, passed_both, refused_back, refused_front}
use Rattle.elf_hash.proofs.SegmentLaws.{IsRest, entry_passes, entry_refused, row_none, row_some}

-- the table whose address and size two entries have
module _ (file : List ℕ) (address size : DynEntry) (form : RelocationForm) (a : IsEntryOf file address) (z : IsEntryOf file size) where
  abbrev checks_of : (v n : ℕ) → List Check
  checks_of v n = refuse (not (n % form_size form == 0)) size.at SizeNotWhole ∷ mapped_checks file v n address.at

  abbrev rows_or : (v n : ℕ) → Option Refusal → Result (Option IsLocated) Refusal
  rows_or v n (Some refusal) = Err refusal
  rows_or v n None = Ok (Some (record { form = form; place = mapped_place file v n; count = n / form_size form }))

  opened : table_mapped file address.at size.at form
      ≡ rows_or (d_un file address.at) (d_un file size.at) (first_refusal (checks_of (d_un file address.at) (d_un file size.at)))
  unfolding table_mapped
  opened = refl

  valued : table_mapped file address.at size.at form ≡ rows_or address.value size.value (first_refusal (checks_of address.value size.value))
  valued =
      opened ∙ (ap (λ (v : ℕ). rows_or v (d_un file size.at) (first_refusal (checks_of v (d_un file size.at)))) a
      ∙ ap (λ (n : ℕ). rows_or address.value n (first_refusal (checks_of address.value n))) z)

  pub part_row : (size.value % form_size form ≡ 0 → ⊥) → table_mapped file address.at size.at form ≡ Err (record { at = size.at; cause = SizeNotWhole })
  part_row h =
      let first : first_refusal (checks_of address.value size.value) ≡ Some (record { at = size.at; cause = SizeNotWhole }) = rw (ne_eqb _ 0 h) refl in
      valued ∙ ap (rows_or address.value size.value) first

  whole_rows : size.value % form_size form ≡ 0 → (r : Option Refusal) → first_refusal (mapped_checks file address.value size.value address.at) ≡ r
      → table_mapped file address.at size.at form ≡ rows_or address.value size.value r
  whole_rows h r e =
      let first : first_refusal (checks_of address.value size.value) ≡ first_refusal (mapped_checks file address.value size.value address.at) = rw h refl in
      valued ∙ ap (rows_or address.value size.value) (first ∙ e)

  pub rows_refused : size.value % form_size form ≡ 0 → (fault : Fault) → Err fault ≡ strings_mapped file address.value size.value address.at
      → Err fault ≡ located_by (table_mapped file address.at size.at form)
  rows_refused h fault m = by fault (checked_fails (mapped_checks file address.value size.value address.at) (strings (mapped_place file address.value size.value) size.value) fault m)
    where
      by : (fault : Fault) → RefusedBy (mapped_checks file address.value size.value address.at) fault → Err fault ≡ located_by (table_mapped file address.at size.at form)
      by (Refused refusal) r = sym (ap located_by (whole_rows h (Some refusal) r))
      by (Source fault at) r = absurd r

  pub rows_found : size.value % form_size form ≡ 0 → (names : StringTableRange) (table : TableRange) → Ok names ≡ strings_mapped file address.value size.value address.at
      → table ≡ record { at = names.at; count = size.value / form_size form; entry = form_size form }
      → Ok (Some (record { form = form; table = table })) ≡ located_by (table_mapped file address.at size.at form)
  rows_found h names table m is =
      let p = checked_passes (mapped_checks file address.value size.value address.at) (strings (mapped_place file address.value size.value) size.value) names m in
      let rows_at : ℕ → TableRange = λ at. record { at = at; count = size.value / form_size form; entry = form_size form } in
      let answer : TableRange → Result (Option TableLocation) Fault = λ t. Ok (Some (record { form = form; table = t })) in
      let place : names.at ≡ mapped_place file address.value size.value = sym (ap (λ (s : StringTableRange). s.at) p.1) in
      let same : table ≡ record { at = mapped_place file address.value size.value; count = size.value / form_size form; entry = form_size form } =
      is ∙ ap rows_at place in
      ap answer same
      ∙ sym (ap located_by (whole_rows h None p.0))

-- a table by its entries
module _ (file : List ℕ) (at : ℕ) (table : RelocationTable) (entries : TableEntries) (are : AreTableEntries file at table entries) where
  pub no_address : entries.address ≡ None → located_table file at table ≡ Ok None
  unfolding located_table table_by
  no_address none = rw (row_none file _ (sym none ∙ are.address)) refl

  module _ (address : DynEntry) (has_address : entries.address ≡ Some address) where
    address_here : (tagged_row file at (tags_of table).address ≡ Some address.at) × IsEntryOf file address
    address_here = row_some file _ address (sym has_address ∙ are.address)

    pub is_address : IsEntryOf file address
    is_address = address_here.1

    pub no_size : entries.size ≡ None → located_table file at table ≡ Err (record { at = address.at; cause = Unmapped })
    unfolding located_table table_by
    no_size none = rw (address_here.0, row_none file _ (sym none ∙ are.size)) refl

    module _ (size : DynEntry) (has_size : entries.size ≡ Some size) where
      size_here : (tagged_row file at (tags_of table).size ≡ Some size.at) × IsEntryOf file size
      size_here = row_some file _ size (sym has_size ∙ are.size)

      pub is_size : IsEntryOf file size
      is_size = size_here.1

      pub empty_table : size.value ≡ 0 → located_table file at table ≡ Ok None
      unfolding located_table table_by
      empty_table zero = rw (address_here.0, size_here.0, size_here.1, zero) refl

      some_rows : (size.value ≡ 0 → ⊥) → located_table file at table ≡ table_of_rows file table address.at size.at (tagged_row file at (tags_of table).row)
      unfolding located_table table_by
      some_rows some = rw (address_here.0, size_here.0, size_here.1, ne_eqb size.value 0 some) refl

      pub no_row : (size.value ≡ 0 → ⊥) → entries.row ≡ None → located_table file at table ≡ Err (record { at = address.at; cause = EntrySize })
      unfolding table_of_rows
      no_row some none = some_rows some ∙ ap (table_of_rows file table address.at size.at) (row_none file _ (sym none ∙ are.row))

      module _ (row : DynEntry) (has_row : entries.row ≡ Some row) (some : size.value ≡ 0 → ⊥) where
        row_here : (tagged_row file at (tags_of table).row ≡ Some row.at) × IsEntryOf file row
        row_here = row_some file _ row (sym has_row ∙ are.row)

        pub no_form : form_by table row.value ≡ None → located_table file at table ≡ Err (record { at = row.at; cause = EntrySize })
        unfolding table_of_rows
        no_form none =
            let opened : table_of_rows file table address.at size.at (Some row.at) ≡ Err (record { at = row.at; cause = EntrySize }) = rw (row_here.1, none, table_of_rows) refl in
            some_rows some ∙ ap (table_of_rows file table address.at size.at) row_here.0 ∙ opened

        pub of_form : (form : RelocationForm) → form_by table row.value ≡ Some form → located_table file at table ≡ table_mapped file address.at size.at form
        unfolding table_of_rows
        of_form form is =
            let opened : table_of_rows file table address.at size.at (Some row.at) ≡ table_mapped file address.at size.at form = rw (row_here.1, is, table_of_rows) refl in
            some_rows some ∙ ap (table_of_rows file table address.at size.at) row_here.0 ∙ opened

-- the symbols by three entries
none_map : (file : List ℕ) (row : Option ℕ) → is_none (option_map (dynamic_entry_at file) row) ≡ is_none row
none_map file None = refl
none_map file (Some at) = refl

one_missing : (file : List ℕ) (a b c : Option ℕ) → (is_none a || is_none b || is_none c) ≡ true → symbols_by file a b c ≡ Ok None
unfolding symbols_by
one_missing file None b c h = refl
one_missing file (Some a) None c h = refl
one_missing file (Some a) (Some b) None h = refl
one_missing file (Some a) (Some b) (Some c) h = absurd cc

both_missing : (a b c d e f : Bool) → a ≡ d → b ≡ e → c ≡ f → (a || b || c) ≡ true → (d || e || f) ≡ true
both_missing a b c d e f p q r t = rw (sym p, sym q, sym r) t

pub symbols_none : (file : List ℕ) (at : ℕ) (found : DynamicTags) → AreTaggedEntries file at found → TellSymbols found None → located_symbols file at ≡ Ok None
unfolding located_symbols
symbols_none file at found are none =
    let s = ap is_none are.symtab ∙ none_map file (tagged_row file at DT_SYMTAB) in
    let t = ap is_none are.strtab ∙ none_map file (tagged_row file at DT_STRTAB) in
    let z = ap is_none are.strsz ∙ none_map file (tagged_row file at DT_STRSZ) in
    one_missing file _ _ _ (both_missing _ _ _ _ _ _ s t z none)

module _ (file : List ℕ) (at : ℕ) (found : DynamicTags) (symtab strtab strsz : DynEntry) (are : AreTaggedEntries file at found) (told : TellSymbols found (Some (symtab, strtab, strsz))) where
  symtab_here : (tagged_row file at DT_SYMTAB ≡ Some symtab.at) × IsEntryOf file symtab
  symtab_here = row_some file _ symtab (sym told.0 ∙ are.symtab)

  strtab_here : (tagged_row file at DT_STRTAB ≡ Some strtab.at) × IsEntryOf file strtab
  strtab_here = row_some file _ strtab (sym told.1 ∙ are.strtab)

  strsz_here : (tagged_row file at DT_STRSZ ≡ Some strsz.at) × IsEntryOf file strsz
  strsz_here = row_some file _ strsz (sym told.2 ∙ are.strsz)

  abbrev checks : List Check
  checks = rest_checks file symtab.at ++ mapped_checks file strtab.value strsz.value strtab.at

  abbrev checks_of_names : (v n : ℕ) → List Check
  checks_of_names v n = rest_checks file symtab.at ++ mapped_checks file v n strtab.at

  abbrev symbols_or : (v n : ℕ) → Option Refusal → Result (Option LocatedSymbols) Refusal
  symbols_or v n (Some refusal) = Err refusal
  symbols_or v n None =
      Ok (Some (record { place = rest_place file symtab.at; count = rest_size file symtab.at / SYMBOL_SIZE; strings = mapped_bytes file v n }))

  entries_are : located_symbols file at ≡ symbols_mapped file symtab.at strtab.at strsz.at
  unfolding located_symbols symbols_by
  entries_are = rw (symtab_here.0, strtab_here.0, strsz_here.0) refl

  symbols_opened : symbols_mapped file symtab.at strtab.at strsz.at
      ≡ symbols_or (d_un file strtab.at) (d_un file strsz.at) (first_refusal (checks_of_names (d_un file strtab.at) (d_un file strsz.at)))
  unfolding symbols_mapped
  symbols_opened = refl

  symbols_are : (r : Option Refusal) → first_refusal checks ≡ r → located_symbols file at ≡ symbols_or strtab.value strsz.value r
  symbols_are r e =
      entries_are ∙ (symbols_opened
      ∙ (ap (λ (v : ℕ). symbols_or v (d_un file strsz.at) (first_refusal (checks_of_names v (d_un file strsz.at)))) strtab_here.1
      ∙ (ap (λ (n : ℕ). symbols_or strtab.value n (first_refusal (checks_of_names strtab.value n))) strsz_here.1
      ∙ ap (symbols_or strtab.value strsz.value) e)))

  refused_by : (fault : Fault) → RefusedBy checks fault → FindsSymbols file (located_symbols file at) (Err fault)
  refused_by (Refused refusal) r = symbols_are (Some refusal) r
  refused_by (Source fault offset) r = absurd r

  pub symbols_refuse : (fault : Fault) → Err fault ≡ rest_mapped file symtab.value symtab.at → FindsSymbols file (located_symbols file at) (Err fault)
  symbols_refuse fault h =
      refused_by fault (refused_front (rest_checks file symtab.at) (mapped_checks file strtab.value strsz.value strtab.at) fault (entry_refused file symtab fault symtab_here.1 h))

  module _ (table : TableRange) (h : Ok table ≡ rest_mapped file symtab.value symtab.at) where
    rest_is : (first_refusal (rest_checks file symtab.at) ≡ None) × IsRest file symtab.at table
    rest_is = entry_passes file symtab table symtab_here.1 h

    pub names_refuse : (fault : Fault) → Err fault ≡ strings_mapped file strtab.value strsz.value strtab.at → FindsSymbols file (located_symbols file at) (Err fault)
    names_refuse fault s =
        refused_by fault
        (refused_back (rest_checks file symtab.at) (mapped_checks file strtab.value strsz.value strtab.at) fault rest_is.0
        (checked_fails (mapped_checks file strtab.value strsz.value strtab.at) (strings (mapped_place file strtab.value strsz.value) strsz.value) fault s))

    pub symbols_found : (names : StringTableRange) (rows : TableRange) → Ok names ≡ strings_mapped file strtab.value strsz.value strtab.at
        → rows ≡ record { at = table.at; count = table.count / 24; entry = 24 }
        → located_symbols file at ≡ Ok (symbols_linked file (Some (rows, names)))
    symbols_found names rows s is =
        let p = checked_passes (mapped_checks file strtab.value strsz.value strtab.at) (strings (mapped_place file strtab.value strsz.value) strsz.value) names s in
        let pass = passed_both (rest_checks file symtab.at) (mapped_checks file strtab.value strsz.value strtab.at) rest_is.0 p.0 in
        let place : rest_place file symtab.at ≡ rows.at = sym (ap (λ (t : TableRange). t.at) is ∙ rest_is.1.place) in
        let count : rest_size file symtab.at / 24 ≡ rows.count = sym (ap (λ (t : TableRange). t.count) is ∙ ap (λ (n : ℕ). n / 24) rest_is.1.size) in
        let text : mapped_bytes file strtab.value strsz.value ≡ strings_in file names = ap (strings_in file) p.1 in
        symbols_are None pass ∙ rw (place, count, text) refl
