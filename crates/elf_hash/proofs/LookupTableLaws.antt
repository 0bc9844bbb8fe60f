-- The tables that a lookup searches, by the dynamic entries of a segment.
use Rattle.std.proofs.Common.{◌≡◌, ◌⊎◌, inl, inr, ℕ, ◌/◌, ◌<◌, ◌≤◌, ◌||◌, nat_lt, Bool, true, false, List, [], ◌∷◌, ◌++◌, Option, None, Some, Result, Ok, Err, refl, sym, ap, subst, ◌∙◌, arith}
use Rattle.std.proofs.lemmas.Bool.Decides.{nat_tests}
use Rattle.std.specs.Prelude.{is_none, option_map}
use Rattle.elf_model.specs.Prelude.{Check, DT_STRSZ, DT_STRTAB, DT_SYMTAB, HashStyle as IsHashKind, SYMBOL_SIZE, checks_of_row, d_un, e_machine, first_refusal, has_wide_kind, hash_row, least_size, mapped_bytes, mapped_checks, mapped_place, refuse, rest_checks, rest_place, rest_size, rows_checks, segment_checks, segment_lookup_tables, segment_strings, segment_strings_at, segment_symbols, segment_words, tagged_row}
use Rattle.elf_model.specs.declared.causes.Cause.TheVariants.{HashShape, NoHash, Unmapped}
use Rattle.elf_table.specs.Prelude.{ChecksThenValue, RefusedBy, StringTableRange, TableRange, rest_mapped, strings, strings_in, strings_mapped}
use Rattle.elf_table.specs.declared.fault.Fault.{Fault}
use Rattle.elf_table.specs.declared.fault.Fault.TheVariants.{Refused, Source}
use Rattle.elf_hash.specs.Prelude.{AreRowsSymbols, AreTaggedEntries, AreVersions, FindsLookupTables, IsLookupTables, TellSymbols, dynamic_entry_at, hash_style_of, rows_records, scope_by_entries, version_rows}
use Rattle.elf_hash.specs.declared.dyn_entry.DynEntry.{DynEntry}
use Rattle.elf_hash.specs.declared.symbols.DynamicSymbols.{DynamicSymbols}
use Rattle.elf_hash.specs.declared.dyn_entry.DynamicTags.{DynamicTags}
use Rattle.elf_hash.specs.declared.lookup_tables.LookupTables.{LookupTables}
use Rattle.elf_hash.specs.declared.versions.VersionTables.{VersionTables}
use Rattle.elf_hash.proofs.SettleLaws.{checked_fails, checked_passes, passed_both, refused_back, refused_front}
use Rattle.elf_hash.proofs.SegmentLaws.{IsRest, entry_passes, entry_refused, row_some}

-- whether there is an entry
module _ (file : List ℕ) where
  none_map : (row : Option ℕ) → is_none (option_map (dynamic_entry_at file) row) ≡ is_none row
  none_map None = refl
  none_map (Some at) = refl

missing_passes : (a b c : Option ℕ) (x y z at : ℕ) → a ≡ Some x → b ≡ Some y → c ≡ Some z → first_refusal (refuse (is_none a || is_none b || is_none c) at Unmapped ∷ []) ≡ None
missing_passes a b c x y z at p q r = rw (p, q, r) refl

missing_refuses : (missing : Bool) (at : ℕ) → missing ≡ true → first_refusal (refuse missing at Unmapped ∷ []) ≡ Some (record { at = at; cause = Unmapped })
missing_refuses missing at t = rw t refl

both_missing : (a b c d e f : Bool) → a ≡ d → b ≡ e → c ≡ f → (a || b || c) ≡ true → (d || e || f) ≡ true
both_missing a b c d e f p q r t = rw (sym p, sym q, sym r) t

-- the checks of what the entries locate of the symbols
module _ (file : List ℕ) (at row : ℕ) where
  abbrev missing_rows : List Check
  missing_rows = refuse (is_none (tagged_row file at DT_SYMTAB) || is_none (tagged_row file at DT_STRTAB) || is_none (tagged_row file at DT_STRSZ)) row Unmapped ∷ []

  abbrev symbol_rows : List Check
  symbol_rows = checks_of_row (tagged_row file at DT_SYMTAB) (rest_checks file)

  abbrev string_rows : List Check
  string_rows = checks_of_row (tagged_row file at DT_STRTAB)
      (λ row. checks_of_row (tagged_row file at DT_STRSZ) (λ size_row. mapped_checks file (d_un file row) (d_un file size_row) row))

  rows_are : rows_checks file at row ≡ missing_rows ++ symbol_rows ++ string_rows ++ version_rows file at
  unfolding rows_checks
  rows_are = refl

  pub symbols_missing : (found : DynamicTags) → AreTaggedEntries file at found → TellSymbols found None → RefusedBy (rows_checks file at row) (Refused (record { at = row; cause = Unmapped }))
  symbols_missing found are none =
      let s = ap is_none are.symtab ∙ none_map file (tagged_row file at DT_SYMTAB) in
      let t = ap is_none are.strtab ∙ none_map file (tagged_row file at DT_STRTAB) in
      let z = ap is_none are.strsz ∙ none_map file (tagged_row file at DT_STRSZ) in
      let first = missing_refuses _ row (both_missing _ _ _ _ _ _ s t z none) in
      let fault = Refused (record { at = row; cause = Unmapped }) in
      rw rows_are
      (refused_front (missing_rows ++ symbol_rows ++ string_rows) (version_rows file at) fault
      (refused_front (missing_rows ++ symbol_rows) string_rows fault (refused_front missing_rows symbol_rows fault first)))

  module _ (found : DynamicTags) (symtab strtab strsz : DynEntry) (are : AreTaggedEntries file at found) (told : TellSymbols found (Some (symtab, strtab, strsz))) where
    symtab_here : (tagged_row file at DT_SYMTAB ≡ Some symtab.at) × (d_un file symtab.at ≡ symtab.value)
    symtab_here = row_some file _ symtab (sym told.0 ∙ are.symtab)

    strtab_here : (tagged_row file at DT_STRTAB ≡ Some strtab.at) × (d_un file strtab.at ≡ strtab.value)
    strtab_here = row_some file _ strtab (sym told.1 ∙ are.strtab)

    strsz_here : (tagged_row file at DT_STRSZ ≡ Some strsz.at) × (d_un file strsz.at ≡ strsz.value)
    strsz_here = row_some file _ strsz (sym told.2 ∙ are.strsz)

    present : first_refusal missing_rows ≡ None
    present = missing_passes _ _ _ _ _ _ row symtab_here.0 strtab_here.0 strsz_here.0

    symbols_are : symbol_rows ≡ rest_checks file symtab.at
    symbols_are = ap (λ (r : Option ℕ). checks_of_row r (rest_checks file)) symtab_here.0

    strings_are : string_rows ≡ mapped_checks file strtab.value strsz.value strtab.at
    strings_are =
        ap (λ (r : Option ℕ). checks_of_row r (λ row. checks_of_row (tagged_row file at DT_STRSZ) (λ size_row. mapped_checks file (d_un file row) (d_un file size_row) row))) strtab_here.0
        ∙ (ap (λ (r : Option ℕ). checks_of_row r (λ size_row. mapped_checks file (d_un file strtab.at) (d_un file size_row) strtab.at)) strsz_here.0
        ∙ (ap (λ (v : ℕ). mapped_checks file v (d_un file strsz.at) strtab.at) strtab_here.1 ∙ ap (λ (z : ℕ). mapped_checks file strtab.value z strtab.at) strsz_here.1))

    bytes_are : segment_strings file at ≡ mapped_bytes file strtab.value strsz.value
    unfolding segment_strings
    bytes_are =
        let opened : segment_strings file at ≡ mapped_bytes file (d_un file strtab.at) (d_un file strsz.at) = rw (strtab_here.0, strsz_here.0, segment_strings) refl in
        opened ∙ (ap (λ (v : ℕ). mapped_bytes file v (d_un file strsz.at)) strtab_here.1 ∙ ap (λ (z : ℕ). mapped_bytes file strtab.value z) strsz_here.1)

    begin_is : segment_strings_at file at ≡ mapped_place file strtab.value strsz.value
    unfolding segment_strings_at
    begin_is =
        let opened : segment_strings_at file at ≡ mapped_place file (d_un file strtab.at) (d_un file strsz.at) = rw (strtab_here.0, strsz_here.0, segment_strings_at) refl in
        opened ∙ (ap (λ (v : ℕ). mapped_place file v (d_un file strsz.at)) strtab_here.1 ∙ ap (λ (z : ℕ). mapped_place file strtab.value z) strsz_here.1)

    pub symbols_refuse : (fault : Fault) → Err fault ≡ rest_mapped file symtab.value symtab.at → RefusedBy (rows_checks file at row) fault
    symbols_refuse fault h =
        let here = subst (λ (c : List Check). RefusedBy c fault) (sym symbols_are) (entry_refused file symtab fault symtab_here.1 h) in
        rw rows_are
        (refused_front (missing_rows ++ symbol_rows ++ string_rows) (version_rows file at) fault
        (refused_front (missing_rows ++ symbol_rows) string_rows fault (refused_back missing_rows symbol_rows fault present here)))

    module _ (table : TableRange) (h : Ok table ≡ rest_mapped file symtab.value symtab.at) where
      rest_is : (first_refusal (rest_checks file symtab.at) ≡ None) × IsRest file symtab.at table
      rest_is = entry_passes file symtab table symtab_here.1 h

      symbols_pass : first_refusal (missing_rows ++ symbol_rows) ≡ None
      symbols_pass = passed_both missing_rows symbol_rows present (ap first_refusal symbols_are ∙ rest_is.0)

      pub strings_refuse : (fault : Fault) → Err fault ≡ strings_mapped file strtab.value strsz.value strtab.at → RefusedBy (rows_checks file at row) fault
      strings_refuse fault s =
          let refused = checked_fails (mapped_checks file strtab.value strsz.value strtab.at) (strings (mapped_place file strtab.value strsz.value) strsz.value) fault s in
          let here = subst (λ (c : List Check). RefusedBy c fault) (sym strings_are) refused in
          rw rows_are
          (refused_front (missing_rows ++ symbol_rows ++ string_rows) (version_rows file at) fault (refused_back (missing_rows ++ symbol_rows) string_rows fault symbols_pass here))

      module _ (names : StringTableRange) (s : Ok names ≡ strings_mapped file strtab.value strsz.value strtab.at) where
        names_are : (first_refusal (mapped_checks file strtab.value strsz.value strtab.at) ≡ None) × (strings (mapped_place file strtab.value strsz.value) strsz.value ≡ names)
        names_are = checked_passes (mapped_checks file strtab.value strsz.value strtab.at) (strings (mapped_place file strtab.value strsz.value) strsz.value) names s

        pub names_told : strings_in file names ≡ segment_strings file at
        names_told = sym (bytes_are ∙ ap (strings_in file) names_are.1)

        strings_pass : first_refusal (missing_rows ++ symbol_rows ++ string_rows) ≡ None
        strings_pass = passed_both (missing_rows ++ symbol_rows) string_rows symbols_pass (ap first_refusal strings_are ∙ names_are.0)

        pub versions_refuse : (fault : Fault) → RefusedBy (version_rows file at) fault → RefusedBy (rows_checks file at row) fault
        versions_refuse fault r = rw rows_are (refused_back (missing_rows ++ symbol_rows ++ string_rows) (version_rows file at) fault strings_pass r)

        pub symbols_settle : (index : ℕ) (symbols : DynamicSymbols) (versions : VersionTables)
            → ChecksThenValue (version_rows file at) (AreVersions file (segment_words file index at) (rows_records file at)) (Ok versions)
            → symbols.index ≡ index → symbols.table.at ≡ table.at → symbols.table.count ≡ table.count / 24 → symbols.names ≡ names
            → symbols.words ≡ versions.words → symbols.definitions ≡ versions.definitions → symbols.needs ≡ versions.needs
            → ChecksThenValue (rows_checks file at row) (AreRowsSymbols file index at) (Ok symbols)
        unfolding segment_symbols
        symbols_settle index symbols versions v to place count same words definitions needs =
            let told_symbols : segment_symbols file at ≡ (rest_place file symtab.at, rest_size file symtab.at / SYMBOL_SIZE) = rw (symtab_here.0, segment_symbols) refl in
            let counted = count ∙ (ap (λ (z : ℕ). z / 24) rest_is.1.size ∙ sym (ap (λ (p : ℕ × ℕ). p.1) told_symbols)) in
            let placed = place ∙ (rest_is.1.place ∙ sym (ap (λ (p : ℕ × ℕ). p.0) told_symbols)) in (
              ap first_refusal rows_are ∙ passed_both (missing_rows ++ symbol_rows ++ string_rows) (version_rows file at) strings_pass v.0,
              record {
                count = counted;
                symbols = record {
                  index = to;
                  place = placed;
                  names = λ some. ap (strings_in file) same ∙ names_told;
                  names_at = λ some. ap (λ (s : StringTableRange). s.at) (same ∙ sym names_are.1) ∙ sym begin_is;
                  words = rw words v.1.words;
                  records = rw (definitions, needs) v.1.records;
                };
              },
            )

-- the checks of the hash table's entry, and after them those of the symbols
less_true : (a b : ℕ) → a < b → nat_lt a b ≡ true
less_true a b h = grind (arith, nat_tests)

less_false : (a b : ℕ) → b ≤ a → nat_lt a b ≡ false
less_false a b h = grind (arith, nat_tests)

module _ (file : List ℕ) (kind : IsHashKind) (index at : ℕ) (entry : DynEntry) (value : d_un file entry.at ≡ entry.value) where
  abbrev shape : List Check
  shape = refuse (nat_lt (rest_size file entry.at) (least_size kind) || has_wide_kind file kind) entry.at HashShape ∷ []

  all_are : segment_checks file kind at entry.at ≡ rest_checks file entry.at ++ shape ++ rows_checks file at entry.at
  unfolding segment_checks
  all_are = refl

  pub hash_refuses : (fault : Fault) → Err fault ≡ rest_mapped file entry.value entry.at → RefusedBy (segment_checks file kind at entry.at) fault
  hash_refuses fault h =
      rw all_are (refused_front (rest_checks file entry.at ++ shape) (rows_checks file at entry.at) fault (refused_front (rest_checks file entry.at) shape fault (entry_refused file entry fault value h)))

  module _ (table : TableRange) (h : Ok table ≡ rest_mapped file entry.value entry.at) where
    hash_is : (first_refusal (rest_checks file entry.at) ≡ None) × IsRest file entry.at table
    hash_is = entry_passes file entry table value h

    fails : (small wide : Bool) → nat_lt (rest_size file entry.at) (least_size kind) ≡ small → has_wide_kind file kind ≡ wide → (small ≡ true) ⊎ (wide ≡ true)
        → first_refusal shape ≡ Some (record { at = entry.at; cause = HashShape })
    fails true wide s w one = rw s refl
    fails false true s w one = rw (s, w) refl
    fails false false s w (inl e) = cc
    fails false false s w (inr e) = cc

    pub shape_refuses : (wide : Bool) → wide ≡ has_wide_kind file kind → (table.count < least_size kind) ⊎ (wide ≡ true) → RefusedBy (segment_checks file kind at entry.at) (Refused (record { at = entry.at; cause = HashShape }))
    shape_refuses wide words small =
        let fault = Refused (record { at = entry.at; cause = HashShape }) in
        let one : (nat_lt (rest_size file entry.at) (least_size kind) ≡ true) ⊎ (wide ≡ true) = elim small [
          | inl less ↦ inl (rw (sym hash_is.1.size) (less_true table.count (least_size kind) less))
          | inr is ↦ inr is
        ] in
        let first = fails _ wide refl (sym words) one in
        rw all_are (refused_front (rest_checks file entry.at ++ shape) (rows_checks file at entry.at) fault (refused_back (rest_checks file entry.at) shape fault hash_is.0 first))

    module _ (wide : Bool) (words : wide ≡ has_wide_kind file kind) (narrow : wide ≡ false) (room : least_size kind ≤ table.count) where
      shape_passes : first_refusal (rest_checks file entry.at ++ shape) ≡ None
      shape_passes =
          let less : nat_lt (rest_size file entry.at) (least_size kind) ≡ false = rw (sym hash_is.1.size) (less_false table.count (least_size kind) room) in
          let other : has_wide_kind file kind ≡ false = sym words ∙ narrow in
          let first : first_refusal shape ≡ None = rw (less, other) refl in
          passed_both (rest_checks file entry.at) shape hash_is.0 first

      pub rows_refuse : (fault : Fault) → RefusedBy (rows_checks file at entry.at) fault → RefusedBy (segment_checks file kind at entry.at) fault
      rows_refuse fault r = rw all_are (refused_back (rest_checks file entry.at ++ shape) (rows_checks file at entry.at) fault shape_passes r)

      pub scope_settles : (scope : LookupTables) → ChecksThenValue (rows_checks file at entry.at) (AreRowsSymbols file index at) (Ok scope.symbols)
          → scope.machine ≡ e_machine file → hash_style_of scope.hash.kind ≡ kind → scope.hash.head ≡ entry.at → scope.hash.at ≡ table.at → scope.hash.size ≡ table.count
          → scope.hash.symbols ≡ scope.symbols.table.count
          → ChecksThenValue (segment_checks file kind at entry.at) (IsLookupTables file (segment_lookup_tables file kind index at entry.at)) (Ok scope)
      unfolding segment_lookup_tables
      scope_settles scope s machine is_kind head place size count = (
        ap first_refusal all_are ∙ passed_both (rest_checks file entry.at ++ shape) (rows_checks file at entry.at) shape_passes s.0,
        record {
          machine = machine;
          kind = is_kind;
          head = head;
          place = place ∙ hash_is.1.place;
          size = size ∙ hash_is.1.size;
          count = count ∙ s.1.count;
          symbols = s.1.symbols;
        },
      )

-- the tables that a lookup searches, by the entry of the hash table
module _ (file : List ℕ) (index at : ℕ) where
  pub entries_none : hash_row file at ≡ None → scope_by_entries file index at ≡ Err (record { at = 0x20; cause = NoHash })
  entries_none e = rw (e, scope_by_entries) refl

  pub entries_find : (found : IsHashKind × ℕ) → hash_row file at ≡ Some found → (result : Result LookupTables Fault)
      → ChecksThenValue (segment_checks file found.0 at found.1) (IsLookupTables file (segment_lookup_tables file found.0 index at found.1)) result
      → FindsLookupTables file (scope_by_entries file index at) result
  entries_find found e (Ok scope) s = (segment_lookup_tables file found.0 index at found.1, rw (e, s.0, scope_by_entries) refl, s.1)
  entries_find found e (Err (Refused refusal)) s = λ other. rw (e, s, scope_by_entries) refl
  entries_find found e (Err (Source fault offset)) s = absurd s
