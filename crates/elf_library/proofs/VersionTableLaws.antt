-- The tables of symbol versions of a file, by its dynamic entries.
use Rattle.std.proofs.Common.{◌≡◌, ◌⊎◌, inl, inr, ℕ, ◌/◌, true, List, [], ◌∷◌, ◌++◌, Option, None, Some, Result, Ok, Err, refl, sym, ap, subst, ◌∙◌}
use Rattle.std.specs.Prelude.{◌==◌, ◌||◌, is_none, is_some, nat_lt, option_map}
use Rattle.elf_model.specs.Prelude.{Check, DT_STRSZ, DT_STRTAB, DT_SYMTAB, DT_VERSYM, HashStyle, LookupTables as IsScopeOf, VersionRecordTable as IsTableOf, checks_of_row, d_un, dynamic_segment_index, e_shnum, first_refusal, has_wide_kind, hash_row, header_checks, least_size, load_checks, lookup_tables_by_segments, lookup_tables_of, mapped_bytes, mapped_checks, mapped_place, overlap_checks, p_filesz, p_offset, version_records_at, records_of_tag, refuse, rest_checks, rest_place, rest_size, rows_checks, scope_in_segment, scope_in_segments, segment_at, segment_checks, segment_dynamic_checks, segment_strings, tagged_row, without_sections}
use Rattle.elf_model.specs.declared.causes.Cause.TheVariants.{HashShape, NoHash, Unmapped}
use Rattle.elf_model.specs.declared.causes.Refusal.{Refusal}
use Rattle.elf_model.specs.declared.versions.VersionKind.{VersionKind}
use Rattle.elf_model.proofs.StyleLemmas.{view_is_its_own, view_tells_of_none}
use Rattle.elf_source.specs.Source.{CountedState, SourceState}
use Rattle.elf_model.proofs.CheckSteps.{first_refusal-back, first_refusal-none, first_refusal-some, passes_front}
use Rattle.elf_table.specs.Prelude.{ChecksThenValue, IsOfRead, RefusedBy, StoreState, StringTableRange, dynamic_table_at, rows, strings, strings_in, strings_mapped}
use Rattle.elf_table.specs.declared.fault.Fault.{Fault}
use Rattle.elf_table.specs.declared.fault.Fault.TheVariants.{Refused, Source}
use Rattle.elf_hash.specs.Prelude.{AreInFront, AreTaggedEntries, AreVersionRecordTables, LoadsSegments, dynamic_entry_at, table_if_any, version_rows}
use Rattle.elf_hash.specs.declared.dyn_entry.DynEntry.{DynEntry}
use Rattle.elf_hash.specs.declared.dyn_entry.DynamicTags.{DynamicTags}
use Rattle.elf_hash.specs.declared.symbols.VersionRecordTable.{VersionRecordTable}
use Rattle.elf_hash.proofs.SegmentLaws.{row_none, row_some}
use Rattle.elf_hash.proofs.SettleLaws.{checked_fails, checked_passes, none_refused}
use Rattle.elf_library.specs.Sought.{IsReportedAlone}
use Rattle.elf_library.specs.VersionTables.{AreNeedsOf, AreRecordsAt, AreVersionsAt, AreVersionsOf, RefusesInSegments, ReturnsInSegments, ReturnsVersions, no_file_versions, version_strings_checks}
use Rattle.elf_library.specs.declared.version_tables.FileVersions.{FileVersions}

module _ (file : List ℕ) (at : ℕ) where
  -- THE STRINGS
  abbrev pub StringsAre : Result StringTableRange Fault → Type 0
  StringsAre result = ChecksThenValue (version_strings_checks file at) (λ names. strings_in file names ≡ segment_strings file at) result

  pub strings_none : (found : DynamicTags) → AreTaggedEntries file at found → found.strtab ≡ None → StringsAre (Ok (record { at = 0; size = 0 }))
  unfolding segment_strings
  strings_none found are none =
      let row = row_none file (tagged_row file at DT_STRTAB) (sym none ∙ are.strtab) in
      (rw (row, version_strings_checks) refl, rw (row, segment_strings) refl)

  pub strings_unsized : (found : DynamicTags) (strtab : DynEntry) → AreTaggedEntries file at found → found.strtab ≡ Some strtab → found.strsz ≡ None → StringsAre (Ok (record { at = 0; size = 0 }))
  unfolding segment_strings
  strings_unsized found strtab are some none =
      let first = row_some file (tagged_row file at DT_STRTAB) strtab (sym some ∙ are.strtab) in
      let row = row_none file (tagged_row file at DT_STRSZ) (sym none ∙ are.strsz) in
      (rw (first.0, row, version_strings_checks) refl, rw (first.0, row, segment_strings) refl)

  module _ (found : DynamicTags) (strtab strsz : DynEntry) (are : AreTaggedEntries file at found) (some : found.strtab ≡ Some strtab) (sized : found.strsz ≡ Some strsz) where
    first : (tagged_row file at DT_STRTAB ≡ Some strtab.at) × (d_un file strtab.at ≡ strtab.value)
    first = row_some file (tagged_row file at DT_STRTAB) strtab (sym some ∙ are.strtab)

    second : (tagged_row file at DT_STRSZ ≡ Some strsz.at) × (d_un file strsz.at ≡ strsz.value)
    second = row_some file (tagged_row file at DT_STRSZ) strsz (sym sized ∙ are.strsz)

    checks_are : version_strings_checks file at ≡ mapped_checks file strtab.value strsz.value strtab.at
    checks_are =
        ap (λ (r : Option ℕ). checks_of_row r (λ row. checks_of_row (tagged_row file at DT_STRSZ) (λ size_row. mapped_checks file (d_un file row) (d_un file size_row) row))) first.0
        ∙ (ap (λ (r : Option ℕ). checks_of_row r (λ size_row. mapped_checks file (d_un file strtab.at) (d_un file size_row) strtab.at)) second.0
        ∙ (ap (λ (v : ℕ). mapped_checks file v (d_un file strsz.at) strtab.at) first.1 ∙ ap (λ (z : ℕ). mapped_checks file strtab.value z strtab.at) second.1))

    bytes_are : segment_strings file at ≡ mapped_bytes file strtab.value strsz.value
    unfolding segment_strings
    bytes_are =
        let opened : segment_strings file at ≡ mapped_bytes file (d_un file strtab.at) (d_un file strsz.at) = rw (first.0, second.0, segment_strings) refl in
        opened ∙ (ap (λ (v : ℕ). mapped_bytes file v (d_un file strsz.at)) first.1 ∙ ap (λ (z : ℕ). mapped_bytes file strtab.value z) second.1)

    pub strings_by : (result : Result StringTableRange Fault) → result ≡ strings_mapped file strtab.value strsz.value strtab.at → StringsAre result
    strings_by (Ok names) h =
        let p = checked_passes (mapped_checks file strtab.value strsz.value strtab.at) (strings (mapped_place file strtab.value strsz.value) strsz.value) names h in
        (ap first_refusal checks_are ∙ p.0, sym (bytes_are ∙ ap (strings_in file) p.1))
    strings_by (Err fault) h =
        subst (λ (c : List Check). RefusedBy c fault) (sym checks_are)
        (checked_fails (mapped_checks file strtab.value strsz.value strtab.at) (strings (mapped_place file strtab.value strsz.value) strsz.value) fault h)

  -- A TABLE
  module _ (tag : ℕ) (kind : VersionKind) where
    no_records : tagged_row file at tag ≡ None → version_records_at file at tag kind ≡ Ok None
    unfolding version_records_at
    no_records none = rw (none, version_records_at) refl

    refused_records : (row : ℕ) (refusal : Refusal) → tagged_row file at tag ≡ Some row → first_refusal (rest_checks file row) ≡ Some refusal → version_records_at file at tag kind ≡ Err refusal
    unfolding version_records_at
    refused_records row refusal some fails = rw (some, fails, version_records_at) refl

    abbrev told_at : ℕ → IsTableOf
    told_at row = record { kind = kind; head = row; place = rest_place file row; size = rest_size file row; strings = segment_strings file at }

    some_records : (row : ℕ) → tagged_row file at tag ≡ Some row → first_refusal (rest_checks file row) ≡ None → version_records_at file at tag kind ≡ Ok (Some (told_at row))
    unfolding version_records_at
    some_records row some passes = rw (some, passes, version_records_at) refl

    none_there : (found : Option VersionRecordTable) → AreVersionRecordTables file [] (table_if_any found ++ []) → found ≡ None
    none_there None are = refl
    none_there (Some records) are = absurd are

    one_there : (told : IsTableOf) (found : Option VersionRecordTable) → AreVersionRecordTables file (told ∷ []) (table_if_any found ++ []) → AreRecordsAt file (Ok (Some told)) (Ok found)
    one_there told None are = absurd are
    one_there told (Some records) are = are.0

    by_none : tagged_row file at tag ≡ None → (result : Result (Option VersionRecordTable) Fault)
        → ChecksThenValue (checks_of_row (tagged_row file at tag) (rest_checks file)) (AreInFront file (records_of_tag file at tag kind)) result
        → AreRecordsAt file (Ok None) result
    by_none none (Ok found) are =
        let here = are.1 [] [] tt in
        let told : AreVersionRecordTables file [] (table_if_any found ++ []) = rw (none, records_of_tag) at here in
        rw (none_there found told) tt
    by_none none (Err fault) refused = absurd (none_refused fault (rw none at refused))

    by_some : (row : ℕ) → tagged_row file at tag ≡ Some row → (result : Result (Option VersionRecordTable) Fault)
        → ChecksThenValue (checks_of_row (tagged_row file at tag) (rest_checks file)) (AreInFront file (records_of_tag file at tag kind)) result
        → AreRecordsAt file (version_records_at file at tag kind) result
    by_some row some (Ok found) are =
        let passes : first_refusal (rest_checks file row) ≡ None = rw some at are.0 in
        let here = are.1 [] [] tt in
        let told : AreVersionRecordTables file (told_at row ∷ []) (table_if_any found ++ []) = rw (some, records_of_tag) at here in
        rw (some_records row some passes) (one_there (told_at row) found told)
    by_some row some (Err (Refused refusal)) refused = rw (refused_records row refusal some (rw some at refused)) refl
    by_some row some (Err (Source fault place)) refused = absurd (refused)

    pub records_are : (result : Result (Option VersionRecordTable) Fault)
        → ChecksThenValue (checks_of_row (tagged_row file at tag) (rest_checks file)) (AreInFront file (records_of_tag file at tag kind)) result
        → AreRecordsAt file (version_records_at file at tag kind) result
    records_are result are = go (tagged_row file at tag) refl
      where
        go : (row : Option ℕ) → tagged_row file at tag ≡ row → AreRecordsAt file (version_records_at file at tag kind) result
        go None none = rw (no_records none) (by_none none result are)
        go (Some row) some = by_some row some result are

  pub versym_is : (found : DynamicTags) → AreTaggedEntries file at found → is_some found.versym ≡ is_some (tagged_row file at DT_VERSYM)
  versym_is found are = rw are.versym (go (tagged_row file at DT_VERSYM))
    where
      go : (row : Option ℕ) → is_some (option_map (dynamic_entry_at file) row) ≡ is_some row
      go None = refl
      go (Some row) = refl

-- THE SEGMENT
module _ (file : List ℕ) where
  pub versions_none : dynamic_segment_index file ≡ None → AreVersionsOf file no_file_versions
  versions_none none = rw (none, AreVersionsOf) refl

  module _ (i : ℕ) (e : dynamic_segment_index file ≡ Some i) where
    pub dynamic_stops : (fault : Fault) → Err fault ≡ dynamic_table_at file (segment_at file i) → ReturnsInSegments file (Err fault)
    dynamic_stops (Refused refusal) h = λ other.
        let at = segment_at file i in
        (i, e, first_refusal-some (segment_dynamic_checks file at) (version_strings_checks file at) refusal (checked_fails (segment_dynamic_checks file at) (rows (p_offset file at) (p_filesz file at / 16) 16) (Refused refusal) h))
    dynamic_stops (Source fault place) h = tt

    pub versions_in : first_refusal (segment_dynamic_checks file (segment_at file i)) ≡ None → (result : Result FileVersions Fault)
        → ChecksThenValue (version_strings_checks file (segment_at file i)) (AreVersionsAt file (segment_at file i)) result → ReturnsInSegments file result
    versions_in passes (Ok versions) are = rw (e, AreVersionsOf) are.1
    versions_in passes (Err (Refused refusal)) refused = λ other.
        (i, e, first_refusal-none (segment_dynamic_checks file (segment_at file i)) (version_strings_checks file (segment_at file i)) passes ∙ refused)
    versions_in passes (Err (Source fault place)) refused = tt

  pub read_stops : (fault : Fault) → IsOfRead fault → ReturnsInSegments file (Err fault)
  read_stops (Refused refusal) budget = λ other. absurd (other budget)
  read_stops (Source fault place) budget = tt

  -- THE HEADERS
  pub headers_stop : (headers : ℕ) (fault : Fault) (store : StoreState) → LoadsSegments file headers store (Err fault) → ReturnsVersions file headers (Err fault)
  headers_stop headers (Refused refusal) store loads = λ other. inl (loads other)
  headers_stop headers (Source fault place) store loads = tt

  pub versions_as : (headers : ℕ) (result : Result FileVersions Fault) → ReturnsInSegments file result → ReturnsVersions file headers result
  versions_as headers (Ok versions) are = are
  versions_as headers (Err (Refused refusal)) refuses = λ other. inr (refuses other)
  versions_as headers (Err (Source fault place)) refuses = tt

  -- A FILE WHOSE LOOKUP TABLES ARE FOUND has none of these refused
  both : (refusal : Refusal) (o : Option Refusal) → o ≡ Some refusal → o ≡ None → ⊥
  both refusal o some none = cc

  no_ok : (refusal : Refusal) (told : IsScopeOf) → Err refusal ≡ Ok told → ⊥
  no_ok refusal told e = cc

  module _ (headers : ℕ) (told : IsScopeOf) (found : lookup_tables_of file headers ≡ Ok told) (bare : e_shnum file ≡ 0) where
    loads_pass : first_refusal (header_checks file ++ load_checks file headers) ≡ None
    unfolding lookup_tables_of
    loads_pass = go (first_refusal (header_checks file ++ load_checks file headers)) refl
      where
        go : (o : Option Refusal) → first_refusal (header_checks file ++ load_checks file headers) ≡ o → first_refusal (header_checks file ++ load_checks file headers) ≡ None
        go None is = is
        go (Some refusal) is = let f : Err refusal ≡ Ok told = rw (is, lookup_tables_of) at found in absurd (cc)

    by_segments : lookup_tables_by_segments file ≡ Ok told
    unfolding lookup_tables_of
    by_segments = let zero : (e_shnum file == 0) ≡ true = rw bare refl in rw (loads_pass, zero, lookup_tables_of) at found

    in_segments : scope_in_segments file ≡ Ok told
    unfolding lookup_tables_by_segments
    in_segments = go (first_refusal (overlap_checks file)) refl
      where
        go : (o : Option Refusal) → first_refusal (overlap_checks file) ≡ o → scope_in_segments file ≡ Ok told
        go None is = rw (is, lookup_tables_by_segments) at by_segments
        go (Some refusal) is = let f : Err refusal ≡ Ok told = rw (is, lookup_tables_by_segments) at by_segments in absurd (cc)

    module _ (i : ℕ) (e : dynamic_segment_index file ≡ Some i) where
      in_segment : scope_in_segment file i (segment_at file i) ≡ Ok told
      unfolding scope_in_segments
      in_segment = rw (e, scope_in_segments) at in_segments

      dynamic_pass : first_refusal (segment_dynamic_checks file (segment_at file i)) ≡ None
      unfolding scope_in_segment
      dynamic_pass = go (first_refusal (segment_dynamic_checks file (segment_at file i))) refl
        where
          go : (o : Option Refusal) → first_refusal (segment_dynamic_checks file (segment_at file i)) ≡ o → first_refusal (segment_dynamic_checks file (segment_at file i)) ≡ None
          go None is = is
          go (Some refusal) is = let f : Err refusal ≡ Ok told = rw (is, scope_in_segment) at in_segment in absurd (cc)

      module _ (kind : HashStyle) (row : ℕ) (h : hash_row file (segment_at file i) ≡ Some (kind, row)) where
        all_pass : first_refusal (segment_checks file kind (segment_at file i) row) ≡ None
        unfolding scope_in_segment
        all_pass = go (first_refusal (segment_checks file kind (segment_at file i) row)) refl
          where
            go : (o : Option Refusal) → first_refusal (segment_checks file kind (segment_at file i) row) ≡ o → first_refusal (segment_checks file kind (segment_at file i) row) ≡ None
            go None is = is
            go (Some refusal) is = let f : Err refusal ≡ Ok told = rw (dynamic_pass, h, is, scope_in_segment) at in_segment in absurd (cc)

        abbrev shape_rows : List Check
        shape_rows = rest_checks file row ++ (refuse (nat_lt (rest_size file row) (least_size kind) || has_wide_kind file kind) row HashShape ∷ [])

        abbrev symbol_rows : List Check
        symbol_rows =
            let at = segment_at file i in
            (refuse (is_none (tagged_row file at DT_SYMTAB) || is_none (tagged_row file at DT_STRTAB) || is_none (tagged_row file at DT_STRSZ)) row Unmapped ∷ [])
            ++ checks_of_row (tagged_row file at DT_SYMTAB) (rest_checks file)

        rows_pass : first_refusal (rows_checks file (segment_at file i) row) ≡ None
        unfolding segment_checks
        rows_pass = first_refusal-back shape_rows (rows_checks file (segment_at file i) row) all_pass

        strings_pass : first_refusal (version_strings_checks file (segment_at file i)) ≡ None
        unfolding rows_checks
        strings_pass =
            first_refusal-back symbol_rows (version_strings_checks file (segment_at file i))
            (passes_front (symbol_rows ++ version_strings_checks file (segment_at file i)) (version_rows file (segment_at file i)) rows_pass)

      pub strings_found : first_refusal (version_strings_checks file (segment_at file i)) ≡ None
      unfolding scope_in_segment
      strings_found = go (hash_row file (segment_at file i)) refl
        where
          go : (o : Option (HashStyle × ℕ)) → hash_row file (segment_at file i) ≡ o → first_refusal (version_strings_checks file (segment_at file i)) ≡ None
          go None is = absurd (no_ok (record { at = 0x20; cause = NoHash }) told (rw (dynamic_pass, is, scope_in_segment) at in_segment))
          go (Some (kind, row)) is = strings_pass kind row is

    pub never_refused : (refusal : Refusal) → (first_refusal (header_checks file ++ load_checks file headers) ≡ Some refusal) ⊎ (RefusesInSegments file refusal) → ⊥
    never_refused refusal (inl loads) = both refusal _ loads loads_pass
    never_refused refusal (inr (i, e, fails)) =
        both refusal _ fails
        (first_refusal-none (segment_dynamic_checks file (segment_at file i)) (version_strings_checks file (segment_at file i)) (dynamic_pass i e) ∙ strings_found i e)

    pub never_stops : (fault : Fault) → (IsReportedAlone fault → ⊥) → ReturnsVersions file headers (Err fault) → ⊥
    never_stops (Refused refusal) other returns = never_refused refusal (returns other)
    never_stops (Source fault place) other returns = other tt

  -- what a file needs
  pub needs_of : (versions : FileVersions) → AreVersionsOf file versions → AreNeedsOf file versions.needs
  needs_of versions are = go (dynamic_segment_index file) refl
    where
      go : (o : Option ℕ) → dynamic_segment_index file ≡ o → AreNeedsOf file versions.needs
      go None none = let e : versions ≡ no_file_versions = rw (none, AreVersionsOf) at are in rw (none, AreNeedsOf) (ap (λ (v : FileVersions). v.needs) e)
      go (Some i) some = let a : AreVersionsAt file (segment_at file i) versions = rw (some, AreVersionsOf) at are in rw (some, AreNeedsOf) a.needs

-- A SOURCE THAT HIDES its section headers shows a file without them
pub hidden_file : (c : CountedState) → c.hides ≡ true → (file : List ℕ) → c.seen.file ≡ Some file → (e_shnum file ≡ 0) × (without_sections file ≡ file)
hidden_file c hides file held = go c.source.file refl
  where
    go : (o : Option (List ℕ)) → c.source.file ≡ o → (e_shnum file ≡ 0) × (without_sections file ≡ file)
    go None none =
        let seen : c.seen.file ≡ None = ap (λ (s : SourceState). s.file) c.is_seen ∙ rw (hides, none) refl in
        let no : None ≡ Some file = sym seen ∙ held in
        absurd (cc)
    go (Some whole) some =
        let seen : c.seen.file ≡ Some (without_sections whole) = ap (λ (s : SourceState). s.file) c.is_seen ∙ rw (hides, some) refl in
        let is : Some (without_sections whole) ≡ Some file = sym seen ∙ held in
        let same : without_sections whole ≡ file = cc in
        (subst (λ (f : List ℕ). e_shnum f ≡ 0) same (view_tells_of_none whole).1, subst (λ (f : List ℕ). without_sections f ≡ f) same (view_is_its_own whole))
