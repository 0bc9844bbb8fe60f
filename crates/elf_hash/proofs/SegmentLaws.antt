-- What the dynamic entries of a segment locate, one by one.
use Rattle.std.proofs.Common.{◌≡◌, ℕ, ◌+◌, ◌-◌, ◌/◌, Bool, true, false, List, [], ◌∷◌, ◌++◌, length, Option, None, Some, Ok, Err, refl, sym, ap, subst, ◌∙◌}
use Rattle.std.specs.Prelude.{◌&&◌, is_none, is_some, not, option_map}
use Rattle.elf_model.specs.Prelude.{Check, DT_GNU_HASH, DT_HASH, DT_VERDEF, DT_VERNEED, GnuTable, SysvTable, VersionRecordTable as IsTableOf, VersymTable as IsWordsOf, checks_of_row, d_un, first_refusal, hash_row, is_outside, mapped_at, mapped_place, p_filesz, p_offset, p_vaddr, records_of_tag, refuse, rest_checks, rest_place, rest_size, segment_strings, segment_words, tagged_row, words_row}
use Rattle.elf_model.specs.declared.versions.VersionKind.TheVariants.{Definition, File}
use Rattle.elf_model.specs.declared.causes.Cause.TheVariants.{TableOutside, Unmapped}
use Rattle.elf_model.specs.declared.versions.VersionKind.{VersionKind}
use Rattle.elf_table.specs.Prelude.{ChecksThenValue, RefusedBy, TableRange, rest_mapped, rest_of, rows, strings_in}
use Rattle.elf_table.specs.declared.fault.Fault.{Fault}
use Rattle.elf_table.specs.declared.fault.Fault.TheVariants.{Refused}
use Rattle.elf_hash.specs.Prelude.{AreInFront, AreTaggedEntries, AreVersions, AreVersymTable, IsVersionRecordTable, IsVersymTable, ReturnsHash, dynamic_entry_at, rows_records, version_rows}
use Rattle.elf_hash.specs.declared.dyn_entry.DynEntry.{DynEntry}
use Rattle.elf_hash.specs.declared.dyn_entry.DynamicTags.{DynamicTags}
use Rattle.elf_hash.specs.declared.symbols.VersionRecordTable.{VersionRecordTable}
use Rattle.elf_hash.specs.declared.versions.VersionTables.{VersionTables}
use Rattle.elf_hash.specs.declared.symbols.VersymTable.{VersymTable}
use Rattle.elf_hash.specs.declared.hash_style.HashStyle.TheVariants.{Gnu, Sysv}
use Rattle.elf_hash.proofs.SettleLaws.{checked_fails, checked_passes, passed_both, refused_back, refused_front}
use Rattle.elf_hash.proofs.VersionLaws.{both_in_front, records_kept}

-- bytes are the rest of the address of an entry
pub record IsRest (file : List ℕ) (row : ℕ) (table : TableRange) : Type 0 where
  pub place : table.at ≡ rest_place file row
  pub size : table.count ≡ rest_size file row

-- an entry that is used, and its row
module _ (file : List ℕ) where
  pub row_some : (row : Option ℕ) (entry : DynEntry) → Some entry ≡ option_map (dynamic_entry_at file) row → (row ≡ Some entry.at) × (d_un file entry.at ≡ entry.value)
  row_some None entry h = absurd (cc)
  row_some (Some at) entry h =
      let is : entry ≡ dynamic_entry_at file at = cc in
      (ap Some (sym (ap (λ (e : DynEntry). e.at) is)), ap (d_un file) (ap (λ (e : DynEntry). e.at) is) ∙ sym (ap (λ (e : DynEntry). e.value) is))

  pub row_none : (row : Option ℕ) → None ≡ option_map (dynamic_entry_at file) row → row ≡ None
  row_none None h = refl
  row_none (Some at) h = absurd (cc)

  -- the rest of its address
  pub rest_passes : (row : ℕ) (table : TableRange) → Ok table ≡ rest_mapped file (d_un file row) row → (first_refusal (rest_checks file row) ≡ None) × IsRest file row table
  unfolding rest_checks rest_size
  rest_passes row table h = go (mapped_at file (d_un file row) 1) refl
    where
      go : (mapped : Option ℕ) → mapped_at file (d_un file row) 1 ≡ mapped → (first_refusal (rest_checks file row) ≡ None) × IsRest file row table
      go None m = absurd (let a = rw (m, rest_mapped) at h in cc)
      go (Some at) m =
          let a : Ok table ≡ rest_of file at (length file) at (d_un file row) = rw (m, rest_mapped) at h in
          let p = checked_passes (refuse (is_outside (length file) (p_offset file at) (p_filesz file at)) at TableOutside ∷ [])
          (rows (p_offset file at + (d_un file row - p_vaddr file at)) (p_filesz file at - (d_un file row - p_vaddr file at)) 1) table a in
          let place : rest_place file row ≡ p_offset file at + (d_un file row - p_vaddr file at) = rw (m, rest_place, mapped_place) refl in
          let size : rest_size file row ≡ p_filesz file at - (d_un file row - p_vaddr file at) = rw (m, rest_size) refl in
          let checks : rest_checks file row ≡ refuse (is_outside (length file) (p_offset file at) (p_filesz file at)) at TableOutside ∷ [] = rw (m, rest_checks) refl in
          (ap first_refusal checks ∙ p.0, record { place = sym (ap (λ (t : TableRange). t.at) p.1) ∙ sym place; size = sym (ap (λ (t : TableRange). t.count) p.1) ∙ sym size })

  pub rest_refused : (row : ℕ) (fault : Fault) → Err fault ≡ rest_mapped file (d_un file row) row → RefusedBy (rest_checks file row) fault
  unfolding rest_checks
  rest_refused row fault h = go (mapped_at file (d_un file row) 1) refl
    where
      go : (mapped : Option ℕ) → mapped_at file (d_un file row) 1 ≡ mapped → RefusedBy (rest_checks file row) fault
      go None m =
          let a : Err fault ≡ Err (Refused (record { at = row; cause = Unmapped })) = rw (m, rest_mapped) at h in
          let is : fault ≡ Refused (record { at = row; cause = Unmapped }) = cc in
          let first : first_refusal (rest_checks file row) ≡ Some (record { at = row; cause = Unmapped }) = rw (m, rest_checks) refl in
          subst (λ (f : Fault). RefusedBy (rest_checks file row) f) (sym is) first
      go (Some at) m =
          let a : Err fault ≡ rest_of file at (length file) at (d_un file row) = rw (m, rest_mapped) at h in
          let checks : rest_checks file row ≡ refuse (is_outside (length file) (p_offset file at) (p_filesz file at)) at TableOutside ∷ [] = rw (m, rest_checks) refl in
          subst (λ (c : List Check). RefusedBy c fault) (sym checks)
          (checked_fails (refuse (is_outside (length file) (p_offset file at) (p_filesz file at)) at TableOutside ∷ [])
          (rows (p_offset file at + (d_un file row - p_vaddr file at)) (p_filesz file at - (d_un file row - p_vaddr file at)) 1) fault a)

  -- by the entry's own value
  pub entry_passes : (entry : DynEntry) (table : TableRange) → d_un file entry.at ≡ entry.value → Ok table ≡ rest_mapped file entry.value entry.at
      → (first_refusal (rest_checks file entry.at) ≡ None) × IsRest file entry.at table
  entry_passes entry table value h = rest_passes entry.at table (h ∙ ap (λ (v : ℕ). rest_mapped file v entry.at) (sym value))

  pub entry_refused : (entry : DynEntry) (fault : Fault) → d_un file entry.at ≡ entry.value → Err fault ≡ rest_mapped file entry.value entry.at
      → RefusedBy (rest_checks file entry.at) fault
  entry_refused entry fault value h = rest_refused entry.at fault (h ∙ ap (λ (v : ℕ). rest_mapped file v entry.at) (sym value))

-- the entry of the hash table
module _ (file : List ℕ) (at : ℕ) where
  gnu_row : (row : ℕ) → tagged_row file at DT_GNU_HASH ≡ Some row → hash_row file at ≡ Some (GnuTable, row)
  unfolding hash_row
  gnu_row row e = rw (e, hash_row) refl

  sysv_row : (row : ℕ) → tagged_row file at DT_GNU_HASH ≡ None → tagged_row file at DT_HASH ≡ Some row → hash_row file at ≡ Some (SysvTable, row)
  unfolding hash_row
  sysv_row row none e = rw (none, e, hash_row) refl

  no_row : tagged_row file at DT_GNU_HASH ≡ None → tagged_row file at DT_HASH ≡ None → hash_row file at ≡ None
  unfolding hash_row
  no_row none e = rw (none, e, hash_row) refl

  pub tells_gnu : (found : DynamicTags) (entry : DynEntry) → AreTaggedEntries file at found → found.gnu_hash ≡ Some entry → ReturnsHash file at (Some (Gnu, entry))
  tells_gnu found entry are is = let r = row_some file _ entry (sym is ∙ are.gnu_hash) in (gnu_row entry.at r.0, r.1)

  pub tells_sysv : (found : DynamicTags) (entry : DynEntry) → AreTaggedEntries file at found → found.gnu_hash ≡ None → found.hash ≡ Some entry → ReturnsHash file at (Some (Sysv, entry))
  tells_sysv found entry are none is =
      let r = row_some file _ entry (sym is ∙ are.hash) in (sysv_row entry.at (row_none file _ (sym none ∙ are.gnu_hash)) r.0, r.1)

  pub tells_none : (found : DynamicTags) → AreTaggedEntries file at found → found.gnu_hash ≡ None → found.hash ≡ None → ReturnsHash file at None
  tells_none found are none other = no_row (row_none file _ (sym none ∙ are.gnu_hash)) (row_none file _ (sym other ∙ are.hash))

-- the records at an entry
module _ (file : List ℕ) (at tag : ℕ) (kind : VersionKind) where
  pub tag_none : (entry : Option DynEntry) → entry ≡ option_map (dynamic_entry_at file) (tagged_row file at tag) → entry ≡ None
      → ChecksThenValue (checks_of_row (tagged_row file at tag) (rest_checks file)) (AreInFront file (records_of_tag file at tag kind)) (Ok None)
  tag_none entry is none =
      let e = row_none file (tagged_row file at tag) (sym none ∙ is) in
      let same : (others : List IsTableOf) → records_of_tag file at tag kind others ≡ others = λ others. rw (e, records_of_tag) refl in
      (ap (λ (r : Option ℕ). first_refusal (checks_of_row r (rest_checks file))) e, λ others tables h. rw (same others) h)

  module _ (option : Option DynEntry) (entry : DynEntry) (is : option ≡ option_map (dynamic_entry_at file) (tagged_row file at tag)) (some : option ≡ Some entry) where
    here : (tagged_row file at tag ≡ Some entry.at) × (d_un file entry.at ≡ entry.value)
    here = row_some file (tagged_row file at tag) entry (sym some ∙ is)

    pub tag_refused : (fault : Fault) → Err fault ≡ rest_mapped file entry.value entry.at → RefusedBy (checks_of_row (tagged_row file at tag) (rest_checks file)) fault
    tag_refused fault h =
        subst (λ (r : Option ℕ). RefusedBy (checks_of_row r (rest_checks file)) fault) (sym here.0) (entry_refused file entry fault here.1 h)

    pub tag_are : (records : VersionRecordTable) → Ok records.table ≡ rest_mapped file entry.value entry.at → records.kind ≡ kind → records.head ≡ entry.at
        → strings_in file records.names ≡ segment_strings file at
        → ChecksThenValue (checks_of_row (tagged_row file at tag) (rest_checks file)) (AreInFront file (records_of_tag file at tag kind)) (Ok (Some records))
    tag_are records h same head names =
        let p = entry_passes file entry records.table here.1 h in
        let told : IsTableOf
        = record { kind = kind; head = entry.at; place = rest_place file entry.at; size = rest_size file entry.at; strings = segment_strings file at } in
        let these : (others : List IsTableOf) → records_of_tag file at tag kind others ≡ told ∷ others = λ others. rw (here.0, records_of_tag) refl in
        let is_table : IsVersionRecordTable file told records = record { kind = same; head = head; place = p.1.place; size = p.1.size; names = λ some. names } in
        (ap (λ (r : Option ℕ). first_refusal (checks_of_row r (rest_checks file))) here.0 ∙ p.0, λ others tables h. rw (these others) (is_table, h))

-- whether there is none
pub none_is : (entry : Option DynEntry) (none : Bool) → is_some entry ≡ not none → is_none entry ≡ none
none_is None true h = refl
none_is None false h = cc
none_is (Some entry) true h = cc
none_is (Some entry) false h = refl

-- the entry of the version symbol table
module _ (file : List ℕ) (at : ℕ) where
  none_map : (row : Option ℕ) → is_none (option_map (dynamic_entry_at file) row) ≡ is_none row
  none_map None = refl
  none_map (Some at) = refl

  words_by : (found : DynamicTags) (none : Bool) → AreTaggedEntries file at found → (is_none found.verdef && is_none found.verneed) ≡ none
      → (elim none as (λ _. Option DynEntry) [ true ↦ None | false ↦ found.versym ]) ≡ option_map (dynamic_entry_at file) (words_row file at)
  unfolding words_row
  words_by found none are n =
      let d = ap is_none are.verdef ∙ none_map (tagged_row file at DT_VERDEF) in
      let v = ap is_none are.verneed ∙ none_map (tagged_row file at DT_VERNEED) in
      let rows : (is_none (tagged_row file at DT_VERDEF) && is_none (tagged_row file at DT_VERNEED)) ≡ none = rw (sym d, sym v) n in
      go none rows
    where
      go : (b : Bool) → (is_none (tagged_row file at DT_VERDEF) && is_none (tagged_row file at DT_VERNEED)) ≡ b
          → (elim b as (λ _. Option DynEntry) [ true ↦ None | false ↦ found.versym ]) ≡ option_map (dynamic_entry_at file) (words_row file at)
      go true e = rw (e, words_row) refl
      go false e = rw (e, words_row) are.versym

  pub words_missing : (found : DynamicTags) → AreTaggedEntries file at found → is_none found.verdef ≡ true → is_none found.verneed ≡ true
      → None ≡ option_map (dynamic_entry_at file) (words_row file at)
  words_missing found are d n = words_by found true are (rw (d, n) refl)

  pub words_defined : (found : DynamicTags) → AreTaggedEntries file at found → is_none found.verdef ≡ false → found.versym ≡ option_map (dynamic_entry_at file) (words_row file at)
  words_defined found are d = words_by found false are (rw d refl)

  pub words_needed : (found : DynamicTags) → AreTaggedEntries file at found → is_none found.verdef ≡ true → is_none found.verneed ≡ false
      → found.versym ≡ option_map (dynamic_entry_at file) (words_row file at)
  words_needed found are d n = words_by found false are (rw (d, n) refl)

-- the version tables
module _ (file : List ℕ) (index at : ℕ) where
  abbrev definition_rows : List Check
  definition_rows = checks_of_row (tagged_row file at DT_VERDEF) (rest_checks file)

  abbrev need_rows : List Check
  need_rows = checks_of_row (tagged_row file at DT_VERNEED) (rest_checks file)

  pub rows_none : (option : Option DynEntry) (versions : VersionTables) → option ≡ option_map (dynamic_entry_at file) (words_row file at) → option ≡ None
      → versions.words ≡ None → versions.definitions ≡ None → versions.needs ≡ None
      → ChecksThenValue (version_rows file at) (AreVersions file (segment_words file index at) (rows_records file at)) (Ok versions)
  unfolding segment_words
  rows_none option versions is none w d n =
      let e = row_none file (words_row file at) (sym none ∙ is) in
      let checks : version_rows file at ≡ [] = ap (λ (r : Option ℕ). checks_of_row r (λ (row : ℕ). rest_checks file row ++ definition_rows ++ need_rows)) e in
      let words : segment_words file index at ≡ None = rw (e, segment_words) refl in
      (ap first_refusal checks, record { words = rw (words, w) tt; records = rw (words, d, n) tt })

  module _ (option : Option DynEntry) (entry : DynEntry) (is : option ≡ option_map (dynamic_entry_at file) (words_row file at)) (some : option ≡ Some entry) where
    words_here : (words_row file at ≡ Some entry.at) × (d_un file entry.at ≡ entry.value)
    words_here = row_some file (words_row file at) entry (sym some ∙ is)

    rows_are : version_rows file at ≡ rest_checks file entry.at ++ definition_rows ++ need_rows
    rows_are = ap (λ (r : Option ℕ). checks_of_row r (λ (row : ℕ). rest_checks file row ++ definition_rows ++ need_rows)) words_here.0

    pub words_rest : (rest : TableRange) → Ok rest ≡ rest_mapped file entry.value entry.at → (first_refusal (rest_checks file entry.at) ≡ None) × IsRest file entry.at rest
    words_rest rest h = entry_passes file entry rest words_here.1 h

    pub words_row_refused : (fault : Fault) → Err fault ≡ rest_mapped file entry.value entry.at → RefusedBy (version_rows file at) fault
    words_row_refused fault h =
        rw rows_are (refused_front (rest_checks file entry.at ++ definition_rows) need_rows fault
        (refused_front (rest_checks file entry.at) definition_rows fault (entry_refused file entry fault words_here.1 h)))

    pub definition_row_refused : (rest : TableRange) (fault : Fault) → Ok rest ≡ rest_mapped file entry.value entry.at → RefusedBy definition_rows fault
        → RefusedBy (version_rows file at) fault
    definition_row_refused rest fault h r =
        rw rows_are (refused_front (rest_checks file entry.at ++ definition_rows) need_rows fault
        (refused_back (rest_checks file entry.at) definition_rows fault (words_rest rest h).0 r))

    pub need_row_refused : (rest : TableRange) (fault : Fault) → Ok rest ≡ rest_mapped file entry.value entry.at → first_refusal definition_rows ≡ None → RefusedBy need_rows fault
        → RefusedBy (version_rows file at) fault
    need_row_refused rest fault h d r =
        rw rows_are (refused_back (rest_checks file entry.at ++ definition_rows) need_rows fault
        (passed_both (rest_checks file entry.at) definition_rows (words_rest rest h).0 d) r)

    pub rows_versions : (rest : TableRange) (words : VersymTable) (versions : VersionTables) → Ok rest ≡ rest_mapped file entry.value entry.at
        → words.words.at ≡ rest.at → words.words.count ≡ rest.count / 2 → words.head ≡ entry.at → words.index ≡ index → versions.words ≡ Some words
        → ChecksThenValue definition_rows (AreInFront file (records_of_tag file at DT_VERDEF Definition)) (Ok versions.definitions)
        → ChecksThenValue need_rows (AreInFront file (records_of_tag file at DT_VERNEED File)) (Ok versions.needs)
        → ChecksThenValue (version_rows file at) (AreVersions file (segment_words file index at) (rows_records file at)) (Ok versions)
    unfolding segment_words
    rows_versions rest words versions h place count head to same d n =
        let p = words_rest rest h in
        let told : IsWordsOf = record { place = rest_place file entry.at; count = rest_size file entry.at / 2; head = entry.at; index = index } in
        let these : segment_words file index at ≡ Some told = rw (words_here.0, segment_words) refl in
        let are : IsVersymTable told words
        = record { place = place ∙ p.1.place; count = count ∙ ap (λ (z : ℕ). z / 2) p.1.size; head = head; index = to } in
        let all : AreVersymTable (segment_words file index at) (Some words) = rw these are in (
          ap first_refusal rows_are
              ∙ passed_both (rest_checks file entry.at ++ definition_rows) need_rows (passed_both (rest_checks file entry.at) definition_rows p.0 d.0) n.0,
          record {
            words = rw same all;
            records = rw (records_kept (segment_words file index at) words (rows_records file at) all)
                (both_in_front file (records_of_tag file at DT_VERDEF Definition) (records_of_tag file at DT_VERNEED File) versions.definitions versions.needs d.1 n.1);
          },
        )
