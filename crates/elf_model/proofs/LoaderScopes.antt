-- A loader's lookup: its tables lie within the file, once their checks pass.
use Rattle.std.proofs.Common.{◌≡◌, ℕ, ◌+◌, ◌/◌, ◌<◌, ◌≤◌, ◌==◌, ◌||◌, nat_lt, not, Bool, true, false, List, [], ◌∷◌, ◌++◌, length, Option, None, Some, Ok, refl, sym, ap, ◌∙◌, arith}
use Rattle.std.proofs.Math.Nat.{div-mul-le_self}
use Rattle.std.proofs.lemmas.Bool.{ltb-false}
use Rattle.std.proofs.lemmas.Nat.{le-div}
use Rattle.std.specs.Prelude.{is_none}
use Rattle.elf_model.specs.Prelude.{Check, DT_STRSZ, DT_STRTAB, DT_SYMTAB, DT_VERDEF, DT_VERNEED, HashStyle, LookupTables, SHT_GNU_VERDEF, SHT_GNU_VERNEED, VERSYM_SIZE, VersionRecordTable, all_checks, checks_of_row, checks_of_type, d_un, dynamic_segment_index, e_shnum, first_of_type, first_refusal, has_wide_kind, hash_checks_from, hash_row, hash_section, header_checks, is_outside, least_size, load_checks, lookup_tables_by_segments, lookup_tables_of, mapped_at, mapped_checks, max_records, overlap_checks, p_filesz, p_offset, record_size, records_of_tag, records_of_type, records_with, refuse, rest_checks, rest_place, rest_size, rows_checks, scope_by_sections, scope_in_segment, scope_in_segments, section_at, section_checks, section_lookup_tables, section_words, segment_at, segment_checks, segment_dynamic_checks, segment_lookup_tables, segment_strings, segment_words, sh_link, sh_offset, sh_size, strings_of, table_checks, tagged_row, unless_empty, version_checks, version_table, words_row, words_section}
use Rattle.elf_model.specs.declared.causes.Cause.TheVariants.{BadLink, HashShape, Unmapped}
use Rattle.elf_model.specs.declared.versions.VersionKind.TheVariants.{Definition, File}
use Rattle.elf_model.specs.declared.causes.Refusal.{Refusal}
use Rattle.elf_model.specs.declared.versions.VersionKind.{VersionKind}
use Rattle.elf_model.proofs.CheckSteps.{first_refusal-back, passes_front}

-- how many records some tables have at most
unfoldable pub max_records_of : List VersionRecordTable → ℕ
max_records_of [] = 0
max_records_of (table ∷ tables) = max_records table.kind table.size + max_records_of tables

-- the hash table and the version records lie within the file
pub record IsInside (size : ℕ) (scope : LookupTables) : Type 0 where
  pub table_inside : scope.table.size ≤ size
  pub few_records : max_records_of scope.symbols.records ≤ size / 8

-- fewer bytes have fewer records
fewer : (a b each : ℕ) → 0 < each → a ≤ b → a / each ≤ b / each
fewer a b each some le = let d = div-mul-le_self a each in le-div (a / each) b each some (omega arith)

-- definitions and needs together
both_few : (size : ℕ) → size / 20 + (size / 16 + 0) ≤ size / 8
both_few size =
    let d = div-mul-le_self size 20 in
    let n = div-mul-le_self size 16 in
    le-div (size / 20 + (size / 16 + 0)) size 8 (omega arith) (omega arith)

-- By the section headers.
module _ (file : List ℕ) where
  outside_no : (at : ℕ) → is_outside (length file) (sh_offset file at) (sh_size file at) ≡ false → sh_size file at ≤ length file
  outside_no at o = let low = ltb-false (length file) (sh_offset file at + sh_size file at) o in omega arith

  hash_inside : (kind : HashStyle) (at : ℕ) (outside : Bool) → is_outside (length file) (sh_offset file at) (sh_size file at) ≡ outside
      → first_refusal (section_checks file kind at) ≡ None → sh_size file at ≤ length file
  hash_inside kind at true o e = absurd (let a = rw o at e in cc)
  hash_inside kind at false o e = outside_no at o

  records_inside : (at : ℕ) (empty outside : Bool) → (sh_size file at == 0) ≡ empty
      → is_outside (length file) (sh_offset file at) (sh_size file at) ≡ outside
      → first_refusal (all_checks version_table file at) ≡ None → sh_size file at ≤ length file
  records_inside at true outside z o e = let n : sh_size file at ≡ 0 = grind arith in omega arith
  records_inside at false true z o e = absurd (let a = rw (z, o) at e in cc)
  records_inside at false false z o e = outside_no at o

  checks_then : (type i : ℕ) (checks : ℕ → List Check) → first_of_type file type ≡ Some i → checks_of_type file type checks ≡ checks (section_at file i)
  checks_then type i checks f = rw (f, checks_of_type) refl

  type_few : (type each : ℕ) (kind : VersionKind) (others : List VersionRecordTable) → record_size kind ≡ each → 0 < each
      → (found : Option ℕ) → first_of_type file type ≡ found
      → first_refusal (checks_of_type file type (all_checks version_table file)) ≡ None
      → max_records_of (records_of_type file type kind others) ≤ length file / each + max_records_of others
  unfolding max_records_of
  type_few type each kind others size some None f e =
      let same : records_of_type file type kind others ≡ others = rw (f, records_of_type) refl in
      rw same (omega arith)
  type_few type each kind others size some (Some i) f e =
      let at = section_at file i in
      let le = records_inside at _ _ refl refl (ap first_refusal (sym (checks_then type i (all_checks version_table file) f)) ∙ e) in
      let few : sh_size file at / record_size kind ≤ length file / each = rw size (fewer (sh_size file at) (length file) each some le) in
      let table : VersionRecordTable
      = record { kind = kind; head = at; place = sh_offset file at; size = sh_size file at; strings = strings_of file at } in
      let same : records_of_type file type kind others ≡ table ∷ others = rw (f, records_of_type) refl in
      rw same (omega arith)

  -- the checks of the versym entries, then those of the records
  words_front : (at i : ℕ) → List Check
  words_front at i =
      unless_empty (sh_size file (section_at file i)) (table_checks file (section_at file i) VERSYM_SIZE)
      ++ (refuse (not (sh_link file (section_at file i) == sh_link file at)) (section_at file i) BadLink ∷ [])

  definitions_checks : List Check
  definitions_checks = checks_of_type file SHT_GNU_VERDEF (all_checks version_table file)

  needs_checks : List Check
  needs_checks = checks_of_type file SHT_GNU_VERNEED (all_checks version_table file)

  words_then : (at i : ℕ) → words_section file ≡ Some i
      → version_checks file at ≡ words_front at i ++ definitions_checks ++ needs_checks
  unfolding version_checks words_front definitions_checks needs_checks
  words_then at i f = rw (f, version_checks) refl

  words_inside : (at : ℕ) (found : Option ℕ) → words_section file ≡ found → first_refusal (version_checks file at) ≡ None
      → max_records_of
      (records_with (section_words file) (records_of_type file SHT_GNU_VERDEF Definition (records_of_type file SHT_GNU_VERNEED File [])))
      ≤ length file / 8
  unfolding section_words max_records_of definitions_checks needs_checks
  words_inside at None f e = rw (f, section_words) (omega arith)
  words_inside at (Some i) f e =
      let all : first_refusal (words_front at i ++ definitions_checks ++ needs_checks) ≡ None = ap first_refusal (sym (words_then at i f)) ∙ e in
      let front = passes_front (words_front at i ++ definitions_checks) needs_checks all in
      let definitions = type_few SHT_GNU_VERDEF 20 Definition (records_of_type file SHT_GNU_VERNEED File []) refl (omega arith) _ refl
      (first_refusal-back (words_front at i) definitions_checks front) in
      let needs = type_few SHT_GNU_VERNEED 16 File [] refl (omega arith) _ refl
      (first_refusal-back (words_front at i ++ definitions_checks) needs_checks all) in
      let both = both_few (length file) in
      rw (f, section_words) (omega arith)

  section_inside : (kind : HashStyle) (at : ℕ) → first_refusal (section_checks file kind at) ≡ None → IsInside (length file) (section_lookup_tables file kind at)
  unfolding section_lookup_tables
  section_inside kind at e = record {
    table_inside = hash_inside kind at _ refl e;
    few_records = words_inside at _ refl (first_refusal-back (hash_checks_from (least_size kind) file at) (version_checks file at) e);
  }

-- By the program headers.
module _ (file : List ℕ) where
  rest_by : (row : ℕ) (mapped : Option ℕ) → mapped_at file (d_un file row) 1 ≡ mapped → first_refusal (rest_checks file row) ≡ None
      → rest_size file row ≤ length file
  unfolding rest_checks rest_size
  rest_by row None m e = absurd (let a = rw (m, rest_checks) at e in cc)
  rest_by row (Some at) m e = go (is_outside (length file) (p_offset file at) (p_filesz file at)) refl
    where
      go : (outside : Bool) → is_outside (length file) (p_offset file at) (p_filesz file at) ≡ outside → rest_size file row ≤ length file
      go true o = absurd (let a = rw (m, o, rest_checks) at e in cc)
      go false o =
          let low = ltb-false (length file) (p_offset file at + p_filesz file at) o in
          rw (m, rest_size) (omega arith)

  rest_inside : (row : ℕ) → first_refusal (rest_checks file row) ≡ None → rest_size file row ≤ length file
  rest_inside row e = rest_by row _ refl e

  tag_few : (at tag each : ℕ) (kind : VersionKind) (others : List VersionRecordTable) → record_size kind ≡ each → 0 < each
      → (found : Option ℕ) → tagged_row file at tag ≡ found
      → first_refusal (checks_of_row (tagged_row file at tag) (rest_checks file)) ≡ None
      → max_records_of (records_of_tag file at tag kind others) ≤ length file / each + max_records_of others
  unfolding max_records_of
  tag_few at tag each kind others size some None f e =
      let same : records_of_tag file at tag kind others ≡ others = rw (f, records_of_tag) refl in
      rw same (omega arith)
  tag_few at tag each kind others size some (Some row) f e =
      let le = rest_inside row (rw f at e) in
      let few : rest_size file row / record_size kind ≤ length file / each = rw size (fewer (rest_size file row) (length file) each some le) in
      let table : VersionRecordTable
      = record { kind = kind; head = row; place = rest_place file row; size = rest_size file row; strings = segment_strings file at } in
      let same : records_of_tag file at tag kind others ≡ table ∷ others = rw (f, records_of_tag) refl in
      rw same (omega arith)

  -- the checks of the rows of the versym entries, and of those of the records; then all that come
  -- after the first check
  version_rows : (at row : ℕ) → List Check
  version_rows at row =
      rest_checks file row
      ++ checks_of_row (tagged_row file at DT_VERDEF) (rest_checks file)
      ++ checks_of_row (tagged_row file at DT_VERNEED) (rest_checks file)

  strings_row : (at : ℕ) → List Check
  strings_row at =
      checks_of_row (tagged_row file at DT_STRTAB)
      (λ row. checks_of_row (tagged_row file at DT_STRSZ) (λ size_row. mapped_checks file (d_un file row) (d_un file size_row) row))

  later_rows : (at : ℕ) → List Check
  later_rows at =
      checks_of_row (tagged_row file at DT_SYMTAB) (rest_checks file)
      ++ strings_row at
      ++ checks_of_row (words_row file at) (version_rows at)

  missing : (at : ℕ) → Bool
  missing at = is_none (tagged_row file at DT_SYMTAB) || is_none (tagged_row file at DT_STRTAB) || is_none (tagged_row file at DT_STRSZ)

  rows_are : (at table_row : ℕ) → rows_checks file at table_row ≡ refuse (missing at) table_row Unmapped ∷ later_rows at
  unfolding rows_checks later_rows missing strings_row version_rows
  rows_are at table_row = refl

  rows_later : (at table_row : ℕ) (none : Bool) → missing at ≡ none → first_refusal (rows_checks file at table_row) ≡ None → first_refusal (later_rows at) ≡ None
  rows_later at table_row true m e = let a = ap first_refusal (sym (rows_are at table_row)) ∙ e in absurd (let b = rw m at a in cc)
  rows_later at table_row false m e = let a = ap first_refusal (sym (rows_are at table_row)) ∙ e in rw m at a

  rows_then : (at row : ℕ) → words_row file at ≡ Some row → first_refusal (later_rows at) ≡ None
      → (first_refusal (checks_of_row (tagged_row file at DT_VERDEF) (rest_checks file)) ≡ None)
      × (first_refusal (checks_of_row (tagged_row file at DT_VERNEED) (rest_checks file)) ≡ None)
  unfolding later_rows version_rows
  rows_then at row f e =
      let words : first_refusal (checks_of_row (words_row file at) (version_rows at)) ≡ None
      = first_refusal-back (checks_of_row (tagged_row file at DT_SYMTAB) (rest_checks file) ++ strings_row at)
      (checks_of_row (words_row file at) (version_rows at)) e in
      let same : checks_of_row (words_row file at) (version_rows at) ≡ version_rows at row
      = ap (λ (found : Option ℕ). checks_of_row found (version_rows at)) f in
      let rows = ap first_refusal (sym same) ∙ words in
      let needs = checks_of_row (tagged_row file at DT_VERNEED) (rest_checks file) in
      let front = rest_checks file row ++ checks_of_row (tagged_row file at DT_VERDEF) (rest_checks file) in (
        first_refusal-back (rest_checks file row) (checks_of_row (tagged_row file at DT_VERDEF) (rest_checks file)) (passes_front front needs rows),
        first_refusal-back front needs rows,
      )

  rows_inside : (index at table_row : ℕ) (found : Option ℕ) → words_row file at ≡ found → first_refusal (rows_checks file at table_row) ≡ None
      → max_records_of
      (records_with (segment_words file index at)
      (records_of_tag file at DT_VERDEF Definition (records_of_tag file at DT_VERNEED File [])))
      ≤ length file / 8
  unfolding segment_words max_records_of
  rows_inside index at table_row None f e = rw (f, segment_words) (omega arith)
  rows_inside index at table_row (Some row) f e =
      let behind = rows_then at row f (rows_later at table_row _ refl e) in
      let definitions = tag_few at DT_VERDEF 20 Definition (records_of_tag file at DT_VERNEED File []) refl (omega arith) _ refl behind.0 in
      let needs = tag_few at DT_VERNEED 16 File [] refl (omega arith) _ refl behind.1 in
      let both = both_few (length file) in
      rw (f, segment_words) (omega arith)

  sized_rest : (kind : HashStyle) (table_row : ℕ) → List Check
  sized_rest kind table_row =
      rest_checks file table_row ++ (refuse (nat_lt (rest_size file table_row) (least_size kind) || has_wide_kind file kind) table_row HashShape ∷ [])

  segment_inside : (kind : HashStyle) (index at table_row : ℕ) → first_refusal (segment_checks file kind at table_row) ≡ None
      → IsInside (length file) (segment_lookup_tables file kind index at table_row)
  unfolding segment_lookup_tables segment_checks sized_rest
  segment_inside kind index at table_row e = record {
    table_inside = rest_inside table_row
        (passes_front (rest_checks file table_row) _ (passes_front (sized_rest kind table_row) (rows_checks file at table_row) e));
    few_records = rows_inside index at table_row _ refl (first_refusal-back (sized_rest kind table_row) (rows_checks file at table_row) e);
  }

-- The lookup tables.
module _ (file : List ℕ) where
  sections_by : (found : Option (HashStyle × ℕ)) → hash_section file ≡ found → (scope : LookupTables) → scope_by_sections file ≡ Ok scope
      → IsInside (length file) scope
  unfolding scope_by_sections
  sections_by None f scope e = absurd (let a = rw (f, scope_by_sections) at e in cc)
  sections_by (Some found) f scope e = go (first_refusal (section_checks file found.0 found.1)) refl
    where
      go : (refusal : Option Refusal) → first_refusal (section_checks file found.0 found.1) ≡ refusal → IsInside (length file) scope
      go (Some refusal) r = absurd (let a = rw (f, r, scope_by_sections) at e in cc)
      go None r =
          let same : Ok (section_lookup_tables file found.0 found.1) ≡ Ok scope = rw (f, r, scope_by_sections) at e in
          let is : section_lookup_tables file found.0 found.1 ≡ scope = cc in
          rw (← is) (section_inside file found.0 found.1 r)

  segment_by : (index at : ℕ) (refusal : Option Refusal) (found : Option (HashStyle × ℕ)) → first_refusal (segment_dynamic_checks file at) ≡ refusal
      → hash_row file at ≡ found → (scope : LookupTables) → scope_in_segment file index at ≡ Ok scope → IsInside (length file) scope
  unfolding scope_in_segment
  segment_by index at (Some refusal) found d f scope e = absurd (let a = rw (d, scope_in_segment) at e in cc)
  segment_by index at None None d f scope e = absurd (let a = rw (d, f, scope_in_segment) at e in cc)
  segment_by index at None (Some found) d f scope e = go (first_refusal (segment_checks file found.0 at found.1)) refl
    where
      go : (refusal : Option Refusal) → first_refusal (segment_checks file found.0 at found.1) ≡ refusal → IsInside (length file) scope
      go (Some refusal) r = absurd (let a = rw (d, f, r, scope_in_segment) at e in cc)
      go None r =
          let same : Ok (segment_lookup_tables file found.0 index at found.1) ≡ Ok scope = rw (d, f, r, scope_in_segment) at e in
          let is : segment_lookup_tables file found.0 index at found.1 ≡ scope = cc in
          rw (← is) (segment_inside file found.0 index at found.1 r)

  segments_by : (found : Option ℕ) → dynamic_segment_index file ≡ found → (scope : LookupTables) → scope_in_segments file ≡ Ok scope
      → IsInside (length file) scope
  unfolding scope_in_segments
  segments_by None f scope e = absurd (let a = rw (f, scope_in_segments) at e in cc)
  segments_by (Some index) f scope e =
      segment_by index (segment_at file index) _ _ refl refl scope (rw (f, scope_in_segments) at e)

  apart_by : (refusal : Option Refusal) → first_refusal (overlap_checks file) ≡ refusal → (scope : LookupTables) → lookup_tables_by_segments file ≡ Ok scope
      → IsInside (length file) scope
  unfolding lookup_tables_by_segments
  apart_by (Some refusal) r scope e = absurd (let a = rw (r, lookup_tables_by_segments) at e in cc)
  apart_by None r scope e = segments_by _ refl scope (rw (r, lookup_tables_by_segments) at e)

  scopes_by : (headers : ℕ) (refusal : Option Refusal) (none : Bool) → first_refusal (header_checks file ++ load_checks file headers) ≡ refusal
      → (e_shnum file == 0) ≡ none → (scope : LookupTables) → lookup_tables_of file headers ≡ Ok scope → IsInside (length file) scope
  unfolding lookup_tables_of
  scopes_by headers (Some refusal) none r n scope e = absurd (let a = rw (r, lookup_tables_of) at e in cc)
  scopes_by headers None true r n scope e = apart_by _ refl scope (rw (r, n, lookup_tables_of) at e)
  scopes_by headers None false r n scope e = sections_by _ refl scope (rw (r, n, lookup_tables_of) at e)

  pub scope_inside : (headers : ℕ) (scope : LookupTables) → lookup_tables_of file headers ≡ Ok scope → IsInside (length file) scope
  scope_inside headers scope e = scopes_by headers _ _ refl refl scope e
