-- The tables that a lookup searches, by the dynamic entries of a segment, stage by stage.
use Rattle.std.specs.Prelude.{ℕ, ◌≡◌, ◌||◌, true, is_none, List, [], ◌++◌, Option, None, Some, Result, Ok, Err, IfOk}
use Rattle.elf_model.specs.Prelude.{Check, DT_VERDEF, DT_VERNEED, LookupTables as IsScopeOf, VersionRecordTable as IsTableOf, checks_of_row, cost_where, d_un, dynamic_segment_index, first_refusal, hash_row, p_filesz, pass, records_of_tag, records_with, rest_checks, segment_at, segment_checks, segment_dynamic_checks, segment_lookup_tables, segment_strings, segment_strings_at, segment_symbols, segment_words, tagged_row, words_row}
use Rattle.elf_model.specs.declared.versions.VersionKind.TheVariants.{Definition, File}
use Rattle.elf_model.specs.declared.causes.Cause.TheVariants.{NoHash}
use Rattle.elf_model.specs.declared.causes.Refusal.{Refusal}
use Rattle.elf_source.specs.Source.{CountedState}
use Rattle.elf_table.specs.Prelude.{CallDid, CallReads, HoldsProgramHeaders, fault_of_result}
use Rattle.elf_table.specs.declared.segment_view.ExecutionView.{ExecutionView}
use Rattle.elf_table.specs.declared.fault.Fault.{Fault}
use Rattle.elf_hash.specs.HashStyles.{hash_style_of}
use Rattle.elf_hash.specs.LookupTablesFound.{FindsLookupTables, LookupTablesInBounds}
use Rattle.elf_hash.specs.Symbols.{IsDynamicSymbols}
use Rattle.elf_hash.specs.declared.dyn_entry.DynamicTags.{DynamicTags}
use Rattle.elf_hash.specs.declared.dyn_entry.DynEntry.{DynEntry}
use Rattle.elf_hash.specs.declared.hash_style.HashStyle.{HashStyle}
use Rattle.elf_hash.specs.declared.lookup_tables.LookupTables.{LookupTables}
use Rattle.elf_hash.specs.declared.symbols.DynamicSymbols.{DynamicSymbols}

-- the entry that locates the hash table, and its style
abbrev pub ReturnsHash : List ℕ → ℕ → Option (HashStyle × DynEntry) → Type 0
ReturnsHash file at None = hash_row file at ≡ None
ReturnsHash file at (Some found) = (hash_row file at ≡ Some (hash_style_of found.0, found.1.at)) × (d_un file found.1.at ≡ found.1.value)

-- the entries that locate symbols and their strings, if none is missing
abbrev pub TellSymbols : DynamicTags → Option (DynEntry × DynEntry × DynEntry) → Type 0
TellSymbols found None = (is_none found.symtab || is_none found.strtab || is_none found.strsz) ≡ true
TellSymbols found (Some told) = (found.symtab ≡ Some told.0) × (found.strtab ≡ Some told.1) × (found.strsz ≡ Some told.2)

-- the checks of the entries that locate version tables
abbrev pub version_rows : List ℕ → ℕ → List Check
version_rows file at =
    checks_of_row (words_row file at) (λ row.
    rest_checks file row
    ++ checks_of_row (tagged_row file at DT_VERDEF) (rest_checks file)
    ++ checks_of_row (tagged_row file at DT_VERNEED) (rest_checks file))

-- the version records at the entries
abbrev pub rows_records : List ℕ → ℕ → List IsTableOf
rows_records file at = records_of_tag file at DT_VERDEF Definition (records_of_tag file at DT_VERNEED File [])

-- symbols are those at the entries
pub record AreRowsSymbols (file : List ℕ) (index at : ℕ) (found : DynamicSymbols) : Type 0 where
  pub count : found.table.count ≡ (segment_symbols file at).1
  pub symbols : IsDynamicSymbols file (record {
    index = index;
    place = (segment_symbols file at).0;
    strings = segment_strings file at;
    strings_at = segment_strings_at file at;
    words = segment_words file index at;
    records = records_with (segment_words file index at) (rows_records file at);
  }) found

-- the tables that a lookup searches, by the entries of a segment
abbrev pub scope_by_entries : List ℕ → (index at : ℕ) → Result IsScopeOf Refusal
scope_by_entries file index at = elim (hash_row file at) [
  | None ↦ Err (record { at = 0x20; cause = NoHash })
  | Some found ↦ elim (first_refusal (segment_checks file found.0 at found.1)) [
    | Some refusal ↦ Err refusal
    | None ↦ Ok (segment_lookup_tables file found.0 index at found.1)
  ]
]

-- how many bytes of dynamic entries are requested
abbrev pub entries_asked : List ℕ → ℕ
entries_asked file = elim (dynamic_segment_index file) [
  | None ↦ 0
  | Some index ↦
      let at = segment_at file index in
      cost_where (pass (segment_dynamic_checks file at)) (p_filesz file at)
]

-- THE RESULT BY THE PROGRAM HEADERS: the tables that a lookup searches, which lie within the file,
-- by no more bytes than it has; if the file is known within the bytes of the dynamic entries, and
-- as the definitions find it
pub record FindsSegments (view : ExecutionView) (told : List ℕ → Result IsScopeOf Refusal) (old new : CountedState) (result : Result LookupTables Fault) : Type 0 where
  pub did : CallDid old new (fault_of_result result) old.seen.size (λ bytes.
      HoldsProgramHeaders bytes view.loaded view.store.now → CallReads old new (fault_of_result result) (entries_asked bytes) × FindsLookupTables bytes (told bytes) result)
  pub within : IfOk result (LookupTablesInBounds view.loaded.size)
