-- The tables of symbol versions of a file.
use Rattle.std.specs.Prelude.{ℕ, ◌≡◌, ◌⊎◌, ◌++◌, false, is_some, List, Option, None, Some, Result, Ok, Err, IfOk, IfSome}
use Rattle.elf_model.specs.Prelude.{Check, DT_STRSZ, DT_STRTAB, DT_VERDEF, DT_VERNEED, DT_VERSYM, IsBudgetRefusal, VersionRecordTable as IsTableOf, checks_of_row, d_un, dynamic_segment_index, first_refusal, header_checks, load_checks, mapped_checks, version_records_at, segment_at, segment_dynamic_checks, tagged_row}
use Rattle.elf_model.specs.declared.causes.Refusal.{Refusal}
use Rattle.elf_model.specs.declared.versions.VersionKind.TheVariants.{Definition, File}
use Rattle.elf_table.specs.declared.fault.Fault.{Fault}
use Rattle.elf_table.specs.declared.fault.Fault.TheVariants.{Refused, Source}
use Rattle.elf_hash.specs.Prelude.{IsVersionRecordTable, VersionRecordsInBounds}
use Rattle.elf_hash.specs.declared.symbols.VersionRecordTable.{VersionRecordTable}
use Rattle.elf_library.specs.declared.version_tables.FileVersions.{FileVersions}

-- they lie within a source of this size
pub record FileVersionsInBounds (size : ℕ) (versions : FileVersions) : Type 0 where
  pub needs : IfOk versions.needs (λ records. IfSome records (VersionRecordsInBounds size))
  pub definitions : IfOk versions.definitions (λ records. IfSome records (VersionRecordsInBounds size))

-- the tables of a file of which none is known, for a fault
abbrev pub refused_versions : Fault → FileVersions
refused_versions fault = record { needs = Err fault; definitions = Err fault; has_versym = false }

-- those of a file without dynamic entries
abbrev pub no_file_versions : FileVersions
no_file_versions = record { needs = Ok None; definitions = Ok None; has_versym = false }

-- a table of a file is the definitions', there is none, or it is refused as they say
abbrev pub AreRecordsAt : List ℕ → Result (Option IsTableOf) Refusal → Result (Option VersionRecordTable) Fault → Type 0
AreRecordsAt file (Ok None) (Ok None) = Unit {0}
AreRecordsAt file (Ok (Some told)) (Ok (Some records)) = IsVersionRecordTable file told records
AreRecordsAt file (Err refusal) (Err fault) = fault ≡ Refused refusal
AreRecordsAt file (Ok None) (Ok (Some records)) = ⊥
AreRecordsAt file (Ok None) (Err fault) = ⊥
AreRecordsAt file (Ok (Some told)) (Ok None) = ⊥
AreRecordsAt file (Ok (Some told)) (Err fault) = ⊥
AreRecordsAt file (Err refusal) (Ok found) = ⊥

-- THE TABLES ARE THOSE that the entries of the segment at an offset locate
pub record AreVersionsAt (file : List ℕ) (at : ℕ) (versions : FileVersions) : Type 0 where
  pub needs : AreRecordsAt file (version_records_at file at DT_VERNEED File) versions.needs
  pub definitions : AreRecordsAt file (version_records_at file at DT_VERDEF Definition) versions.definitions
  pub versym : versions.has_versym ≡ is_some (tagged_row file at DT_VERSYM)

-- and those of a file
abbrev pub AreVersionsOf : List ℕ → FileVersions → Type 0
AreVersionsOf file versions = elim (dynamic_segment_index file) [ None ↦ versions ≡ no_file_versions | Some i ↦ AreVersionsAt file (segment_at file i) versions ]

-- the versions that a file needs
abbrev pub AreNeedsOf : List ℕ → Result (Option VersionRecordTable) Fault → Type 0
AreNeedsOf file result = elim (dynamic_segment_index file) [ None ↦ result ≡ Ok None | Some i ↦ AreRecordsAt file (version_records_at file (segment_at file i) DT_VERNEED File) result ]

-- the checks of the strings that the entries locate
abbrev pub version_strings_checks : List ℕ → ℕ → List Check
version_strings_checks file at =
    checks_of_row (tagged_row file at DT_STRTAB)
    (λ row. checks_of_row (tagged_row file at DT_STRSZ) (λ size_row. mapped_checks file (d_un file row) (d_un file size_row) row))

-- the tables of a file whose program headers are loaded are refused
abbrev pub RefusesInSegments : List ℕ → Refusal → Type 0
RefusesInSegments file refusal =
    (i : ℕ) × (dynamic_segment_index file ≡ Some i)
    × (first_refusal (segment_dynamic_checks file (segment_at file i) ++ version_strings_checks file (segment_at file i)) ≡ Some refusal)

-- they are the file's, or that refusal, except one for lack of budget
abbrev pub ReturnsInSegments : List ℕ → Result FileVersions Fault → Type 0
ReturnsInSegments file (Ok versions) = AreVersionsOf file versions
ReturnsInSegments file (Err (Refused refusal)) = (IsBudgetRefusal refusal → ⊥) → RefusesInSegments file refusal
ReturnsInSegments file (Err (Source fault at)) = Unit {0}

-- the same for any file, with the refusal of its headers
abbrev pub ReturnsVersions : List ℕ → (headers : ℕ) → Result FileVersions Fault → Type 0
ReturnsVersions file headers (Ok versions) = AreVersionsOf file versions
ReturnsVersions file headers (Err (Refused refusal)) =
    (IsBudgetRefusal refusal → ⊥) → (first_refusal (header_checks file ++ load_checks file headers) ≡ Some refusal) ⊎ (RefusesInSegments file refusal)
ReturnsVersions file headers (Err (Source fault at)) = Unit {0}
