-- Which versions the objects of a program need of each other and don't find, so that a GNU loader
-- does not start it (Linux Standard Base Core, Symbol Versioning; glibc, elf/dl-version.c), and the
-- lines of these.
use Rattle.std.specs.Prelude.{ℕ, suc, ◌==◌, nat_lt, not, is_none, if◌then◌else◌, Bool, true, false, List, [], ◌∷◌, ◌++◌, length, codes, get_or, position, Option, None, Some, Result, Ok, Err}
use Rattle.std.specs.Int.RustNames.{bit_and}
use Rattle.elf_model.specs.Bindings.{whole_name}
use Rattle.elf_model.specs.Checks.{first_refusal}
use Rattle.elf_model.specs.Fields.{Field, Fields, LinePrefix, front}
use Rattle.elf_model.specs.Fields.Field.{ArgSpec, Decimal, NameOrDecimal}
use Rattle.elf_model.specs.Lines.{named_line, refusal_line}
use Rattle.elf_model.specs.Loader.{Meets, Misses, Refuses, VersionRecordRead, VersionRecordTable, readings_of}
use Rattle.elf_model.specs.LoaderScope.{dynamic_segment_index, rest_checks, rest_place, rest_size, segment_strings, tagged_row}
use Rattle.elf_model.specs.Names.{same}
use Rattle.elf_model.specs.Names.DisplayedName.{Whole}
use Rattle.elf_model.specs.Numbers.{DT_VERDEF, DT_VERNEED, DT_VERSYM}
use Rattle.elf_model.specs.Records.{segment_at, vd_hash, vna_flags, vna_hash}
use Rattle.elf_model.specs.Style.{without_sections}
use Rattle.elf_model.specs.Versions.{name_index, named_at}
use Rattle.elf_model.specs.declared.causes.Refusal.{Refusal}
use Rattle.elf_model.specs.declared.formats.Format.{Format}
use Rattle.elf_model.specs.declared.states.VersionState.{VersionState}
use Rattle.elf_model.specs.declared.states.VersionState.TheVariants as state
use Rattle.elf_model.specs.declared.versions.VersionKind.{VersionKind}
use Rattle.elf_model.specs.declared.versions.VersionKind.TheVariants.{Definition, File, Need}

-- THE OBJECTS WHOSE VERSIONS ARE COMPARED, in order: the bytes of each one's file, its index among
-- all objects of the program, and which object the entries for a needed name lead to, if any do:
-- that of an index, or the program's interpreter, which is no object
pub data Provider : Type 0 where
  NoProvider : Provider
  InterpreterAlone : Provider
  ProvidedBy : (index : ℕ) → Provider

pub record VersionedObjects : Type 0 where
  pub files : List (List ℕ)
  pub indexes : List ℕ
  pub provider : List ℕ → Provider

-- the flag of a needed version that need not be there
abbrev VER_FLG_WEAK : ℕ
VER_FLG_WEAK = 2

-- THE RECORDS of a kind that a file has at the first entry of a tag, if it has that entry. The
-- definitions are over a file that has no section headers, whose entries locate its strings
unfoldable pub version_records_at : List ℕ → (at tag : ℕ) → VersionKind → Result (Option VersionRecordTable) Refusal
version_records_at file at tag kind = elim (tagged_row file at tag) [
  | None ↦ Ok None
  | Some row ↦ elim (first_refusal (rest_checks file row)) [
    | Some refusal ↦ Err refusal
    | None ↦ Ok (Some (record { kind = kind; head = row; place = rest_place file row; size = rest_size file row; strings = segment_strings file at }))
  ]
]

-- A NEEDED VERSION: the name of the file that should have it, its own, its hash, and whether it
-- need not be there
pub record NeededVersion : Type 0 where
  pub library : List ℕ
  pub name : List ℕ
  pub hash : ℕ
  pub weak : Bool

-- what is read of them: one; or a refusal, which is the last
pub data NeededVersionRead : Type 0 where
  Needs : NeededVersion → NeededVersionRead
  NeedRefused : Refusal → NeededVersionRead

-- the versions that records need, after the name of a file
unfoldable pub needed_versions : List ℕ → (library : List ℕ) → List VersionRecordRead → List NeededVersionRead
needed_versions file library [] = []
needed_versions file library (Misses refusal ∷ others) = NeedRefused refusal ∷ []
needed_versions file library (Refuses refusal ∷ others) = NeedRefused refusal ∷ []
needed_versions file library (Meets strings met ∷ others) =
    elim (whole_name strings (name_index file met) (named_at file met)) [
      | Err refusal ↦ NeedRefused refusal ∷ []
      | Ok name ↦ elim met.kind [
        | Definition ↦ needed_versions file library others
        | File ↦ needed_versions file name others
        | Need ↦
            Needs (record {
              library = library;
              name = name;
              hash = vna_hash file met.at;
              weak = not (bit_and (vna_flags file met.at) VER_FLG_WEAK == 0);
            })
            ∷ needed_versions file library others
      ]
    ]

-- those of a file
unfoldable pub versions_needed_at : List ℕ → (at : ℕ) → List NeededVersionRead
versions_needed_at file at = elim (version_records_at file at DT_VERNEED File) [
  | Err refusal ↦ NeedRefused refusal ∷ []
  | Ok None ↦ []
  | Ok (Some table) ↦ needed_versions file [] (readings_of file table [])
]

unfoldable pub versions_needed_by_segments : List ℕ → List NeededVersionRead
versions_needed_by_segments file = elim (dynamic_segment_index file) [ None ↦ [] | Some i ↦ versions_needed_at file (segment_at file i) ]

-- THE VERSIONS THAT A FILE NEEDS: for any section headers
abbrev pub versions_needed : List ℕ → List NeededVersionRead
versions_needed file = versions_needed_by_segments (without_sections file)

-- RECORDS DEFINE A VERSION: the first of one's names is its name, and it has its hash. The names of
-- others are not read
unfoldable pub define_version : List ℕ → (name : List ℕ) → (hash : ℕ) → List VersionRecordRead → Result Bool Refusal
define_version file name hash [] = Ok false
define_version file name hash (Misses refusal ∷ others) = Err refusal
define_version file name hash (Refuses refusal ∷ others) = Err refusal
define_version file name hash (Meets strings met ∷ others) =
    elim (vd_hash file met.at == hash) [
      | false ↦ define_version file name hash others
      | true ↦ elim (same strings (name_index file met) name) [
        | Err cause ↦ Err (record { at = named_at file met; cause = cause })
        | Ok true ↦ Ok true
        | Ok false ↦ define_version file name hash others
      ]
    ]

-- the state of a version that the records of a file should define, if it is listed: it is there, or
-- it need not be; it is not; or the records have a fault before it
abbrev pub state_by_records : (weak : Bool) → Result Bool Refusal → Option VersionState
state_by_records weak (Err refusal) = Some state.Refused
state_by_records weak (Ok true) = None
state_by_records weak (Ok false) = if weak then None else Some state.NoVersion

-- of one that a file should define: it has no definitions, and no versym table either; it has no
-- definitions; or it has
unfoldable pub state_in_file : List ℕ → (at : ℕ) → NeededVersion → Option VersionState
state_in_file file at needed = elim (version_records_at file at DT_VERDEF Definition) [
  | Err refusal ↦ Some state.Refused
  | Ok None ↦ if is_none (tagged_row file at DT_VERSYM) then Some state.Bare else None
  | Ok (Some table) ↦ state_by_records needed.weak (define_version file needed.name needed.hash (readings_of file table []))
]

unfoldable pub state_by_segments : List ℕ → NeededVersion → Option VersionState
state_by_segments file needed = elim (dynamic_segment_index file) [
  | None ↦ Some state.Bare
  | Some i ↦ state_in_file file (segment_at file i) needed
]

-- the file of the object of an index, if its versions are compared
abbrev pub file_of_index : VersionedObjects → ℕ → Option (List ℕ)
file_of_index objects index = elim (position (λ other. other == index) objects.indexes) [
  | None ↦ None
  | Some place ↦ if nat_lt place (length objects.files) then Some (get_or objects.files place []) else None
]

-- THE STATE OF A NEEDED VERSION, if it is listed. That of an object which is missing or refused is
-- not: the object's own line says so
unfoldable pub state_of_needed : VersionedObjects → NeededVersion → Provider → Option VersionState
state_of_needed objects needed NoProvider = Some state.NoFile
state_of_needed objects needed InterpreterAlone = None
state_of_needed objects needed (ProvidedBy index) = elim (file_of_index objects index) [
  | None ↦ None
  | Some file ↦ state_by_segments (without_sections file) needed
]

-- WHAT IS LISTED OF AN OBJECT: a version that it needs and that is not there, with the object that
-- should have it; or the refusal of its own records, with which it ends
pub data VersionItem : Type 0 where
  VersionAbsent : (object : ℕ) → (provider : Option ℕ) → VersionState → (name : List ℕ) → VersionItem
  RecordsRefused : Refusal → VersionItem

abbrev pub index_of_provider : Provider → Option ℕ
index_of_provider NoProvider = None
index_of_provider InterpreterAlone = None
index_of_provider (ProvidedBy index) = Some index

abbrev pub item_by_state : (object : ℕ) → (provider : Option ℕ) → (name : List ℕ) → Option VersionState → List VersionItem
item_by_state object provider name None = []
item_by_state object provider name (Some found) = VersionAbsent object provider found name ∷ []

unfoldable pub version_item : VersionedObjects → (object : ℕ) → NeededVersionRead → List VersionItem
version_item objects object (NeedRefused refusal) = RecordsRefused refusal ∷ []
version_item objects object (Needs needed) =
    let provider = objects.provider needed.library in
    item_by_state object (index_of_provider provider) needed.name (state_of_needed objects needed provider)

-- of the versions that an object needs
unfoldable pub version_items_of : VersionedObjects → (object : ℕ) → List NeededVersionRead → List VersionItem
version_items_of objects object [] = []
version_items_of objects object (needed ∷ others) = version_item objects object needed ++ version_items_of objects object others

-- of the objects from a position on, by their files
unfoldable pub version_items_from : VersionedObjects → (place : ℕ) → List (List ℕ) → List VersionItem
version_items_from objects place [] = []
version_items_from objects place (file ∷ files) =
    version_items_of objects (get_or objects.indexes place 0) (versions_needed file) ++ version_items_from objects (suc place) files

-- THE NEEDED VERSIONS OF A PROGRAM'S OBJECTS that are not there
abbrev pub version_items : VersionedObjects → List VersionItem
version_items objects = version_items_from objects 0 objects.files

-- the word of a state
unfoldable pub version_state_name : VersionState → List ℕ
version_state_name state.NoFile = codes "nofile"
version_state_name state.Bare = codes "bare"
version_state_name state.NoVersion = codes "nover"
version_state_name state.Refused = codes "refused"

-- the object that should have it, by its index, or a hyphen
abbrev pub provider_field : Option ℕ → Field
provider_field None = NameOrDecimal (codes "provider") 5 (Some (codes "-")) 0
provider_field (Some index) = NameOrDecimal (codes "provider") 5 None index

abbrev pub needed_version_fields : (object : ℕ) → (provider : Option ℕ) → VersionState → Fields
needed_version_fields object provider found = record {
  letter = codes "U";
  fields = Decimal (codes "object") 5 object ∷ provider_field provider ∷ ArgSpec (codes "state") 8 (version_state_name found) ∷ [];
}

-- its line up to the name of the version
unfoldable pub needed_version_front : Format → (object : ℕ) → (provider : Option ℕ) → VersionState → LinePrefix
needed_version_front format object provider found = front format (codes "version") (needed_version_fields object provider found)

-- THE LINE OF A NEEDED VERSION that is not there
abbrev pub needed_version_line : Format → (object : ℕ) → (provider : Option ℕ) → VersionState → (name : List ℕ) → List ℕ
needed_version_line format object provider found name = named_line (needed_version_front format object provider found) (Whole name)

-- the line of an item, and those of some
abbrev pub version_item_line : Format → VersionItem → List ℕ
version_item_line format (VersionAbsent object provider found name) = needed_version_line format object provider found name
version_item_line format (RecordsRefused refusal) = refusal_line format refusal

abbrev pub version_items_text : Format → List VersionItem → List ℕ
version_items_text format [] = []
version_items_text format (item ∷ items) = version_item_line format item ++ version_items_text format items

-- any item makes the exit status 1
abbrev pub any_lacking : List VersionItem → Bool
any_lacking [] = false
any_lacking (item ∷ items) = true
