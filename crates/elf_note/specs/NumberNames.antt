-- The names of version indices, found in one walk.
use Rattle.std.specs.Prelude.{ℕ, ◌≡◌, ◌<◌, Bool, true, false, List, ◌++◌, length, slice_index_or, Option, None, Some, Result, Ok, Err}
use Rattle.elf_model.specs.Prelude.{IsBudgetRefusal, VERSION_NUMBERS, Versions, VisitedRecord, name_index, named_at, named_by}
use Rattle.elf_model.specs.declared.versions.VersionKind.TheVariants.{Definition, Need}
use Rattle.elf_table.specs.declared.fault.Fault.{Fault}
use Rattle.elf_table.specs.declared.fault.Fault.TheVariants.{Refused, Source}
use Rattle.elf_note.specs.declared.version_names.VersionNameRef.{VersionNameRef}
use Rattle.elf_note.specs.declared.version_names.VersionNameRef.TheVariants.{Nowhere, Defined, Needed}

-- the location of the name of a version index; nowhere for an index past the last
abbrev pub name_at : List VersionNameRef → ℕ → VersionNameRef
name_at names number = slice_index_or names number Nowhere

-- a version index that has a name is below 1,024
abbrev pub NameFits : ℕ → VersionNameRef → Type 0
NameFits number Nowhere = Unit {0}
NameFits number (Defined index) = number < VERSION_NUMBERS
NameFits number (Needed index) = number < VERSION_NUMBERS

-- the name is that of a record, if one names the version index
abbrev pub IsNameOfRecord : List ℕ → Option VisitedRecord → VersionNameRef → Type 0
IsNameOfRecord file None Nowhere = Unit {0}
IsNameOfRecord file None (Defined index) = ⊥
IsNameOfRecord file None (Needed index) = ⊥
IsNameOfRecord file (Some met) Nowhere = ⊥
IsNameOfRecord file (Some met) (Defined index) = (met.kind ≡ Definition) × (index ≡ name_index file met)
IsNameOfRecord file (Some met) (Needed index) = (met.kind ≡ Need) × (index ≡ name_index file met)

-- a place is that of a record, if one names the version index
abbrev pub IsPlaceOfRecord : List ℕ → Option VisitedRecord → ℕ → Type 0
IsPlaceOfRecord file None place = Unit {0}
IsPlaceOfRecord file (Some met) place = place ≡ named_at file met

-- THE NAMES ARE THOSE OF SOME RECORDS: for each version index that of the first record that names
-- it; and for the first indices the places are the offsets where the file holds these names
pub record NamesNumbers (file : List ℕ) (records : List VisitedRecord) (names : List VersionNameRef) (places : List ℕ) : Type 0 where
  pub named : (number : ℕ) → IsNameOfRecord file (named_by file number records) (name_at names number)
  pub placed : (number : ℕ) → number < length places → IsPlaceOfRecord file (named_by file number records) (slice_index_or places number 0)

-- the result of a walk to the end: all records that were left were visited, and the names are those
-- of them too; or what was left is refused after some of them
abbrev pub ReadsNumberNames : List ℕ → List VisitedRecord → Versions → List VersionNameRef → List ℕ → Result (Unit {0}) Fault → Type 0
ReadsNumberNames file records left names places (Ok x) = (left.cut ≡ None) × NamesNumbers file (records ++ left.met) names places
ReadsNumberNames file records left names places (Err (Refused refusal)) = (IsBudgetRefusal refusal → ⊥) → left.cut ≡ Some refusal
ReadsNumberNames file records left names places (Err (Source fault at)) = Unit {0}

-- the name that a record gives its version index: none, unless it names a version
abbrev pub GivesName : List ℕ → VisitedRecord → Bool → VersionNameRef → Type 0
GivesName file met true name = IsNameOfRecord file (Some met) name
GivesName file met false name = name ≡ Nowhere
