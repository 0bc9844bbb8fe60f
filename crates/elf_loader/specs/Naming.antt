-- The result of searching the name of a version index.
use Rattle.std.specs.Prelude.{ℕ, ◌≡◌, ◌+◌, ◌*◌, List, Option, None, Some, Result, Ok, Err, IfSome}
use Rattle.elf_model.specs.Prelude.{IsBudgetRefusal, NumberNameSource, VersionRecordRead, VisitedRecord, file_before, naming_of}
use Rattle.elf_source.specs.Source.{CountedState}
use Rattle.elf_table.specs.Prelude.{CallDid, CallReads, StringsInBounds, fault_of_result, strings_in}
use Rattle.elf_table.specs.declared.fault.Fault.{Fault}
use Rattle.elf_table.specs.declared.fault.Fault.TheVariants.{Refused, Source}
use Rattle.elf_note.specs.Prelude.{IsVersion}
use Rattle.elf_note.specs.declared.record.VersionRecord.{VersionRecord}
use Rattle.elf_loader.specs.declared.version_name_record.VersionNameRecord.{VersionNameRecord}

-- some records are read that do not have the index; the others are left
pub record NamedAs (records : ℕ) (all left : NumberNameSource) : Type 0 where
  pub found : all.found ≡ left.found
  pub refused : all.refused ≡ left.refused
  pub read : all.read ≡ records + left.read

-- the first that has the index is returned, with the strings of its name; or none of some has it,
-- and the others are left; or an earlier one is refused, unless a read failed
abbrev pub NamesBefore : List ℕ → CountedState → CountedState → NumberNameSource → NumberNameSource → Result (Option VersionNameRecord) Fault → Type 0
NamesBefore file before after all left (Ok (Some by)) =
    (met : VisitedRecord) × (all.found ≡ Some (strings_in file by.names, met)) × IsVersion file met by.«record» × CallReads before after None (all.read * 28)
NamesBefore file before after all left (Ok None) = (records : ℕ) × CallReads before after None (records * 28) × NamedAs records all left
NamesBefore file before after all left (Err (Refused refusal)) =
    CallReads before after (Some (Refused refusal)) (all.read * 28)
    × ((IsBudgetRefusal refusal → ⊥) → (all.found ≡ None) × (all.refused ≡ Some refusal))
NamesBefore file before after all left (Err (Source fault at)) = CallReads before after (Some (Source fault at)) (all.read * 28)

-- the effect of a call that searches the record of a version index among at most a number of
-- records: it requests these, and the statement holds of those that are read and those that are
-- left
abbrev pub NamesRecord : CountedState → CountedState → ℕ → Result (Option VersionNameRecord) Fault → ℕ → (List ℕ → (List VersionRecordRead → List VersionRecordRead → Type 0) → Type 0) → Type 0
NamesRecord before after number result most Of =
    CallDid before after (fault_of_result result) (most * 28) (λ file. Of file (λ all left. NamesBefore file before after (naming_of file number all) (naming_of file number left) result))

-- the strings of its name lie within a source of this size
abbrev pub NamedInBounds : ℕ → Option VersionNameRecord → Type 0
NamedInBounds size named = IfSome named (λ by. StringsInBounds size by.names)

-- the record of a needed file is one that is visited, or there is none
abbrev pub IsFileIf : List ℕ → Option VisitedRecord → Option VersionRecord → Type 0
IsFileIf file None None = Unit {0}
IsFileIf file (Some met) (Some given) = IsVersion file met given
IsFileIf file None (Some given) = ⊥
IsFileIf file (Some met) None = ⊥

-- the record of the needed file of a version is the one that is returned
abbrev pub HasFile : List ℕ → Option VisitedRecord → Result (Option VersionNameRecord) Fault → Type 0
HasFile file told (Ok (Some by)) = IsFileIf file told by.file
HasFile file told (Ok None) = Unit {0}
HasFile file told (Err fault) = Unit {0}

-- the same after some records; if none of these has the index, the last needed file that is visited
-- is returned before the others
abbrev pub NamesFileBehind : List ℕ → ℕ → Option VisitedRecord → (left : List VersionRecordRead) → (after : Option VersionRecord) → Result (Option VersionNameRecord) Fault → Type 0
NamesFileBehind file number told left after (Ok (Some by)) = IsFileIf file told by.file
NamesFileBehind file number told left after (Ok None) = (met : Option VisitedRecord) × IsFileIf file met after × (told ≡ file_before file number met left)
NamesFileBehind file number told left after (Err fault) = Unit {0}

abbrev pub NamesFile : List ℕ → ℕ → (all left : List VersionRecordRead) → (before after : Option VersionRecord) → Result (Option VersionNameRecord) Fault → Type 0
NamesFile file number all left before after result =
    (met : Option VisitedRecord) → IsFileIf file met before → NamesFileBehind file number (file_before file number met all) left after result
