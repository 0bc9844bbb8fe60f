-- The archives that are opened in a link, and their members and entries among those of all.
use Rattle.std.specs.Prelude.{ℕ, ◌≡◌, ◌≤◌, ◌==◌, if◌then◌else◌, Bool, List, [], ◌∷◌, drop, length, take, Option, None, Some}
use Rattle.std.specs.List.{slice_get}
use Rattle.elf_archive.specs.Members.{extent_of_names}
use Rattle.elf_model.specs.LinkArchives.{LinkFiles, files_as_inputs, link_members, members_as_objects}
use Rattle.elf_model.specs.LinkInputs.{IndexSymbol}
use Rattle.elf_model.specs.LinkInputs.InputFile.{SearchedFile}
use Rattle.elf_model.specs.LinkPasses.{LinkArchive}
use Rattle.elf_resolve.specs.LinkMembers.{AreMembersOf}
use Rattle.elf_resolve.specs.Resolved.{elements_in}
use Rattle.elf_resolve.specs.declared.archives.OpenedArchive.{OpenedArchive}
use Rattle.elf_resolve.specs.declared.resolver.InputState.{InputState}
use Rattle.elf_resolve.specs.declared.resolver.InputState.TheVariants as state

-- the archive that is an input, if it is opened
abbrev pub archive_of_input : List OpenedArchive → (input : ℕ) → Option OpenedArchive
archive_of_input [] input = None
archive_of_input (archive ∷ archives) input = if archive.input == input then Some archive else archive_of_input archives input

-- no two archives are the same input
abbrev pub AreDistinctArchives : List OpenedArchive → Type 0
AreDistinctArchives [] = Unit {0}
AreDistinctArchives (archive ∷ archives) = (archive_of_input archives archive.input ≡ None) × AreDistinctArchives archives

-- what is done at an input once more is to search its archive, if it is opened
abbrev pub IsInputState : Option InputState → List OpenedArchive → (input : ℕ) → Type 0
IsInputState (Some (state.Archive index)) archives input = (archive : OpenedArchive) × (slice_get archives index ≡ Some archive) × (archive_of_input archives input ≡ Some archive)
IsInputState (Some (state.Library index)) archives input = ⊥
IsInputState _ archives input = archive_of_input archives input ≡ None

-- marks are unchanged, except those of a range
pub record SameOutside (old new : List Bool) (range : ℕ × ℕ) : Type 0 where
  pub count : length new ≡ length old
  pub before : take range.0 new ≡ take range.0 old
  pub after : drop range.1 new ≡ drop range.1 old

-- the members of an archive, among those of all, are those of a file
pub record HasMembers (file : List ℕ) (members : List ℕ) (archive : OpenedArchive) : Type 0 where
  pub ordered : archive.members.0 ≤ archive.members.1
  pub within : archive.members.1 ≤ length members
  pub are : AreMembersOf file (elements_in members archive.members) (extent_of_names archive.names)

abbrev pub archive_in : OpenedArchive → List ℕ → (headers : ℕ) → LinkArchive
archive_in archive file headers = record { input = archive.input; row = archive.row; members = members_as_objects file (link_members file).members headers }

-- AN ARCHIVE IS OPENED: its input is an archive that is searched, and its members and entries are
-- among those of all, the members from an index on
pub record IsOpenedArchive (files : LinkFiles) (members : List ℕ) (entries from : ℕ) (archive : OpenedArchive) : Type 0 where
  pub file : List ℕ
  pub count : ℕ
  pub symbols : List IndexSymbol
  pub file_is : files.file archive.input ≡ Some file
  pub input_is : files_as_inputs files archive.input ≡ SearchedFile count symbols (members_as_objects file (link_members file).members files.headers)
  pub has_members : HasMembers file members archive
  pub starts : from ≤ archive.members.0
  pub entries_ordered : archive.entries.0 ≤ archive.entries.1
  pub entries_within : archive.entries.1 ≤ entries

-- and the members of each come after those of the one before it
abbrev pub AreOpened : (files : LinkFiles) (members : List ℕ) (entries from : ℕ) → List OpenedArchive → Type 0
AreOpened files members entries from [] = from ≤ length members
AreOpened files members entries from (archive ∷ archives) = IsOpenedArchive files members entries from archive × AreOpened files members entries archive.members.1 archives
