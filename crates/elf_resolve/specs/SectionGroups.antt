-- What the sections of an object do to the keys: its groups, and the names that are identifiers.
use Rattle.std.specs.Prelude.{ℕ, ◌≡◌, ◌+◌, ◌-◌, ◌*◌, ◌/◌, ◌<◌, ◌≤◌, ◌==◌, ◌&&◌, bit_and, nat_le, nat_lt, not, if◌then◌else◌, Bool, List, [], ◌∷◌, drop, length, Option, None, Some, Result, Ok, Err}
use Rattle.elf_model.specs.Bytes.{field}
use Rattle.elf_model.specs.Checks.{first_refusal}
use Rattle.elf_model.specs.LinkArchives.{refusal_of}
use Rattle.elf_model.specs.LinkObjects.{DroppedSections, NamedSection, SectionGroup, groups_taken, sections_noted}
use Rattle.elf_model.specs.LinkSymbols.{GRP_COMDAT, GROUP_WORD_SIZE, group_checks, group_in, groups_at, groups_from, section_link_name, section_named, sections_from, signature_of, words_in}
use Rattle.elf_model.specs.Records.{e_shnum, section_at, sh_info, sh_link, sh_offset, sh_size}
use Rattle.elf_model.specs.Tables.{linked_at}
use Rattle.elf_model.specs.declared.link_states.LinkRefusal.{LinkRefusal}
use Rattle.elf_model.specs.declared.causes.Cause.TheVariants.{SymbolIndex}
use Rattle.elf_model.specs.declared.link_states.LinkCause.TheVariants as cause
use Rattle.elf_record.specs.declared.shdr.Shdr.{Shdr}
use Rattle.elf_resolve.specs.KeyTables.{KeyList}
use Rattle.elf_resolve.specs.ObjectTables.{HoldsSymbols}
use Rattle.elf_resolve.specs.SectionMarks.{MarksDropped}
use Rattle.elf_resolve.specs.StringBuffers.{HoldsText}
use Rattle.elf_resolve.specs.Taken.{IsLinkFault}
use Rattle.elf_resolve.specs.declared.link_faults.LinkFault.{LinkFault}
use Rattle.elf_resolve.specs.declared.link_faults.LinkFault.TheVariants.{Refused, Read, Open, Memory}
use Rattle.elf_resolve.specs.declared.object.SymbolRows.{SymbolRows}
use Rattle.elf_resolve.specs.declared.section_groups.Dropped.{Dropped}
use Rattle.elf_resolve.specs.declared.section_groups.Dropped.TheVariants.{Nothing, Section, Words}
use Rattle.elf_resolve.specs.declared.section_groups.GroupInFile.{GroupInFile}
use Rattle.elf_resolve.specs.declared.string_buffer.HeldText.{HeldText}
use Rattle.elf_table.specs.Relocations.{AreSymbols}
use Rattle.elf_table.specs.Tables.{StringTableRange, SymbolTableInBounds, TableRange}

-- the word of an index, if there is one, and the flag of the first one
abbrev pub group_word : List ℕ → (index : ℕ) → Option ℕ
group_word words index =
    if nat_le (GROUP_WORD_SIZE * index + GROUP_WORD_SIZE) (length words) then Some (field words (GROUP_WORD_SIZE * index) GROUP_WORD_SIZE) else None

abbrev pub is_one_kept : List ℕ → Bool
is_one_kept words = not (nat_lt (length words) GROUP_WORD_SIZE) && not (bit_and (field words 0 GROUP_WORD_SIZE) GRP_COMDAT == 0)

-- the sections in the words of a group, after the flags
abbrev pub sections_of_words : List ℕ → List ℕ
sections_of_words words = words_in (length words / GROUP_WORD_SIZE - 1) (drop GROUP_WORD_SIZE words)

-- THE NAME of the section whose header is at an offset: it is in a buffer, or refused
abbrev pub FindsSectionName : (file bytes : List ℕ) → (at : ℕ) → Result HeldText LinkFault → Type 0
FindsSectionName file bytes at (Ok text) = (name : List ℕ) × (section_link_name file at ≡ Ok name) × HoldsText bytes text name
FindsSectionName file bytes at (Err (Refused refusal)) = section_link_name file at ≡ Err refusal
FindsSectionName file bytes at (Err Read) = ⊥
FindsSectionName file bytes at (Err Open) = ⊥
FindsSectionName file bytes at (Err Memory) = ⊥

-- A GROUP whose checks pass, or the refusal of the first that fails
pub record FoundGroup (file : List ℕ) (at : ℕ) (group : GroupInFile) : Type 0 where
  pub passes : first_refusal (group_checks file at) ≡ None
  pub is_at : group.at ≡ at
  pub start : group.start ≡ sh_offset file at
  pub size : group.size ≡ sh_size file at
  pub within : sh_offset file at + sh_size file at ≤ length file
  pub index : group.index ≡ sh_info file at
  pub link : group.link ≡ sh_link file at
  pub below : group.index < group.table.count
  pub symbols : AreSymbols file (linked_at file at) (group.table, group.names)
  pub inside : SymbolTableInBounds (length file) (group.table, group.names)

abbrev pub FindsGroup : List ℕ → (at : ℕ) → Result GroupInFile LinkFault → Type 0
FindsGroup file at (Ok group) = FoundGroup file at group
FindsGroup file at (Err (Refused refusal)) = group_in file at ≡ Err refusal
FindsGroup file at (Err Read) = ⊥
FindsGroup file at (Err Open) = ⊥
FindsGroup file at (Err Memory) = ⊥

-- a group by its header and its symbol table, which has its symbol or not
abbrev pub group_by : Shdr → (at : ℕ) → TableRange × StringTableRange → GroupInFile
group_by header at symbols = record {
  at = at;
  start = header.sh_offset;
  size = header.sh_size;
  index = header.sh_info;
  link = header.sh_link;
  table = symbols.0;
  names = symbols.1;
}

abbrev pub MakesGroup : Shdr → (at : ℕ) → TableRange × StringTableRange → Result GroupInFile LinkFault → Type 0
MakesGroup header at symbols (Ok group) = (header.sh_info < symbols.0.count) × (group ≡ group_by header at symbols)
MakesGroup header at symbols (Err fault) = (symbols.0.count ≤ header.sh_info) × (fault ≡ Refused (record { at = at; cause = cause.Refused SymbolIndex }))

-- its symbol table
abbrev pub ReadsLinked : (file bytes : List ℕ) → (at : ℕ) → Result SymbolRows LinkFault → Type 0
ReadsLinked file bytes at (Ok symbols) = HoldsSymbols file bytes (linked_at file at) symbols
ReadsLinked file bytes at (Err fault) = IsLinkFault None fault

-- THE SIGNATURE of a group
abbrev pub SignsGroup : (file bytes : List ℕ) → (at : ℕ) → Result HeldText LinkFault → Type 0
SignsGroup file bytes at (Ok text) = (name : List ℕ) × (signature_of file at ≡ Ok name) × HoldsText bytes text name
SignsGroup file bytes at (Err fault) = IsLinkFault (refusal_of (signature_of file at)) fault

-- WHAT IS DROPPED for a section: nothing, that section, or those in the words of its group
abbrev pub HoldsDropped : (bytes : List ℕ) → (section : ℕ) → Dropped → (sections : List ℕ) → Type 0
HoldsDropped bytes section Nothing sections = sections ≡ []
HoldsDropped bytes section Section sections = sections ≡ section ∷ []
HoldsDropped bytes section (Words text) sections = (words : List ℕ) × HoldsText bytes text words × (sections ≡ sections_of_words words)

-- GROUPS TAKEN into keys, and the sections that they drop
abbrev pub none_dropped : KeyList → DroppedSections
none_dropped old = record { keys = old.keys; sections = [] }

pub record TookGroups (groups : List SectionGroup) (old new : KeyList) (sections : List ℕ) : Type 0 where
  pub keys : new.keys ≡ (groups_taken (none_dropped old) groups).keys
  pub sections_are : sections ≡ (groups_taken (none_dropped old) groups).sections
  pub most : new.most ≡ old.most
  pub most_further : new.most_further ≡ old.most_further

-- those of a section
pub record TookSection (file : List ℕ) (section : ℕ) (old new : KeyList) (bytes : List ℕ) (dropped : Dropped) : Type 0 where
  pub groups : List SectionGroup
  pub are : groups_at file section ≡ Ok groups
  pub sections : List ℕ
  pub took : TookGroups groups old new sections
  pub held : HoldsDropped bytes section dropped sections

abbrev pub TakesSection : List ℕ → (section : ℕ) → (old new : KeyList) → (bytes : List ℕ) → Result Dropped LinkFault → Type 0
TakesSection file section old new bytes (Ok dropped) = TookSection file section old new bytes dropped
TakesSection file section old new bytes (Err fault) = IsLinkFault (refusal_of (groups_at file section)) fault

-- THE GROUPS OF AN OBJECT TAKEN, and its sections marked that are dropped
pub record DroppedGroups (file : List ℕ) (old new : KeyList) (marks : List Bool) : Type 0 where
  pub groups : List SectionGroup
  pub are : groups_from file 0 (e_shnum file) ≡ Ok groups
  pub keys : new.keys ≡ (groups_taken (none_dropped old) groups).keys
  pub marked : MarksDropped (e_shnum file) marks (groups_taken (none_dropped old) groups).sections
  pub most : new.most ≡ old.most
  pub most_further : new.most_further ≡ old.most_further

abbrev pub DropsGroups : List ℕ → (old new : KeyList) → (marks : List Bool) → Result (Unit {0}) LinkFault → Type 0
DropsGroups file old new marks (Ok done) = DroppedGroups file old new marks
DropsGroups file old new marks (Err fault) = IsLinkFault (refusal_of (groups_from file 0 (e_shnum file))) fault

-- THE NAME OF A SECTION NOTED, if it is an identifier of a section that is not dropped
abbrev pub named_sections : (file : List ℕ) → (section : ℕ) → Result (List NamedSection) LinkRefusal
named_sections file section = section_named section (section_link_name file (section_at file section))

pub record NotedName (file : List ℕ) (dropped : List ℕ) (section : ℕ) (old new : KeyList) : Type 0 where
  pub sections : List NamedSection
  pub are : named_sections file section ≡ Ok sections
  pub keys : new.keys ≡ sections_noted dropped old.keys sections
  pub most : new.most ≡ old.most
  pub most_further : new.most_further ≡ old.most_further

abbrev pub NotesName : List ℕ → (dropped : List ℕ) → (section : ℕ) → (old new : KeyList) → Result (Unit {0}) LinkFault → Type 0
NotesName file dropped section old new (Ok done) = NotedName file dropped section old new
NotesName file dropped section old new (Err fault) = IsLinkFault (refusal_of (named_sections file section)) fault

-- THE NAMES OF SECTIONS NOTED, of those that are not dropped
pub record NotedSections (file : List ℕ) (dropped : List ℕ) (old new : KeyList) : Type 0 where
  pub sections : List NamedSection
  pub are : sections_from file 0 (e_shnum file) ≡ Ok sections
  pub keys : new.keys ≡ sections_noted dropped old.keys sections
  pub most : new.most ≡ old.most
  pub most_further : new.most_further ≡ old.most_further

abbrev pub NotesSections : List ℕ → (dropped : List ℕ) → (old new : KeyList) → Result (Unit {0}) LinkFault → Type 0
NotesSections file dropped old new (Ok done) = NotedSections file dropped old new
NotesSections file dropped old new (Err fault) = IsLinkFault (refusal_of (sections_from file 0 (e_shnum file))) fault
