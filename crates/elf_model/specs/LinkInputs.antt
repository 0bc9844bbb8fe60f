-- The inputs of a link in their order, and groups of them.
use Rattle.std.specs.Prelude.{ℕ, zero, suc, ◌+◌, ◌==◌, if◌then◌else◌, Bool, false, List, [], ◌∷◌, ◌++◌, length, map, replicate, Option, None, Some}
use Rattle.elf_model.specs.LinkKeys.{LinkKeys, LinkSymbol, entered, key_index, no_keys, symbols_taken}
use Rattle.elf_model.specs.LinkObjects.{LinkObject, object_taken}
use Rattle.elf_model.specs.LinkPasses.{ArchiveMembers, ArchivePass, archive_searched, untaken}
use Rattle.elf_model.specs.declared.link_states.IndexEntry.{IndexEntry}
use Rattle.elf_model.specs.declared.link_states.LinkRow.{LinkRow}
use Rattle.elf_model.specs.declared.link_states.LinkRowKind.{LinkRowKind}
use Rattle.elf_model.specs.declared.link_states.LinkRowKind.TheVariants.{Object, Archive, Member, Missing}
use Rattle.elf_model.specs.declared.link_states.SymbolRole.TheVariants.{Reference}
use Rattle.elf_model.specs.declared.link_states.SymbolUse.{SymbolUse}

-- A SYMBOL OF AN ARCHIVE'S INDEX: its name, with its version if it has one; the name without the
-- version if that is the default one; and the member that has it
pub record IndexSymbol : Type 0 where
  pub name : List ℕ
  pub default_name : Option (List ℕ)
  pub member : ℕ

-- AN INPUT: an object; an archive that is searched by its index, with the number of its members; an
-- archive of which all members are taken, each with its index; or a file that is missing
pub data InputFile : Type 0 where
  ObjectFile : LinkObject → InputFile
  SearchedFile : (count : ℕ) → List IndexSymbol → ArchiveMembers → InputFile
  WholeFile : List (ℕ × LinkObject) → InputFile
  MissingFile : InputFile

-- INPUTS in their order, each by its index, and groups of inputs
pub data LinkInputs : Type 0 where
  NoInputs : LinkInputs
  Input : (index : ℕ) → LinkInputs → LinkInputs
  Group : LinkInputs → LinkInputs → LinkInputs

-- an archive that was searched: its input's index, its row, the entries of its index, and which of
-- its members are taken
pub record OpenArchive : Type 0 where
  pub input : ℕ
  pub row : ℕ
  pub entries : List IndexEntry
  pub taken : List Bool

-- A LINK: its keys, its rows, and the archives that were searched
pub record Linking : Type 0 where
  pub keys : LinkKeys
  pub rows : List LinkRow
  pub archives : List OpenArchive

-- the row of a file that is no member
abbrev pub file_row : LinkRowKind → (index : ℕ) → LinkRow
file_row kind index = record { kind = kind; input = index; archive = None; member = None; reason = None }

abbrev pub with_row : Linking → LinkRow → Linking
with_row link row = record link { rows = link.rows ++ row ∷ [] }

-- an object of the next row
abbrev pub with_object : Linking → LinkRow → LinkObject → Linking
with_object link row object =
    record link { keys = object_taken (Some (length link.rows)) link.keys object; rows = link.rows ++ row ∷ [] }

-- the members of a whole archive
abbrev pub whole_row : (index row member : ℕ) → LinkRow
whole_row index row member = record { kind = Member; input = index; archive = Some row; member = Some member; reason = None }

abbrev pub members_taken : (index row : ℕ) → Linking → List (ℕ × LinkObject) → Linking
members_taken index row link [] = link
members_taken index row link ((member, object) ∷ members) =
    members_taken index row (with_object link (whole_row index row member) object) members

-- THE NAMES OF AN INDEX are keys from when its archive is opened on
pub record EnteredIndex : Type 0 where
  pub keys : LinkKeys
  pub entries : List IndexEntry

abbrev pub default_entered : LinkKeys → Option (List ℕ) → LinkKeys
default_entered keys None = keys
default_entered keys (Some name) = entered keys name

abbrev pub default_index : LinkKeys → Option (List ℕ) → (key : ℕ) → ℕ
default_index keys None key = key
default_index keys (Some name) key = key_index keys name

unfoldable pub symbol_entered : EnteredIndex → IndexSymbol → EnteredIndex
symbol_entered before s =
    let keys = entered before.keys s.name in
    let key = key_index before.keys s.name in
    record {
      keys = default_entered keys s.default_name;
      entries = before.entries ++ record { key = key; default_key = default_index keys s.default_name key; member = s.member } ∷ [];
    }

abbrev pub index_entered : EnteredIndex → List IndexSymbol → EnteredIndex
index_entered before [] = before
index_entered before (s ∷ symbols) = index_entered (symbol_entered before s) symbols

-- AN ARCHIVE SEARCHED, for the first time or once more
abbrev pub searched : Linking → OpenArchive → ArchiveMembers → ArchivePass
searched link archive members =
    archive_searched (record { input = archive.input; row = archive.row; members = members }) archive.entries
    (record { keys = link.keys; rows = link.rows; taken = archive.taken })

abbrev pub with_taken : List OpenArchive → (index : ℕ) → List Bool → List OpenArchive
with_taken [] index taken = []
with_taken (archive ∷ archives) index taken =
    (if archive.input == index then record archive { taken = taken } else archive) ∷ with_taken archives index taken

unfoldable pub archive_again : Linking → OpenArchive → ArchiveMembers → Linking
archive_again link archive members =
    let pass = searched link archive members in
    record { keys = pass.keys; rows = pass.rows; archives = with_taken link.archives archive.input pass.taken }

unfoldable pub archive_opened : Linking → (index count : ℕ) → List IndexSymbol → ArchiveMembers → Linking
archive_opened link index count symbols members =
    let opened = index_entered (record { keys = link.keys; entries = [] }) symbols in
    let archive : OpenArchive = record { input = index; row = length link.rows; entries = opened.entries; taken = replicate count false } in
    archive_again (record {
      keys = opened.keys;
      rows = link.rows ++ file_row Archive index ∷ [];
      archives = link.archives ++ archive ∷ [];
    }) archive members

-- AN INPUT TAKEN
unfoldable pub input_taken : Linking → (index : ℕ) → InputFile → Linking
input_taken link index (ObjectFile object) = with_object link (file_row Object index) object
input_taken link index (SearchedFile count symbols members) = archive_opened link index count symbols members
input_taken link index (WholeFile members) = members_taken index (length link.rows) (with_row link (file_row Archive index)) members
input_taken link index MissingFile = with_row link (file_row Missing index)

-- in a further round of a group only archives are searched once more
abbrev pub opened_at : List OpenArchive → (index : ℕ) → Option OpenArchive
opened_at [] index = None
opened_at (archive ∷ archives) index = if archive.input == index then Some archive else opened_at archives index

abbrev pub again_at : Linking → Option OpenArchive → ArchiveMembers → Linking
again_at link None members = link
again_at link (Some archive) members = archive_again link archive members

unfoldable pub input_again : Linking → (index : ℕ) → InputFile → Linking
input_again link index (SearchedFile count symbols members) = again_at link (opened_at link.archives index) members
input_again link index _ = link

-- at most this many further rounds, while the one before asked for keys that were not asked for
abbrev pub rounds_made : ℕ → (round : Linking → Linking) → (asked : ℕ) → Linking → Linking
rounds_made zero round asked link = link
rounds_made (suc most) round asked link = if link.keys.asked == asked then link else rounds_made most round link.keys.asked (round link)

-- how many members of the archives are not taken: each further round but the last takes one
abbrev pub untaken_in : List OpenArchive → ℕ
untaken_in [] = 0
untaken_in (archive ∷ archives) = untaken archive.taken + untaken_in archives

unfoldable pub group_settled : (round : Linking → Linking) → (asked : ℕ) → Linking → Linking
group_settled round asked link = rounds_made (suc (untaken_in link.archives)) round asked link

module _ (files : ℕ → InputFile) where
  -- INPUTS ONCE MORE, in a further round of the group that they are in
  abbrev pub inputs_again : LinkInputs → Linking → Linking
  inputs_again NoInputs link = link
  inputs_again (Input index rest) link = inputs_again rest (input_again link index (files index))
  inputs_again (Group group rest) link = inputs_again rest (group_settled (inputs_again group) link.keys.asked (inputs_again group link))

  -- INPUTS TAKEN in order; a group again, while a round asks for keys that were not asked for
  abbrev pub inputs_taken : LinkInputs → Linking → Linking
  inputs_taken NoInputs link = link
  inputs_taken (Input index rest) link = inputs_taken rest (input_taken link index (files index))
  inputs_taken (Group group rest) link = inputs_taken rest (group_settled (inputs_again group) link.keys.asked (inputs_taken group link))

-- a name that an argument asks for: a reference of no file
abbrev pub plain_reference : SymbolUse
plain_reference = record { role = Reference; restricted = false; dropped = false; of_library = false; absolute = None }

abbrev pub argument_symbol : List ℕ → LinkSymbol
argument_symbol name = record { name = name; default_name = None; symbol = plain_reference }

-- before the inputs only arguments ask for names
unfoldable pub with_arguments : List (List ℕ) → Linking
with_arguments arguments = record { keys = symbols_taken None no_keys (map argument_symbol arguments); rows = []; archives = [] }

-- A LINK of arguments and inputs
abbrev pub linked : (files : ℕ → InputFile) → (arguments : List (List ℕ)) → LinkInputs → Linking
linked files arguments inputs = inputs_taken files inputs (with_arguments arguments)
