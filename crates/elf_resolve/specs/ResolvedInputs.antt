-- What holds of a link as a resolver has it, and what an input does to it.
use Rattle.std.specs.Prelude.{ℕ, ◌≡◌, ◌≢◌, ◌≤◌, ◌++◌, Bool, true, false, List, [], ◌∷◌, length, map, option_map, replicate, vec_capacity, Option, None, Some}
use Rattle.std.specs.List.{slice_get}
use Rattle.std.proofs.Math.ListN.{set}
use Rattle.elf_archive.specs.Members.{extent_of_names}
use Rattle.elf_model.specs.LinkArchives.{LinkFiles, files_as_inputs, link_members, members_refusal, name_table}
use Rattle.elf_model.specs.LinkInputs.{Linking, argument_symbol, file_row}
use Rattle.elf_model.specs.LinkKeys.{no_keys, symbols_taken}
use Rattle.elf_model.specs.declared.link_states.LinkRow.{LinkRow}
use Rattle.elf_model.specs.declared.link_states.LinkRowKind.TheVariants.{Archive}
use Rattle.elf_resolve.specs.KeptLimits.{KeepsLimits}
use Rattle.elf_resolve.specs.LinkFaults.{fault_of_key}
use Rattle.elf_resolve.specs.LinkMembers.{file_of_range}
use Rattle.elf_resolve.specs.LinkPlaces.{IsLinkAt, is_new_input}
use Rattle.elf_resolve.specs.ListRooms.{HasListRoom, KeepsLists, KeepsWithin}
use Rattle.elf_resolve.specs.OpenedArchives.{AreDistinctArchives, AreOpened, IsInputState}
use Rattle.elf_resolve.specs.Plans.{IsKnownFile, file_of_kind, is_archive_kind}
use Rattle.elf_resolve.specs.Resolved.{linking_of}
use Rattle.elf_resolve.specs.RowTables.{AddedRow}
use Rattle.elf_resolve.specs.Symbols.{NotUsedName}
use Rattle.elf_resolve.specs.Taken.{ReadIndex, data_of, header_of}
use Rattle.elf_resolve.specs.declared.archives.OpenedArchive.{OpenedArchive}
use Rattle.elf_resolve.specs.declared.link_faults.LinkFault.{LinkFault}
use Rattle.elf_resolve.specs.declared.link_files.LinkInput.{LinkInput}
use Rattle.elf_resolve.specs.declared.link_files.LinkPlan.{LinkPlan}
use Rattle.elf_resolve.specs.declared.resolver.InputState.TheVariants as state
use Rattle.elf_resolve.specs.declared.resolver.Resolver.{Resolver}
use Rattle.elf_resolve.specs.declared.room.LinkCaps.{LinkCaps}
use Rattle.elf_resolve.specs.declared.table.KeyFault.{KeyFault}
use Rattle.elf_source.specs.Source.{SourceState}

-- A LINK WITHOUT SHARED LIBRARIES: its archives are opened files, each input's state is that of its
-- archive, there is a mark for each member, and nothing is listed
pub record IsLink (files : LinkFiles) (link : Resolver) : Type 0 where
  pub headers : link.room.headers ≡ files.headers
  pub no_libraries : link.libraries.libraries.items ≡ []
  pub marked : length link.taken.items ≡ length link.tables.members.items
  pub opened : AreOpened files link.tables.members.items (length link.tables.entries.items) 0 link.tables.archives.items
  pub distinct : AreDistinctArchives link.tables.archives.items
  pub states : (input : ℕ) → IsInputState (slice_get link.states.items input) link.tables.archives.items input
  pub lists : HasListRoom link

-- what is at an input of a plan is what it is among the files
pub record IsPlanned (files : LinkFiles) (known : ℕ → Option (List ℕ)) (index : ℕ) (input : LinkInput) : Type 0 where
  pub archive : files.is_archive index ≡ is_archive_kind input.kind
  pub whole : files.is_whole index ≡ input.is_whole
  pub file : files.file index ≡ file_of_kind input.kind (known index)
  pub is_known : IsKnownFile input.kind (known index)

-- AN INPUT WAS TAKEN: the link is another, and the input is not new
pub record TookInput (files : LinkFiles) (old new : Resolver) (index : ℕ) (made : Linking) : Type 0 where
  pub makes : linking_of new ≡ made
  pub is_link : IsLink files new
  pub groups : new.groups ≡ old.groups
  pub reached : is_new_input new.states.items index ≡ false
  pub others : (j : ℕ) → j ≢ index → is_new_input new.states.items j ≡ is_new_input old.states.items j

-- members were taken: of all else only marks and rows may be others
pub record TookMembers (old new : Resolver) (made : Linking) : Type 0 where
  pub makes : linking_of new ≡ made
  pub headers : new.room.headers ≡ old.room.headers
  pub libraries : new.libraries ≡ old.libraries
  pub tables : new.tables ≡ old.tables
  pub states : new.states ≡ old.states
  pub groups : new.groups ≡ old.groups
  pub count : length new.taken.items ≡ length old.taken.items
  pub lists : KeepsLists old new
  pub limits : KeepsLimits old.link.keys new.link.keys

-- what only steps change, and the taking of an input
pub record KeepsSteps (old new : Resolver) : Type 0 where
  pub headers : new.room.headers ≡ old.room.headers
  pub libraries : new.libraries ≡ old.libraries
  pub states : new.states ≡ old.states
  pub groups : new.groups ≡ old.groups
  pub lists : KeepsLists old new

-- a row was added, of an index
pub record AddedRowOf (old new : Resolver) (row : LinkRow) (index : ℕ) : Type 0 where
  pub steps : KeepsSteps old new
  pub keys : new.link.keys ≡ old.link.keys
  pub added : AddedRow old.link.rows new.link.rows row index
  pub tables : new.tables ≡ old.tables
  pub taken : new.taken ≡ old.taken

-- the names of an index were entered, unless all members are taken
abbrev pub EntersIndex : (is_whole : Bool) → List ℕ → (old new : Resolver) → Type 0
EntersIndex true file old new = (new.link.keys ≡ old.link.keys) × (new.tables.entries ≡ old.tables.entries)
EntersIndex false file old new = ReadIndex file old.link.keys new.link.keys old.tables.entries.items new.tables.entries.items

-- an index was read: of all else nothing changed
pub record KeepsArchives (old new : Resolver) : Type 0 where
  pub steps : KeepsSteps old new
  pub rows : new.link.rows ≡ old.link.rows
  pub taken : new.taken ≡ old.taken
  pub members : new.tables.members ≡ old.tables.members
  pub archives : new.tables.archives ≡ old.tables.archives
  pub within : KeepsWithin old.tables new.tables

-- AN ARCHIVE WAS READ: its row was added, and its members are marked as not taken
pub record OpenedAs (file : List ℕ) (is_whole : Bool) (input : ℕ) (old new : Resolver) (archive : OpenedArchive) : Type 0 where
  pub steps : KeepsSteps old new
  pub rows : new.link.rows.rows ≡ old.link.rows.rows ++ file_row Archive input ∷ []
  pub none_refused : members_refusal file ≡ None
  pub members : new.tables.members.items ≡ old.tables.members.items ++ map header_of (link_members file).members
  pub archives : new.tables.archives ≡ old.tables.archives
  pub marks : new.taken.items ≡ old.taken.items ++ replicate (length (link_members file).members) false
  pub index : EntersIndex is_whole file old new
  pub within : KeepsWithin old.tables new.tables
  pub archive_is : archive ≡ record {
    input = input;
    row = length old.link.rows.rows;
    members = (length old.tables.members.items, length new.tables.members.items);
    entries = (length old.tables.entries.items, length new.tables.entries.items);
    names = archive.names;
  }
  pub names : extent_of_names archive.names ≡ option_map data_of (name_table file (link_members file).members)

-- an archive was kept, to be searched again
pub record KeptArchive (old new : Resolver) (archive : OpenedArchive) : Type 0 where
  pub headers : new.room.headers ≡ old.room.headers
  pub libraries : new.libraries ≡ old.libraries
  pub groups : new.groups ≡ old.groups
  pub states : new.states.items ≡ set old.states.items archive.input (state.Archive (length old.tables.archives.items))
  pub link : new.link ≡ old.link
  pub taken : new.taken ≡ old.taken
  pub members : new.tables.members ≡ old.tables.members
  pub entries : new.tables.entries ≡ old.tables.entries
  pub archives : new.tables.archives.items ≡ old.tables.archives.items ++ archive ∷ []
  pub lists : KeepsLists old new
  pub most : new.tables.most ≡ old.tables.most

-- an archive of a file that is read is at an input that is reached and not opened
pub record IsArchiveAt (files : LinkFiles) (file : List ℕ) (link : Resolver) (seen : SourceState) (is_whole : Bool) (input : ℕ) : Type 0 where
  pub archive : files.is_archive input ≡ true
  pub whole : files.is_whole input ≡ is_whole
  pub file_is : files.file input ≡ Some file
  pub seen_is : seen.file ≡ Some file
  pub below : file_of_range seen ≡ Some file
  pub state_is : slice_get link.states.items input ≡ Some state.Done

-- A LINK IS AT A STEP OF A PLAN
pub record IsAtStep (files : LinkFiles) (plan : LinkPlan) (whole : Linking) (link : Resolver) (place : ℕ) : Type 0 where
  pub is_link : IsLink files link
  pub at : IsLinkAt (files_as_inputs files) whole plan.steps.items (linking_of link) link.groups.items (is_new_input link.states.items) place

-- a round of a group began
pub record OpenedGroup (old new : Resolver) (first : ℕ) : Type 0 where
  pub same : new ≡ record old { groups = new.groups }
  pub groups : new.groups.items ≡ old.groups.items ++ record { first = first; asked = old.link.keys.keys.asked } ∷ []

-- all inputs were taken
pub record TookAll (files : LinkFiles) (link : Resolver) (whole : Linking) : Type 0 where
  pub makes : linking_of link ≡ whole
  pub is_link : IsLink files link

-- A LINK THAT HAS NOT BEGUN: nothing was taken, and no input was reached
pub record IsFresh (link : Resolver) : Type 0 where
  pub keys : link.link.keys.keys ≡ no_keys
  pub rows : link.link.rows.rows ≡ []
  pub archives : link.tables.archives.items ≡ []
  pub members : link.tables.members.items ≡ []
  pub taken : link.taken.items ≡ []
  pub libraries : link.libraries.libraries.items ≡ []
  pub groups : link.groups.items ≡ []
  pub states : (input : ℕ) → is_new_input link.states.items input ≡ true
  pub lists : HasListRoom link
  pub names : link.room.names ≡ []

-- THERE IS ROOM for as much as is allowed, for a state of each step, and for as many groups
pub record HasRoomOf (caps : LinkCaps) (steps : ℕ) (link : Resolver) : Type 0 where
  pub keys : link.link.keys.most ≡ caps.keys
  pub key_bytes : link.link.keys.room ≡ caps.key_bytes
  pub further : link.link.keys.most_further ≡ caps.index
  pub rows : link.link.rows.most ≡ caps.rows
  pub headers : link.room.headers ≡ caps.headers
  pub states : length link.states.items ≡ steps
  pub groups : steps ≤ vec_capacity link.groups

-- names were asked for by arguments
pub record AskedNames (old new : Resolver) (names : List (List ℕ)) : Type 0 where
  pub same : new ≡ record old { link = record old.link { keys = new.link.keys } }
  pub keys : new.link.keys.keys ≡ symbols_taken None old.link.keys.keys (map argument_symbol names)
  pub limits : KeepsLimits old.link.keys new.link.keys

-- there was no room for one: of all else nothing changed
pub record NotAsked (old new : Resolver) (name : List ℕ) (fault : LinkFault) : Type 0 where
  pub same : new ≡ record old { link = record old.link { keys = new.link.keys } }
  pub why : KeyFault
  pub fault_is : fault ≡ fault_of_key 0 why
  pub not_used : NotUsedName old.link.keys new.link.keys name (argument_symbol name).symbol why
