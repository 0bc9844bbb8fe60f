-- The members of an archive that a linker takes by the archive's index.
use Rattle.std.specs.Prelude.{ℕ, zero, suc, ◌==◌, ◌&&◌, not, if◌then◌else◌, Bool, true, false, List, [], ◌∷◌, ◌++◌, codes, drop, length, get_or, Some}
use Rattle.std.specs.List.{count_by}
use Rattle.std.proofs.Math.ListN.{set}
use Rattle.elf_model.specs.LinkKeys.{LinkKeys, entry_named_as}
use Rattle.elf_model.specs.LinkObjects.{LinkObject, object_taken}
use Rattle.elf_model.specs.declared.link_states.IndexEntry.{IndexEntry}
use Rattle.elf_model.specs.declared.link_states.KeyState.{KeyState}
use Rattle.elf_model.specs.declared.link_states.KeyState.TheVariants.{New, Undefined, Common}
use Rattle.elf_model.specs.declared.link_states.LinkRow.{LinkRow}
use Rattle.elf_model.specs.declared.link_states.LinkRowKind.TheVariants.{Member}

-- THE MEMBERS of an archive: each as an object; and whether the first symbol of a name in a member is
-- a definition, not weak and no function
pub record ArchiveMembers : Type 0 where
  pub objects : ℕ → LinkObject
  pub defines : (member : ℕ) → (name : List ℕ) → Bool

-- AN ARCHIVE of a link: the input that it is, its row, and its members
pub record LinkArchive : Type 0 where
  pub input : ℕ
  pub row : ℕ
  pub members : ArchiveMembers

-- A LINK over an archive: its keys, its rows, and which members of the archive are taken
pub record ArchivePass : Type 0 where
  pub keys : LinkKeys
  pub rows : List LinkRow
  pub taken : List Bool

abbrev pub is_new : KeyState → Bool
is_new New = true
is_new _ = false

-- the key of an entry: of a name with a default version, that without the version if no symbol has
-- the other
abbrev pub key_of_entry : LinkKeys → IndexEntry → ℕ
key_of_entry keys entry = if is_new (entry_named_as keys entry.key).state then entry.default_key else entry.key

-- a key in a state takes members: it is referenced and not defined, unless a dropped section has
-- it; or it is a common and the member has its definition
abbrev pub takes_members : KeyState → (is_gone defines : Bool) → Bool
takes_members Undefined is_gone defines = not is_gone
takes_members (Common size) is_gone defines = defines
takes_members _ is_gone defines = false

-- the name of an entry as it is in the index: with two signs before a default version
abbrev pub name_with_default : (name default_name : List ℕ) → List ℕ
name_with_default name default_name = default_name ++ codes "@" ++ drop (length default_name) name

unfoldable pub index_name : LinkKeys → IndexEntry → List ℕ
index_name keys entry =
    let name = get_or keys.names entry.key [] in
    if entry.default_key == entry.key then name else name_with_default name (get_or keys.names entry.default_key [])

-- AN ENTRY TAKES ITS MEMBER: its key takes members, and this one is not taken yet
unfoldable pub asks_for : ArchiveMembers → LinkKeys → IndexEntry → Bool
asks_for members keys entry =
    let known = entry_named_as keys (key_of_entry keys entry) in
    takes_members known.state known.is_gone (members.defines entry.member (index_name keys entry))

abbrev pub is_taken : List Bool → ℕ → Bool
is_taken taken member = get_or taken member true

unfoldable pub takes_member : LinkArchive → ArchivePass → IndexEntry → Bool
takes_member archive pass entry = asks_for archive.members pass.keys entry && not (is_taken pass.taken entry.member)

-- the row of a member that is taken for a key
abbrev pub member_row : (input row : ℕ) → LinkKeys → IndexEntry → LinkRow
member_row input row keys entry =
    let key = key_of_entry keys entry in
    record {
      kind = Member;
      input = input;
      archive = Some row;
      member = Some entry.member;
      reason = Some (record { key = key; row = (entry_named_as keys key).row });
    }

-- a member taken: its row, and its symbols
unfoldable pub member_taken : LinkArchive → ArchivePass → IndexEntry → ArchivePass
member_taken archive pass entry = record {
  keys = object_taken (Some (length pass.rows)) pass.keys (archive.members.objects entry.member);
  rows = pass.rows ++ member_row archive.input archive.row pass.keys entry ∷ [];
  taken = set pass.taken entry.member true;
}

unfoldable pub entry_visited : LinkArchive → ArchivePass → IndexEntry → ArchivePass
entry_visited archive pass entry = if takes_member archive pass entry then member_taken archive pass entry else pass

-- A PASS over the index: its entries in order
abbrev pub index_passed : LinkArchive → ArchivePass → List IndexEntry → ArchivePass
index_passed archive pass [] = pass
index_passed archive pass (entry ∷ entries) = index_passed archive (entry_visited archive pass entry) entries

-- at most this many passes, until one asks for no key that was not asked for before
abbrev pub passes_made : ℕ → LinkArchive → List IndexEntry → ArchivePass → ArchivePass
passes_made zero archive entries pass = pass
passes_made (suc most) archive entries pass =
    let next = index_passed archive pass entries in
    if next.keys.asked == pass.keys.asked then next else passes_made most archive entries next

-- how many members are not taken
abbrev pub untaken : List Bool → ℕ
untaken taken = count_by not taken

-- AN ARCHIVE SEARCHED: passes until one asks for nothing new, which takes a member each
unfoldable pub archive_searched : LinkArchive → List IndexEntry → ArchivePass → ArchivePass
archive_searched archive entries pass = passes_made (suc (untaken pass.taken)) archive entries pass
