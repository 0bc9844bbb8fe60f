-- The index of an archive in a buffer, and what its entries do to the keys of a link.
use Rattle.std.specs.Prelude.{ℕ, suc, ◌≡◌, ◌+◌, ◌*◌, ◌≤◌, ◌<◌, ◌^◌, ◌==◌, ◌⊎◌, not, if◌then◌else◌, List, [], ◌∷◌, ◌++◌, drop, take, length, Option, None, Some, Result, Ok, Err}
use Rattle.elf_model.specs.Archive.{FileRange, bytes_in, member_data}
use Rattle.elf_model.specs.Bytes.{field, slice}
use Rattle.elf_model.specs.LinkArchives.{LinkMember, archive_index, big, index_in, index_symbols, index_width, link_member_at, link_members, refusal_of, symbol_of_index}
use Rattle.elf_model.specs.LinkInputs.{IndexSymbol, default_entered, default_index, index_entered}
use Rattle.elf_model.specs.LinkKeys.{LinkKeys, entered, key_index}
use Rattle.elf_model.specs.LinkSymbols.{AT}
use Rattle.elf_model.specs.Names.{nul_in}
use Rattle.elf_model.specs.declared.link_states.IndexEntry.{IndexEntry}
use Rattle.elf_model.specs.declared.link_states.LinkCause.TheVariants as cause
use Rattle.elf_model.specs.declared.link_states.LinkRefusal.{LinkRefusal}
use Rattle.elf_resolve.specs.KeyTables.{Entered, KeyList}
use Rattle.elf_resolve.specs.StringBuffers.{HoldsText}
use Rattle.elf_resolve.specs.Taken.{IsLinkFault}
use Rattle.elf_resolve.specs.declared.index_parts.EntryPlace.{EntryPlace}
use Rattle.elf_resolve.specs.declared.index_parts.IndexParts.{IndexParts}
use Rattle.elf_resolve.specs.declared.link_faults.LinkFault.{LinkFault}
use Rattle.elf_resolve.specs.declared.link_faults.LinkFault.TheVariants.{Refused}
use Rattle.elf_resolve.specs.declared.string_buffer.HeldText.{HeldText}

-- how many bytes the numbers have, by the header at an offset
abbrev pub width_at : List ℕ → (at : ℕ) → Option ℕ
width_at file at =
    if not (field file (at + 8) 8 == 0x2020202020202020) then None
    else if field file at 8 == 0x202020202020202f then Some 4
    else if field file at 8 == 0x202f34364d59532f then Some 8
    else None

-- THE PARTS of an index that is at an offset
pub record HoldsIndex (buffer bytes : List ℕ) (start : ℕ) (parts : IndexParts) : Type 0 where
  pub at_is : parts.at ≡ start + parts.width
  pub count_is : parts.count ≡ big bytes 0 parts.width
  pub enough : parts.width * (parts.count + 1) ≤ length bytes
  pub fits : start + length bytes < 2 ^ 63
  pub offsets : HoldsText buffer parts.offsets (slice bytes parts.width (parts.width * parts.count))
  pub names : HoldsText buffer parts.names (drop (parts.width * (parts.count + 1)) bytes)

-- they are in an index of a width, or it is cut
abbrev pub HasParts : (buffer bytes : List ℕ) → (start width : ℕ) → Result IndexParts LinkFault → Type 0
HasParts buffer bytes start width (Ok parts) = (parts.width ≡ width) × HoldsIndex buffer bytes start parts
HasParts buffer bytes start width (Err fault) = (length bytes < width * (big bytes 0 width + 1)) × (fault ≡ Refused (record { at = 8; cause = cause.IndexCut }))

abbrev pub FindsParts : List ℕ → List LinkMember → (width : ℕ) → FileRange → (buffer : List ℕ) → Result IndexParts LinkFault → Type 0
FindsParts file members width extent buffer (Ok parts) = (parts.width ≡ width) × HoldsIndex buffer (bytes_in file extent) extent.at parts
FindsParts file members width extent buffer (Err fault) = IsLinkFault (refusal_of (index_in file members width extent)) fault

-- they are found in the first member
pub record FoundIndex (file buffer : List ℕ) (parts : IndexParts) : Type 0 where
  pub extent : FileRange
  pub data_are : member_data file 8 ≡ Ok extent
  pub width_is : index_width file ≡ Some parts.width
  pub holds : HoldsIndex buffer (bytes_in file extent) extent.at parts

abbrev pub FindsIndex : (file buffer : List ℕ) → Result IndexParts LinkFault → Type 0
FindsIndex file buffer (Ok parts) = FoundIndex file buffer parts
FindsIndex file buffer (Err fault) = (first : LinkMember) (rest : List LinkMember) → (link_members file).members ≡ first ∷ rest → length file < 2 ^ 63
    → IsLinkFault (refusal_of (archive_index file (first ∷ rest))) fault

-- THE NAME of an entry ends at the first NUL, or the index is cut
pub record EndedName (buffer names : List ℕ) (from : ℕ) (name : HeldText) : Type 0 where
  pub ends : nul_in (drop from names) ≡ Some name.size
  pub fits : from + name.size < length names
  pub holds : HoldsText buffer name (take name.size (drop from names))

abbrev pub EndsName : (buffer names : List ℕ) → (from : ℕ) → Result HeldText LinkFault → Type 0
EndsName buffer names from (Ok name) = EndedName buffer names from name
EndsName buffer names from (Err fault) = (nul_in (drop from names) ≡ None) × (fault ≡ Refused (record { at = 8; cause = cause.IndexCut }))

-- A KEY ENTERED
abbrev pub EntersKey : KeyList → KeyList → List ℕ → Result ℕ LinkFault → Type 0
EntersKey old new name (Ok index) = Entered old new name index
EntersKey old new name (Err fault) = IsLinkFault None fault

-- A SYMBOL of an index entered
abbrev pub entry_of_symbol : LinkKeys → IndexSymbol → IndexEntry
entry_of_symbol keys s = record {
  key = key_index keys s.name;
  default_key = default_index (entered keys s.name) s.default_name (key_index keys s.name);
  member = s.member;
}

abbrev pub keys_with_symbol : LinkKeys → IndexSymbol → LinkKeys
keys_with_symbol keys s = default_entered (entered keys s.name) s.default_name

pub record EnteredName (symbol : IndexSymbol) (old new : KeyList) (entry : IndexEntry) : Type 0 where
  pub entry_is : entry ≡ entry_of_symbol old.keys symbol
  pub keys : new.keys ≡ keys_with_symbol old.keys symbol
  pub most : new.most ≡ old.most
  pub most_further : new.most_further ≡ old.most_further

abbrev pub EntersName : (name : List ℕ) → (member : ℕ) → (old new : KeyList) → Result IndexEntry LinkFault → Type 0
EntersName name member old new (Ok entry) = EnteredName (symbol_of_index name member) old new entry
EntersName name member old new (Err fault) = IsLinkFault None fault

abbrev pub EntersDefault : (name version : List ℕ) → (member : ℕ) → (old new : KeyList) → Result IndexEntry LinkFault → Type 0
EntersDefault name version member old new (Ok entry) = EnteredName (record { name = name ++ AT ∷ version; default_name = Some name; member = member }) old new entry
EntersDefault name version member old new (Err fault) = IsLinkFault None fault

-- THE MEMBER of an entry by the offset of its header; that there is none is refused at another offset
abbrev pub NumbersMember : List LinkMember → (offset at : ℕ) → Result ℕ LinkFault → Type 0
NumbersMember members offset at (Ok member) = link_member_at members offset ≡ Some member
NumbersMember members offset at (Err fault) = IsLinkFault None fault ⊎ ((link_member_at members offset ≡ None) × (fault ≡ Refused (record { at = at; cause = cause.IndexMember })))

-- AN ENTRY, by the names from its own on, and the offset of its member's header
pub record EnteredEntry (members : List LinkMember) (names : List ℕ) (offset : ℕ) (old new : KeyList) (before after : List IndexEntry) (from next : ℕ) : Type 0 where
  pub end : ℕ
  pub member : ℕ
  pub ends : nul_in names ≡ Some end
  pub next_is : next ≡ from + end + 1
  pub found : link_member_at members offset ≡ Some member
  pub entries : after ≡ before ++ entry_of_symbol old.keys (symbol_of_index (take end names) member) ∷ []
  pub keys : new.keys ≡ keys_with_symbol old.keys (symbol_of_index (take end names) member)
  pub most : new.most ≡ old.most
  pub most_further : new.most_further ≡ old.most_further

abbrev pub EntersEntry : List LinkMember → (bytes : List ℕ) → (start : ℕ) → IndexParts → EntryPlace → (old new : KeyList) → (before after : List IndexEntry) → Result ℕ LinkFault → Type 0
EntersEntry members bytes start parts place old new before after (Ok next) =
    EnteredEntry members (drop place.name (drop (parts.width * (parts.count + 1)) bytes)) (big bytes (parts.width * (place.index + 1)) parts.width) old new before after place.name next
EntersEntry members bytes start parts place old new before after (Err fault) = (left : ℕ)
    → IsLinkFault (refusal_of (index_symbols members bytes start parts.width place.index (suc left) (drop place.name (drop (parts.width * (parts.count + 1)) bytes)))) fault

-- ALL ENTRIES
pub record EnteredIndexBy (answer : Result (List IndexSymbol) LinkRefusal) (old new : KeyList) (before after : List IndexEntry) : Type 0 where
  pub symbols : List IndexSymbol
  pub are : answer ≡ Ok symbols
  pub keys : new.keys ≡ (index_entered (record { keys = old.keys; entries = [] }) symbols).keys
  pub entries : after ≡ before ++ (index_entered (record { keys = old.keys; entries = [] }) symbols).entries
  pub most : new.most ≡ old.most
  pub most_further : new.most_further ≡ old.most_further

abbrev pub EntersIndexBy : Result (List IndexSymbol) LinkRefusal → (old new : KeyList) → (before after : List IndexEntry) → {A : Type 0} → Result A LinkFault → Type 0
EntersIndexBy answer old new before after (Ok done) = EnteredIndexBy answer old new before after
EntersIndexBy answer old new before after (Err fault) = IsLinkFault (refusal_of answer) fault
