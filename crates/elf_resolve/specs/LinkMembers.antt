-- The members of an archive as objects, if its file is known.
use Rattle.std.specs.Prelude.{ℕ, ◌≡◌, ◌<◌, ◌||◌, nat_le, if◌then◌else◌, not, false, Bool, List, [], length, get_or, map, Option, None, Some, Result, Ok, Err, option_map}
use Rattle.elf_model.specs.Archive.{FileRange, is_name_table}
use Rattle.elf_model.specs.LinkArchives.{LinkFiles, is_archive_index, link_members, member_bytes, member_refusal, members_as_objects, members_refusal, name_table, no_member, or_empty, refusal_of}
use Rattle.elf_model.specs.LinkPasses.{ArchiveMembers}
use Rattle.elf_model.specs.LinkSymbols.{object_of}
use Rattle.elf_resolve.specs.KeyTables.{KeyList}
use Rattle.elf_resolve.specs.LinkFaults.{MovesWithin}
use Rattle.elf_resolve.specs.Passing.{TookObject}
use Rattle.elf_resolve.specs.Taken.{IsLinkFault, data_of, header_of}
use Rattle.elf_resolve.specs.declared.link_faults.LinkFault.{LinkFault}
use Rattle.elf_source.specs.Source.{RangeParent, SourceState}

-- the file of all bytes of which a source is a range, if it is known
abbrev pub whole_file_of : Option RangeParent → Option (List ℕ)
whole_file_of None = None
whole_file_of (Some whole) = whole.file

abbrev pub file_of_range : SourceState → Option (List ℕ)
file_of_range seen = whole_file_of seen.whole

-- the members of an archive by its file; if it is not known nothing is said of them
abbrev pub members_by_file : Option (List ℕ) → (headers : ℕ) → ArchiveMembers
members_by_file None headers = record { objects = λ member. record { groups = []; sections = []; symbols = [] }; defines = λ member name. false }
members_by_file (Some file) headers = members_as_objects file (link_members file).members headers

-- a table of names, if it is before a header
abbrev pub range_before : Option FileRange → (at : ℕ) → Option FileRange
range_before None at = None
range_before (Some table) at = if nat_le table.at at then Some table else None

-- offsets are those of the headers of an archive's members, and a range is that of its table of names
pub record AreMembersOf (file : List ℕ) (offsets : List ℕ) (names : Option FileRange) : Type 0 where
  pub unrefused : members_refusal file ≡ None
  pub offsets_are : offsets ≡ map header_of (link_members file).members
  pub names_are : names ≡ option_map data_of (name_table file (link_members file).members)

-- THEY ARE KNOWN: the file is, it is an archive, and the headers are those of its members
pub record KnownMembers (whole : Option RangeParent) (offsets : List ℕ) (names : Option FileRange) : Type 0 where
  pub file : List ℕ
  pub is : whole_file_of whole ≡ Some file
  pub unrefused : members_refusal file ≡ None
  pub offsets_are : offsets ≡ map header_of (link_members file).members
  pub names_are : names ≡ option_map data_of (name_table file (link_members file).members)

-- A MEMBER TAKEN, of a row: its name and its object are not refused; or why it is refused, if an offset
-- of the archive has 64 bits
pub record TookMember (files : LinkFiles) (file : List ℕ) (member row : ℕ) (old new : KeyList) : Type 0 where
  pub taken : member_refusal files member (Some file) ≡ None
  pub object : TookObject (or_empty (object_of (member_bytes file (link_members file).members member) files.headers)) old new row

abbrev pub TakesMember : LinkFiles → List ℕ → (member row : ℕ) → (old new : KeyList) → Result (Unit {0}) LinkFault → Type 0
TakesMember files file member row old new (Ok done) = TookMember files file member row old new
TakesMember files file member row old new (Err fault) =
    member < length (link_members file).members
    → MovesWithin (get_or (link_members file).members member no_member).extent.at (refusal_of (object_of (member_bytes file (link_members file).members member) files.headers))
    → IsLinkFault (member_refusal files member (Some file)) fault

-- WHETHER A MEMBER IS A FILE: neither an index nor the table of names
abbrev pub is_file_member : List ℕ → (at : ℕ) → Bool
is_file_member file at = not (is_archive_index file at || is_name_table file at)

abbrev pub ReturnsFileMember : List ℕ → (member : ℕ) → Result Bool LinkFault → Type 0
ReturnsFileMember file member (Ok is_file) = (member < length (link_members file).members) × (is_file ≡ is_file_member file (get_or (link_members file).members member no_member).header)
ReturnsFileMember file member (Err fault) = member < length (link_members file).members → IsLinkFault None fault
