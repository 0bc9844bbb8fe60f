-- Archives, as `ar` writes static libraries: the magic string and consecutive members. A member is
-- a header of 60 bytes of text, its data, and if its size is odd one byte of padding, which may be
-- missing at the file's end.
use Rattle.std.specs.Prelude.{ℕ, zero, suc, ◌+◌, ◌-◌, ◌*◌, ◌%◌, ◌^◌, ◌==◌, ◌&&◌, min, nat_le, nat_lt, not, Bool, true, false, if◌then◌else◌, List, [], ◌∷◌, ◌++◌, length, take, position, slice_index, is_some, Option, None, Some, Result, Ok, Err, codes}
use Rattle.std.specs.List.{list_all}
use Rattle.elf_model.specs.Bytes.{slice, field}
use Rattle.elf_model.specs.Checks.{Check, refuse}
use Rattle.elf_model.specs.Fields.{Fields, LinePrefix, front}
use Rattle.elf_model.specs.Fields.Field.{Decimal, Hexadecimal}
use Rattle.elf_model.specs.Lines.{named_line, refusal_line}
use Rattle.elf_model.specs.Listing.{ListingItem, Line, Fault, fault_of, guarded, lines_of, report_of, known_parts}
use Rattle.elf_model.specs.Names.{DisplayedName}
use Rattle.elf_model.specs.Names.DisplayedName.{Cut}
use Rattle.elf_model.specs.Notes.{capped}
use Rattle.elf_model.specs.Records.{ELF_MAGIC_SIZE, has_elf_magic}
use Rattle.elf_model.specs.Report.{listing}
use Rattle.elf_model.specs.Style.{ListingStyle, standard}
use Rattle.elf_model.specs.declared.causes.Refusal.{Refusal}
use Rattle.elf_model.specs.declared.formats.Format.{Format}
use Rattle.elf_model.specs.declared.formats.Format.TheVariants.{Columns}
use Rattle.elf_model.specs.declared.causes.Cause.{Cause}
use Rattle.elf_model.specs.declared.causes.Cause.TheVariants.{Short, TooLong, Thin, NotArchive, MemberCut, NameOutside, NameUnended}

-- the size of the magic string, and of a member's header
abbrev pub MAGIC_SIZE : ℕ
MAGIC_SIZE = 8

abbrev pub MEMBER_HEADER_SIZE : ℕ
MEMBER_HEADER_SIZE = 60

-- the magic string `!<arch>` and a newline, as a number; and that of an archive whose members are
-- in other files, `!<thin>`
abbrev pub ARCHIVE_MAGIC : ℕ
ARCHIVE_MAGIC = 0x0a3e686372613c21

abbrev pub THIN_MAGIC : ℕ
THIN_MAGIC = 0x0a3e6e6968743c21

-- the two bytes that end a member's header, a grave accent and a newline, as a number
abbrev pub HEADER_MARK : ℕ
HEADER_MARK = 0x0a60

-- this many bytes are no archive: they are too few, or more than an offset can count
abbrev pub archive_length_checks : ℕ → List Check
archive_length_checks size = refuse (not (nat_lt size (2 ^ 63))) 0 TooLong ∷ refuse (nat_lt size MAGIC_SIZE) 0 Short ∷ []

-- the magic string
abbrev magic_checks : List ℕ → List Check
magic_checks file =
    refuse (field file 0 8 == THIN_MAGIC) 0 Thin
    ∷ refuse (not (field file 0 8 == ARCHIVE_MAGIC)) 0 NotArchive
    ∷ []

-- the checks before the first member
abbrev pub archive_checks : List ℕ → List Check
archive_checks file = archive_length_checks (length file) ++ magic_checks file

-- a byte is a decimal digit
abbrev pub is_decimal : ℕ → Bool
is_decimal byte = nat_le 48 byte && nat_le byte 57

-- all bytes are this one
abbrev pub are_all : ℕ → List ℕ → Bool
are_all byte bytes = list_all (λ b. b == byte) bytes

-- the padding bytes of a field, and of a name in a member's data
abbrev pub SPACE : ℕ
SPACE = 32

abbrev pub NUL : ℕ
NUL = 0

-- the number of these digits after a number so far, if only spaces follow them
unfoldable pub parse_padded_decimal : ℕ → List ℕ → Option ℕ
parse_padded_decimal so_far [] = Some so_far
parse_padded_decimal so_far (b ∷ bs) =
    if is_decimal b then parse_padded_decimal (10 * so_far + (b - 48)) bs
    else if are_all SPACE (b ∷ bs) then Some so_far
    else None

-- the decimal number in a field: a digit or more, then spaces up to the end
unfoldable pub padded_number : List ℕ → Option ℕ
padded_number bytes = if is_decimal (slice_index bytes 0) then parse_padded_decimal 0 bytes else None

-- bytes without the trailing ones that are this one
unfoldable pub trimmed : ℕ → List ℕ → List ℕ
trimmed byte [] = []
trimmed byte (b ∷ bs) = if are_all byte (b ∷ bs) then [] else b ∷ trimmed byte bs

-- some bytes of a file, by their offset and their number
pub record FileRange : Type 0 where
  pub at : ℕ
  pub size : ℕ

-- the bytes of a range
abbrev pub bytes_in : List ℕ → FileRange → List ℕ
bytes_in file extent = slice file extent.at extent.size

-- the size in the header at an offset, if it ends in its mark, and the size is a decimal number
unfoldable pub parsed_member_size : List ℕ → ℕ → Option ℕ
parsed_member_size bytes at = if field bytes (at + 58) 2 == HEADER_MARK then padded_number (slice bytes (at + 48) 10) else None

-- the size of all data of the member whose header is at an offset, if header and data lie within
-- the file
unfoldable pub member_size : List ℕ → ℕ → Result ℕ Cause
member_size file at =
    if nat_lt (length file) (at + MEMBER_HEADER_SIZE) then Err MemberCut
    else elim (parsed_member_size file at) [
      | None ↦ Err MemberCut
      | Some size ↦ if nat_lt (length file) (at + MEMBER_HEADER_SIZE + size) then Err MemberCut else Ok size
    ]

-- the field of the name, 16 bytes
abbrev pub name_field : List ℕ → ℕ → List ℕ
name_field file at = slice file at 16

-- how many bytes at the start of a member's data are its name, if the name's field says so as BSD's
-- `ar` does: `#1/` and a decimal number (FreeBSD's ar(5))
unfoldable pub bsd_name_length : List ℕ → Option ℕ
bsd_name_length bytes =
    if slice_index bytes 0 == 35 && slice_index bytes 1 == 49 && slice_index bytes 2 == 47 then padded_number (slice bytes 3 13) else None

-- how many bytes of a member's data its name takes
unfoldable pub name_in_data : List ℕ → ℕ
name_in_data bytes = elim (bsd_name_length bytes) [ None ↦ 0 | Some size ↦ size ]

-- a member's data of this many bytes after the name at their start, if it fits in them
unfoldable pub data_after : (at size name : ℕ) → Result FileRange Cause
data_after at size name = if nat_lt size name then Err MemberCut else Ok (record { at = at + name; size = size - name })

-- the range of the data of the member whose header is at an offset
unfoldable pub member_data : List ℕ → ℕ → Result FileRange Cause
member_data file at =
    elim (member_size file at) [
      | Err cause ↦ Err cause
      | Ok size ↦ data_after (at + MEMBER_HEADER_SIZE) size (name_in_data (name_field file at))
    ]

-- the position of the first slash
abbrev slash_in : List ℕ → Option ℕ
slash_in bytes = position (λ b. b == 47) bytes

-- the position of the first newline
abbrev pub newline_in : List ℕ → Option ℕ
newline_in bytes = position (λ b. b == 10) bytes

-- the name in its field: the bytes before a slash that is not first, otherwise all without trailing
-- spaces; so the index of symbols has the name `/`, and the table of names `//`
unfoldable pub short_name : List ℕ → List ℕ
short_name bytes =
    elim (slash_in bytes) [
      | None ↦ trimmed SPACE bytes
      | Some place ↦ if place == 0 then trimmed SPACE bytes else take place bytes
    ]

-- the offset in the table of names that a name's field has: a slash, and a decimal number
unfoldable pub long_offset : List ℕ → Option ℕ
long_offset bytes = if slice_index bytes 0 == 47 then padded_number (slice bytes 1 15) else None

-- a name without a trailing slash
unfoldable pub without_slash : List ℕ → List ℕ
without_slash name = if slice_index name (length name - 1) == 47 then take (length name - 1) name else name

-- what is shown of a long name, by the cap + 2 bytes at its offset, fewer at the table's end: the
-- name ends before the first newline; if none is among them it is cut
abbrev pub long_of : ℕ → List ℕ → Option ℕ → Result DisplayedName Cause
long_of cap front (Some place) = Ok (capped cap (without_slash (take place front)))
long_of cap front None = if nat_lt (cap + 1) (length front) then Ok (Cut (take cap front)) else Err NameUnended

-- the name at an offset of the table of names, as it is shown with at most cap bytes
unfoldable pub long_name : List ℕ → ℕ → Option FileRange → ℕ → Result DisplayedName Cause
long_name file cap None offset = Err NameOutside
long_name file cap (Some table) offset =
    let front = slice (bytes_in file table) offset (cap + 2) in
    if nat_lt offset table.size then long_of cap front (newline_in front) else Err NameOutside

-- the name in the first bytes at an offset, as it is shown: at most cap + 2 of them are examined,
-- and trailing NULs are not part of it
unfoldable pub bsd_name : List ℕ → (cap at size : ℕ) → DisplayedName
bsd_name file cap at size = capped cap (trimmed NUL (slice file at (min size (cap + 2))))

-- a name that its field alone gives: that in the table of names, or that in the field itself
unfoldable pub parsed_member_name : List ℕ → ℕ → Option FileRange → List ℕ → Result DisplayedName Cause
parsed_member_name file cap names bytes =
    elim (long_offset bytes) [
      | Some offset ↦ long_name file cap names offset
      | None ↦ Ok (capped cap (short_name bytes))
    ]

-- the name of the member whose header is at an offset, as it is shown
unfoldable pub member_name : List ℕ → ℕ → Option FileRange → ℕ → Result DisplayedName Cause
member_name file cap names at =
    elim (bsd_name_length (name_field file at)) [
      | Some size ↦ Ok (bsd_name file cap (at + MEMBER_HEADER_SIZE) size)
      | None ↦ parsed_member_name file cap names (name_field file at)
    ]

-- a member: its index, the range of its data, after the name if that is at their start, and its
-- name as it is shown
pub record Member : Type 0 where
  pub index : ℕ
  pub extent : FileRange
  pub name : DisplayedName

-- the state of a walk over the members: the offset and the index of the next, and the table of
-- names, if there was one
pub record MemberWalkState : Type 0 where
  pub at : ℕ
  pub index : ℕ
  pub names : Option FileRange

-- what is at that offset: the file's end, nothing that is a member, or a member
pub data NextMember : Type 0 where
  Ends : NextMember
  Broken : Refusal → NextMember
  OneMember : Member → NextMember

-- a member whose data and name are known
abbrev pub member_named : MemberWalkState → FileRange → Result DisplayedName Cause → NextMember
member_named p extent (Ok name) = OneMember (record { index = p.index; extent = extent; name = name })
member_named p extent (Err cause) = Broken (record { at = p.at; cause = cause })

unfoldable pub next_member : List ℕ → ℕ → MemberWalkState → NextMember
next_member file cap p =
    if nat_lt p.at (length file) then
    elim (member_data file p.at) [
      | Err cause ↦ Broken (record { at = p.at; cause = cause })
      | Ok extent ↦ member_named p extent (member_name file cap p.names p.at)
    ] else Ends

-- the member whose header is at an offset is the table of names: its name is two slashes
abbrev pub is_name_table : List ℕ → ℕ → Bool
is_name_table file at = field file at 8 == 0x2020202020202f2f && field file (at + 8) 8 == 0x2020202020202020

-- the table of names after a member: the first one decides
abbrev pub names_behind : List ℕ → MemberWalkState → FileRange → Option FileRange
names_behind file p extent =
    elim p.names [ Some table ↦ Some table | None ↦ if is_name_table file p.at then Some extent else None ]

-- the offset after data that end at an offset, if the header is at another: after the byte of
-- padding, if all bytes after the header, including a name at their start, are odd in number
abbrev pub padded_end : (header end : ℕ) → ℕ
padded_end header end = end + (end - (header + MEMBER_HEADER_SIZE)) % 2

-- the walk after a member
abbrev pub behind : List ℕ → MemberWalkState → Member → MemberWalkState
behind file p m = record {
  at = padded_end p.at (m.extent.at + m.extent.size);
  index = p.index + 1;
  names = names_behind file p m.extent;
}

-- the walk before the first member
abbrev pub before_members : MemberWalkState
before_members = record { at = MAGIC_SIZE; index = 0; names = None }

-- members, and the refusal at the offset of the first that is none, if that is not the file's end
pub record Members : Type 0 where
  pub members : List Member
  pub refusal : Option Refusal

-- a member before those after it
abbrev pub with_member : Member → Members → Members
with_member member rest = record { members = member ∷ rest.members; refusal = rest.refusal }

-- the members from the state of a walk on, at most this many
unfoldable pub members_from : ℕ → List ℕ → ℕ → MemberWalkState → Members
members_from zero file cap p = record { members = []; refusal = None }
members_from (suc most) file cap p =
    elim (next_member file cap p) [
      | Ends ↦ record { members = []; refusal = None }
      | Broken refusal ↦ record { members = []; refusal = Some refusal }
      | OneMember member ↦ with_member member (members_from most file cap (behind file p member))
    ]

-- the members of an archive: each takes more than a byte, so there are fewer than the file has
unfoldable pub members_of : List ℕ → ℕ → Members
members_of file cap = members_from (length file) file cap before_members

-- the line of a member up to its name: its index, the offset and the size of its data
abbrev member_fields : ℕ → ℕ → ℕ → Fields
member_fields index at size = record {
  letter = codes "A";
  fields = Decimal (codes "index") 5 index ∷ Hexadecimal (codes "offset") 16 9 at ∷ Hexadecimal (codes "size") 16 9 size ∷ [];
}

unfoldable pub member_prefix : Format → ℕ → ℕ → ℕ → LinePrefix
member_prefix format index at size = front format (codes "name") (member_fields index at size)

-- the line of a member
abbrev pub member_line : Format → Member → List ℕ
member_line format m = named_line (member_prefix format m.index m.extent.at m.extent.size) m.name

-- a set of parts has one that a style knows: without one only the members' lines are listed
abbrev pub lists_members : ListingStyle → ℕ → Bool
lists_members style parts = not (known_parts style parts == 0)

-- a member's data begin like an ELF file
abbrev pub is_elf : List ℕ → Bool
is_elf content = nat_le ELF_MAGIC_SIZE (length content) && has_elf_magic content

-- the listing of a member that is an ELF file: that of its data as a file
abbrev pub member_listing : List ℕ → ℕ → ListingStyle → ℕ → Member → List ListingItem
member_listing file headers style parts m =
    let content = bytes_in file m.extent in
    if lists_members style parts && is_elf content then listing content headers style parts else []

-- items up to their first fault, with its line in place of the rest: the fault of a member's
-- listing ends only that listing
abbrev pub told : Format → List ListingItem → List ListingItem
told format [] = []
told format (Line text ∷ rest) = Line text ∷ told format rest
told format (Fault refusal ∷ rest) = Line (refusal_line format refusal) ∷ []

-- items that are listed only before a text that is not empty
abbrev pub before_some : (text : List ℕ) → List ListingItem → List ListingItem
before_some [] items = []
before_some (byte ∷ text) items = items

-- a line with items after it: it may be alone, or otherwise is listed only before a line of theirs
abbrev pub line_before : (alone : Bool) → List ℕ → List ListingItem → List ListingItem
line_before true line items = Line line ∷ items
line_before false line items = before_some (lines_of items) (Line line ∷ items)

-- what is listed of a member: its line, followed by its listing
abbrev pub member_items : (alone : Bool) → List ℕ → ℕ → ListingStyle → ℕ → Member → List ListingItem
member_items alone file headers style parts m =
    line_before alone (member_line style.format m) (told style.format (member_listing file headers style parts m))

-- what is listed of members
unfoldable pub members_items : (alone : Bool) → List ℕ → ℕ → ListingStyle → ℕ → List Member → List ListingItem
members_items alone file headers style parts [] = []
members_items alone file headers style parts (m ∷ ms) =
    member_items alone file headers style parts m ++ members_items alone file headers style parts ms

-- the end of an archive's listing: the refusal of the first member that is none
abbrev pub end_items : Option Refusal → List ListingItem
end_items None = []
end_items (Some refusal) = Fault refusal ∷ []

-- what is listed of members, and of the first that is none
unfoldable pub walk_items : (alone : Bool) → List ℕ → ℕ → ListingStyle → ℕ → Members → List ListingItem
walk_items alone file headers style parts walk =
    members_items alone file headers style parts walk.members ++ end_items walk.refusal

-- WHAT IS LISTED OF AN ARCHIVE, whose members' lines may be alone or not
unfoldable pub archive_items : (alone : Bool) → List ℕ → ℕ → ListingStyle → ℕ → List ListingItem
archive_items alone file headers style parts =
    guarded (archive_checks file) (walk_items alone file headers style parts (members_of file style.cap))

-- the text of an archive's listing, with this many bytes of a name, in the standards' names
abbrev pub archive : List ℕ → (headers cap parts : ℕ) → List ℕ
archive file headers cap parts = report_of Columns (archive_items true file headers (standard cap) parts)

-- the listing of a member is refused
abbrev pub is_refused : List ℕ → ℕ → ListingStyle → ℕ → Member → Bool
is_refused file headers style parts m = is_some (fault_of (member_listing file headers style parts m))
