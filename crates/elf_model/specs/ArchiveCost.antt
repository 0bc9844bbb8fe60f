-- How many bytes the listing of an archive reads at most, and its upper bound.
use Rattle.std.specs.Prelude.{ℕ, zero, suc, ◌<◌, ◌+◌, ◌*◌, ◌/◌, ◌||◌, nat_le, is_some, if◌then◌else◌, Bool, List, length, Option, None, Some, ◌⊎◌}
use Rattle.std.specs.List.{list_any}
use Rattle.elf_model.specs.Archive.{Member, Ends, Broken, OneMember, MemberWalkState, MAGIC_SIZE, MEMBER_HEADER_SIZE, archive_checks, archive_items, before_members, behind, bsd_name_length, bytes_in, is_elf, is_refused, lists_members, long_offset, members_of, name_field, next_member}
use Rattle.elf_model.specs.Budget.{IsCut, IsReport}
use Rattle.elf_model.specs.Checks.{pass}
use Rattle.elf_model.specs.Cost.{cost_where, listing_cost, located_most, style_ceiling, suffixes_most}
use Rattle.elf_model.specs.Lines.{refusal_line}
use Rattle.elf_model.specs.Names.{name_bytes, pad64}
use Rattle.elf_model.specs.Records.{ELF_MAGIC_SIZE}
use Rattle.elf_model.specs.Style.{ListingStyle, follows_dynamic}
use Rattle.elf_model.specs.declared.causes.Refusal.{Refusal}

-- the bytes that a name costs at most that is not in its field: cap + 2 rounded up to pieces of 64
abbrev pub long_name_bytes : ℕ → ℕ
long_name_bytes cap = pad64 (cap + 2)

-- a name is not in its field, but in the table of names or at the start of the member's data
unfoldable pub is_elsewhere : List ℕ → Bool
is_elsewhere bytes = is_some (bsd_name_length bytes) || is_some (long_offset bytes)

-- the next member costs its header, if that is within the file, and its name if that is elsewhere
unfoldable pub header_cost : List ℕ → ℕ → MemberWalkState → ℕ
header_cost file cap p =
    cost_where (nat_le (p.at + MEMBER_HEADER_SIZE) (length file))
    (MEMBER_HEADER_SIZE + cost_where (is_elsewhere (name_field file p.at)) (long_name_bytes cap))

-- a member's listing costs the four bytes that say whether it is an ELF file, and what that file's
-- listing does
unfoldable pub member_cost : List ℕ → ℕ → ListingStyle → ℕ → Member → ℕ
member_cost file headers style parts m =
    let content = bytes_in file m.extent in
    cost_where (lists_members style parts) (ELF_MAGIC_SIZE + cost_where (is_elf content) (listing_cost content headers style parts))

-- what the members cost from the state of a walk on, at most this many, and the first that is none
unfoldable pub members_cost : ℕ → List ℕ → ℕ → ListingStyle → ℕ → MemberWalkState → ℕ
members_cost zero file headers style parts p = 0
members_cost (suc most) file headers style parts p =
    header_cost file style.cap p
    + elim (next_member file style.cap p) [
      | Ends ↦ 0
      | Broken refusal ↦ 0
      | OneMember member ↦
          member_cost file headers style parts member + members_cost most file headers style parts (behind file p member)
    ]

-- how many bytes the listing of an archive reads at most
unfoldable pub archive_cost : List ℕ → ℕ → ListingStyle → ℕ → ℕ
archive_cost file headers style parts =
    MAGIC_SIZE
    + cost_where (pass (archive_checks file)) (members_cost (length file) file headers style parts before_members)

-- what the tables in this many bytes may cost that one header describes
abbrev pub data_most : ℕ → ListingStyle → ℕ
data_most size style =
    size + size / 16 * (32 + name_bytes style.cap) + (if style.versions then suffixes_most size style.cap else 0)

-- what this many bytes of a file may cost, with this many headers: the tables of each, and once what
-- dynamic entries locate
abbrev pub data_ceiling : (size headers : ℕ) → ListingStyle → ℕ
data_ceiling size headers style =
    headers * data_most size style + cost_where (follows_dynamic style) (located_most size style.cap)

-- what members in this many bytes may cost: for each 60 bytes a header, a name elsewhere, the four
-- bytes that mark an ELF file and what an empty file may cost, and what the data may
abbrev pub allowance : (room headers : ℕ) → ListingStyle → ℕ
allowance room headers style =
    room / MEMBER_HEADER_SIZE * (64 + long_name_bytes style.cap + style_ceiling 0 headers style) + data_ceiling room headers style

-- the upper bound of the listing of an archive of this many bytes: for each 60 bytes a member's
-- header, a name elsewhere, the four bytes that mark an ELF file, and what an empty file may cost;
-- and once what a file of all bytes may
unfoldable pub archive_ceiling : (size headers : ℕ) → ListingStyle → ℕ
archive_ceiling size headers style =
    MAGIC_SIZE
    + size / MEMBER_HEADER_SIZE * (64 + long_name_bytes style.cap + style_ceiling 0 headers style)
    + style_ceiling size headers style

-- what the listing of an archive within a budget writes, and the fault that it returns: the whole,
-- or a prefix of whole lines if it costs more than the budget
abbrev pub IsArchiveBudgeted : (alone : Bool) → Option ℕ → List ℕ → ℕ → ListingStyle → ℕ → List ℕ → Option Refusal → Type 0
IsArchiveBudgeted alone None file headers style parts text fault =
    IsReport (refusal_line style.format) (archive_items alone file headers style parts) text fault
IsArchiveBudgeted alone (Some budget) file headers style parts text fault =
    IsReport (refusal_line style.format) (archive_items alone file headers style parts) text fault
    ⊎ ((budget < archive_cost file headers style parts)
    × IsCut style.format (length file) (archive_items alone file headers style parts) text fault)

-- the listing of a member is refused
abbrev pub any_refused : List ℕ → ℕ → ListingStyle → ℕ → Bool
any_refused file headers style parts = list_any (is_refused file headers style parts) (members_of file style.cap).members
