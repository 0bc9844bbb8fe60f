-- MANY FILES LISTED, or checked with the members of archives: what is printed of one among them.
use Rattle.std.specs.Prelude.{ℕ, ◌+◌, ◌-◌, ◌^◌, ◌==◌, ◌&&◌, nat_le, nat_lt, not, min, Bool, true, false, if◌then◌else◌, List, [], ◌∷◌, ◌++◌, length, option_map, Option, None, Some, codes}
use Rattle.elf_model.specs.Archive.{ARCHIVE_MAGIC, MAGIC_SIZE, THIN_MAGIC, Member, archive_checks, member_listing, members_of}
use Rattle.elf_model.specs.Bytes.{field}
use Rattle.elf_model.specs.Checks.{first_refusal}
use Rattle.elf_model.specs.Choice.{RowFilter, EveryRow, RowsOf}
use Rattle.elf_model.specs.Fields.{Fields, LinePrefix, front}
use Rattle.elf_model.specs.Lines.{named_line}
use Rattle.elf_model.specs.Listing.{fault_of}
use Rattle.elf_model.specs.Names.DisplayedName.{Whole}
use Rattle.elf_model.specs.Records.{ELF_MAGIC_SIZE, has_elf_magic}
use Rattle.elf_model.specs.Style.{ListingStyle}
use Rattle.elf_model.specs.declared.causes.Cause.TheVariants.{Budget}
use Rattle.elf_model.specs.declared.causes.Refusal.{Refusal}
use Rattle.elf_model.specs.declared.formats.Format.{Format}
use Rattle.elf_model.specs.declared.states.FileMagic.{FileMagic}
use Rattle.elf_model.specs.declared.states.FileMagic.TheVariants as sort

-- the line before what is listed of a file: its path
abbrev path_fields : Fields
path_fields = record { letter = codes "@"; fields = [] }

unfoldable pub path_front : Format → LinePrefix
path_front format = front format (codes "path") path_fields

abbrev pub path_line : Format → List ℕ → List ℕ
path_line format path = named_line (path_front format) (Whole path)

-- WHAT IS WRITTEN OF A FILE: the line of its path, followed by what is listed of it; if rows are
-- selected by their names, the line of the path is written only before something that is listed
abbrev pub headed : RowFilter → (line text : List ℕ) → List ℕ
headed EveryRow line text = line ++ text
headed (RowsOf names) line [] = []
headed (RowsOf names) line (byte ∷ text) = line ++ (byte ∷ text)

-- in a list of files the lines of an archive's members may be alone if all rows are shown: if rows
-- are selected by their names they too are written only before something that is listed
abbrev pub members_alone : RowFilter → Bool
members_alone EveryRow = true
members_alone (RowsOf names) = false

-- the exit status of a written listing: 1 if it has the line of a refusal, its own or that of a
-- member
abbrev pub list_status : Option Refusal → (member_refused : Bool) → ℕ
list_status None member_refused = if member_refused then 1 else 0
list_status (Some refusal) member_refused = 1

-- how many of its first bytes decide what a file of this many bytes is: if archives are read, those
-- of their magic string
abbrev pub front_size : Bool → ℕ → ℕ
front_size true size = if nat_lt size MAGIC_SIZE then ELF_MAGIC_SIZE else MAGIC_SIZE
front_size false size = ELF_MAGIC_SIZE

-- a budget has this many bytes
abbrev pub may_read_bytes : Option ℕ → ℕ → Bool
may_read_bytes None n = true
may_read_bytes (Some budget) n = not (nat_lt budget n)

-- a file begins with a magic string
abbrev begins_with : ℕ → List ℕ → Bool
begins_with magic file = nat_le MAGIC_SIZE (length file) && field file 0 8 == magic

-- WHAT A FILE IS, by its first bytes. One that has fewer than a magic number is not ELF; if its
-- first bytes exceed the budget it is not decided
unfoldable pub file_magic : (members : Bool) → Option ℕ → List ℕ → FileMagic
file_magic members budget file =
    if nat_lt (length file) ELF_MAGIC_SIZE then sort.Foreign
    else if not (may_read_bytes budget (front_size members (length file))) then sort.Undecided
    else if has_elf_magic file then sort.Elf
    else if members && begins_with ARCHIVE_MAGIC file then sort.Archive
    else if members && begins_with THIN_MAGIC file then sort.Thin
    else sort.Foreign

-- the refusal of a file of which that is not decided
abbrev pub undecided : Refusal
undecided = record { at = 0; cause = Budget }

-- ARCHIVES CHECKED. A refusal of a member whose data begin at an offset, counted from the archive's
-- first byte, as far as 64 bits go
abbrev pub placed_after : ℕ → Refusal → Refusal
placed_after start refusal = record { at = min (start + refusal.at) (2 ^ 64 - 1); cause = refusal.cause }

-- the fault of a member's listing
abbrev pub member_fault : List ℕ → ℕ → ListingStyle → ℕ → Member → Option Refusal
member_fault file headers style parts m = option_map (placed_after m.extent.at) (fault_of (member_listing file headers style parts m))

-- the first of members, or that of the walk
unfoldable pub first_fault : List ℕ → ℕ → ListingStyle → ℕ → List Member → Option Refusal → Option Refusal
first_fault file headers style parts [] walk = walk
first_fault file headers style parts (m ∷ ms) walk = elim (member_fault file headers style parts m) [
  | Some refusal ↦ Some refusal
  | None ↦ first_fault file headers style parts ms walk
]

-- THE FAULT OF AN ARCHIVE: the first in order of its own checks, of its members' listings, and of
-- the walk over them
unfoldable pub archive_fault : List ℕ → ℕ → ListingStyle → ℕ → Option Refusal
archive_fault file headers style parts = elim (first_refusal (archive_checks file)) [
  | Some refusal ↦ Some refusal
  | None ↦
      let walk = members_of file style.cap in
      first_fault file headers style parts walk.members walk.refusal
]
