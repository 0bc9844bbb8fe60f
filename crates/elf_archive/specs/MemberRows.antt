-- Members of an archive in memory, for a caller to iterate over.
use Rattle.std.specs.Prelude.{ℕ, ◌≡◌, ◌+◌, ◌≤◌, ◌==◌, not, true, false, List, length, Option, None, Some, Result, Ok, Err}
use Rattle.elf_model.specs.Prelude.{DisplayedName, FileRange, Member, MemberWalkState, OneMember, archive_checks, before_members, behind, bytes_in, capped, first_refusal, next_member, shown_as, slice}
use Rattle.elf_model.specs.declared.causes.Cause.{Cause}
use Rattle.elf_model.specs.declared.causes.Refusal.{Refusal}
use Rattle.elf_model.specs.Archive.{Ends, Broken}
use Rattle.elf_table.specs.declared.byte_range.ByteRange.{ByteRange}
use Rattle.elf_archive.specs.declared.rows.MemberRow.{MemberRow}
use Rattle.elf_archive.specs.declared.rows.MemberPosition.{MemberPosition}
use Rattle.elf_archive.specs.declared.rows.MemberName.{MemberName}

-- the bytes of a range
abbrev pub extent_in : ByteRange → FileRange
extent_in range = record { at = range.at; size = range.len }

-- the table of names of a position, if it has one; it may be any bytes
abbrev pub names_in : MemberPosition → Option FileRange
names_in place = elim (place.has_names == 0) [ true ↦ None | false ↦ Some (extent_in place.names) ]

-- the walk at a position, with some index for the next member: a position counts none
abbrev pub walk_at : ℕ → MemberPosition → MemberWalkState
walk_at index place = record { at = place.at; index = index; names = names_in place }

-- the member of a row: its name is the bytes at the location in the row
abbrev pub member_in : List ℕ → ℕ → MemberRow → Member
member_in file index row =
    record { index = index; extent = extent_in row.content; name = shown_as (not (row.is_cut == 0)) (bytes_in file (extent_in row.name)) }

-- a name of the given size at an offset is found: it is shown with at most 4,096 bytes, which lie
-- in the file
abbrev pub NamesMember : List ℕ → ℕ → ℕ → MemberName → Type 0
NamesMember file at size named =
    (capped 4096 (slice file at size) ≡ shown_as named.is_cut (bytes_in file (extent_in named.place))) × (named.place.at + named.place.len ≤ length file)

-- the location of a name is found, or its cause
abbrev pub FindsMemberName : List ℕ → Result MemberName Cause → Result DisplayedName Cause → Type 0
FindsMemberName file (Ok named) answer =
    (answer ≡ Ok (shown_as named.is_cut (bytes_in file (extent_in named.place)))) × (named.place.at + named.place.len ≤ length file)
FindsMemberName file (Err cause) answer = answer ≡ Err cause

-- a row gives the next member of a walk, and the walk goes on after it; its data and its name lie
-- in the file
pub record ReturnsRow (file : List ℕ) (old new : MemberPosition) (row : MemberRow) : Type 0 where
  pub member : (index : ℕ) → next_member file 4096 (walk_at index old) ≡ OneMember (member_in file index row)
  pub goes_on : (index : ℕ) → walk_at (index + 1) new ≡ behind file (walk_at index old) (member_in file index row)
  pub header : row.at ≡ old.at
  pub content : row.content.at + row.content.len ≤ length file
  pub name : row.name.at + row.name.len ≤ length file
  pub further : old.at + 60 ≤ new.at
  pub flag : row.is_cut ≤ 1
  pub nothing : (row.none ≡ 0) × (new.none ≡ old.none)

-- A STEP over the next member of a walk: its row; or the walk is at the file's end; or there is no
-- valid member, for this cause. Names are shown with at most 4,096 bytes
abbrev pub StepsMember : List ℕ → MemberPosition → MemberPosition → Result (Option MemberRow) Refusal → Type 0
StepsMember file old new (Ok (Some row)) = ReturnsRow file old new row
StepsMember file old new (Ok None) = (new ≡ old) × ((index : ℕ) → next_member file 4096 (walk_at index old) ≡ Ends)
StepsMember file old new (Err refusal) = (new ≡ old) × ((index : ℕ) → next_member file 4096 (walk_at index old) ≡ Broken refusal)

-- WHAT A CALLER HAS of an archive: a position before its first member, or the first check that
-- fails
abbrev pub OpensMembers : List ℕ → Result (Option MemberPosition) Refusal → Type 0
OpensMembers file (Ok (Some place)) =
    (first_refusal (archive_checks file) ≡ None) × (walk_at 0 place ≡ before_members) × (place.names ≡ record { at = 0; len = 0 }) × (place.none ≡ 0)
OpensMembers file (Ok None) = ⊥
OpensMembers file (Err refusal) = first_refusal (archive_checks file) ≡ Some refusal
