-- Laws of archives.
use Rattle.std.specs.Prelude.{ℕ, ◌≡◌, ◌+◌, ◌≤◌, List, length}
use Rattle.elf_model.specs.Archive.{Member, OneMember, MemberWalkState, MEMBER_HEADER_SIZE, next_member}
use Rattle.elf_model.specs.ArchiveCost.{archive_ceiling, archive_cost}
use Rattle.elf_model.specs.Style.{ListingStyle}

-- a member's data follow its header and end within the file
abbrev pub DataLieInTheFile : Type 0
DataLieInTheFile =
    (file : List ℕ) (cap : ℕ) (p : MemberWalkState) (m : Member)
    → next_member file cap p ≡ OneMember m
    → (p.at + MEMBER_HEADER_SIZE ≤ m.extent.at) × (m.extent.at + m.extent.size ≤ length file)

-- THE BOUND: no listing of an archive costs more than the ceiling of its length, for any bytes
abbrev pub ArchiveCostIsWithinCeiling : Type 0
ArchiveCostIsWithinCeiling =
    (file : List ℕ) (headers : ℕ) (style : ListingStyle) (parts : ℕ)
    → archive_cost file headers style parts ≤ archive_ceiling (length file) headers style
