-- The header of a member of an archive, and where its data are.
use Rattle.std.specs.Prelude.{ℕ, ◌≡◌, ◌+◌, ◌^◌, ◌<◌, ◌≤◌, List, length, Option, None, Some, Result, Ok, Err}
use Rattle.elf_archive.specs.Members.{extent_of}
use Rattle.elf_archive.specs.declared.member.FileRange.{FileRange as Place}
use Rattle.elf_model.specs.Archive.{FileRange, member_data}
use Rattle.elf_model.specs.Bytes.{slice}
use Rattle.elf_model.specs.declared.causes.Cause.{Cause}
use Rattle.elf_model.specs.declared.link_states.LinkCause.TheVariants.{Refused}
use Rattle.elf_model.specs.declared.link_states.LinkRefusal.{LinkRefusal}
use Rattle.elf_resolve.specs.Taken.{IsLinkFault}
use Rattle.elf_resolve.specs.declared.link_faults.LinkFault.{LinkFault}

-- they begin after the header at an offset, and end within a file of fewer than 2^63 bytes
abbrev pub LiesAfterHeader : (at start size : ℕ) → Type 0
LiesAfterHeader at start size = (at + 60 ≤ start) × (start + size < 2 ^ 63)

-- A HEADER READ: the member's data are known by it
pub record ReadMemberHeader (file : List ℕ) (at : ℕ) (header : List ℕ) (extent : FileRange) : Type 0 where
  pub below : at < length file
  pub bytes : header ≡ slice file at 60
  pub data_are : member_data file at ≡ Ok extent

-- why there is no member at an offset
abbrev pub member_refused : (at : ℕ) → Result FileRange Cause → Option LinkRefusal
member_refused at (Ok extent) = None
member_refused at (Err cause) = Some (record { at = at; cause = Refused cause })

abbrev pub ReadsMemberHeader : List ℕ → (at : ℕ) → (header : List ℕ) → Result Place LinkFault → Type 0
ReadsMemberHeader file at header (Ok place) = ReadMemberHeader file at header (extent_of place)
ReadsMemberHeader file at header (Err fault) = length file < 2 ^ 63 → IsLinkFault (member_refused at (member_data file at)) fault
