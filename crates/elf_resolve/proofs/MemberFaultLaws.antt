-- Faults of a link that reads of the members of an archive have.
use Rattle.std.proofs.Common.{◌≤◌, ℕ, List, length, ap, inr}
use Rattle.elf_model.specs.Archive.{member_data}
use Rattle.elf_model.specs.declared.causes.Cause.TheVariants.{MemberCut}
use Rattle.elf_model.specs.declared.link_states.LinkCause.TheVariants as cause
use Rattle.elf_resolve.specs.MemberExtents.{member_refused}
use Rattle.elf_resolve.specs.Taken.{IsLinkFault}
use Rattle.elf_resolve.specs.declared.link_faults.LinkFault.TheVariants as fault
use Rattle.elf_resolve.proofs.MemberWalks.{no_data_past}

-- no member after the end of a file
pub cut_past_end : (file : List ℕ) (at : ℕ) → length file ≤ at → IsLinkFault (member_refused at (member_data file at)) (fault.Refused (record { at = at; cause = cause.Refused MemberCut }))
cut_past_end file at past = inr (ap (λ found. member_refused at found) (no_data_past file at past))
