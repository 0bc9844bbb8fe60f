use Rattle.std.proofs.Common.{◌≤◌, length, arith}
use Rattle.elf_resolve.proofs.MemberFaultLaws.{cut_past_end}
use Rattle.elf_resolve.proofs.archives.read_header_at.Goals as goal
use Rattle.elf_resolve.proofs.archives.read_header_at.Goals.{then-length-via-then-length, then-length-via-else-length+then-at-length}

pub returns-then-length-clause-reads : goal.returns-then-length-clause-reads
returns-then-length-clause-reads g c = λ file held small.
    let sized = c.args.src.now.seen.sized file held in
    let past : length file ≤ c.args.at = elim c.then-length.branch [ then-length-via-then-length w ↦ absurd (omega (arith, sized, small)) | then-length-via-else-length+then-at-length w ↦ omega (arith, sized) ] in
    rw c.member_cut.ensures (cut_past_end file c.args.at past)
