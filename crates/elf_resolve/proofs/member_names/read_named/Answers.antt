use Rattle.std.proofs.Common.{◌≤◌, inr, length, ap, arith}
use Rattle.elf_model.specs.Archive.{member_name}
use Rattle.elf_model.specs.LinkArchives.{LINK_NAME_BYTES}
use Rattle.elf_archive.specs.Members.{extent_of_names}
use Rattle.elf_resolve.specs.MemberNames.{named_refusal}
use Rattle.elf_resolve.proofs.MemberWalks.{no_data_past}
use Rattle.elf_resolve.proofs.member_names.read_named.Goals as goal
use Rattle.elf_resolve.proofs.member_names.read_named.Goals.{then-length-via-then-length, then-length-via-else-length+then-at-length}

pub returns-then-length-clause-reads : goal.returns-then-length-clause-reads
returns-then-length-clause-reads g c = λ file held within.
    let sized = c.args.src.now.seen.sized file held in
    rw c.file_refused.ensures (λ small.
    let past : length file ≤ c.args.at = elim c.then-length.branch [ then-length-via-then-length w ↦ absurd (omega (arith, sized, small)) | then-length-via-else-length+then-at-length w ↦ omega (arith, sized) ] in
    inr (ap (λ found. named_refusal c.args.at found (member_name file LINK_NAME_BYTES (extent_of_names c.args.names) c.args.at)) (no_data_past file c.args.at past)))
