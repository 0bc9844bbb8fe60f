use Rattle.std.proofs.Common.{refl, ap, ◌∙◌, arith}
use Rattle.elf_model.specs.Bytes.{slice}
use Rattle.elf_archive.proofs.MemberLaws.{data-none, size-short}
use Rattle.elf_archive.proofs.cursor.read_header.Goals as goal

pub returns-then-left-clause-read : goal.returns-then-left-clause-read
returns-then-left-clause-read g c = λ file held.
    let sized = c.args.src.now.seen.sized file held in
    rw c.refused.ensures (tt, λ other. (refl, data-none file c.args.at (size-short file c.args.at (omega (arith, sized)))))

pub returns-in-Some-clause-read : goal.returns-in-Some-clause-read
returns-in-Some-clause-read g c = λ file held.
    let sized = c.args.src.now.seen.sized file held in
    let read = c.in_ok-fill.ensures.read file held ∙ ap (slice file c.args.at) {y = 60} (omega arith) in
    (read, c.in-Some.ensures.extent file read (omega (arith, sized)))

pub returns-in-None-clause-read : goal.returns-in-None-clause-read
returns-in-None-clause-read g c = λ file held.
    let sized = c.args.src.now.seen.sized file held in
    let cut = c.in-None.ensures.extent file (c.in_ok-fill.ensures.read file held ∙ ap (slice file c.args.at) {y = 60} (omega arith)) (omega (arith, sized)) in
    rw c.refused-in-None.ensures (tt, λ other. (refl, cut))
