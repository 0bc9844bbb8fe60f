use Rattle.std.proofs.Common.{◌<◌, ◌≤◌, take, arith}
use Rattle.elf_model.specs.Archive.{name_in_data}
use Rattle.elf_archive.proofs.MemberLaws.{data-none, data-short, data-told}
use Rattle.elf_archive.proofs.fields.data_within.Goals as goal

pub returns-in_default-clause-extent : goal.returns-in_default-clause-extent
returns-in_default-clause-extent c = λ file is sized. data-none file c.args.at (c.in_default.ensures.size file c.args.at is sized)

pub returns-then-size-name-clause-extent : goal.returns-then-size-name-clause-extent
returns-then-size-name-clause-extent c = λ file is sized.
    let told = c.in-Some.ensures.size file c.args.at is sized in
    let short : c.in-Some.size < name_in_data (take 16 c.args.header.now) = omega (arith, c.name_in_data-name.ensures.value) in
    data-short file c.args.header.now c.args.at c.in-Some.size is told short

pub returns-clause-extent : goal.returns-clause-extent
returns-clause-extent c = λ file is sized.
    let told = c.in-Some.ensures.size file c.args.at is sized in
    let room : name_in_data (take 16 c.args.header.now) ≤ c.in-Some.size = omega (arith, c.name_in_data-name.ensures.value) in
    rw c.name_in_data-name.ensures.value (data-told file c.args.header.now c.args.at c.in-Some.size is told room)
