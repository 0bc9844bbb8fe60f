-- The first bytes and the last 64 are all of them.
use Rattle.std.proofs.Common.{rules}
use Rattle.elf_source.proofs.LocatedLaws.{none_of_all}
use Rattle.elf_source.proofs.located_sink.has_no_newline.Goals as goal

pub returns-in-Some : goal.returns-in-Some
returns-in-Some c = λ holds.
    let front = c.front_without_newline-count in
    let found = rw c.in-Some.is at c.last_chunk.ensures.cases in
    none_of_all c.args.bytes.now c.in-Some.last.now front.result (search rules) found.0 found.1.same front.ensures.none (λ k less. c.has_none.ensures k (search rules) less)
