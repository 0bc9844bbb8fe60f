-- The bytes of a letter's member are passed on as they are.
use Rattle.std.proofs.Common.{rules}
use Rattle.elf_source.proofs.LocatedLaws.{letter_adds}
use Rattle.elf_source.proofs.located_sink.LocatedSink.take_letter.Goals as goal

pub returns-clause-adds : goal.returns-clause-adds
returns-clause-adds g c = λ buffer.
    let s = c.self.inside in
    rw (← c.self.view_is)
    (letter_adds buffer _ _ _ _ s.buffer s.place s.letter c.letter_after-self-inside.result c.in_ok-count.count c.min-most.result c.args.bytes.now (search rules) (search rules) (search rules) (search rules) (search rules))
