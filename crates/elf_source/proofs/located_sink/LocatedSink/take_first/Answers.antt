-- The location is inserted before the first byte after the letter's member.
use Rattle.elf_source.proofs.LocatedLaws.{first_adds}
use Rattle.elf_source.proofs.located_sink.LocatedSink.take_first.Goals as goal

pub returns-clause-adds : goal.returns-clause-adds
returns-clause-adds g c = λ buffer is.
    first_adds buffer c.args.self.now c.insert.new.self c.take_rest.new.self c.take_rest.result c.args.bytes.now c.requires.place c.insert.ensures.position c.insert.ensures.keeps
    (c.insert.ensures.appends buffer is) c.take_rest.ensures.for_good c.take_rest.ensures.some (c.take_rest.ensures.adds buffer)
