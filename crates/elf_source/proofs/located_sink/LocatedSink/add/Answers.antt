-- The letter's member is passed on, and what follows it with the location.
use Rattle.std.proofs.Common.{◌≡◌, ◌∙◌, Some}
use Rattle.elf_source.proofs.LocatedLaws.{adds_both}
use Rattle.elf_source.proofs.located_sink.LocatedSink.add.Goals as goal

pub returns-then-count-bytes-clause-adds : goal.returns-then-count-bytes-clause-adds
returns-then-count-bytes-clause-adds g c = λ buffer is is_at. c.in_ok-count.ensures.adds buffer

pub returns-in-Ok-clause-adds : goal.returns-in-Ok-clause-adds
returns-in-Ok-clause-adds g c = λ buffer is is_at.
    let keeps : c.take_letter.new.self.buffer ≡ Some buffer = c.in_ok-count.ensures.keeps ∙ is in
    adds_both buffer c.args.self.now c.take_letter.new.self c.take_after-2.new.self c.args.bytes.now c.in_ok-count.count c.in-Ok.more (c.in_ok-count.ensures.adds buffer)
    (rw c.in-Ok.is at (c.take_after-2.ensures.adds buffer keeps))
