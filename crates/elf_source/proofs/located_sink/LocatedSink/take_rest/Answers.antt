-- The rest of a line is passed on as it is, and after its newline the next line begins.
use Rattle.std.proofs.Common.{rules, ◌≡◌, ◌∙◌, ap}
use Rattle.elf_source.proofs.LocatedLaws.{rest_ended, rest_goes_on}
use Rattle.elf_source.proofs.located_sink.LocatedSink.take_rest.Goals as goal

pub returns-then-bytes-count-eq10-clause-adds : goal.returns-then-bytes-count-eq10-clause-adds
returns-then-bytes-count-eq10-clause-adds g c = λ buffer.
    let s = c.self.inside in
    let place : s.place ≡ 12 = ap (λ s. s.position.place) c.self.view_is ∙ c.requires.place in
    let end = c.line_end-end in
    rw (← c.self.view_is)
    (rest_ended buffer _ _ _ _ s.buffer s.place s.letter end.result c.in_ok-count.count c.args.bytes.now place (search rules) end.ensures.within.1 (search rules) end.ensures.one (search rules) c.if-bytes-count-eq10.true)

pub returns-else-bytes-count-eq10-clause-adds : goal.returns-else-bytes-count-eq10-clause-adds
returns-else-bytes-count-eq10-clause-adds g c = λ buffer.
    let s = c.self.inside in
    let place : s.place ≡ 12 = ap (λ s. s.position.place) c.self.view_is ∙ c.requires.place in
    let end = c.line_end-end in
    rw (← c.self.view_is)
    (rest_goes_on buffer _ _ _ _ s.buffer s.place s.letter end.result c.in_ok-count.count c.args.bytes.now place (search rules) end.ensures.within.1 (search rules) end.ensures.one (search rules) c.if-bytes-count-eq10.false)
