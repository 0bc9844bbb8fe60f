use Rattle.std.proofs.Common.{rules, arith, ap, sym, ◌∙◌}
use Rattle.elf_source.proofs.TurnLaws.{ended-is_known}
use Rattle.elf_source.proofs.stream_source.StreamSourceSource.fill.Goals as goal

pub read_all-answer-requires : goal.read_all-answer-requires
read_all-answer-requires g c = omega (arith, c.requires, ap (λ s. s.seen.size) c.self.view_is, c.self.inside.fits)

pub returns-else-eq-clause-faults : goal.returns-else-eq-clause-faults
returns-else-eq-clause-faults g c =
    let size = ap (λ s. s.seen.size) c.self.view_is in
    ended-is_known c.args.self.now.seen _ _ (search rules) (λ honest.
    let same = sym c.read_all-answer.ensures.same ∙ honest.gives in
    c.read_all-answer.ensures.fails honest.file same (omega (arith, c.requires, size, c.self.inside.sized honest.file same)))
