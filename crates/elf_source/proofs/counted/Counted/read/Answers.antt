use Rattle.std.proofs.Common.{ap, ◌∙◌, length}
use Rattle.elf_source.specs.Source.{CountedState}
use Rattle.elf_source.proofs.HidingLaws.{read_shown, read_hidden}
use Rattle.elf_source.proofs.counted.Counted.read.Goals as goal
use Rattle.elf_source.proofs.counted.Counted.read.Goals.{then-self, else-self}

pub returns-clause-slice : goal.returns-clause-slice
returns-clause-slice g c = λ file held.
    let is = ap (λ (v : CountedState). v.seen.file) c.self.view_is ∙ held in
    elim c.if-self.branch [
      | then-self w ↦ w.out-is ∙ w.hide.ensures ∙ read_hidden c.self.inside.hides _ c.args.at (length c.args.out.now) c.fill.new.out file w.if-self.true is c.in_default.ensures.slice
      | else-self w ↦ w.out-is ∙ read_shown c.self.inside.hides _ c.args.at (length c.args.out.now) c.fill.new.out file w.if-self.false is c.in_default.ensures.slice
    ]
