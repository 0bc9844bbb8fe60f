use Rattle.std.proofs.Common.{rules, refl, ap, ◌∙◌, ◌*◌}
use Rattle.elf_table.specs.Tables.{TableRange}
use Rattle.elf_reloc.proofs.WalkSteps.{cost-begins, left-begins}
use Rattle.elf_reloc.proofs.walk.RelocationWalk.new.Goals as goal

pub returns : goal.returns
returns c = record {
  begins = search rules;
  left = λ target. cost-begins target _ c.new-2.ensures.failed (c.new-2.ensures.unread ∙ ap (λ (t : TableRange). t.count * t.entry) c.new.ensures) (c.new-2.ensures.left ∙ ap (λ (t : TableRange). t.count) c.new.ensures) refl;
  none = search rules;
  reads = search rules;
  changes = λ file target. left-begins file target _ (c.new-2.ensures.left ∙ ap (λ (t : TableRange). t.count) c.new.ensures) refl;
}
