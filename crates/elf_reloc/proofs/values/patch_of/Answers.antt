use Rattle.std.proofs.Common.{Ok, length, ap, sym, ◌∙◌, true, false}
use Rattle.elf_model.proofs.ChangeLaws.{length-little}
use Rattle.elf_reloc.proofs.ValueSteps.{patch_by}
use Rattle.elf_reloc.proofs.values.patch_of.Goals as goal

pub returns-then-not-fits-clause-value : goal.returns-then-not-fits-clause-value
returns-then-not-fits-clause-value c =
    patch_by c.args.b c.args.a c.args.p c.args.found c.calculated-number.result false c.ranges.a
    c.calculated-number.ensures (sym c.if-not-fits.true ∙ c.fits.ensures)

pub returns-clause-value : goal.returns-clause-value
returns-clause-value c =
    ap Ok c.new.ensures ∙
    patch_by c.args.b c.args.a c.args.p c.args.found c.calculated-number.result true c.ranges.a
    c.calculated-number.ensures (sym c.if-not-fits.false ∙ c.fits.ensures)

pub returns-clause-width : goal.returns-clause-width
returns-clause-width c = ap length c.new.ensures ∙ length-little c.args.found.width c.calculated-number.result
