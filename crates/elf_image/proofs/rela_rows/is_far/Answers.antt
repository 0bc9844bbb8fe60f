use Rattle.std.proofs.Common.{◌∙◌, ap, sym, arith}
use Rattle.elf_image.specs.RelaRows.{is_in_reach}
use Rattle.elf_image.proofs.RelaRowSteps.{far-bytes, untrue}
use Rattle.elf_image.proofs.rela_rows.is_far.Goals as goal

pub returns : goal.returns
returns c = λ no.
    far-bytes c.args.row.now c.args.reach.now (let f = c.type_inv.row 8 in omega (arith, f)) c.if-kind-eq-COPY.false c.if-kind-eq-IRELATIVE.false
    (ap (is_in_reach c.args.reach.now) (sym c.u64_at.ensures) ∙ (sym c.has.ensures ∙ untrue c.has.result no))
