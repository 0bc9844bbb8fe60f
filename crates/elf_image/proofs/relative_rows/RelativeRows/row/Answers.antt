use Rattle.std.proofs.Common.{Some, refl}
use Rattle.elf_image.proofs.RelativeSteps.{in-range, out-of-range, too-low}
use Rattle.elf_image.proofs.relative_rows.RelativeRows.row.Goals as goal
use Rattle.elf_image.proofs.relative_rows.RelativeRows.row.Goals.{then-address-gt-MAX_ADDRESS-via-then-address-gt-MAX_ADDRESS, then-address-gt-MAX_ADDRESS-via-else-address-gt-MAX_ADDRESS+then-address-self}

pub returns-then-address-gt-MAX_ADDRESS-clause-takes : goal.returns-then-address-gt-MAX_ADDRESS-clause-takes
returns-then-address-gt-MAX_ADDRESS-clause-takes c = λ after. rw c.refused.ensures
    (λ fits. (
      Some c.args.address,
      after,
      refl,
      refl,
      elim c.then-address-gt-MAX_ADDRESS.branch [
        | then-address-gt-MAX_ADDRESS-via-then-address-gt-MAX_ADDRESS w ↦ out-of-range c.args.address c.args.self.now.low w.if-address-gt-MAX_ADDRESS.true
        | then-address-gt-MAX_ADDRESS-via-else-address-gt-MAX_ADDRESS+then-address-self w ↦ too-low c.args.address c.args.self.now.low w.if-address-self.true
      ],
    ))

pub returns-clause-takes : goal.returns-clause-takes
returns-clause-takes c = λ after. (refl, in-range c.args.address c.args.self.now.low c.if-address-gt-MAX_ADDRESS.false c.if-address-self.false, refl)
