use Rattle.std.proofs.Common.{arith}
use Rattle.elf_image.proofs.RelaRowSteps.{passes}
use Rattle.elf_image.proofs.rela_rows.RelaRows.pass.Goals as goal

pub overflow_mul-rows : goal.overflow_mul-rows
overflow_mul-rows c = let a = c.requires.alive.1 in omega (arith, c.requires.some, a.small)

pub returns : goal.returns
returns c = passes c.args.self.now c.args.rows c.skip.new.self c.requires.some c.skip.ensures
