use Rattle.std.proofs.Common.{arith}
use Rattle.elf_walk.proofs.HeldLaws.{short_taken}
use Rattle.elf_walk.proofs.dir_names.name_at.Goals as goal

pub returns-then-len-rest-clause-short : goal.returns-then-len-rest-clause-short
returns-then-len-rest-clause-short c = let short = short_taken c.from-len.result c.if-start-bytes.rest.now in omega (arith, c.from-len.ensures)

pub returns-else-len-rest-clause-short : goal.returns-else-len-rest-clause-short
returns-else-len-rest-clause-short c = omega (arith, c.from-len.ensures)
