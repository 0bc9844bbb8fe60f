use Rattle.elf_format.proofs.Pairs.{pairs_at}
use Rattle.elf_format.proofs.hexadecimal.hex_pair.Goals as goal

pub returns-clause-first : goal.returns-clause-first
returns-clause-first c = (pairs_at c.args.byte c.requires).0

pub returns-clause-last : goal.returns-clause-last
returns-clause-last c = (pairs_at c.args.byte c.requires).1
