-- A name of at most forty bytes takes no more room in an object.
use Rattle.std.proofs.Common.{arith}
use Rattle.elf_format.proofs.fields.put_name_or_sign.Goals as goal

pub returns-in-Object-clause-len : goal.returns-in-Object-clause-len
returns-in-Object-clause-len g c =
    let most = c.put_name_or_number.ensures.len 40 c.requires.short in omega arith
