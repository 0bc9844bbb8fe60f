-- The encoder's digits are the bytes in hexadecimal.
use Rattle.std.proofs.Common.{◌∙◌, arith}
use Rattle.elf_format.proofs.HexText.{encoded}
use Rattle.elf_format.proofs.properties.put_digits.Goals as goal

pub returns-clause-items : goal.returns-clause-items
returns-clause-items c =
    let written = rw c.unwrap.ensures at c.encode_to_slice.ensures.written in
    let digits = written ∙ encoded c.args.bytes.now (λ i. omega (arith, c.type_inv.bytes i)) in
    rw digits at c.append.ensures.items
