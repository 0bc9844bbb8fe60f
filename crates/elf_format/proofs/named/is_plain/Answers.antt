-- A printing ASCII character that is no quotation mark and no backslash is unchanged.
use Rattle.elf_format.proofs.NameText.{plain}
use Rattle.elf_format.proofs.named.is_plain.Goals as goal

pub returns : goal.returns
returns c = λ format holds. plain format c.args.byte c.if-byte-lt32.false c.if-byte-gt126.false c.if-byte-eq34.false c.if-byte-eq92.false
