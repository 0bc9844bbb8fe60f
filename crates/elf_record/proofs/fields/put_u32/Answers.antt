use Rattle.std.proofs.Common.{ap, ◌∙◌, ◌++◌, append-nil}
use Rattle.elf_record.proofs.FieldReads.{bytes_written}
use Rattle.elf_record.proofs.fields.put_u32.Goals as goal

pub returns-clause-items : goal.returns-clause-items
returns-clause-items g c =
    c.put_bytes.ensures.items
    ∙ ap (λ bytes. c.args.out.now.items ++ bytes) (c.write_u32.ensures ∙ (append-nil _ ∙ bytes_written 4 c.args.value))
