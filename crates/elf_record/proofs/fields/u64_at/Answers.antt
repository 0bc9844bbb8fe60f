use Rattle.std.proofs.Common.{sym, ap, ◌∙◌}
use Rattle.std.proofs.lemmas.List.{take_rest}
use Rattle.byteorder.specs.Endian.{little_number}
use Rattle.elf_record.proofs.FieldReads.{field_read}
use Rattle.elf_record.proofs.fields.u64_at.Goals as goal

pub returns : goal.returns
returns c =
    c.read_u64.ensures
    ∙ (ap (little_number 8) (take_rest c.args.bytes.now c.args.at) ∙ sym (field_read c.args.bytes.now c.args.at 8 c.requires))
