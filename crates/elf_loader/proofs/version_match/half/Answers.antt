use Rattle.std.proofs.Common.{◌∙◌, arith}
use Rattle.elf_record.proofs.RecordLaws.{first_field_in}
use Rattle.elf_loader.proofs.version_match.half.Goals as goal

pub returns : goal.returns
returns c = λ file at is. c.u16_at.ensures ∙ first_field_in file at 2 c.args.bytes.now 2 is (omega arith)
