use Rattle.std.proofs.Common.{◌∙◌, arith}
use Rattle.elf_record.proofs.RecordLaws.{first_field_in}
use Rattle.elf_record.proofs.words.word.Goals as goal

pub returns-clause-is_at : goal.returns-clause-is_at
returns-clause-is_at c = λ file at is. c.u32_at.ensures ∙ first_field_in file at 4 c.args.bytes.now 4 is (omega arith)
