-- The number of two bytes of a part.
use Rattle.std.proofs.Common.{◌∙◌}
use Rattle.elf_resolve.proofs.VersionPlaceLaws.{part_field}
use Rattle.elf_resolve.proofs.version_records.half.Goals as goal

pub returns-then-part-eq2 : goal.returns-then-part-eq2
returns-then-part-eq2 c = λ within. c.u16_at.ensures ∙ part_field c.args.bytes.now c.part_of-part.result.now c.args.place 2 (c.part_of-part.ensures.held within)
