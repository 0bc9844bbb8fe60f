-- The entries that are left can be read.
use Rattle.elf_image.specs.Missing.{IsAliveIn, missing_steps}
use Rattle.elfsee.proofs.images.write_lines.Given as goal

abbrev pub invariant-entries : goal.invariant-entries
invariant-entries g l = record { alive : IsAliveIn l.src.seen.size l.missing }

abbrev pub decreases-entries : goal.decreases-entries
decreases-entries g l = missing_steps l.missing
