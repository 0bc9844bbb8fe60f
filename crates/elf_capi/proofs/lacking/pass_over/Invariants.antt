-- The entries that are left can be read.
use Rattle.elf_image.specs.Missing.{IsAliveIn}
use Rattle.elf_capi.proofs.lacking.pass_over.Given as goal

abbrev pub invariant-entries : goal.invariant-entries
invariant-entries l = IsAliveIn l.src.seen.size l.missing

abbrev pub decreases-entries : goal.decreases-entries
decreases-entries l = l.left
