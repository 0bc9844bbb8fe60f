-- The lines of what is lacking of the required traits so far were written.
use Rattle.elf_walk.proofs.LackingLaws.{LinesWritten}
use Rattle.elf_walk.proofs.trait_lines.show_missing_traits.Given as goal

abbrev pub invariant-loop-wanted : goal.invariant-loop-wanted
invariant-loop-wanted g l =
    LinesWritten l.rule.format l.traits l.rule.required.now l.wanted-index l.fn.out l.out l.status
