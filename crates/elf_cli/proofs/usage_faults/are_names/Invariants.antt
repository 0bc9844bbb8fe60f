use Rattle.std.proofs.Common.{◌≡◌, length}
use Rattle.clap.specs.Walk.{texts}
use Rattle.elf_cli.specs.UsageFaults.{are_names}
use Rattle.elf_cli.proofs.usage_faults.are_names.Given as goal

-- all arguments are names if the remaining ones are
abbrev pub invariant-loop-words : goal.invariant-loop-words
invariant-loop-words l = are_names l.fn.versions (texts l.words) ≡ are_names l.fn.versions (texts l.fn.words)

abbrev pub decreases-loop-words : goal.decreases-loop-words
decreases-loop-words l = length l.words
