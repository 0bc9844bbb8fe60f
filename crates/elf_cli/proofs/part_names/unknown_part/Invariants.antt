use Rattle.std.proofs.Common.{◌≡◌, length, IsUtf8}
use Rattle.elf_cli.specs.Options.{are_part_names}
use Rattle.elf_cli.proofs.part_names.unknown_part.Given as goal

-- all names are those of parts if the remaining ones are
abbrev pub invariant-loop-name : goal.invariant-loop-name
invariant-loop-name l = (are_part_names l.archived l.rest ≡ are_part_names l.archived l.fn.names) × IsUtf8 l.rest

abbrev pub decreases-loop-name : goal.decreases-loop-name
decreases-loop-name l = length l.rest
