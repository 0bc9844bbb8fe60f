use Rattle.std.proofs.Common.{◌≡◌, length, IsUtf8}
use Rattle.std.specs.List.{fold}
use Rattle.elf_cli.specs.Options.{parts_number, with_part}
use Rattle.elf_cli.specs.Pieces.{pieces}
use Rattle.elf_cli.proofs.part_names.parts_named.Given as goal

-- the parts so far, with those of the remaining names, are those of all names
abbrev pub invariant-loop-name : goal.invariant-loop-name
invariant-loop-name l = (fold with_part l.parts.0 (pieces l.rest) ≡ parts_number l.fn.names) × IsUtf8 l.rest

abbrev pub decreases-loop-name : goal.decreases-loop-name
decreases-loop-name l = length l.rest
