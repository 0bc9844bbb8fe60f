use Rattle.std.proofs.Common.{◌≡◌, length, map}
use Rattle.std.specs.Prelude.{bytes_eq}
use Rattle.std.specs.List.{list_any}
use Rattle.elf_cli.specs.Described.{part_row}
use Rattle.elf_cli.proofs.part_names.has_name.Given as goal

-- one of the parts has the name if one of the remaining rows has it
abbrev pub invariant-loop-rows : goal.invariant-loop-rows
invariant-loop-rows l = list_any (λ part. bytes_eq l.name part.1) (map part_row l.rows) ≡ list_any (λ part. bytes_eq l.name part.1) (map part_row l.fn.rows)

abbrev pub decreases-loop-rows : goal.decreases-loop-rows
decreases-loop-rows l = length l.rows
