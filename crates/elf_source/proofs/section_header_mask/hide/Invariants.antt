-- The bytes before the index are done, and the rest are unchanged.
use Rattle.std.proofs.Common.{◌≡◌, ◌+◌, ◌++◌, take, drop}
use Rattle.elf_model.specs.Style.{without_sections_from}
use Rattle.elf_source.proofs.section_header_mask.hide.Given as goal

abbrev pub invariant-loop-index : goal.invariant-loop-index
invariant-loop-index l = take l.index l.bytes ++ without_sections_from (l.fn.at + l.index) (drop l.index l.bytes) ≡ without_sections_from l.fn.at l.fn.bytes
