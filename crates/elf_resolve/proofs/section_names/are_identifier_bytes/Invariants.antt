use Rattle.std.proofs.Common.{◌≡◌, true, take}
use Rattle.std.specs.List.{list_all}
use Rattle.elf_model.specs.LinkSymbols.{is_identifier_byte}
use Rattle.elf_resolve.proofs.section_names.are_identifier_bytes.Given as goal

abbrev pub invariant-loop-byte : goal.invariant-loop-byte
invariant-loop-byte l = list_all is_identifier_byte (take l.byte-index l.bytes) ≡ true
