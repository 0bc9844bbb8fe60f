use Rattle.std.proofs.Common.{◌++◌, drop}
use Rattle.elf_format.specs.Prelude.{TakesBefore, reported_text}
use Rattle.elf_format.proofs.told.show_escaped_text.Given as goal

-- what was written, the line, and the bytes of the text that are left are the text
abbrev pub invariant-loop-byte : goal.invariant-loop-byte
invariant-loop-byte g l =
    TakesBefore l.fn.out l.out (reported_text l.text) (l.line.items ++ reported_text (drop l.byte-index l.text))
