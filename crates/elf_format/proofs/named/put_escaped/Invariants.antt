use Rattle.std.proofs.Common.{◌++◌, drop}
use Rattle.elf_format.specs.Prelude.{TakesBefore, spelt}
use Rattle.elf_format.proofs.named.put_escaped.Given as goal

-- what was written, the line, and the bytes of the name that are left are the text
abbrev pub invariant-loop-byte : goal.invariant-loop-byte
invariant-loop-byte g l =
    let text = l.fn.line.items ++ spelt l.format l.name in
    TakesBefore l.fn.out l.out text (l.line.items ++ spelt l.format (drop l.byte-index l.name))
