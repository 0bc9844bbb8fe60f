use Rattle.std.proofs.Common.{sym}
use Rattle.elf_image.proofs.stored.stored_bytes.Goals as goal

pub returns-in-Relative-clause-value : goal.returns-in-Relative-clause-value
returns-in-Relative-clause-value c = λ file rela at is small used based.
    rw c.in-Relative.is (sym (c.relative_bytes.ensures.value file rela at is small based))
