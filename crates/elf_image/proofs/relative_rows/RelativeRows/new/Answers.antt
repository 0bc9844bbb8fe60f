-- No word was read.
use Rattle.std.proofs.Common.{refl, arith}
use Rattle.elf_model.specs.RelativeRelocations.{bitmap_base}
use Rattle.elf_image.specs.RelativeRows.{bits_left}
use Rattle.elf_image.proofs.relative_rows.RelativeRows.new.Goals as goal

pub returns-clause-reads : goal.returns-clause-reads
returns-clause-reads c = rw c.new.ensures.failed c.new.ensures.unread

pub returns-clause-known : goal.returns-clause-known
unfolding bitmap_base
returns-clause-known c = λ file. record {
  unfailed = c.new.ensures.failed;
  holds = rw c.new.ensures.held refl;
  based = λ some. absurd (omega (arith, some));
  base = rw c.new.ensures.index refl;
}

pub returns-clause-begins : goal.returns-clause-begins
unfolding bits_left
returns-clause-begins c = λ file. rw (c.new.ensures.table, c.new.ensures.index, c.new.ensures.left) refl
