-- The words are those of the tag's table.
use Rattle.std.proofs.Common.{arith}
use Rattle.elf_model.specs.FlagWords.{dynamic_flags, dynamic_flags_1, flag_words}
use Rattle.elf_format.proofs.dynamic_flags.flag_words.Goals as goal

pub returns-in-30 : goal.returns-in-30
unfolding flag_words dynamic_flags
returns-in-30 c = record {
  items = rw c.in-30.is (rw c.new-text.ensures at c.put_flags.ensures.items);
  short = let len = rw c.new-text.ensures at c.put_flags.ensures.len in omega (arith, len);
}

pub returns-in-1879048187 : goal.returns-in-1879048187
unfolding flag_words dynamic_flags_1
returns-in-1879048187 c = record {
  items = rw c.in-1879048187.is (rw c.new-text.ensures at c.put_flags-in-1879048187.ensures.items);
  short = let len = rw c.new-text.ensures at c.put_flags-in-1879048187.ensures.len in omega (arith, len);
}
