-- The word of a bit, and then those of the bits that are left.
use Rattle.std.proofs.Common.{arith}
use Rattle.elf_model.specs.FlagWords.{flags_text}
use Rattle.elf_format.proofs.FlagLaws.{short_first, short_rest, texts_length, word_put, words_done}
use Rattle.elf_format.proofs.dynamic_flags.put_flags.Goals as goal

pub loop-words-preserved : goal.loop-words-preserved
loop-words-preserved c = record {
  items =
      word_put _ c.loop-words.words.now c.args.between.now c.saturating_sub-others.result c.loop-words.is_first _ c.loop-words.bits _ _ _ _
      c.in-len1-up.len_at_least c.as_bytes.ensures.value c.put_flag-is_first.ensures.items c.put_flag-is_first.ensures.first c.loop-words.invariant.items;
  length =
      let first = short_first _ 10 c.loop-words.words.now _ c.in-len1-up.len_at_least c.as_bytes.ensures.value c.loop-words.invariant.short in
      omega (arith, first, c.put_flag-is_first.ensures.len, c.loop-words.invariant.length, c.requires.between);
  short = short_rest 10 c.loop-words.words.now c.in-len1-up.len_at_least c.loop-words.invariant.short;
}

pub returns-clause-items : goal.returns-clause-items
unfolding flags_text
returns-clause-items c =
    let whole = words_done c.loop-words.words.now c.args.between.now _ c.loop-words.is_first _ _ _ _ c.in_default.len_below c.put_others.ensures.items c.loop-words.invariant.items in
    rw (c.saturating_sub-others.ensures, c.requires.unit, ← texts_length c.args.words.now) at whole
