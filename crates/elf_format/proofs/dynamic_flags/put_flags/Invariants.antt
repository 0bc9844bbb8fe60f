use Rattle.std.proofs.Common.{◌≡◌, ◌+◌, ◌*◌, ◌≤◌, ◌++◌, true, length}
use Rattle.arrayvec.specs.ArrayVec.{array_vec_len}
use Rattle.elf_model.specs.FlagWords.{words_from}
use Rattle.elf_format.specs.Flags.{are_short_words, texts}
use Rattle.elf_format.proofs.dynamic_flags.put_flags.Given as goal

-- what is appended, and the words of the bits that are left, are the words
abbrev pub invariant-loop-words : goal.invariant-loop-words
invariant-loop-words l = record {
  items : l.text.items ++ words_from l.between l.others l.is_first (texts l.words) l.bits ≡ l.fn.text.items ++ words_from l.between l.others true (texts l.fn.words) l.number;
  length : array_vec_len l.text + 12 * length l.words ≤ array_vec_len l.fn.text + 12 * length l.fn.words;
  short : are_short_words 10 (texts l.words) ≡ true;
}

abbrev pub decreases-loop-words : goal.decreases-loop-words
decreases-loop-words l = length l.words
