-- Each word so far has been appended to the previous names.
use Rattle.std.proofs.Common.{◌≡◌, ◌++◌, take}
use Rattle.elf_options.specs.Names.{texts_of}
use Rattle.elf_options.proofs.row_names.push_words.Given as goal

abbrev pub invariant-loop-word : goal.invariant-loop-word
invariant-loop-word l = texts_of l.names.items ≡ texts_of l.initial.names.items ++ texts_of (take l.word-index l.words)
