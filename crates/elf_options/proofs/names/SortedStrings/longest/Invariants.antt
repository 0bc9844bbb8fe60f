-- The length of the longest text seen so far.
use Rattle.std.proofs.Common.{◌≡◌, take}
use Rattle.elf_model.specs.Choice.{most_bytes}
use Rattle.elf_options.specs.Names.{texts_of}
use Rattle.elf_options.proofs.names.SortedStrings.longest.Given as goal

abbrev pub invariant-loop-text : goal.invariant-loop-text
invariant-loop-text l = l.most ≡ most_bytes (texts_of (take l.text-index l.text-items))
