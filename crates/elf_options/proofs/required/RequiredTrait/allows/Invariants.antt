use Rattle.std.proofs.Common.{◌≡◌, bytes_eq, length, IsUtf8}
use Rattle.std.specs.List.{list_any}
use Rattle.elf_model.specs.Prelude.{alternatives}
use Rattle.elf_options.proofs.required.RequiredTrait.allows.Given as goal

-- the word is an alternative if it is one of the remaining ones
abbrev pub invariant-loop-other : goal.invariant-loop-other
invariant-loop-other l =
    (list_any (bytes_eq l.word) (alternatives l.rest) ≡ list_any (bytes_eq l.word) (alternatives l.self.word.now)) × IsUtf8 l.rest

abbrev pub decreases-loop-other : goal.decreases-loop-other
decreases-loop-other l = length l.rest
