use Rattle.std.proofs.Common.{◌≡◌, bytes_eq, length, map}
use Rattle.std.specs.List.{list_any}
use Rattle.elf_options.proofs.spelled.is_among.Given as goal

-- the word is among the remaining ones if it is among all
abbrev pub invariant-loop-words : goal.invariant-loop-words
invariant-loop-words l =
    list_any (bytes_eq l.word) (map (λ other. other.now) l.words) ≡ list_any (bytes_eq l.word) (map (λ other. other.now) l.fn.words)

abbrev pub decreases-loop-words : goal.decreases-loop-words
decreases-loop-words l = length l.words
