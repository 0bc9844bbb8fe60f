use Rattle.std.proofs.Common.{◌≡◌, bytes_eq, length, map, IsUtf8}
use Rattle.std.specs.List.{list_all, list_any}
use Rattle.elf_model.specs.Prelude.{alternatives}
use Rattle.elf_options.proofs.spelled.are_among.Given as goal

-- all alternatives are among the words if the remaining ones are
abbrev pub invariant-loop-word : goal.invariant-loop-word
invariant-loop-word l =
    (list_all (λ word. list_any (bytes_eq word) (map (λ other. other.now) l.words)) (alternatives l.rest)
    ≡ list_all (λ word. list_any (bytes_eq word) (map (λ other. other.now) l.words)) (alternatives l.text))
    × IsUtf8 l.rest

abbrev pub decreases-loop-word : goal.decreases-loop-word
decreases-loop-word l = length l.rest
