use Rattle.std.proofs.Common.{◌≡◌, ◌++◌, length, map, Some, IsUtf8}
use Rattle.std.specs.List.{find}
use Rattle.elf_options.specs.Prelude.{parsed_trait_word, required_words}
use Rattle.elf_cli.specs.Pieces.{pieces}
use Rattle.elf_requests.specs.AskedTraits.{is_unknown}
use Rattle.elf_requests.proofs.trait_words.required_in.Given as goal

-- the traits so far, and those that the pieces of the rest name, are those that all pieces name; the
-- first piece that names none is in the rest
abbrev pub invariant-loop-piece : goal.invariant-loop-piece
invariant-loop-piece l =
    (map Some (required_words l.required.items) ++ map parsed_trait_word (pieces l.rest) ≡ map parsed_trait_word (pieces l.fn.text))
    × (find is_unknown (pieces l.rest) ≡ find is_unknown (pieces l.fn.text)) × IsUtf8 l.rest

abbrev pub decreases-loop-piece : goal.decreases-loop-piece
decreases-loop-piece l = length l.rest
