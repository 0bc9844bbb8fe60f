use Rattle.std.proofs.Common.{◌≡◌, ℕ, ◌<◌, [], ◌∷◌, get_or, IsTrue}
use Rattle.elf_model.specs.declared.formats.Format.{Format}
use Rattle.elf_format.specs.Pieces.{byte_text}
use Rattle.elf_format.proofs.named.are_plain.Given as goal

-- if all bytes so far are plain, each is unchanged
abbrev pub invariant-loop-byte : goal.invariant-loop-byte
invariant-loop-byte l =
    (format : Format) (k : ℕ) → IsTrue l.plain → k < l.byte-index → byte_text format (get_or l.piece k 0) ≡ get_or l.piece k 0 ∷ []
