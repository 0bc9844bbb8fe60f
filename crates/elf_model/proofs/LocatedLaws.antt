-- Objects with their places that are written in pieces.
use Rattle.std.proofs.Common.{ℕ, ◌≡◌, List, [], ◌∷◌, ◌++◌, refl, sym, ap, ◌∙◌, append_assoc}
use Rattle.elf_model.specs.Located.{LinePosition, Location, located_byte, located_from, line_position_after, position_at_end}

pub in_pieces : (location : Location) (position : LinePosition) (front rest : List ℕ)
    → located_from location position (front ++ rest) ≡ located_from location position front ++ located_from location (position_at_end position front) rest
unfolding located_from position_at_end
in_pieces location position [] rest = refl
in_pieces location position (byte ∷ front) rest =
    ap (λ text. located_byte location position byte ++ text) (in_pieces location (line_position_after position byte) front rest)
    ∙ sym (append_assoc (located_byte location position byte) (located_from location (line_position_after position byte) front) (located_from location (position_at_end (line_position_after position byte) front) rest))

pub end_in_pieces : (position : LinePosition) (front rest : List ℕ) → position_at_end position (front ++ rest) ≡ position_at_end (position_at_end position front) rest
unfolding position_at_end
end_in_pieces position [] rest = refl
end_in_pieces position (byte ∷ front) rest = end_in_pieces (line_position_after position byte) front rest
