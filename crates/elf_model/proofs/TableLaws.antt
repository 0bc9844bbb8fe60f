-- A table that is written in pieces.
use Rattle.std.proofs.Common.{ℕ, ◌≡◌, List, [], ◌∷◌, ◌++◌, refl, sym, ap, ◌∙◌, append_assoc}
use Rattle.elf_model.specs.TableTexts.{byte_in_table, state_after, state_at_end, table_from}
use Rattle.elf_model.specs.declared.formats.TableState.{TableState}

pub in_pieces : (state : TableState) (front rest : List ℕ)
    → table_from state (front ++ rest) ≡ table_from state front ++ table_from (state_at_end state front) rest
unfolding table_from state_at_end
in_pieces state [] rest = refl
in_pieces state (byte ∷ front) rest =
    ap (λ text. byte_in_table state byte ++ text) (in_pieces (state_after state byte) front rest)
    ∙ sym (append_assoc (byte_in_table state byte) (table_from (state_after state byte) front) (table_from (state_at_end (state_after state byte) front) rest))

pub end_in_pieces : (state : TableState) (front rest : List ℕ) → state_at_end state (front ++ rest) ≡ state_at_end (state_at_end state front) rest
unfolding state_at_end
end_in_pieces state [] rest = refl
end_in_pieces state (byte ∷ front) rest = end_in_pieces (state_after state byte) front rest
