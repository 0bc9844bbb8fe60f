-- The first piece of a text, and the only one.
use Rattle.std.proofs.Common.{◌≡◌, ◌≢◌, ◌∙◌, ◌==◌, ◌<◌, ℕ, zero, suc, Bool, true, false, List, [], ◌∷◌, ◌++◌, length, get_or, refl, ap, sym, subst, arith}
use Rattle.std.proofs.lemmas.Bool.Decides.{nat_tests}
use Rattle.elf_model.specs.Pieces.{onto_first, pieces_at}

-- a byte that is not the sign is at the start of the first piece
piece_onto : {sign : ℕ} (byte : ℕ) (bytes : List ℕ) → byte ≢ sign → pieces_at sign (byte ∷ bytes) ≡ onto_first byte (pieces_at sign bytes)
unfolding pieces_at
piece_onto {sign} byte bytes other =
    let differ : (byte == sign) ≡ false = grind (arith, nat_tests, other) in
    subst (λ (b : Bool). elim b as (λ _. List (List ℕ)) [ true ↦ [] ∷ pieces_at sign bytes | false ↦ onto_first byte (pieces_at sign bytes) ] ≡ onto_first byte (pieces_at sign bytes)) (sym differ) refl

-- what is at the sign is not in the first piece
piece_apart : (sign : ℕ) (bytes : List ℕ) → pieces_at sign (sign ∷ bytes) ≡ [] ∷ pieces_at sign bytes
unfolding pieces_at
piece_apart sign bytes =
    let same : (sign == sign) ≡ true = grind (arith, nat_tests) in
    subst (λ (b : Bool). elim b as (λ _. List (List ℕ)) [ true ↦ [] ∷ pieces_at sign bytes | false ↦ onto_first sign (pieces_at sign bytes) ] ≡ [] ∷ pieces_at sign bytes) (sym same) refl

-- what is before the first sign is the first piece
pub first_piece : {sign : ℕ} (piece behind : List ℕ) → ((i : ℕ) → i < length piece → get_or piece i 0 ≢ sign)
    → pieces_at sign (piece ++ sign ∷ behind) ≡ piece ∷ pieces_at sign behind
first_piece {sign} [] behind lacks = piece_apart sign behind
first_piece {sign} (byte ∷ piece) behind lacks =
    piece_onto byte (piece ++ sign ∷ behind) (lacks zero (omega arith)) ∙ ap (onto_first byte) (first_piece piece behind (λ i low. lacks (suc i) (omega arith)))

-- a text without a sign is one piece
pub one_piece : {sign : ℕ} (text : List ℕ) → ((i : ℕ) → i < length text → get_or text i 0 ≢ sign) → pieces_at sign text ≡ text ∷ []
unfolding pieces_at
one_piece [] lacks = refl
one_piece (byte ∷ bytes) lacks =
    piece_onto byte bytes (lacks zero (omega arith)) ∙ ap (onto_first byte) (one_piece bytes (λ i low. lacks (suc i) (omega arith)))
