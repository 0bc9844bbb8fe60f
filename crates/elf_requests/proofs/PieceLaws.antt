-- The traits that the pieces of a text name.
use Rattle.std.proofs.Common.{◌≡◌, ◌∙◌, true, false, List, [], ◌∷◌, ◌++◌, map, Option, Some, ap, sym, inl, inr, append_assoc}
use Rattle.std.specs.Prelude.{◌⊎◌, cond}
use Rattle.std.specs.List.{find}
use Rattle.clap.specs.Walk.{Text}
use Rattle.elf_model.specs.TraitWords.{Required}
use Rattle.elf_options.specs.Prelude.{parsed_trait_word}
use Rattle.elf_requests.specs.AskedTraits.{IsWordFault, NamesPiece, is_unknown}
use Rattle.elf_cli.specs.Pieces.{pieces}
use Rattle.elf_cli.specs.declared.faults.RequestFault.TheVariants.{Memory}
use Rattle.elf_cli.specs.declared.faults.RequestFault.{RequestFault}

abbrev Spelled : Type 0
Spelled = List (Option Required)

-- one more trait of the pieces
pub word_more : (before after : Spelled) (text rest behind piece : Text) → before ++ map parsed_trait_word (pieces rest) ≡ map parsed_trait_word (pieces text)
    → pieces rest ≡ piece ∷ pieces behind → after ≡ before ++ parsed_trait_word piece ∷ [] → after ++ map parsed_trait_word (pieces behind) ≡ map parsed_trait_word (pieces text)
word_more before after text rest behind piece so parts put =
    ap (λ s. s ++ map parsed_trait_word (pieces behind)) put ∙ append_assoc before (parsed_trait_word piece ∷ []) (map parsed_trait_word (pieces behind))
    ∙ ap (λ p. before ++ map parsed_trait_word p) (sym parts) ∙ so

-- the last trait
pub word_last : (before after : Spelled) (text rest : Text) → before ++ map parsed_trait_word (pieces rest) ≡ map parsed_trait_word (pieces text)
    → pieces rest ≡ rest ∷ [] → after ≡ before ++ parsed_trait_word rest ∷ [] → map parsed_trait_word (pieces text) ≡ after
word_last before after text rest so parts put = sym so ∙ ap (λ p. before ++ map parsed_trait_word p) parts ∙ sym put

module _ (text rest piece : Text) (so : find is_unknown (pieces rest) ≡ find is_unknown (pieces text)) where
  -- the first unknown piece is after one that names a trait
  pub unknown_after : (behind : Text) → pieces rest ≡ piece ∷ pieces behind → is_unknown piece ≡ false → find is_unknown (pieces behind) ≡ find is_unknown (pieces text)
  unknown_after behind parts known =
      sym (ap (find is_unknown) parts ∙ ap (λ b. cond b (Some piece) (find is_unknown (pieces behind))) known) ∙ so

  -- a piece that names no trait is the fault
  pub word_fault : (more : List Text) (fault : RequestFault) → pieces rest ≡ piece ∷ more
      → (fault ≡ Memory) ⊎ (NamesPiece piece fault × (is_unknown piece ≡ true)) → IsWordFault (Some text) fault
  word_fault more fault parts (inl memory) = inl memory
  word_fault more fault parts (inr bad) =
      inr (piece, sym so ∙ ap (find is_unknown) parts ∙ ap (λ b. cond b (Some piece) (find is_unknown more)) bad.1, bad.0)
