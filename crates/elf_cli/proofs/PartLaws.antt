-- The parts that names give together, a name after another, and whether all are names of parts.
use Rattle.std.proofs.Common.{◌≡◌, ◌∙◌, ℕ, Bool, true, false, List, [], ◌∷◌, not, bit_or, ap, sym}
use Rattle.std.specs.Prelude.{◌&&◌}
use Rattle.std.specs.List.{fold, list_all}
use Rattle.clap.specs.Walk.{Text}
use Rattle.elf_cli.specs.Options.{are_part_names, is_part_name, part_number, with_part}
use Rattle.elf_cli.specs.Pieces.{pieces}

-- one more part, and the last one
pub part_more : (parts part number : ℕ) (rest others name : Text) → fold with_part parts (pieces rest) ≡ number → pieces rest ≡ name ∷ pieces others
    → part ≡ part_number name → fold with_part (bit_or parts part) (pieces others) ≡ number
part_more parts part number rest others name so cut is =
    ap (λ p. fold with_part (bit_or parts p) (pieces others)) is ∙ (sym (ap (fold with_part parts) cut) ∙ so)

pub part_last : (parts part number : ℕ) (rest : Text) → fold with_part parts (pieces rest) ≡ number → pieces rest ≡ rest ∷ [] → part ≡ part_number rest
    → bit_or parts part ≡ number
part_last parts part number rest so one is = ap (bit_or parts) is ∙ (sym (ap (fold with_part parts) one) ∙ so)

module _ (archived whole : Bool) (rest : Text) (so : are_part_names archived rest ≡ whole) where
  -- a name that a part has, and one that no part has
  pub name_known : (others name : Text) → pieces rest ≡ name ∷ pieces others → is_part_name archived name ≡ true → are_part_names archived others ≡ whole
  name_known others name cut known =
      sym (ap (λ (b : Bool). b && list_all (is_part_name archived) (pieces others)) known) ∙ (sym (ap (list_all (is_part_name archived)) cut) ∙ so)

  pub name_unknown : (name : Text) (more : List Text) → pieces rest ≡ name ∷ more → is_part_name archived name ≡ false → true ≡ not whole
  name_unknown name more cut unknown =
      sym (ap not (sym so ∙ (ap (list_all (is_part_name archived)) cut ∙ ap (λ (b : Bool). b && list_all (is_part_name archived) more) unknown)))

  -- the last name
  pub name_last : pieces rest ≡ rest ∷ [] → is_part_name archived rest ≡ true → false ≡ not whole
  name_last one known = sym (ap not (sym so ∙ (ap (list_all (is_part_name archived)) one ∙ ap (λ (b : Bool). b && true) known)))
