-- The required traits of an argument.
use Rattle.std.specs.Prelude.{◌≡◌, ◌⊎◌, Bool, not, is_some, List, [], map, Option, None, Some, string_bytes}
use Rattle.std.specs.List.{find}
use Rattle.clap.specs.Walk.{Text}
use Rattle.elf_cli.specs.Pieces.{pieces}
use Rattle.elf_cli.specs.declared.faults.RequestFault.TheVariants.{Memory, UnknownTrait}
use Rattle.elf_cli.specs.declared.faults.RequestFault.{RequestFault}
use Rattle.elf_model.specs.TraitWords.{Required}
use Rattle.elf_options.specs.Prelude.{parsed_trait_word, required_words}
use Rattle.elf_options.specs.declared.required.RequiredTrait.{RequiredTrait}

-- the pieces of a text; without a text nothing is required
abbrev required_pieces : Option Text → List Text
required_pieces None = []
required_pieces (Some text) = pieces text

-- a piece names no trait
abbrev pub is_unknown : Text → Bool
is_unknown piece = not (is_some (parsed_trait_word piece))

-- the first piece of a text that names no trait
abbrev pub first_unknown : Option Text → Option Text
first_unknown text = find is_unknown (required_pieces text)

-- the traits that the pieces of a text name, in order
abbrev pub AreRequired : Option Text → List RequiredTrait → Type 0
AreRequired text words = map parsed_trait_word (required_pieces text) ≡ map Some (required_words words)

-- the fault that names this piece
abbrev pub NamesPiece : Text → RequestFault → Type 0
NamesPiece piece (UnknownTrait named) = string_bytes named ≡ piece
NamesPiece piece _ = ⊥

-- why there are none: no memory, or the first piece that names no trait, which the fault names
abbrev pub IsWordFault : Option Text → RequestFault → Type 0
IsWordFault text fault = (fault ≡ Memory) ⊎ ((piece : Text) × (first_unknown text ≡ Some piece) × NamesPiece piece fault)
