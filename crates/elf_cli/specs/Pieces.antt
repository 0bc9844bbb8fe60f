-- The pieces of a text.
use Rattle.std.specs.Prelude.{List}
use Rattle.clap.specs.Walk.{Text}
use Rattle.elf_model.specs.Prelude.{pieces_at}

-- the pieces of a text, separated by commas
abbrev pub pieces : Text → List Text
pieces text = pieces_at 44 text
