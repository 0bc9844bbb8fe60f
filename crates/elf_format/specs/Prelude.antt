-- The words of this crate, for one import elsewhere.
pub use Rattle.elf_format.specs.Named.{shown_as, tailed_line}
unfoldable pub use Rattle.elf_format.specs.Named.{escaped_bytes, line_tailed}
unfoldable pub use Rattle.elf_format.specs.Notes.{note_end}
pub use Rattle.elf_format.specs.Pieces.{TakesBefore}
unfoldable pub use Rattle.elf_format.specs.Pieces.{byte_text, name_closing, name_start, spelt}
pub use Rattle.elf_format.specs.Told.{IsPlain}
unfoldable pub use Rattle.elf_format.specs.Told.{reported_byte, reported_text}
