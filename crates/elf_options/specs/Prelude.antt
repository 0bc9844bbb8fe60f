-- The words of this crate, for one import elsewhere.
pub use Rattle.elf_options.specs.Chosen.{choice_of}
pub use Rattle.elf_options.specs.NameLists.{IsNoNames, IsRowName, after_bytes, after_lines, line_names, listed_names}
pub use Rattle.elf_options.specs.NamedRows.{named_style}
pub use Rattle.elf_options.specs.Names.{NeverDescend, texts_of}
pub use Rattle.elf_options.specs.Permitted.{AreHeaders, AreNameBytes, style_of}
pub use Rattle.elf_options.specs.Required.{required_word, required_words}
unfoldable pub use Rattle.elf_options.specs.Spelled.{parsed_trait_word}
