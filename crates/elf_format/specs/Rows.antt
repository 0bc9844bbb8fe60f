-- The texts of rows and the tables of names, for the proofs that unfold them.
unfoldable pub use Rattle.elf_model.specs.Text.{name_of}
unfoldable pub use Rattle.elf_model.specs.Lines.{header_line, segment_line}
unfoldable pub use Rattle.elf_model.specs.LineFronts.{section_prefix}
unfoldable pub use Rattle.elf_model.specs.NameTables.{file_type_text, file_types, section_type_text, segment_type_text, visibilities}
unfoldable pub use Rattle.elf_model.specs.NameTables.{letters_of, flags_column, section_flags, standard_section_flags}
unfoldable pub use Rattle.elf_model.specs.NameTables.{further_section_flags, gnu_section_flags, x86_64_section_flags, processor_section_flags}
