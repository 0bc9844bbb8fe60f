-- The words of this crate, for one import elsewhere.
unfoldable pub use Rattle.elf_examples.specs.ExamplesFields.{places_as_bytes}
unfoldable pub use Rattle.elf_examples.specs.ExamplesNotes.{counting, note_head}
pub use Rattle.elf_examples.specs.ListedBudgets.{spent_at}
pub use Rattle.elf_examples.specs.ListedMembers.{BudgetsThatEndArchives}
unfoldable pub use Rattle.elf_examples.specs.ExamplesGnuHash.{gnu_table_of}
unfoldable pub use Rattle.elf_examples.specs.ExamplesWanted.{long_version}
unfoldable pub use Rattle.elf_examples.specs.ListedChoices.{named_listed, rows_named}
unfoldable pub use Rattle.elf_examples.specs.ListedHashed.{symbols_located, symbols_selected}
unfoldable pub use Rattle.elf_examples.specs.ListedLocated.{located_entries, located_library, located_listed, located_style, located_tables}
unfoldable pub use Rattle.elf_examples.specs.ListedRelative.{relative_words, relocations_listed, style_with, three_types}
unfoldable pub use Rattle.elf_examples.specs.ListedSuffixes.{asked_within, symbols_listed, with_versions}
unfoldable pub use Rattle.elf_examples.specs.ListedVersions.{parts_listed, versions_listed}
