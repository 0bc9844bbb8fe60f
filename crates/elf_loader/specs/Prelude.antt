-- The words of this crate, for one import elsewhere.
pub use Rattle.elf_loader.specs.Answering.{IsSymbolWithVersym}
pub use Rattle.elf_loader.specs.Comparing.{CollectsNumbers, CompareCosts, CompareProgress, ComparesOne, comparing_bytes}
pub use Rattle.elf_loader.specs.Entries.{AreListedValues, AreTraitEntries, EachValue, ReturnsTraitEntries, TakesValues, no_values}
pub use Rattle.elf_loader.specs.Features.{ReadsHead, ReadsWord, ReturnsValue, found_after, property_at}
pub use Rattle.elf_loader.specs.FoundVersions.{FindsVersion, IsRelocationReported, IsVersionFound, LookupSpends, name_shown, version_found}
pub use Rattle.elf_loader.specs.Known.{KnownLie, KnownLies, ReturnsKnown, counts_asked}
pub use Rattle.elf_loader.specs.Lists.{ReturnsList, all_notes_asked, first_list, is_list, list_among, list_at, notes_asked}
pub use Rattle.elf_loader.specs.Lookups.{AnswersLoaderLookup, LooksAfter, LooksUp, MayLookOn, ReturnsLookup, looked_with, lookup_bytes, match_bytes}
pub use Rattle.elf_loader.specs.Marks.{AddsNone, ReturnsMarks, marks_with, symbol_traits_of}
unfoldable pub use Rattle.elf_loader.specs.Marks.{marks_in}
pub use Rattle.elf_loader.specs.Naming.{HasFile, IsFileIf, NamedAs, NamesBefore, NamesFile}
pub use Rattle.elf_loader.specs.NumberSets.{has_number}
pub use Rattle.elf_loader.specs.Stacks.{AreSectionNames, FindsMasked, FindsStack, FoundUnlessRead, IsOpenIn, IsRefusedByCheck, HoldsLoaded, LoadsAs, LoadsForStack, load_asked, stack_section_from}
pub use Rattle.elf_loader.specs.Tables.{max_records_of, max_versions_of}
unfoldable pub use Rattle.elf_loader.specs.Tables.{readings_before}
pub use Rattle.elf_loader.specs.Telling.{ReturnsVersionName, parsed_member_bytes, telling_bytes}
pub use Rattle.elf_loader.specs.TraitStages.{FindsShown, FindsTraits, marks_asked, marks_told}
