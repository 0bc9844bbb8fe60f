-- The words of this crate, for one import elsewhere.
pub use Rattle.elf_source.specs.Growth.{OutGrows}
pub use Rattle.elf_source.specs.Limited.{MayReadWithin, ReadsWithin}
pub use Rattle.elf_source.specs.Onward.{AreMade, AreOnward, ReadsOnward}
pub use Rattle.elf_source.specs.Output.{EndsLine, FailsOutput, IsOutFault, KeepsDeferred, OutPuts, OutState, SinkTakes, SinkTakesPrefix, Writing, before_text}
pub use Rattle.elf_source.specs.Ranges.{IsWholeRange, LiesWithin, Narrows, RangeOf, Widens, file_within, seen_range}
pub use Rattle.elf_source.specs.Reader.{AreRests, Turns, TurnsWithin}
pub use Rattle.elf_source.specs.Source.{CountedState, ExceedsBudget, IsHonest, IsSourceFault, KeepsSource, MasksSectionHeaders, RangeParent, ReadsUpTo, SameView, SetsLimit, SourceState, counted, file_by, honest, left, seen_by}
