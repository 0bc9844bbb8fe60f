-- The words of this crate, for one import elsewhere.
pub use Rattle.elf_reloc.specs.Applied.{Applies, ApplySays, BudgetTooSmall, HasSection, HeldIs, IsApplyTarget, OverBudget, ReadsWithin, RoomFor, WritesOrWants, passes_cost, text_of, write_passes}
pub use Rattle.elf_reloc.specs.Costs.{ValueOrRefusal}
pub use Rattle.elf_reloc.specs.Entries.{Changes, Does, Refers, beside_entry_cost, patch_as, target_as}
unfoldable pub use Rattle.elf_reloc.specs.Entries.{term_of}
pub use Rattle.elf_reloc.specs.Explained.{EntryRead, Explains, ExplainsLoaded, LackOf, Lacks, NamesEntrySymbol, ReturnsSymbolName}
unfoldable pub use Rattle.elf_reloc.specs.Explained.{may_be_missing}
pub use Rattle.elf_reloc.specs.InOrder.{IsPartlyWritten, PendingState, UnderWay, end_of}
unfoldable pub use Rattle.elf_reloc.specs.InOrder.{OffsetsAscend}
pub use Rattle.elf_reloc.specs.Passes.{ChecksEntries, Folds, rising, storing}
unfoldable pub use Rattle.elf_reloc.specs.Passes.{folded}
pub use Rattle.elf_reloc.specs.Walk.{AsksOf, FindsEntry, IsWalkAlive, ReadsEntries, StepGives, StepsWalk, WentOn, changes_all, section_count_of}
unfoldable pub use Rattle.elf_reloc.specs.Walk.{changes_from, changes_left, entries_from, entry_count_in, rows_changes, steps_left, walk_all, walk_left}
pub use Rattle.elf_reloc.specs.Windows.{ApplyFaultSays, NotForBudget, UnreadSays, WritesBytes, windows}
