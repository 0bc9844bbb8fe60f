-- The words of this crate, for one import elsewhere.
pub use Rattle.elf_library.specs.Budget.{AsksClosed, AsksFile, AsksFound}
pub use Rattle.elf_library.specs.CacheReads.{ReturnsCacheText, cache_cost}
pub use Rattle.elf_library.specs.Copied.{ReadsKept}
pub use Rattle.elf_library.specs.Definers.{DefinesAfter, ReturnsDefiner}
pub use Rattle.elf_library.specs.Entries.{AreEntryValues, AreNeeds, HasFlags, IsHeldText, IsNeed, KeepsLinks, KeepsText, ReturnsLinks, ReturnsStrings, ReturnsText, first_index, no_info, text_by, with_index}
pub use Rattle.elf_library.specs.FileIdentities.{is_file}
pub use Rattle.elf_library.specs.Held.{LinkInfoState, with_text}
pub use Rattle.elf_library.specs.Kept.{IsKept, IsReadyIn, LookupObjectState}
pub use Rattle.elf_library.specs.Lacking.{definition_if, definitions_of}
pub use Rattle.elf_library.specs.Linked.{ReturnsLinked, linked_file}
pub use Rattle.elf_library.specs.Looks.{DefinesIn, FailsIn, FaultLeaves, LooksInObject, OverLeft, Prepares, SpendsAtMost, SpendsBudget, kept_cost}
pub use Rattle.elf_library.specs.NeedWalks.{IsNeedsOf, NeedsWalkGoesOn, ReturnsNeed, StepsNeeds, need_records_left, needed_of, needs_left}
pub use Rattle.elf_library.specs.Opens.{KeepsIndex, KeepsOne, OpensObject, SpendsBudgetAtLeast}
pub use Rattle.elf_library.specs.Reading.{ReturnsLookupRefusal, linked_in_segments, lookup_passed}
pub use Rattle.elf_library.specs.Ready.{IsReadyIf, ReturnsReady, ready_bytes}
pub use Rattle.elf_library.specs.Sought.{CountsHashed, IsReportedAlone, ReturnsSought, ReturnsWhole, asked_if}
pub use Rattle.elf_library.specs.VersionTables.{AreNeedsOf, AreRecordsAt}
