-- The words of this crate, for one import elsewhere.
pub use Rattle.elf_capi.specs.Applied.{AppliesFor}
pub use Rattle.elf_capi.specs.Asked.{AreLendableNames, AsksListing, BorrowedTexts, GivesListing, IsChosenPart, caller_style, every_row_of, has_versions_in, parts_in, style_in, style_of_flags}
pub use Rattle.elf_capi.specs.CallOpenings.{OpensNames, OpensRecords, OpensRows}
pub use Rattle.elf_capi.specs.DynamicTables.{IsDynamicTable}
pub use Rattle.elf_capi.specs.Ends.{ReturnsNone, ReturnsOpened, ReturnsRead}
pub use Rattle.elf_capi.specs.Found.{CallLooks, HasLookup}
pub use Rattle.elf_capi.specs.Hashed.{FindsHashed, PlacesHashed, ReturnsHashedRows, hashed_cost, hashed_of}
pub use Rattle.elf_capi.specs.HashedRows.{HasHashed, OpensHashed, ReadsHashed, by_flags}
pub use Rattle.elf_capi.specs.Items.{LaysItem, LaysItems, PutsKind}
pub use Rattle.elf_capi.specs.Lent.{spared}
pub use Rattle.elf_capi.specs.LentLayouts.{CannotBeKnown, ExplainsTold, MayBorrowLayout, PlacesInMemory, ReturnsSymbol, lent_layout}
pub use Rattle.elf_capi.specs.Limits.{AreCaps, AreInRange, budget_of, headers_of}
pub use Rattle.elf_capi.specs.ListedEntries.{ListsWithin, ReadsListed, all_listed}
pub use Rattle.elf_capi.specs.Queries.{IsPermitted, asks_of, wanted_by}
pub use Rattle.elf_capi.specs.RelocationRows.{IsRelocationWord, IsShortEntry}
pub use Rattle.elf_capi.specs.Resolved.{IsResolved, Resolves, ResolvesIn, ReturnsResolved, cut_number, file_of, nothing_resolved}
pub use Rattle.elf_capi.specs.Rows.{ReadsNext, StepsRows, next_at, rows_from_first}
pub use Rattle.elf_capi.specs.SegmentDynamic.{ReadsSegmentDynamic}
pub use Rattle.elf_capi.specs.Shown.{FillsMemory, HasAskedListing, HasListing, HasStyledListing, ListsInMemory, ShowsInMemory}
pub use Rattle.elf_capi.specs.TableOpenings.{ReadsRows, holds}
pub use Rattle.elf_capi.specs.Told.{IsStatus, status_from}
pub use Rattle.elf_capi.specs.VersionRecords.{AreRecords, GoesOnTo, IsVersionWord, StepsRecord, bytes_within, first_kind, kind_number, record_names, records_left, stand_as, standing_in, starting}
pub use Rattle.elf_capi.specs.Within.{OpensAlways, OpensEntries, ReadsBudgeted, ReturnsEntries, StepsBudgeted}
pub use Rattle.elf_capi.specs.Names.{FindsName, bytes_in_range, name_size}
pub use Rattle.elf_capi.specs.NoteRows.{IsNoteAt}
