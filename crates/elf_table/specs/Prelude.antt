-- The words of this crate, for one import elsewhere.
pub use Rattle.elf_table.specs.Cursors.{Advances, CursorState, EndsRows, FailsRows, GivesRow, HoldsRows, IsAtRow, ShowsRow, asked_to, next_row, page_of, row_at, unless_failed, unread_bytes}
pub use Rattle.elf_table.specs.Faults.{FillsOnce, HeaderRead, IsAt, IsOfCheck, IsOfRead, IsReadFault, IsReadRefusal, IsUnlimitedReadFault}
pub use Rattle.elf_table.specs.HashSections.{AreHashed, ChecksThenValue, front_checks}
pub use Rattle.elf_table.specs.Ledger.{CallDid, CallReads, IsRead, fault_of_result}
pub use Rattle.elf_table.specs.LinkedSymbols.{IsSymbolAmong, LinkedSymbolInBounds, RefersToSymbol, SymbolRead, symbols_linked}
pub use Rattle.elf_table.specs.Load.{HoldsProgramHeaders, HoldsSectionHeaders, IsOpen, IsOpened, LoadedAs, LoadedFile, PassesLoadChecks, SegmentsInBounds, early_of, file_header_cost, load_cost, section_place}
pub use Rattle.elf_table.specs.NamesRead.{ComparesName, NameRead, Refuses, Searched, shown_by}
pub use Rattle.elf_table.specs.Relocations.{AreEntries, AreRelocations, AreSymbols, Links, RefersTo, RefusedBy, Relocates, RelocatesWith}
pub use Rattle.elf_table.specs.Sections.{answered, byte_rows, checked, names_at, rows, section_names, string_table_at, string_table_of, strings, symbols_at, table_at, table_of}
pub use Rattle.elf_table.specs.Stops.{stop_of}
pub use Rattle.elf_table.specs.Store.{AreRowSlices, HoldsSections, HoldsSegments, StoreState, emptied, row, segment_bytes, slots_of}
unfoldable pub use Rattle.elf_table.specs.Store.{rows_from}
pub use Rattle.elf_table.specs.Tables.{StringTableRange, StringsInBounds, SymbolTableInBounds, TableInBounds, TableRange, size_of, strings_in}
pub use Rattle.elf_table.specs.Versions.{AreVersioned, Versioned, sections_in, sections_of}
pub use Rattle.elf_table.specs.Views.{ChecksDecide, byte_table_at, dynamic_of, dynamic_table_at, first_of_kind, rest_mapped, rest_of, strings_mapped}
pub use Rattle.elf_table.specs.WindowCalls.{HasLeft, ReadsThrough, ReadsThroughWindow, Skips}
pub use Rattle.elf_table.specs.Windows.{HoldsBytes, HoldsCount, MovesOn, RangeWithin, StillHolds, WindowState, bytes_left, frontier, range_end}
