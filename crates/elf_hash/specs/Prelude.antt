-- The words of this crate, for one import elsewhere.
pub use Rattle.elf_hash.specs.Counts.{CountsFit, HasGnuCounts, HasSysvCounts, IsGnu, IsSysv, IsTablePlace, gnu_misshapen, sysv_misshapen}
pub use Rattle.elf_hash.specs.Entries.{AreListed, AreTaggedEntries, EachTag, TakesEntry, dynamic_entry_at, entry_here, first_entry, listed_entry}
unfoldable pub use Rattle.elf_hash.specs.Entries.{tagged_entry}
pub use Rattle.elf_hash.specs.Extents.{CountsSymbols, EndsChain, ReturnsExtent, SymbolsBegin, extent_bytes, last_in}
pub use Rattle.elf_hash.specs.Finding.{FindsScope, scope_cost, scope_loaded, segments_bytes}
pub use Rattle.elf_hash.specs.HashSections.{min_hash_bytes}
pub use Rattle.elf_hash.specs.HashStyles.{hash_style_of}
pub use Rattle.elf_hash.specs.Loading.{LoadsSegments, segments_load_cost}
pub use Rattle.elf_hash.specs.Headers.{HasHeader}
pub use Rattle.elf_hash.specs.LookupTablesFound.{FindsLookupTables, IsLookupTables, LookupTablesInBounds}
pub use Rattle.elf_hash.specs.Lookups.{AnswersSysvLookup, GivesLookup, LooksBySysv, looked_after, lookup_in, step_bytes, symbol_bytes}
pub use Rattle.elf_hash.specs.RelocationTables.{AreTableEntries, FindsSymbols, IsEntryOf, LocatedInBounds, located_by}
pub use Rattle.elf_hash.specs.Results.{RefusesAs, ReturnsAs}
pub use Rattle.elf_hash.specs.SearchedTables.{HasCounts, HashTableInBounds, IsPlaceIn, IsTable, ReturnsExcluded, counts_bytes, place_of_table, walked_in}
pub use Rattle.elf_hash.specs.Segments.{AreRowsSymbols, ReturnsHash, TellSymbols, entries_asked, rows_records, scope_by_entries, version_rows}
pub use Rattle.elf_hash.specs.Symbols.{AreVersionRecordTables, AreVersymTable, DynamicSymbolsInBounds, IsDynamicSymbols, IsVersionRecordTable, IsVersymTable, VersionRecordsInBounds, table_if_any}
pub use Rattle.elf_hash.specs.Tables.{ChecksHashSection, IsHashSection, IsPlaceOf}
pub use Rattle.elf_hash.specs.Trials.{SaysHasName, TriesDefinedSymbol, TriesSymbol}
pub use Rattle.elf_hash.specs.Versions.{AreInFront, AreVersions, records_at, words_checks}
pub use Rattle.elf_hash.specs.Walks.{GivesWalked, HoldsHash, WalksChain, index_of, walk_bytes}
