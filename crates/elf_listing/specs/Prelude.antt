-- The words of this crate, for one import elsewhere.
pub use Rattle.elf_listing.specs.FaultRows.{FindsFaultRow, HoldsFaultRow, IsFaultRow}
pub use Rattle.elf_listing.specs.HeadersListed.{ListsKinds, asked_items}
unfoldable pub use Rattle.elf_listing.specs.HeadersListed.{kinds_items}
pub use Rattle.elf_listing.specs.Notes.{IsNoteRow, WrittenBefore, note_items}
unfoldable pub use Rattle.elf_listing.specs.Numbered.{reported_row, version_told}
unfoldable pub use Rattle.elf_listing.specs.Parts.{kinds_asked, kinds_listed}
pub use Rattle.elf_listing.specs.Parts.{AreRecordsListed, PartListed, asked_cost, first_kinds, name_cost, of_sections, of_segments, part_items, located_asked, program_headers_part, record_kinds, relocations_part, section_headers_part, sections_listed, segments_listed, segments_parts, shown_in, store_sections, store_segments, symbols_part, tables_listed, entries_part, further_part, relative_part}
pub use Rattle.elf_listing.specs.Reports.{AsksWithin, FaultSays, KeepsSourceUnlimited, ReturnsStop, ReturnsStopIn, WroteRefusal, WroteRefusalIn, WroteReport, WroteText}
pub use Rattle.elf_listing.specs.RowCursors.{AdvancesRows, EndsListed, GivesListed, reading, rows_to_give}
pub use Rattle.elf_listing.specs.RowLayouts.{program_header_layout}
pub use Rattle.elf_listing.specs.Shows.{IsNext, IsOfOutput, ListingCalls, ListingReads, ListingWrote, SameFile, SpentCredit, StopSays, WroteItems, WrotePrefix, WroteSome, WroteUntilRefusal, WroteUntilStop, cut_of}
pub use Rattle.elf_listing.specs.Strings.{StringsFound, ToldRead, string_told, string_told_by}
pub use Rattle.elf_listing.specs.SuffixNames.{number_reported}
unfoldable pub use Rattle.elf_listing.specs.SuffixTexts.{after_version, before_version}
pub use Rattle.elf_listing.specs.Suffixed.{AreSuffixes, LinkedOr, SuffixNamed, SuffixRead, SuffixesOr, linked_count, row_by, suffix_by, suffix_bytes, suffix_cost, suffix_read, walks_asked}
pub use Rattle.elf_listing.specs.SymbolVersions.{AreNumbered, AreRecordsWhole, NumberedOr, NumbersTaken, TakenIn, TakenOr, walks_refusal}
unfoldable pub use Rattle.elf_listing.specs.SymbolVersions.{versioned_items}
pub use Rattle.elf_listing.specs.TableRows.{IsRowOf, RowLayout, rows_cost}
pub use Rattle.elf_listing.specs.Versions.{kind_type, records_cost, records_kind, versions_items}
pub use Rattle.elf_listing.specs.Viewed.{ChecksView, HasLength, needs_segment_view, view_cost, viewed_headers}
