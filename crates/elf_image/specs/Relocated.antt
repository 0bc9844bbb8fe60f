-- What a file's dynamic entries say of its relocations, and what these change, as the code has it, in
-- the terms of the definition.
use Rattle.std.specs.Prelude.{ℕ, ◌≡◌, ◌+◌, ◌-◌, ◌*◌, ◌/◌, ◌^◌, ◌<◌, ◌≤◌, ◌==◌, ◌&&◌, ◌||◌, nat_lt, not, is_none, Bool, true, false, List, [], ◌∷◌, ◌++◌, length, ◌⊎◌, Option, None, Some, Result, Ok, Err}
use Rattle.std.specs.List.{list_any}
use Rattle.elf_model.specs.Apply.{places_from}
use Rattle.elf_model.specs.Checks.{Check, first_refusal, pass, refuse}
use Rattle.elf_model.specs.Image.{ImageChange, ImageSource, Keeps, Lacks, Refuses, SegmentWrite, Stores as StoresSome, entry_ranges, has_table, holder_of, place_checks, read_addresses}
use Rattle.elf_model.specs.ImageValues.{dynamic_symbol_checks, entry_symbol}
use Rattle.elf_model.specs.ImageChecks.{LoadedTable, dynamic_image_checks, image_rows_of, linkage_table, rela_table, relative_table, row_value}
use Rattle.elf_model.specs.LoaderScope.{dynamic_segment_index, segment_symbols, tagged_row}
use Rattle.elf_model.specs.Numbers.{DT_RELACOUNT, DT_SYMTAB, PT_LOAD}
use Rattle.elf_model.specs.Overlaps.{overlap_checks}
use Rattle.elf_model.specs.Prelude.{IsBudgetRefusal, has_bits}
use Rattle.elf_model.specs.Records.{p_flags, p_memsz, p_type, p_vaddr, segment_at}
use Rattle.elf_model.specs.Tables.{DYNAMIC_SIZE, RELA_SIZE, RELR_SIZE, SYMBOL_SIZE}
use Rattle.elf_model.specs.TraitNumbers.{PF_W}
use Rattle.elf_model.specs.Traits.{has_text_relocations}
use Rattle.elf_model.specs.declared.causes.Cause.TheVariants.{BadLink, PlaceOutside, SymbolIndex, TableWritten}
use Rattle.elf_model.specs.declared.causes.Refusal.{Refusal}
use Rattle.elf_model.specs.declared.dynamic_types.DynamicType.{DynamicType}
use Rattle.elf_record.specs.declared.rela.Rela.{Rela}
use Rattle.elf_record.specs.declared.sym.Sym.{Sym}
use Rattle.elf_table.specs.Prelude.{HoldsProgramHeaders, RefusedBy, TableRange}
use Rattle.elf_table.specs.declared.fault.Fault.{Fault}
use Rattle.elf_table.specs.declared.fault.Fault.TheVariants.{Refused, Source}
use Rattle.elf_image.specs.Chunks.{HoldsChunks}
use Rattle.elf_image.specs.Values.{IsBased, IsGiven, IsUsed, known_items, stored_as}
use Rattle.elf_image.specs.declared.changes.EntryResult.{EntryResult}
use Rattle.elf_image.specs.declared.changes.EntryResult.TheVariants as result
use Rattle.elf_image.specs.declared.changes.ImageFile.{ImageFile}
use Rattle.elf_image.specs.declared.changes.PlacedBytes.{PlacedBytes}
use Rattle.elf_image.specs.declared.changes.Relocations.{Relocations}
use Rattle.elf_image.specs.declared.changes.TableSegments.{TableSegments}
use Rattle.elf_image.specs.declared.place.HeldRange.{HeldRange}
use Rattle.elf_image.specs.declared.place.Place.{Place}
use Rattle.elf_image.specs.declared.ranges.EntryRanges.{EntryRanges}

-- WHAT THE DYNAMIC ENTRIES SAY. The offset of their program header, or in a file without one an
-- offset at which there are no bytes
abbrev pub entries_header : List ℕ → ℕ
entries_header file = elim (dynamic_segment_index file) [ None ↦ length file | Some index ↦ segment_at file index ]

-- the checks of the entries and of what they locate
abbrev pub relocation_checks : List ℕ → List Check
relocation_checks file = elim (dynamic_segment_index file) [ None ↦ [] | Some index ↦ dynamic_image_checks file (segment_at file index) ]

-- the words of relative relocations are those of a table; without one there are none
abbrev pub AreRelrWords : Option LoadedTable → TableRange → Type 0
AreRelrWords None words = words.count ≡ 0
AreRelrWords (Some table) words = words ≡ record { at = table.place; count = table.count; entry = RELR_SIZE }

-- the offsets of the entries of a table
abbrev pub entry_places : TableRange → List ℕ
entry_places table = places_from (λ i. table.at + RELA_SIZE * i) 0 table.count

-- those of two tables in ranges, as a loader goes through them
abbrev pub places_in : EntryRanges → List ℕ × List ℕ
places_in ranges = elim ranges.joined [
  | true ↦ (entry_places ranges.first ++ entry_places ranges.second, [])
  | false ↦ (entry_places ranges.first, entry_places ranges.second)
]

-- how many rows a table has
abbrev pub row_count : Option LoadedTable → ℕ
row_count None = 0
row_count (Some table) = table.count

-- ranges are those of the tables that the entries of a program header at an offset locate, and no
-- more entries than they have
pub record AreEntryRanges (file : List ℕ) (at : ℕ) (ranges : EntryRanges) : Type 0 where
  pub places : places_in ranges ≡ entry_ranges (rela_table file at) (linkage_table file at)
  pub few : ranges.first.count + ranges.second.count ≤ row_count (rela_table file at) + row_count (linkage_table file at)
  pub relative : ranges.relative ≡ row_value file at DT_RELACOUNT

-- there are relocation entries
abbrev pub HasEntries : Relocations → Type 0
HasEntries told = 0 < told.ranges.first.count + told.ranges.second.count

-- the symbols that the entries of a program header at an offset locate, if they do
abbrev pub AreEntrySymbols : List ℕ → (at : ℕ) → Option TableRange → Type 0
AreEntrySymbols file at None = tagged_row file at DT_SYMTAB ≡ None
AreEntrySymbols file at (Some symbols) =
    ((row : ℕ) × (tagged_row file at DT_SYMTAB ≡ Some row))
    × (symbols ≡ record { at = (segment_symbols file at).0; count = (segment_symbols file at).1; entry = SYMBOL_SIZE })

-- a segment is the one of an index, if there is one
abbrev pub is_holder : Option ℕ → (segment : ℕ) → Bool
is_holder None segment = false
is_holder (Some holder) segment = holder == segment

-- it is one of those with a table
abbrev pub is_table_holder : TableSegments → (segment : ℕ) → Bool
is_table_holder tables segment =
    is_holder tables.compact segment
    || (is_holder tables.addends segment || (is_holder tables.calls segment || is_holder tables.symbols segment))

-- what is known of the relocations is what the entries of a program header at an offset say
pub record SaysRelocations (file : List ℕ) (at : ℕ) (told : Relocations) : Type 0 where
  pub text : told.writes_text ≡ has_text_relocations file
  pub words : AreRelrWords (relative_table file at) told.compact
  pub ranges : AreEntryRanges file at told.ranges
  pub symbols : HasEntries told → AreEntrySymbols file at told.symbols
  pub rows : told.dynamic ≡ (p_vaddr file at, DYNAMIC_SIZE * length (image_rows_of file at))
  pub tables : (segment : ℕ) → is_table_holder told.table_segments segment ≡ list_any (has_table file segment) (read_addresses file at)

-- the result of reading something after checks: the first check that fails, unless a read failed
abbrev pub ReadsAfter : {X : Type 0} → List Check → (X → Type 0) → Result X Fault → Type 0
ReadsAfter checks Is (Ok x) = (first_refusal checks ≡ None) × Is x
ReadsAfter checks Is (Err (Refused refusal)) = (IsBudgetRefusal refusal → ⊥) → first_refusal checks ≡ Some refusal
ReadsAfter checks Is (Err (Source fault at)) = Unit {0}

-- the result of reading them: what they say, or the first check that fails, unless a read failed
abbrev pub ReadsRelocations : List ℕ → Result Relocations Fault → Type 0
ReadsRelocations file result = ReadsAfter (relocation_checks file) (SaysRelocations file (entries_header file)) result

-- THE CODE'S FILE IS THAT OF A DEFINITION: its program headers, of which no LOAD segment overlaps
-- another, its items and its relocations
pub record IsImageOf (source : ImageSource) (image : ImageFile) : Type 0 where
  pub held : HoldsProgramHeaders source.file image.view.loaded image.view.store.now
  pub apart : pass (overlap_checks source.file) ≡ true
  pub items : known_items image ≡ source.items
  pub based : IsBased image
  pub told : SaysRelocations source.file source.at image.told
  pub chunks : HoldsChunks source.file image.told.ranges.first.at image.chunks

-- PLACES. A place has bytes at an address: its segment is the one that holds them
pub record IsHeldPlace (file : List ℕ) (address width : ℕ) (place : Place) : Type 0 where
  pub holder : holder_of file address width ≡ Some place.segment
  pub offset : place.offset ≡ address - p_vaddr file (segment_at file place.segment)

-- the result for a place, whose refusals point to an offset
abbrev pub FindsPlace : ImageSource → (refused_at address width : ℕ) → Result Place Fault → Type 0
FindsPlace source refused_at address width (Ok place) =
    (first_refusal (place_checks source.file source.at refused_at address width) ≡ None) × IsHeldPlace source.file address width place
FindsPlace source refused_at address width (Err fault) = RefusedBy (place_checks source.file source.at refused_at address width) fault

-- what is known of a segment is so in a file
pub record IsRangeIn (file : List ℕ) (told : Relocations) (range : HeldRange) : Type 0 where
  pub load : p_type file (segment_at file range.segment) ≡ PT_LOAD
  pub first : range.first ≡ p_vaddr file (segment_at file range.segment)
  pub end : range.end ≡ p_vaddr file (segment_at file range.segment) + p_memsz file (segment_at file range.segment)
  pub permits : range.permits ≡ (told.writes_text || has_bits (p_flags file (segment_at file range.segment)) PF_W)
  pub table : range.has_table ≡ is_table_holder told.table_segments range.segment

-- a segment of a place is one of the file's LOAD segments
pub record IsHeldRange (image : ImageFile) (range : HeldRange) : Type 0 where
  pub below : range.segment < image.view.store.now.segments
  pub held : (file : List ℕ) → HoldsProgramHeaders file image.view.loaded image.view.store.now → IsRangeIn file image.told range

-- the checks of bytes at an address that are in a segment: relocations may change it, and it has no
-- table, and the bytes are not those of the dynamic entries
abbrev pub held_range_checks : Relocations → HeldRange → (refused_at address width : ℕ) → List Check
held_range_checks told range refused_at address width =
    refuse (not range.permits) refused_at PlaceOutside
    ∷ refuse
    (range.has_table || (nat_lt address (told.dynamic.0 + told.dynamic.1) && nat_lt told.dynamic.0 (address + width)))
    refused_at TableWritten
    ∷ []

-- the program header of an index is one of a LOAD segment
abbrev pub IsLoadSegment : ImageFile → ℕ → Type 0
IsLoadSegment image segment =
    (file : List ℕ) → HoldsProgramHeaders file image.view.loaded image.view.store.now → p_type file (segment_at file segment) ≡ PT_LOAD

-- SYMBOLS. The checks of the symbol of an index that an entry names: the entries of the program header
-- at an offset locate it
abbrev pub located_symbol_checks : List ℕ → (at rela index : ℕ) → List Check
located_symbol_checks file at rela index =
    refuse (is_none (tagged_row file at DT_SYMTAB)) rela BadLink
    ∷ refuse (not (nat_lt index (segment_symbols file at).1)) rela SymbolIndex
    ∷ []

-- the symbol of an entry at an offset passes its checks, and is read if its type uses it
abbrev pub UsesSymbol : ImageSource → (rela : ℕ) → DynamicType → Rela → Sym → Type 0
UsesSymbol source rela type entry symbol =
    (first_refusal (dynamic_symbol_checks type source.file source.at rela) ≡ None)
    × IsUsed type source.file (entry_symbol source.file source.at rela) (entry.r_info / 2 ^ 32) symbol

-- CHANGES. What is stored at a place
abbrev pub write_at : Place → (width : ℕ) → (bytes : List ℕ) → SegmentWrite
write_at place width bytes = record { segment = place.segment; size = width; stored = record { at = place.offset; bytes = bytes } }

abbrev pub write_as : PlacedBytes → SegmentWrite
write_as placed = write_at placed.place placed.width (stored_as placed.bytes)

-- a refusal is that of a change, or of what it lacks if the items are not partial
abbrev pub RefusesImage : (partial : Bool) → Refusal → ImageChange → Type 0
RefusesImage partial refusal change = (change ≡ Refuses refusal) ⊎ ((partial ≡ false) × (change ≡ Lacks refusal))

-- the result for an entry at an offset is its change, unless a read failed
abbrev pub ChangesAs : (partial : Bool) → (at : ℕ) → Result EntryResult Fault → ImageChange → Type 0
ChangesAs partial at (Ok result.Nothing) change = change ≡ Keeps
ChangesAs partial at (Ok (result.Stores placed)) change = (change ≡ StoresSome (write_as placed)) × IsGiven placed.bytes
ChangesAs partial at (Ok (result.Lacks cause)) change = (partial ≡ true) × (change ≡ Lacks (record { at = at; cause = cause }))
ChangesAs partial at (Err (Refused refusal)) change = (IsBudgetRefusal refusal → ⊥) → RefusesImage partial refusal change
ChangesAs partial at (Err (Source fault offset)) change = Unit {0}
