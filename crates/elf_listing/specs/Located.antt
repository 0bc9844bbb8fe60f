-- What dynamic entries locate: the effect of calls that list it.
use Rattle.std.specs.Prelude.{ℕ, ◌≡◌, ◌+◌, ◌*◌, Bool, List, Option, Some, Result, IfSome}
use Rattle.elf_model.specs.Prelude.{ListingItem, LookupTables as IsScopeOf, SYMBOL_SIZE, entries_rows, hashed_symbol_row, hashed_symbol_rows, located_row, located_symbols, name_bytes, relocation_size, relocation_table_rows, segment_at, table_most}
use Rattle.elf_model.specs.declared.relocation_tables.RelocationForm.{RelocationForm}
use Rattle.elf_model.specs.declared.relocation_tables.RelocationTable.{RelocationTable}
use Rattle.elf_options.specs.Permitted.{style_of}
use Rattle.elf_source.specs.declared.source.Source.{Ghosts as Sources}
use Rattle.elf_source.specs.declared.sink.Sink.{Ghosts as Sinks}
use Rattle.elf_table.specs.Prelude.{HoldsProgramHeaders, StringsInBounds, SymbolTableInBounds, TableRange, strings_in, symbols_linked}
use Rattle.elf_table.specs.declared.run_fault.RunFault.{RunFault}
use Rattle.elf_hash.specs.Prelude.{AreTaggedEntries, HasHeader, IsLookupTables}
use Rattle.elf_hash.specs.declared.lookup_tables.LookupTables.{LookupTables}
use Rattle.elf_listing.specs.Shows.{ListingCalls, ListingWrote, WroteSome}
use Rattle.elf_listing.specs.TableRows.{RowLayout}
use Rattle.elf_listing.specs.Viewed.{HasLength}
use Rattle.elf_listing.specs.declared.dynamic_relocations.LocatedRelocations.{LocatedRelocations}
use Rattle.elf_listing.specs.declared.dynamic_tables.SegmentEntries.{SegmentEntries}
use Rattle.elf_listing.specs.declared.hashed_symbols.HashedSymbols.{HashedSymbols}
use Rattle.elf_listing.specs.declared.listing.Listing.{Listing}

-- the relocation entries of a table
abbrev pub located_layout : LocatedRelocations → RowLayout
located_layout rows = record {
  size = relocation_size rows.has_addends;
  listed = λ file table. table.count;
  fits = λ index. Unit {0};
  own_cost = λ versions cap. SYMBOL_SIZE + name_bytes cap;
  items = λ versions file style table_at. located_row rows.has_addends file style rows.segment (symbols_linked file rows.linked) table_at;
  within = λ versions size. IfSome rows.linked (SymbolTableInBounds size);
  here = λ versions file table_at. Unit {0};
}

-- the symbols that a hash table covers
abbrev pub hashed_layout : HashedSymbols → RowLayout
hashed_layout rows = record {
  size = SYMBOL_SIZE;
  listed = λ file table. table.count;
  fits = λ index. Unit {0};
  own_cost = λ versions cap. name_bytes cap;
  items = λ versions file style table_at. hashed_symbol_row file style rows.segment (strings_in file rows.names) table_at;
  within = λ versions size. StringsInBounds size rows.names;
  here = λ versions file table_at. Unit {0};
}

-- the entries are those of a segment of the file that is known, which has a size
pub record ViewsEntries (size : ℕ) (seen : Option (List ℕ)) (entries : SegmentEntries) : Type 0 where
  pub sized : entries.view.loaded.size ≡ size
  pub fits : HasLength entries.view.loaded.size
  pub header : HasHeader entries.segment entries.view.store.now.segments entries.view.loaded.size
  pub viewed : (file : List ℕ) → seen ≡ Some file → HoldsProgramHeaders file entries.view.loaded entries.view.store.now
  pub tagged : (file : List ℕ) → seen ≡ Some file → AreTaggedEntries file (segment_at file entries.segment) entries.found

-- a call that lists items, and reads at most what some tables do
abbrev pub ListsLocatedBy : {S W X : Type 0} {s : Sources S} {w : Sinks W} → Listing S W s w → Listing S W s w → Result X RunFault → (tables : ℕ) → (List ℕ → List ListingItem) → Type 0
ListsLocatedBy old new result tables items =
    ListingCalls old new result (tables * table_most old.file.loaded.size old.style.cap.bytes) (ListingWrote old new result items)

-- one of the tables
abbrev pub ListsTable : {S W X : Type 0} {s : Sources S} {w : Sinks W} → Listing S W s w → Listing S W s w → Result X RunFault → SegmentEntries → RelocationTable → Type 0
ListsTable old new result entries table =
    ListsLocatedBy old new result 1 (λ file. relocation_table_rows file (style_of old.style) entries.segment (segment_at file entries.segment) table)

-- the entries of a table
abbrev pub ListsEntries : {S W X : Type 0} {s : Sources S} {w : Sinks W} → Listing S W s w → Listing S W s w → Result X RunFault → SegmentEntries → TableRange → (addends : Bool) → Type 0
ListsEntries old new result entries table addends =
    ListingCalls old new result (1 * table_most old.file.loaded.size old.style.cap.bytes)
    ((form : RelocationForm) → ListingWrote old new result (λ file.
    entries_rows addends file (style_of old.style) entries.segment (record { form = form; place = table.at; count = table.count })
    (located_symbols file (segment_at file entries.segment))))

-- as many symbols as a hash table covers, which reads as much as a table, and the symbols another
abbrev pub ListsHashed : {S W X : Type 0} {s : Sources S} {w : Sinks W} → Listing S W s w → Listing S W s w → Result X RunFault → LookupTables → Type 0
ListsHashed old new result tables =
    ListingCalls old new result (2 * table_most old.file.loaded.size old.style.cap.bytes)
    ((told : IsScopeOf) (file : List ℕ) → old.src.now.seen.file ≡ Some file → IsLookupTables file told tables
    → WroteSome old.out.now new.out.now result (hashed_symbol_rows file (style_of old.style) told))
