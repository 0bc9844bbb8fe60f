-- The effect of a call that reads the name that an entry refers to.
use Rattle.std.specs.Prelude.{ℕ, ◌≡◌, ◌+◌, ◌==◌, not, false, List, Option, Some, Result, Ok, Err, IfOk}
use Rattle.elf_model.specs.Prelude.{SHN_UNDEF, SYMBOL_SIZE, entry_at, linked_at, name_bytes, named_among, st_shndx, symbol_named}
use Rattle.elf_source.specs.declared.source.Source.{Ghosts as Sources}
use Rattle.elf_source.specs.declared.sink.Sink.{Ghosts as Sinks}
use Rattle.elf_record.specs.Prelude.{IsDyn}
use Rattle.elf_record.specs.declared.dyn_entry.Dyn.{Dyn}
use Rattle.elf_table.specs.Prelude.{NameRead, RefersTo, StringTableRange, TableRange, symbols_linked}
use Rattle.elf_table.specs.declared.fault.Fault.{Fault}
use Rattle.elf_table.specs.declared.names.NameEnd.{NameEnd}
use Rattle.elf_listing.specs.Parts.{name_cost, shown_in}
use Rattle.elf_listing.specs.Shows.{ListingReads}
use Rattle.elf_listing.specs.Strings.{AreOf, ToldRead, strings_reported, string_told}
use Rattle.elf_listing.specs.declared.dynamic_string_table.DynamicStringTable.{DynamicStringTable}
use Rattle.elf_listing.specs.declared.listing.Listing.{Listing}
use Rattle.elf_listing.specs.declared.relocations.RelocationName.{RelocationName}

-- the name at an index of a string table, for the entry at an offset; it is empty without a table
pub record FetchesName {S W : Type 0} {s : Sources S} {w : Sinks W} (old new : Listing S W s w) (result : Result NameEnd Fault) (names : Option StringTableRange) (off at : ℕ) : Type 0 where
  pub fetches : ListingReads old new result (name_cost names old.style.cap.bytes)
  pub read : (file : List ℕ) → old.src.now.seen.file ≡ Some file → NameRead at result new.name (shown_in file names off old.style.cap.bytes)

-- how a name ends that was read along with whether its symbol is defined
abbrev pub end_read : Result RelocationName Fault → Result NameEnd Fault
end_read (Ok symbol) = Ok symbol.end
end_read (Err fault) = Err fault

-- the name of the symbol at an index, and whether the symbol is defined; symbol 0 has none
pub record FetchesLinked {S W : Type 0} {s : Sources S} {w : Sinks W} (old new : Listing S W s w) (result : Result RelocationName Fault) (linked : Option (TableRange × StringTableRange)) (symbol at : ℕ) : Type 0 where
  pub fetches : ListingReads old new result (SYMBOL_SIZE + name_bytes old.style.cap.bytes)
  pub read : (file : List ℕ) (header : ℕ) → old.src.now.seen.file ≡ Some file → RefersTo file header linked
      → NameRead (symbol_named file old.style.cap.bytes header at symbol).0 (end_read result) new.name (symbol_named file old.style.cap.bytes header at symbol).1
  pub among : (file : List ℕ) → old.src.now.seen.file ≡ Some file
      → NameRead (named_among file old.style.cap.bytes (symbols_linked file linked) at symbol).0 (end_read result) new.name (named_among file old.style.cap.bytes (symbols_linked file linked) at symbol).1
  pub defined : (file : List ℕ) (header : ℕ) → old.src.now.seen.file ≡ Some file → RefersTo file header linked → (symbol == 0) ≡ false
      → IfOk result (λ read. read.is_defined ≡ not (st_shndx file (entry_at file (linked_at file header) SYMBOL_SIZE symbol) == SHN_UNDEF))

-- the string of the dynamic entry at an offset, or what it has in place of one
pub record FetchesString {S W : Type 0} {s : Sources S} {w : Sinks W} (old new : Listing S W s w) (result : Result NameEnd Fault) (entry : Dyn) (strings : DynamicStringTable) (at : ℕ) : Type 0 where
  pub fetches : ListingReads old new result (name_bytes old.style.cap.bytes)
  pub read : (file : List ℕ) → old.src.now.seen.file ≡ Some file → AreOf file strings → IsDyn file at entry
      → ToldRead at result new.name (string_told (strings_reported strings file) old.style.format file old.style.cap.bytes at)
