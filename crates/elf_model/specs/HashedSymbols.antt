-- Symbols as a loader finds them, in a file that has no section headers: those that the hash table
-- of the dynamic entries covers (gABI 5, Hash Table). A dynamic entry is at an offset of the file,
-- and so is the program header of the entries.
use Rattle.std.specs.Prelude.{ℕ, ◌+◌, ◌*◌, true, List, [], ◌∷◌, Option, None, Some, Result, Ok, Err}
use Rattle.elf_model.specs.Bindings.{symbols_hashed}
use Rattle.elf_model.specs.LineFronts.{symbol_prefix}
use Rattle.elf_model.specs.Listing.{ListingItem, Fault, each, guarded}
use Rattle.elf_model.specs.Loader.{DynamicSymbols}
use Rattle.elf_model.specs.LoaderScope.{HashStyle, LookupTables, hash_row, segment_checks, segment_lookup_tables}
use Rattle.elf_model.specs.Names.{shown}
use Rattle.elf_model.specs.Records.{e_machine, st_name}
use Rattle.elf_model.specs.Rows.{chosen_row, class_choice}
use Rattle.elf_model.specs.Style.{ListingStyle}
use Rattle.elf_model.specs.Tables.{SYMBOL_SIZE}
use Rattle.elf_model.specs.declared.causes.Refusal.{Refusal}

-- the row of the symbol of an index, of a table at an offset that the dynamic entries of a program
-- header of an index locate: it is a dynamic symbol
unfoldable pub hashed_symbol_row : List ℕ → ListingStyle → (segment : ℕ) → (strings : List ℕ) → (table_at index : ℕ) → List ListingItem
hashed_symbol_row file style segment strings table_at index =
    let symbol_at = table_at + SYMBOL_SIZE * index in
    chosen_row (class_choice file style true symbol_at)
    (symbol_prefix style.format style.gnu (e_machine file) file symbol_at segment index)
    symbol_at (shown strings (st_name file symbol_at) style.cap)

-- those of as many as the hash table covers, or the refusal of its counts
unfoldable pub counted_rows : List ℕ → ListingStyle → DynamicSymbols → Result ℕ Refusal → List ListingItem
counted_rows file style symbols (Err refusal) = Fault refusal ∷ []
counted_rows file style symbols (Ok count) =
    each (hashed_symbol_row file style symbols.index symbols.strings symbols.place) 0 count

unfoldable pub hashed_symbol_rows : List ℕ → ListingStyle → LookupTables → List ListingItem
hashed_symbol_rows file style tables = counted_rows file style tables.symbols (symbols_hashed file tables)

-- those that the hash table of an entry covers, after the checks of the lookup tables; none if no
-- entry locates a hash table
unfoldable pub rows_by_hash : List ℕ → ListingStyle → (segment at : ℕ) → Option (HashStyle × ℕ) → List ListingItem
rows_by_hash file style segment at None = []
rows_by_hash file style segment at (Some found) =
    guarded (segment_checks file found.0 at found.1)
    (hashed_symbol_rows file style (segment_lookup_tables file found.0 segment at found.1))

-- THE SYMBOLS THAT DYNAMIC ENTRIES LOCATE, those of the program header of an index
unfoldable pub segment_symbol_rows : List ℕ → ListingStyle → (segment at : ℕ) → List ListingItem
segment_symbol_rows file style segment at = rows_by_hash file style segment at (hash_row file at)
