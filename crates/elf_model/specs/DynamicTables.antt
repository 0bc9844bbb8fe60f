-- What a loader finds in a file that has no section headers: the tables that dynamic entries locate.
use Rattle.std.specs.Prelude.{ℕ, List, [], ◌++◌, Option, None, Some}
use Rattle.elf_model.specs.DynamicRelocations.{segment_relocations}
use Rattle.elf_model.specs.HashedSymbols.{segment_symbol_rows}
use Rattle.elf_model.specs.Listing.{ListingItem, RELOCS, SYMBOLS, guarded, where_asked}
use Rattle.elf_model.specs.LoaderScope.{dynamic_segment_index}
use Rattle.elf_model.specs.Overlaps.{overlap_checks}
use Rattle.elf_model.specs.Records.{segment_at}
use Rattle.elf_model.specs.Style.{ListingStyle}
use Rattle.elf_model.specs.Tables.{segment_dynamic_checks}

-- the symbols and the relocations that the entries of a program header of an index locate, if the
-- parts have them
unfoldable pub segment_tables : List ℕ → ListingStyle → (parts segment at : ℕ) → List ListingItem
segment_tables file style parts segment at =
    where_asked parts SYMBOLS (segment_symbol_rows file style segment at)
    ++ where_asked parts RELOCS (segment_relocations file style segment at)

-- those of the first segment of dynamic entries, if there is one
unfoldable pub first_segment_tables : List ℕ → ListingStyle → (parts : ℕ) → Option ℕ → List ListingItem
first_segment_tables file style parts None = []
first_segment_tables file style parts (Some segment) =
    let at = segment_at file segment in
    guarded (segment_dynamic_checks file at) (segment_tables file style parts segment at)

-- THE TABLES THAT A LOADER FINDS: no LOAD segment overlaps another, since an address is searched for
-- in the first that has it
unfoldable pub dynamic_tables : List ℕ → ListingStyle → (parts : ℕ) → List ListingItem
dynamic_tables file style parts = guarded (overlap_checks file) (first_segment_tables file style parts (dynamic_segment_index file))
