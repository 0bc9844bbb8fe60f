-- What the rows of a table are, and the effect of a call that shows them.
use Rattle.std.specs.Prelude.{ℕ, ◌≡◌, ◌+◌, ◌*◌, ◌<◌, List, [], Option, None, Some, Result, length}
use Rattle.elf_model.specs.Prelude.{ListingItem, ListingStyle, each, slice}
use Rattle.elf_options.specs.Permitted.{style_of}
use Rattle.elf_source.specs.declared.source.Source.{Ghosts as Sources}
use Rattle.elf_source.specs.declared.sink.Sink.{Ghosts as Sinks}
use Rattle.elf_table.specs.Prelude.{TableInBounds, TableRange, size_of}
use Rattle.elf_table.specs.declared.row.Row.{Row}
use Rattle.elf_table.specs.declared.run_fault.RunFault.{RunFault}
use Rattle.elf_listing.specs.RowCursors.{reading, rows_to_give}
use Rattle.elf_listing.specs.Shows.{ListingCalls, WroteSome}
use Rattle.elf_listing.specs.declared.listing.Listing.{Listing}
use Rattle.elf_listing.specs.declared.row_cursor.RowCursor.{RowCursor}
use Rattle.elf_listing.specs.declared.suffixes.VersionLookup.{VersionLookup}

-- WHAT THE ROWS OF A TABLE ARE: the size of a row in bytes; how many rows are listed; that an index
-- fits the column's type. And by the version lookup of their names, if there is one: how many bytes
-- a row reads at most besides its own, for names of a limited length; the items of the row at an
-- index, in a table at an offset; that the tables that its names are read from lie within a source
-- of a size; and that they are those of a file, as is the table at an offset
pub record RowLayout : Type 1 where
  pub size : ℕ
  pub listed : List ℕ → TableRange → ℕ
  pub fits : ℕ → Type 0
  pub own_cost : Option VersionLookup → ℕ → ℕ
  pub items : Option VersionLookup → List ℕ → ListingStyle → ℕ → ℕ → List ListingItem
  pub within : Option VersionLookup → ℕ → Type 0
  pub here : Option VersionLookup → List ℕ → ℕ → Type 0

-- how many bytes the rows of a table read at most
abbrev pub rows_cost : RowLayout → Option VersionLookup → TableRange → ℕ → ℕ
rows_cost layout versions table cap = table.count * (layout.size + layout.own_cost versions cap)

-- a table of such rows, which lies within a source of this size together with the tables it refers
-- to
pub record IsTableOf (size : ℕ) (layout : RowLayout) (versions : Option VersionLookup) (table : TableRange) : Type 0 where
  pub entry : table.entry ≡ layout.size
  pub rows : TableInBounds size table
  pub names : layout.within versions size
  pub fits : (index : ℕ) → index < table.count → layout.fits index

-- a row is the one at its index in a file's table at an offset
pub record IsRowOf (file : List ℕ) (table_at : ℕ) (layout : RowLayout) (row : Row) : Type 0 where
  pub bytes : row.bytes.now ≡ slice file row.at layout.size
  pub here : row.at ≡ table_at + row.index * layout.size

-- a row is whole, its index fits, and the tables that its names are read from lie within a source
-- of this size
pub record RowFits (size : ℕ) (layout : RowLayout) (versions : Option VersionLookup) (row : Row) : Type 0 where
  pub whole : length row.bytes.now ≡ layout.size
  pub within : layout.within versions size
  pub fits : layout.fits row.index

-- a cursor before the first row of a table
pub record BeginsTable (layout : RowLayout) (table : TableRange) (cursor : RowCursor) : Type 0 where
  pub its_table : (reading cursor).table ≡ table
  pub index : (reading cursor).index ≡ 0
  pub left : (reading cursor).left ≡ table.count
  pub unread : (reading cursor).unread ≡ size_of table
  pub held : (reading cursor).held ≡ []
  pub failed : (reading cursor).failed ≡ None
  pub rows : (file : List ℕ) → rows_to_give file cursor ≡ layout.listed file table

-- the effect of a call that shows a row: if the row is the file's, its items
abbrev pub ListsRow : {S W X : Type 0} {s : Sources S} {w : Sinks W} → Listing S W s w → Listing S W s w → Result X RunFault → RowLayout → Option VersionLookup → Row → Type 0
ListsRow old new result layout versions row =
    ListingCalls old new result (layout.own_cost versions old.style.cap.bytes)
    ((file : List ℕ) → old.src.now.seen.file ≡ Some file → (table_at : ℕ) → layout.here versions file table_at → IsRowOf file table_at layout row
    → WroteSome old.out.now new.out.now result (layout.items versions file (style_of old.style) table_at row.index))

-- the effect of a call that shows the rows of a table: if the table is the file's, the items of all
-- that are listed
abbrev pub ListsRows : {S W X : Type 0} {s : Sources S} {w : Sinks W} → Listing S W s w → Listing S W s w → Result X RunFault → RowLayout → Option VersionLookup → TableRange → Type 0
ListsRows old new result layout versions table =
    ListingCalls old new result (rows_cost layout versions table old.style.cap.bytes)
    ((file : List ℕ) → old.src.now.seen.file ≡ Some file → (0 < table.count → layout.here versions file table.at)
    → WroteSome old.out.now new.out.now result (each (layout.items versions file (style_of old.style) table.at) 0 (layout.listed file table)))
