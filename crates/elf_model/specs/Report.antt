-- The listing of a file and its text, for this many headers allowed, a style, and some parts.
use Rattle.std.specs.Prelude.{ℕ, ◌&&◌, true, false, List, [], ◌∷◌, ◌++◌, Option, if◌then◌else◌}
use Rattle.elf_model.specs.Records.{e_shnum, e_phnum}
use Rattle.elf_model.specs.Checks.{Check, header_checks, load_checks, pass}
use Rattle.elf_model.specs.Cost.{locates_tables, needs_segments}
use Rattle.elf_model.specs.DynamicTables.{dynamic_tables}
use Rattle.elf_model.specs.FaultRows.{fault_row}
use Rattle.elf_model.specs.HeaderTables.{HeaderTable, TableKind}
use Rattle.elf_model.specs.Lines.{refusal_line_in}
use Rattle.elf_model.specs.Listing.{ListingItem, guarded, header_row, each, where_asked, has_tables, known_parts, report_by, fault_of, HEADER, SECTIONS, SEGMENTS}
use Rattle.elf_model.specs.Overlaps.{overlap_checks}
use Rattle.elf_model.specs.Rows.{section_row, segment_row}
use Rattle.elf_model.specs.Style.{ListingStyle, standard, viewed}
use Rattle.elf_model.specs.Tables.{all_checks}
use Rattle.elf_model.specs.TableKinds.{table_headers}
use Rattle.elf_model.specs.declared.causes.Refusal.{Refusal}
use Rattle.elf_model.specs.declared.fault_rows.FaultRow.{FaultRow}
use Rattle.elf_model.specs.declared.fault_rows.FaultRow.TheVariants.{NoRow}

-- the rows of the table of a kind whose header has an index and is at an offset, after its checks;
-- none if the header describes no such table
unfoldable pub table_rows : TableKind → List ℕ → ListingStyle → ℕ → ℕ → List ListingItem
table_rows kind file style index at =
    elim (kind.has_table file at) [ true ↦ guarded (all_checks kind.checks file at) (kind.rows file style index at) | false ↦ [] ]

-- the rows of all tables of some kinds, kind by kind, if the parts have them
unfoldable pub kinds_rows : List TableKind → HeaderTable → List ℕ → ListingStyle → ℕ → List ListingItem
kinds_rows [] headers file style parts = []
kinds_rows (kind ∷ kinds) headers file style parts =
    where_asked parts kind.part (each (λ i. table_rows kind file style i (headers.at i)) 0 headers.count)
    ++ kinds_rows kinds headers file style parts

-- what dynamic entries locate, in a file without section headers, if a style follows them
unfoldable pub located_items : List ℕ → ListingStyle → ℕ → List ListingItem
located_items file style parts = if locates_tables file style parts then dynamic_tables file style parts else []

-- the section headers, the program headers, what dynamic entries locate, and the tables kind by kind,
-- if the parts have them
unfoldable pub table_items : List ℕ → ListingStyle → ℕ → List ListingItem
table_items file style parts =
    where_asked parts SECTIONS (each (section_row file style) 0 (e_shnum file))
    ++ where_asked parts SEGMENTS (each (segment_row file style) 0 (e_phnum file))
    ++ located_items file style parts
    ++ kinds_rows (table_headers style.gnu style.versions file).kinds (table_headers style.gnu style.versions file).headers file style parts

-- if a style finds tables by the program headers and the parts need these, LOAD segments do not
-- overlap
unfoldable pub view_checks : List ℕ → ListingStyle → ℕ → List Check
view_checks file style parts = if style.by_segments && needs_segments file style parts then overlap_checks file else []

-- the tables of a loaded file, after the checks of its segments
unfoldable pub loaded_items : List ℕ → ListingStyle → ℕ → List ListingItem
loaded_items file style parts = guarded (view_checks file style parts) (table_items file style parts)

-- the load checks and what follows them, if the parts have more than the file header
unfoldable pub load_items : List ℕ → ℕ → ListingStyle → ℕ → List ListingItem
load_items file headers style parts =
    elim (has_tables parts) [
      | true ↦ guarded (load_checks file headers) (loaded_items file style parts)
      | false ↦ []
    ]

-- THE LISTING OF A FILE: if a check of the file header fails, nothing else has a meaning, and if a
-- load check fails, no table has. What follows the file header is that of the file that the style
-- lists, as far as the parts that the style knows have it
unfoldable pub listing : List ℕ → ℕ → ListingStyle → ℕ → List ListingItem
listing file headers style parts =
    guarded (header_checks file)
    (where_asked parts HEADER (header_row style file) ++ load_items (viewed style file) headers style (known_parts style parts))

-- the row at an offset of a file that a listing in a style refuses; none if a check of the file
-- header fails
unfoldable pub listing_fault_row : List ℕ → ListingStyle → ℕ → ℕ → FaultRow
listing_fault_row file style parts at =
    if pass (header_checks file) then fault_row (viewed style file) style (known_parts style parts) at else NoRow

-- the line of a refusal that ends the listing of a file: in a table it says which row of the file
-- that the style lists is at fault, if the checks of the file header pass
abbrev pub listing_refusal_line : List ℕ → ListingStyle → ℕ → Refusal → List ℕ
listing_refusal_line file style parts refusal = refusal_line_in style.format (listing_fault_row file style parts refusal.at) refusal

-- THE TEXT OF THE LISTING OF A FILE
abbrev pub listing_report : List ℕ → ℕ → ListingStyle → ℕ → List ℕ
listing_report file headers style parts = report_by (listing_refusal_line file style parts) (listing file headers style parts)

-- the listing with this limit on bytes of a name, in the standards' names, by the section headers
-- if there are any, in columns
abbrev pub items : List ℕ → ℕ → ℕ → ℕ → List ListingItem
items file headers cap parts = listing file headers (standard cap) parts

-- its text
abbrev pub report : List ℕ → ℕ → ℕ → ℕ → List ℕ
report file headers cap parts = listing_report file headers (standard cap) parts

-- its first fault
abbrev pub report_fault : List ℕ → ℕ → ℕ → ℕ → Option Refusal
report_fault file headers cap parts = fault_of (items file headers cap parts)
