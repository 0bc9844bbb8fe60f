-- How many bytes a listing reads at most, and its upper bound.
use Rattle.std.specs.Prelude.{ℕ, suc, zero, ◌+◌, ◌*◌, ◌/◌, ◌==◌, ◌&&◌, ◌||◌, not, if◌then◌else◌, Bool, true, List, [], ◌∷◌, length}
use Rattle.elf_model.specs.Records.{FILE_HEADER_SIZE, SECTION_HEADER_SIZE, PROGRAM_HEADER_SIZE, e_shnum, e_phnum, e_shstrndx}
use Rattle.elf_model.specs.Names.{name_bytes}
use Rattle.elf_model.specs.Checks.{pass, before_headers}
use Rattle.elf_model.specs.HeaderTables.{HeaderTable, TableKind}
use Rattle.elf_model.specs.Listing.{has, has_tables, known_parts, SECTIONS, SEGMENTS, SYMBOLS, RELOCS, NOTES, DYNAMIC}
use Rattle.elf_model.specs.Style.{ListingStyle, follows_dynamic, standard, viewed}
use Rattle.elf_model.specs.TableKinds.{table_headers}
use Rattle.elf_model.specs.Tables.{REL_SIZE}
use Rattle.elf_model.specs.Versions.{VERSYM_SIZE, DEFINITION_SIZE, DEFINED_NAME_SIZE, NEED_SIZE}

-- the costs of this many rows, or tables, starting at a first one
unfoldable pub sum_over : (ℕ → ℕ) → ℕ → ℕ → ℕ
sum_over cost first zero = 0
sum_over cost first (suc count) = cost first + sum_over cost (suc first) count

-- a cost that is counted only under a condition
abbrev pub cost_where : Bool → ℕ → ℕ
cost_where condition cost = if condition then cost else 0

-- what the table of a kind costs whose header has an index, in a file of this many bytes, if its
-- own checks pass
unfoldable pub table_cost : TableKind → HeaderTable → (index file_size cap : ℕ) → ℕ
table_cost kind headers i file_size cap =
    cost_where (kind.has_table (headers.bytes i) (headers.at i) && pass (kind.checks.own (headers.bytes i) (headers.at i) file_size))
    (kind.asks headers i file_size cap)

-- what the tables of some kinds cost that a header describes, if the parts have them
unfoldable pub kinds_cost : List TableKind → HeaderTable → (index file_size cap parts : ℕ) → ℕ
kinds_cost [] headers i file_size cap parts = 0
kinds_cost (kind ∷ kinds) headers i file_size cap parts =
    cost_where (has parts kind.part) (table_cost kind headers i file_size cap) + kinds_cost kinds headers i file_size cap parts

-- all checks before the section headers and the program headers are read pass
unfoldable pub is_loadable : List ℕ → ℕ → Bool
is_loadable file headers = pass (before_headers file headers)

-- the section headers; and if these are listed and the index of the section of the section names is
-- not 0, a name each
unfoldable pub sections_cost : List ℕ → ℕ → ℕ → ℕ
sections_cost file cap parts =
    SECTION_HEADER_SIZE * e_shnum file
    + cost_where (has parts SECTIONS && not (e_shstrndx file == 0)) (e_shnum file * name_bytes cap)

-- parts have what dynamic entries locate: symbols and relocations
abbrev pub has_located : ℕ → Bool
has_located parts = has parts SYMBOLS || has parts RELOCS

-- parts of a listing of a style are found by the program headers: notes and dynamic entries, and what
-- these locate if the style follows them
abbrev pub lies_in_segments : ListingStyle → ℕ → Bool
lies_in_segments style parts = has parts NOTES || (has parts DYNAMIC || (follows_dynamic style && has_located parts))

-- the program headers are read: if they are listed, or if they describe tables that are
abbrev pub needs_segments : List ℕ → ListingStyle → ℕ → Bool
needs_segments file style parts = has parts SEGMENTS || (e_shnum file == 0 && lies_in_segments style parts)

-- the program headers, if they are read
unfoldable pub segments_cost : List ℕ → ListingStyle → ℕ → ℕ
segments_cost file style parts = cost_where (needs_segments file style parts) (PROGRAM_HEADER_SIZE * e_phnum file)

-- what a listing shows of a file is found by its dynamic entries
abbrev pub locates_tables : List ℕ → ListingStyle → ℕ → Bool
locates_tables file style parts = e_shnum file == 0 && (follows_dynamic style && has_located parts)

-- the upper bound of what a table that dynamic entries locate reads in a file of this many bytes: a
-- symbol and its name for each 16 bytes
abbrev pub table_most : (size cap : ℕ) → ℕ
table_most size cap = size + size / 16 * (32 + name_bytes cap)

-- how many tables are read at most, if the parts have symbols and relocations: that of the dynamic
-- entries; the hash table and the symbols; and four tables of relocations
abbrev pub located_count : (symbols relocations : Bool) → ℕ
located_count symbols relocations = 1 + cost_where symbols 2 + cost_where relocations 4

-- the upper bound of all of them
abbrev pub located_most : (size cap : ℕ) → ℕ
located_most size cap = located_count true true * table_most size cap

unfoldable pub located_cost : List ℕ → ListingStyle → ℕ → ℕ
located_cost file style parts =
    cost_where (locates_tables file style parts)
    (located_count (has parts SYMBOLS) (has parts RELOCS) * table_most (length file) style.cap)

-- the tables of all headers that describe tables, if the parts have them
unfoldable pub tables_cost : List ℕ → ListingStyle → ℕ → ℕ
tables_cost file style parts =
    let tables = table_headers style.gnu style.versions file in
    sum_over (λ i. kinds_cost tables.kinds tables.headers i (length file) style.cap parts) 0 tables.headers.count

-- how many bytes are read after the file header at most
abbrev pub after_header : List ℕ → ℕ → ListingStyle → ℕ → ℕ
after_header file headers style parts =
    cost_where (has_tables parts && is_loadable file headers)
    (sections_cost file style.cap parts + segments_cost file style parts + located_cost file style parts + tables_cost file style parts)

-- HOW MANY BYTES THE LISTING OF A FILE READS at most: the file header, and what is read after it
-- for the parts that the style knows
unfoldable pub listing_cost : List ℕ → ℕ → ListingStyle → ℕ → ℕ
listing_cost file headers style parts =
    FILE_HEADER_SIZE + after_header (viewed style file) headers style (known_parts style parts)

-- that of the listing with this limit on bytes of a name, in the standards' names, by the section
-- headers if there are any
abbrev pub cost : List ℕ → ℕ → ℕ → ℕ → ℕ
cost file headers cap parts = listing_cost file headers (standard cap) parts

-- the upper bound of a listing of a file of this many bytes without versions after the names of
-- symbols, for any bytes
unfoldable pub ceiling : ℕ → ℕ → ℕ → ℕ
ceiling size headers cap =
    FILE_HEADER_SIZE
    + headers * (SECTION_HEADER_SIZE + PROGRAM_HEADER_SIZE + name_bytes cap + size + size / 16 * (32 + name_bytes cap))

-- the upper bound for the versions after the names of one table's symbols in a file of this many
-- bytes: a versym entry and a name for each entry, and one walk over the definitions and the needs
abbrev pub suffixes_most : (size cap : ℕ) → ℕ
suffixes_most size cap =
    size / REL_SIZE * (VERSYM_SIZE + name_bytes cap)
    + (size / DEFINITION_SIZE * (DEFINITION_SIZE + DEFINED_NAME_SIZE) + size / NEED_SIZE * NEED_SIZE)

-- the upper bound of the tables of a listing of a style: more if versions follow the names of symbols
unfoldable pub tables_ceiling : (size headers : ℕ) → ListingStyle → ℕ
tables_ceiling size headers style =
    if style.versions then ceiling size headers style.cap + headers * suffixes_most size style.cap
    else ceiling size headers style.cap

-- the upper bound of a listing of a style: more if it follows dynamic entries
unfoldable pub style_ceiling : (size headers : ℕ) → ListingStyle → ℕ
style_ceiling size headers style =
    tables_ceiling size headers style + cost_where (follows_dynamic style) (located_most size style.cap)
