-- The parts of a listing after the file header: what is listed of each section, and how much is
-- read.
use Rattle.std.specs.Prelude.{ℕ, ◌+◌, ◌-◌, ◌*◌, ◌==◌, ◌&&◌, ◌≡◌, not, Bool, false, List, [], ◌∷◌, length, take, Option, None, Some, Result}
use Rattle.elf_model.specs.Prelude.{DisplayedName, HeaderTable, ListingItem, ListingStyle, RELOCS, SECTIONS, SEGMENTS, SYMBOLS, TableKind, cost_where, each, either_kind, fault_of, follows_dynamic, has, has_located, held_headers, located_count, name_bytes, no_name, records_rows, relative_relocations, section_at, section_kinds, section_row, segment_at, segment_kinds, segment_row, shown, sum_over, symbol_versions, table_cost, table_most, table_rows, version_definitions, version_needs}
use Rattle.elf_model.specs.TableKinds.{entries_kind, relocations_kind, symbols_kind}
use Rattle.elf_model.specs.declared.causes.Cause.{Cause}
use Rattle.elf_table.specs.Prelude.{LoadedFile, StoreState, StringTableRange, row, segment_bytes, strings_in}

-- WHAT A PART LISTS: its bit among the parts of a listing; how many headers it iterates over, those
-- in the store; the items of the header at an index, in a file; and how many bytes it reads at most
-- with its table, by the store
pub record PartListed : Type 0 where
  pub bit : ℕ
  pub count : StoreState → ℕ
  pub items : List ℕ → ListingStyle → ℕ → List ListingItem
  pub cost : LoadedFile → StoreState → ℕ → ℕ → ℕ

-- the section headers in the store, and the program headers
abbrev pub store_sections : StoreState → HeaderTable
store_sections store = held_headers store.loaded (row store)

abbrev pub store_segments : StoreState → HeaderTable
store_segments store = held_headers store.segments (segment_bytes store)

-- the tables of a kind, as section headers describe them, and as program headers do
abbrev pub of_sections : TableKind → PartListed
of_sections kind = record {
  bit = kind.part;
  count = λ store. store.loaded;
  items = λ file style i. table_rows kind file style i (section_at file i);
  cost = λ loaded store cap i. table_cost kind (store_sections store) i loaded.size cap;
}

abbrev pub of_segments : TableKind → PartListed
of_segments kind = record {
  bit = kind.part;
  count = λ store. store.segments;
  items = λ file style i. table_rows kind file style i (segment_at file i);
  cost = λ loaded store cap i. table_cost kind (store_segments store) i loaded.size cap;
}

-- the section headers, each with its name; and the program headers, which read nothing more
abbrev pub section_headers_part : PartListed
section_headers_part = record {
  bit = SECTIONS;
  count = λ store. store.loaded;
  items = λ file style i. section_row file style i;
  cost = λ loaded store cap i. cost_where (not (loaded.header.e_shstrndx == 0)) (name_bytes cap);
}

abbrev pub program_headers_part : PartListed
program_headers_part = record {
  bit = SEGMENTS;
  count = λ store. store.segments;
  items = λ file style i. segment_row file style i;
  cost = λ loaded store cap i. 0;
}

-- the symbols of sections and their relocation entries, with or without versions after the names of
-- symbols
abbrev pub symbols_part : Bool → PartListed
symbols_part versions = of_sections (symbols_kind versions)

abbrev pub relocations_part : (gnu versions : Bool) → PartListed
relocations_part gnu versions = of_sections (relocations_kind gnu versions)

-- the relocation entries of sections of one type, with or without addends
abbrev pub entries_part : (addends versions : Bool) → PartListed
entries_part addends versions = of_sections (entries_kind addends versions)

-- relative relocations, and what GNU listings have besides entries with addends
abbrev pub relative_part : PartListed
relative_part = of_sections relative_relocations

abbrev pub further_part : (versions : Bool) → PartListed
further_part versions = of_sections (either_kind (entries_kind false versions) relative_relocations)

-- what holds before the versions of symbols are listed of a file that is known, in a style: they are
-- named by definitions and needs whose own rows had no fault
abbrev pub AreRecordsListed : Option (List ℕ) → ListingStyle → Type 0
AreRecordsListed seen style = (file : List ℕ) → seen ≡ Some file → fault_of (records_rows file style) ≡ None

-- the items of n headers
abbrev pub part_items : PartListed → ListingStyle → ℕ → List ℕ → List ListingItem
part_items part style count file = each (part.items file style) 0 count

-- the name at an index in a string table of the file, as shown; empty without a string table
abbrev pub shown_in : List ℕ → Option StringTableRange → ℕ → ℕ → Result DisplayedName Cause
shown_in file None off cap = no_name
shown_in file (Some names) off cap = shown (strings_in file names) off cap

-- how many bytes a name in a string table reads at most: none without one
abbrev pub name_cost : Option StringTableRange → ℕ → ℕ
name_cost None cap = 0
name_cost (Some names) cap = name_bytes cap

-- how many bytes all headers of a part read at most
abbrev pub part_cost : PartListed → LoadedFile → StoreState → ℕ → ℕ
part_cost part loaded store cap = sum_over (part.cost loaded store cap) 0 (part.count store)

-- how many bytes a part reads at most, if it is one of the given parts
abbrev pub asked_cost : ℕ → PartListed → LoadedFile → StoreState → ℕ → ℕ
asked_cost parts part loaded store cap = cost_where (has parts part.bit) (part_cost part loaded store cap)

-- how many bytes the program headers read if they are listed: none if they are in the store
abbrev pub segments_listed : ℕ → LoadedFile → ℕ
segments_listed parts loaded = cost_where (has parts SEGMENTS && not (loaded.header.e_shnum == 0)) (56 * loaded.header.e_phnum)

-- how many bytes what dynamic entries locate reads at most, in a file without section headers
abbrev pub located_asked : ListingStyle → ℕ → LoadedFile → ℕ
located_asked style parts loaded =
    cost_where (loaded.header.e_shnum == 0 && (follows_dynamic style && has_located parts))
    (located_count (has parts SYMBOLS) (has parts RELOCS) * table_most loaded.size style.cap)

-- how many bytes some kinds read at most, those among the parts
unfoldable pub kinds_asked : ℕ → List PartListed → LoadedFile → StoreState → ℕ → ℕ
kinds_asked parts [] loaded store cap = 0
kinds_asked parts (kind ∷ kinds) loaded store cap = asked_cost parts kind loaded store cap + kinds_asked parts kinds loaded store cap

-- the kinds of the records of versions, and the kinds of tables of section headers that are listed
-- before them: all but those of versions
abbrev pub record_kinds : List TableKind
record_kinds = version_definitions ∷ version_needs ∷ []

abbrev pub first_kinds : (gnu versions : Bool) → List TableKind
first_kinds gnu versions =
    take (length (section_kinds gnu versions) - length (symbol_versions ∷ record_kinds)) (section_kinds gnu versions)

-- what each of some kinds lists, by the headers that describe its tables
unfoldable pub kinds_listed : (TableKind → PartListed) → List TableKind → List PartListed
kinds_listed of [] = []
kinds_listed of (kind ∷ kinds) = of kind ∷ kinds_listed of kinds

abbrev pub sections_listed : List TableKind → List PartListed
sections_listed kinds = kinds_listed of_sections kinds

abbrev pub segments_parts : List PartListed
segments_parts = kinds_listed of_segments segment_kinds

-- how many bytes the tables of a loaded file read at most, those among the parts, in a style
abbrev pub tables_listed : ListingStyle → ℕ → LoadedFile → StoreState → ℕ
tables_listed style parts loaded store =
    asked_cost parts section_headers_part loaded store style.cap
    + (segments_listed parts loaded + located_asked style parts loaded)
    + kinds_asked parts (sections_listed (first_kinds style.gnu style.versions)) loaded store style.cap
    + kinds_asked parts segments_parts loaded store style.cap
    + kinds_asked parts (sections_listed record_kinds) loaded store style.cap
    + asked_cost parts (of_sections symbol_versions) loaded store style.cap
