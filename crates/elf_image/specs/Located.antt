-- What dynamic entries locate, step by step: the entries themselves, tables and their checks.
use Rattle.std.specs.Prelude.{ℕ, ◌≡◌, ◌+◌, ◌*◌, ◌<◌, ◌==◌, ◌&&◌, ◌||◌, not, is_some, Bool, true, false, List, [], ◌∷◌, ◌++◌, length, map, Option, None, Some, Result, Ok, Err, option_map, option_to_list}
use Rattle.std.specs.List.{list_any}
use Rattle.elf_model.specs.Checks.{Check, first_refusal, refuse}
use Rattle.elf_model.specs.DynamicRelocations.{LocatedTable, form_by, form_if, located_table, tags_of}
use Rattle.elf_model.specs.ImageChecks.{LoadedTable, addend_checks, image_rows_of, image_symbol_checks, image_tags, linkage_checks, linkage_table, loaded_if_located, located_checks, rela_table, relative_table, repeat_checks, row_value}
use Rattle.elf_model.specs.LoaderScope.{checks_of_row, dynamic_segment_index, tagged_row}
use Rattle.elf_model.specs.Numbers.{DT_JMPREL, DT_PLTREL, DT_PLTRELSZ, DT_REL, DT_RELA, DT_RELACOUNT, DT_RELAENT, DT_RELASZ, DT_RELENT, DT_RELR, DT_RELRENT, DT_RELRSZ, DT_RELSZ, DT_SYMTAB}
use Rattle.elf_model.specs.Records.{d_un, p_vaddr, segment_at}
use Rattle.elf_model.specs.Tables.{RELA_SIZE, RELR_SIZE, segment_dynamic_checks}
use Rattle.elf_model.specs.TraitNumbers.{DT_FLAGS, DT_TEXTREL}
use Rattle.elf_model.specs.declared.causes.Cause.TheVariants.{Unsupported}
use Rattle.elf_model.specs.declared.causes.Refusal.{Refusal}
use Rattle.elf_model.specs.declared.relocation_tables.RelocationForm.{RelocationForm}
use Rattle.elf_model.specs.declared.relocation_tables.RelocationTable.{RelocationTable}
use Rattle.elf_model.specs.declared.relocation_tables.RelocationTable.TheVariants as table
use Rattle.elf_table.specs.Prelude.{RefusedBy}
use Rattle.elf_table.specs.declared.fault.Fault.{Fault}
use Rattle.elf_hash.specs.Prelude.{dynamic_entry_at, entry_here, first_entry}
use Rattle.elf_hash.specs.declared.dyn_entry.DynEntry.{DynEntry}
use Rattle.elf_hash.specs.declared.relocation_tables.TableEntries.{TableEntries}
use Rattle.elf_image.specs.Relocated.{AreEntrySymbols, entries_header}
use Rattle.elf_image.specs.declared.dynamic_rows.ImageRows.{ImageRows}
use Rattle.elf_image.specs.declared.tables.ImageTables.{ImageTables}
use Rattle.elf_image.specs.declared.tables.MappedTable.{MappedTable}

-- ENTRIES that were found, each with its tag, in the order of the tags of an image
abbrev pub found_rows : ImageRows → List (ℕ × Option DynEntry)
found_rows rows =
    (DT_PLTRELSZ, rows.calls.size) ∷ (DT_SYMTAB, rows.symbols) ∷ (DT_RELA, rows.addends.address) ∷ (DT_RELASZ, rows.addends.size)
    ∷ (DT_RELAENT, rows.addends.row) ∷ (DT_REL, rows.plain.address) ∷ (DT_RELSZ, rows.plain.size) ∷ (DT_RELENT, rows.plain.row)
    ∷ (DT_PLTREL, rows.calls.row) ∷ (DT_TEXTREL, rows.text) ∷ (DT_JMPREL, rows.calls.address) ∷ (DT_FLAGS, rows.flags)
    ∷ (DT_RELRSZ, rows.compact.size) ∷ (DT_RELR, rows.compact.address) ∷ (DT_RELRENT, rows.compact.row) ∷ (DT_RELACOUNT, rows.relative) ∷ []

-- the one with a tag
unfoldable pub row_in : List (ℕ × Option DynEntry) → (tag : ℕ) → Option DynEntry
row_in [] tag = None
row_in (found ∷ rows) tag = elim (tag == found.0) [ true ↦ found.1 | false ↦ row_in rows tag ]

-- the entry at an offset is added, if it has one of their tags and none before it has
unfoldable pub rows_with : List ℕ → (at : ℕ) → List (ℕ × Option DynEntry) → List (ℕ × Option DynEntry)
rows_with file at [] = []
rows_with file at (found ∷ rows) = (found.0, first_entry found.1 (entry_here file at found.0)) ∷ rows_with file at rows

-- an image depends on the entries with a tag
abbrev pub is_image_tag : ℕ → Bool
is_image_tag tag = list_any (λ wanted. wanted == tag) image_tags

-- they are the first entries with their tags, of those of a program header at an offset, and that
-- many were read
pub record AreImageRows (file : List ℕ) (at : ℕ) (rows : ImageRows) : Type 0 where
  pub held : (tag : ℕ) → is_image_tag tag ≡ true → row_in (found_rows rows) tag ≡ option_map (dynamic_entry_at file) (tagged_row file at tag)
  pub count : rows.count ≡ length (image_rows_of file at)

-- the checks of the entries, if there are any
abbrev pub image_entry_checks : List ℕ → List Check
image_entry_checks file = elim (dynamic_segment_index file) [
  | None ↦ []
  | Some index ↦ segment_dynamic_checks file (segment_at file index) ++ repeat_checks file (segment_at file index)
]

-- entries, and the address at which they are
pub record AreRowsAt (file : List ℕ) (found : ImageRows × ℕ) : Type 0 where
  pub rows : AreImageRows file (entries_header file) found.0
  pub address : found.1 ≡ p_vaddr file (entries_header file)

-- TABLES. A table has the rows of one that is located, and its address; without one it has no rows
abbrev pub IsMapped : Option LoadedTable → (width : ℕ) → MappedTable → Type 0
IsMapped None width table = table.rows.count ≡ 0
IsMapped (Some loaded) width table =
    (table.address ≡ loaded.address) × (table.rows ≡ record { at = loaded.place; count = loaded.count; entry = width }) × (0 < loaded.count)

-- its address, if there is one
abbrev pub loaded_addresses : Option LoadedTable → List ℕ
loaded_addresses loaded = map (λ table. table.address) (option_to_list loaded)

-- those of the symbols
abbrev pub symbol_addresses : List ℕ → ℕ → List ℕ
symbol_addresses file at = map (d_un file) (option_to_list (tagged_row file at DT_SYMTAB))

-- the entry of the rows of a table has one value for their form
abbrev pub HasOneForm : RelocationTable → RelocationForm → (value : ℕ) → TableEntries → Type 0
HasOneForm table form value entries =
    (address row : DynEntry) → entries.address ≡ Some address → entries.row ≡ Some row → form_by table row.value ≡ form_if (row.value == value) form

-- checks pass and a result is as it should be, or the first check that fails refuses
abbrev pub ChecksThen : {X : Type 0} → List Check → (X → Type 0) → Result X Fault → Type 0
ChecksThen checks Is (Ok x) = (first_refusal checks ≡ None) × Is x
ChecksThen checks Is (Err fault) = RefusedBy checks fault

-- the result for a table that is located at an address, or is not
abbrev pub MapsLocated : Result (Option LocatedTable) Refusal → (address width : ℕ) → Result MappedTable Fault → Type 0
MapsLocated located address width result = ChecksThen (located_checks located) (IsMapped (loaded_if_located address located) width) result

abbrev pub MapsTable : List ℕ → (at : ℕ) → RelocationTable → (width : ℕ) → Result MappedTable Fault → Type 0
MapsTable file at table width result = MapsLocated (located_table file at table) (row_value file at (tags_of table).address) width result

-- the checks of entries without addends, and of the kind of those of the procedure linkage table
abbrev pub plain_checks : List ℕ → ℕ → List Check
plain_checks file at =
    checks_of_row (tagged_row file at DT_REL) (λ row.
    refuse (elim (tagged_row file at DT_RELSZ) [ None ↦ true | Some size_row ↦ not (d_un file size_row == 0) ]) row Unsupported ∷ [])

abbrev pub kind_row_checks : List ℕ → ℕ → List Check
kind_row_checks file at =
    checks_of_row (tagged_row file at DT_JMPREL) (λ row.
    checks_of_row (tagged_row file at DT_PLTREL) (λ kind_row. refuse (not (d_un file kind_row == DT_RELA)) kind_row Unsupported ∷ []))

-- there is a table of entries with addends
abbrev pub HasTables : List ℕ → ℕ → Type 0
HasTables file at = (is_some (rela_table file at) || is_some (linkage_table file at)) ≡ true

-- the checks of all tables
abbrev pub image_table_checks : List ℕ → ℕ → List Check
image_table_checks file at =
    addend_checks file at
    ++ located_checks (located_table file at table.Relr)
    ++ located_checks (located_table file at table.Rela)
    ++ located_checks (located_table file at table.Jmprel)
    ++ image_symbol_checks file at

-- the tables that are located
pub record AreImageTables (file : List ℕ) (at : ℕ) (tables : ImageTables) : Type 0 where
  pub compact : IsMapped (relative_table file at) RELR_SIZE tables.compact
  pub addends : IsMapped (rela_table file at) RELA_SIZE tables.addends
  pub calls : IsMapped (linkage_table file at) RELA_SIZE tables.calls
  pub symbols : HasTables file at → AreEntrySymbols file at tables.symbols

-- RANGES. There are calls and other entries
abbrev pub has_both : ImageTables → Bool
has_both tables = not (tables.addends.rows.count == 0) && not (tables.calls.rows.count == 0)

-- the address at which a table of entries ends
abbrev pub mapped_end : MappedTable → ℕ
mapped_end table = table.address + RELA_SIZE * table.rows.count

-- ALL CHECKS of what the entries locate
abbrev pub located_checks_of : List ℕ → List Check
located_checks_of file = image_table_checks file (entries_header file) ++ linkage_checks file (entries_header file)
