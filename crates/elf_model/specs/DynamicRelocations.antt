-- Relocations as a loader finds them, in a file that has no section headers: dynamic entries locate
-- up to four tables of them, and the symbols that they refer to (gABI 5, Dynamic Section). A dynamic
-- entry is at an offset of the file, and so is the program header of the entries.
use Rattle.std.specs.Prelude.{ℕ, ◌+◌, ◌*◌, ◌/◌, ◌%◌, ◌==◌, nat_lt, not, if◌then◌else◌, Bool, true, false, List, [], ◌∷◌, ◌++◌, Option, None, Some, Result, Ok, Err}
use Rattle.elf_model.specs.Checks.{refuse, first_refusal}
use Rattle.elf_model.specs.Listing.{ListingItem, Fault, each}
use Rattle.elf_model.specs.LoaderScope.{rest_checks, rest_place, rest_size, tagged_row}
use Rattle.elf_model.specs.Mapped.{mapped_bytes, mapped_checks, mapped_place}
use Rattle.elf_model.specs.Names.{DisplayedName, shown}
use Rattle.elf_model.specs.Numbers.{DT_JMPREL, DT_PLTREL, DT_PLTRELSZ, DT_REL, DT_RELA, DT_RELAENT, DT_RELASZ, DT_RELENT, DT_RELR, DT_RELRENT, DT_RELRSZ, DT_RELSZ, DT_STRSZ, DT_STRTAB, DT_SYMTAB}
use Rattle.elf_model.specs.Records.{d_un, r_sym, st_name}
use Rattle.elf_model.specs.RelativeRelocations.{relr_rows_at}
use Rattle.elf_model.specs.Rows.{entry_row, no_name}
use Rattle.elf_model.specs.Style.{ListingStyle}
use Rattle.elf_model.specs.Tables.{RELA_SIZE, RELR_SIZE, REL_SIZE, SYMBOL_SIZE, relocation_size}
use Rattle.elf_model.specs.declared.causes.Cause.{Cause}
use Rattle.elf_model.specs.declared.causes.Cause.TheVariants.{BadLink, EntrySize, SizeNotWhole, SymbolIndex, Unmapped}
use Rattle.elf_model.specs.declared.causes.Refusal.{Refusal}
use Rattle.elf_model.specs.declared.relocation_tables.RelocationForm.{RelocationForm}
use Rattle.elf_model.specs.declared.relocation_tables.RelocationForm.TheVariants.{Relative, WithAddends, WithoutAddends}
use Rattle.elf_model.specs.declared.relocation_tables.RelocationTable.{RelocationTable}
use Rattle.elf_model.specs.declared.relocation_tables.RelocationTable.TheVariants.{Jmprel, Rel, Rela, Relr}

-- the size of a row in bytes
abbrev pub form_size : RelocationForm → ℕ
form_size Relative = RELR_SIZE
form_size WithoutAddends = REL_SIZE
form_size WithAddends = RELA_SIZE

-- THE TAGS OF A TABLE: of the entries that have its address, its size in bytes, and the size or type
-- of its rows
pub record TableTags : Type 0 where
  pub address : ℕ
  pub size : ℕ
  pub row : ℕ

abbrev pub tags_of : RelocationTable → TableTags
tags_of Relr = record { address = DT_RELR; size = DT_RELRSZ; row = DT_RELRENT }
tags_of Rel = record { address = DT_REL; size = DT_RELSZ; row = DT_RELENT }
tags_of Rela = record { address = DT_RELA; size = DT_RELASZ; row = DT_RELAENT }
tags_of Jmprel = record { address = DT_JMPREL; size = DT_PLTRELSZ; row = DT_PLTREL }

-- the form of the rows by the value of the last of these entries: the size of a row, or of the
-- procedure linkage table the tag of the table whose rows have the same form
abbrev pub form_if : Bool → RelocationForm → Option RelocationForm
form_if is form = if is then Some form else None

abbrev pub form_by : RelocationTable → ℕ → Option RelocationForm
form_by Relr value = form_if (value == RELR_SIZE) Relative
form_by Rel value = form_if (value == REL_SIZE) WithoutAddends
form_by Rela value = form_if (value == RELA_SIZE) WithAddends
form_by Jmprel value = if value == DT_RELA then Some WithAddends else form_if (value == DT_REL) WithoutAddends

-- A TABLE IN THE FILE: what its rows are, the offset of the first, and how many there are
pub record LocatedTable : Type 0 where
  pub form : RelocationForm
  pub place : ℕ
  pub count : ℕ

-- a table whose address and size two entries have: the size is that of whole rows, and a LOAD segment
-- has all its bytes
unfoldable pub table_mapped : List ℕ → (address_at size_at : ℕ) → RelocationForm → Result (Option LocatedTable) Refusal
table_mapped file address_at size_at form =
    let size = d_un file size_at in
    elim (first_refusal
    (refuse (not (size % form_size form == 0)) size_at SizeNotWhole ∷ mapped_checks file (d_un file address_at) size address_at)) [
      | Some refusal ↦ Err refusal
      | None ↦
          Ok (Some (record { form = form; place = mapped_place file (d_un file address_at) size; count = size / form_size form }))
    ]

-- the same by what the entry of its rows says, if there is one
unfoldable pub table_of_rows : List ℕ → RelocationTable → (address_at size_at : ℕ) → Option ℕ → Result (Option LocatedTable) Refusal
table_of_rows file table address_at size_at None = Err (record { at = address_at; cause = EntrySize })
table_of_rows file table address_at size_at (Some row_at) = elim (form_by table (d_un file row_at)) [
  | None ↦ Err (record { at = row_at; cause = EntrySize })
  | Some form ↦ table_mapped file address_at size_at form
]

-- by what the entries of its address and of its size say: without an address there is no table, and
-- an empty one is not checked
unfoldable pub table_by : List ℕ → RelocationTable → (address_at size_at row_at : Option ℕ) → Result (Option LocatedTable) Refusal
table_by file table None size_at row_at = Ok None
table_by file table (Some address_at) None row_at = Err (record { at = address_at; cause = Unmapped })
table_by file table (Some address_at) (Some size_at) row_at =
    if d_un file size_at == 0 then Ok None else table_of_rows file table address_at size_at row_at

-- THE TABLE THAT DYNAMIC ENTRIES LOCATE, the first with each of its tags, if they locate it; or the
-- first refusal
unfoldable pub located_table : List ℕ → (at : ℕ) → RelocationTable → Result (Option LocatedTable) Refusal
located_table file at table =
    let tags = tags_of table in
    table_by file table (tagged_row file at tags.address) (tagged_row file at tags.size) (tagged_row file at tags.row)

-- SYMBOLS IN THE FILE: the offset of the first, how many there are, and their strings
pub record LocatedSymbols : Type 0 where
  pub place : ℕ
  pub count : ℕ
  pub strings : List ℕ

-- the symbols whose address, and the address and size of whose strings, three entries have: all that
-- are in the rest of their segment, or the first refusal
unfoldable pub symbols_mapped : List ℕ → (symbols_at strings_at size_at : ℕ) → Result (Option LocatedSymbols) Refusal
symbols_mapped file symbols_at strings_at size_at =
    elim (first_refusal (rest_checks file symbols_at ++ mapped_checks file (d_un file strings_at) (d_un file size_at) strings_at)) [
      | Some refusal ↦ Err refusal
      | None ↦
          Ok
          (Some
          (record {
            place = rest_place file symbols_at;
            count = rest_size file symbols_at / SYMBOL_SIZE;
            strings = mapped_bytes file (d_un file strings_at) (d_un file size_at);
          }))
    ]

-- none without one of these entries
unfoldable pub symbols_by : List ℕ → (symbols_at strings_at size_at : Option ℕ) → Result (Option LocatedSymbols) Refusal
symbols_by file (Some symbols_at) (Some strings_at) (Some size_at) = symbols_mapped file symbols_at strings_at size_at
symbols_by file (Some symbols_at) (Some strings_at) None = Ok None
symbols_by file (Some symbols_at) None size_at = Ok None
symbols_by file None strings_at size_at = Ok None

-- THE SYMBOLS THAT DYNAMIC ENTRIES LOCATE
unfoldable pub located_symbols : List ℕ → (at : ℕ) → Result (Option LocatedSymbols) Refusal
located_symbols file at = symbols_by file (tagged_row file at DT_SYMTAB) (tagged_row file at DT_STRTAB) (tagged_row file at DT_STRSZ)

-- the offset of a fault and the name that is shown, for the symbol of an index that a relocation
-- entry names, among some symbols: symbol 0 has no name; any other is one of them, otherwise it is a
-- fault at the entry; a name's own fault is at the symbol
unfoldable pub named_among : List ℕ → ℕ → Option LocatedSymbols → (rela_at symbol : ℕ) → ℕ × Result DisplayedName Cause
named_among file cap symbols rela_at symbol =
    if symbol == 0 then (rela_at, no_name)
    else elim symbols [
      | None ↦ (rela_at, Err BadLink)
      | Some known ↦
          let symbol_at = known.place + SYMBOL_SIZE * symbol in
          if nat_lt symbol known.count then (symbol_at, shown known.strings (st_name file symbol_at) cap)
          else (rela_at, Err SymbolIndex)
    ]

-- the row of the relocation entry of an index, of a table at an offset, with the name of its symbol
unfoldable pub located_row : (addends : Bool) → List ℕ → ListingStyle → (segment : ℕ) → Option LocatedSymbols → (table_at index : ℕ) → List ListingItem
located_row addends file style segment symbols table_at index =
    let rela_at = table_at + relocation_size addends * index in
    entry_row addends file style segment rela_at (named_among file style.cap symbols rela_at (r_sym file rela_at))

-- the rows of relocation entries, once their symbols are located
unfoldable pub entries_rows : (addends : Bool) → List ℕ → ListingStyle → (segment : ℕ) → LocatedTable → Result (Option LocatedSymbols) Refusal → List ListingItem
entries_rows addends file style segment table (Err refusal) = Fault refusal ∷ []
entries_rows addends file style segment table (Ok symbols) =
    each (located_row addends file style segment symbols table.place) 0 table.count

-- the rows of a table by their form
unfoldable pub form_rows : RelocationForm → List ℕ → ListingStyle → (segment : ℕ) → LocatedTable → Result (Option LocatedSymbols) Refusal → List ListingItem
form_rows Relative file style segment table symbols = each (relr_rows_at file style segment table.place) 0 table.count
form_rows WithoutAddends file style segment table symbols = entries_rows false file style segment table symbols
form_rows WithAddends file style segment table symbols = entries_rows true file style segment table symbols

-- those of the table that entries locate, or its refusal
unfoldable pub located_rows : List ℕ → ListingStyle → (segment : ℕ) → Result (Option LocatedTable) Refusal → Result (Option LocatedSymbols) Refusal → List ListingItem
located_rows file style segment (Err refusal) symbols = Fault refusal ∷ []
located_rows file style segment (Ok None) symbols = []
located_rows file style segment (Ok (Some table)) symbols = form_rows table.form file style segment table symbols

-- those of one of the four tables, of the entries of a program header of an index
unfoldable pub relocation_table_rows : List ℕ → ListingStyle → (segment at : ℕ) → RelocationTable → List ListingItem
relocation_table_rows file style segment at table =
    located_rows file style segment (located_table file at table) (located_symbols file at)

-- THE RELOCATIONS THAT DYNAMIC ENTRIES LOCATE: those of all four, in the order in which a loader
-- applies them
unfoldable pub segment_relocations : List ℕ → ListingStyle → (segment at : ℕ) → List ListingItem
segment_relocations file style segment at =
    relocation_table_rows file style segment at Relr
    ++ relocation_table_rows file style segment at Rel
    ++ relocation_table_rows file style segment at Rela
    ++ relocation_table_rows file style segment at Jmprel
