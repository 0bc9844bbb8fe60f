-- Listings of the rows at a byte of the file, or at an address.
use Rattle.std.specs.Prelude.{◌≡◌, ◌++◌, ◌+◌, ◌^◌, ◌-◌, ℕ, List, [], codes, None, Some}
use Rattle.elf_model.specs.Prelude.{ALL, ListingStyle, cost, every_symbol, listing, listing_cost, little, note_segment, one_call, one_load, one_symbol_table, report_of, standard, with_bytes}
use Rattle.elf_model.specs.declared.formats.Format.TheVariants.{Columns}
use Rattle.elf_model.specs.declared.place_filters.PlaceFilter.{PlaceFilter}

-- all parts of a file, eight headers allowed, of the rows that a filter shows
abbrev placed_style : PlaceFilter → ListingStyle
placed_style filter = record (standard 63) { place = filter }

abbrev shown_by : PlaceFilter → List ℕ → List ℕ
shown_by filter file = report_of Columns (listing file 8 (placed_style filter) ALL)

-- the rows at a byte, and at an address
abbrev shown_at : ℕ → List ℕ → List ℕ
shown_at place file = shown_by (record { at = Some place; address = None }) file

abbrev shown_for : ℕ → List ℕ → List ℕ
shown_for address file = shown_by (record { at = None; address = Some address }) file

abbrev symbols_section : List ℕ
symbols_section =
    codes "S     1 SYMTAB                     0000000000000000 0000000000000040 0000000000000030 00000002 00000001 \n"

abbrev main_row : List ℕ
main_row = codes "Y     1          1 0000000000001000 0000000000000010 FUNC    GLOBAL DEFAULT   ABS   main\n"

-- a byte of a symbol is of the section that has it, and of the symbol; a byte of a section header
-- is of that alone, and one of the strings of no other row
abbrev pub RowsAtAByteAreListed : Type 0
RowsAtAByteAreListed =
    (shown_at 0x58 one_symbol_table ≡ symbols_section ++ main_row)
    × (shown_at 0x6f one_symbol_table ≡ symbols_section ++ main_row)
    × (shown_at 0xf7 one_symbol_table ≡ symbols_section)
    × (shown_at 0x75 one_symbol_table ≡ codes "S     2 STRTAB                     0000000000000000 0000000000000070 0000000000000006 00000000 00000000 \n")
    × (shown_at 0x76 one_symbol_table ≡ [])
    × (shown_at 0x3f one_symbol_table ≡ codes "H REL     62 0000000000000000 0000000000000000 0000000000000078 00000000     0     3     0\n")

-- a function's row is that of each of its addresses, and an address after them has none
abbrev pub RowsOfAFunctionAreListed : Type 0
RowsOfAFunctionAreListed =
    (shown_for 0x1000 one_symbol_table ≡ main_row)
    × (shown_for 0x100f one_symbol_table ≡ main_row)
    × (shown_for 0x1010 one_symbol_table ≡ [])
    × (shown_for 0xfff one_symbol_table ≡ [])

-- a symbol without a size is that of one address; one whose end is at 2^64 does not wrap
abbrev pub SizesOfSymbolsAreKept : Type 0
SizesOfSymbolsAreKept =
    (shown_for 0x1000 (with_bytes 0x68 (little 8 0) one_symbol_table)
    ≡ codes "Y     1          1 0000000000001000 0000000000000000 FUNC    GLOBAL DEFAULT   ABS   main\n")
    × (shown_for 0x1001 (with_bytes 0x68 (little 8 0) one_symbol_table) ≡ [])
    × (shown_for 0 (with_bytes 0x60 (little 8 (2 ^ 64 - 1)) one_symbol_table) ≡ [])

-- a relocation entry is at its bytes, and in a program or a library also at the eight addresses
-- from its offset on
abbrev pub RowsOfAnEntryAreListed : Type 0
RowsOfAnEntryAreListed =
    let program = with_bytes 16 (little 2 2) one_call in
    let entry = codes "R     2 0000000000000001 PLT32      00000001 -0000000000000004 f\n" in
    (shown_at 0x48 one_call ≡ codes "S     2 RELA          I            0000000000000000 0000000000000048 0000000000000018 00000003 00000001 \n" ++ entry)
    × (shown_for 8 one_call ≡ [])
    × (shown_for 8 program ≡ entry)
    × (shown_for 9 program ≡ [])

-- a segment is at its bytes in the file and at its addresses
abbrev pub RowsOfASegmentAreListed : Type 0
RowsOfASegmentAreListed =
    let load = codes "P     0 LOAD     R-X 0000000000000000 0000000000400000 0000000000400000 0000000000000078 0000000000000078 0000000000001000\n" in
    (shown_for 0x400077 one_load ≡ load) × (shown_for 0x400078 one_load ≡ []) × (shown_at 0x77 one_load ≡ load)

-- a note is at its bytes, and at no address
abbrev pub RowsOfANoteAreListed : Type 0
RowsOfANoteAreListed =
    let segment = codes "P     0 NOTE     --- 0000000000000078 0000000000000000 0000000000000000 0000000000000014 0000000000000014 0000000000000004\n" in
    (shown_at 0x8b note_segment ≡ segment ++ codes "N     0 00000001 00000004 00000004 GNU 2a000000\n")
    × (shown_at 0x8c note_segment ≡ [])
    × (shown_for 0x13 note_segment ≡ segment)

-- with a byte and an address a row is at both
abbrev pub BothPlacesAreMet : Type 0
BothPlacesAreMet =
    (shown_by (record { at = Some 0x58; address = Some 0x1000 }) one_symbol_table ≡ main_row)
    × (shown_by (record { at = Some 0x40; address = Some 0x1000 }) one_symbol_table ≡ [])

-- a fault ends the rows, and the offset in its line is that of the row at fault; what is not shown
-- is read
abbrev pub PlacedFaultsAreListed : Type 0
PlacedFaultsAreListed =
    (shown_at 0x70 (with_bytes 0x58 (little 4 6) one_symbol_table)
    ≡ codes "S     2 STRTAB                     0000000000000000 0000000000000070 0000000000000006 00000000 00000000 \n"
    ++ codes "! 0000000000000058 name-outside\n")
    × (listing_cost one_symbol_table 8 (placed_style (record { at = Some 0; address = Some 0 })) ALL ≡ cost one_symbol_table 8 63 ALL)
