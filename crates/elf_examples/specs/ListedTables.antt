-- Listings as tables: each line without its letter, below the names of the columns.
use Rattle.std.specs.Prelude.{◌≡◌, ◌++◌, [], ◌∷◌, codes, false, true}
use Rattle.elf_model.specs.Prelude.{ALL, EveryRow, ListingStyle, SYMBOLS, check_line, every_place, every_symbol, listing, listing_report, one_symbol_table, refusal_line, report_of, short_hex, table_text, with_bytes}
use Rattle.elf_model.specs.declared.causes.Cause.TheVariants.{TableOutside}
use Rattle.elf_model.specs.declared.formats.Format.TheVariants.{Table}
use Rattle.elf_model.specs.declared.states.FileStatus.TheVariants as state

abbrev in_a_table : ListingStyle
in_a_table = record { cap = 63; gnu = true; by_segments = false; format = Table; choice = EveryRow; symbols = every_symbol; place = every_place; versions = false }

-- a file with one symbol table
abbrev pub ATableHasColumnNames : Type 0
ATableHasColumnNames =
    table_text (report_of Table (listing one_symbol_table 3 in_a_table ALL))
    ≡ codes "type machine      entry     phoff     shoff    flags phnum shnum shstrndx\n"
    ++ codes "REL     62            0         0        78        0     0     3     0\n"
    ++ codes "\n"
    ++ codes "index type          flags             address    offset      size link  info name\n"
    ++ codes "    0 NULL                                  0         0         0    0     0 \n"
    ++ codes "    1 SYMTAB                                0        40        30    2     1 \n"
    ++ codes "    2 STRTAB                                0        70         6    0     0 \n"
    ++ codes "\n"
    ++ codes "table      index        value      size type    binding visibility place name\n"
    ++ codes "    1          0            0         0 NOTYPE  LOCAL  DEFAULT   UND   \n"
    ++ codes "    1          1         1000        10 FUNC    GLOBAL DEFAULT   ABS   main\n"

-- a refusal says in plain words what it means, and which row it is in: a field of the file header, a
-- symbol, a section header; a file header that is not read has no row, and neither has a refusal by
-- itself
abbrev pub RefusalsAreToldInATable : Type 0
RefusalsAreToldInATable =
    (table_text (listing_report one_symbol_table 2 in_a_table SYMBOLS) ≡ codes "0x3c: file header: more headers than --headers allows\n")
    × (table_text (listing_report (with_bytes 0x58 (255 ∷ []) one_symbol_table) 3 in_a_table SYMBOLS)
    ≡ codes "table      index        value      size type    binding visibility place name\n"
    ++ codes "    1          0            0         0 NOTYPE  LOCAL  DEFAULT   UND   \n"
    ++ codes "\n"
    ++ codes "0x58: section 1, entry 1: the name begins after the end of its string table\n")
    × (table_text (listing_report (with_bytes 0xe0 (9 ∷ []) one_symbol_table) 3 in_a_table SYMBOLS)
    ≡ codes "0xb8: section header 1: the index names no section, or none of the type needed\n")
    × (table_text (listing_report (with_bytes 0 (0 ∷ []) one_symbol_table) 3 in_a_table SYMBOLS) ≡ codes "0x0: not an ELF file\n")
    × (table_text (refusal_line Table (record { at = 0x28; cause = TableOutside })) ≡ codes "0x28: the table extends past the end of the file\n")

-- a file among many has a hyphen in place of what it has not
abbrev pub ChecksAreInATable : Type 0
ChecksAreInATable =
    table_text (check_line Table state.Ok (codes "a") ++ check_line Table (state.Refused (record { at = 0x28; cause = TableOutside })) (codes "b"))
    ≡ codes "state            place cause          path\n"
    ++ codes "ok                   - -              a\n"
    ++ codes "refused             28 table-outside  b\n"

-- a number has no leading zeros, and at least one digit
abbrev pub NumbersAreShort : Type 0
NumbersAreShort =
    (short_hex 0 ≡ codes "0") × (short_hex 0x10 ≡ codes "10") × (short_hex 0xfedcba9876543210 ≡ codes "fedcba9876543210")
