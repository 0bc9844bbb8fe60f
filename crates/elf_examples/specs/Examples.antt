-- Worked examples: the results of the definitions for files given byte by byte.
use Rattle.std.specs.Prelude.{◌≡◌, codes}
use Rattle.elf_model.specs.Prelude.{HEADER, bare_header, file_header_items, one_symbol_table, report_of, standard}
use Rattle.elf_model.specs.declared.formats.Format.TheVariants.{Columns}

-- a bare file header is listed in one line
abbrev pub BareHeaderLists : Type 0
BareHeaderLists =
    report_of Columns (file_header_items (standard 63) bare_header HEADER)
    ≡ codes "H REL     62 0000000000000000 0000000000000000 0000000000000000 00000000     0     0     0\n"

-- the header of a file with one symbol table
abbrev pub OneSymbolTableHeaderLists : Type 0
OneSymbolTableHeaderLists =
    report_of Columns (file_header_items (standard 63) one_symbol_table HEADER)
    ≡ codes "H REL     62 0000000000000000 0000000000000000 0000000000000078 00000000     0     3     0\n"
