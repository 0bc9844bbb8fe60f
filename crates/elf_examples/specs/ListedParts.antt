-- Parts of a listing, alone and together.
use Rattle.std.specs.Prelude.{◌≡◌, ℕ, List, [], ◌∷◌, ◌++◌, codes, take}
use Rattle.elf_model.specs.Prelude.{ALL, HEADER, RELOCS, SECTIONS, SYMBOLS, bare_header, one_call, one_symbol_table, one_table, report, show_answer, symbol}

-- each part of one file alone
abbrev pub PartsAloneList : Type 0
PartsAloneList =
    (report one_call 5 63 HEADER
    ≡ codes "H REL     62 0000000000000000 0000000000000000 0000000000000098 00000000     0     5     0\n")
    × (report one_call 5 63 SECTIONS
    ≡ codes "S     0 NULL                       0000000000000000 0000000000000000 0000000000000000 00000000 00000000 \n"
    ++ codes "S     1 PROGBITS      AX           0000000000000000 0000000000000040 0000000000000005 00000000 00000000 \n"
    ++ codes "S     2 RELA          I            0000000000000000 0000000000000048 0000000000000018 00000003 00000001 \n"
    ++ codes "S     3 SYMTAB                     0000000000000000 0000000000000060 0000000000000030 00000004 00000001 \n"
    ++ codes "S     4 STRTAB                     0000000000000000 0000000000000090 0000000000000003 00000000 00000000 \n")
    × (report one_call 5 63 SYMBOLS
    ≡ codes "Y     3          0 0000000000000000 0000000000000000 NOTYPE  LOCAL  DEFAULT   UND   \n"
    ++ codes "Y     3          1 0000000000000000 0000000000000000 NOTYPE  GLOBAL DEFAULT   UND   f\n")
    × (report one_call 5 63 RELOCS
    ≡ codes "R     2 0000000000000001 PLT32      00000001 -0000000000000004 f\n")

-- the file header and the symbols; the symbols and the relocation entries
abbrev pub PartsTogetherList : Type 0
PartsTogetherList =
    (report one_call 5 63 9
    ≡ codes "H REL     62 0000000000000000 0000000000000000 0000000000000098 00000000     0     5     0\n"
    ++ codes "Y     3          0 0000000000000000 0000000000000000 NOTYPE  LOCAL  DEFAULT   UND   \n"
    ++ codes "Y     3          1 0000000000000000 0000000000000000 NOTYPE  GLOBAL DEFAULT   UND   f\n")
    × (report one_call 5 63 24
    ≡ codes "Y     3          0 0000000000000000 0000000000000000 NOTYPE  LOCAL  DEFAULT   UND   \n"
    ++ codes "Y     3          1 0000000000000000 0000000000000000 NOTYPE  GLOBAL DEFAULT   UND   f\n"
    ++ codes "R     2 0000000000000001 PLT32      00000001 -0000000000000004 f\n")
    × (report one_call 5 63 100
    ≡ [])

-- no parts: nothing, but the file header is checked; bits outside the seven mean nothing
abbrev pub NoPartsListNothing : Type 0
NoPartsListNothing =
    (report one_symbol_table 3 63 0
    ≡ [])
    × (report one_symbol_table 1 63 0
    ≡ [])
    × (report (take 63 one_symbol_table) 3 63 0
    ≡ codes "! 000000000000003f short\n")
    × (report one_symbol_table 3 63 128
    ≡ [])
    × (report one_symbol_table 1 63 129
    ≡ codes "H REL     62 0000000000000000 0000000000000000 0000000000000078 00000000     0     3     0\n")

-- the status of a listing: 0 without a fault, 1 with one
abbrev pub AnswersHaveAStatus : Type 0
AnswersHaveAStatus =
    ((show_answer one_symbol_table 3 63 ALL).status ≡ 0)
    × ((show_answer one_symbol_table 2 63 ALL).status ≡ 1)
    × (show_answer (take 63 bare_header) 1 63 ALL ≡ record { text = codes "! 000000000000003f short\n"; status = 1 })
    × (show_answer one_symbol_table 4096 256 ALL ≡ record { text = report one_symbol_table 3 63 ALL; status = 0 })

-- one symbol, whose name is some bytes with no NUL after them
abbrev open_symbol : List ℕ → List ℕ
open_symbol name = one_table 2 8 24 (symbol 1 0 0 0 0) (0 ∷ name)

-- the text and the status are of the same listing: of the requested names, cut or refused, of the
-- parts and of the headers
abbrev pub AnswersAreOfOneListing : Type 0
AnswersAreOfOneListing =
    (show_answer (open_symbol (codes "abc")) 3 2 SYMBOLS
    ≡ record {
      text = codes "Y     1          0 0000000000000000 0000000000000000 NOTYPE  LOCAL  DEFAULT   UND   ab\\+\n";
      status = 0;
    })
    × (show_answer (open_symbol (codes "ab")) 3 2 SYMBOLS ≡ record { text = codes "! 0000000000000040 name-unended\n"; status = 1 })
    × (show_answer (open_symbol (codes "ab")) 3 2 HEADER
    ≡ record {
      text = codes "H REL     62 0000000000000000 0000000000000000 000000000000005b 00000000     0     3     0\n";
      status = 0;
    })
    × (show_answer one_symbol_table 2 63 ALL
    ≡ record {
      text =
          codes "H REL     62 0000000000000000 0000000000000000 0000000000000078 00000000     0     3     0\n"
          ++ codes "! 000000000000003c too-many-headers\n";
      status = 1;
    })
    × (show_answer one_symbol_table 2 63 SYMBOLS ≡ record { text = codes "! 000000000000003c too-many-headers\n"; status = 1 })
    × (show_answer one_symbol_table 3 2 SYMBOLS
    ≡ record {
      text =
          codes "Y     1          0 0000000000000000 0000000000000000 NOTYPE  LOCAL  DEFAULT   UND   \n"
          ++ codes "Y     1          1 0000000000001000 0000000000000010 FUNC    GLOBAL DEFAULT   ABS   ma\\+\n";
      status = 0;
    })
