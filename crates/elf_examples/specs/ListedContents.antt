-- What a table has in words: the flags of dynamic entries, and the content of notes.
use Rattle.std.specs.Prelude.{◌≡◌, ◌-◌, ◌++◌, ◌^◌, ℕ, List, [], ◌∷◌, codes, false, true}
use Rattle.elf_model.specs.Prelude.{Cut, DYNAMIC, EveryRow, ListingStyle, NOTES, build_note, dynamic_prefix, every_place, every_symbol, flag_words, listing, little, needed_library, note_line, note_prefix, numbers_from, one_table, report_of, table_text, with_bytes, zeros}
use Rattle.elf_model.specs.declared.formats.Format.TheVariants.{Columns, Object, Table}
use Rattle.elf_model.specs.declared.formats.Format.{Format}
use Rattle.elf_model.specs.Names.DisplayedName.{Whole}

abbrev in_a_form : Format → ListingStyle
in_a_form format = record { cap = 63; gnu = true; by_segments = false; format = format; choice = EveryRow; symbols = every_symbol; place = every_place; versions = false }

-- the words of flags, in the order of their bits, and then the bits without a word
abbrev pub FlagsHaveWords : Type 0
FlagsHaveWords =
    (flag_words 0x6ffffffb 0x8000001 ≡ codes "NOW PIE")
    × (flag_words 30 0x8 ≡ codes "BIND_NOW")
    × (flag_words 30 0x1f ≡ codes "ORIGIN SYMBOLIC TEXTREL BIND_NOW STATIC_TLS")
    × (flag_words 30 0x1029 ≡ codes "ORIGIN BIND_NOW 0x1020")
    × (flag_words 30 0x80000000 ≡ codes "0x80000000")
    × (flag_words 30 0 ≡ [])
    × (flag_words 0x6ffffffb 0xffffffffffffffff
    ≡ codes "NOW GLOBAL GROUP NODELETE LOADFLTR INITFIRST NOOPEN ORIGIN DIRECT TRANS INTERPOSE NODEFLIB NODUMP CONFALT ENDFILTEE DISPRELDNE DISPRELPND NODIRECT IGNMULDEF NOKSYMS NOHDR EDITED NORELOC SYMINTPOSE GLOBAUDIT SINGLETON STUB PIE KMOD WEAKFILTER NOCOMMON 0xffffffff80000000")
    × (flag_words 1 0xff ≡ [])

-- in a table they are in the column of strings; lines and objects have none
abbrev pub FlagsAreInATable : Type 0
FlagsAreInATable =
    let flagged = with_bytes 0x40 (little 8 30 ++ little 8 9) needed_library in
    (table_text (report_of Table (listing flagged 3 (in_a_form Table) DYNAMIC))
    ≡ codes "index tag                     value string\n"
    ++ codes "    0 FLAGS                       9 ORIGIN BIND_NOW\n"
    ++ codes "    1 NULL                        0 \n")
    × (report_of Columns (listing flagged 3 (in_a_form Columns) DYNAMIC)
    ≡ codes "D     0 FLAGS            0000000000000009 \n"
    ++ codes "D     1 NULL             0000000000000000 \n")
    × (report_of Object (listing flagged 3 (in_a_form Object) DYNAMIC)
    ≡ codes "{\"line\":\"D\",\"index\":0,\"tag\":\"FLAGS\",\"value\":9,\"string\":\"\"}\n"
    ++ codes "{\"line\":\"D\",\"index\":1,\"tag\":\"NULL\",\"value\":0,\"string\":\"\"}\n")

-- the row of a note with this name in a table
abbrev row_named : (name : List ℕ) → (kind size : ℕ) → (descriptor : List ℕ) → List ℕ
row_named name kind size descriptor = note_line (note_prefix Table 1 kind 4 size) kind (Whole name) descriptor

abbrev gnu_row : (kind size : ℕ) → (descriptor : List ℕ) → List ℕ
gnu_row kind size descriptor = row_named (codes "GNU") kind size descriptor

-- an ABI tag is a system and a version; of another size, or of a system without a name, it is digits
abbrev pub AbiTagsAreSystems : Type 0
AbiTagsAreSystems =
    (gnu_row 1 16 (little 4 0 ++ little 4 3 ++ little 4 2 ++ little 4 0) ≡ codes "N     1        1      4     10 GNU Linux 3.2.0\n")
    × (gnu_row 1 16 (little 4 3 ++ little 4 12 ++ little 4 10 ++ little 4 4294967295) ≡ codes "N     1        1      4     10 GNU FreeBSD 12.10.4294967295\n")
    × (gnu_row 1 16 (little 4 7 ++ zeros 12) ≡ codes "N     1        1      4     10 GNU 07000000000000000000000000000000\n")
    × (gnu_row 1 12 (zeros 12) ≡ codes "N     1        1      4      c GNU 000000000000000000000000\n")
    × (gnu_row 1 17 (zeros 17) ≡ codes "N     1        1      4     11 GNU 0000000000000000000000000000000000\n")

-- a property: its type, the size of its data, and its data, with any padding
abbrev property : (kind : ℕ) → (content padding : List ℕ) → (size : ℕ) → List ℕ
property kind content padding size = little 4 kind ++ little 4 size ++ content ++ padding

abbrev features : ℕ → List ℕ
features n = property 0xc0000002 (little 4 n) (zeros 4) 4

-- properties are words, or numbers; those that end in the bytes that are shown
abbrev pub PropertiesAreWords : Type 0
PropertiesAreWords =
    (gnu_row 5 16 (features 3) ≡ codes "N     1        5      4     10 GNU x86 feature: IBT, SHSTK\n")
    × (gnu_row 5 16 (features 0) ≡ codes "N     1        5      4     10 GNU x86 feature: none\n")
    × (gnu_row 5 12 (property 0xc0000002 (little 4 0x82) [] 4) ≡ codes "N     1        5      4      c GNU x86 feature: SHSTK, 0x80\n")
    × (gnu_row 5 32 (features 3 ++ property 0xc0008002 (little 4 1) (zeros 4) 4)
    ≡ codes "N     1        5      4     20 GNU x86 feature: IBT, SHSTK; x86 ISA: baseline\n")
    × (gnu_row 5 16 (property 0xc0008002 (little 4 0x16) (zeros 4) 4) ≡ codes "N     1        5      4     10 GNU x86 ISA: v2, v3, 0x10\n")
    × (gnu_row 5 16 (property 0xc0010002 (little 4 1) (zeros 4) 4) ≡ codes "N     1        5      4     10 GNU 0xc0010002: 01000000\n")
    × (gnu_row 5 8 (property 2 [] [] 0) ≡ codes "N     1        5      4      8 GNU 0x2: \n")
    × (gnu_row 5 48 (features 3 ++ features 1 ++ features 2)
    ≡ codes "N     1        5      4     30 GNU x86 feature: IBT, SHSTK; x86 feature: IBT\\+\n")

-- a list that is cut or empty is digits; a property that is longer than what is shown too
abbrev pub OtherPropertiesAreDigits : Type 0
OtherPropertiesAreDigits =
    (gnu_row 5 20 (features 3 ++ zeros 4) ≡ codes "N     1        5      4     14 GNU 020000c004000000030000000000000000000000\n")
    × (gnu_row 5 0 [] ≡ codes "N     1        5      4      0 GNU \n")
    × (gnu_row 5 40 (property 9 (zeros 32) [] 32)
    ≡ codes "N     1        5      4     28 GNU 0900000020000000000000000000000000000000000000000000000000000000\\+\n")

-- a build id is digits; the version of gold is its text; other types, and other names, have digits
abbrev pub OtherNotesOfATable : Type 0
OtherNotesOfATable =
    (table_text (report_of Table (listing (one_table 7 4 0 build_note []) 3 (in_a_form Table) NOTES))
    ≡ codes "index     type namesz descsz name descriptor\n"
    ++ codes "    1        3      4     14 GNU 000102030405060708090a0b0c0d0e0f10111213\n")
    × (gnu_row 4 12 (codes "gold 1.16" ++ zeros 3) ≡ codes "N     1        4      4      c GNU gold 1.16\n")
    × (gnu_row 4 3 (9 ∷ 92 ∷ 255 ∷ []) ≡ codes "N     1        4      4      3 GNU \\x09\\\\\\xff\n")
    × (gnu_row 2 1 (5 ∷ []) ≡ codes "N     1        2      4      1 GNU 05\n")
    × (row_named (codes "FDO") 5 16 (features 3) ≡ codes "N     1        5      4     10 FDO 020000c0040000000300000000000000\n")
    × (note_line (note_prefix Table 1 5 4 16) 5 (Cut (codes "GN")) (features 3) ≡ codes "N     1        5      4     10 GN\\+ 020000c0040000000300000000000000\n")
    × (note_line (note_prefix Columns 1 5 4 16) 5 (Whole (codes "GNU")) (features 3) ≡ codes "N     1 00000005 00000004 00000010 GNU 020000c0040000000300000000000000\n")

-- notes of cores have the names of their types
abbrev pub CoreNotesHaveTypes : Type 0
CoreNotesHaveTypes =
    (row_named (codes "CORE") 1 336 (numbers_from 0 336) ≡ codes "N     1        1      4    150 CORE PRSTATUS\n")
    × (row_named (codes "CORE") 3 1 (0 ∷ []) ≡ codes "N     1        3      4      1 CORE PRPSINFO\n")
    × (row_named (codes "CORE") 6 1 (0 ∷ []) ≡ codes "N     1        6      4      1 CORE AUXV\n")
    × (row_named (codes "CORE") 0x46494c45 1 (0 ∷ []) ≡ codes "N     1 46494c45      4      1 CORE FILE\n")
    × (row_named (codes "CORE") 0x53494749 1 (0 ∷ []) ≡ codes "N     1 53494749      4      1 CORE SIGINFO\n")
    × (row_named (codes "CORE") 7 1 (0 ∷ []) ≡ codes "N     1        7      4      1 CORE 00\n")
    × (row_named (codes "LINUX") 0x202 1 (0 ∷ []) ≡ codes "N     1      202      4      1 LINUX X86_XSTATE\n")
    × (row_named (codes "LINUX") 1 1 (0 ∷ []) ≡ codes "N     1        1      4      1 LINUX 00\n")
