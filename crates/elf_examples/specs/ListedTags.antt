-- Listings of dynamic entries by their tags, and of later notes and the notes of later segments.
use Rattle.std.specs.Prelude.{◌≡◌, ◌+◌, List, ◌∷◌, ◌++◌, ℕ, [], codes, flat_map}
use Rattle.elf_model.specs.Prelude.{DYNAMIC, NOTES, build_note, cost, file_header, little, needed_library, numbers_from, one_table, plain_note, program_header, report, section_header, tagged, with_bytes, zeros}

-- a table of dynamic entries with these tags, each with the value 99, which is past the end of its
-- string table
abbrev pub tags : List ℕ → List ℕ
tags numbers = one_table 6 8 16 (flat_map (λ tag. tagged tag 99) numbers) (zeros 1)

-- the tags with a name whose value is no string
abbrev pub OtherTagsHaveNoString : Type 0
OtherTagsHaveNoString =
    report (tags (numbers_from 2 12 ++ numbers_from 16 13 ++ 30 ∷ [])) 3 63 DYNAMIC
    ≡ codes "D     0 PLTRELSZ         0000000000000063 \n"
    ++ codes "D     1 PLTGOT           0000000000000063 \n"
    ++ codes "D     2 HASH             0000000000000063 \n"
    ++ codes "D     3 STRTAB           0000000000000063 \n"
    ++ codes "D     4 SYMTAB           0000000000000063 \n"
    ++ codes "D     5 RELA             0000000000000063 \n"
    ++ codes "D     6 RELASZ           0000000000000063 \n"
    ++ codes "D     7 RELAENT          0000000000000063 \n"
    ++ codes "D     8 STRSZ            0000000000000063 \n"
    ++ codes "D     9 SYMENT           0000000000000063 \n"
    ++ codes "D    10 INIT             0000000000000063 \n"
    ++ codes "D    11 FINI             0000000000000063 \n"
    ++ codes "D    12 SYMBOLIC         0000000000000063 \n"
    ++ codes "D    13 REL              0000000000000063 \n"
    ++ codes "D    14 RELSZ            0000000000000063 \n"
    ++ codes "D    15 RELENT           0000000000000063 \n"
    ++ codes "D    16 PLTREL           0000000000000063 \n"
    ++ codes "D    17 DEBUG            0000000000000063 \n"
    ++ codes "D    18 TEXTREL          0000000000000063 \n"
    ++ codes "D    19 JMPREL           0000000000000063 \n"
    ++ codes "D    20 BIND_NOW         0000000000000063 \n"
    ++ codes "D    21 INIT_ARRAY       0000000000000063 \n"
    ++ codes "D    22 FINI_ARRAY       0000000000000063 \n"
    ++ codes "D    23 INIT_ARRAYSZ     0000000000000063 \n"
    ++ codes "D    24 FINI_ARRAYSZ     0000000000000063 \n"
    ++ codes "D    25 FLAGS            0000000000000063 \n"

-- tags without a name, among them some whose low 32 bits are the tag of a string
abbrev pub UnnamedTagsHaveNoString : Type 0
UnnamedTagsHaveNoString =
    report (tags (0x7ffffffd ∷ 0x7fffffff ∷ 0x6ffffffa ∷ 0x100000001 ∷ 0x10000000e ∷ 0x800000000000000f ∷ [])) 3 63 DYNAMIC
    ≡ codes "D     0 000000007ffffffd 0000000000000063 \n"
    ++ codes "D     1 000000007fffffff 0000000000000063 \n"
    ++ codes "D     2 000000006ffffffa 0000000000000063 \n"
    ++ codes "D     3 0000000100000001 0000000000000063 \n"
    ++ codes "D     4 000000010000000e 0000000000000063 \n"
    ++ codes "D     5 800000000000000f 0000000000000063 \n"

-- a file with two program headers, of these types, the second of a note after them
abbrev pub two_segments : ℕ → ℕ → List ℕ
two_segments first second =
    with_bytes 0x36 (little 2 56 ++ little 2 2) (with_bytes 0x20 (little 8 0x40) (file_header 2 0 0 0))
    ++ program_header first 4 0xb0 0x400000 20 4 ++ program_header second 4 0xb0 0x400000 20 4
    ++ plain_note (codes "GNU" ++ zeros 1) (0x2a ∷ zeros 3) 1

-- a note has the index of its program header
abbrev pub LaterSegmentsList : Type 0
LaterSegmentsList =
    (report (two_segments 1 4) 2 63 NOTES ≡ codes "N     1 00000001 00000004 00000004 GNU 2a000000\n")
    × (report (two_segments 4 4) 2 63 NOTES
    ≡ codes "N     0 00000001 00000004 00000004 GNU 2a000000\n"
    ++ codes "N     1 00000001 00000004 00000004 GNU 2a000000\n")
    × (report (with_bytes 0x80 (little 8 0x1000) (two_segments 4 4)) 2 63 NOTES
    ≡ codes "N     0 00000001 00000004 00000004 GNU 2a000000\n"
    ++ codes "! 0000000000000078 table-outside\n")
    × (report (with_bytes 0xb4 (little 4 0xffff) (two_segments 1 4)) 2 63 NOTES ≡ codes "! 00000000000000b0 note-cut\n")

-- each segment of notes costs its bytes, and the program headers cost theirs once
abbrev pub LaterSegmentsCost : Type 0
LaterSegmentsCost =
    (cost (two_segments 1 4) 2 63 NOTES ≡ 64 + 112 + 20)
    × (cost (two_segments 4 4) 2 63 NOTES ≡ 64 + 112 + 20 + 20)
    × (cost (with_bytes 0x80 (little 8 0x1000) (two_segments 4 4)) 2 63 NOTES ≡ 64 + 112 + 20)

-- a string's index is the whole value
abbrev pub StringsByTheWholeValue : Type 0
StringsByTheWholeValue =
    report (one_table 6 8 16 (tagged 1 1 ++ tagged 1 0x100000001) (0 ∷ codes "a" ++ zeros 1)) 3 63 DYNAMIC
    ≡ codes "D     0 NEEDED           0000000000000001 a\n" ++ codes "! 0000000000000050 name-outside\n"

-- after the last section and the last program header there are no tables
abbrev pub NothingPastTheLastHeader : Type 0
NothingPastTheLastHeader =
    (report (needed_library ++ section_header 6 0 0x50 16 2 0 8 16) 3 63 DYNAMIC
    ≡ codes "D     0 NEEDED           0000000000000001 libc.so.6\n" ++ codes "D     1 NULL             0000000000000000 \n")
    × (report (one_table 7 4 0 build_note [] ++ section_header 7 0 0x40 36 2 0 4 0) 3 63 NOTES
    ≡ codes "N     1 00000003 00000004 00000014 GNU 000102030405060708090a0b0c0d0e0f10111213\n")
    × (report (with_bytes 0x38 (little 2 1) (two_segments 4 4)) 2 63 NOTES
    ≡ codes "N     0 00000001 00000004 00000004 GNU 2a000000\n")
    × (cost (with_bytes 0x38 (little 2 1) (two_segments 4 4)) 2 63 NOTES ≡ 64 + 56 + 20)

-- a tag whose low 32 bits are 0 is not the end
abbrev pub EndByTheWholeTag : Type 0
EndByTheWholeTag =
    report (tags (0x100000000 ∷ 2 ∷ [])) 3 63 DYNAMIC
    ≡ codes "D     0 0000000100000000 0000000000000063 \n" ++ codes "D     1 PLTRELSZ         0000000000000063 \n"

-- a table that is cut after its second note
abbrev pub NotesCutLater : Type 0
NotesCutLater =
    report (one_table 7 4 0 (build_note ++ build_note ++ 1 ∷ []) []) 3 63 NOTES
    ≡ codes "N     1 00000003 00000004 00000014 GNU 000102030405060708090a0b0c0d0e0f10111213\n"
    ++ codes "N     1 00000003 00000004 00000014 GNU 000102030405060708090a0b0c0d0e0f10111213\n"
    ++ codes "! 0000000000000088 note-cut\n"
