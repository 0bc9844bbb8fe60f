-- Listings of notes and dynamic entries in files without sections: the program headers describe the
-- tables.
use Rattle.std.specs.Prelude.{◌≡◌, ℕ, ◌+◌, ◌-◌, ◌*◌, ◌^◌, true, false, List, [], ◌∷◌, ◌++◌, codes, take}
use Rattle.elf_model.specs.Prelude.{ALL, DYNAMIC, EveryRow, ListingStyle, NOTES, SEGMENTS, SYMBOLS, aligned_note, ceiling, cost, every_place, every_symbol, library_strings, library_without_sections, listing, listing_cost, little, loaded, loaded_at, needed_with, object, object_with, one_segment, one_symbol_table, plain_note, program_header, report, report_of, section_header, tagged, with_bytes, zeros}
use Rattle.elf_model.specs.declared.formats.Format.TheVariants.{Columns}

abbrev needed_lines : List ℕ
needed_lines =
    codes "D     0 NEEDED           0000000000000001 libc.so.6\n"
    ++ codes "D     1 STRTAB           00000000004000f0 \n"
    ++ codes "D     2 STRSZ            000000000000000b \n"
    ++ codes "D     3 NULL             0000000000000000 \n"

-- dynamic entries of a segment, with their strings if a segment loads them, also one that loads
-- just these
abbrev pub SegmentEntriesList : Type 0
SegmentEntriesList =
    (report library_without_sections 2 63 DYNAMIC ≡ needed_lines)
    × (report (with_bytes 0x60 (little 8 11) (with_bytes 0x48 (little 8 0xf0 ++ little 8 0x4000f0) library_without_sections)) 2 63 DYNAMIC ≡ needed_lines)
    × (report library_without_sections 2 63 ALL
    ≡ codes "H DYN     62 0000000000000000 0000000000000040 0000000000000000 00000000     2     0     0\n"
    ++ codes "P     0 LOAD     R-X 0000000000000000 0000000000400000 0000000000400000 00000000000000fb 00000000000000fb 0000000000001000\n"
    ++ codes "P     1 DYNAMIC  RW- 00000000000000b0 00000000004000b0 00000000004000b0 0000000000000040 0000000000000040 0000000000000008\n"
    ++ needed_lines)

-- the program headers are read once, and each entry is read twice; a table whose own checks fail
-- costs nothing, and one that ends early counts whole
abbrev pub SegmentEntriesCost : Type 0
SegmentEntriesCost =
    (cost library_without_sections 2 63 DYNAMIC ≡ 560)
    × (ceiling 251 2 63 ≡ 3814)
    × (cost library_without_sections 2 63 ALL ≡ 560)
    × (cost library_without_sections 2 63 SEGMENTS ≡ 64 + 112)
    × (cost library_without_sections 2 63 NOTES ≡ 64 + 112)
    × (cost library_without_sections 2 63 SYMBOLS ≡ 64)
    × (cost (loaded 0xfb 0x3f (needed_with (tagged 5 0x4000f0) (tagged 10 11))) 2 63 DYNAMIC ≡ 64 + 112)
    × (cost (loaded 0xfb 0x50 (needed_with (tagged 5 0x4000f0) (tagged 10 11))) 2 63 DYNAMIC ≡ 64 + 112)
    × (cost (loaded 0xfb 0x40 (needed_with (tagged 0 0) (tagged 10 11))) 2 63 DYNAMIC ≡ 560)
    × (cost (loaded 0xfb 0 (needed_with (tagged 5 0x4000f0) (tagged 10 11))) 2 63 DYNAMIC ≡ 64 + 112)

-- more strings than a segment loads, and no entry that locates them: refused at the entry that
-- shows a string. Strings that a segment loads from past the end of the file: refused at that
-- segment
abbrev pub UnmappedStringsAreRefused : Type 0
UnmappedStringsAreRefused =
    (report (loaded 0xfb 0x40 (needed_with (tagged 5 0x4000f0) (tagged 10 12))) 2 63 DYNAMIC ≡ codes "! 00000000000000b0 unmapped\n")
    × (report (loaded 0xfb 0x40 (needed_with (tagged 99 0x4000f0) (tagged 10 11))) 2 63 DYNAMIC ≡ codes "! 00000000000000b0 unmapped\n")
    × (report (loaded 0xfb 0x40 (needed_with (tagged 5 0x4000f0) (tagged 99 11))) 2 63 DYNAMIC ≡ codes "! 00000000000000b0 unmapped\n")
    × (report (loaded 0xfb 0x40 (needed_with (tagged 5 0x3fffff) (tagged 10 11))) 2 63 DYNAMIC ≡ codes "! 00000000000000b0 unmapped\n")
    × (report (loaded 0xfc 0x40 (needed_with (tagged 5 0x4000f0) (tagged 10 12))) 2 63 DYNAMIC
    ≡ codes "! 0000000000000040 table-outside\n")

-- a name's fault is at its entry
abbrev pub SegmentStringsAreNames : Type 0
SegmentStringsAreNames =
    (report (loaded 0xfb 0x40 (tagged 29 11 ++ tagged 5 0x4000f0 ++ tagged 10 11 ++ tagged 0 0)) 2 63 DYNAMIC
    ≡ codes "! 00000000000000b0 name-outside\n")
    × (report (loaded 0xfb 0x40 (needed_with (tagged 5 0x4000f0) (tagged 10 10))) 2 63 DYNAMIC ≡ codes "! 00000000000000b0 name-unended\n")
    × (report (loaded 0xfb 0x40 (tagged 14 6 ++ tagged 5 0x4000f0 ++ tagged 10 11 ++ tagged 0 0)) 2 3 DYNAMIC
    ≡ codes "D     0 SONAME           0000000000000006 so.\\+\n"
    ++ codes "D     1 STRTAB           00000000004000f0 \n"
    ++ codes "D     2 STRSZ            000000000000000b \n"
    ++ codes "D     3 NULL             0000000000000000 \n")

-- entries that show no string need no string table
abbrev pub StringsAreSoughtLate : Type 0
StringsAreSoughtLate =
    (report (loaded 0xfb 0x20 (tagged 5 0x800000 ++ tagged 0 0)) 2 63 DYNAMIC
    ≡ codes "D     0 STRTAB           0000000000800000 \n"
    ++ codes "D     1 NULL             0000000000000000 \n")
    × (report (loaded 0xfb 0x40 (tagged 21 7 ++ tagged 1 1 ++ tagged 10 11 ++ tagged 0 0)) 2 63 DYNAMIC
    ≡ codes "D     0 DEBUG            0000000000000007 \n"
    ++ codes "! 00000000000000c0 unmapped\n")

-- the entries that locate the strings may come in either order, and after the entry that shows one;
-- of two the first counts, and none after the end
abbrev pub FirstTagsCount : Type 0
FirstTagsCount =
    (report (loaded 0xfb 0x40 (needed_with (tagged 10 11) (tagged 5 0x4000f0))) 2 63 DYNAMIC
    ≡ codes "D     0 NEEDED           0000000000000001 libc.so.6\n"
    ++ codes "D     1 STRSZ            000000000000000b \n"
    ++ codes "D     2 STRTAB           00000000004000f0 \n"
    ++ codes "D     3 NULL             0000000000000000 \n")
    × (report (loaded 0x10b 0x50 (tagged 5 0x400100 ++ needed_with (tagged 5 0x4000f0) (tagged 10 11))) 2 63 DYNAMIC
    ≡ codes "D     0 STRTAB           0000000000400100 \n"
    ++ codes "D     1 NEEDED           0000000000000001 libc.so.6\n"
    ++ codes "D     2 STRTAB           00000000004000f0 \n"
    ++ codes "D     3 STRSZ            000000000000000b \n"
    ++ codes "D     4 NULL             0000000000000000 \n")
    × (report (loaded 0x10b 0x50 (tagged 5 0x800000 ++ needed_with (tagged 5 0x400100) (tagged 10 11))) 2 63 DYNAMIC
    ≡ codes "D     0 STRTAB           0000000000800000 \n"
    ++ codes "! 00000000000000c0 unmapped\n")
    × (report (loaded 0x10b 0x50 (tagged 10 11 ++ needed_with (tagged 10 1) (tagged 5 0x400100))) 2 63 DYNAMIC
    ≡ codes "D     0 STRSZ            000000000000000b \n"
    ++ codes "D     1 NEEDED           0000000000000001 libc.so.6\n"
    ++ codes "D     2 STRSZ            0000000000000001 \n"
    ++ codes "D     3 STRTAB           0000000000400100 \n"
    ++ codes "D     4 NULL             0000000000000000 \n")
    × (report (loaded 0xfb 0x40 (tagged 1 1 ++ tagged 10 11 ++ tagged 0 0 ++ tagged 5 0x4000f0)) 2 63 DYNAMIC
    ≡ codes "! 00000000000000b0 unmapped\n")
    × (report (loaded 0xfb 0x40 (tagged 1 1 ++ tagged 5 0x4000f0 ++ tagged 0 0 ++ tagged 10 11)) 2 63 DYNAMIC
    ≡ codes "! 00000000000000b0 unmapped\n")

-- addresses do not wrap: a segment may load bytes up to and past 2^64, and strings past its end are
-- not mapped
abbrev pub AddressesDoNotWrap : Type 0
AddressesDoNotWrap =
    (report (loaded_at (2 ^ 64 - 0xf8) 0xfb 0x40 (needed_with (tagged 5 (2 ^ 64 - 8)) (tagged 10 11))) 2 63 DYNAMIC
    ≡ codes "D     0 NEEDED           0000000000000001 libc.so.6\n"
    ++ codes "D     1 STRTAB           fffffffffffffff8 \n"
    ++ codes "D     2 STRSZ            000000000000000b \n"
    ++ codes "D     3 NULL             0000000000000000 \n")
    × (report (loaded 0xfb 0x40 (needed_with (tagged 5 0x4000f0) (tagged 10 (2 ^ 64 - 1)))) 2 63 DYNAMIC
    ≡ codes "! 00000000000000b0 unmapped\n")
    × (report (loaded_at 0 0xfb 0x40 (needed_with (tagged 5 (2 ^ 64 - 8)) (tagged 10 11))) 2 63 DYNAMIC
    ≡ codes "! 00000000000000b0 unmapped\n")

-- a segment of dynamic entries that ends with the file, in 152 bytes
abbrev entries_at_the_end : List ℕ
entries_at_the_end = object 1 (program_header 2 6 0x78 0 0x20 8 ++ tagged 24 0 ++ tagged 0 0)

-- a table of dynamic entries that is not whole, or lies half or a byte outside the file: refused at
-- its program header. One of size 0 has no rows and is not checked
abbrev pub SegmentEntriesAreChecked : Type 0
SegmentEntriesAreChecked =
    (report (loaded 0xfb 0x3f (needed_with (tagged 5 0x4000f0) (tagged 10 11))) 2 63 DYNAMIC ≡ codes "! 0000000000000078 size-not-whole\n")
    × (report (loaded 0xfb 0x50 (needed_with (tagged 5 0x4000f0) (tagged 10 11))) 2 63 DYNAMIC ≡ codes "! 0000000000000078 table-outside\n")
    × (report (loaded 0xfb 0x51 (needed_with (tagged 5 0x4000f0) (tagged 10 11))) 2 63 DYNAMIC ≡ codes "! 0000000000000078 size-not-whole\n")
    × (report (with_bytes 0x80 (little 8 (2 ^ 64 - 0x10)) library_without_sections) 2 63 DYNAMIC ≡ codes "! 0000000000000078 table-outside\n")
    × (report (with_bytes 0x80 (little 8 (2 ^ 64 - 0x10)) (with_bytes 0x98 (zeros 8) library_without_sections)) 2 63 DYNAMIC ≡ [])
    × (cost (with_bytes 0x80 (little 8 (2 ^ 64 - 0x10)) (with_bytes 0x98 (zeros 8) library_without_sections)) 2 63 DYNAMIC ≡ 64 + 112)
    × (report entries_at_the_end 1 63 DYNAMIC
    ≡ codes "D     0 BIND_NOW         0000000000000000 \n"
    ++ codes "D     1 NULL             0000000000000000 \n")
    × (report (take 151 entries_at_the_end) 1 63 DYNAMIC ≡ codes "! 0000000000000040 table-outside\n")
    × (cost entries_at_the_end 1 63 DYNAMIC ≡ 64 + 56 + 2 * 96)
    × (cost (take 151 entries_at_the_end) 1 63 DYNAMIC ≡ 64 + 56)

-- two segments that load the strings, and one that is not loaded, before the dynamic entries at
-- 0x120
abbrev three_loads : (offset : ℕ) → List ℕ
three_loads offset =
    object 4
    (program_header 6 4 0 0x400000 0x1000 8 ++ program_header 1 5 offset 0x400000 0x16b 0x1000 ++ program_header 1 5 0 0x400000 0x16b 0x1000
    ++ program_header 2 6 0x120 0x400120 0x40 8 ++ needed_with (tagged 5 0x400160) (tagged 10 11) ++ library_strings)

-- of the segments that load the strings the first decides, also if its bytes lie outside the file
abbrev pub FirstLoadDecides : Type 0
FirstLoadDecides =
    (report (three_loads 0) 4 63 DYNAMIC
    ≡ codes "D     0 NEEDED           0000000000000001 libc.so.6\n"
    ++ codes "D     1 STRTAB           0000000000400160 \n"
    ++ codes "D     2 STRSZ            000000000000000b \n"
    ++ codes "D     3 NULL             0000000000000000 \n")
    × (report (three_loads 1) 4 63 DYNAMIC ≡ codes "! 0000000000000078 table-outside\n")
    × (report (with_bytes 0x98 (little 8 0x16a) (three_loads 1)) 4 63 DYNAMIC
    ≡ codes "D     0 NEEDED           0000000000000001 libc.so.6\n"
    ++ codes "D     1 STRTAB           0000000000400160 \n"
    ++ codes "D     2 STRSZ            000000000000000b \n"
    ++ codes "D     3 NULL             0000000000000000 \n")

-- a segment that is loaded, and one of dynamic entries, count by their sizes in the file and by
-- virtual addresses, and not by their sizes in memory or physical addresses
abbrev pub SegmentsByFileSize : Type 0
SegmentsByFileSize =
    (report (with_bytes 0x68 (little 8 0x1000) (loaded 0xfb 0x40 (needed_with (tagged 5 0x4000f0) (tagged 10 12)))) 2 63 DYNAMIC
    ≡ codes "! 00000000000000b0 unmapped\n")
    × (report (with_bytes 0x68 (zeros 8) library_without_sections) 2 63 DYNAMIC ≡ needed_lines)
    × (report (with_bytes 0xa0 (zeros 8) library_without_sections) 2 63 DYNAMIC ≡ needed_lines)
    × (cost (with_bytes 0xa0 (little 8 0x1000) library_without_sections) 2 63 DYNAMIC ≡ 560)
    × (report (with_bytes 0x58 (zeros 8) library_without_sections) 2 63 DYNAMIC ≡ needed_lines)

-- a program header: type, offset, virtual and physical address, size in the file and in memory
abbrev segment_apart : (type offset virtual physical file_size memory_size : ℕ) → List ℕ
segment_apart type offset virtual physical file_size memory_size =
    little 4 type ++ little 4 6 ++ little 8 offset ++ little 8 virtual ++ little 8 physical ++ little 8 file_size
    ++ little 8 memory_size ++ little 8 8

-- a segment that is loaded and one of dynamic entries, whose physical addresses are higher than the
-- virtual ones: the sizes of the first in the file and in memory, those of the second, and how many
-- bytes of strings by the entries
abbrev loaded_apart : (load_size load_memory dynamic_size dynamic_memory size : ℕ) → List ℕ
loaded_apart load_size load_memory dynamic_size dynamic_memory size =
    object 2
    (segment_apart 1 0 0x400000 0x800000 load_size load_memory ++ segment_apart 2 0xb0 0x4000b0 0x8000b0 dynamic_size dynamic_memory
    ++ needed_with (tagged 5 0x4000f0) (tagged 10 size) ++ library_strings)

-- the two addresses and the two sizes are reported apart in each place
abbrev pub SegmentsHaveFourNumbers : Type 0
SegmentsHaveFourNumbers =
    (report (loaded_apart 0xfb 0xfa 0x40 0x3f 11) 2 63 DYNAMIC
    ≡ codes "D     0 NEEDED           0000000000000001 libc.so.6\n"
    ++ codes "D     1 STRTAB           00000000004000f0 \n"
    ++ codes "D     2 STRSZ            000000000000000b \n"
    ++ codes "D     3 NULL             0000000000000000 \n")
    × (report (loaded_apart 0xfb 0x1000 0x40 0x1000 12) 2 63 DYNAMIC ≡ codes "! 00000000000000b0 unmapped\n")
    × (report (loaded_apart 0xfb 0x1000 0x3f 0x40 11) 2 63 DYNAMIC ≡ codes "! 0000000000000078 size-not-whole\n")
    × (report (loaded_apart 0xfb 0x1000 0x3f 0 11) 2 63 DYNAMIC ≡ codes "! 0000000000000078 size-not-whole\n")
    × (report (loaded_apart 0xfb 0x1000 0x50 0x40 11) 2 63 DYNAMIC ≡ codes "! 0000000000000078 table-outside\n")
    × (report (loaded_apart 0xfb 0x1000 0 0x3f 11) 2 63 DYNAMIC ≡ [])
    × (cost (loaded_apart 0xfb 0xfa 0x40 0x3f 11) 2 63 DYNAMIC ≡ 560)
    × (cost (loaded_apart 0xfb 0xfa 0x3f 0x40 11) 2 63 DYNAMIC ≡ 64 + 112)
    × (cost (loaded_apart 0xfb 0xfa 0x50 0x40 11) 2 63 DYNAMIC ≡ 64 + 112)

-- dynamic entries before the segment that loads their strings
abbrev loaded_later : (phnum : ℕ) → List ℕ
loaded_later phnum =
    object phnum
    (program_header 2 6 0xb0 0x4000b0 0x40 8 ++ program_header 1 5 0 0x400000 0xfb 0x1000
    ++ needed_with (tagged 5 0x4000f0) (tagged 10 11) ++ library_strings)

-- a later segment may load the strings, and after the last program header there is none
abbrev pub NoSegmentPastTheLast : Type 0
NoSegmentPastTheLast =
    (report (loaded_later 2) 2 63 DYNAMIC ≡ needed_lines)
    × (report (loaded_later 1) 2 63 DYNAMIC ≡ codes "! 00000000000000b0 unmapped\n")

-- all notes are listed before all dynamic entries, and the tables of each in the order of the
-- program headers
abbrev pub SegmentTablesInOrder : Type 0
SegmentTablesInOrder =
    report (object 3
    (program_header 2 6 0xe8 0 0x10 8 ++ program_header 4 4 0xf8 0 16 4 ++ program_header 2 6 0xe8 0 0x10 8
    ++ tagged 24 0 ++ plain_note (codes "ABC" ++ zeros 1) [] 9)) 3 63 (NOTES + DYNAMIC)
    ≡ codes "N     1 00000009 00000004 00000000 ABC \n"
    ++ codes "D     0 BIND_NOW         0000000000000000 \n"
    ++ codes "D     0 BIND_NOW         0000000000000000 \n"

-- two notes of a segment at an alignment of 8, and with their names cut
abbrev pub TwoNotesOfASegment : Type 0
TwoNotesOfASegment =
    let file = one_segment (program_header 4 4 0x78 0 (32 + 28) 8) (aligned_note ++ zeros 4 ++ aligned_note) in
    (report file 1 63 NOTES
    ≡ codes "N     0 00000001 00000005 00000004 ABCD 01020304\n"
    ++ codes "N     0 00000001 00000005 00000004 ABCD 01020304\n")
    × (report file 1 2 NOTES
    ≡ codes "N     0 00000001 00000005 00000004 AB\\+ 01020304\n"
    ++ codes "N     0 00000001 00000005 00000004 AB\\+ 01020304\n")

-- without sections and without program headers there is the file header alone
abbrev pub NoHeadersNoTables : Type 0
NoHeadersNoTables =
    (report (object 0 []) 1 63 ALL
    ≡ codes "H DYN     62 0000000000000000 0000000000000040 0000000000000000 00000000     0     0     0\n")
    × (cost (object 0 []) 1 63 ALL ≡ 64)

-- a segment of dynamic entries and one of notes, and after them sections of others and of strings
abbrev both_views : List ℕ
both_views =
    object_with 0x117 4 2
    (program_header 2 6 0xb0 0 0x20 8 ++ program_header 4 4 0xd0 0 20 4
    ++ tagged 24 0 ++ tagged 0 0 ++ plain_note (codes "GNU" ++ zeros 1) (0x2a ∷ zeros 3) 1
    ++ tagged 1 1 ++ tagged 0 0 ++ plain_note (codes "ABC" ++ zeros 1) [] 9 ++ (0 ∷ codes "g" ++ zeros 1)
    ++ zeros 64
    ++ section_header 6 0 0xe4 0x20 3 0 8 16 ++ section_header 7 0 0x104 16 0 0 4 0 ++ section_header 3 0 0x114 3 0 0 1 0)

-- if there are sections they decide, no matter what the program headers describe
abbrev pub SectionsDecide : Type 0
SectionsDecide =
    (report both_views 4 63 (NOTES + DYNAMIC)
    ≡ codes "N     2 00000009 00000004 00000000 ABC \n"
    ++ codes "D     0 NEEDED           0000000000000001 g\n"
    ++ codes "D     1 NULL             0000000000000000 \n")
    × (cost both_views 4 63 (NOTES + DYNAMIC) ≡ 64 + 256 + 16 + 2 * 80)
    × (cost both_views 4 63 ALL ≡ 64 + 256 + 112 + 16 + 2 * 80)

-- the strings must lie within the file, and not the whole segment that loads them
abbrev pub StringsInsideTheFile : Type 0
StringsInsideTheFile = report (loaded 0x1000 0x40 (needed_with (tagged 5 0x4000f0) (tagged 10 11))) 2 63 DYNAMIC ≡ needed_lines

-- no strings at all may be at a segment's end, and not after it; they have the empty string only at
-- 0
abbrev pub EmptyStringsAtTheEnd : Type 0
EmptyStringsAtTheEnd =
    (report (loaded 0xfb 0x40 (tagged 1 0 ++ tagged 5 0x4000fb ++ tagged 10 0 ++ tagged 0 0)) 2 63 DYNAMIC
    ≡ codes "D     0 NEEDED           0000000000000000 \n"
    ++ codes "D     1 STRTAB           00000000004000fb \n"
    ++ codes "D     2 STRSZ            0000000000000000 \n"
    ++ codes "D     3 NULL             0000000000000000 \n")
    × (report (loaded 0xfb 0x40 (needed_with (tagged 5 0x4000fb) (tagged 10 0))) 2 63 DYNAMIC ≡ codes "! 00000000000000b0 name-outside\n")
    × (report (loaded 0xfb 0x40 (needed_with (tagged 5 0x4000fc) (tagged 10 0))) 2 63 DYNAMIC ≡ codes "! 00000000000000b0 unmapped\n")

-- an entry that shows the string at 0 needs the string table too
abbrev pub FirstStringsAreSought : Type 0
FirstStringsAreSought =
    report (loaded 0xfb 0x40 (tagged 1 0 ++ tagged 99 0x4000f0 ++ tagged 10 11 ++ tagged 0 0)) 2 63 DYNAMIC
    ≡ codes "! 00000000000000b0 unmapped\n"

-- offsets do not wrap
abbrev pub OffsetsDoNotWrap : Type 0
OffsetsDoNotWrap =
    report (with_bytes 0x48 (little 8 (2 ^ 64 - 1)) (loaded 0xfc 0x40 (needed_with (tagged 5 0x4000f1) (tagged 10 11)))) 2 63 DYNAMIC
    ≡ codes "! 0000000000000040 table-outside\n"

-- the file with a segment of another type in place of the one that is loaded
abbrev typed : ℕ → List ℕ
typed type = with_bytes 0x40 (little 4 type) library_without_sections

-- segments of any other type load nothing
abbrev pub OtherTypesLoadNothing : Type 0
OtherTypesLoadNothing =
    (report (typed 0) 2 63 DYNAMIC ≡ codes "! 00000000000000b0 unmapped\n")
    × (report (typed 3) 2 63 DYNAMIC ≡ codes "! 00000000000000b0 unmapped\n")
    × (report (typed 4) 2 63 DYNAMIC ≡ codes "! 00000000000000b0 unmapped\n")
    × (report (typed 7) 2 63 DYNAMIC ≡ codes "! 00000000000000b0 unmapped\n")
    × (report (typed 0x6474e552) 2 63 DYNAMIC ≡ codes "! 00000000000000b0 unmapped\n")
    × (report (typed 0x10001) 2 63 DYNAMIC ≡ codes "! 00000000000000b0 unmapped\n")

-- each table of dynamic entries locates its own strings
abbrev pub EachTableHasItsStrings : Type 0
EachTableHasItsStrings =
    report (object 3
    (program_header 1 5 0 0x400000 0x176 0x1000 ++ program_header 2 6 0xe8 0x4000e8 0x40 8 ++ program_header 2 6 0x128 0x400128 0x40 8
    ++ needed_with (tagged 5 0x400168) (tagged 10 11) ++ needed_with (tagged 5 0x400173) (tagged 10 3)
    ++ library_strings ++ (0 ∷ codes "m" ++ zeros 1))) 3 63 DYNAMIC
    ≡ codes "D     0 NEEDED           0000000000000001 libc.so.6\n"
    ++ codes "D     1 STRTAB           0000000000400168 \n"
    ++ codes "D     2 STRSZ            000000000000000b \n"
    ++ codes "D     3 NULL             0000000000000000 \n"
    ++ codes "D     0 NEEDED           0000000000000001 m\n"
    ++ codes "D     1 STRTAB           0000000000400173 \n"
    ++ codes "D     2 STRSZ            0000000000000003 \n"
    ++ codes "D     3 NULL             0000000000000000 \n"

-- whether there are sections is decided by their number, also if their headers are at the file's
-- start
abbrev pub SectionsByTheirNumber : Type 0
SectionsByTheirNumber =
    (report (with_bytes 0x3a (little 2 64 ++ little 2 1) library_without_sections) 2 63 DYNAMIC ≡ [])
    × (cost (with_bytes 0x3a (little 2 64 ++ little 2 1) library_without_sections) 2 63 DYNAMIC ≡ 64 + 64)

-- a file whose header locates section headers that are none, listed by its program headers: its own
-- H line, and after it what the file without sections lists, at the same cost
abbrev hidden : List ℕ
hidden = with_bytes 0x28 (little 8 0x1000) (with_bytes 0x3c (little 2 3 ++ little 2 7) library_without_sections)

abbrev by_segments : ListingStyle
by_segments = record { cap = 63; gnu = false; by_segments = true; format = Columns; choice = EveryRow; symbols = every_symbol; place = every_place; versions = false }

-- a file whose header locates section headers that are none, by its program headers
abbrev pub SegmentsDespiteSections : Type 0
SegmentsDespiteSections =
    (report_of Columns (listing hidden 2 by_segments ALL)
    ≡ codes "H DYN     62 0000000000000000 0000000000000040 0000000000001000 00000000     2     3     7\n"
    ++ codes "P     0 LOAD     R-X 0000000000000000 0000000000400000 0000000000400000 00000000000000fb 00000000000000fb 0000000000001000\n"
    ++ codes "P     1 DYNAMIC  RW- 00000000000000b0 00000000004000b0 00000000004000b0 0000000000000040 0000000000000040 0000000000000008\n"
    ++ needed_lines)
    × (report hidden 3 63 DYNAMIC ≡ codes "! 000000000000003a entry-size\n")
    × (report_of Columns (listing hidden 1 by_segments DYNAMIC) ≡ codes "! 0000000000000038 too-many-headers\n")
    × (listing_cost hidden 2 by_segments ALL ≡ 560 + 7 * (251 + 15 * (32 + 64)))
    × (report_of Columns (listing library_without_sections 2 by_segments ALL) ≡ report library_without_sections 2 63 ALL)
    × (report_of Columns (listing one_symbol_table 3 by_segments (SYMBOLS + DYNAMIC)) ≡ [])
