-- Listings of archives.
use Rattle.std.specs.Prelude.{◌≡◌, ◌+◌, ◌*◌, [], ◌∷◌, ◌++◌, codes, take, true, false, None}
use Rattle.elf_model.specs.Prelude.{ALL, EveryRow, HEADER, any_refused, archive, archive_ceiling, archive_cost, archive_items, archive_of, bare_header, every_place, every_symbol, fault_of, library, member, member_header, one_symbol_table, report, short_name, standard}
use Rattle.elf_model.specs.declared.formats.Format.TheVariants.{Columns}

-- the members alone: an index of symbols, a table of names, an odd size with its padding, a long
-- name
abbrev pub MembersList : Type 0
MembersList =
    archive library 3 63 0
    ≡ codes "A     0 0000000000000044 0000000000000004 /\n"
    ++ codes "A     1 0000000000000084 0000000000000029 //\n"
    ++ codes "A     2 00000000000000ea 0000000000000003 a.txt\n"
    ++ codes "A     3 000000000000012a 0000000000000138 one_symbol_table.o\n"
    ++ codes "A     4 000000000000029e 0000000000000040 b.o\n"

-- and after each that is an ELF file its listing, with offsets from its own first byte
abbrev pub ArchiveOfNamesLists : Type 0
ArchiveOfNamesLists =
    archive library 3 63 ALL
    ≡ codes "A     0 0000000000000044 0000000000000004 /\n"
    ++ codes "A     1 0000000000000084 0000000000000029 //\n"
    ++ codes "A     2 00000000000000ea 0000000000000003 a.txt\n"
    ++ codes "A     3 000000000000012a 0000000000000138 one_symbol_table.o\n" ++ report one_symbol_table 3 63 ALL
    ++ codes "A     4 000000000000029e 0000000000000040 b.o\n" ++ report bare_header 3 63 ALL

-- the end of a member's listing does not end the archive's: the next member follows
abbrev pub RefusedMembersEndAlone : Type 0
RefusedMembersEndAlone =
    let cut = archive_of (member (codes "a.o/") (127 ∷ 69 ∷ 76 ∷ 70 ∷ 2 ∷ []) ++ member (codes "b.o/") bare_header) in
    (archive cut 3 63 HEADER
    ≡ codes "A     0 0000000000000044 0000000000000005 a.o\n" ++ codes "! 0000000000000005 short\n"
    ++ codes "A     1 0000000000000086 0000000000000040 b.o\n" ++ report bare_header 3 63 HEADER)
    × (fault_of (archive_items true cut 3 (standard 63) HEADER) ≡ None) × (any_refused cut 3 (standard 63) HEADER ≡ true) × (any_refused library 3 (standard 63) ALL ≡ false)

-- three bytes of the magic number are no ELF file
abbrev pub ThreeBytesAreNoElf : Type 0
ThreeBytesAreNoElf =
    archive (archive_of (member (codes "a.o/") (127 ∷ 69 ∷ 76 ∷ []))) 3 63 ALL ≡ codes "A     0 0000000000000044 0000000000000003 a.o\n"

-- what is not an archive; and an archive without members
abbrev pub WhatIsNoArchiveIsRefused : Type 0
WhatIsNoArchiveIsRefused =
    (archive (codes "!<arch>") 3 63 0 ≡ codes "! 0000000000000000 short\n")
    × (archive (codes "!<thin>\n") 3 63 0 ≡ codes "! 0000000000000000 thin\n")
    × (archive (codes "!<arch>\r") 3 63 0 ≡ codes "! 0000000000000000 not-archive\n")
    × (archive (codes "!<arch>\n") 3 63 0 ≡ [])

-- where there is no member: a cut header, sizes past the end, sizes that are not numbers
abbrev pub CutMembersAreRefused : Type 0
CutMembersAreRefused =
    (archive (codes "!<arch>\nx") 3 63 0 ≡ codes "! 0000000000000008 member-cut\n")
    × (archive (archive_of (member_header (codes "a") (codes "1"))) 3 63 0 ≡ codes "! 0000000000000008 member-cut\n")
    × (archive (archive_of (member_header (codes "a") (codes "9999999999"))) 3 63 0 ≡ codes "! 0000000000000008 member-cut\n")
    × (archive (archive_of (member_header (codes "a") (codes "0 1"))) 3 63 0 ≡ codes "! 0000000000000008 member-cut\n")
    × (archive (archive_of (member_header (codes "a") [])) 3 63 0 ≡ codes "! 0000000000000008 member-cut\n")
    × (archive (archive_of (member_header (codes "a") (codes "0") ++ member_header (codes "b") (codes "x"))) 3 63 0
    ≡ codes "A     0 0000000000000044 0000000000000000 a\n" ++ codes "! 0000000000000044 member-cut\n")

-- the last byte of padding may be missing
abbrev pub LastPaddingMayMiss : Type 0
LastPaddingMayMiss =
    archive (archive_of (member_header (codes "a") (codes "1") ++ 0 ∷ [])) 3 63 0 ≡ codes "A     0 0000000000000044 0000000000000001 a\n"

-- names: up to a slash, with a space inside, of all 16 bytes, a slash and no whole number, cut
abbrev pub MemberNames : Type 0
MemberNames =
    (short_name (codes "a b/            ") ≡ codes "a b")
    × (short_name (codes "a b             ") ≡ codes "a b")
    × (short_name (codes "0123456789abcdef") ≡ codes "0123456789abcdef")
    × (short_name (codes "/SYM64/         ") ≡ codes "/SYM64/")
    × (archive (archive_of (member (codes "/1x") [])) 3 63 0 ≡ codes "A     0 0000000000000044 0000000000000000 /1x\n")
    × (archive (archive_of (member (codes "abcd/") [])) 3 3 0 ≡ codes "A     0 0000000000000044 0000000000000000 abc\\+\n")

-- long names: whole with as many bytes as are shown and a slash, cut with one byte more; without a
-- table, after its end, without a newline
abbrev pub LongNames : Type 0
LongNames =
    (archive (archive_of (member (codes "//") (codes "abc/\n\n") ++ member (codes "/0") [])) 3 3 0
    ≡ codes "A     0 0000000000000044 0000000000000006 //\n" ++ codes "A     1 0000000000000086 0000000000000000 abc\n")
    × (archive (archive_of (member (codes "//") (codes "abcd/\n") ++ member (codes "/0") [])) 3 3 0
    ≡ codes "A     0 0000000000000044 0000000000000006 //\n" ++ codes "A     1 0000000000000086 0000000000000000 abc\\+\n")
    × (archive (archive_of (member (codes "/0") [])) 3 63 0 ≡ codes "! 0000000000000008 name-outside\n")
    × (archive (archive_of (member (codes "//") (codes "ab\n\n") ++ member (codes "/4") [])) 3 63 0
    ≡ codes "A     0 0000000000000044 0000000000000004 //\n" ++ codes "! 0000000000000048 name-outside\n")
    × (archive (archive_of (member (codes "//") (codes "abcd") ++ member (codes "/1") [])) 3 63 0
    ≡ codes "A     0 0000000000000044 0000000000000004 //\n" ++ codes "! 0000000000000048 name-unended\n")

-- what these cost at most
abbrev pub ArchivesCost : Type 0
ArchivesCost =
    (archive_cost library 3 (standard 63) 0 ≡ 8 + 5 * 60 + 128)
    × (archive_cost (codes "!<arch>\n") 3 (standard 63) ALL ≡ 8)
    × (archive_cost (codes "!<thin>\n") 3 (standard 63) ALL ≡ 8)

-- a member that is cut costs its header if that is whole, to the last byte, and its name if that is
-- elsewhere
abbrev pub CutMembersCost : Type 0
CutMembersCost =
    (archive_cost (codes "!<arch>\nx") 3 (standard 63) ALL ≡ 8)
    × (archive_cost (archive_of (take 59 (member_header (codes "a") (codes "1")))) 3 (standard 63) ALL ≡ 8)
    × (archive_cost (archive_of (member_header (codes "a") (codes "1"))) 3 (standard 63) ALL ≡ 8 + 60)
    × (archive_cost (archive_of (member_header (codes "/5") (codes "1"))) 3 (standard 63) ALL ≡ 8 + 60 + 128)
    × (archive_cost (archive_of (member_header (codes "#1/5") (codes "1"))) 3 (standard 63) ALL ≡ 8 + 60 + 128)

-- the upper bound with versions after names: 59 bytes have room for three rows of 16 bytes, two
-- definitions and three needs
abbrev pub CeilingsWithVersions : Type 0
CeilingsWithVersions =
    archive_ceiling 59 1 (record { cap = 63; gnu = true; by_segments = false; format = Columns; choice = EveryRow; symbols = every_symbol; place = every_place; versions = true })
    ≡ 8 + (64 + (184 + 59 + 3 * 96) + (3 * 66 + 2 * 28 + 3 * 16) + 7 * (59 + 3 * 96))
