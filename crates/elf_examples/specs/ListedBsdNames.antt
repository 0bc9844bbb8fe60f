-- Members whose names are at the start of their data, as BSD's `ar` writes long ones.
use Rattle.std.specs.Prelude.{ℕ, ◌≡◌, ◌+◌, List, [], ◌∷◌, ◌++◌, codes, None, Some}
use Rattle.elf_model.specs.Prelude.{ALL, archive, archive_cost, archive_of, bare_header, bsd_name_length, member, report, standard, zeros}

-- what members list with this many bytes of a name
abbrev pub listed : ℕ → List ℕ → List ℕ
listed cap members = archive (archive_of members) 3 cap 0

-- a name and a NUL, and data: eight bytes, of which three are left; the next member is after all
-- eight. Without the NUL they are seven, and a byte of padding comes before the next
abbrev pub BsdNamesAreShown : Type 0
BsdNamesAreShown =
    (listed 63 (member (codes "#1/5") (codes "ab.o" ++ 0 ∷ codes "odd") ++ member (codes "b/") [])
    ≡ codes "A     0 0000000000000049 0000000000000003 ab.o\n" ++ codes "A     1 0000000000000088 0000000000000000 b\n")
    × (listed 63 (member (codes "#1/4") (codes "ab.oodd") ++ member (codes "b/") [])
    ≡ codes "A     0 0000000000000048 0000000000000003 ab.o\n" ++ codes "A     1 0000000000000088 0000000000000000 b\n")

-- and an ELF file begins after the name
abbrev pub BsdMembersList : Type 0
BsdMembersList =
    archive (archive_of (member (codes "#1/4") (codes "b.o" ++ 0 ∷ bare_header))) 3 63 ALL
    ≡ codes "A     0 0000000000000048 0000000000000040 b.o\n" ++ report bare_header 3 63 ALL

-- NULs at the end are no part of a name, one inside is; a name may have no byte
abbrev pub NulsEndBsdNames : Type 0
NulsEndBsdNames =
    (listed 63 (member (codes "#1/4") (97 ∷ zeros 3)) ≡ codes "A     0 0000000000000048 0000000000000000 a\n")
    × (listed 63 (member (codes "#1/4") (97 ∷ 0 ∷ 98 ∷ 0 ∷ [])) ≡ codes "A     0 0000000000000048 0000000000000000 a\\x00b\n")
    × (listed 63 (member (codes "#1/2") (zeros 2)) ≡ codes "A     0 0000000000000046 0000000000000000 \n")

-- with three bytes of a name: three are shown, and of four the first three; five are read, and what
-- follows them is not
abbrev pub LongBsdNamesAreCut : Type 0
LongBsdNamesAreCut =
    (listed 3 (member (codes "#1/3") (codes "abc")) ≡ codes "A     0 0000000000000047 0000000000000000 abc\n")
    × (listed 3 (member (codes "#1/4") (codes "abcd")) ≡ codes "A     0 0000000000000048 0000000000000000 abc\\+\n")
    × (listed 3 (member (codes "#1/6") (codes "abc" ++ zeros 3)) ≡ codes "A     0 000000000000004a 0000000000000000 abc\n")
    × (listed 3 (member (codes "#1/6") (codes "abc" ++ 0 ∷ codes "de")) ≡ codes "A     0 000000000000004a 0000000000000000 abc\\+\n")
    × (listed 3 (member (codes "#1/6") (codes "abc" ++ 0 ∷ 0 ∷ codes "d")) ≡ codes "A     0 000000000000004a 0000000000000000 abc\n")

-- a name of no byte, of all bytes, and of one more than there are
abbrev pub BsdNamesHaveRoom : Type 0
BsdNamesHaveRoom =
    (listed 63 (member (codes "#1/0") (codes "xy")) ≡ codes "A     0 0000000000000044 0000000000000002 \n")
    × (listed 63 (member (codes "#1/2") (codes "ab")) ≡ codes "A     0 0000000000000046 0000000000000000 ab\n")
    × (listed 63 (member (codes "a/") [] ++ member (codes "#1/3") (codes "ab"))
    ≡ codes "A     0 0000000000000044 0000000000000000 a\n" ++ codes "! 0000000000000044 member-cut\n")
    × (listed 63 (member (codes "#1/9999999999999") (codes "ab")) ≡ codes "! 0000000000000008 member-cut\n")
    × (listed 63 (member (codes "#1/0000000000002") (codes "ab")) ≡ codes "A     0 0000000000000046 0000000000000000 ab\n")

-- what is no such name is in its field: the bytes before the slash
abbrev pub OtherFieldsAreShort : Type 0
OtherFieldsAreShort =
    (listed 63 (member (codes "#1/x") (codes "xy")) ≡ codes "A     0 0000000000000044 0000000000000002 #1\n")
    × (bsd_name_length (codes "#1/             ") ≡ None)
    × (bsd_name_length (codes "#1/2x           ") ≡ None)
    × (bsd_name_length (codes "#1/1 2          ") ≡ None)
    × (bsd_name_length (codes "#1/ 2           ") ≡ None)
    × (bsd_name_length (codes "#2/2            ") ≡ None)
    × (bsd_name_length (codes "!1/2            ") ≡ None)
    × (bsd_name_length (codes "#1-2            ") ≡ None)
    × (bsd_name_length (codes "#1/19           ") ≡ Some 19)

-- BSD's index of symbols is a member as others are; and a name of two slashes in the data is no
-- table of names
abbrev pub BsdNamesAreNamesAlone : Type 0
BsdNamesAreNamesAlone =
    (listed 63 (member (codes "#1/12") (codes "__.SYMDEF" ++ zeros 3)) ≡ codes "A     0 0000000000000050 0000000000000000 __.SYMDEF\n")
    × (listed 63 (member (codes "#1/2") (codes "//a/\n\n") ++ member (codes "#1/2") (codes "/0") ++ member (codes "/0") [])
    ≡ codes "A     0 0000000000000046 0000000000000004 //\n" ++ codes "A     1 0000000000000088 0000000000000000 /0\n"
    ++ codes "! 0000000000000088 name-outside\n")

-- they cost what a long name does: cap + 2 bytes in pieces of 64
abbrev pub BsdNamesCost : Type 0
BsdNamesCost =
    (archive_cost (archive_of (member (codes "#1/4") (codes "ab.o"))) 3 (standard 63) 0 ≡ 8 + 60 + 128)
    × (archive_cost (archive_of (member (codes "#1/4") (codes "ab.o"))) 3 (standard 62) 0 ≡ 8 + 60 + 64)
    × (archive_cost (archive_of (member (codes "#1/4") (codes "ab.o"))) 3 (standard 62) ALL ≡ 8 + 60 + 64 + 4)
    × (archive_cost (archive_of (member (codes "#1/x") (codes "ab.o"))) 3 (standard 63) 0 ≡ 8 + 60)
