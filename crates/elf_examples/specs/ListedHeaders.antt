-- Listings that end at the file header or at the load checks.
use Rattle.std.specs.Prelude.{◌≡◌, ◌-◌, ◌^◌, [], ◌++◌, codes, take, map, replicate, Some, None}
use Rattle.elf_model.specs.Prelude.{ALL, HEADER, bare_header, first_refusal, length_checks, little, numbers_from, one_load, one_symbol_table, refusal_line, report, with_bytes}
use Rattle.elf_model.specs.declared.formats.Format.TheVariants.{Columns}
use Rattle.elf_model.specs.declared.causes.Cause.TheVariants.{Short, TooLong}

-- a bare file header is one line, under any parts
abbrev pub BareHeaderListsAlone : Type 0
BareHeaderListsAlone =
    (report bare_header 1 63 HEADER
    ≡ codes "H REL     62 0000000000000000 0000000000000000 0000000000000000 00000000     0     0     0\n")
    × (report bare_header 1 63 ALL
    ≡ codes "H REL     62 0000000000000000 0000000000000000 0000000000000000 00000000     0     0     0\n")

-- a file with fewer than 64 bytes is refused at its length
abbrev pub ShortFilesAreRefused : Type 0
ShortFilesAreRefused =
    (report [] 1 63 ALL
    ≡ codes "! 0000000000000000 short\n")
    × (report (take 63 bare_header) 1 63 ALL
    ≡ codes "! 000000000000003f short\n")
    × (report (take 63 bare_header) 1 63 HEADER
    ≡ codes "! 000000000000003f short\n")

-- each length below 64
abbrev pub EveryShortLengthIsRefused : Type 0
EveryShortLengthIsRefused =
    map (λ n. report (take n one_symbol_table) 3 63 ALL) (numbers_from 0 64)
    ≡ map (λ n. refusal_line Columns (record { at = n; cause = Short })) (numbers_from 0 64)

-- the file with one symbol table, cut to each length before its section headers end
abbrev pub EveryCutLengthIsRefused : Type 0
EveryCutLengthIsRefused =
    map (λ n. report (take n one_symbol_table) 3 63 ALL) (numbers_from 64 248)
    ≡ map
    (λ n. codes "H REL     62 0000000000000000 0000000000000000 0000000000000078 00000000     0     3     0\n"
    ++ codes "! 0000000000000028 table-outside\n")
    (numbers_from 64 248)

-- a file with 2^63 bytes or more, by its length alone
abbrev pub LongFilesAreRefused : Type 0
LongFilesAreRefused =
    (first_refusal (length_checks (2 ^ 63)) ≡ Some (record { at = 2 ^ 63; cause = TooLong }))
    × (first_refusal (length_checks (2 ^ 64 - 1)) ≡ Some (record { at = 2 ^ 64 - 1; cause = TooLong }))
    × (first_refusal (length_checks (2 ^ 63 - 1)) ≡ None)
    × (refusal_line Columns (record { at = 2 ^ 63; cause = TooLong }) ≡ codes "! 8000000000000000 too-long\n")

-- magic number, class, data encoding and version; the bytes after the version, and e_version and
-- e_ehsize, may be any
abbrev pub IdentChecksInOrder : Type 0
IdentChecksInOrder =
    (report (with_bytes 0x4 (little 1 0x1) bare_header) 1 63 ALL
    ≡ codes "! 0000000000000004 class\n")
    × (report (with_bytes 0x3 (little 1 0x47) bare_header) 1 63 ALL
    ≡ codes "! 0000000000000000 not-elf\n")
    × (report (with_bytes 0x5 (little 1 0x2) bare_header) 1 63 ALL
    ≡ codes "! 0000000000000005 data\n")
    × (report (with_bytes 0x6 (little 1 0x0) bare_header) 1 63 HEADER
    ≡ codes "! 0000000000000006 version\n")
    × (report (with_bytes 0x4 (little 1 0x1) (with_bytes 0x5 (little 1 0x2) bare_header)) 1 63 ALL
    ≡ codes "! 0000000000000004 class\n")
    × (report (with_bytes 0x7 (little 1 0x3) bare_header) 1 63 ALL
    ≡ codes "H REL     62 0000000000000000 0000000000000000 0000000000000000 00000000     0     0     0\n")
    × (report (with_bytes 0x8 (little 1 0x3) bare_header) 1 63 ALL
    ≡ codes "H REL     62 0000000000000000 0000000000000000 0000000000000000 00000000     0     0     0\n")
    × (report (with_bytes 0x9 (replicate 7 0x3) (with_bytes 0x14 (little 4 0x3) (with_bytes 0x34 (little 2 0x3) bare_header))) 1 63 ALL
    ≡ codes "H REL     62 0000000000000000 0000000000000000 0000000000000000 00000000     0     0     0\n")

-- counts and indices that are stored in section 0 are refused after the line of the file header
abbrev pub ExtendedNumberingIsRefused : Type 0
ExtendedNumberingIsRefused =
    (report (with_bytes 0x38 (little 2 0xffff) bare_header) 1 63 ALL
    ≡ codes "H REL     62 0000000000000000 0000000000000000 0000000000000000 00000000 65535     0     0\n"
    ++ codes "! 0000000000000038 extended-numbering\n")
    × (report (with_bytes 0x38 (little 2 0xffff) bare_header) 1 63 HEADER
    ≡ codes "H REL     62 0000000000000000 0000000000000000 0000000000000000 00000000 65535     0     0\n")
    × (report (with_bytes 0x3e (little 2 0xffff) bare_header) 1 63 ALL
    ≡ codes "H REL     62 0000000000000000 0000000000000000 0000000000000000 00000000     0     0 65535\n"
    ++ codes "! 000000000000003e extended-numbering\n")
    × (report (with_bytes 0x28 (little 8 0x40) bare_header) 1 63 ALL
    ≡ codes "H REL     62 0000000000000000 0000000000000000 0000000000000040 00000000     0     0     0\n"
    ++ codes "! 000000000000003c extended-numbering\n")

-- more section headers or program headers than are allowed
abbrev pub MoreHeadersThanPermitted : Type 0
MoreHeadersThanPermitted =
    (report one_symbol_table 2 63 ALL
    ≡ codes "H REL     62 0000000000000000 0000000000000000 0000000000000078 00000000     0     3     0\n"
    ++ codes "! 000000000000003c too-many-headers\n")
    × (report (with_bytes 0x38 (little 2 0x4) one_symbol_table) 3 63 ALL
    ≡ codes "H REL     62 0000000000000000 0000000000000000 0000000000000078 00000000     4     3     0\n"
    ++ codes "! 0000000000000038 too-many-headers\n")

-- the sizes of a section header and of a program header
abbrev pub HeaderSizesAreChecked : Type 0
HeaderSizesAreChecked =
    (report (with_bytes 0x3a (little 2 0x3f) one_symbol_table) 3 63 ALL
    ≡ codes "H REL     62 0000000000000000 0000000000000000 0000000000000078 00000000     0     3     0\n"
    ++ codes "! 000000000000003a entry-size\n")
    × (report (with_bytes 0x38 (little 2 0x1) one_symbol_table) 3 63 ALL
    ≡ codes "H REL     62 0000000000000000 0000000000000000 0000000000000078 00000000     1     3     0\n"
    ++ codes "! 0000000000000036 entry-size\n")

-- section headers or program headers past the end of the file, without wrapping; program headers
-- also if there are no sections
abbrev pub HeadersOutsideTheFile : Type 0
HeadersOutsideTheFile =
    (report (take 311 one_symbol_table) 3 63 ALL
    ≡ codes "H REL     62 0000000000000000 0000000000000000 0000000000000078 00000000     0     3     0\n"
    ++ codes "! 0000000000000028 table-outside\n")
    × (report (with_bytes 0x28 (little 8 0xffffffffffffffff) one_symbol_table) 3 63 ALL
    ≡ codes "H REL     62 0000000000000000 0000000000000000 ffffffffffffffff 00000000     0     3     0\n"
    ++ codes "! 0000000000000028 table-outside\n")
    × (report (with_bytes 0x20 (little 8 0xffffffffffffffff) (with_bytes 0x36 (little 2 0x38) (with_bytes 0x38 (little 2 0x1) one_symbol_table))) 3 63 ALL
    ≡ codes "H REL     62 0000000000000000 ffffffffffffffff 0000000000000078 00000000     1     3     0\n"
    ++ codes "! 0000000000000020 table-outside\n")
    × (report (with_bytes 0x20 (little 8 0x41) one_load) 1 63 ALL
    ≡ codes "H EXEC    62 0000000000000000 0000000000000041 0000000000000000 00000000     1     0     0\n"
    ++ codes "! 0000000000000020 table-outside\n")

-- the section of the section names: its index, its type and its range; without sections its index
-- may be any
abbrev pub SectionOfTheNamesIsChecked : Type 0
SectionOfTheNamesIsChecked =
    (report (with_bytes 0x3e (little 2 0x3) one_symbol_table) 3 63 ALL
    ≡ codes "H REL     62 0000000000000000 0000000000000000 0000000000000078 00000000     0     3     3\n"
    ++ codes "! 000000000000003e bad-link\n")
    × (report (with_bytes 0x3e (little 2 0x1) one_symbol_table) 3 63 ALL
    ≡ codes "H REL     62 0000000000000000 0000000000000000 0000000000000078 00000000     0     3     1\n"
    ++ codes "! 00000000000000b8 not-strings\n")
    × (report (with_bytes 0x118 (little 8 0xc9) (with_bytes 0x3e (little 2 0x2) one_symbol_table)) 3 63 ALL
    ≡ codes "H REL     62 0000000000000000 0000000000000000 0000000000000078 00000000     0     3     2\n"
    ++ codes "! 00000000000000f8 table-outside\n")
    × (report (with_bytes 0x3e (little 2 0x5) bare_header) 1 63 ALL
    ≡ codes "H REL     62 0000000000000000 0000000000000000 0000000000000000 00000000     0     0     5\n")
