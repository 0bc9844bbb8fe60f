-- Listings of dynamic entries.
use Rattle.std.specs.Prelude.{◌≡◌, [], ◌++◌, codes}
use Rattle.elf_model.specs.Prelude.{ALL, DYNAMIC, little, needed_library, report, with_bytes}

-- the entries up to and with the first DT_NULL
abbrev pub DynamicEntriesList : Type 0
DynamicEntriesList =
    (report needed_library 3 63 DYNAMIC
    ≡ codes "D     0 NEEDED           0000000000000001 libc.so.6\n"
    ++ codes "D     1 NULL             0000000000000000 \n")
    × (report needed_library 3 63 ALL
    ≡ codes "H REL     62 0000000000000000 0000000000000000 000000000000007b 00000000     0     3     0\n"
    ++ codes "S     0 NULL                       0000000000000000 0000000000000000 0000000000000000 00000000 00000000 \n"
    ++ codes "S     1 DYNAMIC                    0000000000000000 0000000000000040 0000000000000030 00000002 00000000 \n"
    ++ codes "S     2 STRTAB                     0000000000000000 0000000000000070 000000000000000b 00000000 00000000 \n"
    ++ codes "D     0 NEEDED           0000000000000001 libc.so.6\n"
    ++ codes "D     1 NULL             0000000000000000 \n")

-- without a DT_NULL all entries are listed; a string past the string table
abbrev pub DynamicEntriesWithoutAnEnd : Type 0
DynamicEntriesWithoutAnEnd =
    (report (with_bytes 0x50 (little 8 0x5) needed_library) 3 63 DYNAMIC
    ≡ codes "D     0 NEEDED           0000000000000001 libc.so.6\n"
    ++ codes "D     1 STRTAB           0000000000000000 \n"
    ++ codes "! 0000000000000060 name-outside\n")
    × (report (with_bytes 0x70 (little 8 0x5) (with_bytes 0x50 (little 8 0x5) needed_library)) 3 63 DYNAMIC
    ≡ codes "D     0 NEEDED           0000000000000001 \n"
    ++ codes "D     1 STRTAB           0000000000000000 \n"
    ++ codes "! 0000000000000060 name-outside\n")

-- the tags whose value is a string, and tags without a name
abbrev pub DynamicStringsList : Type 0
DynamicStringsList =
    (report (with_bytes 0x40 (little 8 0xe) needed_library) 3 2 DYNAMIC
    ≡ codes "D     0 SONAME           0000000000000001 li\\+\n"
    ++ codes "D     1 NULL             0000000000000000 \n")
    × (report (with_bytes 0x40 (little 8 0xf) needed_library) 3 63 DYNAMIC
    ≡ codes "D     0 RPATH            0000000000000001 libc.so.6\n"
    ++ codes "D     1 NULL             0000000000000000 \n")
    × (report (with_bytes 0x40 (little 8 0x1d) needed_library) 3 63 DYNAMIC
    ≡ codes "D     0 RUNPATH          0000000000000001 libc.so.6\n"
    ++ codes "D     1 NULL             0000000000000000 \n")
    × (report (with_bytes 0x40 (little 8 0x1e) needed_library) 3 63 DYNAMIC
    ≡ codes "D     0 FLAGS            0000000000000001 \n"
    ++ codes "D     1 NULL             0000000000000000 \n")
    × (report (with_bytes 0x40 (little 8 0xffffffffffffffff) needed_library) 3 63 DYNAMIC
    ≡ codes "D     0 ffffffffffffffff 0000000000000001 \n"
    ++ codes "D     1 NULL             0000000000000000 \n")

-- the size of an entry, the whole size, the link and the string table
abbrev pub DynamicChecksInOrder : Type 0
DynamicChecksInOrder =
    (report (with_bytes 0xf3 (little 8 0x18) needed_library) 3 63 DYNAMIC
    ≡ codes "! 00000000000000bb entry-size\n")
    × (report (with_bytes 0xdb (little 8 0x2f) needed_library) 3 63 DYNAMIC
    ≡ codes "! 00000000000000bb size-not-whole\n")
    × (report (with_bytes 0xdb (little 8 0xfffffffffffffff0) needed_library) 3 63 DYNAMIC
    ≡ codes "! 00000000000000bb table-outside\n")
    × (report (with_bytes 0xe3 (little 4 0x0) needed_library) 3 63 DYNAMIC
    ≡ codes "! 00000000000000bb bad-link\n")
    × (report (with_bytes 0xe3 (little 4 0x1) needed_library) 3 63 DYNAMIC
    ≡ codes "! 00000000000000bb not-strings\n")
    × (report (with_bytes 0x11b (little 8 0x10000000000) needed_library) 3 63 DYNAMIC
    ≡ codes "! 00000000000000fb table-outside\n")

-- dynamic entries of size 0 have no rows, and neither they nor their link is checked
abbrev pub EmptyDynamicIsNotChecked : Type 0
EmptyDynamicIsNotChecked =
    report (with_bytes 0xf3 (little 8 0x18) (with_bytes 0xe3 (little 4 0x0) (with_bytes 0xdb (little 8 0x0) needed_library))) 3 63 DYNAMIC
    ≡ []
