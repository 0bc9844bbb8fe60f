-- Many files listed, and archives checked: the line of a path, what a file is by its first bytes,
-- and the fault of an archive.
use Rattle.std.specs.Prelude.{ℕ, ◌≡◌, ◌^◌, ◌-◌, List, [], ◌∷◌, ◌++◌, codes, true, false, take, Option, None, Some}
use Rattle.elf_model.specs.Prelude.{EveryRow, RowsOf, SYMBOLS, archive_fault, archive_of, bare_header, file_magic, headed, library, list_status, little, member, members_alone, one_symbol_table, path_line, placed_after, standard, with_bytes}
use Rattle.elf_model.specs.declared.states.FileMagic.TheVariants.{Archive, Elf, Foreign}
use Rattle.elf_model.specs.declared.causes.Cause.{Cause}
use Rattle.elf_model.specs.declared.formats.Format.TheVariants.{Columns, Object}
use Rattle.elf_model.specs.declared.causes.Cause.TheVariants.{MemberCut, NameOutside, NotArchive, Short, Thin}
use Rattle.elf_model.specs.declared.causes.Refusal.{Refusal}
use Rattle.elf_model.specs.declared.states.FileMagic.TheVariants.{Thin as ThinArchive, Undecided}

-- the line of a path: escaped as names are, empty, and as an object
abbrev pub PathLines : Type 0
PathLines =
    (path_line Columns (codes "/bin/ls") ≡ codes "@ /bin/ls\n")
    × (path_line Columns (codes "a \\" ++ 10 ∷ []) ≡ codes "@ a \\\\\\x0a\n")
    × (path_line Columns [] ≡ codes "@ \n")
    × (path_line Object (codes "a\"b") ≡ codes "{\"line\":\"@\",\"path\":\"a\\\"b\"}\n")

-- what is listed after the line of a path; of some names, something or nothing
abbrev pub HeadedListings : Type 0
HeadedListings =
    (headed EveryRow (codes "@ a\n") (codes "H\n") ≡ codes "@ a\nH\n") × (headed EveryRow (codes "@ a\n") [] ≡ codes "@ a\n")
    × (headed (RowsOf []) (codes "@ a\n") (codes "Y\n") ≡ codes "@ a\nY\n") × (headed (RowsOf []) (codes "@ a\n") [] ≡ [])

-- the exit status of a listing: no refusal, that of a member, and one of its own
abbrev pub ListStatuses : Type 0
ListStatuses =
    (list_status None false ≡ 0) × (list_status None true ≡ 1) × (list_status (Some (record { at = 0; cause = Short })) false ≡ 1)
    × (list_status (Some (record { at = 0; cause = Short })) true ≡ 1)

abbrev magic : List ℕ
magic = 127 ∷ 69 ∷ 76 ∷ 70 ∷ []

-- ELF files, archives, and others; the budget has room for the first bytes, or for one less
abbrev pub FileSorts : Type 0
FileSorts =
    (file_magic false None [] ≡ Foreign) × (file_magic false (Some 0) (127 ∷ 69 ∷ 76 ∷ []) ≡ Foreign)
    × (file_magic false None magic ≡ Elf) × (file_magic true (Some 4) magic ≡ Elf) × (file_magic true (Some 3) magic ≡ Undecided)
    × (file_magic false None (codes "text") ≡ Foreign) × (file_magic false (Some 4) (codes "text") ≡ Foreign)
    × (file_magic false (Some 3) (codes "text") ≡ Undecided) × (file_magic true (Some 7) (codes "hello world") ≡ Undecided)
    × (file_magic false None (archive_of []) ≡ Foreign) × (file_magic true None (archive_of []) ≡ Archive)
    × (file_magic true (Some 8) (archive_of []) ≡ Archive) × (file_magic true (Some 7) (archive_of []) ≡ Undecided)
    × (file_magic true None (codes "!<arch>") ≡ Foreign) × (file_magic true (Some 4) (codes "!<arch>") ≡ Foreign)
    × (file_magic true (Some 8) (codes "!<thin>\n") ≡ ThinArchive) × (file_magic true (Some 7) (codes "!<thin>\n") ≡ Undecided)
    × (file_magic false None (codes "!<thin>\n") ≡ Foreign)

-- the fault of an archive of some members, with three headers allowed
abbrev FaultIs : List ℕ → Option Refusal → Type 0
FaultIs file fault = archive_fault file 3 (standard 63) SYMBOLS ≡ fault

abbrev at_fault : ℕ → Cause → Option Refusal
at_fault at cause = Some (record { at = at; cause = cause })

abbrev faulty : List ℕ
faulty = with_bytes 0x40 (little 4 9) one_symbol_table

-- none; what is no archive; the first fault in order, of a member from the archive's first byte on,
-- then that of the walk
abbrev pub ArchiveFaults : Type 0
ArchiveFaults =
    FaultIs library None × FaultIs (archive_of []) None
    × FaultIs (codes "!<arch>") (at_fault 0 Short) × FaultIs (codes "!<thin>\n") (at_fault 0 Thin) × FaultIs (codes "no file of it") (at_fault 0 NotArchive)
    × FaultIs (archive_of (member (codes "a.o/") bare_header ++ member (codes "b.o/") faulty)) (at_fault 0x100 NameOutside)
    × FaultIs (archive_of (member (codes "a.o/") bare_header ++ member (codes "b.o/") faulty ++ codes "x")) (at_fault 0x100 NameOutside)
    × FaultIs (archive_of (member (codes "a.o/") bare_header ++ codes "x")) (at_fault 0x84 MemberCut)
    × FaultIs (archive_of (member (codes "a.o/") faulty ++ member (codes "b.o/") (take 70 faulty))) (at_fault 0x84 NameOutside)
    × (placed_after 8 (record { at = 2 ^ 64 - 4; cause = Short }) ≡ record { at = 2 ^ 64 - 1; cause = Short })

-- the lines of members are listed alone if all rows are shown, and not if some names select them
abbrev pub MembersAlone : Type 0
MembersAlone = (members_alone EveryRow ≡ true) × (members_alone (RowsOf []) ≡ false)

-- a fault of a member is counted from where its data begin after a name of four bytes; a member
-- that is no ELF file has none, nor has one of which no part is listed
abbrev pub FaultsAfterNames : Type 0
FaultsAfterNames =
    FaultIs (archive_of (member (codes "#1/4") (codes "ab.o" ++ faulty))) (at_fault 0x88 NameOutside)
    × FaultIs (archive_of (member (codes "a.o/") (codes "text") ++ member (codes "b.o/") faulty)) (at_fault 0xc4 NameOutside)
    × (archive_fault (archive_of (member (codes "b.o/") faulty)) 3 (standard 63) 0 ≡ None)
