-- Listings of notes.
use Rattle.std.specs.Prelude.{◌≡◌, [], ◌∷◌, ◌++◌, codes}
use Rattle.elf_model.specs.Prelude.{NOTES, aligned_note, build_note, little, note_segment, numbers_from, one_table, plain_note, report, with_bytes, zeros}

-- one note that fills its table, and with its name cut
abbrev pub OneNoteLists : Type 0
OneNoteLists =
    (report (one_table 7 4 0 build_note []) 3 63 NOTES
    ≡ codes "N     1 00000003 00000004 00000014 GNU 000102030405060708090a0b0c0d0e0f10111213\n")
    × (report (one_table 7 4 0 build_note []) 3 2 NOTES
    ≡ codes "N     1 00000003 00000004 00000014 GN\\+ 000102030405060708090a0b0c0d0e0f10111213\n")

-- fewer than 12 zero bytes after a note are the end; with another byte among them the table is cut
abbrev pub ZerosAfterANote : Type 0
ZerosAfterANote =
    (report (one_table 7 4 0 (build_note ++ zeros 4) []) 3 63 NOTES
    ≡ codes "N     1 00000003 00000004 00000014 GNU 000102030405060708090a0b0c0d0e0f10111213\n")
    × (report (one_table 7 4 0 (build_note ++ zeros 3 ++ 1 ∷ []) []) 3 63 NOTES
    ≡ codes "N     1 00000003 00000004 00000014 GNU 000102030405060708090a0b0c0d0e0f10111213\n"
    ++ codes "! 0000000000000064 note-cut\n")

-- a descriptor that ends past the table
abbrev pub NotesPastTheEnd : Type 0
NotesPastTheEnd =
    report (one_table 7 4 0 (with_bytes 4 (little 4 0xffffffff) build_note) []) 3 63 NOTES
    ≡ codes "! 0000000000000040 note-cut\n"

-- the same bytes at an alignment of 8 and of 4
abbrev pub NotesAtBothAlignments : Type 0
NotesAtBothAlignments =
    (report (one_table 7 8 0 aligned_note []) 3 63 NOTES
    ≡ codes "N     1 00000001 00000005 00000004 ABCD 01020304\n")
    × (report (one_table 7 4 0 aligned_note []) 3 63 NOTES
    ≡ codes "N     1 00000001 00000005 00000004 ABCD 00000000\n"
    ++ codes "! 0000000000000058 note-cut\n")
    × (report (one_table 7 16 0 aligned_note []) 3 63 NOTES
    ≡ codes "N     1 00000001 00000005 00000004 ABCD 00000000\n"
    ++ codes "! 0000000000000058 note-cut\n")

-- a descriptor of 32 bytes is whole, one of 33 bytes is cut
abbrev pub LongDescriptorsAreCut : Type 0
LongDescriptorsAreCut =
    (report (one_table 7 4 0 (plain_note (codes "GNU" ++ zeros 1) (numbers_from 0 32) 3) []) 3 63 NOTES
    ≡ codes "N     1 00000003 00000004 00000020 GNU 000102030405060708090a0b0c0d0e0f101112131415161718191a1b1c1d1e1f\n")
    × (report (one_table 7 4 0 (plain_note (codes "GNU" ++ zeros 1) (numbers_from 0 33) 3) []) 3 63 NOTES
    ≡ codes "N     1 00000003 00000004 00000021 GNU 000102030405060708090a0b0c0d0e0f101112131415161718191a1b1c1d1e1f\\+\n")

-- the notes of a segment, in a file without sections
abbrev pub SegmentNotesList : Type 0
SegmentNotesList =
    report note_segment 1 63 NOTES
    ≡ codes "N     0 00000001 00000004 00000004 GNU 2a000000\n"

-- a table of notes that ends past the end of the file: the fault is at its header
abbrev pub NotesOutsideTheFile : Type 0
NotesOutsideTheFile =
    (report (with_bytes 0x60 (little 8 0x15) note_segment) 1 63 NOTES
    ≡ codes "! 0000000000000040 table-outside\n")
    × (report (with_bytes 0xc4 (little 8 0xffffffffffffffff) (one_table 7 4 0 build_note [])) 3 63 NOTES
    ≡ codes "! 00000000000000a4 table-outside\n")

-- what follows a table of notes is not read, in a section and in a segment
abbrev pub BytesAfterNotes : Type 0
BytesAfterNotes =
    (report (one_table 7 4 0 build_note (1 ∷ [])) 3 63 NOTES
    ≡ codes "N     1 00000003 00000004 00000014 GNU 000102030405060708090a0b0c0d0e0f10111213\n")
    × (report (one_table 7 4 0 build_note build_note) 3 63 NOTES
    ≡ codes "N     1 00000003 00000004 00000014 GNU 000102030405060708090a0b0c0d0e0f10111213\n")
    × (report (note_segment ++ 1 ∷ []) 1 63 NOTES
    ≡ codes "N     0 00000001 00000004 00000004 GNU 2a000000\n")

-- notes of size 0 have no rows and are not checked
abbrev pub EmptyNotesAreNotChecked : Type 0
EmptyNotesAreNotChecked =
    (report (with_bytes 0x48 (little 8 0xffffffffffffffff) (with_bytes 0x60 (little 8 0x0) note_segment)) 1 63 NOTES
    ≡ [])
    × (report (with_bytes 0xbc (little 8 0xffffffffffffffff) (with_bytes 0xc4 (little 8 0x0) (one_table 7 4 0 build_note []))) 3 63 NOTES
    ≡ [])
