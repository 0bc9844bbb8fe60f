-- Worked examples of note tables.
use Rattle.std.specs.Prelude.{◌≡◌, ℕ, List, [], ◌∷◌, ◌++◌, codes, replicate, None, Some}
use Rattle.elf_model.specs.Prelude.{Cut, Note, NoteScan, aligned_note, build_note, little, note_align, note_rows, note_shown, walked, zeros}
use Rattle.elf_model.specs.Names.DisplayedName.{Whole}

-- a note header: the sizes of its name and its descriptor, its type
unfoldable pub note_head : ℕ → ℕ → ℕ → List ℕ
note_head namesz descsz type = little 4 namesz ++ little 4 descsz ++ little 4 type

-- 20 bytes that count up from 0
unfoldable pub counting : List ℕ
counting = 0 ∷ 1 ∷ 2 ∷ 3 ∷ 4 ∷ 5 ∷ 6 ∷ 7 ∷ 8 ∷ 9 ∷ 10 ∷ 11 ∷ 12 ∷ 13 ∷ 14 ∷ 15 ∷ 16 ∷ 17 ∷ 18 ∷ 19 ∷ []

-- a note: its type, its name and its descriptor
abbrev pub note : ℕ → List ℕ → List ℕ → Note
note kind name descriptor = record { kind = kind; name = name; descriptor = descriptor }

-- notes to the table's end, and notes up to the offset at which the table is cut
abbrev pub uncut : List Note → NoteScan
uncut notes = record { notes = notes; cut = None }

abbrev pub cut_note_at : List Note → ℕ → NoteScan
cut_note_at notes place = record { notes = notes; cut = Some place }

-- a build identifier: the name `GNU` and a NUL, a descriptor of 20 bytes, 36 bytes in all
abbrev pub build_id : Note
build_id = note 3 (codes "GNU" ++ 0 ∷ []) counting

-- one note that fills its table
abbrev pub NoteFills : Type 0
NoteFills =
    (walked 4 build_note ≡ uncut (build_id ∷ []))
    × (note_rows 4 0 (build_id ∷ []) ≡ record { at = 0; note = build_id; descriptor_at = 16 } ∷ [])
    × (note_shown 63 build_id ≡ Whole (codes "GNU"))

-- fewer than 12 zero bytes after it are the end; with another byte among them there is a cut
abbrev pub NoteTail : Type 0
NoteTail =
    (walked 4 (build_note ++ zeros 4) ≡ uncut (build_id ∷ []))
    × (walked 4 (build_note ++ zeros 11) ≡ uncut (build_id ∷ []))
    × (walked 4 (build_note ++ zeros 3 ++ 1 ∷ []) ≡ cut_note_at (build_id ∷ []) 36)
    × (walked 4 (1 ∷ zeros 10) ≡ cut_note_at [] 0)
    × (walked 4 [] ≡ uncut [])

-- 12 zero bytes are a note with no name and no descriptor
abbrev pub NoteOfZeros : Type 0
NoteOfZeros =
    (walked 4 (zeros 12) ≡ uncut (note 0 [] [] ∷ []))
    × (walked 8 (zeros 12) ≡ uncut (note 0 [] [] ∷ []))
    × (walked 4 (zeros 23) ≡ uncut (note 0 [] [] ∷ []))
    × (walked 4 (zeros 24) ≡ uncut (note 0 [] [] ∷ note 0 [] [] ∷ []))
    × (walked 8 (zeros 28) ≡ uncut (note 0 [] [] ∷ note 0 [] [] ∷ []))
    × (walked 4 (zeros 480) ≡ uncut (replicate 40 (note 0 [] [])))

-- a descriptor or a name that would end past the table's end
abbrev pub NotePastEnd : Type 0
NotePastEnd =
    (walked 4 (note_head 4 0xffffffff 3 ++ codes "GNU" ++ zeros 1 ++ counting) ≡ cut_note_at [] 0)
    × (walked 4 (note_head 0xffffffff 0 3 ++ codes "GNU" ++ zeros 1 ++ counting) ≡ cut_note_at [] 0)
    × (walked 4 (note_head 4 21 3 ++ codes "GNU" ++ zeros 1 ++ counting) ≡ cut_note_at [] 0)
    × (walked 4 (build_note ++ note_head 4 1 3 ++ codes "GNU" ++ zeros 1) ≡ cut_note_at (build_id ∷ []) 36)

-- of 28 bytes that both alignments read: aligned to 8 the descriptor starts at 24, and the last
-- padding is missing
abbrev pub NoteAlignedToEight : Type 0
NoteAlignedToEight =
    let last = note 1 (codes "ABCD" ++ 0 ∷ []) (1 ∷ 2 ∷ 3 ∷ 4 ∷ []) in
    (walked 8 aligned_note ≡ uncut (last ∷ []))
    × (note_rows 8 0 (last ∷ []) ≡ record { at = 0; note = last; descriptor_at = 24 } ∷ [])
    × (walked 8 (aligned_note ++ zeros 4) ≡ uncut (last ∷ []))
    × (walked 8 (aligned_note ++ (9 ∷ 9 ∷ 9 ∷ 9 ∷ []) ++ build_note) ≡ uncut (last ∷ note 3 (codes "GNU" ++ 0 ∷ []) counting ∷ []))

-- aligned to 4 the descriptor starts at 20, and after it the table is cut
abbrev pub NoteAlignedToFour : Type 0
NoteAlignedToFour =
    let first = note 1 (codes "ABCD" ++ 0 ∷ []) (0 ∷ 0 ∷ 0 ∷ 0 ∷ []) in
    (walked 4 aligned_note ≡ cut_note_at (first ∷ []) 24)
    × (note_rows 4 0 (first ∷ []) ≡ record { at = 0; note = first; descriptor_at = 20 } ∷ [])

-- an alignment of 8 is 8, any other is 4
abbrev pub NoteAlignments : Type 0
NoteAlignments = (note_align 8 ≡ 8) × (note_align 4 ≡ 4) × (note_align 0 ≡ 4) × (note_align 1 ≡ 4) × (note_align 16 ≡ 4)

-- a name ends at its first NUL, or has none; it is cut past cap bytes
abbrev pub NoteNames : Type 0
NoteNames =
    (note_shown 3 (note 1 (codes "abc") []) ≡ Whole (codes "abc"))
    × (note_shown 2 (note 1 (codes "abc") []) ≡ Cut (codes "ab"))
    × (note_shown 3 (note 1 (codes "abc" ++ 0 ∷ codes "de") []) ≡ Whole (codes "abc"))
    × (note_shown 2 (note 1 (codes "abc" ++ 0 ∷ codes "de") []) ≡ Cut (codes "ab"))
    × (note_shown 1 (note 1 [] []) ≡ Whole [])

-- a type of four bytes, a name of no bytes, a name without a NUL, a descriptor of 33 bytes, and
-- padding of any values
abbrev pub NoteShapes : Type 0
NoteShapes =
    (walked 4 (note_head 0 0 0x01020304) ≡ uncut (note 0x01020304 [] [] ∷ []))
    × (walked 4 (note_head 0 4 7 ++ (1 ∷ 2 ∷ 3 ∷ 4 ∷ [])) ≡ uncut (note 7 [] (1 ∷ 2 ∷ 3 ∷ 4 ∷ []) ∷ []))
    × (walked 4 (note_head 3 33 7 ++ codes "abc" ++ (5 ∷ []) ++ counting ++ zeros 13 ++ (9 ∷ 9 ∷ 9 ∷ []) ++ zeros 12)
    ≡ uncut (note 7 (codes "abc") (counting ++ zeros 13) ∷ note 0 [] [] ∷ []))
    × (walked 4 (note_head 3 33 7 ++ codes "abc" ++ (5 ∷ []) ++ counting ++ zeros 13)
    ≡ uncut (note 7 (codes "abc") (counting ++ zeros 13) ∷ []))

-- if the descriptor is empty the note ends at its name's end
abbrev pub NoteEmptyDescriptor : Type 0
NoteEmptyDescriptor =
    let first = note 7 (codes "abcde") [] in
    (walked 8 (note_head 5 0 7 ++ codes "abcde") ≡ uncut (first ∷ []))
    × (note_rows 8 0 (first ∷ []) ≡ record { at = 0; note = first; descriptor_at = 17 } ∷ [])
    × (walked 8 (note_head 5 0 7 ++ codes "abcde" ++ (6 ∷ 6 ∷ 6 ∷ 6 ∷ 6 ∷ 6 ∷ 6 ∷ []) ++ zeros 12) ≡ uncut (first ∷ note 0 [] [] ∷ []))

-- a note follows the padding of the one before it
abbrev pub LaterNotesStand : Type 0
LaterNotesStand =
    let first = note 1 (codes "ABCD" ++ zeros 1) (1 ∷ 2 ∷ 3 ∷ 4 ∷ []) in
    let second = note 2 (codes "GNU" ++ zeros 1) (5 ∷ []) in
    let third = note 3 (codes "abcde") [] in
    let last = note 4 [] [] in
    (note_rows 8 0 (first ∷ second ∷ [])
    ≡ record { at = 0; note = first; descriptor_at = 24 } ∷ record { at = 32; note = second; descriptor_at = 48 } ∷ [])
    × (note_rows 4 0 (third ∷ third ∷ last ∷ [])
    ≡ record { at = 0; note = third; descriptor_at = 17 }
    ∷ record { at = 20; note = third; descriptor_at = 37 }
    ∷ record { at = 40; note = last; descriptor_at = 52 }
    ∷ [])
