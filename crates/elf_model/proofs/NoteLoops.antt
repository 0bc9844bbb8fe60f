-- What a loop over a note table needs: the remaining rows and the cut, one note at a time.
use Rattle.std.proofs.Common.{take, length-take, le_of_eq, take-take, min, ◌≡◌, ℕ, ◌+◌, ◌<◌, ◌≤◌, List, [], ◌∷◌, length, drop, ◌⊎◌, inl, inr, Option, Some, None, ap, sym, ◌∙◌, arith}
use Rattle.std.proofs.lemmas.List.{drop_all, take_all}
use Rattle.std.proofs.lemmas.Bool.{cases_lt}
use Rattle.elf_model.specs.Prelude.{Cut, Note, NoteRow, NoteScan, OneNote, before_nul, bytes_to_alignment, first_end, first_note, next_note, note_rows, note_shown, nul_in, padded_size}
use Rattle.elf_model.specs.Names.DisplayedName.{Whole}
use Rattle.elf_model.proofs.Nuls.{free, none-free, some-free, free-some}
use Rattle.elf_model.proofs.NameLoops.{nul_in-whole, nul_in-take-some}
use Rattle.elf_model.proofs.Spellings.{NextView, ends, tails, past, found, next_view}
use Rattle.elf_model.proofs.Walks.{walk, walk-found}
use Rattle.elf_model.proofs.NoteLaws.{nothing-ends}
use Rattle.elf_model.proofs.NoteRowLaws.{note-whole, note-cut, row_of, rows-nil, rows-cons, first-padded}

-- the remaining rows and the cut from a position on
abbrev pub rows_left : ℕ → ℕ → List ℕ → List NoteRow
rows_left a place rest = note_rows a place (walk a place rest).notes

abbrev pub cut_left : ℕ → ℕ → List ℕ → Option ℕ
cut_left a place rest = (walk a place rest).cut

-- what is found is the first note
pub found-first : (a : ℕ) (rest : List ℕ) (note : Note) (size : ℕ) → next_note a rest ≡ OneNote note size
    → (note ≡ first_note a rest) × (size ≡ min (first_end a rest + bytes_to_alignment a (first_end a rest)) (length rest)) × (12 ≤ length rest) × (first_end a rest ≤ length rest)
found-first a rest note size e = go (next_view a rest)
  where
    go : NextView a rest → (note ≡ first_note a rest) × (size ≡ min (first_end a rest + bytes_to_alignment a (first_end a rest)) (length rest)) × (12 ≤ length rest) × (first_end a rest ≤ length rest)
    go (ends h z n) = cc
    go (tails h n) = cc
    go (past n) = cc
    go (found h l n) = (cc, cc, h, l)

-- after the last note, whose padding may be missing, no row is left at any position
rows-end : (a at n : ℕ) (rest : List ℕ) → rest ≡ [] → note_rows a n (walk a at rest).notes ≡ []
rows-end a at n rest e = rw (e) (ap (λ (w : NoteScan). note_rows a n w.notes) (nothing-ends a at) ∙ rows-nil a n)

rows-behind : (a place : ℕ) (rest : List ℕ) (note : Note) (size : ℕ) → next_note a rest ≡ OneNote note size
    → note_rows a (place + padded_size a note) (walk a (place + size) (drop size rest)).notes ≡ rows_left a (place + size) (drop size rest)
rows-behind a place rest note size e = go (cases_lt (length rest) (first_end a rest + bytes_to_alignment a (first_end a rest)))
  where
    go : (length rest < first_end a rest + bytes_to_alignment a (first_end a rest)) ⊎ (first_end a rest + bytes_to_alignment a (first_end a rest) ≤ length rest)
        → note_rows a (place + padded_size a note) (walk a (place + size) (drop size rest)).notes ≡ rows_left a (place + size) (drop size rest)
    go (inl few) =
        let f = found-first a rest note size e in
        let nothing : drop size rest ≡ [] = drop_all size rest (omega arith) in
        rows-end a (place + size) (place + padded_size a note) (drop size rest) nothing ∙ sym (rows-end a (place + size) (place + size) (drop size rest) nothing)
    go (inr enough) =
        let f = found-first a rest note size e in
        let p = first-padded a rest f.2 f.3 in
        let q : padded_size a note ≡ size = ap (padded_size a) f.0 ∙ omega arith in
        ap (λ n. note_rows a (place + n) (walk a (place + size) (drop size rest)).notes) q

pub rows-found : (a place : ℕ) (rest : List ℕ) (note : Note) (size : ℕ) → next_note a rest ≡ OneNote note size
    → (rows_left a place rest ≡ row_of a place note ∷ rows_left a (place + size) (drop size rest))
    × (cut_left a place rest ≡ cut_left a (place + size) (drop size rest))
rows-found a place rest note size e =
    let w = walk-found a place rest note size e in (
      ap (λ (x : NoteScan). note_rows a place x.notes) w ∙ rows-cons a place note (walk a (place + size) (drop size rest)).notes
          ∙ ap (λ x. row_of a place note ∷ x) (rows-behind a place rest note size e),
      ap (λ (x : NoteScan). x.cut) w,
    )

-- A note's name as it is shown, from a prefix of it.
pub before_nul-some : (name : List ℕ) (place : ℕ) → nul_in name ≡ Some place → before_nul name ≡ take place name
before_nul-some name place h = let f = some-free name place h in ap (λ n. take n name) f.0

pub before_nul-none : (name : List ℕ) → nul_in name ≡ None → before_nul name ≡ name
before_nul-none name h = take_all (free name) name (le_of_eq (sym (none-free name h)))

pub note-shown-found : (cap n place : ℕ) (note : Note) → nul_in (take n note.name) ≡ Some place → place ≤ cap → note_shown cap note ≡ Whole (take place note.name)
note-shown-found cap n place note h l =
    let b = before_nul-some note.name place (nul_in-whole note.name n place h) in
    let few : length (before_nul note.name) ≤ cap = rw b (omega (arith, length-take place note.name)) in
    note-whole cap note few ∙ ap (λ (x : List ℕ). Whole x) b

pub note-shown-all : (cap : ℕ) (note : Note) → nul_in note.name ≡ None → length note.name ≤ cap → note_shown cap note ≡ Whole note.name
note-shown-all cap note h l =
    let b = before_nul-none note.name h in
    note-whole cap note (rw b l) ∙ ap (λ (x : List ℕ). Whole x) b

-- without a NUL among the first cap + 1 bytes the first one is after them, if anywhere
none-in-front : (name : List ℕ) (n : ℕ) → nul_in (take n name) ≡ None → n ≤ length name → n ≤ free name
none-in-front name n h l = go (cases_lt (free name) n)
  where
    go : (free name < n) ⊎ (n ≤ free name) → n ≤ free name
    go (inl k) =
        let e = nul_in-take-some name n (free name) (free-some name (omega arith)) k in
        cc
    go (inr k) = k

pub note-shown-over : (cap : ℕ) (note : Note) → nul_in (take (cap + 1) note.name) ≡ None → cap < length note.name → note_shown cap note ≡ Cut (take cap note.name)
note-shown-over cap note h l =
    let k = none-in-front note.name (cap + 1) h (omega arith) in
    let more : cap < length (before_nul note.name) = omega (arith, length-take (free note.name) note.name) in
    note-cut cap note more ∙ ap (λ (x : List ℕ). Cut x) (take-take cap (free note.name) note.name (omega arith))
