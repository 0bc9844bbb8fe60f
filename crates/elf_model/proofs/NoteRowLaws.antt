-- The laws of the rows of a note table, and of the names in them.
use Rattle.std.proofs.Common.{min, ◌≡◌, ℕ, suc, zero, ◌+◌, ◌%◌, ◌<◌, ◌≤◌, ◌==◌, nat_lt, Bool, true, false, List, [], ◌∷◌, ◌++◌, length, take, drop, All, ◌⊎◌, inl, inr, None, refl, ap, sym, ◌∙◌, arith, length-drop, take-append-drop, length-take-le, take_all, zero-le, drop-drop}
use Rattle.std.proofs.lemmas.List.{take_at, drop_all}
use Rattle.std.proofs.lemmas.List.Elements.{All-nil, All-cons}
use Rattle.std.proofs.lemmas.Bool.{cases_lt}
use Rattle.std.proofs.lemmas.Bool.Decides.{nat_tests}
use Rattle.elf_model.specs.Prelude.{BeforeNulExactly, Cut, IsAligned, IsNoteEncoding, IsNoteInTable, Note, NoteRow, NoteScan, NoteShownCutExactly, NoteShownWholeExactly, OneNote, RowsAligned, RowsStand, before_nul, bytes_to_alignment, descriptor_start, escaped_size, first_end, first_note, next_note, note_align, note_rows, note_shown, nul_in, padded_size, slice}
use Rattle.elf_model.specs.Names.DisplayedName.{Whole}
use Rattle.elf_model.proofs.Nuls.{free, none-free, free-none, free-append, free-take, split_at_nul}
use Rattle.elf_model.proofs.Spellings.{NextView, ends, tails, past, found, next_view, spelt-size, spelt-name, spelt-descriptor, found-spelt}
use Rattle.elf_model.proofs.Walks.{walk, walk-ends, walk-broken, walk-found}
use Rattle.elf_model.proofs.NoteLaws.{walked-is, nothing-ends}

-- a note's row at a position
abbrev pub row_of : ℕ → ℕ → Note → NoteRow
row_of a place note = record { at = place; note = note; descriptor_at = place + descriptor_start a (length note.name) (length note.descriptor) }

pub rows-nil : (a place : ℕ) → note_rows a place [] ≡ []
unfolding note_rows
rows-nil a place = refl

pub rows-cons : (a place : ℕ) (note : Note) (notes : List Note)
    → note_rows a place (note ∷ notes) ≡ row_of a place note ∷ note_rows a (place + padded_size a note) notes
unfolding note_rows
rows-cons a place note notes = refl

no-rows-stand : (a place : ℕ) (table : List ℕ) → All (IsNoteInTable a table) (note_rows a place [])
no-rows-stand a place table = rw (rows-nil a place) (All-nil (IsNoteInTable a table))

-- what is found is in the table
row-is_at : (a place : ℕ) (table : List ℕ) → place ≤ length table → 12 ≤ length (drop place table) → first_end a (drop place table) ≤ length (drop place table)
    → IsNoteInTable a table (row_of a place (first_note a (drop place table)))
row-is_at a place table i h l =
    let rest : List ℕ = drop place table in
    let note : Note = first_note a rest in
    let end : ℕ = first_end a rest in
    let s : IsNoteEncoding a note (take end rest) = found-spelt a rest h l in
    let n : length (take end rest) ≡ end = length-take-le end rest l in
    let size : end ≡ escaped_size a note = sym n ∙ spelt-size a note (take end rest) s in
    let whole : take end rest ++ drop end rest ≡ rest = take-append-drop end rest in
    record {
      within = omega (arith, length-drop place table);
      spelt = rw (← size) s;
      name = ap (take (length note.name)) (sym (drop-drop 12 place table)) ∙ ap (λ x. slice x 12 (length note.name)) (sym whole) ∙ spelt-name a note (take end rest) (drop end rest) s;
      descriptor =
          ap (take (length note.descriptor)) (sym (drop-drop (descriptor_start a (length note.name) (length note.descriptor)) place table))
          ∙ ap (λ x. slice x (descriptor_start a (length note.name) (length note.descriptor)) (length note.descriptor)) (sym whole)
          ∙ spelt-descriptor a note (take end rest) (drop end rest) s;
    }

rows-found : (a place size : ℕ) (table : List ℕ) → place ≤ length table → 12 ≤ length (drop place table) → first_end a (drop place table) ≤ length (drop place table)
    → next_note a (drop place table) ≡ OneNote (first_note a (drop place table)) size
    → All (IsNoteInTable a table) (note_rows a (place + padded_size a (first_note a (drop place table))) (walk a (place + size) (drop size (drop place table))).notes)
    → All (IsNoteInTable a table) (note_rows a place (walk a place (drop place table)).notes)
rows-found a place size table i h l e more =
    let note : Note = first_note a (drop place table) in
    let w : NoteScan = walk a (place + size) (drop size (drop place table)) in
    rw (walk-found a place (drop place table) note size e)
    (rw (rows-cons a place note w.notes)
    (All-cons (IsNoteInTable a table) (row_of a place note) (note_rows a (place + padded_size a note) w.notes) (row-is_at a place table i h l) more))

rows-same : (a at n m : ℕ) (table xs ys : List ℕ) → n ≡ m → xs ≡ ys → All (IsNoteInTable a table) (note_rows a m (walk a at ys).notes)
    → All (IsNoteInTable a table) (note_rows a n (walk a at xs).notes)
rows-same a at n m table xs ys p q h = rw (p, q) h

no-more-rows : (a at n : ℕ) (table xs : List ℕ) → xs ≡ [] → All (IsNoteInTable a table) (note_rows a n (walk a at xs).notes)
no-more-rows a at n table xs e = rw (e) (rw (nothing-ends a at) (no-rows-stand a n table))

first-size : (a : ℕ) (rest : List ℕ) → 12 ≤ length rest → first_end a rest ≤ length rest → first_end a rest ≡ escaped_size a (first_note a rest)
first-size a rest h l = sym (length-take-le (first_end a rest) rest l) ∙ spelt-size a (first_note a rest) (take (first_end a rest) rest) (found-spelt a rest h l)

pub first-padded : (a : ℕ) (rest : List ℕ) → 12 ≤ length rest → first_end a rest ≤ length rest
    → padded_size a (first_note a rest) ≡ first_end a rest + bytes_to_alignment a (first_end a rest)
first-padded a rest h l = ap (λ n. n + bytes_to_alignment a n) (sym (first-size a rest h l))

rows-from : (a most place : ℕ) (table : List ℕ) → place ≤ length table → length (drop place table) < most
    → All (IsNoteInTable a table) (note_rows a place (walk a place (drop place table)).notes)
rows-from a zero place table i h = absurd (omega arith)
rows-from a (suc most) place table i h = step (λ n. rows-from a most n table)
  where
    step : ((n : ℕ) → n ≤ length table → length (drop n table) < most → All (IsNoteInTable a table) (note_rows a n (walk a n (drop n table)).notes))
        → All (IsNoteInTable a table) (note_rows a place (walk a place (drop place table)).notes)
    step more = go (next_view a (drop place table))
      where
        go : NextView a (drop place table) → All (IsNoteInTable a table) (note_rows a place (walk a place (drop place table)).notes)
        go (ends l z n) = rw (walk-ends a place (drop place table) n) (no-rows-stand a place table)
        go (tails l n) = rw (walk-broken a place (drop place table) n) (no-rows-stand a place table)
        go (past n) = rw (walk-broken a place (drop place table) n) (no-rows-stand a place table)
        go (found l m n) = rows-found a place (min (end + bytes_to_alignment a end) (length (drop place table))) table i l m n (later (cases_lt (length (drop place table)) (end + bytes_to_alignment a end)))
          where
            end : ℕ
            end = first_end a (drop place table)

            size : ℕ
            size = min (end + bytes_to_alignment a end) (length (drop place table))

            later : (length (drop place table) < end + bytes_to_alignment a end) ⊎ (end + bytes_to_alignment a end ≤ length (drop place table))
                → All (IsNoteInTable a table) (note_rows a (place + padded_size a (first_note a (drop place table))) (walk a (place + size) (drop size (drop place table))).notes)
            later (inl few) = no-more-rows a (place + size) (place + padded_size a (first_note a (drop place table))) table (drop size (drop place table))
                (drop_all size (drop place table) (omega arith))
            later (inr enough) =
                let p = first-padded a (drop place table) l m in
                rows-same a (place + size) (place + padded_size a (first_note a (drop place table))) (place + size) table (drop size (drop place table)) (drop (place + size) table)
                (omega arith) (drop-drop size place table) (more (place + size) (omega (arith, length-drop place table)) (omega (arith, length-drop place table, length-drop (place + size) table)))

pub rows_stand : RowsStand
rows_stand a table = rw (walked-is a table) (rows-from a (suc (length table)) 0 table zero-le (omega arith))

-- an offset plus the bytes to the next multiple is a multiple
next-four : (n : ℕ) → (n + bytes_to_alignment 4 n) % 4 ≡ 0
next-four n = omega arith

next-eight : (n : ℕ) → (n + bytes_to_alignment 8 n) % 8 ≡ 0
next-eight n = omega arith

-- facts about multiples of an alignment
record Multiples (a : ℕ) : Type 0 where
  next : (n : ℕ) → (n + bytes_to_alignment a n) % a ≡ 0
  sum : (m n : ℕ) → m % a ≡ 0 → n % a ≡ 0 → (m + n) % a ≡ 0
  none : 0 % a ≡ 0

fours : Multiples 4
fours = record { next = next-four; sum = λ m n p q. omega arith; none = refl }

eights : Multiples 8
eights = record { next = next-eight; sum = λ m n p q. omega arith; none = refl }

multiples : (align : ℕ) → Multiples (note_align align)
multiples align = go (align == 8) refl
  where
    go : (b : Bool) → (align == 8) ≡ b → Multiples (note_align align)
    go true e = rw e eights
    go false e = rw e fours

not-zero : (n : ℕ) → 0 < n → (n == 0) ≡ false
not-zero n h = grind (arith, nat_tests)

descriptor-aligned : (a : ℕ) → Multiples a → (namesz descsz : ℕ) → 0 < descsz → descriptor_start a namesz descsz % a ≡ 0
descriptor-aligned a k namesz descsz h =
    rw (not-zero descsz h) (k.next (12 + namesz))

rows-aligned : (a place : ℕ) (notes : List Note) → Multiples a → place % a ≡ 0 → All (IsAligned a) (note_rows a place notes)
rows-aligned a place [] k h = rw (rows-nil a place) (All-nil (IsAligned a))
rows-aligned a place (note ∷ notes) k h =
    let later = rows-aligned a (place + padded_size a note) notes k (k.sum place (padded_size a note) h (k.next (escaped_size a note))) in
    let start = descriptor_start a (length note.name) (length note.descriptor) in
    rw (rows-cons a place note notes)
    (All-cons (IsAligned a) (row_of a place note) (note_rows a (place + padded_size a note) notes)
    (h, λ few. k.sum place start h (descriptor-aligned a k (length note.name) (length note.descriptor) few)) later)

pub rows_aligned : RowsAligned
rows_aligned align notes = let k = multiples align in rows-aligned (note_align align) 0 notes k k.none

pub before_nul_exactly : BeforeNulExactly
before_nul_exactly bytes name = (λ h. there h (cases_lt (free bytes) (length bytes)), λ h. back h.0 h.1)
  where
    none : before_nul bytes ≡ name → nul_in name ≡ None
    none h = rw (← h) (free-none (take (free bytes) bytes) (free-take bytes (free bytes) (omega arith)))

    there : before_nul bytes ≡ name → (free bytes < length bytes) ⊎ (length bytes ≤ free bytes)
        → (nul_in name ≡ None) × ((bytes ≡ name) ⊎ ((rest : List ℕ) × (bytes ≡ name ++ 0 ∷ rest)))
    there h (inl l) = (none h, inr (drop (free bytes + 1) bytes, split_at_nul bytes l ∙ ap (λ x. x ++ 0 ∷ drop (free bytes + 1) bytes) h))
    there h (inr l) = (none h, inl (sym (take_all (free bytes) bytes l) ∙ h))

    back : nul_in name ≡ None → (bytes ≡ name) ⊎ ((rest : List ℕ) × (bytes ≡ name ++ 0 ∷ rest)) → before_nul bytes ≡ name
    back n (inl e) = let f = none-free name n in rw (e) (take_all (free name) name (omega arith))
    back n (inr e) =
        let f : free (name ++ 0 ∷ e.0) ≡ length name + 0 = free-append name (0 ∷ e.0) (none-free name n) in
        rw (e.1) (take_at name (0 ∷ e.0) (free (name ++ 0 ∷ e.0)) (omega arith))

pub note-whole : (cap : ℕ) (note : Note) → length (before_nul note.name) ≤ cap → note_shown cap note ≡ Whole (before_nul note.name)
unfolding note_shown
note-whole cap note h = let t : nat_lt cap (length (before_nul note.name)) ≡ false = grind (arith, nat_tests) in rw t refl

pub note-cut : (cap : ℕ) (note : Note) → cap < length (before_nul note.name) → note_shown cap note ≡ Cut (take cap (before_nul note.name))
unfolding note_shown
note-cut cap note h = let t : nat_lt cap (length (before_nul note.name)) ≡ true = grind (arith, nat_tests) in rw t refl

pub note_shown_whole : NoteShownWholeExactly
note_shown_whole cap note name = (λ h. there h (cases_lt cap (length (before_nul note.name))), λ h. note-whole cap note (rw (h.0) (h.1)) ∙ ap (λ (x : List ℕ). Whole x) h.0)
  where
    there : note_shown cap note ≡ Whole name → (cap < length (before_nul note.name)) ⊎ (length (before_nul note.name) ≤ cap)
        → (before_nul note.name ≡ name) × (length name ≤ cap)
    there h (inl l) = let s = note-cut cap note l in cc
    there h (inr l) = let s = note-whole cap note l in let e : before_nul note.name ≡ name = cc in (e, rw e at l)

pub note_shown_cut : NoteShownCutExactly
note_shown_cut cap note front = (λ h. there h (cases_lt cap (length (before_nul note.name))), λ h. note-cut cap note h.0 ∙ ap (λ (x : List ℕ). Cut x) (sym h.1))
  where
    there : note_shown cap note ≡ Cut front → (cap < length (before_nul note.name)) ⊎ (length (before_nul note.name) ≤ cap)
        → (cap < length (before_nul note.name)) × (front ≡ take cap (before_nul note.name))
    there h (inl l) = let s = note-cut cap note l in (l, cc)
    there h (inr l) = let s = note-whole cap note l in cc
