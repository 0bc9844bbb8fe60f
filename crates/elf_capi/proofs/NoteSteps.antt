-- What a step over the notes of a file implies for those that are left.
use Rattle.std.proofs.Common.{◌≡◌, ℕ, ◌+◌, ◌-◌, ◌<◌, ◌≤◌, min, true, false, List, length, drop, ap, sym, ◌∙◌, refl, arith}
use Rattle.elf_model.specs.Prelude.{OneNote, are_zeros, bytes_to_alignment, descriptor_start, first_end, first_note, n_descsz, n_namesz, slice, with_note}
use Rattle.elf_model.proofs.Slices.{slice-size, slice-slice, slice-rest}
use Rattle.elf_model.proofs.Spellings.{next-ends, next-tails, next-past, next-found}
use Rattle.elf_model.proofs.Walks.{walk, walk-ends, walk-broken, walk-found}
use Rattle.elf_record.specs.Prelude.{IsNoteHead}
use Rattle.elf_record.specs.declared.note_head.NoteHead.{NoteHead}
use Rattle.elf_note.specs.NoteCursors.{notes_from, no_notes, cut_at, note_size}
use Rattle.elf_capi.specs.Prelude.{IsNoteAt}
use Rattle.elf_capi.specs.declared.notes.Note.{Note as Row}
use Rattle.elf_capi.specs.declared.notes.NotePosition.{NotePosition}

pub ends : (a at : ℕ) (bytes : List ℕ) → length bytes < 12 → are_zeros bytes ≡ true → notes_from a at bytes ≡ no_notes
ends a at bytes few z = walk-ends a at bytes (next-ends a bytes few z)

pub tails : (a at : ℕ) (bytes : List ℕ) → length bytes < 12 → are_zeros bytes ≡ false → notes_from a at bytes ≡ cut_at at
tails a at bytes few z = walk-broken a at bytes (next-tails a bytes few z)

-- the end of the note, by its header
end-is : (a : ℕ) (bytes : List ℕ) (head : NoteHead) → IsNoteHead bytes 0 head → first_end a bytes ≡ descriptor_start a head.namesz head.descsz + head.descsz
end-is a bytes head s = rw (s.namesz, s.descsz) refl

pub past : (a at : ℕ) (bytes : List ℕ) (head : NoteHead) → IsNoteHead bytes 0 head → 12 ≤ length bytes → length bytes < descriptor_start a head.namesz head.descsz + head.descsz
    → notes_from a at bytes ≡ cut_at at
past a at bytes head s many few =
    let e = end-is a bytes head s in
    walk-broken a at bytes (next-past a bytes many (omega (arith, e, few)))

-- there is a note, and those after it are left
pub found : (a : ℕ) (file : List ℕ) (at left : ℕ) (head : NoteHead) → IsNoteHead (slice file at left) 0 head → 12 ≤ length (slice file at left)
    → descriptor_start a head.namesz head.descsz + head.descsz ≤ length (slice file at left) → length (slice file at left) ≤ left → (size : ℕ)
    → size ≡ note_size a head.namesz head.descsz (length (slice file at left))
    → notes_from a at (slice file at left) ≡ with_note (first_note a (slice file at left)) (notes_from a (at + size) (slice file (at + size) (left - size)))
found a file at left head s many fits whole size sized =
    let bytes : List ℕ = slice file at left in
    let e = end-is a bytes head s in
    let its : min (first_end a bytes + bytes_to_alignment a (first_end a bytes)) (length bytes) ≡ size = rw e (sym sized) in
    let next = next-found a bytes many (omega (arith, e, fits)) ∙ ap (OneNote (first_note a bytes)) its in
    let behind : drop size bytes ≡ slice file (at + size) (left - size) = slice-rest file at left size (omega (arith, sized, whole)) in
    walk-found a at bytes (first_note a bytes) size next
    ∙ ap (λ (x : List ℕ). with_note (first_note a bytes) (walk a (at + size) x)) behind

-- its name and its descriptor are at the row's offsets
pub tells : (a : ℕ) (file : List ℕ) (old : NotePosition) (head : NoteHead) (row : Row) → IsNoteHead (slice file old.at old.left) 0 head
    → descriptor_start a head.namesz head.descsz + head.descsz ≤ length (slice file old.at old.left) → length (slice file old.at old.left) ≤ old.left
    → row.at ≡ old.at → row.header ≡ old.header → row.kind ≡ head.kind → row.namesz ≡ head.namesz → row.descsz ≡ head.descsz → row.name_at ≡ old.at + 12
    → row.desc_at ≡ old.at + descriptor_start a head.namesz head.descsz → IsNoteAt file old (first_note a (slice file old.at old.left)) row
tells a file old head row s fits whole place header kind namesz descsz name_at desc_at =
    let bytes : List ℕ = slice file old.at old.left in
    let start : ℕ = descriptor_start a head.namesz head.descsz in
    let n1 : slice bytes 12 (n_namesz bytes 0) ≡ slice bytes 12 head.namesz = ap (slice bytes 12) (sym s.namesz) in
    let d1 : slice bytes (descriptor_start a (n_namesz bytes 0) (n_descsz bytes 0)) (n_descsz bytes 0) ≡ slice bytes start head.descsz = rw (s.namesz, s.descsz) refl in
    let nl : length (slice bytes 12 head.namesz) ≡ head.namesz = slice-size bytes 12 head.namesz (omega (arith, fits)) in
    let dl : length (slice bytes start head.descsz) ≡ head.descsz = slice-size bytes start head.descsz fits in
    let n2 : slice bytes 12 head.namesz ≡ slice file (old.at + 12) head.namesz = slice-slice file old.at old.left 12 head.namesz (omega (arith, fits, whole)) in
    let d2 : slice bytes start head.descsz ≡ slice file (old.at + start) head.descsz = slice-slice file old.at old.left start head.descsz (omega (arith, fits, whole)) in
    record {
      its_place = place;
      its_header = header;
      kind = kind ∙ s.kind;
      namesz = namesz ∙ sym (ap length n1 ∙ nl);
      descsz = descsz ∙ sym (ap length d1 ∙ dl);
      name = ap (λ (x : ℕ). slice file x row.namesz) name_at ∙ ap (slice file (old.at + 12)) namesz ∙ sym n2 ∙ sym n1;
      descriptor = ap (λ (x : ℕ). slice file x row.descsz) desc_at ∙ ap (slice file (old.at + start)) descsz ∙ sym d2 ∙ sym d1;
    }
