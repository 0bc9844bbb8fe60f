-- The effect of a step over a window on the notes that are left.
use Rattle.std.proofs.Common.{◌≡◌, ℕ, ◌+◌, ◌-◌, ◌<◌, ◌≤◌, min, true, false, List, length, take, drop, Some, Ok, ◌⊎◌, inl, inr, ap, sym, ◌∙◌, refl, arith, length-take, take-take}
use Rattle.std.proofs.lemmas.Bool.{cases_lt}
use Rattle.std.proofs.lemmas.List.{take_all}
use Rattle.elf_model.specs.Prelude.{Note, OneNote, are_zeros, bytes_to_alignment, descriptor_start, field, first_end, first_note, n_descsz, n_namesz, n_type, note_shown, slice, with_note}
use Rattle.elf_model.proofs.Slices.{slice-size, slice-slice, slice-rest, field-slice}
use Rattle.elf_model.proofs.Spellings.{next-ends, next-tails, next-past, next-found}
use Rattle.elf_model.proofs.Walks.{walk, walk-ends, walk-broken, walk-found}
use Rattle.elf_record.specs.Prelude.{IsNoteHead}
use Rattle.elf_record.specs.declared.note_head.NoteHead.{NoteHead}
use Rattle.elf_table.specs.Prelude.{IsOfRead, WindowState, bytes_left, range_end}
use Rattle.elf_table.specs.declared.fault.Fault.{Fault}
use Rattle.elf_table.specs.declared.names.NameEnd.{NameEnd}
use Rattle.elf_table.specs.declared.fault.Fault.TheVariants.{Refused, Source}
use Rattle.elf_note.specs.NoteCursors.{rest, notes_left, no_notes, cut_at, NameIs, ReturnsNote, note_cut, note_size}

-- a fault of a read is no refusal of a table of notes
pub no-cut : {at : ℕ} (fault : Fault) → IsOfRead fault → fault ≡ note_cut at → ⊥
no-cut (Refused refusal) budget is = cc
no-cut (Source fault at) budget is = cc

short : (file : List ℕ) (w : WindowState) → bytes_left w < 12 → length (rest file w) < 12
short file w few = omega (arith, length-take (bytes_left w) (drop w.at file))

-- only zeros are left
pub left-zeros : (a : ℕ) (file : List ℕ) (w : WindowState) → bytes_left w < 12 → are_zeros (rest file w) ≡ true → notes_left a file w ≡ no_notes
left-zeros a file w few z = walk-ends a w.at (rest file w) (next-ends a (rest file w) (short file w few) z)

-- too few bytes are left, and not all are zero
pub left-few : (a : ℕ) (file : List ℕ) (w : WindowState) → bytes_left w < 12 → are_zeros (rest file w) ≡ false → notes_left a file w ≡ cut_at w.at
left-few a file w few z = walk-broken a w.at (rest file w) (next-tails a (rest file w) (short file w few) z)

-- the first bytes of what is left are the note's header
record Heads (bytes : List ℕ) (head : NoteHead) : Type 0 where
  name : n_namesz bytes 0 ≡ head.namesz
  descriptor : n_descsz bytes 0 ≡ head.descsz
  kind : n_type bytes 0 ≡ head.kind

heads : (file : List ℕ) (at size : ℕ) (head : NoteHead) → 12 ≤ size → IsNoteHead file at head → Heads (slice file at size) head
heads file at size head h s = record {
  name = field-slice file at size 0 4 (omega arith) ∙ ap (λ (x : ℕ). field file x 4) (omega arith) ∙ sym s.namesz;
  descriptor = field-slice file at size 4 4 (omega arith) ∙ sym s.descsz;
  kind = field-slice file at size 8 4 (omega arith) ∙ sym s.kind;
}

end-is : (a : ℕ) (bytes : List ℕ) (head : NoteHead) → Heads bytes head → first_end a bytes ≡ descriptor_start a head.namesz head.descsz + head.descsz
end-is a bytes head e = rw (e.name, e.descriptor) refl

-- the note of this header does not fit
pub left-short : (a : ℕ) (file : List ℕ) (w : WindowState) (head : NoteHead) → IsNoteHead file w.at head → range_end w ≤ length file → 12 ≤ bytes_left w
    → bytes_left w < descriptor_start a head.namesz head.descsz + head.descsz → notes_left a file w ≡ cut_at w.at
left-short a file w head s ends h few =
    let long : length (rest file w) ≡ bytes_left w = slice-size file w.at (bytes_left w) (omega arith) in
    let e = end-is a (rest file w) head (heads file w.at (bytes_left w) head h s) in
    walk-broken a w.at (rest file w) (next-past a (rest file w) (omega arith) (omega arith))

-- a size within what is left, in its parts
pub size-parts : (s t n : ℕ) → s ≤ n → min (s + t) n ≡ s + min t (n - s)
size-parts s t n few = omega arith

-- there is a whole note
pub left-found : (a : ℕ) (file : List ℕ) (old new : WindowState) (head : NoteHead) → IsNoteHead file old.at head → range_end old ≤ length file → 12 ≤ bytes_left old
    → descriptor_start a head.namesz head.descsz + head.descsz ≤ bytes_left old → range_end new ≡ range_end old
    → new.at ≡ old.at + note_size a head.namesz head.descsz (bytes_left old)
    → notes_left a file old ≡ with_note (first_note a (rest file old)) (notes_left a file new)
left-found a file old new head s ends h fits same moved =
    let long : length (rest file old) ≡ bytes_left old = slice-size file old.at (bytes_left old) (omega arith) in
    let e = end-is a (rest file old) head (heads file old.at (bytes_left old) head h s) in
    let size : ℕ = note_size a head.namesz head.descsz (bytes_left old) in
    let its : min (first_end a (rest file old) + bytes_to_alignment a (first_end a (rest file old))) (length (rest file old)) ≡ size = rw (e, long) refl in
    let next = next-found a (rest file old) (omega arith) (omega arith) ∙ ap (OneNote (first_note a (rest file old))) its in
    let behind : drop size (rest file old) ≡ rest file new =
    slice-rest file old.at (bytes_left old) size (omega arith) ∙ ap (λ (x : ℕ). slice file x (bytes_left old - size)) (sym moved) ∙ ap (slice file new.at) (omega arith) in
    walk-found a old.at (rest file old) (first_note a (rest file old)) size next
    ∙ ap (λ (x : List ℕ). with_note (first_note a (rest file old)) (walk a (old.at + size) x)) behind
    ∙ ap (λ (x : ℕ). with_note (first_note a (rest file old)) (walk a x (rest file new))) (sym moved)

-- the first bytes of a prefix
pub first-bytes : (file : List ℕ) (at size shown : ℕ) → shown ≡ min size 32 → take 32 (slice file at size) ≡ slice file at shown
first-bytes file at size shown e = go (cases_lt size 32)
  where
    go : (size < 32) ⊎ (32 ≤ size) → take 32 (slice file at size) ≡ slice file at shown
    go (inl few) =
        let all : size ≡ shown = omega arith in
        take_all 32 (slice file at size) (omega (arith, length-take size (drop at file))) ∙ ap (slice file at) all
    go (inr more) =
        let most : 32 ≡ shown = omega arith in
        take-take 32 size (drop at file) more ∙ ap (slice file at) most

pub found-tells : (file : List ℕ) (a cap : ℕ) (old new : WindowState) (head : NoteHead) (name_end : NameEnd) (name desc : List ℕ) (place desc_at shown : ℕ)
    → place ≡ old.at → IsNoteHead file old.at head → range_end old ≤ length file → 12 ≤ bytes_left old
    → descriptor_start a head.namesz head.descsz + head.descsz ≤ bytes_left old → range_end new ≡ range_end old
    → new.at ≡ old.at + note_size a head.namesz head.descsz (bytes_left old)
    → ((note : Note) → note.name ≡ slice file (old.at + 12) head.namesz → length note.name ≡ head.namesz → NameIs name_end name (note_shown cap note))
    → desc_at ≡ old.at + descriptor_start a head.namesz head.descsz → shown ≡ min head.descsz 32 → take shown desc ≡ slice file desc_at shown
    → ReturnsNote file a cap old.at name desc (notes_left a file old) (notes_left a file new) (Ok (Some (record { at = place; head = head; name_end = name_end; desc_at = desc_at; shown = shown })))
found-tells file a cap old new head name_end name desc place desc_at shown here s ends h fits same moved named da sh db =
    let bytes : List ℕ = rest file old in
    let long : length bytes ≡ bytes_left old = slice-size file old.at (bytes_left old) (omega arith) in
    let e = heads file old.at (bytes_left old) head h s in
    let start : ℕ = descriptor_start a head.namesz head.descsz in
    let n1 : slice bytes 12 (n_namesz bytes 0) ≡ slice file (old.at + 12) head.namesz =
    ap (slice bytes 12) e.name ∙ slice-slice file old.at (bytes_left old) 12 head.namesz (omega arith) in
    let nl : length (slice bytes 12 (n_namesz bytes 0)) ≡ head.namesz = ap length n1 ∙ slice-size file (old.at + 12) head.namesz (omega arith) in
    let d1 : slice bytes (descriptor_start a (n_namesz bytes 0) (n_descsz bytes 0)) (n_descsz bytes 0) ≡ slice file (old.at + start) head.descsz =
    (rw (e.name, e.descriptor) refl) ∙ slice-slice file old.at (bytes_left old) start head.descsz (omega arith) in
    let dl : length (first_note a bytes).descriptor ≡ head.descsz = ap length d1 ∙ slice-size file (old.at + start) head.descsz (omega arith) in (
      first_note a bytes,
      left-found a file old new head s ends h fits same moved,
      record {
        its_place = here;
        namesz = sym nl;
        descsz = sym dl;
        kind = sym e.kind;
        shown_name = named (first_note a bytes) n1 nl;
        descriptor_at = rw (nl, dl) da;
        first_bytes = db ∙ ap (λ (x : ℕ). slice file x shown) da ∙ sym (first-bytes file (old.at + start) head.descsz shown sh) ∙ ap (take 32) (sym d1);
        whole = d1 ∙ ap (λ (x : ℕ). slice file x head.descsz) (sym da) ∙ ap (slice file desc_at) (sym dl);
      },
    )

-- what is left of a window once it moved over a note
pub taken-size : (a : ℕ) (head : NoteHead) (old new : WindowState) → range_end new ≡ range_end old
    → new.at ≡ old.at + note_size a head.namesz head.descsz (bytes_left old)
    → bytes_left new + note_size a head.namesz head.descsz (bytes_left old) ≡ bytes_left old
taken-size a head old new same moved = let size : ℕ = note_size a head.namesz head.descsz (bytes_left old) in omega (arith, same, moved)
