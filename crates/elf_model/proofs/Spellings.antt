-- The encoding of a note, and the bytes that it is in.
use Rattle.std.proofs.Common.{min, ◌≡◌, ℕ, ◌+◌, ◌<◌, ◌≤◌, nat_lt, Bool, true, false, List, ◌++◌, length, take, drop, ◌⊎◌, inl, inr, refl, ap, sym, ◌∙◌, arith, length-append, take-append-drop, length-take-le, take-add}
use Rattle.std.proofs.lemmas.List.{take_at, drop_at, append_assoc}
use Rattle.std.proofs.lemmas.Bool.Decides.{nat_tests}
use Rattle.std.proofs.lemmas.Bool.{cases_lt}
use Rattle.elf_model.specs.Prelude.{IsNoteEncoding, Note, OneNote, alignment_gap, are_zeros, bytes_to_alignment, descriptor_start, escaped_size, field, first_end, first_note, n_descsz, n_namesz, n_type, next_note, padded_size, slice}
use Rattle.elf_model.proofs.Slices.{field-front, slice-size}
use Rattle.elf_model.specs.Notes.{Ends, Broken}

-- a slice that follows a prefix
pub slice-behind : (x y z : List ℕ) (at size : ℕ) → length x ≡ at → length y ≡ size → slice (x ++ y ++ z) at size ≡ y
slice-behind x y z at size p q =
    ap (take size) (ap (drop at) (append_assoc x y z) ∙ drop_at x (y ++ z) at p) ∙ take_at y z size q

-- the four cases of what is next
pub data NextView (a : ℕ) (rest : List ℕ) : Type 0 where
  ends : length rest < 12 → are_zeros rest ≡ true → next_note a rest ≡ Ends → NextView a rest
  tails : length rest < 12 → next_note a rest ≡ Broken → NextView a rest
  past : next_note a rest ≡ Broken → NextView a rest
  found : 12 ≤ length rest → first_end a rest ≤ length rest
      → next_note a rest ≡ OneNote (first_note a rest) (min (first_end a rest + bytes_to_alignment a (first_end a rest)) (length rest)) → NextView a rest

pub next-ends : (a : ℕ) (rest : List ℕ) → length rest < 12 → are_zeros rest ≡ true → next_note a rest ≡ Ends
unfolding next_note
next-ends a rest h z = let t : nat_lt (length rest) 12 ≡ true = grind (arith, nat_tests) in rw (t, z) refl

pub next-tails : (a : ℕ) (rest : List ℕ) → length rest < 12 → are_zeros rest ≡ false → next_note a rest ≡ Broken
unfolding next_note
next-tails a rest h z = let t : nat_lt (length rest) 12 ≡ true = grind (arith, nat_tests) in rw (t, z) refl

pub next-past : (a : ℕ) (rest : List ℕ) → 12 ≤ length rest → length rest < first_end a rest → next_note a rest ≡ Broken
unfolding next_note
next-past a rest h l =
    let t : nat_lt (length rest) 12 ≡ false = grind (arith, nat_tests) in
    let u : nat_lt (length rest) (first_end a rest) ≡ true = grind (arith, nat_tests) in
    rw (t, u) refl

pub next-found : (a : ℕ) (rest : List ℕ) → 12 ≤ length rest → first_end a rest ≤ length rest
    → next_note a rest ≡ OneNote (first_note a rest) (min (first_end a rest + bytes_to_alignment a (first_end a rest)) (length rest))
unfolding next_note
next-found a rest h l =
    let t : nat_lt (length rest) 12 ≡ false = grind (arith, nat_tests) in
    let u : nat_lt (length rest) (first_end a rest) ≡ false = grind (arith, nat_tests) in
    rw (t, u) refl

pub next_view : (a : ℕ) (rest : List ℕ) → NextView a rest
next_view a rest = split (cases_lt (length rest) 12)
  where
    tail : length rest < 12 → (b : Bool) → are_zeros rest ≡ b → NextView a rest
    tail h true z = ends h z (next-ends a rest h z)
    tail h false z = tails h (next-tails a rest h z)

    head : 12 ≤ length rest → (length rest < first_end a rest) ⊎ (first_end a rest ≤ length rest) → NextView a rest
    head h (inl l) = past (next-past a rest h l)
    head h (inr l) = found h l (next-found a rest h l)

    split : (length rest < 12) ⊎ (12 ≤ length rest) → NextView a rest
    split (inl h) = tail h (are_zeros rest) refl
    split (inr h) = head h (cases_lt (length rest) (first_end a rest))

-- an encoding has the note's size
pub spelt-size : (a : ℕ) (note : Note) (text : List ℕ) → IsNoteEncoding a note text → length text ≡ escaped_size a note
spelt-size a note text s =
    ap length s.parts ∙ omega (arith, length-append (s.head ++ note.name ++ s.gap) note.descriptor, length-append (s.head ++ note.name) s.gap, length-append s.head note.name, s.head_size, s.gap_size)

abbrev note_of : ℕ → List ℕ → List ℕ → Note
note_of kind name descriptor = record { kind = kind; name = name; descriptor = descriptor }

-- the sizes and the type in the header of an encoding
pub spelt-fields : (a : ℕ) (note : Note) (text rest : List ℕ) → IsNoteEncoding a note text
    → (n_namesz (text ++ rest) 0 ≡ length note.name) × (n_descsz (text ++ rest) 0 ≡ length note.descriptor) × (n_type (text ++ rest) 0 ≡ note.kind)
spelt-fields a note text rest s =
    let behind : List ℕ = note.name ++ (s.gap ++ (note.descriptor ++ rest)) in
    let e : text ++ rest ≡ s.head ++ behind = rw (s.parts) (simp append_assoc) in
    rw e (
      field-front s.head behind 0 4 (omega (arith, s.head_size)) ∙ s.namesz,
      field-front s.head behind 4 4 (omega (arith, s.head_size)) ∙ s.descsz,
      field-front s.head behind 8 4 (omega (arith, s.head_size)) ∙ s.type,
    )

-- the name and the descriptor in an encoding
pub spelt-name : (a : ℕ) (note : Note) (text rest : List ℕ) → IsNoteEncoding a note text → slice (text ++ rest) 12 (length note.name) ≡ note.name
spelt-name a note text rest s =
    let e : text ++ rest ≡ s.head ++ note.name ++ (s.gap ++ (note.descriptor ++ rest)) = rw (s.parts) (simp append_assoc) in
    rw e (slice-behind s.head note.name (s.gap ++ (note.descriptor ++ rest)) 12 (length note.name) s.head_size refl)

pub spelt-descriptor : (a : ℕ) (note : Note) (text rest : List ℕ) → IsNoteEncoding a note text
    → slice (text ++ rest) (descriptor_start a (length note.name) (length note.descriptor)) (length note.descriptor) ≡ note.descriptor
spelt-descriptor a note text rest s =
    let l : length (s.head ++ note.name ++ s.gap) ≡ descriptor_start a (length note.name) (length note.descriptor) =
    omega (arith, length-append (s.head ++ note.name) s.gap, length-append s.head note.name, s.head_size, s.gap_size) in
    rw (s.parts) (slice-behind (s.head ++ note.name ++ s.gap) note.descriptor rest (descriptor_start a (length note.name) (length note.descriptor)) (length note.descriptor) l refl)

pub spelt-first : (a : ℕ) (note : Note) (text rest : List ℕ) → IsNoteEncoding a note text
    → (first_note a (text ++ rest) ≡ note) × (first_end a (text ++ rest) ≡ escaped_size a note)
spelt-first a note text rest s =
    let f = spelt-fields a note text rest s in
    let name = spelt-name a note text rest s in
    let descriptor = spelt-descriptor a note text rest s in
    (rw (f.0, f.1, f.2, name, descriptor) refl, rw (f.0, f.1) refl)

-- an encoded note is the next note
pub next-spelt : (a : ℕ) (note : Note) (text rest : List ℕ) → IsNoteEncoding a note text
    → next_note a (text ++ rest) ≡ OneNote note (min (padded_size a note) (length (text ++ rest)))
next-spelt a note text rest s =
    let f = spelt-first a note text rest s in
    let l = spelt-size a note text s in
    let m = length-append text rest in
    let e = next-found a (text ++ rest) (omega arith) (omega arith) in
    rw (f.0, f.1) at e

-- a found note is encoded there
pub found-spelt : (a : ℕ) (rest : List ℕ) → 12 ≤ length rest → first_end a rest ≤ length rest → IsNoteEncoding a (first_note a rest) (take (first_end a rest) rest)
found-spelt a rest h l =
    let namesz : ℕ = n_namesz rest 0 in
    let descsz : ℕ = n_descsz rest 0 in
    let gapsz : ℕ = alignment_gap a namesz descsz in
    let head : List ℕ = take 12 rest in
    let long : length head ≡ 12 = length-take-le 12 rest h in
    let whole = take-append-drop 12 rest in
    let name_size : length (slice rest 12 namesz) ≡ namesz = slice-size rest 12 namesz (omega arith) in
    let gap_long : length (slice rest (12 + namesz) gapsz) ≡ gapsz = slice-size rest (12 + namesz) gapsz (omega arith) in
    let descriptor_size : length (slice rest (12 + namesz + gapsz) descsz) ≡ descsz = slice-size rest (12 + namesz + gapsz) descsz (omega arith) in
    record {
      head = head;
      gap = slice rest (12 + namesz) gapsz;
      parts = take-add (12 + namesz + gapsz) descsz rest ∙ ap (λ x. x ++ slice rest (12 + namesz + gapsz) descsz)
          (take-add (12 + namesz) gapsz rest ∙ ap (λ x. x ++ slice rest (12 + namesz) gapsz) (take-add 12 namesz rest));
      head_size = long;
      namesz = sym (field-front head (drop 12 rest) 0 4 (omega arith)) ∙ ap (λ x. field x 0 4) whole ∙ sym name_size;
      descsz = sym (field-front head (drop 12 rest) 4 4 (omega arith)) ∙ ap (λ x. field x 4 4) whole ∙ sym descriptor_size;
      type = sym (field-front head (drop 12 rest) 8 4 (omega arith)) ∙ ap (λ x. field x 8 4) whole;
      gap_size = rw (name_size, descriptor_size) gap_long;
    }
