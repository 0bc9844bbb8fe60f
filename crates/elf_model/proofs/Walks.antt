-- The walk over a note table, one note at a time.
use Rattle.std.proofs.Common.{min, ◌≡◌, ℕ, suc, zero, ◌+◌, ◌<◌, ◌≤◌, List, [], ◌∷◌, ◌++◌, length, drop, Some, None, refl, ap, sym, ◌∙◌, arith, length-append, length-drop, add-zero}
use Rattle.std.proofs.lemmas.List.{drop_at, append_assoc}
use Rattle.elf_model.specs.Notes.{Note, Padded, AllPadded, NextNote, Ends, Broken, OneNote, NoteScan, bytes_to_alignment, padded_size, first_end, next_note, walk_from, with_note}
use Rattle.elf_model.proofs.Spellings.{NextView, ends, tails, past, found, next_view, next-spelt, spelt-size}

-- one step of the walk
abbrev turn : ℕ → List ℕ → (ℕ → List ℕ → NoteScan) → NextNote → NoteScan
turn place rest more Ends = record { notes = []; cut = None }
turn place rest more Broken = record { notes = []; cut = Some place }
turn place rest more (OneNote note size) = with_note note (more (place + size) (drop size rest))

walk_from-suc : (a most place : ℕ) (rest : List ℕ) → walk_from a (suc most) place rest ≡ turn place rest (walk_from a most) (next_note a rest)
unfolding walk_from
walk_from-suc a most place rest = go (next_note a rest) refl
  where
    go : (next : NextNote) → next_note a rest ≡ next → walk_from a (suc most) place rest ≡ turn place rest (walk_from a most) next
    go Ends e = rw (e, walk_from) refl
    go Broken e = rw (e, walk_from) refl
    go (OneNote note size) e = rw (e, walk_from) refl

-- the next note has at least its header, and is in the bytes
pub found-size : (a : ℕ) (rest : List ℕ) (note : Note) (size : ℕ) → next_note a rest ≡ OneNote note size → (12 ≤ size) × (size ≤ length rest)
found-size a rest note size e = go (next_view a rest)
  where
    go : NextView a rest → (12 ≤ size) × (size ≤ length rest)
    go (ends h z n) = cc
    go (tails h n) = cc
    go (past n) = cc
    go (found h l n) =
        let s : size ≡ min (first_end a rest + bytes_to_alignment a (first_end a rest)) (length rest) = cc in
        (omega arith, omega arith)

-- any number of steps above the number of bytes is enough
walk-enough : (a f g place : ℕ) (rest : List ℕ) → length rest < f → length rest < g → walk_from a f place rest ≡ walk_from a g place rest
walk-enough a zero g place rest p q = absurd (omega arith)
walk-enough a (suc f) zero place rest p q = absurd (omega arith)
walk-enough a (suc f) (suc g) place rest p q = step (λ n xs. walk-enough a f g n xs)
  where
    step : ((n : ℕ) (xs : List ℕ) → length xs < f → length xs < g → walk_from a f n xs ≡ walk_from a g n xs)
        → walk_from a (suc f) place rest ≡ walk_from a (suc g) place rest
    step more = rw (walk_from-suc a f place rest, walk_from-suc a g place rest) (go (next_note a rest) refl)
      where
        go : (next : NextNote) → next_note a rest ≡ next → turn place rest (walk_from a f) next ≡ turn place rest (walk_from a g) next
        go Ends e = refl
        go Broken e = refl
        go (OneNote note size) e =
            let s = found-size a rest note size e in
            ap (with_note note) (more (place + size) (drop size rest) (omega (arith, length-drop size rest)) (omega (arith, length-drop size rest)))

-- the walk over all remaining bytes
abbrev pub walk : ℕ → ℕ → List ℕ → NoteScan
walk a place rest = walk_from a (suc (length rest)) place rest

pub walk-ends : (a place : ℕ) (rest : List ℕ) → next_note a rest ≡ Ends → walk a place rest ≡ record { notes = []; cut = None }
walk-ends a place rest e = walk_from-suc a (length rest) place rest ∙ ap (turn place rest (walk_from a (length rest))) e

pub walk-broken : (a place : ℕ) (rest : List ℕ) → next_note a rest ≡ Broken → walk a place rest ≡ record { notes = []; cut = Some place }
walk-broken a place rest e = walk_from-suc a (length rest) place rest ∙ ap (turn place rest (walk_from a (length rest))) e

pub walk-found : (a place : ℕ) (rest : List ℕ) (note : Note) (size : ℕ) → next_note a rest ≡ OneNote note size
    → walk a place rest ≡ with_note note (walk a (place + size) (drop size rest))
walk-found a place rest note size e =
    let s = found-size a rest note size e in
    let l = length-drop size rest in
    walk_from-suc a (length rest) place rest ∙ ap (turn place rest (walk_from a (length rest))) e
    ∙ ap (with_note note) (walk-enough a (length rest) (suc (length (drop size rest))) (place + size) (drop size rest) (omega arith) (omega arith))

-- a padded note is walked first
walk-padded : (a place : ℕ) (note : Note) (first rest : List ℕ) → Padded a note first
    → walk a place (first ++ rest) ≡ with_note note (walk a (place + length first) rest)
walk-padded a place note first rest p =
    let e : first ++ rest ≡ p.spelling ++ (p.padding ++ rest) = rw (p.parts) (append_assoc p.spelling p.padding rest) in
    let size : length first ≡ padded_size a note =
    ap length p.parts ∙ omega (arith, length-append p.spelling p.padding, p.padding_size, spelt-size a note p.spelling p.spelt, ap (bytes_to_alignment a) (spelt-size a note p.spelling p.spelt)) in
    let next : next_note a (first ++ rest) ≡ OneNote note (min (padded_size a note) (length (first ++ rest))) =
    rw e (next-spelt a note p.spelling (p.padding ++ rest) p.spelt) in
    let m : min (padded_size a note) (length (first ++ rest)) ≡ length first = omega (arith, length-append first rest) in
    walk-found a place (first ++ rest) note (length first) (next ∙ ap (OneNote note) m)
    ∙ ap (λ x. with_note note (walk a (place + length first) x)) (drop_at first rest (length first) refl)

-- notes before those of a walk
abbrev pub with_notes : List Note → NoteScan → NoteScan
with_notes notes w = record { notes = notes ++ w.notes; cut = w.cut }

-- padded notes are walked first
pub walk-all-padded : (a place : ℕ) (notes : List Note) (front rest : List ℕ) → AllPadded a notes front
    → walk a place (front ++ rest) ≡ with_notes notes (walk a (place + length front) rest)
walk-all-padded a place [] front rest p = rw (p) (ap (λ n. walk a n rest) (sym (add-zero place)))
walk-all-padded a place (note ∷ notes) front rest p =
    let first : List ℕ = p.0 in
    let later : List ℕ = p.1 in
    let e : front ++ rest ≡ first ++ (later ++ rest) = rw (p.2) (append_assoc first later rest) in
    let n : place + length first + length later ≡ place + length front = rw (p.2) (omega (arith, length-append first later)) in
    let more = walk-all-padded a (place + length first) notes later rest p.4 in
    ap (walk a place) e ∙ walk-padded a place note first (later ++ rest) p.3 ∙ ap (with_note note) (more ∙ ap (λ x. with_notes notes (walk a x rest)) n)
