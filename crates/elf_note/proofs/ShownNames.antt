-- A note's name as it is shown, by what a search of its prefix found.
use Rattle.std.proofs.Common.{◌≡◌, ℕ, ◌+◌, ◌<◌, ◌≤◌, min, Bool, true, false, List, length, take, drop, Some, None, Ok, ◌⊎◌, inl, inr, ap, sym, ◌∙◌, refl, arith, length-take, take-take}
use Rattle.std.proofs.lemmas.List.{take_all}
use Rattle.elf_model.specs.Prelude.{Cut, Note, note_shown, nul_in, slice}
use Rattle.elf_model.specs.Names.DisplayedName.{Whole}
use Rattle.elf_model.proofs.NoteLoops.{note-shown-found, note-shown-all, note-shown-over}
use Rattle.elf_model.proofs.Nuls.{some-free}
use Rattle.elf_table.specs.NamesRead.{Searched}

-- a prefix of the name
front-is : (file : List ℕ) (at size want : ℕ) (note : Note) → want ≤ size → note.name ≡ slice file at size → slice file at want ≡ take want note.name
front-is file at size want note few e = sym (take-take want size (drop at file) few) ∙ ap (take want) (sym e)

pub shown-cut : (file : List ℕ) (at size cap want : ℕ) (kept : List ℕ) (note : Note) (found : Bool) → found ≡ false → want ≡ min size (cap + 1) → cap < size
    → note.name ≡ slice file at size → length note.name ≡ size → Searched (slice file at want) cap (Ok found) kept → note_shown cap note ≡ Cut kept
shown-cut file at size cap want kept note found f w more e l s =
    let t : (nul_in (slice file at want) ≡ None) × (kept ≡ take cap (slice file at want)) = rw f at s in
    let n : want ≡ cap + 1 = omega arith in
    let i : slice file at want ≡ take (cap + 1) note.name = front-is file at size want note (omega arith) e ∙ ap (λ (x : ℕ). take x note.name) n in
    note-shown-over cap note (ap nul_in (sym i) ∙ t.0) (omega arith)
    ∙ ap (λ (x : List ℕ). Cut x) (sym (t.1 ∙ ap (take cap) i ∙ take-take cap (cap + 1) note.name (omega arith)))

shown-none : (file : List ℕ) (at size cap want : ℕ) (kept : List ℕ) (note : Note) (found : Bool) → found ≡ false → want ≡ min size (cap + 1) → size ≤ cap
    → note.name ≡ slice file at size → length note.name ≡ size → Searched (slice file at want) cap (Ok found) kept → note_shown cap note ≡ Whole kept
shown-none file at size cap want kept note found f w few e l s =
    let t : (nul_in (slice file at want) ≡ None) × (kept ≡ take cap (slice file at want)) = rw f at s in
    let n : want ≡ size = omega arith in
    let i : slice file at want ≡ note.name = ap (slice file at) n ∙ sym e in
    note-shown-all cap note (ap nul_in (sym i) ∙ t.0) (omega arith)
    ∙ ap (λ (x : List ℕ). Whole x) (sym (t.1 ∙ ap (take cap) i ∙ take_all cap note.name (omega arith)))

shown-some : (file : List ℕ) (at size cap want : ℕ) (kept : List ℕ) (note : Note) (found : Bool) → found ≡ true → want ≡ min size (cap + 1)
    → note.name ≡ slice file at size → length note.name ≡ size → Searched (slice file at want) cap (Ok found) kept → note_shown cap note ≡ Whole kept
shown-some file at size cap want kept note found f w e l s =
    let t : (place : ℕ) × (nul_in (slice file at want) ≡ Some place) × (kept ≡ take cap (take place (slice file at want))) = rw f at s in
    let p : ℕ = t.0 in
    let i : slice file at want ≡ take want note.name = front-is file at size want note (omega arith) e in
    let b = some-free (slice file at want) p t.1 in
    let below : p < want = omega (arith, b.1, length-take want (drop at file)) in
    let all : take cap (take p (slice file at want)) ≡ take p (slice file at want) = take_all cap (take p (slice file at want)) (omega (arith, length-take p (slice file at want))) in
    note-shown-found cap want p note (ap nul_in (sym i) ∙ t.1) (omega arith)
    ∙ ap (λ (x : List ℕ). Whole x) (sym (t.2 ∙ all ∙ ap (take p) i ∙ take-take p want note.name (omega arith)))

pub shown-whole : (file : List ℕ) (at size cap want : ℕ) (kept : List ℕ) (note : Note) (found : Bool) → (found ≡ true) ⊎ (size ≤ cap) → want ≡ min size (cap + 1)
    → note.name ≡ slice file at size → length note.name ≡ size → Searched (slice file at want) cap (Ok found) kept → note_shown cap note ≡ Whole kept
shown-whole file at size cap want kept note true o w e l s = shown-some file at size cap want kept note true refl w e l s
shown-whole file at size cap want kept note false (inr few) w e l s = shown-none file at size cap want kept note false refl w few e l s
shown-whole file at size cap want kept note false (inl c) w e l s = cc
