-- The first list of properties among notes, note by note.
use Rattle.std.proofs.Common.{◌≡◌, ℕ, zero, suc, ◌+◌, ◌*◌, ◌≤◌, ◌==◌, ◌&&◌, nat_eq, codes, length-take, Bool, true, false, List, [], ◌∷◌, length, drop, Option, None, Some, Result, Ok, Err, inl, inr, refl, sym, ap, subst, ◌∙◌, arith}
use Rattle.std.specs.Prelude.{is_none, option_map}
use Rattle.std.specs.List.{position_or_len, starts_with}
use Rattle.std.proofs.lemmas.Bool.{cases_Bool, eqb-true, ne_eqb}
use Rattle.elf_model.specs.Prelude.{Check, Cut, NextNote, Note, NoteRow, NoteScan, OneNote, PT_NOTE, PropertyList, before_nul, cost_where, descriptor_start, first_listing, first_refusal, is_gnu_name, is_property_note, listed_in, next_note, note_align, note_rows, note_shown, p_align, p_filesz, p_offset, p_type, padded_size, pass, range_checks_of, segment_at, segment_notes, slice, table_cost, unless_empty, walk_from, walked, with_note}
use Rattle.elf_model.specs.declared.causes.Cause.TheVariants.{NoteCut}
use Rattle.elf_model.specs.declared.causes.Refusal.{Refusal}
use Rattle.elf_model.specs.Notes.{Ends, Broken}
use Rattle.elf_model.specs.Names.DisplayedName.{Whole}
use Rattle.elf_model.proofs.NoteRowLaws.{note_shown_cut, note_shown_whole}
use Rattle.elf_model.proofs.NoteLaws.{nothing-ends}
use Rattle.elf_record.specs.declared.note_head.NoteHead.{NoteHead}
use Rattle.elf_table.specs.Prelude.{HoldsBytes, RefusedBy, StillHolds, TableInBounds, TableRange, WindowState, byte_table_at, bytes_left, range_end, rows}
use Rattle.elf_table.specs.declared.fault.Fault.{Fault}
use Rattle.elf_table.specs.declared.fault.Fault.TheVariants.{Refused, Source as Unread}
use Rattle.elf_note.specs.Prelude.{AdvancesNote, GivesNote, IsNoteFound, NameIs, NoteCursorState, ShowsNote, StopsNote, TakesItsBytes, cut_at, no_notes, note_cut, note_size, notes_left}
use Rattle.elf_note.specs.declared.note_row.NoteRow.{NoteRow as ListingWrote}
use Rattle.elf_table.proofs.RelocationLaws.{table-fails, table-passes}
use Rattle.elf_loader.specs.Prelude.{ReturnsList, first_list, is_list, list_among, list_at, notes_asked}
use Rattle.elf_loader.specs.declared.trait_notes.PropertyRange.{PropertyRange}

-- the checks of a table of notes by the program header at an offset
abbrev pub note_checks : List ℕ → ℕ → List Check
note_checks file at = unless_empty (p_filesz file at) (range_checks_of (length file) (p_offset file at) (p_filesz file at) at)

-- the bytes before the first NUL are no longer
length-take-le-all : (name : List ℕ) → length (before_nul name) ≤ length name
length-take-le-all name = omega (arith, length-take (position_or_len (λ b. b == 0) name) name)

-- a walk, further on in a file
abbrev moved : ℕ → NoteScan → NoteScan
moved base walk = record { notes = walk.notes; cut = option_map (λ place. base + place) walk.cut }

-- one turn of a walk
abbrev turn : ℕ → List ℕ → (ℕ → List ℕ → NoteScan) → NextNote → NoteScan
turn place rest more Ends = record { notes = []; cut = None }
turn place rest more Broken = record { notes = []; cut = Some place }
turn place rest more (OneNote note size) = with_note note (more (place + size) (drop size rest))

walk_next : (a most place : ℕ) (rest : List ℕ) → walk_from a (suc most) place rest ≡ turn place rest (walk_from a most) (next_note a rest)
unfolding walk_from
walk_next a most place rest = go (next_note a rest) refl
  where
    go : (next : NextNote) → next_note a rest ≡ next → walk_from a (suc most) place rest ≡ turn place rest (walk_from a most) next
    go Ends e = rw (e, walk_from) refl
    go Broken e = rw (e, walk_from) refl
    go (OneNote note size) e = rw (e, walk_from) refl

same_turn : (a base most place : ℕ) (rest : List ℕ) (next : NextNote)
    → ((n : ℕ) (xs : List ℕ) → walk_from a most (base + n) xs ≡ moved base (walk_from a most n xs))
    → turn (base + place) rest (walk_from a most) next ≡ moved base (turn place rest (walk_from a most) next)
same_turn a base most place rest Ends more = refl
same_turn a base most place rest Broken more = refl
same_turn a base most place rest (OneNote note size) more =
    let on : base + place + size ≡ base + (place + size) = omega arith in
    ap (λ n. with_note note (walk_from a most n (drop size rest))) on ∙ ap (with_note note) (more (place + size) (drop size rest))

none_walked : (a place : ℕ) (rest : List ℕ) → walk_from a zero place rest ≡ record { notes = []; cut = Some place }
unfolding walk_from
none_walked a place rest = refl

walk_moved : (a base most place : ℕ) (rest : List ℕ) → walk_from a most (base + place) rest ≡ moved base (walk_from a most place rest)
walk_moved a base zero place rest = none_walked a (base + place) rest ∙ sym (ap (moved base) (none_walked a place rest))
walk_moved a base (suc most) place rest =
    walk_next a most (base + place) rest
    ∙ (same_turn a base most place rest (next_note a rest) (λ n xs. walk_moved a base most n xs)
    ∙ sym (ap (moved base) (walk_next a most place rest)))

-- a row of a note, further on
abbrev row_moved : ℕ → NoteRow → NoteRow
row_moved base row = record { at = base + row.at; note = row.note; descriptor_at = base + row.descriptor_at }

abbrev row_of : ℕ → ℕ → Note → NoteRow
row_of a place note = record { at = place; note = note; descriptor_at = place + descriptor_start a (length note.name) (length note.descriptor) }

first_none : (a place : ℕ) → first_listing (note_rows a place []) ≡ None
unfolding note_rows first_listing
first_none a place = refl

first_here : (a place : ℕ) (note : Note) (notes : List Note) → is_property_note note ≡ true → first_listing (note_rows a place (note ∷ notes)) ≡ Some (row_of a place note)
unfolding note_rows first_listing
first_here a place note notes is = rw (is, first_listing) refl

first_more : (a place : ℕ) (note : Note) (notes : List Note) → is_property_note note ≡ false
    → first_listing (note_rows a place (note ∷ notes)) ≡ first_listing (note_rows a (place + padded_size a note) notes)
unfolding note_rows first_listing
first_more a place note notes isnt = rw (isnt, first_listing) refl

first_moved : (a base place : ℕ) (notes : List Note) → first_listing (note_rows a (base + place) notes) ≡ option_map (row_moved base) (first_listing (note_rows a place notes))
first_moved a base place [] = first_none a (base + place) ∙ sym (ap (option_map (row_moved base)) (first_none a place))
first_moved a base place (note ∷ notes) = go (first_moved a base (place + padded_size a note) notes) (is_property_note note) refl
  where
    go : first_listing (note_rows a (base + (place + padded_size a note)) notes) ≡ option_map (row_moved base) (first_listing (note_rows a (place + padded_size a note) notes))
        → (b : Bool) → is_property_note note ≡ b
        → first_listing (note_rows a (base + place) (note ∷ notes)) ≡ option_map (row_moved base) (first_listing (note_rows a place (note ∷ notes)))
    go more true is =
        let on : base + place + descriptor_start a (length note.name) (length note.descriptor) ≡ base + (place + descriptor_start a (length note.name) (length note.descriptor)) = omega arith in
        first_here a (base + place) note notes is
        ∙ (ap (λ n. Some (record { at = base + place; note = note; descriptor_at = n })) on
        ∙ sym (ap (option_map (row_moved base)) (first_here a place note notes is)))
    go more false isnt =
        let on : base + place + padded_size a note ≡ base + (place + padded_size a note) = omega arith in
        first_more a (base + place) note notes isnt
        ∙ (ap (λ n. first_listing (note_rows a n notes)) on
        ∙ (more ∙ sym (ap (option_map (row_moved base)) (first_more a place note notes isnt))))

-- the result for a row, or for the offset of a malformed note
abbrev told : Option NoteRow → Option ℕ → Result (Option PropertyList) Refusal
told (Some row) cut = Ok (Some (record { place = row.descriptor_at; bytes = row.note.descriptor }))
told None (Some place) = Err (record { at = place; cause = NoteCut })
told None None = Ok None

among_is : (a at : ℕ) (walk : NoteScan) → list_among a at walk ≡ told (first_listing (note_rows a at walk.notes)) walk.cut
among_is a at walk = go (first_listing (note_rows a at walk.notes)) walk.cut refl refl
  where
    go : (found : Option NoteRow) (cut : Option ℕ) → first_listing (note_rows a at walk.notes) ≡ found → walk.cut ≡ cut → list_among a at walk ≡ told found cut
    go (Some row) cut e f = rw (e, list_among) refl
    go None (Some place) e f = rw (e, f, list_among) refl
    go None None e f = rw (e, f, list_among) refl

-- no note is left, or what is left at an offset is malformed
pub among_none : (a at : ℕ) → list_among a at no_notes ≡ Ok None
among_none a at = among_is a at no_notes ∙ ap (λ found. told found None) (first_none a at)

pub among_cut : (a at place : ℕ) → list_among a at (cut_at place) ≡ Err (record { at = place; cause = NoteCut })
among_cut a at place = among_is a at (cut_at place) ∙ ap (λ found. told found (Some place)) (first_none a at)

-- a note lists properties
pub among_here : (a at : ℕ) (note : Note) (walk : NoteScan) → is_property_note note ≡ true
    → list_among a at (with_note note walk) ≡ Ok (Some (record { place = at + descriptor_start a (length note.name) (length note.descriptor); bytes = note.descriptor }))
among_here a at note walk is = among_is a at (with_note note walk) ∙ ap (λ found. told found walk.cut) (first_here a at note walk.notes is)

-- or it does not, and those after it decide
among_more : (a at : ℕ) (note : Note) (walk : NoteScan) → is_property_note note ≡ false → list_among a at (with_note note walk) ≡ list_among a (at + padded_size a note) walk
among_more a at note walk isnt =
    among_is a at (with_note note walk) ∙ (ap (λ found. told found walk.cut) (first_more a at note walk.notes isnt) ∙ sym (among_is a (at + padded_size a note) walk))

-- those are at its end with its padding, or there are none
pub among_after : (a at left after next : ℕ) (note : Note) (walk : NoteScan) → is_property_note note ≡ false
    → after + note_size a (length note.name) (length note.descriptor) left ≡ left → next + after ≡ at + left → (after ≡ 0 → walk ≡ no_notes)
    → list_among a at (with_note note walk) ≡ list_among a next walk
among_after a at left after next note walk isnt takes same ends = among_more a at note walk isnt ∙ go after refl
  where
    go : (n : ℕ) → after ≡ n → list_among a (at + padded_size a note) walk ≡ list_among a next walk
    go zero none =
        let is = ends none in
        ap (list_among a (at + padded_size a note)) is ∙ (among_none a (at + padded_size a note) ∙ sym (ap (list_among a next) is ∙ among_none a next))
    go (suc more) some =
        let size : ℕ = padded_size a note in
        let here : at + size ≡ next = omega (arith, takes, same, some) in
        ap (λ n. list_among a n walk) here

-- THE FIRST LIST of a segment, if its range lies within the file
module _ (file : List ℕ) (at : ℕ) (table : TableRange) (place : table.at ≡ p_offset file at) (count : table.count ≡ p_filesz file at) where
  abbrev a : ℕ
  a = note_align (p_align file at)

  abbrev bytes : List ℕ
  bytes = slice file (p_offset file at) (p_filesz file at)

  walked_is : walked a bytes ≡ walk_from a (suc (length bytes)) 0 bytes
  unfolding walked
  walked_is = refl

  abbrev from_start : Option NoteRow → Option ℕ → Result (Option PropertyList) Refusal
  from_start (Some row) cut = Ok (Some (record { place = p_offset file at + row.descriptor_at; bytes = row.note.descriptor }))
  from_start None (Some place) = Err (record { at = p_offset file at + place; cause = NoteCut })
  from_start None None = Ok None

  moved_told : (found : Option NoteRow) (cut : Option ℕ) → from_start found cut ≡ told (option_map (row_moved (p_offset file at)) found) (option_map (λ place. p_offset file at + place) cut)
  moved_told (Some row) cut = refl
  moved_told None (Some place) = refl
  moved_told None None = refl

  listed_is : first_refusal (note_checks file at) ≡ None
      → listed_in file at ≡ from_start (first_listing (note_rows a 0 (walked a bytes).notes)) (walked a bytes).cut
  unfolding listed_in
  listed_is passes = go (first_listing (note_rows a 0 (walked a bytes).notes)) (walked a bytes).cut refl refl
    where
      go : (found : Option NoteRow) (cut : Option ℕ) → first_listing (note_rows a 0 (walked a bytes).notes) ≡ found → (walked a bytes).cut ≡ cut
          → listed_in file at ≡ from_start found cut
      go (Some row) cut e f = rw (passes, e, listed_in) refl
      go None (Some place) e f = rw (passes, e, f, listed_in) refl
      go None None e f = rw (passes, e, f, listed_in) refl

  pub listed_first : first_refusal (note_checks file at) ≡ None → listed_in file at ≡ first_list file (p_align file at) table
  listed_first passes =
      let base = p_offset file at in
      let w : NoteScan = walk_from a (suc (length bytes)) 0 bytes in
      let here : base + 0 ≡ base = omega arith in
      let later : walk_from a (suc (length bytes)) base bytes ≡ moved base w =
      ap (λ n. walk_from a (suc (length bytes)) n bytes) (sym here) ∙ walk_moved a base (suc (length bytes)) 0 bytes in
      let rows : first_listing (note_rows a base w.notes) ≡ option_map (row_moved base) (first_listing (note_rows a 0 w.notes)) =
      ap (λ n. first_listing (note_rows a n w.notes)) (sym here) ∙ first_moved a base 0 w.notes in
      let tells : list_among a base (walk_from a (suc (length bytes)) base bytes) ≡ listed_in file at =
      ap (list_among a base) later
      ∙ (among_is a base (moved base w)
      ∙ (ap (λ found. told found (option_map (λ place. base + place) w.cut)) rows
      ∙ (sym (moved_told (first_listing (note_rows a 0 w.notes)) w.cut)
      ∙ sym (listed_is passes ∙ ap (λ (v : NoteScan). from_start (first_listing (note_rows a 0 v.notes)) v.cut) walked_is)))) in
      let is : first_list file (p_align file at) table ≡ list_among a base (walk_from a (suc (length bytes)) base bytes) = rw (place, count) refl in
      sym (is ∙ tells)

  pub listed_fails : (refusal : Refusal) → first_refusal (note_checks file at) ≡ Some refusal → listed_in file at ≡ Err refusal
  unfolding listed_in
  listed_fails refusal fails = rw (fails, listed_in) refl

-- a name that is shown whole is the bytes before the first NUL, and one that is truncated is too
-- long
and_false : (b c : Bool) → c ≡ false → (b && c) ≡ false
and_false true c e = e
and_false false c e = refl

pub gnu_whole : (note : Note) (kind namesz : ℕ) (name : List ℕ) → kind ≡ note.kind → namesz ≡ length note.name → note_shown 63 note ≡ Whole name
    → (kind == 5 && (namesz == 4 && (length name == 3 && starts_with nat_eq name (codes "GNU")))) ≡ is_property_note note
gnu_whole note kind namesz name k n shown =
    let is = ((note_shown_whole 63 note name).0 shown).0 in
    rw (k, n, sym is) refl

pub gnu_cut : (note : Note) (front : List ℕ) → note_shown 63 note ≡ Cut front → false ≡ is_property_note note
gnu_cut note front shown =
    let long = ((note_shown_cut 63 note front).0 shown).0 in
    let most : length (before_nul note.name) ≤ length note.name = length-take-le-all note.name in
    let isnt : (length note.name == 4) ≡ false = ne_eqb (length note.name) 4 (λ e. omega (arith, long, most, e)) in
    let none : is_gnu_name note.name ≡ false = rw (isnt, is_gnu_name) refl in
    sym (and_false (note.kind == 5) (is_gnu_name note.name) none)

-- A LOOP over the notes of a table. Before the first all are left
pub notes_begin : (file : List ℕ) (align : ℕ) (table : TableRange) (w : WindowState) → w ≡ record { at = table.at; held = []; unread = table.count; page = 4096 }
    → first_list file align table ≡ list_among (note_align align) w.at (notes_left (note_align align) file w)
notes_begin file align table w is =
    let all : table.count ≡ 0 + table.count = omega arith in
    let start : ℕ → Result (Option PropertyList) Refusal =
    λ n. list_among (note_align align) table.at (walk_from (note_align align) (suc (length (slice file table.at n))) table.at (slice file table.at n)) in
    rw is (ap start all)

-- a step that yielded a note
pub record NoteStep (file : Option (List ℕ)) (a cap : ℕ) (old new : NoteCursorState) (name : List ℕ) : Type 0 where
  pub going : new.failed ≡ None
  pub agrees : StillHolds file old.ahead new.ahead
  pub less : bytes_left new.ahead + 12 ≤ bytes_left old.ahead
  pub takes : TakesItsBytes a old.ahead new.ahead new.found
  pub gives : (bytes : List ℕ) → file ≡ Some bytes → HoldsBytes bytes old.ahead
      → GivesNote bytes a cap old.ahead.at name new.descriptor (notes_left a bytes old.ahead) (notes_left a bytes new.ahead) new.found

pub step_note : (file : Option (List ℕ)) (a cap : ℕ) (old new : NoteCursorState) (name : List ℕ) (answer : Bool) → answer ≡ true → old.align ≡ a
    → AdvancesNote file cap old new name (Ok answer) → NoteStep file a cap old new name
step_note file a cap old new name answer is same steps =
    let step = rw is at steps in
    record {
      going = step.leaves.1;
      agrees = step.agrees;
      less = step.leaves.2;
      takes = rw same at step.passes;
      gives = λ bytes held agrees. rw same at (step.tells bytes held agrees);
    }

-- it failed: a read, or there is no whole note
pub list_stops : (file : List ℕ) (a align : ℕ) (table : TableRange) (w : WindowState) (fault : Fault) → first_list file align table ≡ list_among a w.at (notes_left a file w)
    → StopsNote w.at fault → (fault ≡ note_cut w.at → notes_left a file w ≡ cut_at w.at) → ReturnsList file (first_list file align table) (Err fault)
list_stops file a align table w (Refused refusal) left (inl read) cut = λ other. absurd (other read)
list_stops file a align table w (Unread fault at) left (inl read) cut = tt
list_stops file a align table w fault left (inr is) cut =
    rw is (λ other. left ∙ (ap (list_among a w.at) (cut is) ∙ among_cut a w.at w.at))

-- whether a note that is yielded lists properties, and the offset of its descriptor
module _ (file : List ℕ) (a : ℕ) (old new : NoteCursorState) (name : List ℕ) (row : ListingWrote) (shows : ShowsNote new row) (note : Note)
    (is : IsNoteFound file a 63 old.ahead.at note new.found name new.descriptor) where
  pub kind_is : row.head.kind ≡ note.kind
  kind_is = ap (λ (h : NoteHead). h.kind) shows.its_head ∙ is.kind

  pub namesz_is : row.head.namesz ≡ length note.name
  namesz_is = ap (λ (h : NoteHead). h.namesz) shows.its_head ∙ is.namesz

  pub named_is : (bytes : List ℕ) → bytes ≡ name → NameIs row.name_end bytes (note_shown 63 note)
  named_is bytes same = rw (same, shows.its_end) is.shown_name

  descsz_is : row.head.descsz ≡ length note.descriptor
  descsz_is = ap (λ (h : NoteHead). h.descsz) shows.its_head ∙ is.descsz

  -- it does
  pub note_here : (left : NoteScan) → notes_left a file old.ahead ≡ with_note note left → is_property_note note ≡ true
      → list_among a old.ahead.at (notes_left a file old.ahead) ≡ Ok (Some (is_list file (record { at = row.desc_at; size = row.head.descsz })))
  note_here left walk lists =
      let place : old.ahead.at + descriptor_start a (length note.name) (length note.descriptor) ≡ row.desc_at = sym is.descriptor_at ∙ sym shows.its_descriptor in
      let bytes : note.descriptor ≡ slice file row.desc_at row.head.descsz =
      is.whole ∙ (ap (λ (n : ℕ). slice file n (length note.descriptor)) (sym shows.its_descriptor) ∙ ap (slice file row.desc_at) (sym descsz_is)) in
      ap (list_among a old.ahead.at) walk
      ∙ (among_here a old.ahead.at note left lists
      ∙ (ap (λ (n : ℕ). Ok (Some (record { place = n; bytes = note.descriptor }))) place
      ∙ ap (λ (b : List ℕ). Ok (Some (record { place = row.desc_at; bytes = b }))) bytes))

  -- or it does not
  pub note_gone : notes_left a file old.ahead ≡ with_note note (notes_left a file new.ahead) → is_property_note note ≡ false
      → TakesItsBytes a old.ahead new.ahead new.found → range_end new.ahead ≡ range_end old.ahead
      → list_among a old.ahead.at (notes_left a file old.ahead) ≡ list_among a new.ahead.at (notes_left a file new.ahead)
  note_gone walk isnt takes same =
      let sized : bytes_left new.ahead + note_size a (length note.name) (length note.descriptor) (bytes_left old.ahead) ≡ bytes_left old.ahead =
      ap (λ (n : ℕ). bytes_left new.ahead + note_size a n (length note.descriptor) (bytes_left old.ahead)) (sym is.namesz)
      ∙ (ap (λ (n : ℕ). bytes_left new.ahead + note_size a new.found.head.namesz n (bytes_left old.ahead)) (sym is.descsz) ∙ takes.size) in
      ap (list_among a old.ahead.at) walk
      ∙ among_after a old.ahead.at (bytes_left old.ahead) (bytes_left new.ahead) new.ahead.at note (notes_left a file new.ahead) isnt sized (omega (arith, same)) none_left
    where
      none_left : bytes_left new.ahead ≡ 0 → notes_left a file new.ahead ≡ no_notes
      none_left none =
          let bytes : length (slice file new.ahead.at (bytes_left new.ahead)) ≡ 0 = ap (λ (n : ℕ). length (slice file new.ahead.at n)) none in
          let start : ℕ → NoteScan = λ n. walk_from a (suc (length (slice file new.ahead.at n))) new.ahead.at (slice file new.ahead.at n) in
          ap start none ∙ nothing-ends a new.ahead.at

-- there is no list, or one
pub list_none : (file : List ℕ) (a align : ℕ) (table : TableRange) (w : WindowState) → first_list file align table ≡ list_among a w.at (notes_left a file w)
    → notes_left a file w ≡ no_notes → first_list file align table ≡ Ok None
list_none file a align table w left none = left ∙ (ap (list_among a w.at) none ∙ among_none a w.at)

-- the bytes of a segment, by its program header
module _ (file : List ℕ) (at : ℕ) where
  pub range_fails : (fault : Fault) → Err fault ≡ byte_table_at file at → RefusedBy (note_checks file at) fault
  range_fails fault h =
      let p = table-fails (p_filesz file at == 0) (rows (p_offset file at) 0 1) (rows (p_offset file at) (p_filesz file at) 1)
      (range_checks_of (length file) (p_offset file at) (p_filesz file at) at) fault (sym h) in
      rw p.0 p.1

  pub range_passes : (table : TableRange) → Ok table ≡ byte_table_at file at → (first_refusal (note_checks file at) ≡ None) × (rows (p_offset file at) (p_filesz file at) 1 ≡ table)
  range_passes table h =
      let p = table-passes (p_filesz file at == 0) (rows (p_offset file at) 0 1) (rows (p_offset file at) (p_filesz file at) 1) table
      (range_checks_of (length file) (p_offset file at) (p_filesz file at) at) (sym h) in (
        p.0,
        elim (cases_Bool (p_filesz file at == 0)) [
          | inl empty ↦ ap (λ n. rows (p_offset file at) n 1) (eqb-true (p_filesz file at) 0 empty) ∙ rw empty at p.1
          | inr some ↦ rw some at p.1
        ],
      )

-- a cost under two conditions
both : (a b : Bool) (n : ℕ) → a ≡ true → b ≡ true → cost_where (a && b) n ≡ n
both a b n p q = rw (p, q) refl

-- the rows of one byte of a table
pub count_fitting : (table : TableRange) (size : ℕ) → table.entry ≡ 1 → TableInBounds size table → table.count ≤ size
count_fitting table size one within = go table.count refl
  where
    go : (n : ℕ) → table.count ≡ n → table.count ≤ size
    go zero none = omega (arith, none)
    go (suc n) some =
        let w = within (omega (arith, some)) in
        let e = ap (λ (k : ℕ). table.count * k) one in
        omega (arith, w, e)

-- THE LIST OF A SEGMENT: of notes that are within the file, or not
module _ (file : List ℕ) (i : ℕ) (is : (p_type file (segment_at file i) == PT_NOTE) ≡ true) where
  list_notes : list_at file i ≡ listed_in file (segment_at file i)
  list_notes = rw (is, list_at) refl

  pub segment_fails : (fault : Fault) → Err fault ≡ byte_table_at file (segment_at file i) → ReturnsList file (list_at file i) (Err fault)
  segment_fails (Refused refusal) h = λ other. list_notes ∙ listed_fails file (segment_at file i) (record { at = p_offset file (segment_at file i); count = p_filesz file (segment_at file i); entry = 1 }) refl refl refusal (range_fails file (segment_at file i) (Refused refusal) h)
  segment_fails (Unread fault at) h = tt

  module _ (table : TableRange) (h : Ok table ≡ byte_table_at file (segment_at file i)) where
    its : (first_refusal (note_checks file (segment_at file i)) ≡ None) × (rows (p_offset file (segment_at file i)) (p_filesz file (segment_at file i)) 1 ≡ table)
    its = range_passes file (segment_at file i) table h

    pub segment_told : (result : Result (Option PropertyRange) Fault) → ReturnsList file (first_list file (p_align file (segment_at file i)) table) result → ReturnsList file (list_at file i) result
    segment_told result tells =
        let at = segment_at file i in
        let same = list_notes ∙ listed_first file at table (sym (ap (λ (t : TableRange). t.at) its.1)) (sym (ap (λ (t : TableRange). t.count) its.1)) its.0 in
        subst (λ told. ReturnsList file told result) (sym same) tells

    pub segment_asked : table.count ≤ notes_asked file i
    unfolding table_cost segment_notes
    segment_asked =
        let at = segment_at file i in
        let count = ap (λ (t : TableRange). t.count) its.1 in
        elim (cases_Bool (p_filesz file at == 0)) [
          | inl empty ↦ let none = eqb-true (p_filesz file at) 0 empty in omega (arith, count, none)
          | inr some ↦
              let passes : first_refusal (range_checks_of (length file) (p_offset file at) (p_filesz file at) at) ≡ None = rw some at its.0 in
              let pass_is : pass (range_checks_of (length file) (p_offset file at) (p_filesz file at) at) ≡ true = ap is_none passes in
              let asked : notes_asked file i ≡ p_filesz file at * 1 = both _ _ (p_filesz file at * 1) is pass_is in
              omega (arith, count, asked)
        ]
