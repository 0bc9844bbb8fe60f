-- The notes of a table, by the notes that are left.
use Rattle.std.proofs.Common.{◌≡◌, ◌<◌, ◌≤◌, ◌⊎◌, ℕ, ◌+◌, zero, suc, Bool, true, Option, None, Some, Ok, List, [], ◌∷◌, ◌++◌, inl, inr, length, drop, refl, sym, ap, ◌∙◌, arith, append_assoc, append-nil, add-zero, zero-add}
use Rattle.elf_model.specs.Prelude.{DisplayedName, Fault as FaultItem, ListingItem, ListingStyle, NextNote, Note, NoteRow as FileNote, NoteScan, OneNote, bytes_to_alignment, descriptor_start, next_note, note_line, note_prefix, note_row, note_rows, note_shown, notes_rows, padded_size, place_of_record, placed_line, slice, walk_from, walk_rows, walked, with_note}
use Rattle.elf_model.specs.declared.causes.Cause.TheVariants.{NoteCut}
use Rattle.elf_model.specs.Notes.{Ends as EndsHere, Broken}
use Rattle.elf_model.proofs.NoteLaws.{nothing-ends, walked-is}
use Rattle.elf_model.proofs.NoteRowLaws.{row_of}
use Rattle.std.proofs.lemmas.Bool.{cases_lt}
use Rattle.elf_note.specs.NoteCursors.{TakesItsBytes}
use Rattle.elf_note.specs.declared.note.FoundNote.{FoundNote}
use Rattle.elf_record.specs.declared.note_head.NoteHead.{NoteHead}
use Rattle.elf_format.specs.Named.{shown_as}
use Rattle.elf_note.specs.Prelude.{AdvancesNote, IsNoteFound, NameIs, NoteCursorState, ShowsNote, StopsNote, cut_at, no_notes, note_cut, notes_from, notes_left}
use Rattle.elf_note.specs.declared.note_row.NoteRow.{NoteRow}
use Rattle.elf_source.specs.Output.{OutState}
use Rattle.elf_table.specs.Prelude.{HoldsBytes, IsOfRead, StillHolds, WindowState, bytes_left, range_end, stop_of}
use Rattle.elf_table.specs.declared.names.NameEnd.TheVariants.{Cut as NameCut, Whole as NameWhole}
use Rattle.elf_table.specs.declared.fault.Fault.{Fault}
use Rattle.elf_table.specs.declared.names.NameEnd.{NameEnd}
use Rattle.elf_table.specs.declared.run_fault.RunFault.{RunFault}
use Rattle.elf_options.specs.declared.caps.ListingStyle.{ListingStyle as Shape}
use Rattle.elf_table.specs.declared.fault.Fault.TheVariants.{Refused, Source as Unread}
use Rattle.elf_listing.specs.Prelude.{IsNoteRow, WrittenBefore, WroteItems, WrotePrefix, WroteUntilStop, cut_of, note_items}
use Rattle.elf_listing.proofs.ShowLaws.{Whole-none, Whole-then, WroteUntilStop-then, WroteUntilStop-more}

-- what is left at an offset with a note, and at one without
none_left : (style : ListingStyle) (index a place : ℕ) → note_items style index a place no_notes ≡ []
unfolding note_rows notes_rows
none_left style index a place = refl

cut_left : (style : ListingStyle) (index a place at : ℕ) → note_items style index a place (cut_at at) ≡ FaultItem (record { at = at; cause = NoteCut }) ∷ []
unfolding note_rows notes_rows
cut_left style index a place at = refl

-- a note, and what is left after it
note_left : (style : ListingStyle) (index a place : ℕ) (note : Note) (left : NoteScan)
    → note_items style index a place (with_note note left) ≡ note_row style index a (row_of a place note) ++ note_items style index a (place + padded_size a note) left
unfolding note_rows notes_rows
note_left style index a place note left =
    append_assoc (note_row style index a (row_of a place note)) (notes_rows style index a (note_rows a (place + padded_size a note) left.notes)) _

-- without a note that is left, the offset decides nothing
unplaced : (style : ListingStyle) (index a place other : ℕ) (left : NoteScan) → (place ≡ other) ⊎ (left.notes ≡ []) → note_items style index a place left ≡ note_items style index a other left
unfolding note_rows notes_rows
unplaced style index a place other left (inl same) = rw same refl
unplaced style index a place other left (inr none) = rw none refl

-- nothing was written yet
pub before_all : (a : OutState) (all left : List ListingItem) → all ≡ left → WrittenBefore a a all left
before_all a all left same = record { done = []; split = same; whole = Whole-none a }

-- some more items were written
pub before_more : {a b c : OutState} (all left next later : List ListingItem) → left ≡ next ++ later → WrittenBefore a b all left → WroteItems b c next → WrittenBefore a c all later
before_more all left next later is before more = record {
  done = before.done ++ next;
  split = before.split ∙ ap (λ (x : List ListingItem). before.done ++ x) is ∙ sym (append_assoc before.done next later);
  whole = Whole-then before.whole more;
}

-- what is written next failed
pub before_stopped : (a b c : OutState) (stop : RunFault) (all left next later : List ListingItem) → left ≡ next ++ later → WrittenBefore a b all left → WroteUntilStop b c stop next → WroteUntilStop a c stop all
before_stopped a b c stop all left next later is before more =
    rw (before.split ∙ ap (λ (x : List ListingItem). before.done ++ x) is ∙ sym (append_assoc before.done next later))
    (WroteUntilStop-more a c stop (before.done ++ next) later (WroteUntilStop-then a b c stop before.done next before.whole more))

front_of : {a b : OutState} (all left : List ListingItem) → WrittenBefore a b all left → WrotePrefix a b all
front_of all left before = record { front = before.done; rest = left; split = before.split; takes = before.whole.takes; no_fault = before.whole.no_fault }

unread_next : (a b : OutState) (fault : Fault) (all left : List ListingItem) → IsOfRead fault → WrittenBefore a b all left → WroteUntilStop a b (stop_of fault) all
unfolding front_of
unread_next a b (Refused refusal) all left is before = record { front = front_of all left before; next = λ other. absurd (other is) }
unread_next a b (Unread fault at) all left is before = front_of all left before

cut_next : (a b : OutState) (at : ℕ) (all left : List ListingItem) → left ≡ FaultItem (record { at = at; cause = NoteCut }) ∷ [] → WrittenBefore a b all left → WroteUntilStop a b (stop_of (note_cut at)) all
unfolding front_of
cut_next a b at all left is before = record { front = front_of all left before; next = λ other. record { later = []; is_next = is } }

-- a step over the next note failed: at a read, or at an offset without a note
pub before_fault : (a b : OutState) (fault : Fault) (style : ListingStyle) (index align place at : ℕ) (all : List ListingItem) (left : NoteScan) → StopsNote at fault → (fault ≡ note_cut at → left ≡ cut_at at)
    → WrittenBefore a b all (note_items style index align place left) → WroteUntilStop a b (stop_of fault) all
before_fault a b fault style index align place at all left (inl read) cut before = unread_next a b fault all (note_items style index align place left) read before
before_fault a b fault style index align place at all left (inr is) cut before =
    rw is (cut_next a b at all (note_items style index align place left) (ap (note_items style index align place) (cut is) ∙ cut_left style index align place at) before)

-- after the last note
pub before_none : {a b : OutState} (style : ListingStyle) (index align place : ℕ) (all : List ListingItem) (left : NoteScan) → left ≡ no_notes → WrittenBefore a b all (note_items style index align place left) → WroteItems a b all
before_none style index align place all left none before =
    rw (before.split ∙ ap (λ (x : List ListingItem). before.done ++ x) (ap (note_items style index align place) none ∙ none_left style index align place) ∙ append-nil before.done) before.whole

-- a note as a row of a cursor shows it
pub note_of : (file : List ℕ) (align cap at : ℕ) (note : Note) (c : NoteCursorState) (row : NoteRow) (name : List ℕ) → ShowsNote c row → IsNoteFound file align cap at note c.found name c.descriptor → IsNoteRow cap (row_of align at note) row name
note_of file align cap at note c row name lends found = record {
  here = lends.its_place ∙ found.its_place;
  named = rw lends.its_end found.shown_name;
  kind = ap (λ (x : NoteHead). x.kind) lends.its_head ∙ found.kind;
  namesz = ap (λ (x : NoteHead). x.namesz) lends.its_head ∙ found.namesz;
  descsz = ap (λ (x : NoteHead). x.descsz) lends.its_head ∙ found.descsz;
  first_bytes = lends.its_bytes ∙ found.first_bytes;
}

-- the note that was next, of an alignment and at an offset, is the one that a row shows; those that
-- are left after it begin at its end, if there are any
abbrev pub NextShown : (align cap place next : ℕ) → NoteScan → NoteScan → NoteRow → List ℕ → Type 0
NextShown align cap place next old new row name =
    (note : Note) × (old ≡ with_note note new) × IsNoteRow cap (row_of align place note) row name × ((place + padded_size align note ≡ next) ⊎ (new.notes ≡ []))

-- where a cursor is after a note
moved : (a : ℕ) (file : List ℕ) (note : Note) (old new : WindowState) (found : FoundNote) → found.head.namesz ≡ length note.name → found.head.descsz ≡ length note.descriptor
    → TakesItsBytes a old new found → range_end new ≡ range_end old → (old.at + padded_size a note ≡ new.at) ⊎ ((notes_left a file new).notes ≡ [])
moved a file note old new found name descriptor takes same_end = go (cases_lt (bytes_left old) (padded_size a note))
  where
    go : (bytes_left old < padded_size a note) ⊎ (padded_size a note ≤ bytes_left old) → (old.at + padded_size a note ≡ new.at) ⊎ ((notes_left a file new).notes ≡ [])
    go (inl few) =
        let size = rw (name, descriptor) at takes.size in
        let none : bytes_left new ≡ 0 = omega (arith, size) in
        inr (ap (λ n. (notes_from a new.at (slice file new.at n)).notes) none ∙ ap (λ (w : NoteScan). w.notes) (nothing-ends a new.at))
    go (inr enough) = let size = rw (name, descriptor) at takes.size in inl (omega (arith, size, same_end))

-- a step of a cursor that gave a note: in a known file the note that was next
pub record NoteGiven (file : Option (List ℕ)) (align cap : ℕ) (old new : NoteCursorState) (name : List ℕ) (row : NoteRow) : Type 0 where
  pub going : new.failed ≡ None
  pub agrees : StillHolds file old.ahead new.ahead
  pub gives : (bytes : List ℕ) → file ≡ Some bytes → HoldsBytes bytes old.ahead
      → NextShown align cap old.ahead.at new.ahead.at (notes_left align bytes old.ahead) (notes_left align bytes new.ahead) row name

pub note_given : (file : Option (List ℕ)) (align : ℕ) (style now : Shape) (old new : NoteCursorState) (name : List ℕ) (row : NoteRow) (answer : Bool) → answer ≡ true → old.align ≡ align
    → now ≡ style → range_end new.ahead ≡ range_end old.ahead → AdvancesNote file now.cap.bytes old new name (Ok answer) → ShowsNote new row → NoteGiven file align style.cap.bytes old new name row
note_given file align style now old new name row answer is same shape ends steps lends =
    let step = rw is at steps in
    let takes = rw same at step.passes in
    record {
      going = step.leaves.1;
      agrees = step.agrees;
      gives = λ bytes held agrees.
          let tells = rw (same, shape) at (step.tells bytes held agrees) in
          (tells.0, tells.1, note_of bytes align style.cap.bytes old.ahead.at tells.0 new row name lends tells.2, moved align bytes tells.0 old.ahead new.ahead new.found tells.2.namesz tells.2.descsz takes ends);
    }

-- the row of the note that was next, and those of the notes after it
next_items : (style : ListingStyle) (index align place next : ℕ) (old new : NoteScan) (row : NoteRow) (name : List ℕ) → (gives : NextShown align style.cap place next old new row name)
    → note_items style index align place old ≡ note_row style index align (row_of align place gives.0) ++ note_items style index align next new
next_items style index align place next old new row name gives =
    ap (note_items style index align place) gives.1 ∙ note_left style index align place gives.0 new
    ∙ ap (λ (x : List ListingItem). note_row style index align (row_of align place gives.0) ++ x) (unplaced style index align (place + padded_size align gives.0) next new gives.3)

-- the note that was next was shown, and then what is left after it
pub note_more : (a b c : OutState) (style : ListingStyle) (index align place next : ℕ) (all : List ListingItem) (old new : NoteScan) (row : NoteRow) (name : List ℕ) → NextShown align style.cap place next old new row name
    → WrittenBefore a b all (note_items style index align place old) → ((given : FileNote) → IsNoteRow style.cap given row name → WroteItems b c (note_row style index align given))
    → WrittenBefore a c all (note_items style index align next new)
note_more a b c style index align place next all old new row name gives before shown =
    before_more _ _ _ _ (next_items style index align place next old new row name gives) before (shown (row_of align place gives.0) gives.2)

-- or its row failed
pub note_stopped : (a b c : OutState) (stop : RunFault) (style : ListingStyle) (index align place next : ℕ) (all : List ListingItem) (old new : NoteScan) (row : NoteRow) (name : List ℕ) → NextShown align style.cap place next old new row name
    → WrittenBefore a b all (note_items style index align place old) → ((given : FileNote) → IsNoteRow style.cap given row name → WroteUntilStop b c stop (note_row style index align given)) → WroteUntilStop a c stop all
note_stopped a b c stop style index align place next all old new row name gives before shown =
    before_stopped _ _ _ _ _ _ _ _ (next_items style index align place next old new row name gives) before (shown (row_of align place gives.0) gives.2)

-- a note's name as it is shown
pub named_as : (end : NameEnd) (name : List ℕ) (shown : DisplayedName) → NameIs end name shown → shown ≡ shown_as (cut_of end) name
named_as NameWhole name shown is = is
named_as NameCut name shown is = is

-- the line of a note, by what it shows
pub note_is : (style : ListingStyle) (index align kind namesz descsz : ℕ) (shown : DisplayedName) (given : FileNote) → kind ≡ given.note.kind → namesz ≡ length given.note.name → descsz ≡ length given.note.descriptor
    → note_shown style.cap given.note ≡ shown
    → note_row style index align given ≡ placed_line style (place_of_record given.at (padded_size align given.note)) (note_line (note_prefix style.format index kind namesz descsz) kind shown given.note.descriptor)
unfolding note_row
note_is style index align kind namesz descsz shown given k n d s = rw (k, n, d, s) refl

-- where a note is, by its row
pub note_place : (align cap : ℕ) (given : FileNote) (row : NoteRow) (name : List ℕ) → IsNoteRow cap given row name
    → let size : ℕ = descriptor_start align row.head.namesz row.head.descsz + row.head.descsz in
    place_of_record row.at (size + bytes_to_alignment align size) ≡ place_of_record given.at (padded_size align given.note)
note_place align cap given row name is = let here = is.here in let namesz = is.namesz in let descsz = is.descsz in rw (here, namesz, descsz) refl

-- all notes of a table are left at first
pub all_left : (a : ℕ) (file : List ℕ) (w : WindowState) (at count page : ℕ) → w ≡ record { at = at; held = []; unread = count; page = page }
    → notes_left a file w ≡ notes_from a at (slice file at count)
all_left a file w at count page is = rw is (ap (λ (n : ℕ). notes_from a at (slice file at n)) (zero-add count))

plus : (x y z : ℕ) → x + y + z ≡ x + (y + z)
plus x y z = omega arith

-- a walk with its cut at another offset
abbrev cut_moved : ℕ → NoteScan → NoteScan
cut_moved offset walk = record { notes = walk.notes; cut = elim walk.cut as (λ _. Option ℕ) [ None ↦ None | Some place ↦ Some (offset + place) ] }

-- a walk from an offset on is that of the table, with the cut at its offset
walk_moved : (a offset most place : ℕ) (rest : List ℕ) → walk_from a most (offset + place) rest ≡ cut_moved offset (walk_from a most place rest)
unfolding walk_from
walk_moved a offset zero place rest = refl
walk_moved a offset (suc most) place rest = step (λ n xs. walk_moved a offset most n xs)
  where
    step : ((n : ℕ) (xs : List ℕ) → walk_from a most (offset + n) xs ≡ cut_moved offset (walk_from a most n xs))
        → walk_from a (suc most) (offset + place) rest ≡ cut_moved offset (walk_from a (suc most) place rest)
    step more = go (next_note a rest) refl
      where
        go : (next : NextNote) → next_note a rest ≡ next → walk_from a (suc most) (offset + place) rest ≡ cut_moved offset (walk_from a (suc most) place rest)
        go EndsHere e = rw (e, walk_from) refl
        go Broken e = rw (e, walk_from) refl
        go (OneNote note size) e =
            rw (e, walk_from)
            (ap (with_note note) (ap (λ (x : ℕ). walk_from a most x (drop size rest)) (plus offset place size) ∙ more (place + size) (drop size rest)))

items_moved : (style : ListingStyle) (index a at : ℕ) (notes : List Note) (cut : Option ℕ)
    → note_items style index a at (cut_moved at (record { notes = notes; cut = cut })) ≡ walk_rows style index a at (record { notes = notes; cut = cut })
unfolding walk_rows
items_moved style index a at notes None = refl
items_moved style index a at notes (Some place) = refl

pub table_rows : (style : ListingStyle) (a index at : ℕ) (table : List ℕ) → note_items style index a at (notes_from a at table) ≡ walk_rows style index a at (walked a table)
table_rows style a index at table =
    let walk : NoteScan = walk_from a (suc (length table)) 0 table in
    ap (λ (x : ℕ). note_items style index a at (notes_from a x table)) (sym (add-zero at))
    ∙ ap (note_items style index a at) (walk_moved a at (suc (length table)) 0 table)
    ∙ items_moved style index a at walk.notes walk.cut ∙ ap (walk_rows style index a at) (sym (walked-is a table))
