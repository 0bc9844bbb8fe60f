-- The laws of notes.
use Rattle.std.proofs.Common.{min, ◌≡◌, ℕ, suc, zero, ◌+◌, ◌<◌, ◌≤◌, List, [], ◌∷◌, ◌++◌, length, take, drop, ◌⊎◌, inl, inr, Option, Some, None, refl, ap, sym, ◌∙◌, arith, length-append, length-drop, take-append-drop, length-take-le, take-add, zero-le, add-zero, add_assoc, append-nil}
use Rattle.std.proofs.lemmas.List.{append_assoc, drop_all}
use Rattle.std.proofs.lemmas.Bool.{cases_lt}
use Rattle.elf_model.specs.Prelude.{AllPadded, CutAt, CutIsWalked, EndsInSpelling, EndsInZeros, FitsOrIsCut, FittingIsWalked, IsNoteEncoding, Note, NoteScan, Notes, OneListAtMost, OneNote, Padded, WalkedFits, WalkedIsCut, bytes_to_alignment, first_end, first_note, next_note, padded_size, slice, walked, with_note}
use Rattle.elf_model.specs.Notes.{Ends, Broken}
use Rattle.elf_model.proofs.Spellings.{NextView, ends, tails, past, found, next_view, next-ends, next-spelt, spelt-size, found-spelt}
use Rattle.elf_model.proofs.Slices.{slice-size}
use Rattle.elf_model.proofs.Walks.{walk, walk-ends, walk-broken, walk-found, walk-all-padded, with_notes, found-size}

pub walked-is : (a : ℕ) (table : List ℕ) → walked a table ≡ walk a 0 table
unfolding walked
walked-is a table = refl

-- no bytes end a table
pub nothing-ends : (a place : ℕ) → walk a place [] ≡ record { notes = []; cut = None }
nothing-ends a place = walk-ends a place [] (next-ends a [] (omega arith) refl)

filled-walked : (a : ℕ) (notes : List Note) (table : List ℕ) → EndsInZeros a notes table → walk a 0 table ≡ record { notes = notes; cut = None }
filled-walked a notes table f =
    let all = walk-all-padded a 0 notes f.front f.tail f.padded in
    let end = walk-ends a (0 + length f.front) f.tail (next-ends a f.tail f.few f.zeros) in
    ap (walk a 0) f.parts ∙ all ∙ ap (with_notes notes) end ∙ ap (λ x. whole x) (append-nil notes)
  where
    whole : List Note → NoteScan
    whole x = record { notes = x; cut = None }

short-walked : (a : ℕ) (notes : List Note) (table : List ℕ) → EndsInSpelling a notes table → walk a 0 table ≡ record { notes = notes; cut = None }
short-walked a notes table s =
    let rest : List ℕ = s.spelling ++ s.padding in
    let parts : table ≡ s.front ++ rest = s.parts ∙ append_assoc s.front s.spelling s.padding in
    let all = walk-all-padded a 0 s.before s.front rest s.padded in
    let size = spelt-size a s.last s.spelling s.spelt in
    let turned = ap (bytes_to_alignment a) size in
    let few = s.short in
    let m : min (padded_size a s.last) (length rest) ≡ length rest = omega (arith, length-append s.spelling s.padding) in
    let next = next-spelt a s.last s.spelling s.padding s.spelt ∙ ap (OneNote s.last) m in
    let one = walk-found a (0 + length s.front) rest s.last (length rest) next in
    let nothing : drop (length rest) rest ≡ [] = drop_all (length rest) rest (omega arith) in
    let end = ap (walk a (0 + length s.front + length rest)) nothing ∙ nothing-ends a (0 + length s.front + length rest) in
    ap (walk a 0) parts ∙ all ∙ ap (with_notes s.before) (one ∙ ap (with_note s.last) end) ∙ ap (λ x. whole x) (sym s.list)
  where
    whole : List Note → NoteScan
    whole x = record { notes = x; cut = None }

fitting : (a : ℕ) (notes : List Note) (table : List ℕ) → Notes a notes table → walk a 0 table ≡ record { notes = notes; cut = None }
fitting a notes table (inl f) = filled-walked a notes table f
fitting a notes table (inr s) = short-walked a notes table s

pub fitting_is_walked : FittingIsWalked
fitting_is_walked a notes table h = walked-is a table ∙ fitting a notes table h

pub one_list : OneListAtMost
one_list a table notes others h k = let p = fitting a notes table h in let q = fitting a others table k in ap (λ (w : NoteScan). w.notes) (sym p ∙ q)

-- how a walk ends
data Outcome (a place : ℕ) (rest : List ℕ) (w : NoteScan) : Type 0 where
  fits : w.cut ≡ None → Notes a w.notes rest → Outcome a place rest w
  cuts : (n : ℕ) → w.cut ≡ Some (place + n) → n ≤ length rest → AllPadded a w.notes (take n rest) → Outcome a place rest w

-- one padded note more
notes-more : (a : ℕ) (note : Note) (notes : List Note) (first rest : List ℕ) → Padded a note first → Notes a notes rest → Notes a (note ∷ notes) (first ++ rest)
notes-more a note notes first rest p (inl f) =
    inl (record {
      front = first ++ f.front;
      tail = f.tail;
      parts = ap (λ x. first ++ x) f.parts ∙ sym (append_assoc first f.front f.tail);
      padded = (first, f.front, refl, p, f.padded);
      few = f.few;
      zeros = f.zeros;
    })
notes-more a note notes first rest p (inr s) =
    inr (record {
      before = note ∷ s.before;
      last = s.last;
      front = first ++ s.front;
      spelling = s.spelling;
      padding = s.padding;
      list = ap (λ x. note ∷ x) s.list;
      parts = ap (λ x. first ++ x) s.parts ∙ simp append_assoc;
      padded = (first, s.front, refl, p, s.padded);
      spelt = s.spelt;
      short = s.short;
    })

-- what is at the end
outcome-ends : (a place : ℕ) (rest : List ℕ) → next_note a rest ≡ Ends → Outcome a place rest (walk a place rest)
outcome-ends a place rest e = go (next_view a rest)
  where
    go : NextView a rest → Outcome a place rest (walk a place rest)
    go (ends h z n) = rw (walk-ends a place rest e) (fits refl (inl (record { front = []; tail = rest; parts = refl; padded = refl; few = h; zeros = z })))
    go (tails h n) = cc
    go (past n) = cc
    go (found h l n) = cc

outcome-broken : (a place : ℕ) (rest : List ℕ) → next_note a rest ≡ Broken → Outcome a place rest (walk a place rest)
outcome-broken a place rest e = rw (walk-broken a place rest e) (cuts 0 (ap (λ (n : ℕ). Some n) (sym (add-zero place))) zero-le refl)

-- a note whose padding ends too early is the last
outcome-short : (a place : ℕ) (rest : List ℕ) (note : Note) (size : ℕ) → next_note a rest ≡ OneNote note size
    → IsNoteEncoding a note (take (first_end a rest) rest) → first_end a rest ≤ length rest → size ≡ length rest
    → length rest < first_end a rest + bytes_to_alignment a (first_end a rest) → Outcome a place rest (walk a place rest)
outcome-short a place rest note size e s l z few =
    let nothing : drop size rest ≡ [] = drop_all size rest (omega arith) in
    let end = walk-found a place rest note size e ∙ ap (λ x. with_note note (walk a (place + size) x)) nothing ∙ ap (with_note note) (nothing-ends a (place + size)) in
    let n : length (take (first_end a rest) rest) ≡ first_end a rest = length-take-le (first_end a rest) rest l in
    let short : length (drop (first_end a rest) rest) < bytes_to_alignment a (length (take (first_end a rest) rest)) = rw n (omega (arith, length-drop (first_end a rest) rest)) in
    rw end (fits refl (inr (record {
      before = [];
      last = note;
      front = [];
      spelling = take (first_end a rest) rest;
      padding = drop (first_end a rest) rest;
      list = refl;
      parts = sym (take-append-drop (first_end a rest) rest);
      padded = refl;
      spelt = s;
      short = short;
    })))

-- a padded note before an outcome
outcome-more : (a place : ℕ) (rest : List ℕ) (note : Note) (size : ℕ) → next_note a rest ≡ OneNote note size → size ≤ length rest
    → Padded a note (take size rest) → Outcome a (place + size) (drop size rest) (walk a (place + size) (drop size rest))
    → Outcome a place rest (walk a place rest)
outcome-more a place rest note size e l p o = rw (walk-found a place rest note size e) (go o)
  where
    go : Outcome a (place + size) (drop size rest) (walk a (place + size) (drop size rest)) → Outcome a place rest (with_note note (walk a (place + size) (drop size rest)))
    go (fits c n) = fits c (rw (take-append-drop size rest) at (notes-more a note (walk a (place + size) (drop size rest)).notes (take size rest) (drop size rest) p n))
    go (cuts n c m q) =
        cuts (size + n) (c ∙ ap (λ (x : ℕ). Some x) (add_assoc place size n)) (omega (arith, length-drop size rest))
        (take size rest, take n (drop size rest), take-add size n rest, p, q)

found-padded : (a : ℕ) (rest : List ℕ) (note : Note) (size : ℕ) → IsNoteEncoding a note (take (first_end a rest) rest) → first_end a rest ≤ length rest
    → size ≡ first_end a rest + bytes_to_alignment a (first_end a rest) → size ≤ length rest → Padded a note (take size rest)
found-padded a rest note size s l z h =
    let end : ℕ = first_end a rest in
    let n : length (take end rest) ≡ end = length-take-le end rest l in
    record {
      spelling = take end rest;
      padding = slice rest end (bytes_to_alignment a end);
      parts = ap (λ x. take x rest) z ∙ take-add end (bytes_to_alignment a end) rest;
      spelt = s;
      padding_size = slice-size rest end (bytes_to_alignment a end) (omega arith) ∙ ap (bytes_to_alignment a) (sym n);
    }

outcome : (a most place : ℕ) (rest : List ℕ) → length rest < most → Outcome a place rest (walk a place rest)
outcome a zero place rest h = absurd (omega arith)
outcome a (suc most) place rest h = step (λ n xs. outcome a most n xs)
  where
    step : ((n : ℕ) (xs : List ℕ) → length xs < most → Outcome a n xs (walk a n xs)) → Outcome a place rest (walk a place rest)
    step more = go (next_view a rest)
      where
        one : (note : Note) (size : ℕ) → next_note a rest ≡ OneNote note size → IsNoteEncoding a note (take (first_end a rest) rest) → first_end a rest ≤ length rest
            → size ≡ min (first_end a rest + bytes_to_alignment a (first_end a rest)) (length rest)
            → (length rest < first_end a rest + bytes_to_alignment a (first_end a rest)) ⊎ (first_end a rest + bytes_to_alignment a (first_end a rest) ≤ length rest)
            → Outcome a place rest (walk a place rest)
        one note size e s l z (inl few) = outcome-short a place rest note size e s l (omega arith) few
        one note size e s l z (inr enough) =
            let k = found-size a rest note size e in
            outcome-more a place rest note size e (omega arith) (found-padded a rest note size s l (omega arith) (omega arith))
            (more (place + size) (drop size rest) (omega (arith, length-drop size rest)))

        go : NextView a rest → Outcome a place rest (walk a place rest)
        go (ends l z n) = outcome-ends a place rest n
        go (tails l n) = outcome-broken a place rest n
        go (past n) = outcome-broken a place rest n
        go (found l m n) =
            one (first_note a rest) (min (first_end a rest + bytes_to_alignment a (first_end a rest)) (length rest)) n (found-spelt a rest l m) m refl
            (cases_lt (length rest) (first_end a rest + bytes_to_alignment a (first_end a rest)))

table-outcome : (a : ℕ) (table : List ℕ) → Outcome a 0 table (walk a 0 table)
table-outcome a table = outcome a (suc (length table)) 0 table (omega arith)

pub walked_fits : WalkedFits
walked_fits a table h = rw (walked-is a table) (go (table-outcome a table))
  where
    go : Outcome a 0 table (walk a 0 table) → Notes a (walk a 0 table).notes table
    go (fits c n) = n
    go (cuts n c m q) = let k = rw (walked-is a table) at h in cc

-- a walk is cut no earlier than where it starts
cut-behind : (a place : ℕ) (rest : List ℕ) (cut : ℕ) → (walk a place rest).cut ≡ Some cut → place ≤ cut
cut-behind a place rest cut h = go (outcome a (suc (length rest)) place rest (omega arith))
  where
    go : Outcome a place rest (walk a place rest) → place ≤ cut
    go (fits c n) = cc
    go (cuts n c m q) = let k : cut ≡ place + n = cc in omega arith

walk-is-cut : (a : ℕ) (table : List ℕ) (place : ℕ) → (walk a 0 table).cut ≡ Some place → CutAt a (walk a 0 table).notes place table
walk-is-cut a table place h = go (table-outcome a table)
  where
    longest : (others : List Note) (other : ℕ) → other ≤ length table → AllPadded a others (take other table) → other ≤ place
    longest others other l q =
        let n : length (take other table) ≡ other = length-take-le other table l in
        let all = walk-all-padded a 0 others (take other table) (drop other table) q in
        let same = ap (walk a 0) (sym (take-append-drop other table)) ∙ all in
        let k = sym (ap (λ (w : NoteScan). w.cut) same) ∙ h in
        let b = cut-behind a (0 + length (take other table)) (drop other table) place k in
        omega arith

    none_fits : (others : List Note) → Notes a others table → ⊥
    none_fits others q = let k = fitting a others table q in let m = sym (ap (λ (w : NoteScan). w.cut) k) ∙ h in cc

    go : Outcome a 0 table (walk a 0 table) → CutAt a (walk a 0 table).notes place table
    go (fits c n) = cc
    go (cuts n c m q) =
        let k : 0 + n ≡ place = cc in
        let e : n ≡ place = omega arith in
        record { within = omega arith; padded = rw e at q; longest = longest; none_fits = none_fits }

pub walked_is_cut : WalkedIsCut
walked_is_cut a table place h = rw (walked-is a table) (walk-is-cut a table place (rw (walked-is a table) at h))

-- padded notes alone are walked unchanged
padded-walked : (a : ℕ) (notes : List Note) (front : List ℕ) → AllPadded a notes front → walk a 0 front ≡ record { notes = notes; cut = None }
padded-walked a notes front p = filled-walked a notes front (record { front = front; tail = []; parts = sym (append-nil front); padded = p; few = omega arith; zeros = refl })

one-padded : (a : ℕ) (notes others : List Note) (front : List ℕ) → AllPadded a notes front → AllPadded a others front → notes ≡ others
one-padded a notes others front p q = ap (λ (w : NoteScan). w.notes) (sym (padded-walked a notes front p) ∙ padded-walked a others front q)

one-cut : (a : ℕ) (notes others : List Note) (place other : ℕ) (table : List ℕ) → CutAt a notes place table → CutAt a others other table
    → (notes ≡ others) × (place ≡ other)
one-cut a notes others place other table c d =
    let low : other ≤ place = c.longest others other d.within d.padded in
    let high : place ≤ other = d.longest notes place c.within c.padded in
    let e : place ≡ other = omega arith in
    (one-padded a notes others (take other table) (rw e at c.padded) d.padded, e)

walk-of : (w : NoteScan) (notes : List Note) (cut : Option ℕ) → w.notes ≡ notes → w.cut ≡ cut → w ≡ record { notes = notes; cut = cut }
walk-of w notes cut p q = rw (← p, ← q) refl

pub cut_is_walked : CutIsWalked
cut_is_walked a notes place table c = walked-is a table ∙ go (walk a 0 table).cut refl
  where
    go : (cut : Option ℕ) → (walk a 0 table).cut ≡ cut → walk a 0 table ≡ record { notes = notes; cut = Some place }
    go None h = absurd (c.none_fits (walk a 0 table).notes (rw (walked-is a table) at (walked_fits a table (walked-is-cut-none h))))
      where
        walked-is-cut-none : (walk a 0 table).cut ≡ None → (walked a table).cut ≡ None
        walked-is-cut-none k = rw (walked-is a table) k
    go (Some cut) h =
        let same = one-cut a (walk a 0 table).notes notes cut place table (walk-is-cut a table cut h) c in
        walk-of (walk a 0 table) notes (Some place) same.0 (h ∙ ap (λ (n : ℕ). Some n) same.1)

pub fits_or_is_cut : FitsOrIsCut
fits_or_is_cut a table = go (walked a table).cut refl
  where
    go : (cut : Option ℕ) → (walked a table).cut ≡ cut
        → ((notes : List Note) × Notes a notes table) ⊎ ((notes : List Note) × (place : ℕ) × CutAt a notes place table)
    go None h = inl ((walked a table).notes, walked_fits a table h)
    go (Some place) h = inr ((walked a table).notes, place, walked_is_cut a table place h)
