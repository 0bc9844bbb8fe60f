-- What is left of the dynamic entries of a table after a step.
use Rattle.std.proofs.lemmas.Bool.Decides.{nat_tests}
use Rattle.std.proofs.Common.{◌≡◌, ◌≢◌, ◌==◌, ℕ, suc, ◌+◌, ◌*◌, Bool, true, false, List, Option, None, Some, Ok, inr, refl, ap, sym, ◌∙◌, arith}
use Rattle.elf_model.specs.Prelude.{DT_NULL, d_tag, d_un, dynamic_count, dynamic_value, field, slice}
use Rattle.elf_model.proofs.DynamicLaws.{count-zero, count-null, count-more, value-none, value-here, value-more}
use Rattle.elf_model.proofs.Slices.{field-slice}
use Rattle.elf_table.specs.Prelude.{Advances, CursorState, GivesRow, TableRange, next_row}
use Rattle.elf_note.specs.DynCursors.{DynCursorState, AdvancesEntries, GivesEntry, EndsEntries, entries_left, first_value, value_here}

is-same : (x y : ℕ) → (x == y) ≡ true → x ≡ y
is-same x y t = grind (arith, nat_tests)

is-other : (x y : ℕ) → (x == y) ≡ false → x ≢ y
is-other x y t = grind (arith, nat_tests)

-- after the last entry none is left
pub left-ended : (file : List ℕ) (d : DynCursorState) → d.ended ≡ true → entries_left file d ≡ 0
left-ended file d e = rw e refl

-- otherwise those are left that the table has
left-more : (file : List ℕ) (d : DynCursorState) → d.ended ≡ false → entries_left file d ≡ dynamic_count file (next_row d.cursor) d.cursor.left
left-more file d e = rw e refl

-- after the last row none is left
left-none : (file : List ℕ) (d : DynCursorState) → d.ended ≡ false → d.cursor.left ≡ 0 → entries_left file d ≡ 0
left-none file d e z = left-more file d e ∙ ap (dynamic_count file (next_row d.cursor)) z ∙ count-zero file (next_row d.cursor)

-- the next entry follows the one that a step yields
pub next-place : (file : Option (List ℕ)) (old new : CursorState) → GivesRow file old new → old.table.entry ≡ 16 → next_row new ≡ next_row old + 16
next-place file old new g e =
    let next = g.next_index in
    let moved : old.table.at + new.index * 16 ≡ old.table.at + old.index * 16 + 16 = omega arith in
    ap (λ (t : TableRange). t.at + new.index * t.entry) g.same_table ∙ ap (λ (x : ℕ). old.table.at + new.index * x) e ∙ moved
    ∙ ap (λ (x : ℕ). old.table.at + old.index * x + 16) (sym e)

one-less : (file : List ℕ) (old new : DynCursorState) → old.ended ≡ false → new.ended ≡ (d_tag file (next_row old.cursor) == DT_NULL)
    → new.cursor.left + 1 ≡ old.cursor.left → next_row new.cursor ≡ next_row old.cursor + 16 → entries_left file old ≡ suc (entries_left file new)
one-less file old new e n l p =
    let more : old.cursor.left ≡ suc new.cursor.left = omega arith in
    left-more file old e ∙ ap (dynamic_count file (next_row old.cursor)) more ∙ go (d_tag file (next_row old.cursor) == DT_NULL) refl
  where
    go : (b : Bool) → (d_tag file (next_row old.cursor) == DT_NULL) ≡ b
        → dynamic_count file (next_row old.cursor) (suc new.cursor.left) ≡ suc (entries_left file new)
    go true t = count-null file (next_row old.cursor) new.cursor.left (is-same (d_tag file (next_row old.cursor)) DT_NULL t) ∙ ap suc (sym (left-ended file new (n ∙ t)))
    go false t =
        count-more file (next_row old.cursor) new.cursor.left (is-other (d_tag file (next_row old.cursor)) DT_NULL t)
        ∙ ap suc (ap (λ (x : ℕ). dynamic_count file x new.cursor.left) (sym p) ∙ sym (left-more file new (n ∙ t)))

-- a step over a row yields its entry
pub gives-entry : (file : Option (List ℕ)) (old new : DynCursorState) (b : Bool) → b ≡ true → Advances file old.cursor new.cursor (Ok b) → old.cursor.table.entry ≡ 16
    → old.ended ≡ false → new.ended ≡ (d_tag new.cursor.row 0 == DT_NULL) → GivesEntry file old new
gives-entry file old new false t s size e n = cc
gives-entry file old new true t s size e n = record {
  gives = s;
  not_ended = e;
  ends_with = n;
  one_less = λ bytes h a.
      let row : new.cursor.row ≡ slice bytes (next_row old.cursor) 16 = s.exact bytes h a ∙ ap (slice bytes (next_row old.cursor)) size in
      let here : next_row old.cursor + 0 ≡ next_row old.cursor = omega arith in
      let tag : d_tag new.cursor.row 0 ≡ d_tag bytes (next_row old.cursor) =
      ap (λ (x : List ℕ). field x 0 8) row ∙ field-slice bytes (next_row old.cursor) 16 0 8 (omega arith) ∙ ap (λ (x : ℕ). field bytes x 8) here in
      one-less bytes old new e (n ∙ ap (λ (x : ℕ). x == DT_NULL) tag) s.one_less (next-place file old.cursor new.cursor s size);
}

-- a step past the last row
pub ends-entries : (file : Option (List ℕ)) (old : DynCursorState) (later : CursorState) (b : Bool) → b ≡ false → Advances file old.cursor later (Ok b) → old.ended ≡ false
    → EndsEntries old (record { cursor = later; ended = old.ended })
ends-entries file old later true t s e = cc
ends-entries file old later false t s e = record {
  unchanged = ap (λ (x : CursorState). record { cursor = x; ended = old.ended }) s.unchanged;
  not_failed = s.not_failed;
  behind = inr s.none_left;
  none_left = λ bytes. left-none bytes old e s.none_left;
}

here-some : (file : List ℕ) (at tag : ℕ) → (d_tag file at == tag) ≡ true → value_here file at tag ≡ Some (d_un file at)
here-some file at tag t = rw (t, value_here) refl

here-none : (file : List ℕ) (at tag : ℕ) → (d_tag file at == tag) ≡ false → value_here file at tag ≡ None
here-none file at tag t = rw (t, value_here) refl

-- the value of the first entry is its own, or that of those after it
value-suc : (file : List ℕ) (at n tag : ℕ) → first_value (value_here file at tag) (dynamic_value file (at + 16) n tag) ≡ dynamic_value file at (suc n) tag
value-suc file at n tag = go (d_tag file at == tag) refl
  where
    go : (b : Bool) → (d_tag file at == tag) ≡ b → first_value (value_here file at tag) (dynamic_value file (at + 16) n tag) ≡ dynamic_value file at (suc n) tag
    go true t = ap (λ (x : Option ℕ). first_value x (dynamic_value file (at + 16) n tag)) (here-some file at tag t) ∙ sym (value-here file at n tag (is-same (d_tag file at) tag t))
    go false t = ap (λ (x : Option ℕ). first_value x (dynamic_value file (at + 16) n tag)) (here-none file at tag t) ∙ sym (value-more file at n tag (is-other (d_tag file at) tag t))

-- a value that is searched in the entry that a step yields, and then in those that are left
pub value-step : (file : List ℕ) (old new : DynCursorState) (tag : ℕ) (found : Option ℕ) → entries_left file old ≡ suc (entries_left file new)
    → next_row new.cursor ≡ next_row old.cursor + 16
    → first_value (first_value found (value_here file (next_row old.cursor) tag)) (dynamic_value file (next_row new.cursor) (entries_left file new) tag)
    ≡ first_value found (dynamic_value file (next_row old.cursor) (entries_left file old) tag)
value-step file old new tag (Some value) less next = refl
value-step file old new tag None less next =
    ap (λ (x : ℕ). first_value (value_here file (next_row old.cursor) tag) (dynamic_value file x (entries_left file new) tag)) next
    ∙ value-suc file (next_row old.cursor) (entries_left file new) tag
    ∙ ap (λ (n : ℕ). dynamic_value file (next_row old.cursor) n tag) (sym less)

-- if no entry is left, a value is the one found before
pub value-end : (file : List ℕ) (d : DynCursorState) (tag : ℕ) (found : Option ℕ) → entries_left file d ≡ 0
    → first_value found (dynamic_value file (next_row d.cursor) (entries_left file d) tag) ≡ found
value-end file d tag (Some value) z = refl
value-end file d tag None z = ap (λ (n : ℕ). dynamic_value file (next_row d.cursor) n tag) z ∙ value-none file (next_row d.cursor) tag

-- a step that returned `true` yielded an entry
pub given : (file : Option (List ℕ)) (old new : DynCursorState) (b : Bool) → b ≡ true → AdvancesEntries file old new (Ok b) → GivesEntry file old new
given file old new true t s = s
given file old new false t s = cc

-- a step that returned `false` ended
pub ended : (file : Option (List ℕ)) (old new : DynCursorState) (b : Bool) → b ≡ false → AdvancesEntries file old new (Ok b) → EndsEntries old new
ended file old new false t s = s
ended file old new true t s = cc
