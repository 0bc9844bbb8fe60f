-- The dynamic entries that were found so far, and the check of the next.
use Rattle.std.proofs.Common.{◌≡◌, ℕ, zero, suc, ◌+◌, ◌/◌, ◌<◌, ◌==◌, ◌&&◌, ◌||◌, Bool, true, false, List, [], ◌∷◌, length, map, Option, None, Some, refl, sym, ap, subst, ◌∙◌, arith}
use Rattle.std.specs.Prelude.{is_some, option_map}
use Rattle.std.specs.List.{list_any}
use Rattle.std.proofs.lemmas.Bool.{eq-eqb, eqb-true, ne_eqb}
use Rattle.elf_model.specs.Apply.{places_from}
use Rattle.elf_model.specs.Checks.{Check, first_refusal, refuse}
use Rattle.elf_model.specs.ImageChecks.{image_tags, is_repeated, repeat_checks}
use Rattle.elf_model.specs.LoaderScope.{tagged_row}
use Rattle.elf_model.specs.Prelude.{d_tag, dynamic_at, dynamic_count, p_filesz, p_offset}
use Rattle.elf_model.specs.declared.causes.Cause.TheVariants.{Repeat}
use Rattle.elf_table.specs.Tables.{TableRange}
use Rattle.elf_hash.specs.Prelude.{dynamic_entry_at, entry_here, first_entry, listed_entry, tagged_entry}
use Rattle.elf_hash.specs.declared.dyn_entry.DynEntry.{DynEntry}
use Rattle.elf_hash.proofs.EntryLaws.{entry_end, entry_step, listed_is, tagged_here}
use Rattle.elf_hash.proofs.SegmentLaws.{row_some}
use Rattle.elf_image.specs.Located.{AreImageRows, found_rows, is_image_tag, row_in, rows_with}
use Rattle.elf_image.specs.declared.dynamic_rows.ImageRows.{ImageRows}

-- a tag is one of those of some entries
abbrev has_tag : List (ℕ × Option DynEntry) → ℕ → Bool
has_tag rows tag = list_any (λ wanted. wanted == tag) (map (λ found. found.0) rows)

-- no other has an entry
absent : (rows : List (ℕ × Option DynEntry)) (tag : ℕ) → has_tag rows tag ≡ false → row_in rows tag ≡ None
unfolding row_in
absent [] tag none = refl
absent (found ∷ rows) tag none = go (absent rows tag) (tag == found.0) refl none
  where
    go : (has_tag rows tag ≡ false → row_in rows tag ≡ None) → (b : Bool) → (tag == found.0) ≡ b → ((found.0 == tag) || has_tag rows tag) ≡ false → row_in (found ∷ rows) tag ≡ None
    go rest true t none =
        let here = eq-eqb found.0 tag (sym (eqb-true tag found.0 t)) in
        absurd (let f : true ≡ false = rw here at none in cc)
    go rest false t none = rw (t, row_in) (rest (or_false (found.0 == tag) (has_tag rows tag) none))
      where
        or_false : (a b : Bool) → (a || b) ≡ false → b ≡ false
        or_false true b f = cc
        or_false false b f = f

-- one more entry
taken : (file : List ℕ) (at tag : ℕ) (rows : List (ℕ × Option DynEntry)) → has_tag rows tag ≡ true
    → row_in (rows_with file at rows) tag ≡ first_entry (row_in rows tag) (entry_here file at tag)
unfolding row_in rows_with
taken file at tag [] some = cc
taken file at tag (found ∷ rows) some = go (taken file at tag rows) (tag == found.0) refl some
  where
    go : (has_tag rows tag ≡ true → row_in (rows_with file at rows) tag ≡ first_entry (row_in rows tag) (entry_here file at tag)) → (b : Bool) → (tag == found.0) ≡ b
        → ((found.0 == tag) || has_tag rows tag) ≡ true → row_in (rows_with file at (found ∷ rows)) tag ≡ first_entry (row_in (found ∷ rows) tag) (entry_here file at tag)
    go rest true t some =
        let same : found.0 ≡ tag = sym (eqb-true tag found.0 t) in
        rw (t, row_in, rows_with) (ap (λ (x : ℕ). first_entry found.1 (entry_here file at x)) same)
    go rest false t some =
        let other : (found.0 == tag) ≡ false = ne_eqb found.0 tag (λ same. absurd (let e : true ≡ false = sym (eq-eqb tag found.0 (sym same)) ∙ t in cc)) in
        rw (t, row_in, rows_with) (rest (rw other at some))

-- the tags of the entries of an image
tags_are : (rows : ImageRows) (tag : ℕ) → has_tag (found_rows rows) tag ≡ is_image_tag tag
unfolding image_tags
tags_are rows tag = refl

-- WHAT WAS FOUND before an offset, with this many entries left of a table
pub record RowsSoFar (file : List ℕ) (table : TableRange) (next left : ℕ) (rows : ImageRows) : Type 0 where
  pub held : (tag : ℕ) → is_image_tag tag ≡ true → first_entry (row_in (found_rows rows) tag) (tagged_entry file next left tag) ≡ listed_entry file table tag
  pub before : (tag : ℕ) (entry : DynEntry) → row_in (found_rows rows) tag ≡ Some entry → entry.at < next
  pub place : next ≡ dynamic_at table.at rows.count
  pub count : rows.count + left ≡ dynamic_count file table.at table.count

pub rows_start : (file : List ℕ) (table : TableRange) (next left : ℕ) (rows : ImageRows) → next ≡ table.at → left ≡ dynamic_count file table.at table.count → rows.count ≡ 0
    → ((tag : ℕ) → row_in (found_rows rows) tag ≡ None) → RowsSoFar file table next left rows
rows_start file table next left rows here all start none = record {
  held = λ tag is. rw (none tag, here, all) refl;
  before = λ tag entry some. absurd (let e : None ≡ Some entry = sym (none tag) ∙ some in cc);
  place = omega (arith, here, start);
  count = omega (arith, all, start);
}

module _ (file : List ℕ) (table : TableRange) (next left : ℕ) (rows : ImageRows) (so : RowsSoFar file table next (suc left) rows) where
  -- one more
  pub rows_step : (later : ℕ) (new : ImageRows) → later ≡ next + 16 → new.count ≡ rows.count + 1 → found_rows new ≡ rows_with file next (found_rows rows)
      → RowsSoFar file table later left new
  rows_step later new there count are = record {
    held = λ tag is.
        let more = ap (λ (r : List (ℕ × Option DynEntry)). row_in r tag) are ∙ taken file next tag (found_rows rows) (tags_are rows tag ∙ is) in
        ap (λ (x : Option DynEntry). first_entry x (tagged_entry file later left tag)) more
        ∙ (entry_step file tag next left (suc left) later (row_in (found_rows rows) tag) refl there ∙ so.held tag is);
    before = λ tag entry some. earlier tag entry some;
    place = omega (arith, there, count, so.place);
    count = omega (arith, count, so.count);
  }
    where
      here_at : (tag : ℕ) (entry : DynEntry) → (b : Bool) → (d_tag file next == tag) ≡ b → entry_here file next tag ≡ Some entry → entry.at ≡ next
      here_at tag entry true t e = let s : Some (dynamic_entry_at file next) ≡ Some entry = rw (t, entry_here) at e in let i : dynamic_entry_at file next ≡ entry = cc in sym (ap (λ (x : DynEntry). x.at) i)
      here_at tag entry false t e = absurd (let s : None ≡ Some entry = rw (t, entry_here) at e in cc)

      by_found : (tag : ℕ) (entry : DynEntry) → (old : Option DynEntry) → row_in (found_rows rows) tag ≡ old → first_entry old (entry_here file next tag) ≡ Some entry → entry.at < later
      by_found tag entry (Some found) is e =
          let same : found ≡ entry = cc in
          let low = so.before tag found is in
          let at : found.at ≡ entry.at = ap (λ (x : DynEntry). x.at) same in
          omega (arith, low, at, there)
      by_found tag entry None is e = let at = here_at tag entry (d_tag file next == tag) refl e in omega (arith, at, there)

      earlier : (tag : ℕ) (entry : DynEntry) → row_in (found_rows new) tag ≡ Some entry → entry.at < later
      earlier tag entry some = go (is_image_tag tag) refl
        where
          go : (b : Bool) → is_image_tag tag ≡ b → entry.at < later
          go true is =
              let more = ap (λ (r : List (ℕ × Option DynEntry)). row_in r tag) are ∙ taken file next tag (found_rows rows) (tags_are rows tag ∙ is) in
              by_found tag entry (row_in (found_rows rows) tag) refl (sym more ∙ some)
          go false is = absurd (let e : None ≡ Some entry = sym (absent (found_rows new) tag (tags_are new tag ∙ is)) ∙ some in cc)

  -- THE CHECK OF THE NEXT ENTRY: one that was found before has its tag
  module _ (at : ℕ) (base : table.at ≡ p_offset file at) (whole : table.count ≡ p_filesz file at / 16) where
    listed : (tag : ℕ) → is_image_tag tag ≡ true → first_entry (row_in (found_rows rows) tag) (tagged_entry file next (suc left) tag) ≡ option_map (dynamic_entry_at file) (tagged_row file at tag)
    listed tag is = so.held tag is ∙ listed_is file tag at table base whole

    repeated : (found : Option DynEntry) → is_image_tag (d_tag file next) ≡ true → row_in (found_rows rows) (d_tag file next) ≡ found → is_repeated file at next ≡ is_some found
    repeated None is e =
        let tag = d_tag file next in
        let self = tagged_here file tag next left (eq-eqb tag tag refl) in
        let here : Some (dynamic_entry_at file next) ≡ option_map (dynamic_entry_at file) (tagged_row file at tag) = sym self ∙ (sym (ap (λ (x : Option DynEntry). first_entry x (tagged_entry file next (suc left) tag)) e) ∙ listed tag is) in
        let row = row_some file (tagged_row file at tag) (dynamic_entry_at file next) here in
        rw (row.0, is_repeated) (rw (eq-eqb next next refl) refl)
    repeated (Some entry) is e =
        let tag = d_tag file next in
        let here : Some entry ≡ option_map (dynamic_entry_at file) (tagged_row file at tag) = sym (ap (λ (x : Option DynEntry). first_entry x (tagged_entry file next (suc left) tag)) e) ∙ listed tag is in
        let row = row_some file (tagged_row file at tag) entry here in
        let low = so.before tag entry e in
        rw (row.0, is_repeated) (rw (ne_eqb entry.at next (λ same. omega (arith, low, same))) refl)

    pub check_fails : (is_image_tag (d_tag file next) && is_repeated file at next) ≡ is_some (row_in (found_rows rows) (d_tag file next))
    check_fails = go (is_image_tag (d_tag file next)) refl
      where
        go : (b : Bool) → is_image_tag (d_tag file next) ≡ b → (is_image_tag (d_tag file next) && is_repeated file at next) ≡ is_some (row_in (found_rows rows) (d_tag file next))
        go true is = rw is (repeated (row_in (found_rows rows) (d_tag file next)) is refl)
        go false is = rw (is, absent (found_rows rows) (d_tag file next) (tags_are rows (d_tag file next) ∙ is)) refl

-- THE CHECKS of entries from one on
abbrev pub checks_left : (file : List ℕ) (at base index left : ℕ) → List Check
checks_left file at base index left =
    map (λ row. refuse (list_any (λ tag. tag == d_tag file row) image_tags && is_repeated file at row) row Repeat) (places_from (dynamic_at base) index left)

pub checks_step : (file : List ℕ) (at base index left : ℕ) → (is_image_tag (d_tag file (dynamic_at base index)) && is_repeated file at (dynamic_at base index)) ≡ false
    → first_refusal (checks_left file at base index (suc left)) ≡ first_refusal (checks_left file at base (suc index) left)
unfolding places_from
checks_step file at base index left passes = rw (passes, places_from) refl

pub checks_stop : (file : List ℕ) (at base index left : ℕ) → (is_image_tag (d_tag file (dynamic_at base index)) && is_repeated file at (dynamic_at base index)) ≡ true
    → first_refusal (checks_left file at base index (suc left)) ≡ Some (record { at = dynamic_at base index; cause = Repeat })
unfolding places_from
checks_stop file at base index left fails = rw (fails, places_from) refl

pub checks_none : (file : List ℕ) (at base index : ℕ) → first_refusal (checks_left file at base index 0) ≡ None
unfolding places_from
checks_none file at base index = refl

pub checks_all : (file : List ℕ) (at : ℕ) → first_refusal (checks_left file at (p_offset file at) 0 (dynamic_count file (p_offset file at) (p_filesz file at / 16))) ≡ first_refusal (repeat_checks file at)
unfolding repeat_checks
checks_all file at = refl

-- the checks go on after the next entry, or stop there
module _ (file : List ℕ) (table : TableRange) (next left : ℕ) (rows : ImageRows) (so : RowsSoFar file table next (suc left) rows) (at : ℕ) (base : table.at ≡ p_offset file at)
    (whole : table.count ≡ p_filesz file at / 16) (index : ℕ) (read : rows.count ≡ index) where
  here : next ≡ dynamic_at (p_offset file at) index
  here = omega (arith, so.place, base, read)

  fails_here : (is_image_tag (d_tag file (dynamic_at (p_offset file at) index)) && is_repeated file at (dynamic_at (p_offset file at) index)) ≡ is_some (row_in (found_rows rows) (d_tag file next))
  fails_here = subst (λ (row : ℕ). (is_image_tag (d_tag file row) && is_repeated file at row) ≡ is_some (row_in (found_rows rows) (d_tag file next))) here (check_fails file table next left rows so at base whole)

  pub checked_step : (later : ℕ) → later ≡ index + 1 → is_some (row_in (found_rows rows) (d_tag file next)) ≡ false
      → first_refusal (checks_left file at (p_offset file at) later left) ≡ first_refusal (checks_left file at (p_offset file at) index (suc left))
  checked_step later is other =
      let after : later ≡ suc index = omega (arith, is) in
      ap (λ (i : ℕ). first_refusal (checks_left file at (p_offset file at) i left)) after ∙ sym (checks_step file at (p_offset file at) index left (fails_here ∙ other))

  pub checked_stop : is_some (row_in (found_rows rows) (d_tag file next)) ≡ true
      → first_refusal (checks_left file at (p_offset file at) index (suc left)) ≡ Some (record { at = next; cause = Repeat })
  checked_stop same =
      checks_stop file at (p_offset file at) index left (fails_here ∙ same) ∙ ap (λ (row : ℕ). Some (record { at = row; cause = Repeat })) (sym here)

-- no entry has been found
pub empty_in : (tags : List ℕ) (tag : ℕ) → row_in (map (λ wanted. (wanted, None)) tags) tag ≡ None
unfolding row_in
empty_in [] tag = refl
empty_in (wanted ∷ tags) tag = go (empty_in tags tag) (tag == wanted) refl
  where
    go : row_in (map (λ wanted. (wanted, None)) tags) tag ≡ None → (b : Bool) → (tag == wanted) ≡ b → row_in (map (λ wanted. (wanted, None)) (wanted ∷ tags)) tag ≡ None
    go rest true t = rw (t, row_in) refl
    go rest false t = rw (t, row_in) rest

length_places : (f : ℕ → ℕ) (i n : ℕ) → length (places_from f i n) ≡ n
unfolding places_from
length_places f i zero = refl
length_places f i (suc n) = ap suc (length_places f (suc i) n)

-- THE ENTRIES after the last
pub rows_end : (file : List ℕ) (table : TableRange) (next left : ℕ) (rows : ImageRows) → RowsSoFar file table next left rows → left ≡ 0 → (at : ℕ) → table.at ≡ p_offset file at
    → table.count ≡ p_filesz file at / 16 → AreImageRows file at rows
rows_end file table next left rows so none at base whole = record {
  held = λ tag is. sym (entry_end file tag next left (row_in (found_rows rows) tag) none) ∙ (so.held tag is ∙ listed_is file tag at table base whole);
  count =
      let all : rows.count ≡ dynamic_count file table.at table.count = omega (arith, so.count, none) in
      all ∙ (rw (base, whole) (sym (length_places (dynamic_at (p_offset file at)) 0 (dynamic_count file (p_offset file at) (p_filesz file at / 16)))));
}
