-- The number of rows of symbol versions.
use Rattle.std.proofs.Common.{◌≡◌, ℕ, zero, suc, ◌+◌, ◌<◌, ◌≤◌, min, nat_lt, true, false, List, [], ◌++◌, length, length-append, Option, None, Some, Result, Ok, Err, refl, ap, ◌∙◌, arith, inl, inr}
use Rattle.std.proofs.lemmas.Bool.{cases_Bool}
use Rattle.std.proofs.lemmas.Bool.Decides.{nat_tests}
use Rattle.elf_model.specs.Prelude.{DisplayedName, EveryRow, LinePrefix, ListingItem, ListingStyle, RowFilter, RowsAreSymbols, RowsOf, VERSYM_SIZE, VisitedRecord, chosen_row, each, entry_count, is_placed, narrowed, no_name, numbered_row, place_of_record, placed_choice, refused_row, symbol_version_row, symbol_version_rows, version_named, versioned_count, versioned_symbols}
use Rattle.elf_model.proofs.PlaceLaws.{every_place_is_shown}
use Rattle.elf_model.specs.declared.causes.Cause.{Cause}
use Rattle.elf_model.specs.declared.causes.Cause.TheVariants.{VersionCut}

-- if every row is shown, a row with a name is one member
chosen-one : (choice : RowFilter) (front : LinePrefix) (at : ℕ) (name : Result DisplayedName Cause) → choice ≡ EveryRow
    → length (chosen_row choice front at name) ≡ 1
chosen-one EveryRow front at (Ok name) every = refl
chosen-one EveryRow front at (Err cause) every = refl
chosen-one (RowsOf names) front at name every = cc

-- and so is the row of a version index
numbered-one :
    (file : List ℕ) (style : ListingStyle) (front : LinePrefix) (entry number : ℕ) → style.choice ≡ EveryRow → is_placed style.place ≡ false
    → length (numbered_row file style front entry number) ≡ 1
unfolding numbered_row
numbered-one file style front entry number every anywhere =
    elim (cases_Bool (nat_lt number 2)) [
      | inl few ↦ rw few (chosen-one (here entry) front entry no_name (all_here entry))
      | inr many ↦ go many (version_named file number) refl
    ]
  where
    here : ℕ → RowFilter
    here entry = placed_choice style (place_of_record entry 2) style.choice

    all_here : (entry : ℕ) → here entry ≡ EveryRow
    all_here entry = ap (λ shown. narrowed shown style.choice) (every_place_is_shown style.place (place_of_record entry 2) anywhere) ∙ every

    go : nat_lt number 2 ≡ false → (named : Option VisitedRecord) → version_named file number ≡ named
        → length (numbered_row file style front entry number) ≡ 1
    go many None same = rw (many, same) refl
    go many (Some met) same = rw (many, same) (chosen-one (here entry) front _ _ (all_here entry))

-- as many rows as there are entries, if each is one member
each-one :
    (row : ℕ → List ListingItem) → ((i : ℕ) → length (row i) ≡ 1) → (first count : ℕ) → length (each row first count) ≡ count
unfolding each
each-one row one first zero = refl
each-one row one first (suc count) =
    length-append (row first) (each row (suc first) count)
    ∙ (let here = one first in let more = each-one row one (suc first) count in omega arith)

-- as many rows as the smaller of two numbers, and one more if that is the first
one-more : (rows last : List ListingItem) (a b : ℕ) → length rows ≡ min a b → length last ≡ 1 → nat_lt a b ≡ true → length (rows ++ last) ≡ a + 1
one-more rows last a b n one few = let l = length-append rows last in let t : a < b = grind (arith, nat_tests) in omega arith

no-more : (rows : List ListingItem) (a b : ℕ) → length rows ≡ min a b → nat_lt a b ≡ false → length (rows ++ []) ≡ b
no-more rows a b n many = let l = length-append rows [] in let t : b ≤ a = grind (arith, nat_tests) in omega arith

pub rows_are_symbols : RowsAreSymbols
unfolding symbol_version_rows symbol_version_row
rows_are_symbols file style section at every anywhere some =
    let rows = each (symbol_version_row file style section at) 0 (versioned_count file at) in
    let counted : length rows ≡ versioned_count file at =
    each-one (symbol_version_row file style section at) (λ i. numbered-one file style _ _ _ every anywhere) 0 (versioned_count file at) in
    elim (cases_Bool (nat_lt (entry_count file at VERSYM_SIZE) (versioned_symbols file at))) [
      | inl few ↦
          rw (some, few) (one-more rows (refused_row at VersionCut) (entry_count file at VERSYM_SIZE) (versioned_symbols file at) counted refl few)
      | inr many ↦ rw (some, many) (no-more rows (entry_count file at VERSYM_SIZE) (versioned_symbols file at) counted many)
    ]
