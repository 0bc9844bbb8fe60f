-- The result for symbols, one after another.
use Rattle.std.proofs.Common.{◌≡◌, ℕ, zero, suc, ◌+◌, ◌<◌, ◌==◌, Bool, List, [], length, take, Result, Ok, Err, refl, sym, ap, subst, ◌∙◌, arith}
use Rattle.elf_model.specs.Prelude.{Cut, DisplayedName, DynamicSymbols, SymbolTraitFlags, marked_by, marked_with_symbol, marks_from, shown, slice, st_name, st_shndx, symbol_offset}
use Rattle.elf_model.proofs.NameLemmas.{View, is_cut, is_empty, is_outside, is_unended, is_whole, view}
use Rattle.elf_model.specs.declared.causes.Cause.{Cause}
use Rattle.elf_model.specs.declared.causes.Refusal.{Refusal}
use Rattle.elf_model.specs.Names.DisplayedName.{Whole}
use Rattle.elf_table.specs.Prelude.{IsAt, IsOfRead, Refuses}
use Rattle.elf_table.specs.declared.fault.Fault.{Fault}
use Rattle.elf_table.specs.declared.fault.Fault.TheVariants.{Refused, Source}
use Rattle.elf_loader.specs.Prelude.{AddsNone, ReturnsMarks, marks_in, marks_with, symbol_traits_of}
use Rattle.elf_loader.specs.declared.symbol_traits.SymbolTraits.{SymbolTraits}

module _ (file strings : List ℕ) where
  pub in_none : (at : ℕ) (marks : SymbolTraitFlags) → marks_in file at strings marks 0 ≡ Ok marks
  unfolding marks_in
  in_none at marks = refl

  pub in_more : (at n : ℕ) (marks more : SymbolTraitFlags) → marks_with file at strings marks ≡ Ok more → marks_in file at strings marks (suc n) ≡ marks_in file (at + 24) strings more n
  unfolding marks_in
  in_more at n marks more e = rw (e, marks_in) refl

  pub in_fails : (at n : ℕ) (marks : SymbolTraitFlags) (refusal : Refusal) → marks_with file at strings marks ≡ Err refusal → marks_in file at strings marks (suc n) ≡ Err refusal
  unfolding marks_in
  in_fails at n marks refusal e = rw (e, marks_in) refl

module _ (file : List ℕ) (symbols : DynamicSymbols) where
  from_none : (marks : SymbolTraitFlags) (index : ℕ) → marks_from file symbols marks index 0 ≡ Ok marks
  unfolding marks_from
  from_none marks index = refl

  from_more : (marks : SymbolTraitFlags) (index n : ℕ) (name : DisplayedName) → shown symbols.strings (st_name file (symbol_offset symbols index)) 63 ≡ Ok name
      → marks_from file symbols marks index (suc n) ≡ marks_from file symbols (marked_with_symbol file (symbol_offset symbols index) marks name) (suc index) n
  unfolding marks_from
  from_more marks index n name e = rw (e, marks_from) refl

  from_fails : (marks : SymbolTraitFlags) (index n : ℕ) (cause : Cause) → shown symbols.strings (st_name file (symbol_offset symbols index)) 63 ≡ Err cause
      → marks_from file symbols marks index (suc n) ≡ Err (record { at = symbol_offset symbols index; cause = cause })
  unfolding marks_from
  from_fails marks index n cause e = rw (e, marks_from) refl

  with_more : (at : ℕ) (marks : SymbolTraitFlags) (name : DisplayedName) → shown symbols.strings (st_name file at) 63 ≡ Ok name
      → marks_with file at symbols.strings marks ≡ Ok (marked_with_symbol file at marks name)
  with_more at marks name e = rw (e, marks_with) refl

  with_fails : (at : ℕ) (marks : SymbolTraitFlags) (cause : Cause) → shown symbols.strings (st_name file at) 63 ≡ Err cause
      → marks_with file at symbols.strings marks ≡ Err (record { at = at; cause = cause })
  with_fails at marks cause e = rw (e, marks_with) refl

  -- the rows at and after a symbol are the symbols at and after its index
  pub rows_are : (count index : ℕ) (marks : SymbolTraitFlags) → marks_in file (symbol_offset symbols index) symbols.strings marks count ≡ marks_from file symbols marks index count
  rows_are zero index marks = in_none file symbols.strings (symbol_offset symbols index) marks ∙ sym (from_none marks index)
  rows_are (suc count) index marks = go (λ next. rows_are count (suc index) next) (shown symbols.strings (st_name file (symbol_offset symbols index)) 63) refl
    where
      go : ((next : SymbolTraitFlags) → marks_in file (symbol_offset symbols (suc index)) symbols.strings next count ≡ marks_from file symbols next (suc index) count)
          → (name : Result DisplayedName Cause) → shown symbols.strings (st_name file (symbol_offset symbols index)) 63 ≡ name
          → marks_in file (symbol_offset symbols index) symbols.strings marks (suc count) ≡ marks_from file symbols marks index (suc count)
      go more (Err cause) e =
          in_fails file symbols.strings (symbol_offset symbols index) count marks _ (with_fails (symbol_offset symbols index) marks cause e) ∙ sym (from_fails marks index count cause e)
      go more (Ok name) e =
          let at = symbol_offset symbols index in
          let next = marked_with_symbol file at marks name in
          let on : at + 24 ≡ symbol_offset symbols (suc index) = omega arith in
          in_more file symbols.strings at count marks next (with_more at marks name e)
          ∙ (ap (λ n. marks_in file n symbols.strings next count) on ∙ (more next ∙ sym (from_more marks index count name e)))

-- the result for a symbol by what is read of its name
module _ (file strings : List ℕ) (at : ℕ) (marks : SymbolTraits) where
  pub with_whole : (name : List ℕ) (undefined : Bool) (result : SymbolTraits) → shown strings (st_name file at) 63 ≡ Ok (Whole name) → undefined ≡ (st_shndx file at == 0)
      → symbol_traits_of result ≡ marked_by (symbol_traits_of marks) name undefined → ReturnsMarks (marks_with file at strings (symbol_traits_of marks)) (Ok result)
  with_whole name undefined result e u is =
      let told : marks_with file at strings (symbol_traits_of marks) ≡ Ok (marked_by (symbol_traits_of marks) name (st_shndx file at == 0)) = rw (e, marks_with) refl in
      told ∙ ap (λ (m : SymbolTraitFlags). Ok m) (ap (marked_by (symbol_traits_of marks) name) (sym u) ∙ sym is)

  pub with_cut : (front : List ℕ) → shown strings (st_name file at) 63 ≡ Ok (Cut front) → ReturnsMarks (marks_with file at strings (symbol_traits_of marks)) (Ok marks)
  with_cut front e = rw (e, marks_with) refl

  pub with_fault : (fault : Fault) → Refuses at fault (shown strings (st_name file at) 63) → ReturnsMarks (marks_with file at strings (symbol_traits_of marks)) (Err fault)
  with_fault (Refused refusal) refuses = λ other.
      let r = refuses other in
      let told : marks_with file at strings (symbol_traits_of marks) ≡ Err (record { at = at; cause = refusal.cause }) = rw (r.1, marks_with) refl in
      told ∙ ap (λ (n : ℕ). Err (record { at = n; cause = refusal.cause })) (sym r.0)
  with_fault (Source fault offset) refuses = tt

  -- its name isn't read: wherever it ends, it has no fault and adds none
  pub with_none : st_name file at + 63 < length strings → AddsNone (symbol_traits_of marks) (st_shndx file at == 0)
      → ReturnsMarks (marks_with file at strings (symbol_traits_of marks)) (Ok marks)
  with_none inside adds = go (view strings (st_name file at) 63)
    where
      go : View strings (st_name file at) 63 → ReturnsMarks (marks_with file at strings (symbol_traits_of marks)) (Ok marks)
      go (is_empty h e) = with_whole [] (st_shndx file at == 0) marks e refl (sym (adds []))
      go (is_whole place h nul e) = with_whole (take place (slice strings (st_name file at) 64)) (st_shndx file at == 0) marks e refl (sym (adds (take place (slice strings (st_name file at) 64))))
      go (is_cut h nul e) = with_cut (slice strings (st_name file at) 63) e
      go (is_outside h e) = absurd (omega (arith, h.0, inside))
      go (is_unended h few nul e) = absurd (omega (arith, few, inside))

-- A LOOP over symbols: the result for those that are left
module _ (file strings : List ℕ) (at n left : ℕ) (marks : SymbolTraits) (some : left ≡ suc n) where
  pub mark_more : (there : ℕ) → there ≡ at → (more : SymbolTraits) (next : ℕ) → next ≡ at + 24 → ReturnsMarks (marks_with file there strings (symbol_traits_of marks)) (Ok more)
      → marks_in file at strings (symbol_traits_of marks) left ≡ marks_in file next strings (symbol_traits_of more) n
  mark_more there same more next on tells =
      let here = sym (ap (λ (k : ℕ). marks_with file k strings (symbol_traits_of marks)) same) ∙ tells in
      ap (marks_in file at strings (symbol_traits_of marks)) some
      ∙ (in_more file strings at n (symbol_traits_of marks) (symbol_traits_of more) here ∙ ap (λ (k : ℕ). marks_in file k strings (symbol_traits_of more) n) (sym on))

  pub mark_stops : (whole : Result SymbolTraitFlags Refusal) → whole ≡ marks_in file at strings (symbol_traits_of marks) left → (there : ℕ) → there ≡ at → (fault : Fault)
      → ReturnsMarks (marks_with file there strings (symbol_traits_of marks)) (Err fault) → ReturnsMarks whole (Err fault)
  mark_stops whole from_here there same (Refused refusal) tells = λ other.
      let here = sym (ap (λ (k : ℕ). marks_with file k strings (symbol_traits_of marks)) same) ∙ tells other in
      from_here ∙ (ap (marks_in file at strings (symbol_traits_of marks)) some ∙ in_fails file strings at n (symbol_traits_of marks) refusal here)
  mark_stops whole from_here there same (Source fault offset) tells = tt

pub mark_none : (file strings : List ℕ) (at left : ℕ) (marks : SymbolTraitFlags) → left ≡ 0 → marks_in file at strings marks left ≡ Ok marks
mark_none file strings at left marks none = ap (marks_in file at strings marks) none ∙ in_none file strings at marks

-- traits in other terms, and a fault of a read
pub marks_as : (told other : Result SymbolTraitFlags Refusal) (result : Result SymbolTraits Fault) → told ≡ other → ReturnsMarks told result → ReturnsMarks other result
marks_as told other result same tells = subst (λ t. ReturnsMarks t result) same tells

pub read_symbol_traits : (told : Result SymbolTraitFlags Refusal) (fault : Fault) → IsOfRead fault → ReturnsMarks told (Err fault)
read_symbol_traits told (Refused refusal) budget = λ other. absurd (other budget)
read_symbol_traits told (Source fault at) budget = tt

pub at_is_read : (fault : Fault) (at : ℕ) → IsAt at fault → IsOfRead fault
at_is_read (Refused refusal) at is = rw is refl
at_is_read (Source fault offset) at is = tt

-- the symbols except the first, as rows of a table
pub rows_from : (file : List ℕ) (symbols : DynamicSymbols) (at n : ℕ) (strings : List ℕ) (marks none : SymbolTraitFlags) → at ≡ symbols.place + 24 → strings ≡ symbols.strings → marks ≡ none
    → marks_in file at strings marks n ≡ marks_from file symbols none 1 n
rows_from file symbols at n strings marks none place same is =
    let here : at ≡ symbol_offset symbols 1 = omega (arith, place) in
    ap (λ (k : ℕ). marks_in file k strings marks n) here
    ∙ (ap (λ (s : List ℕ). marks_in file (symbol_offset symbols 1) s marks n) same
    ∙ (ap (λ (m : SymbolTraitFlags). marks_in file (symbol_offset symbols 1) symbols.strings m n) is ∙ rows_are file symbols n 1 none))

pub no_rows : (file : List ℕ) (symbols : DynamicSymbols) (n : ℕ) (marks : SymbolTraitFlags) → n ≡ 0 → marks_from file symbols marks 1 n ≡ Ok marks
no_rows file symbols n marks none = ap (marks_from file symbols marks 1) none ∙ from_none file symbols marks 1
