-- What the checks of symbol versions imply.
use Rattle.std.proofs.Common.{◌≡◌, ℕ, ◌<◌, ◌/◌, ◌==◌, ◌&&◌, ◌||◌, not, Bool, true, false, inl, inr, List, [], ◌∷◌, ◌++◌, None, Some, Result, Ok, Err, IfOk, refl, sym, ap, ◌∙◌, arith}
use Rattle.std.proofs.lemmas.Bool.{cases_Bool, lt-ltb, ne_eqb}
use Rattle.elf_model.specs.Prelude.{Check, SHT_STRTAB, all_checks, first_refusal, has_strings, has_symbols, held_headers, is_outside, linked_at, links, pass, refuse, sh_link, sh_offset, sh_size, sh_type, symbol_versions, symbols_checks, table_checks, table_checks_of}
use Rattle.elf_model.specs.declared.causes.Cause.TheVariants.{BadLink, NotStrings, TableOutside}
use Rattle.elf_model.proofs.CheckSteps.{first_refusal-none, first_refusal-some}
use Rattle.elf_model.proofs.StoreLemmas.{places_decide_nothing}
use Rattle.std.specs.Prelude.{is_none}
use Rattle.elf_table.specs.Prelude.{AreVersioned, RefusedBy, StringTableRange, TableRange, checked, rows, string_table_of, strings, symbols_at, table_at, table_of}
use Rattle.elf_table.specs.declared.fault.Fault.{Fault}
use Rattle.elf_table.specs.declared.fault.Fault.TheVariants.{Refused, Source}
use Rattle.elf_table.proofs.RelocationLaws.{passed_first, symbols-fail, symbols-pass, table-fails}

-- a section that is returned as a string table is one
pub strings-are : (bytes : List ℕ) (at size place : ℕ) (names : StringTableRange) → string_table_of bytes at size place ≡ Ok names
    → (sh_type bytes at == SHT_STRTAB && not (is_outside size (sh_offset bytes at) (sh_size bytes at))) ≡ true
strings-are bytes at size place names h = by_cases (sh_type bytes at == SHT_STRTAB) (is_outside size (sh_offset bytes at) (sh_size bytes at)) h
  where
    by_cases : (is outside : Bool)
        → checked (refuse (not is) place NotStrings ∷ refuse outside place TableOutside ∷ []) (strings (sh_offset bytes at) (sh_size bytes at)) ≡ Ok names
        → (is && not outside) ≡ true
    by_cases true true h = cc
    by_cases true false h = refl
    by_cases false outside h = cc

-- a section that is not empty, whose own checks are followed by others
module _ (file : List ℕ) (at : ℕ) (some : (sh_size file at == 0) ≡ false) where
  own : (table : TableRange) → table_at file at 2 ≡ Ok table → (first_refusal (table_checks file at 2) ≡ None) × (rows (sh_offset file at) (sh_size file at / 2) 2 ≡ table)
  own table held = passed_first _ _ _ (rw (some, table_at, table_of) at held)

  behind : (front back : List Check) (fault : Fault) → first_refusal front ≡ None → RefusedBy back fault → RefusedBy (front ++ back) fault
  behind front back (Refused refusal) pass by = first_refusal-none front back pass ∙ by
  behind front back (Source fault offset) pass by = by

  module _ (table : TableRange) (held : table_at file at 2 ≡ Ok table) where
    pub unlinked : (sh_link file at == 0 || not (has_symbols file at)) ≡ true → first_refusal (all_checks symbol_versions.checks file at) ≡ Some (record { at = at; cause = BadLink })
    unfolding symbol_versions
    unlinked none = rw some (first_refusal-none (table_checks file at 2) (symbols_checks file at) (own table held).0 ∙ rw none refl)

    module _ (linked : (sh_link file at == 0 || not (has_symbols file at)) ≡ false) where
      pub symbols_refused : (fault : Fault) → symbols_at file (linked_at file at) ≡ Err fault → RefusedBy (all_checks symbol_versions.checks file at) fault
      unfolding symbol_versions
      symbols_refused fault h =
          rw some (behind (table_checks file at 2) (symbols_checks file at) fault (own table held).0 (rw linked (symbols-fail file (linked_at file at) fault h)))

      pub versioned : (symbols : TableRange × StringTableRange) → symbols_at file (linked_at file at) ≡ Ok symbols → AreVersioned file at table symbols.0.count
      unfolding symbol_versions
      versioned symbols h =
          let p = symbols-pass file (linked_at file at) symbols h in
          record {
            pass = rw some (first_refusal-none (table_checks file at 2) (symbols_checks file at) (own table held).0 ∙ rw linked p.0);
            counted = ap (λ (t : TableRange). t.count) (sym (own table held).1);
            placed = ap (λ (t : TableRange). t.at) (sym (own table held).1);
            symbols = λ _. p.1.counted;
          }

-- an empty one has no checks
pub unversioned : (file : List ℕ) (at : ℕ) (table : TableRange) → sh_size file at ≡ 0 → table_at file at 2 ≡ Ok table → AreVersioned file at table 0
unfolding symbol_versions
unversioned file at table none held =
    let is : rows (sh_offset file at) 0 2 ≡ table = let h = rw (none, table_at, table_of) at held in cc in
    record {
      pass = rw none refl;
      counted = ap (λ (t : TableRange). t.count) (sym is) ∙ rw none refl;
      placed = ap (λ (t : TableRange). t.at) (sym is);
      symbols = λ some. let other = rw none at some in cc;
    }

-- a table that is refused is refused before all else
pub table-refused : (file : List ℕ) (at : ℕ) (fault : Fault) → table_at file at 2 ≡ Err fault → RefusedBy (all_checks symbol_versions.checks file at) fault
unfolding symbol_versions
table-refused file at fault h = let p = table-fails (sh_size file at == 0) _ _ (table_checks file at 2) fault h in rw p.0 (front fault p.1)
  where
    front : (fault : Fault) → RefusedBy (table_checks file at 2) fault → RefusedBy (table_checks file at 2 ++ symbols_checks file at) fault
    front (Refused refusal) k = first_refusal-some (table_checks file at 2) (symbols_checks file at) refusal k
    front (Source fault offset) k = k

-- the headers in the store imply that checks pass
pub symbols-stored : (bytes : List ℕ) (size place : ℕ) (table : TableRange) (named : Bool) → table_of bytes 0 size place 24 ≡ Ok table → (sh_size bytes 0 == 0 || named) ≡ true
    → (sh_size bytes 0 == 0 || (pass (table_checks_of bytes 0 size 0 24) && named)) ≡ true
symbols-stored bytes size place table named held names = elim (cases_Bool (sh_size bytes 0 == 0)) [
  | inl empty ↦ rw empty refl
  | inr some ↦
      let passes = (passed_first _ _ _ (rw (some, table_of) at held)).0 in
      let own : pass (table_checks_of bytes 0 size 0 24) ≡ true = places_decide_nothing bytes 0 size 0 place 24 ∙ ap is_none passes in
      rw (some, own) (rw some at names)
]

pub both-true : (a b : Bool) → a ≡ true → b ≡ true → (a && b) ≡ true
both-true a b p q = rw (p, q) refl

pub not_empty : (n : ℕ) → n ≡ 0 → (n == 0) ≡ false → ⊥
not_empty n none some = let other : true ≡ false = ap (λ (k : ℕ). k == 0) (sym none) ∙ some in cc

pub not_false : (a : Bool) → not a ≡ false → a ≡ true
not_false true h = refl
not_false false h = cc

pub not_true : (a : Bool) → not a ≡ true → a ≡ false
not_true true h = cc
not_true false h = refl

-- a header in the store links to a section that is not the first, which may be a string table
module _ (row : ℕ → List ℕ) (count section link : ℕ) (is : link ≡ sh_link (row section) 0) (some : 0 < link) (below : link < count) where
  pub links_there : links (held_headers count row) section ≡ true
  links_there = rw (← is, lt-ltb link count below, ne_eqb link 0 (λ e. omega arith)) refl

  pub strings_found : (size place : ℕ) (answer : Result StringTableRange Fault) → answer ≡ string_table_of (row link) 0 size place
      → IfOk answer (λ names. has_strings (held_headers count row) section size ≡ true)
  strings_found size place (Ok names) h = both-true _ _ links_there (rw (← is) (strings-are (row link) 0 size place names (sym h)))
  strings_found size place (Err fault) h = tt
