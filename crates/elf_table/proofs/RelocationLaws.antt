-- What the checks of symbols imply, and those of relocation entries.
use Rattle.std.proofs.Common.{◌≡◌, ℕ, ◌/◌, ◌%◌, ◌<◌, ◌==◌, not, Bool, true, false, inl, inr, if◌then◌else◌, List, [], ◌∷◌, ◌++◌, length, Option, None, Some, Result, Ok, Err, refl, sym, ap, ◌∙◌, subst, arith}
use Rattle.std.proofs.lemmas.Bool.{cases_Bool, eqb-true, lt-ltb}
use Rattle.elf_model.specs.Prelude.{Check, e_shnum, first_refusal, has_symbols, is_symbol_table, linked_at, linked_table_checks, refuse, relocation_size, section_at, sh_entsize, sh_link, sh_offset, sh_size, strings_checks, symbol_table_checks, table_checks, unless_empty, whole_checks_of}
use Rattle.elf_model.specs.declared.causes.Cause.TheVariants.{EntrySize}
use Rattle.elf_model.specs.declared.causes.Refusal.{Refusal}
use Rattle.elf_model.proofs.CheckSteps.{first_refusal-some, first_refusal-none, first_refusal-back}
use Rattle.elf_table.specs.Prelude.{AreEntries, AreSymbols, Links, RefusedBy, StringTableRange, TableRange, answered, checked, names_at, rows, string_table_at, strings, symbols_at, table_at, table_of}
use Rattle.elf_table.specs.declared.fault.Fault.{Fault}
use Rattle.elf_table.specs.declared.fault.Fault.TheVariants.{Refused, Source}

-- a result after checks: the first refusal, or the value
pub passed_first : {A : Type 0} (first : Option Refusal) (value result : A) → answered first value ≡ Ok result → (first ≡ None) × (value ≡ result)
passed_first None value result h = (refl, cc)
passed_first (Some other) value result h = cc

failed : {A : Type 0} (checks : List Check) (value : A) (fault : Fault) → checked checks value ≡ Err fault → RefusedBy checks fault
failed checks value fault h = by_first (first_refusal checks) refl fault h
  where
    by_first : (first : Option Refusal) → first_refusal checks ≡ first → (fault : Fault) → answered first value ≡ Err fault → RefusedBy checks fault
    by_first None is fault k = cc
    by_first (Some refusal) is (Refused same) k = cc
    by_first (Some refusal) is (Source cause at) k = cc

-- a table that may be empty: an empty one has no checks
pub table-fails : {A : Type 0} (empty : Bool) (none some : A) (checks : List Check) (fault : Fault)
    → (elim empty as (λ _. Result A Fault) [ true ↦ Ok none | false ↦ checked checks some ]) ≡ Err fault → (empty ≡ false) × RefusedBy checks fault
table-fails true none some checks fault h = cc
table-fails false none some checks fault h = (refl, failed checks some fault h)

pub table-passes : {A : Type 0} (empty : Bool) (none some result : A) (checks : List Check)
    → (elim empty as (λ _. Result A Fault) [ true ↦ Ok none | false ↦ checked checks some ]) ≡ Ok result
    → (first_refusal (if empty then [] else checks) ≡ None) × ((elim empty as (λ _. A) [ true ↦ none | false ↦ some ]) ≡ result)
table-passes true none some result checks h = (refl, cc)
table-passes false none some result checks h = passed_first (first_refusal checks) some result h

-- the rows of a section of relocation entries with or without addends, or of others of these sizes,
-- whose own checks are followed by others
module _ (addends : Bool) (file : List ℕ) (at : ℕ) where
  abbrev entry : ℕ
  entry = relocation_size addends

  -- if there are no whole entries, there are no bytes
  none_whole : (addends : Bool) (n : ℕ) → n / relocation_size addends ≡ 0 → n % relocation_size addends ≡ 0 → n ≡ 0
  none_whole true n none divides = omega (arith, none, divides)
  none_whole false n none divides = omega (arith, none, divides)

  no_entries : (addends : Bool) (n : ℕ) → n ≡ 0 → n / relocation_size addends ≡ 0
  no_entries true n zero = omega (arith, zero)
  no_entries false n zero = omega (arith, zero)

  empty_rows : (addends : Bool) (n : ℕ) (table : TableRange) → n ≡ 0 → table ≡ rows (sh_offset file at) 0 (relocation_size addends)
      → table ≡ rows (sh_offset file at) (n / relocation_size addends) (relocation_size addends)
  empty_rows addends n table zero is = is ∙ ap (λ (k : ℕ). rows (sh_offset file at) k (relocation_size addends)) (sym (no_entries addends n zero))

  no_bytes : first_refusal (table_checks file at entry) ≡ None → sh_size file at / entry ≡ 0 → sh_size file at ≡ 0
  no_bytes passes none =
      let whole = first_refusal-back (refuse (not (sh_entsize file at == entry)) at EntrySize ∷ []) (whole_checks_of (length file) (sh_offset file at) (sh_size file at) at entry) passes in
      elim (cases_Bool (sh_size file at % entry == 0)) [
        | inl divides ↦ none_whole addends (sh_size file at) none (eqb-true (sh_size file at % entry) 0 divides)
        | inr rest ↦ let refuses = rw rest at whole in cc
      ]

  pub table_refused : (back : List Check) (fault : Fault) → table_at file at entry ≡ Err fault → RefusedBy (unless_empty (sh_size file at) (table_checks file at entry ++ back)) fault
  table_refused back fault h = let p = table-fails (sh_size file at == 0) _ _ (table_checks file at entry) fault h in rw p.0 (front fault p.1)
    where
      front : (fault : Fault) → RefusedBy (table_checks file at entry) fault → RefusedBy (table_checks file at entry ++ back) fault
      front (Refused refusal) k = first_refusal-some (table_checks file at entry) back refusal k
      front (Source fault offset) k = k

  module _ (table : TableRange) (held : table_at file at entry ≡ Ok table) where
    table_is : table ≡ rows (sh_offset file at) (sh_size file at / entry) entry
    table_is = elim (cases_Bool (sh_size file at == 0)) [
      | inl empty ↦ let none = rw (empty, table_at, table_of) at held in empty_rows addends (sh_size file at) table (eqb-true (sh_size file at) 0 empty) cc
      | inr some ↦ sym (passed_first _ _ _ (rw (some, table_at, table_of) at held)).1
    ]

    -- no rows have no bytes
    no_rows : table.count ≡ 0 → (sh_size file at == 0) ≡ true
    no_rows none = elim (cases_Bool (sh_size file at == 0)) [
      | inl empty ↦ empty
      | inr some ↦
          let zero = no_bytes (passed_first _ _ _ (rw (some, table_at, table_of) at held)).0 (sym (ap (λ (t : TableRange). t.count) table_is) ∙ none) in
          rw zero refl
    ]

    passes_empty : (back : List Check) → table.count ≡ 0 → first_refusal (unless_empty (sh_size file at) (table_checks file at entry ++ back)) ≡ None
    passes_empty back none = rw (no_rows none) refl

    -- if there are rows, the later checks decide
    later : (back : List Check) → (table.count ≡ 0 → ⊥) → first_refusal (unless_empty (sh_size file at) (table_checks file at entry ++ back)) ≡ first_refusal back
    later back rows = elim (cases_Bool (sh_size file at == 0)) [
      | inl empty ↦ absurd (rows (ap (λ (t : TableRange). t.count) table_is ∙ no_entries addends (sh_size file at) (eqb-true (sh_size file at) 0 empty)))
      | inr some ↦ rw some (first_refusal-none (table_checks file at entry) back (passed_first _ _ _ (rw (some, table_at, table_of) at held)).0)
    ]

    pub back_refused : (back : List Check) (fault : Fault) → (table.count ≡ 0 → ⊥) → RefusedBy back fault
        → RefusedBy (unless_empty (sh_size file at) (table_checks file at entry ++ back)) fault
    back_refused back (Refused refusal) rows h = later back rows ∙ h
    back_refused back (Source fault offset) rows h = h

    pub relocations_none : table.count ≡ 0 → AreEntries addends file at table None
    relocations_none none = record {
      pass = passes_empty (linked_table_checks file at) none;
      counted = ap (λ (t : TableRange). t.count) table_is;
      placed = ap (λ (t : TableRange). t.at) table_is;
      refers = λ some. absurd (omega (arith, some, none));
      none = λ _. refl;
    }

    pub relocations_some : (linked : Option (TableRange × StringTableRange)) → (table.count ≡ 0 → ⊥) → Links file at (Ok linked) → AreEntries addends file at table linked
    relocations_some linked rows links = record {
      pass = later (linked_table_checks file at) rows ∙ links.0;
      counted = ap (λ (t : TableRange). t.count) table_is;
      placed = ap (λ (t : TableRange). t.at) table_is;
      refers = λ _. links.1;
      none = λ none. absurd (rows none);
    }

-- a section of symbols, whose entries have the size of relocation entries with addends
module _ (file : List ℕ) (at : ℕ) (table : TableRange) (held : table_at file at 24 ≡ Ok table) where
  pub strings_refused : (fault : Fault) → (table.count ≡ 0 → ⊥) → string_table_at file at ≡ Err fault → RefusedBy (symbol_table_checks file at) fault
  strings_refused fault rows h = back_refused true file at table held (strings_checks file at) fault rows (failed (strings_checks file at) (names_at file (linked_at file at)) fault h)

  -- the symbols, which have no names if there are none
  pub symbols_none : table.count ≡ 0 → (names : StringTableRange) → names ≡ strings table.at 0 → Ok (table, names) ≡ symbols_at file at
  symbols_none none names is =
      let own : table ≡ rows (sh_offset file at) 0 24 = (table_is true file at table held) ∙ ap (λ (n : ℕ). rows (sh_offset file at) n 24) (sym (ap (λ (t : TableRange). t.count) (table_is true file at table held)) ∙ none) in
      rw (no_rows true file at table held none, symbols_at, is, own) refl

  pub symbols_some : (table.count ≡ 0 → ⊥) → (names : StringTableRange) → string_table_at file at ≡ Ok names → Ok (table, names) ≡ symbols_at file at
  symbols_some rows names h = elim (cases_Bool (sh_size file at == 0)) [
    | inl empty ↦ absurd (rows (ap (λ (t : TableRange). t.count) (table_is true file at table held) ∙ rw (eqb-true (sh_size file at) 0 empty) refl))
    | inr some ↦
        let own = passed_first _ _ table (rw (some, table_at, table_of) at held) in
        let named = passed_first _ _ names h in
        rw (some, symbols_at, first_refusal-none (table_checks file at 24) (strings_checks file at) own.0 ∙ named.0, own.1, named.1) refl
  ]

-- the symbols of a section
pub symbols-fail : (file : List ℕ) (at : ℕ) (fault : Fault) → symbols_at file at ≡ Err fault → RefusedBy (symbol_table_checks file at) fault
symbols-fail file at fault h = let p = table-fails (sh_size file at == 0) _ _ (table_checks file at 24 ++ strings_checks file at) fault h in rw p.0 p.1

pub symbols-refused : (file : List ℕ) (at : ℕ) (fault : Fault) → RefusedBy (symbol_table_checks file at) fault → Err fault ≡ symbols_at file at
symbols-refused file at (Refused refusal) h = elim (cases_Bool (sh_size file at == 0)) [
  | inl empty ↦ let none = rw empty at h in cc
  | inr some ↦ rw (some, symbols_at) (rw (rw some at h) refl)
]
symbols-refused file at (Source fault offset) h = absurd h

pub symbols-pass : (file : List ℕ) (at : ℕ) (symbols : TableRange × StringTableRange) → symbols_at file at ≡ Ok symbols → (first_refusal (symbol_table_checks file at) ≡ None) × AreSymbols file at symbols
symbols-pass file at symbols h = elim (cases_Bool (sh_size file at == 0)) [
  | inl empty ↦
      let is : (rows (sh_offset file at) 0 24, strings (sh_offset file at) 0) ≡ symbols = let answer = rw (empty, symbols_at) at h in cc in (
        rw empty refl,
        subst (AreSymbols file at) is
            (record { counted = rw (eqb-true (sh_size file at) 0 empty) refl; sized = refl; placed = refl; named = λ some. absurd (omega (arith, some)); unnamed = λ zero. refl }),
      )
  | inr some ↦
      let p = passed_first _ _ symbols (rw (some, symbols_at) at h) in (
        rw some p.0,
        subst (AreSymbols file at) p.1 (record { counted = refl; sized = refl; placed = refl; named = λ rows. refl; unnamed = λ zero. let other = rw zero at some in cc }),
      )
]

-- a link to a section of symbols
pub has-linked : (file : List ℕ) (at link count : ℕ) (holds : Bool) → link ≡ sh_link file at → count ≡ e_shnum file → link < count
    → holds ≡ is_symbol_table file (section_at file link) → holds ≡ true → has_symbols file at ≡ true
has-linked file at link count holds is counted below kind kept =
    let holds_them : is_symbol_table file (linked_at file at) ≡ true = sym (ap (λ k. is_symbol_table file (section_at file k)) is) ∙ (sym kind ∙ kept) in
    let low : sh_link file at < e_shnum file = omega arith in rw (lt-ltb _ _ low) holds_them

module _ (file : List ℕ) (at link : ℕ) (is : link ≡ sh_link file at) (has : has_symbols file at ≡ true) where
  pub linked-fails : (fault : Fault) → symbols_at file (section_at file link) ≡ Err fault → Links file at (Err fault)
  linked-fails fault h = rw has (symbols-fail file (linked_at file at) fault (ap (λ k. symbols_at file (section_at file k)) (sym is) ∙ h))

  pub linked-some : (symbols : TableRange × StringTableRange) → symbols_at file (section_at file link) ≡ Ok symbols → Links file at (Ok (Some symbols))
  linked-some symbols h =
      let p = symbols-pass file (linked_at file at) symbols (ap (λ k. symbols_at file (section_at file k)) (sym is) ∙ h) in
      (rw has p.0, (has, p.1))
