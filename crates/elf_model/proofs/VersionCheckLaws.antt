-- The checks before the rows of a versym section are those that a cost counts by the headers.
use Rattle.std.proofs.Common.{◌≡◌, ℕ, ◌==◌, ◌&&◌, ◌||◌, nat_lt, not, if◌then◌else◌, Bool, true, false, List, [], ◌∷◌, ◌++◌, length, refl, ap, ap₂, sym, ◌∙◌}
use Rattle.elf_model.specs.Prelude.{Check, CheckedRowsAreCounted, VERSYM_SIZE, e_shnum, file_sections, has_strings, has_symbol_table, is_outside, is_symbol_table, pass, refuse, section_at, sh_link, sh_offset, sh_size, sh_type, strings_checks, symbol_table_checks, symbol_versions, symbols_checks, table_checks, unless_empty}
use Rattle.elf_model.specs.declared.causes.Cause.TheVariants.{BadLink, NotStrings, TableOutside}
use Rattle.elf_model.specs.declared.causes.Refusal.{Refusal}

-- checks pass one by one
pass-one : (fails : Bool) (refusal : Refusal) (checks : List Check) → pass (record { fails = fails; refusal = refusal } ∷ checks) ≡ (not fails && pass checks)
pass-one true refusal checks = refl
pass-one false refusal checks = refl

pass-append : (front back : List Check) → pass (front ++ back) ≡ (pass front && pass back)
pass-append [] back = refl
pass-append (check ∷ front) back =
    pass-one check.fails check.refusal (front ++ back) ∙ ap (λ rest. not check.fails && rest) (pass-append front back)
    ∙ grouped (not check.fails) (pass front) (pass back) ∙ ap (λ first. first && pass back) (sym (pass-one check.fails check.refusal front))
  where
    grouped : (a b c : Bool) → (a && (b && c)) ≡ ((a && b) && c)
    grouped true b c = refl
    grouped false b c = refl

pass-unless : (size : ℕ) (checks : List Check) → pass (unless_empty size checks) ≡ (size == 0 || pass checks)
pass-unless size checks = by_size (size == 0)
  where
    by_size : (empty : Bool) → pass (if empty then [] else checks) ≡ (empty || pass checks)
    by_size true = refl
    by_size false = refl

-- the strings that a header links to
three : (zero few strings outside : Bool) (at linked : ℕ)
    → pass (refuse (zero || not few) at BadLink ∷ refuse (not strings) linked NotStrings ∷ refuse outside linked TableOutside ∷ [])
    ≡ ((few && not zero) && (strings && not outside))
three true true strings outside at linked = refl
three true false strings outside at linked = refl
three false false strings outside at linked = refl
three false true false outside at linked = refl
three false true true true at linked = refl
three false true true false at linked = refl

strings_pass : (file : List ℕ) (i : ℕ) → pass (strings_checks file (section_at file i)) ≡ has_strings (file_sections file) i (length file)
strings_pass file i =
    let at : ℕ = section_at file i in
    let link : ℕ = sh_link file at in
    three (link == 0) (nat_lt link (e_shnum file)) (sh_type file (section_at file link) == 3)
    (is_outside (length file) (sh_offset file (section_at file link)) (sh_size file (section_at file link))) at (section_at file link)

-- the symbols that it links to
linked : (zero few symbols : Bool) → not (zero || not (few && symbols)) ≡ ((few && not zero) && symbols)
linked true true symbols = refl
linked true false symbols = refl
linked false true symbols = by_kind symbols
  where
    by_kind : (symbols : Bool) → not (not symbols) ≡ symbols
    by_kind true = refl
    by_kind false = refl
linked false false symbols = refl

symbols_pass : (file : List ℕ) (i : ℕ) → pass (symbols_checks file (section_at file i)) ≡ has_symbol_table (file_sections file) i (length file)
symbols_pass file i =
    let at : ℕ = section_at file i in
    let link : ℕ = sh_link file at in
    let place : ℕ = section_at file link in
    let table : List Check = table_checks file place 24 in
    pass-one (link == 0 || not (nat_lt link (e_shnum file) && is_symbol_table file place)) (record { at = at; cause = BadLink }) (symbol_table_checks file place)
    ∙ ap₂ ◌&&◌ (linked (link == 0) (nat_lt link (e_shnum file)) (is_symbol_table file place))
    (pass-unless (sh_size file place) (table ++ strings_checks file place)
    ∙ ap (λ rest. sh_size file place == 0 || rest) (pass-append table (strings_checks file place) ∙ ap (λ rest. pass table && rest) (strings_pass file link)))

pub checked_rows : CheckedRowsAreCounted
unfolding symbol_versions
checked_rows file index some =
    let at : ℕ = section_at file index in
    let own : List Check = table_checks file at VERSYM_SIZE in
    pass-unless (sh_size file at) (own ++ symbols_checks file at)
    ∙ ap (λ empty. empty || pass (own ++ symbols_checks file at)) some
    ∙ pass-append own (symbols_checks file at) ∙ ap (λ rest. pass own && rest) (symbols_pass file index)
