-- The refusals of the checks before the tables are in a header, whatever tables the headers describe.
use Rattle.std.proofs.Common.{◌≡◌, ℕ, suc, zero, ◌+◌, ◌*◌, ◌<◌, ◌≤◌, ◌==◌, ◌&&◌, ◌⊎◌, inl, inr, nat_lt, nat_le, not, Bool, true, false, List, [], ◌∷◌, length, take, drop, Option, None, Some, is_some, refl, sym, ap, subst, ◌∙◌, arith}
use Rattle.std.proofs.lemmas.Bool.{ltb-true}
use Rattle.std.proofs.lemmas.Bool.Decides.{nat_tests}
use Rattle.elf_model.specs.Prelude.{Check, HeaderCounts, HeaderTable, counts_in, e_phnum, e_shnum, e_shstrndx, early_checks, early_checks_of, first_page, first_refusal, has_section_names, is_section_outside, load_checks, loads_from, overlap_checks, overlaps_from, page_behind, refuse, row_among, row_index, section_at, section_name_checks, segment_at, sh_type, takes_memory}
use Rattle.elf_model.specs.declared.causes.Cause.{Cause}
use Rattle.elf_model.specs.declared.causes.Cause.TheVariants.{BadLink, LoadOverlap, NotStrings, TableOutside}
use Rattle.elf_model.specs.declared.causes.Refusal.{Refusal}
use Rattle.elf_model.proofs.CheckSteps.{first_refusal-back, first_refusal-none, first_refusal-some}
use Rattle.elf_model.proofs.OverlapLemmas.{loads_passed, loads_taken}

-- the row at an offset is the same for any tables
abbrev pub IsHeaderRow : HeaderCounts → ℕ → Type 0
IsHeaderRow e at = (a b c d : HeaderTable) → row_among e a b at ≡ row_among e c d at

pub in_file_header : (e : HeaderCounts) (at : ℕ) → at < 64 → IsHeaderRow e at
unfolding row_among
in_file_header e at below a b c d =
    let few : nat_lt at 64 ≡ true = grind (arith, nat_tests) in rw few refl

-- rows at an offset of a table of headers
row_indexed : (start size count at : ℕ) → start ≤ at → at < start + size * count → is_some (row_index start size count at) ≡ true
row_indexed start size count at above below =
    let low : nat_le start at ≡ true = grind (arith, nat_tests) in
    let high : nat_lt at (start + size * count) ≡ true = grind (arith, nat_tests) in
    rw (low, high) refl

row_known : (e : HeaderCounts) (at : ℕ) (first second : Option ℕ) → row_index e.shoff 64 e.shnum at ≡ first → row_index e.phoff 56 e.phnum at ≡ second
    → (is_some first ≡ false → is_some second ≡ true) → IsHeaderRow e at
unfolding row_among
row_known e at (Some i) second f s h a b c d = rw f refl
row_known e at None (Some i) f s h a b c d = rw (f, s) refl
row_known e at None None f s h a b c d = let none = h refl in cc

pub in_section_header : (e : HeaderCounts) (i : ℕ) → i < e.shnum → IsHeaderRow e (e.shoff + 64 * i)
in_section_header e i below =
    let some = row_indexed e.shoff 64 e.shnum (e.shoff + 64 * i) (omega arith) (omega (arith, below)) in
    row_known e _ (row_index e.shoff 64 e.shnum (e.shoff + 64 * i)) _ refl refl (λ none. cc)

pub in_program_header : (e : HeaderCounts) (i : ℕ) → i < e.phnum → IsHeaderRow e (e.phoff + 56 * i)
in_program_header e i below =
    let some = row_indexed e.phoff 56 e.phnum (e.phoff + 56 * i) (omega arith) (omega (arith, below)) in
    row_known e _ _ (row_index e.phoff 56 e.phnum (e.phoff + 56 * i)) refl refl (λ none. some)

-- the first refusal of checks whose offsets are all below one
abbrev AreBelow : ℕ → List Check → Type 0
AreBelow most [] = Unit {0}
AreBelow most (check ∷ checks) = (check.refusal.at < most) × AreBelow most checks

refused_below : (most : ℕ) (checks : List Check) (refusal : Refusal) → AreBelow most checks → first_refusal checks ≡ Some refusal → refusal.at < most
refused_below most [] refusal all is = cc
refused_below most (check ∷ checks) refusal all is = by_test check.fails refl (refused_below most checks refusal all.1)
  where
    by_test : (fails : Bool) → check.fails ≡ fails → (first_refusal checks ≡ Some refusal → refusal.at < most) → refusal.at < most
    by_test true f later = let some = rw f at is in let same : check.refusal ≡ refusal = cc in subst (λ (r : Refusal). r.at < most) same all.0
    by_test false f later = later (rw f at is)

early_below : (e : HeaderCounts) (size headers : ℕ) → AreBelow 64 (early_checks_of e size headers)
early_below e size headers =
    (omega arith, (omega arith, (omega arith, (omega arith, (omega arith, (omega arith, (omega arith, (omega arith, (omega arith, (omega arith, tt))))))))))

-- the last of the early checks: the section of the section names is among the sections
passed_one : (fails : Bool) (at : ℕ) (cause : Cause) → first_refusal (refuse fails at cause ∷ []) ≡ None → fails ≡ false
passed_one true at cause e = cc
passed_one false at cause e = refl

is_below : (none few : Bool) → none ≡ false → (not none && not few) ≡ false → few ≡ true
is_below false true n e = refl
is_below false false n e = cc
is_below true few n e = cc

named_below : (e : HeaderCounts) (size headers : ℕ) → first_refusal (early_checks_of e size headers) ≡ None → (e.shnum == 0) ≡ false → e.shstrndx < e.shnum
named_below e size headers passes some =
    let all = early_checks_of e size headers in
    let last = first_refusal-back (take 9 all) (drop 9 all) passes in
    ltb-true e.shstrndx e.shnum
    (is_below (e.shnum == 0) (nat_lt e.shstrndx e.shnum) some (passed_one (not (e.shnum == 0) && not (nat_lt e.shstrndx e.shnum)) 0x3e BadLink last))

-- the check of the section names refuses at its header
names_refused : (some a b : Bool) (at : ℕ) (refusal : Refusal) → first_refusal (refuse (some && a) at NotStrings ∷ refuse (some && b) at TableOutside ∷ []) ≡ Some refusal
    → (some ≡ true) × (at ≡ refusal.at)
names_refused false a b at refusal e = cc
names_refused true true b at refusal e = (refl, let same : record { at = at; cause = NotStrings } ≡ refusal = cc in ap (λ (r : Refusal). r.at) same)
names_refused true false true at refusal e = (refl, let same : record { at = at; cause = TableOutside } ≡ refusal = cc in ap (λ (r : Refusal). r.at) same)
names_refused true false false at refusal e = cc

has_sections : (none other : Bool) → (not none && not other) ≡ true → none ≡ false
has_sections false other e = refl
has_sections true other e = cc

-- A LOAD CHECK refuses in the file header, or in a section header
pub load_refusal_row : (file : List ℕ) (headers : ℕ) (refusal : Refusal) → first_refusal (load_checks file headers) ≡ Some refusal → IsHeaderRow (counts_in file) refusal.at
load_refusal_row file headers refusal is = by_early (first_refusal (early_checks file headers)) refl
  where
    by_early : (early : Option Refusal) → first_refusal (early_checks file headers) ≡ early → IsHeaderRow (counts_in file) refusal.at
    by_early (Some first) e =
        let all = first_refusal-some (early_checks file headers) (section_name_checks file) first e in
        let same : first ≡ refusal = cc in
        in_file_header (counts_in file) refusal.at (rw (← same) (refused_below 64 (early_checks file headers) first (early_below (counts_in file) (length file) headers) e))
    by_early None e =
        let at = section_at file (e_shstrndx file) in
        let names = sym (first_refusal-none (early_checks file headers) (section_name_checks file) e) ∙ is in
        let found = names_refused (has_section_names file) (not (sh_type file at == 3)) (is_section_outside file at) at refusal names in
        let few = named_below (counts_in file) (length file) headers e (has_sections (e_shnum file == 0) (e_shstrndx file == 0) found.0) in
        subst (IsHeaderRow (counts_in file)) found.1 (in_section_header (counts_in file) (e_shstrndx file) few)

-- THE CHECKS OF LOAD SEGMENTS refuse in a program header
abbrev IsSegmentHeader : List ℕ → (most : ℕ) → ℕ → Type 0
IsSegmentHeader file most at = (i : ℕ) × (i < most) × (segment_at file i ≡ at)

overlap_step : (file : List ℕ) (page at : ℕ) (loads : List ℕ) (refusal : Refusal) → first_refusal (overlaps_from file page (at ∷ loads)) ≡ Some refusal
    → (at ≡ refusal.at) ⊎ (first_refusal (overlaps_from file (page_behind file at) loads) ≡ Some refusal)
unfolding overlaps_from
overlap_step file page at loads refusal is = by_test (nat_lt (first_page file at) page) is
  where
    by_test : (below : Bool) → first_refusal (record { fails = below; refusal = record { at = at; cause = LoadOverlap } } ∷ overlaps_from file (page_behind file at) loads) ≡ Some refusal
        → (at ≡ refusal.at) ⊎ (first_refusal (overlaps_from file (page_behind file at) loads) ≡ Some refusal)
    by_test true e = inl (let same : record { at = at; cause = LoadOverlap } ≡ refusal = cc in ap (λ (r : Refusal). r.at) same)
    by_test false e = inr e

overlap_end : (file : List ℕ) (page : ℕ) (refusal : Refusal) → first_refusal (overlaps_from file page []) ≡ Some refusal → ⊥
unfolding overlaps_from
overlap_end file page refusal is = cc

loads_end : (file : List ℕ) (first : ℕ) → loads_from file first 0 ≡ []
unfolding loads_from
loads_end file first = refl

overlap_at : (file : List ℕ) (page first count : ℕ) (refusal : Refusal) → first_refusal (overlaps_from file page (loads_from file first count)) ≡ Some refusal
    → IsSegmentHeader file (first + count) refusal.at
overlap_at file page first zero refusal is = absurd (overlap_end file page refusal (rw (loads_end file first) at is))
overlap_at file page first (suc count) refusal is =
    by_load (takes_memory file (segment_at file first)) refl (λ other. overlap_at file other (suc first) count refusal)
  where
    later : IsSegmentHeader file (suc first + count) refusal.at → IsSegmentHeader file (first + suc count) refusal.at
    later more = (more.0, omega (arith, more.1), more.2)

    by_load : (taken : Bool) → takes_memory file (segment_at file first) ≡ taken
        → ((other : ℕ) → first_refusal (overlaps_from file other (loads_from file (suc first) count)) ≡ Some refusal → IsSegmentHeader file (suc first + count) refusal.at)
        → IsSegmentHeader file (first + suc count) refusal.at
    by_load false t rest = later (rest page (rw (loads_passed file first count t) at is))
    by_load true t rest =
        elim (overlap_step file page (segment_at file first) (loads_from file (suc first) count) refusal (rw (loads_taken file first count t) at is)) [
          | inl here ↦ (first, omega arith, here)
          | inr more ↦ later (rest (page_behind file (segment_at file first)) more)
        ]

pub overlap_refusal_row : (file : List ℕ) (refusal : Refusal) → first_refusal (overlap_checks file) ≡ Some refusal → IsHeaderRow (counts_in file) refusal.at
unfolding overlap_checks
overlap_refusal_row file refusal is =
    let found = overlap_at file 0 0 (e_phnum file) refusal is in
    let below : found.0 < e_phnum file = omega (arith, found.1) in
    subst (IsHeaderRow (counts_in file)) found.2 (in_program_header (counts_in file) found.0 below)
