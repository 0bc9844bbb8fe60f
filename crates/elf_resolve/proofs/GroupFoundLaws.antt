-- The checks of a section group, one after the other, and the group itself.
use Rattle.std.proofs.Common.{◌≡◌, ℕ, ◌+◌, ◌%◌, ◌<◌, ◌≤◌, ◌==◌, Bool, true, false, List, [], ◌∷◌, ◌++◌, length, refl, ap, ◌∙◌, sym, subst, arith, inl, inr}
use Rattle.std.specs.Prelude.{Option, None, Some, Result, Ok, Err, IfSome, if◌then◌else◌, nat_lt, not}
use Rattle.std.proofs.lemmas.Bool.{cases_Bool}
use Rattle.std.proofs.lemmas.Bool.Decides.{nat_tests}
use Rattle.elf_model.proofs.CheckSteps.{first_refusal-back, first_refusal-none, first_refusal-some, passes_front}
use Rattle.elf_model.proofs.VersionSteps.{first-passes, others-pass}
use Rattle.elf_model.specs.Checks.{Check, first_refusal, is_outside, range_checks_of, refuse, whole_checks_of}
use Rattle.elf_model.specs.LinkSymbols.{as_any, comdat_group, group_checks, group_in, is_comdat, signature_of}
use Rattle.elf_model.specs.LinkObjects.{SectionGroup}
use Rattle.elf_model.specs.declared.link_states.LinkRefusal.{LinkRefusal}
use Rattle.elf_model.specs.Records.{sh_info, sh_offset, sh_size}
use Rattle.elf_model.specs.Tables.{SYMBOL_SIZE, entry_count, has_symbols, linked_at, linked_table_checks, symbol_table_checks}
use Rattle.elf_model.specs.declared.causes.Cause.TheVariants.{BadLink, SizeNotWhole, SymbolIndex, TableOutside}
use Rattle.elf_model.specs.declared.causes.Refusal.{Refusal}
use Rattle.elf_record.specs.Shdr.{IsShdr}
use Rattle.elf_record.specs.declared.shdr.Shdr.{Shdr}
use Rattle.elf_resolve.specs.LinkFaults.{fault_of_table}
use Rattle.elf_resolve.specs.SectionGroups.{FindsGroup, FoundGroup, MakesGroup}
use Rattle.elf_model.specs.declared.link_states.LinkCause.TheVariants as cause
use Rattle.elf_resolve.specs.declared.link_faults.LinkFault.{LinkFault}
use Rattle.elf_resolve.specs.declared.section_groups.GroupInFile.{GroupInFile}
use Rattle.elf_table.specs.Relocations.{AreSymbols, RefusedBy, RefersTo}
use Rattle.elf_table.specs.Tables.{StringTableRange, SymbolTableInBounds, TableRange}
use Rattle.elf_table.specs.declared.fault.Fault.{Fault}
use Rattle.elf_table.specs.declared.fault.Fault.TheVariants.{Refused, Source}

pub group_refused : (file : List ℕ) (at : ℕ) (refusal : Refusal) → first_refusal (group_checks file at) ≡ Some refusal → group_in file at ≡ Err (as_any refusal)
unfolding group_in
group_refused file at refusal is =
    ap (λ (o : Option Refusal). elim o as (λ _. Result (List SectionGroup) LinkRefusal) [
      | Some refused ↦ Err (as_any refused)
      | None ↦ if is_comdat file at then comdat_group file at (signature_of file at) else Ok []
    ]) is

pub group_passed : (file : List ℕ) (at : ℕ) (kept : Bool) → first_refusal (group_checks file at) ≡ None → is_comdat file at ≡ kept
    → group_in file at ≡ (if kept then comdat_group file at (signature_of file at) else Ok [])
unfolding group_in
group_passed file at kept passes is =
    ap (λ (o : Option Refusal). elim o as (λ _. Result (List SectionGroup) LinkRefusal) [
      | Some refused ↦ Err (as_any refused)
      | None ↦ if is_comdat file at then comdat_group file at (signature_of file at) else Ok []
    ]) passes
    ∙ ap (λ (b : Bool). if b then comdat_group file at (signature_of file at) else Ok []) is

below_from : {a b : ℕ} → nat_lt a b ≡ false → b ≤ a
below_from {a} {b} h = grind (arith, nat_tests)

module _ (file : List ℕ) (at : ℕ) where
  abbrev pub words : List Check
  words = whole_checks_of (length file) (sh_offset file at) (sh_size file at) at 4

  abbrev link : Check
  link = refuse (not (has_symbols file at)) at BadLink

  abbrev symbol : Check
  symbol = refuse (not (nat_lt (sh_info file at) (entry_count file (linked_at file at) SYMBOL_SIZE))) at SymbolIndex

  pub words_same : (size place : ℕ) (header : Shdr) → IsShdr file at header → size ≡ length file → place ≡ at → whole_checks_of size header.sh_offset header.sh_size place 4 ≡ words
  words_same size place header is sized placed =
      ap (λ s. whole_checks_of s header.sh_offset header.sh_size place 4) sized
      ∙ ap (λ o. whole_checks_of (length file) o header.sh_size place 4) is.sh_offset
      ∙ ap (λ s. whole_checks_of (length file) (sh_offset file at) s place 4) is.sh_size
      ∙ ap (λ p. whole_checks_of (length file) (sh_offset file at) (sh_size file at) p 4) placed

  -- the first refusal is that of the words, of the link, of the symbol table, of the symbol, or none
  pub words_fault : (fault : Fault) → RefusedBy words fault → FindsGroup file at (Err (fault_of_table fault))
  words_fault (Refused refusal) is =
      group_refused file at refusal (first_refusal-some words ((link ∷ []) ++ (symbol_table_checks file (linked_at file at) ++ (symbol ∷ []))) refusal is)
  words_fault (Source other place) is = absurd is

  after_words : first_refusal words ≡ None
      → first_refusal (group_checks file at) ≡ first_refusal ((link ∷ []) ++ (symbol_table_checks file (linked_at file at) ++ (symbol ∷ [])))
  after_words passes = first_refusal-none words ((link ∷ []) ++ (symbol_table_checks file (linked_at file at) ++ (symbol ∷ []))) passes

  pub link_fault : first_refusal words ≡ None → has_symbols file at ≡ false → group_in file at ≡ Err (as_any (record { at = at; cause = BadLink }))
  link_fault passes none = group_refused file at _ (after_words passes ∙ rw none refl)

  after_link : first_refusal words ≡ None → has_symbols file at ≡ true → first_refusal (group_checks file at) ≡ first_refusal (symbol_table_checks file (linked_at file at) ++ (symbol ∷ []))
  after_link passes some = after_words passes ∙ rw some refl

  pub table_fault : (fault : Fault) → first_refusal words ≡ None → RefusedBy (linked_table_checks file at) fault → FindsGroup file at (Err (fault_of_table fault))
  table_fault (Refused refusal) passes is = elim (cases_Bool (has_symbols file at)) [
    | inl some ↦
        let table : first_refusal (symbol_table_checks file (linked_at file at)) ≡ Some refusal = rw some at is in
        group_refused file at refusal (after_link passes some ∙ first_refusal-some (symbol_table_checks file (linked_at file at)) (symbol ∷ []) refusal table)
    | inr none ↦ let nothing = rw none at is in absurd (cc)
  ]
  table_fault (Source other place) passes is = absurd is

  after_table : first_refusal words ≡ None → has_symbols file at ≡ true → first_refusal (linked_table_checks file at) ≡ None → first_refusal (group_checks file at) ≡ first_refusal (symbol ∷ [])
  after_table passes some tables =
      let table : first_refusal (symbol_table_checks file (linked_at file at)) ≡ None = rw some at tables in
      after_link passes some ∙ first_refusal-none (symbol_table_checks file (linked_at file at)) (symbol ∷ []) table

  pub symbol_fault : first_refusal words ≡ None → has_symbols file at ≡ true → first_refusal (linked_table_checks file at) ≡ None → entry_count file (linked_at file at) SYMBOL_SIZE ≤ sh_info file at
      → group_in file at ≡ Err (as_any (record { at = at; cause = SymbolIndex }))
  symbol_fault passes some tables past =
      let test : nat_lt (sh_info file at) (entry_count file (linked_at file at) SYMBOL_SIZE) ≡ false = grind (arith, nat_tests) in
      group_refused file at _ (after_table passes some tables ∙ rw test refl)

  pub all_passes : first_refusal words ≡ None → has_symbols file at ≡ true → first_refusal (linked_table_checks file at) ≡ None → sh_info file at < entry_count file (linked_at file at) SYMBOL_SIZE
      → first_refusal (group_checks file at) ≡ None
  all_passes passes some tables below =
      let test : nat_lt (sh_info file at) (entry_count file (linked_at file at) SYMBOL_SIZE) ≡ true = grind (arith, nat_tests) in
      after_table passes some tables ∙ rw test refl

  pub words_within : first_refusal words ≡ None → sh_offset file at + sh_size file at ≤ length file
  words_within passes =
      let later = others-pass (refuse (not (sh_size file at % 4 == 0)) at SizeNotWhole) (range_checks_of (length file) (sh_offset file at) (sh_size file at) at) passes in
      let inside : nat_lt (length file) (sh_offset file at + sh_size file at) ≡ false = first-passes (refuse (is_outside (length file) (sh_offset file at) (sh_size file at)) at TableOutside) [] later in
      below_from inside

pub linked_some : (file : List ℕ) (at : ℕ) (linked : Option (TableRange × StringTableRange)) (symbols : TableRange × StringTableRange) → linked ≡ Some symbols → RefersTo file at linked
    → (has_symbols file at ≡ true) × AreSymbols file (linked_at file at) symbols
linked_some file at linked symbols is refers = subst (RefersTo file at) is refers

pub linked_within : (size : ℕ) (file : List ℕ) (linked : Option (TableRange × StringTableRange)) (symbols : TableRange × StringTableRange) → size ≡ length file → linked ≡ Some symbols
    → IfSome linked (SymbolTableInBounds size) → SymbolTableInBounds (length file) symbols
linked_within size file linked symbols sized is within = subst (λ s. SymbolTableInBounds s symbols) sized (subst (λ l. IfSome l (SymbolTableInBounds size)) is within)

-- THE GROUP, by its header and its symbol table
pub makes_group : (file : List ℕ) (at place : ℕ) (header : Shdr) (symbols : TableRange × StringTableRange) (result : Result GroupInFile LinkFault) → IsShdr file at header → place ≡ at
    → first_refusal (words file at) ≡ None → has_symbols file at ≡ true → first_refusal (linked_table_checks file at) ≡ None
    → AreSymbols file (linked_at file at) symbols → SymbolTableInBounds (length file) symbols → MakesGroup header place symbols result → FindsGroup file at result
makes_group file at place header symbols (Ok group) is placed passes some tables are inside made =
    let below : sh_info file at < entry_count file (linked_at file at) SYMBOL_SIZE = omega (arith, made.0, are.counted, is.sh_info) in
    subst (FoundGroup file at) (sym made.1) (record {
      passes = all_passes file at passes some tables below;
      is_at = placed;
      start = is.sh_offset;
      size = is.sh_size;
      within = words_within file at passes;
      index = is.sh_info;
      link = is.sh_link;
      below = made.0;
      symbols = are;
      inside = inside;
    })
makes_group file at place header symbols (Err fault) is placed passes some tables are inside made =
    let past : entry_count file (linked_at file at) SYMBOL_SIZE ≤ sh_info file at = omega (arith, made.0, are.counted, is.sh_info) in
    subst (λ f. FindsGroup file at (Err f)) (sym made.1)
    (symbol_fault file at passes some tables past ∙ ap (λ p. Err (record { at = p; cause = cause.Refused SymbolIndex })) (sym placed))

-- the checks of its symbol table pass with the others
pub linked_passes : (file : List ℕ) (at : ℕ) → first_refusal (group_checks file at) ≡ None → first_refusal (symbol_table_checks file (linked_at file at)) ≡ None
linked_passes file at passes =
    let rest = first_refusal-back (words file at) ((link file at ∷ []) ++ (symbol_table_checks file (linked_at file at) ++ (symbol file at ∷ []))) passes in
    let tables = first_refusal-back (link file at ∷ []) (symbol_table_checks file (linked_at file at) ++ (symbol file at ∷ [])) rest in
    passes_front (symbol_table_checks file (linked_at file at)) (symbol file at ∷ []) tables
