-- The items of one header, by what the store and the checks of a loaded file return.
use Rattle.elf_model.specs.Prelude.{Check, DT_STRSZ, EveryRow, LinePrefix, ListingItem, ListingStyle, TableKind, all_checks, chosen_row, dynamic_at, dynamic_count, dynamic_row, dynamic_table_checks, e_machine, e_shnum, e_shoff, e_shstrndx, each, entry_count, first_refusal, guarded, listed_value, mapped_strings, no_name, p_filesz, p_offset, place_of_section, placed_choice, range_checks_of, section_at, section_dynamic, section_name, section_prefix, section_row, segment_dynamic_checks, sh_link, sh_name, sh_offset, sh_size, shown, slice, strings_at as strings_mapped, strings_checks, strings_of, table_checks, table_rows, unless_empty}
use Rattle.elf_model.specs.declared.causes.Refusal.{Refusal}
use Rattle.std.proofs.Common.{◌≡◌, ℕ, ◌+◌, ◌*◌, ◌/◌, ◌<◌, ◌==◌, ◌&&◌, not, Bool, true, false, inl, inr, if◌then◌else◌, List, [], ◌++◌, length, Option, None, Some, Result, Ok, Err, refl, sym, ap, ◌∙◌, subst, arith}
use Rattle.std.proofs.lemmas.Bool.{cases_Bool, eqb-true}
use Rattle.elf_model.proofs.CheckSteps.{first_refusal-none, first_refusal-some}
use Rattle.elf_model.proofs.ListingLemmas.{guarded-passes, guarded-fault}
use Rattle.elf_note.specs.Prelude.{AreStrings}
use Rattle.elf_note.specs.declared.string_values.DynamicStrings.{DynamicStrings}
use Rattle.elf_source.specs.Output.{OutState}
use Rattle.elf_table.specs.Prelude.{RefusedBy, StringTableRange, TableRange, byte_rows, checked as checked_as, dynamic_table_at as table_of_segment, names_at, rows, section_names, stop_of, string_table_at as strings_linked, table_at}
use Rattle.elf_table.specs.declared.fault.Fault.{Fault}
use Rattle.elf_table.proofs.RelocationLaws.{passed_first, table-fails, table-passes}
use Rattle.elf_table.specs.declared.fault.Fault.TheVariants.{Refused, Source}
use Rattle.elf_listing.specs.Prelude.{WroteItems, WroteUntilStop, shown_in}
use Rattle.elf_listing.proofs.RowLaws.{WroteUntilStop-first}
use Rattle.elf_listing.proofs.ShowLaws.{Whole-none}

-- a header that describes no table of a kind
pub no_table : (kind : TableKind) (file : List ℕ) (style : ListingStyle) (index at : ℕ) (a : OutState) → kind.has_table file at ≡ false → WroteItems a a (table_rows kind file style index at)
unfolding table_rows
no_table kind file style index at a none = rw (none, table_rows) (Whole-none a)

-- one that describes a table has its rows after its checks: they pass, or the first refuses
module _ (kind : TableKind) (file : List ℕ) (style : ListingStyle) (index at : ℕ) (has : kind.has_table file at ≡ true) where
  rows_are : table_rows kind file style index at ≡ guarded (all_checks kind.checks file at) (kind.rows file style index at)
  unfolding table_rows
  rows_are = rw (has, table_rows) refl

  pub table_passes : first_refusal (all_checks kind.checks file at) ≡ None → table_rows kind file style index at ≡ kind.rows file style index at
  table_passes pass = rows_are ∙ guarded-passes (all_checks kind.checks file at) _ pass

  pub table_fails : (a : OutState) (fault : Fault) → RefusedBy (all_checks kind.checks file at) fault → WroteUntilStop a a (stop_of fault) (table_rows kind file style index at)
  table_fails a fault by =
      WroteUntilStop-first a fault _ (λ refusal is other.
      rows_are ∙ guarded-fault (all_checks kind.checks file at) _ refusal (subst (RefusedBy (all_checks kind.checks file at)) is by))

-- a table that may be empty is refused as its checks are
pub empty_fails : {A : Type 0} (size : ℕ) (none some : A) (checks : List Check) (fault : Fault)
    → (elim (size == 0) as (λ _. Result A Fault) [ true ↦ Ok none | false ↦ checked_as checks some ]) ≡ Err fault → RefusedBy (unless_empty size checks) fault
empty_fails size none some checks fault h = let p = table-fails (size == 0) none some checks fault h in rw p.0 p.1

-- the name of a section, in the string table of the section names or without one
name_by_cases : (file : List ℕ) (a b : Bool) (names : StringTableRange) (off cap : ℕ) → a ≡ false
    → shown_in file (elim (not a && not b) [ true ↦ Some names | false ↦ None ]) off cap ≡ (if b then no_name else shown (slice file names.at names.size) off cap)
name_by_cases file false true names off cap h = refl
name_by_cases file false false names off cap h = refl
name_by_cases file true b names off cap h = cc

some_sections : (n : ℕ) → 0 < n → (n == 0) ≡ false
some_sections n h = grind (arith)

-- the row of a section header, by its prefix and its name
pub section_is : (file : List ℕ) (front : LinePrefix) (names : Option StringTableRange) (off at index : ℕ) (style : ListingStyle) → names ≡ section_names file → 0 < e_shnum file → at ≡ section_at file index
    → off ≡ sh_name file (section_at file index) → front ≡ section_prefix style.format style.gnu (e_machine file) file (section_at file index) index
    → section_row file style index ≡ chosen_row (placed_choice style (place_of_section file (section_at file index)) EveryRow) front at (shown_in file names off style.cap)
unfolding section_row section_name
section_is file front names off at index style same some place is before =
    rw (before, place, is, same)
    (ap (chosen_row (placed_choice style (place_of_section file (section_at file index)) EveryRow) (section_prefix style.format style.gnu (e_machine file) file (section_at file index) index) (section_at file index))
    (sym (name_by_cases file (e_shnum file == 0) (e_shstrndx file == 0) (names_at file (section_at file (e_shstrndx file))) _ style.cap (some_sections (e_shnum file) some))))

-- a range that a header gives is the file's, since a load knows the file's size and the header's
-- place
pub range_of_file : {size offset n place all from_ count at : ℕ} {result : Result TableRange Fault} → size ≡ all → offset ≡ from_ → n ≡ count → place ≡ at
    → result ≡ byte_rows size offset n place → byte_rows all from_ count at ≡ result
range_of_file sized from_is counted placed is = rw (← sized, ← from_is, ← counted, ← placed) (sym is)

-- the place of a section header, since a load knows where the section headers begin
pub section_placed : {place begin : ℕ} (file : List ℕ) (i : ℕ) → place ≡ begin + 64 * i → begin ≡ e_shoff file → place ≡ section_at file i
section_placed file i is begins = omega arith

-- the bytes of a range that is returned
pub range_passes : (file : List ℕ) (offset size place : ℕ) (table : TableRange) → byte_rows (length file) offset size place ≡ Ok table
    → (first_refusal (unless_empty size (range_checks_of (length file) offset size place)) ≡ None) × (rows offset size 1 ≡ table)
range_passes file offset size place table h =
    let p = table-passes (size == 0) (rows offset 0 1) (rows offset size 1) table (range_checks_of (length file) offset size place) h in (
      p.0,
      elim (cases_Bool (size == 0)) [
        | inl empty ↦ ap (λ n. rows offset n 1) (eqb-true size 0 empty) ∙ rw empty at p.1
        | inr some ↦ rw some at p.1
      ],
    )

-- the dynamic entries that are listed, of n at an offset, if the strings of an entry are known
abbrev pub entries_at : List ℕ → ListingStyle → ℕ → ℕ → (ℕ → Result (List ℕ) Refusal) → List ListingItem
entries_at file style offset count strings = each (λ i. dynamic_row file style strings (dynamic_at offset i) i) 0 (dynamic_count file offset count)

-- none of an empty section
pub empty_dynamic : (file : List ℕ) (style : ListingStyle) (index : ℕ) (a : OutState) (at : ℕ) → section_dynamic.has_table file at ≡ true → sh_size file at ≡ 0 → WroteItems a a (table_rows section_dynamic file style index at)
unfolding section_dynamic each dynamic_count
empty_dynamic file style index a at has empty = rw (table_passes section_dynamic file style index at has (rw empty refl)) (rw empty (Whole-none a))

-- checks that refuse, after others that pass and before more
among : (front checks back : List Check) (fault : Fault) → first_refusal front ≡ None → RefusedBy checks fault → RefusedBy (front ++ (checks ++ back)) fault
among front checks back (Refused refusal) pass by = first_refusal-none front (checks ++ back) pass ∙ first_refusal-some checks back refusal by
among front checks back (Source fault at) pass by = by

-- the checks of a section's dynamic entries, and then those of their string table
module _ (file : List ℕ) (at : ℕ) where
  pub dynamic_fails : (fault : Fault) → table_at file at 16 ≡ Err fault → RefusedBy (dynamic_table_checks file at) fault
  dynamic_fails fault h =
      let p = table-fails (sh_size file at == 0) (rows (sh_offset file at) 0 16) (rows (sh_offset file at) (sh_size file at / 16) 16) (table_checks file at 16) fault h in
      rw p.0 (among [] (table_checks file at 16) (strings_checks file at) fault refl p.1)

  module _ (some : (sh_size file at == 0) ≡ false) (table : TableRange) (held : table_at file at 16 ≡ Ok table) where
    own : (first_refusal (table_checks file at 16) ≡ None) × (rows (sh_offset file at) (sh_size file at / 16) 16 ≡ table)
    own =
        let p = table-passes (sh_size file at == 0) (rows (sh_offset file at) 0 16) (rows (sh_offset file at) (sh_size file at / 16) 16) table (table_checks file at 16) held in
        (rw some at p.0, rw some at p.1)

    pub strings_fail : (fault : Fault) → strings_linked file at ≡ Err fault → RefusedBy (dynamic_table_checks file at) fault
    strings_fail fault h =
        let names = names_at file (section_at file (sh_link file at)) in
        rw some (among (table_checks file at 16) (strings_checks file at) [] fault own.0 (table-fails false names names (strings_checks file at) fault h).1)

    pub dynamic_passes : (names : StringTableRange) → strings_linked file at ≡ Ok names
        → (first_refusal (dynamic_table_checks file at) ≡ None)
        × ((style : ListingStyle) → entries_at file style (sh_offset file at) (entry_count file at 16) (λ entry. Ok (strings_of file at)) ≡ entries_at file style table.at table.count (λ entry. Ok (slice file names.at names.size)))
    dynamic_passes names h =
        let linked = passed_first (first_refusal (strings_checks file at)) (names_at file (section_at file (sh_link file at))) names h in
        (rw some (first_refusal-none (table_checks file at 16) (strings_checks file at) own.0 ∙ linked.0), λ style. rw (← own.1, ← linked.1) refl)

-- the dynamic entries of a segment: their strings are where the entries say
strings_found : (file : List ℕ) (table : TableRange) (found : DynamicStrings) → AreStrings file table found
    → mapped_strings file table.at (dynamic_count file table.at table.count) ≡ (λ entry. strings_mapped file entry found.address found.size)
unfolding mapped_strings
strings_found file table found are =
    ap (λ (address : Option ℕ). λ (entry : ℕ). strings_mapped file entry address (listed_value file table.at table.count DT_STRSZ)) (sym are.its_address)
    ∙ ap (λ (size : Option ℕ). λ (entry : ℕ). strings_mapped file entry found.address size) (sym are.its_size)

pub whole_fails : (file : List ℕ) (at : ℕ) (fault : Fault) → table_of_segment file at ≡ Err fault → RefusedBy (segment_dynamic_checks file at) fault
whole_fails file at fault h = let all = rows (p_offset file at) (p_filesz file at / 16) 16 in (table-fails false all all (segment_dynamic_checks file at) fault h).1

pub segment_passes : (file : List ℕ) (style : ListingStyle) (at : ℕ) (table : TableRange) (found : DynamicStrings) → table_of_segment file at ≡ Ok table → AreStrings file table found
    → (first_refusal (segment_dynamic_checks file at) ≡ None)
    × (entries_at file style (p_offset file at) (p_filesz file at / 16) (mapped_strings file (p_offset file at) (dynamic_count file (p_offset file at) (p_filesz file at / 16)))
    ≡ entries_at file style table.at table.count (λ entry. strings_mapped file entry found.address found.size))
segment_passes file style at table found h are =
    let p = passed_first (first_refusal (segment_dynamic_checks file at)) (rows (p_offset file at) (p_filesz file at / 16) 16) table h in (
      p.0,
      ap (λ (t : TableRange). entries_at file style t.at t.count (mapped_strings file t.at (dynamic_count file t.at t.count))) p.1
          ∙ ap (entries_at file style table.at table.count) (strings_found file table found are),
    )
