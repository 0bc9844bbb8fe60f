-- The rows of a table with versions after the names of symbols: those of a plain table, the first
-- refusal, or its own.
use Rattle.std.proofs.Common.{◌≡◌, ℕ, ◌+◌, ◌<◌, ◌≤◌, nat_lt, ◌==◌, ◌&&◌, not, if◌then◌else◌, Bool, true, false, List, [], ◌∷◌, Option, None, Some, Result, Ok, Err, ◌⊎◌, inl, inr, refl, sym, ap, ◌∙◌, arith}
use Rattle.std.proofs.lemmas.Bool.{le-ltb, ne_eqb}
use Rattle.elf_model.specs.Prelude.{DisplayedName, LinePrefix, ListingItem, ListingStyle, NoSuffix, RowFilter, Suffix, after_refusal, all_checks, chosen_row, e_machine, each, entry_at, entry_count, first_refusal, has_symbols, is_symbol_table, linked_at, r_sym, refuse, relocation_choice, relocation_prefix, relocation_row, relocation_row_with_version, relocation_size, relocation_type, relocations, relocations_with_versions, section_at, sh_link, sh_type, suffixed_relocation_rows, suffixed_row, suffixed_symbol_rows, suffixed_symbols, suffixes_refusal, symbol_checks_of, symbol_named, symbol_row, symbol_row_with_version, symbol_suffix, symbol_table, symbols, table_rows}
use Rattle.elf_model.specs.declared.causes.Cause.TheVariants.{BadLink, SymbolIndex}
use Rattle.elf_model.specs.declared.causes.Cause.{Cause}
use Rattle.elf_model.specs.declared.causes.Refusal.{Refusal}
use Rattle.elf_model.proofs.SuffixLaws.{each_same, unsuffixed_row, unversioned_entries, unversioned_symbols}
use Rattle.elf_table.specs.Prelude.{AreEntries, RefersTo, StringTableRange, TableRange, stop_of}
use Rattle.elf_table.specs.declared.fault.Fault.{Fault}
use Rattle.elf_table.specs.declared.run_fault.RunFault.{RunFault}
use Rattle.elf_table.specs.declared.fault.Fault.TheVariants.{Refused, Source}
use Rattle.elf_source.specs.Prelude.{OutState}
use Rattle.elf_source.specs.declared.source.Source.{Ghosts as Sources}
use Rattle.elf_source.specs.declared.sink.Sink.{Ghosts as Sinks}
use Rattle.elf_listing.specs.Prelude.{AreSuffixes, LinkedOr, ListingCalls, ListingReads, SuffixesOr, WroteItems, WroteUntilStop}
use Rattle.elf_listing.specs.declared.listing.Listing.{Listing}
use Rattle.elf_listing.specs.declared.suffixes.VersionLookup.{VersionLookup}
use Rattle.elf_listing.proofs.ListsLaws.{SameFile-then}
use Rattle.elf_listing.proofs.RowLaws.{Ends-first, WrotePrefix-none}
use Rattle.elf_listing.proofs.SectionShown.{table_passes}
use Rattle.elf_listing.proofs.ShowLaws.{SpentCredit-then, Whole-none}

-- something was read, and then rows were shown
pub ListingCalls-after : {S W X Y : Type 0} {s : Sources S} {w : Sinks W} (a b c : Listing S W s w) (y : Y) (result : Result X RunFault) (n m k : ℕ) (read : Type 0) {shown : Type 0}
    → n + m ≤ k → ListingReads a b (Ok y) n → ListingCalls b c result m read → shown → ListingCalls a c result k shown
ListingCalls-after a b c y result n m k read within p q is = record {
  grows = rw (← p.1) q.grows;
  keeps = SameFile-then p.0 q.keeps;
  spent = SpentCredit-then _ _ _ _ _ _ _ _ _ _ _ within p.2 q.spent;
  shows = is;
}

-- what refuses the versions replaces the rows
pub refused_rows : (a : OutState) (file : List ℕ) (table : ℕ) (fault : Fault) (all rows : List ListingItem) → all ≡ after_refusal (suffixes_refusal file table) rows
    → SuffixesOr file table (Err fault) → WroteUntilStop a a (stop_of fault) all
refused_rows a file table (Refused refusal) all rows is or =
    Ends-first a refusal all (λ other. is ∙ ap (λ (first : Option Refusal). after_refusal first rows) (or other))
refused_rows a file table (Source fault offset) all rows is or = WrotePrefix-none a all

module _ (file : List ℕ) (style : ListingStyle) (section : ℕ) (kind : is_symbol_table file (section_at file section) ≡ true)
    (pass : first_refusal (all_checks symbol_table file (section_at file section)) ≡ None) where
  symbols_are : table_rows suffixed_symbols file style section (section_at file section)
      ≡ after_refusal (suffixes_refusal file section) (each (symbol_row_with_version file style section (section_at file section)) 0 (entry_count file (section_at file section) 24))
  unfolding suffixed_symbols suffixed_symbol_rows
  symbols_are = table_passes suffixed_symbols file style section (section_at file section) kind pass

  -- the rows of a table whose versions are found
  pub symbols_shown : (count : ℕ) → count ≡ entry_count file (section_at file section) 24 → suffixes_refusal file section ≡ None
      → table_rows suffixed_symbols file style section (section_at file section) ≡ each (symbol_row_with_version file style section (section_at file section)) 0 count
  symbols_shown count counted none =
      let rows : ℕ → List ListingItem = λ n. each (symbol_row_with_version file style section (section_at file section)) 0 n in
      symbols_are
      ∙ (ap (λ (first : Option Refusal). after_refusal first (rows (entry_count file (section_at file section) 24))) none ∙ ap rows (sym counted))

  -- of one without versions
  pub symbols_plain : (count : ℕ) → count ≡ entry_count file (section_at file section) 24 → SuffixesOr file section (Ok None)
      → table_rows suffixed_symbols file style section (section_at file section) ≡ each (symbol_row file style section (section_at file section)) 0 count
  unfolding suffixed_symbols symbols each
  symbols_plain count counted (none, inl empty) = symbols_shown count counted none ∙ rw (counted, empty) refl
  symbols_plain count counted (none, inr unnumbered) =
      table_passes suffixed_symbols file style section (section_at file section) kind pass
      ∙ (unversioned_symbols file style section (section_at file section) unnumbered ∙ ap (each (symbol_row file style section (section_at file section)) 0) (sym counted))

-- and of one whose versions are refused
pub symbols_refused : (a : OutState) (file : List ℕ) (style : ListingStyle) (section : ℕ) → is_symbol_table file (section_at file section) ≡ true
    → first_refusal (all_checks symbol_table file (section_at file section)) ≡ None → (fault : Fault) → SuffixesOr file section (Err fault)
    → WroteUntilStop a a (stop_of fault) (table_rows suffixed_symbols file style section (section_at file section))
symbols_refused a file style section kind pass fault or = refused_rows a file section fault _ _ (symbols_are file style section kind pass) or

-- an entry whose symbol is refused, of a section that refers to no symbols, or to none of them
either_fails : (zero has few : Bool) (place : ℕ) → zero ≡ false → (has ≡ false) ⊎ (few ≡ false)
    → (refusal : Refusal) × (first_refusal (refuse (not zero && not has) place BadLink ∷ refuse (not zero && not few) place SymbolIndex ∷ []) ≡ Some refusal)
either_fails true has few place some or = absurd cc
either_fails false false few place some or = (record { at = place; cause = BadLink }, refl)
either_fails false true false place some or = (record { at = place; cause = SymbolIndex }, refl)
either_fails false true true place some (inl unlinked) = absurd cc
either_fails false true true place some (inr none) = absurd cc

named_by : (zero : Bool) (first : Option Refusal) (refusal : Refusal) (none some : ℕ × Result DisplayedName Cause) → zero ≡ false → first ≡ Some refusal
    → (if zero then none else elim first as (λ _. ℕ × Result DisplayedName Cause) [ Some r ↦ (r.at, Err r.cause) | None ↦ some ]) ≡ (refusal.at, Err refusal.cause)
named_by true first refusal none some zero is = absurd cc
named_by false first refusal none some zero is =
    ap (λ (f : Option Refusal). elim f as (λ _. ℕ × Result DisplayedName Cause) [ Some r ↦ (r.at, Err r.cause) | None ↦ some ]) is

module _ (file : List ℕ) (at rela_at : ℕ) (unnamed : (has_symbols file at ≡ false) ⊎ (entry_count file (linked_at file at) 24 ≡ 0)) (symbol : ℕ) (some : (symbol == 0) ≡ false) where
  symbol_fails : (refusal : Refusal) × (first_refusal (symbol_checks_of file at rela_at symbol) ≡ Some refusal)
  symbol_fails =
      let few : ℕ = entry_count file (linked_at file at) 24 in
      either_fails (symbol == 0) (has_symbols file at) (nat_lt symbol few) rela_at some
      (elim unnamed [ inl unlinked ↦ inl unlinked | inr none ↦ inr (le-ltb symbol few (omega (arith, none))) ])

  named_fails : (limit : ℕ) → symbol_named file limit at rela_at symbol ≡ (symbol_fails.0.at, Err symbol_fails.0.cause)
  unfolding symbol_named
  named_fails limit = named_by (symbol == 0) (first_refusal (symbol_checks_of file at rela_at symbol)) symbol_fails.0 _ _ some symbol_fails.1

-- a name that is refused comes before its version
refused_name : (choice : RowFilter) (front : LinePrefix) (named : ℕ × Result DisplayedName Cause) (at : ℕ) (cause : Cause) (suffix : Result Suffix Refusal) → named ≡ (at, Err cause)
    → suffixed_row choice front named.0 named.1 suffix ≡ chosen_row choice front named.0 named.1
refused_name choice front named at cause suffix is = rw is refl

unnamed_entry : (addends : Bool) (file : List ℕ) (style : ListingStyle) (section at index : ℕ) → (has_symbols file at ≡ false) ⊎ (entry_count file (linked_at file at) 24 ≡ 0)
    → relocation_row_with_version addends file style section at index ≡ relocation_row addends file style section at index
unfolding relocation_row_with_version relocation_row
unnamed_entry addends file style section at index unnamed = by_symbol (r_sym file (entry_at file at (relocation_size addends) index) == 0) refl
  where
    by_symbol : (first : Bool) → (r_sym file (entry_at file at (relocation_size addends) index) == 0) ≡ first
        → suffixed_row (relocation_choice addends file style (entry_at file at (relocation_size addends) index)) (relocation_prefix addends style.format style.gnu (e_machine file) file (entry_at file at (relocation_size addends) index) section)
        (symbol_named file style.cap at (entry_at file at (relocation_size addends) index) (r_sym file (entry_at file at (relocation_size addends) index))).0
        (symbol_named file style.cap at (entry_at file at (relocation_size addends) index) (r_sym file (entry_at file at (relocation_size addends) index))).1
        (if first then Ok NoSuffix
        else symbol_suffix file style.cap (sh_link file at) (entry_at file (linked_at file at) 24 (r_sym file (entry_at file at (relocation_size addends) index))) (r_sym file (entry_at file at (relocation_size addends) index)))
        ≡ chosen_row (relocation_choice addends file style (entry_at file at (relocation_size addends) index)) (relocation_prefix addends style.format style.gnu (e_machine file) file (entry_at file at (relocation_size addends) index) section)
        (symbol_named file style.cap at (entry_at file at (relocation_size addends) index) (r_sym file (entry_at file at (relocation_size addends) index))).0
        (symbol_named file style.cap at (entry_at file at (relocation_size addends) index) (r_sym file (entry_at file at (relocation_size addends) index))).1
    by_symbol true is = unsuffixed_row (relocation_choice addends file style (entry_at file at (relocation_size addends) index)) _ _ _
    by_symbol false is = refused_name (relocation_choice addends file style (entry_at file at (relocation_size addends) index)) _ _ _ _ _ (named_fails file at (entry_at file at (relocation_size addends) index) unnamed (r_sym file (entry_at file at (relocation_size addends) index)) is style.cap)

-- what refuses the versions, of a section that refers to symbols and has entries
abbrev linked_refusal : (has empty : Bool) → Option Refusal → Option Refusal
linked_refusal has empty first = if has && not empty then first else None

linked_none : (has empty : Bool) (first : Option Refusal) → first ≡ None → linked_refusal has empty first ≡ None
linked_none true true first none = refl
linked_none true false first none = none
linked_none false empty first none = refl

module _ (addends : Bool) (file : List ℕ) (style : ListingStyle) (section : ℕ) (kind : (sh_type file (section_at file section) == relocation_type addends) ≡ true) (table : TableRange) where
  entries_are : (linked : Option (TableRange × StringTableRange)) → AreEntries addends file (section_at file section) table linked
      → table_rows (relocations_with_versions addends) file style section (section_at file section)
      ≡ after_refusal
      (linked_refusal (has_symbols file (section_at file section)) (table.count == 0) (suffixes_refusal file (sh_link file (section_at file section))))
      (each (relocation_row_with_version addends file style section (section_at file section)) 0 table.count)
  unfolding relocations_with_versions suffixed_relocation_rows
  entries_are linked are = rw are.counted (table_passes (relocations_with_versions addends) file style section (section_at file section) kind are.pass)

  -- the rows of a table whose versions are found
  pub entries_shown : (linked : Option (TableRange × StringTableRange)) → AreEntries addends file (section_at file section) table linked → suffixes_refusal file (sh_link file (section_at file section)) ≡ None
      → table_rows (relocations_with_versions addends) file style section (section_at file section) ≡ each (relocation_row_with_version addends file style section (section_at file section)) 0 table.count
  entries_shown linked are none =
      entries_are linked are
      ∙ ap (λ (first : Option Refusal). after_refusal first (each (relocation_row_with_version addends file style section (section_at file section)) 0 table.count))
      (linked_none (has_symbols file (section_at file section)) (table.count == 0) (suffixes_refusal file (sh_link file (section_at file section))) none)

  -- of one whose symbols have none, or which refers to no symbols
  pub entries_unnumbered : (linked : Option (TableRange × StringTableRange)) → AreEntries addends file (section_at file section) table linked
      → SuffixesOr file (sh_link file (section_at file section)) (Ok None)
      → table_rows (relocations_with_versions addends) file style section (section_at file section) ≡ each (relocation_row addends file style section (section_at file section)) 0 table.count
  unfolding relocations_with_versions relocations
  entries_unnumbered linked are (none, inl empty) = entries_shown linked are none ∙ each_same _ _ 0 table.count (λ i. unnamed_entry addends file style section (section_at file section) i (inr empty))
  entries_unnumbered linked are (none, inr unnumbered) =
      table_passes (relocations_with_versions addends) file style section (section_at file section) kind are.pass
      ∙ (unversioned_entries addends file style section (section_at file section) unnumbered ∙ ap (each (relocation_row addends file style section (section_at file section)) 0) (sym are.counted))

  pub entries_plain : (linked : Option (TableRange × StringTableRange)) → 0 < table.count → AreEntries addends file (section_at file section) table linked
      → LinkedOr file (sh_link file (section_at file section)) linked (Ok None)
      → table_rows (relocations_with_versions addends) file style section (section_at file section) ≡ each (relocation_row addends file style section (section_at file section)) 0 table.count
  entries_plain None some are or =
      let at = section_at file section in
      let unlinked = are.refers some in
      let rows : List ListingItem = each (relocation_row_with_version addends file style section at) 0 table.count in
      entries_are None are
      ∙ (ap (λ (has : Bool). after_refusal (linked_refusal has (table.count == 0) (suffixes_refusal file (sh_link file at))) rows) unlinked
      ∙ each_same _ _ 0 table.count (λ i. unnamed_entry addends file style section at i (inl unlinked)))
  entries_plain (Some found) some are or = let linked = are.refers some in entries_unnumbered (Some found) are (or linked.1.counted)

  -- and of one whose versions are refused
  pub entries_refused : (a : OutState) (linked : Option (TableRange × StringTableRange)) → 0 < table.count → AreEntries addends file (section_at file section) table linked
      → (fault : Fault) → LinkedOr file (sh_link file (section_at file section)) linked (Err fault)
      → WroteUntilStop a a (stop_of fault) (table_rows (relocations_with_versions addends) file style section (section_at file section))
  entries_refused a None some are fault or = absurd cc
  entries_refused a (Some found) some are fault or =
      let at = section_at file section in
      let linked = are.refers some in
      let filled : (table.count == 0) ≡ false = ne_eqb table.count 0 (λ zero. omega (arith, zero, some)) in
      let rows : List ListingItem = each (relocation_row_with_version addends file style section at) 0 table.count in
      refused_rows a file (sh_link file at) fault _ rows
      (entries_are (Some found) are
      ∙ (ap (λ (has : Bool). after_refusal (linked_refusal has (table.count == 0) (suffixes_refusal file (sh_link file at))) rows) linked.0
      ∙ ap (λ (empty : Bool). after_refusal (linked_refusal true empty (suffixes_refusal file (sh_link file at))) rows) filled))
      (or linked.1.counted)

  -- no entries have no rows
  pub no_entries : (a : OutState) (linked : Option (TableRange × StringTableRange)) → table.count ≡ 0 → AreEntries addends file (section_at file section) table linked
      → WroteItems a a (table_rows (relocations_with_versions addends) file style section (section_at file section))
  unfolding each
  no_entries a linked none are =
      let at = section_at file section in
      let rows = entries_are linked are in
      let nothing : linked_refusal (has_symbols file at) true (suffixes_refusal file (sh_link file at)) ≡ None = by_link (has_symbols file at) (suffixes_refusal file (sh_link file at)) in
      rw (rows, none, nothing) (Whole-none a)
    where
      by_link : (has : Bool) (first : Option Refusal) → linked_refusal has true first ≡ None
      by_link true first = refl
      by_link false first = refl

-- what is found is of the symbols that are referred to
pub linked_found : (file : List ℕ) (at : ℕ) (linked : Option (TableRange × StringTableRange)) {suffixes : VersionLookup} → RefersTo file at linked → LinkedOr file (sh_link file at) linked (Ok (Some suffixes))
    → (suffixes_refusal file (sh_link file at) ≡ None) × AreSuffixes file (sh_link file at) suffixes
linked_found file at None refers or = absurd cc
linked_found file at (Some found) refers or = or refers.1.counted
