-- The versions after the names of symbols.
use Rattle.std.proofs.Common.{◌≡◌, ℕ, zero, suc, ◌==◌, ◌&&◌, nat_lt, not, if◌then◌else◌, Bool, true, false, List, [], ◌∷◌, Option, None, Some, Result, Ok, Err, refl, sym, ap, ◌∙◌, append-nil}
use Rattle.elf_model.specs.Prelude.{DisplayedName, Line, LinePrefix, ListingItem, ListingStyle, NoSuffix, RowFilter, SHT_GNU_VERDEF, SHT_GNU_VERNEED, Suffix, Suffixed, UndefinedHaveNoDefault, UnversionedEntriesArePlain, UnversionedSymbolsArePlain, VisitedRecord, after_refusal, all_checks, chooses, chosen_row, e_machine, each, entry_at, entry_count, first_refusal, has_symbols, is_default as is_default_of, line_named, line_suffixed, linked_at, name_index, name_member, name_text, named_at, named_line, number_in, or_refusal, r_sym, relocation_choice, relocation_prefix, relocation_row, relocation_row_with_version, relocation_size, relocations, relocations_with_versions, section_at, sh_link, shown, st_name, st_shndx, strings_of, suffix_at, suffix_members, suffix_of, suffix_text, suffixed_line, suffixed_relocation_rows, suffixed_row, suffixed_symbol_rows, suffixed_symbols, suffixes_refusal, symbol_choice, symbol_named, symbol_prefix, symbol_row, symbol_row_with_version, symbol_suffix, symbol_versions, symbols, version_named, version_numbers_of, version_strings, versym, walk_refusal, word_suffix}
use Rattle.elf_model.specs.declared.causes.Cause.{Cause}
use Rattle.elf_model.specs.declared.formats.Format.TheVariants.{Columns, Object, Table}
use Rattle.elf_model.specs.declared.versions.VersionKind.TheVariants.{Definition, File}
use Rattle.elf_model.specs.declared.formats.Format.{Format}
use Rattle.elf_model.specs.declared.causes.Refusal.{Refusal}
use Rattle.elf_model.specs.declared.causes.Cause.TheVariants.{VersionCut, VersionIndex}

-- a line with nothing after its name
pub unsuffixed_line : (front : LinePrefix) (name : DisplayedName) → suffixed_line front name NoSuffix ≡ named_line front name
unfolding line_suffixed line_named suffix_text suffix_members
unsuffixed_line front name = by_format front.format
  where
    by_format : (format : Format) → line_suffixed format front.key front.text name NoSuffix ≡ line_named format front.key front.text name
    by_format Columns = rw (append-nil (name_text name)) refl
    by_format Table = rw (append-nil (name_text name)) refl
    by_format Object = rw (append-nil (name_member front.key name)) refl

-- a row with nothing after its name
pub unsuffixed_row : (choice : RowFilter) (front : LinePrefix) (at : ℕ) (name : Result DisplayedName Cause)
    → suffixed_row choice front at name (Ok NoSuffix) ≡ chosen_row choice front at name
unsuffixed_row choice front at (Err cause) = refl
unsuffixed_row choice front at (Ok name) =
    ap (λ (line : List ℕ). if chooses choice name NoSuffix then Line line ∷ [] else []) (unsuffixed_line front name)

-- rows that are equal one by one
pub each_same : (row other : ℕ → List ListingItem) (first count : ℕ) → ((i : ℕ) → row i ≡ other i) → each row first count ≡ each other first count
unfolding each
each_same row other first zero same = refl
each_same row other first (suc count) same = let one = same first in let more = each_same row other (suc first) count same in cc

-- a table without a versym section has no versions, and no refusal of them
no_suffix : (file : List ℕ) (cap table symbol_at index : ℕ) → version_numbers_of file table ≡ None → symbol_suffix file cap table symbol_at index ≡ Ok NoSuffix
unfolding symbol_suffix
no_suffix file cap table symbol_at index none = rw (none, symbol_suffix) refl

no_refusal : (file : List ℕ) (table : ℕ) → version_numbers_of file table ≡ None → suffixes_refusal file table ≡ None
unfolding suffixes_refusal
no_refusal file table none = by_empty (entry_count file (section_at file table) 24 == 0)
  where
    by_empty : (empty : Bool)
        → (if empty then None
        else elim (version_numbers_of file table) as (λ _. Option Refusal) [
          | None ↦ None
          | Some i ↦
              or_refusal (first_refusal (all_checks symbol_versions.checks file (section_at file i)))
              (or_refusal (walk_refusal Definition SHT_GNU_VERDEF file) (walk_refusal File SHT_GNU_VERNEED file))
        ])
        ≡ None
    by_empty true = refl
    by_empty false = rw none refl

plain_symbol : (file : List ℕ) (style : ListingStyle) (section at index : ℕ) → version_numbers_of file section ≡ None
    → symbol_row_with_version file style section at index ≡ symbol_row file style section at index
unfolding symbol_row_with_version symbol_row
plain_symbol file style section at index none =
    let symbol_at : ℕ = entry_at file at 24 index in
    let front : LinePrefix = symbol_prefix style.format style.gnu (e_machine file) file symbol_at section index in
    let name : Result DisplayedName Cause = shown (strings_of file at) (st_name file symbol_at) style.cap in
    ap (suffixed_row (symbol_choice file style at symbol_at) front symbol_at name) (no_suffix file style.cap section symbol_at index none)
    ∙ unsuffixed_row (symbol_choice file style at symbol_at) front symbol_at name

pub unversioned_symbols : UnversionedSymbolsArePlain
unfolding suffixed_symbols symbols suffixed_symbol_rows
unversioned_symbols file style section at none =
    rw (no_refusal file section none) (each_same _ _ _ _ (λ i. plain_symbol file style section at i none))

-- what follows a symbol of an entry, if its table has no versym section
plain_entry : (addends : Bool) (file : List ℕ) (style : ListingStyle) (section at index : ℕ) → version_numbers_of file (sh_link file at) ≡ None
    → relocation_row_with_version addends file style section at index ≡ relocation_row addends file style section at index
unfolding relocation_row_with_version relocation_row
plain_entry addends file style section at index none =
    let rela_at : ℕ = entry_at file at (relocation_size addends) index in
    let symbol : ℕ = r_sym file rela_at in
    let named = symbol_named file style.cap at rela_at symbol in
    let front : LinePrefix = relocation_prefix addends style.format style.gnu (e_machine file) file rela_at section in
    let behind : Result Suffix Refusal = symbol_suffix file style.cap (sh_link file at) (entry_at file (linked_at file at) 24 symbol) symbol in
    let has_none : (if symbol == 0 then Ok NoSuffix else behind) ≡ Ok NoSuffix =
    by_symbol (symbol == 0) behind (no_suffix file style.cap (sh_link file at) (entry_at file (linked_at file at) 24 symbol) symbol none) in
    ap (suffixed_row (relocation_choice addends file style rela_at) front named.0 named.1) has_none ∙ unsuffixed_row (relocation_choice addends file style rela_at) front named.0 named.1
  where
    by_symbol : (first : Bool) (suffix : Result Suffix Refusal) → suffix ≡ Ok NoSuffix → (if first then Ok NoSuffix else suffix) ≡ Ok NoSuffix
    by_symbol true suffix is = refl
    by_symbol false suffix is = is

no_refusal_linked : (file : List ℕ) (linked : Bool) (table : ℕ) → version_numbers_of file table ≡ None → (if linked then suffixes_refusal file table else None) ≡ None
no_refusal_linked file true table none = no_refusal file table none
no_refusal_linked file false table none = refl

pub unversioned_entries : UnversionedEntriesArePlain
unfolding relocations_with_versions relocations suffixed_relocation_rows
unversioned_entries addends file style section at none =
    ap (λ (refusal : Option Refusal). after_refusal refusal (each (relocation_row_with_version addends file style section at) 0 (entry_count file at (relocation_size addends))))
    (no_refusal_linked file (has_symbols file at && not (entry_count file at (relocation_size addends) == 0)) (sh_link file at) none)
    ∙ each_same _ _ _ _ (λ i. plain_entry addends file style section at i none)

-- an undefined symbol has no default version
default_none : (word : Bool) (undefined : Bool) → undefined ≡ true → word && not undefined ≡ false
default_none true true is = refl
default_none false true is = refl
default_none word false is = cc

suffix_default : (b : Bool) (at : ℕ) (answer : Result DisplayedName Cause) (is_default : Bool) (name : DisplayedName) → b ≡ false → suffix_of b at answer ≡ Ok (Suffixed is_default name) → is_default ≡ false
suffix_default b at (Ok shown) is_default name none is = let same : b ≡ is_default = cc in sym same ∙ none
suffix_default b at (Err cause) is_default name none is = cc

pub undefined_default : UndefinedHaveNoDefault
unfolding symbol_suffix suffix_at word_suffix
undefined_default file cap table symbol_at index is_default name undefined is = by_numbers (version_numbers_of file table) is
  where
    by_met : (word at : ℕ) (found : Option VisitedRecord)
        → (elim found as (λ _. Result Suffix Refusal) [
          | None ↦ Err (record { at = at; cause = VersionIndex })
          | Some met ↦ suffix_of (is_default_of file symbol_at word) (named_at file met) (shown (version_strings file met.kind) (name_index file met) cap)
        ])
        ≡ Ok (Suffixed is_default name)
        → is_default ≡ false
    by_met word at None same = absurd cc
    by_met word at (Some met) same =
        suffix_default (is_default_of file symbol_at word) (named_at file met) _ is_default name
        (default_none (word == number_in word) (st_shndx file symbol_at == 0) (rw undefined refl)) same

    by_number : (word at : ℕ) (few : Bool)
        → (if few then Ok NoSuffix
        else elim (version_named file (number_in word)) as (λ _. Result Suffix Refusal) [
          | None ↦ Err (record { at = at; cause = VersionIndex })
          | Some met ↦ suffix_of (is_default_of file symbol_at word) (named_at file met) (shown (version_strings file met.kind) (name_index file met) cap)
        ])
        ≡ Ok (Suffixed is_default name)
        → is_default ≡ false
    by_number word at true same = absurd cc
    by_number word at false same = by_met word at (version_named file (number_in word)) same

    by_count : (at : ℕ) (some : Bool)
        → (if some then word_suffix file cap (entry_at file at 2 index) symbol_at else Err (record { at = at; cause = VersionCut })) ≡ Ok (Suffixed is_default name)
        → is_default ≡ false
    by_count at true same =
        let word_at : ℕ = entry_at file at 2 index in
        by_number (versym file word_at) word_at (nat_lt (number_in (versym file word_at)) 2) same
    by_count at false same = absurd cc

    by_numbers : (found : Option ℕ)
        → (elim found as (λ _. Result Suffix Refusal) [ None ↦ Ok NoSuffix | Some i ↦ suffix_at file cap (section_at file i) symbol_at index ]) ≡ Ok (Suffixed is_default name)
        → is_default ≡ false
    by_numbers None same = absurd cc
    by_numbers (Some i) same = by_count (section_at file i) (nat_lt index (entry_count file (section_at file i) 2)) same
