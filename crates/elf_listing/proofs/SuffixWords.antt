-- What the entry of a symbol gives, by the cases of the definition.
use Rattle.std.proofs.Common.{◌≡◌, ℕ, ◌+◌, ◌*◌, ◌<◌, ◌≤◌, ◌==◌, ◌&&◌, nat_lt, not, Bool, true, false, List, Option, None, Some, Result, Ok, Err, refl, sym, ap, ◌∙◌, arith}
use Rattle.std.proofs.lemmas.Bool.{eq-eqb, le-ltb, lt-ltb, ne_eqb}
use Rattle.elf_model.specs.Prelude.{NoSuffix, Suffix, entry_at, entry_count, is_default, number_in, section_at, st_shndx, suffix_at, symbol_suffix, versym, word_suffix}
use Rattle.elf_model.specs.declared.causes.Refusal.{Refusal}
use Rattle.elf_model.specs.declared.causes.Cause.TheVariants.{VersionCut}
use Rattle.elf_table.specs.Prelude.{IsOfRead}
use Rattle.elf_table.specs.declared.fault.Fault.{Fault}
use Rattle.elf_table.specs.declared.names.NameEnd.{NameEnd}
use Rattle.elf_table.specs.declared.fault.Fault.TheVariants.{Refused, Source}
use Rattle.elf_listing.specs.Prelude.{AreSuffixes, SuffixNamed, SuffixRead, number_reported}
use Rattle.elf_listing.specs.declared.suffixes.VersionLookup.{VersionLookup}

-- the entry was not read
pub suffix_unread : (fault : Fault) (version : List ℕ) (answer : Result Suffix Refusal) → IsOfRead fault → SuffixRead (Err fault) version answer
suffix_unread (Refused refusal) version answer read = λ other. absurd (other read)
suffix_unread (Source fault at) version answer read = tt

module _ (file : List ℕ) (table : ℕ) (suffixes : VersionLookup) (are : AreSuffixes file table suffixes) (cap symbol_at index : ℕ) where
  suffix_is : symbol_suffix file cap table symbol_at index ≡ suffix_at file cap (section_at file are.section) symbol_at index
  unfolding symbol_suffix
  suffix_is =
      ap (λ (found : Option ℕ). elim found as (λ _. Result Suffix Refusal) [ None ↦ Ok NoSuffix | Some i ↦ suffix_at file cap (section_at file i) symbol_at index ]) are.found

  -- no entry for the symbol
  pub suffix_cut : suffixes.words.count ≤ index → symbol_suffix file cap table symbol_at index ≡ Err (record { at = suffixes.at; cause = VersionCut })
  unfolding suffix_at
  suffix_cut far =
      let few : nat_lt index (entry_count file (section_at file are.section) 2) ≡ false = le-ltb index _ (omega (arith, far, are.counted)) in
      suffix_is ∙ rw (few, are.here) refl

  module _ (there : index < suffixes.words.count) (word_at word : ℕ) (here : word_at ≡ suffixes.words.at + index * 2) (is : word ≡ versym file word_at) where
    word_is_at : symbol_suffix file cap table symbol_at index ≡ word_suffix file cap word_at symbol_at
    unfolding suffix_at
    word_is_at =
        let few : nat_lt index (entry_count file (section_at file are.section) 2) ≡ true = lt-ltb index _ (omega (arith, there, are.counted)) in
        let place : entry_at file (section_at file are.section) 2 index ≡ word_at = omega (arith, here, are.placed) in
        suffix_is ∙ (rw few refl ∙ ap (λ (at : ℕ). word_suffix file cap at symbol_at) place)

    -- a version index of no version
    pub suffix_none : number_in word < 2 → symbol_suffix file cap table symbol_at index ≡ Ok NoSuffix
    unfolding word_suffix
    suffix_none few =
        let low : nat_lt (number_in (versym file word_at)) 2 ≡ true = lt-ltb _ 2 (rw is at few) in
        word_is_at ∙ rw low refl

    -- a version index that a record names, or none
    pub suffix_named : 2 ≤ number_in word
        → symbol_suffix file cap table symbol_at index ≡ number_reported file cap (number_in word) word_at (is_default file symbol_at word)
    unfolding word_suffix
    suffix_named many =
        let high : nat_lt (number_in (versym file word_at)) 2 ≡ false = le-ltb _ 2 (rw is at many) in
        word_is_at ∙ (rw high refl ∙ ap (λ (w : ℕ). number_reported file cap (number_in w) word_at (is_default file symbol_at w)) (sym is))

-- what was read of its name is what was read of the version
pub named_read : (end : NameEnd) (version : List ℕ) (answer : Result Suffix Refusal) (told : Bool → Result Suffix Refusal) (default : Bool) → answer ≡ told default
    → SuffixNamed (Ok end) version told → SuffixRead (Ok (Some (record { is_default = default; end = end }))) version answer
named_read end version answer told default is named = is ∙ named default

pub named_failed : (fault : Fault) (version : List ℕ) (answer : Result Suffix Refusal) (told : Bool → Result Suffix Refusal) (default : Bool) → answer ≡ told default
    → SuffixNamed (Err fault) version told → SuffixRead (Err fault) version answer
named_failed (Refused refusal) version answer told default is named = λ other. is ∙ named other default
named_failed (Source fault at) version answer told default is named = tt

-- whether it is the default one, by the entry and the symbol
pub default_of : (file : List ℕ) (symbol_at word : ℕ) (is_defined : Bool) → word ≡ number_in word → is_defined ≡ not (st_shndx file symbol_at == 0)
    → is_default file symbol_at word ≡ is_defined
default_of file symbol_at word is_defined same defined =
    ap (λ (b : Bool). b && not (st_shndx file symbol_at == 0)) (eq-eqb word (number_in word) same) ∙ sym defined

pub default_none : (file : List ℕ) (symbol_at word : ℕ) → (word ≡ number_in word → ⊥) → is_default file symbol_at word ≡ (word == number_in word)
default_none file symbol_at word other =
    let hidden = ne_eqb word (number_in word) other in
    ap (λ (b : Bool). b && not (st_shndx file symbol_at == 0)) hidden ∙ sym hidden
