-- The name of a version by its index, in the string table that holds it.
use Rattle.std.proofs.Common.{◌≡◌, ℕ, ◌<◌, nat_lt, Bool, false, List, ◌++◌, length, slice_index_or, Option, None, Some, Result, Ok, Err, refl, sym, ap, ◌∙◌}
use Rattle.elf_model.specs.Prelude.{DisplayedName, SHT_GNU_VERDEF, SHT_GNU_VERNEED, Suffix, VisitedRecord, first_versions, name_index, named_at, named_by, shown, suffix_of, version_named, version_of, version_strings}
use Rattle.elf_model.specs.declared.causes.Cause.{Cause}
use Rattle.elf_model.specs.declared.versions.VersionKind.TheVariants.{Definition, File}
use Rattle.elf_model.specs.declared.causes.Refusal.{Refusal}
use Rattle.elf_model.specs.declared.causes.Cause.TheVariants.{VersionIndex}
use Rattle.elf_table.specs.Prelude.{NameRead, strings_in}
use Rattle.elf_table.specs.declared.names.NameEnd.TheVariants.{Cut, Whole}
use Rattle.elf_table.specs.declared.fault.Fault.{Fault}
use Rattle.elf_table.specs.declared.names.NameEnd.{NameEnd}
use Rattle.elf_table.specs.declared.fault.Fault.TheVariants.{Refused, Source}
use Rattle.elf_note.specs.Prelude.{name_at}
use Rattle.elf_note.specs.declared.version_names.VersionNameRef.TheVariants.{Defined, Needed, Nowhere}
use Rattle.elf_listing.specs.Prelude.{AreNumbered, SuffixNamed, number_reported}
use Rattle.elf_listing.specs.declared.numbered.VersionStrings.{VersionStrings}
use Rattle.elf_listing.proofs.VersionedShown.{some-definitions, some-needs, strings-defined, strings-needed}

-- all records that name versions
abbrev records : List ℕ → List VisitedRecord
records file = first_versions Definition SHT_GNU_VERDEF file ++ first_versions File SHT_GNU_VERNEED file

-- the record that names a version index of 2 or more
named_is : (file : List ℕ) (number : ℕ) (found : Option VisitedRecord) → nat_lt number 2 ≡ false → named_by file number (records file) ≡ found → version_named file number ≡ found
unfolding version_named version_of
named_is file number found many is = rw many is

-- what was read of a name is returned of the version
read_reported : (file : List ℕ) (met : VisitedRecord) (at : ℕ) (result : Result NameEnd Fault) (version : List ℕ) (answer : Result DisplayedName Cause) → at ≡ named_at file met
    → NameRead at result version answer → SuffixNamed result version (λ default. suffix_of default (named_at file met) answer)
read_reported file met at (Ok Whole) version answer here read = λ default. ap (suffix_of default (named_at file met)) read
read_reported file met at (Ok Cut) version answer here read = λ default. ap (suffix_of default (named_at file met)) read
read_reported file met at (Err (Refused refusal)) version answer here read = λ other default.
    let is = read other in
    ap (suffix_of default (named_at file met)) is.1
    ∙ ap (λ (place : ℕ). Err (record { at = place; cause = refusal.cause })) (sym here ∙ sym is.0)
read_reported file met at (Err (Source fault offset)) version answer here read = tt

module _ (file : List ℕ) (numbered : VersionStrings) (places : List ℕ) (are : AreNumbered file numbered places) (cap number word_at : ℕ) (many : nat_lt number 2 ≡ false) where
  reported_as : (found : Option VisitedRecord) → named_by file number (records file) ≡ found → (default : Bool)
      → number_reported file cap number word_at default
      ≡ (elim found as (λ _. Result Suffix Refusal) [
        | None ↦ Err (record { at = word_at; cause = VersionIndex })
        | Some met ↦ suffix_of default (named_at file met) (shown (version_strings file met.kind) (name_index file met) cap)
      ])
  reported_as found is default =
      ap (λ (named : Option VisitedRecord). elim named as (λ _. Result Suffix Refusal) [
        | None ↦ Err (record { at = word_at; cause = VersionIndex })
        | Some met ↦ suffix_of default (named_at file met) (shown (version_strings file met.kind) (name_index file met) cap)
      ]) (named_is file number found many is)

  pub told_nowhere : name_at numbered.names number ≡ Nowhere → (default : Bool) → number_reported file cap number word_at default ≡ Err (record { at = word_at; cause = VersionIndex })
  told_nowhere is default = by_found (named_by file number (records file)) refl
    where
      by_found : (found : Option VisitedRecord) → named_by file number (records file) ≡ found → number_reported file cap number word_at default ≡ Err (record { at = word_at; cause = VersionIndex })
      by_found None named = reported_as None named default
      by_found (Some met) named = absurd (rw (named, is) at (are.names.named number))

  told_met : (met : VisitedRecord) (at index : ℕ) (strings : List ℕ) (result : Result NameEnd Fault) (version : List ℕ) → named_by file number (records file) ≡ Some met
      → at ≡ named_at file met → strings ≡ version_strings file met.kind → index ≡ name_index file met → NameRead at result version (shown strings index cap)
      → SuffixNamed result version (number_reported file cap number word_at)
  told_met met at index strings result version named here same is read =
      let answer = rw (same, is) at read in
      go result (read_reported file met at result version _ here answer)
    where
      go : (result : Result NameEnd Fault) → SuffixNamed result version (λ default. suffix_of default (named_at file met) (shown (version_strings file met.kind) (name_index file met) cap))
          → SuffixNamed result version (number_reported file cap number word_at)
      go (Ok end) told = λ default. reported_as (Some met) named default ∙ told default
      go (Err (Refused refusal)) told = λ other default. reported_as (Some met) named default ∙ told other default
      go (Err (Source fault offset)) told = tt

  module _ (few : number < length places) (result : Result NameEnd Fault) (version : List ℕ) (index : ℕ) where
    pub told_defined : name_at numbered.names number ≡ Defined index
        → NameRead (slice_index_or places number 0) result version (shown (strings_in file numbered.defined) index cap) → SuffixNamed result version (number_reported file cap number word_at)
    told_defined is read = by_found (named_by file number (records file)) refl
      where
        by_found : (found : Option VisitedRecord) → named_by file number (records file) ≡ found → SuffixNamed result version (number_reported file cap number word_at)
        by_found None named = absurd (rw (named, is) at (are.names.named number))
        by_found (Some met) named =
            let fits = rw (named, is) at (are.names.named number) in
            let here = rw named at (are.names.placed number few) in
            let strings : strings_in file numbered.defined ≡ version_strings file met.kind =
            are.defined (some-definitions file number (first_versions Definition SHT_GNU_VERDEF file) met named fits.0) ∙ sym (strings-defined file met.kind fits.0) in
            told_met met _ index _ result version named here strings fits.1 read

    pub told_needed : name_at numbered.names number ≡ Needed index
        → NameRead (slice_index_or places number 0) result version (shown (strings_in file numbered.needed) index cap) → SuffixNamed result version (number_reported file cap number word_at)
    told_needed is read = by_found (named_by file number (records file)) refl
      where
        by_found : (found : Option VisitedRecord) → named_by file number (records file) ≡ found → SuffixNamed result version (number_reported file cap number word_at)
        by_found None named = absurd (rw (named, is) at (are.names.named number))
        by_found (Some met) named =
            let fits = rw (named, is) at (are.names.named number) in
            let here = rw named at (are.names.placed number few) in
            let strings : strings_in file numbered.needed ≡ version_strings file met.kind =
            are.needed (some-needs file number (first_versions File SHT_GNU_VERNEED file) met named fits.0) ∙ sym (strings-needed file met.kind fits.0) in
            told_met met _ index _ result version named here strings fits.1 read
