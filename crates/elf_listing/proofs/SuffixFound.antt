-- The version lookup of a table's symbols, by the checks of its section of version indices and the
-- walks.
use Rattle.std.proofs.Common.{◌≡◌, ℕ, ◌+◌, ◌==◌, if◌then◌else◌, Bool, true, false, List, Option, None, Some, Ok, Err, inl, inr, refl, ap, ◌∙◌}
use Rattle.std.specs.Prelude.{is_some, not}
use Rattle.elf_model.specs.Prelude.{HeaderTable, all_checks, entry_count, first_numbers, first_refusal, name_bytes, or_refusal, section_at, suffixes_refusal, symbol_versions, version_numbers_of, walks_cost}
use Rattle.elf_model.specs.declared.causes.Refusal.{Refusal}
use Rattle.elf_table.specs.Prelude.{AreVersioned, RefusedBy}
use Rattle.elf_table.specs.declared.fault.Fault.{Fault}
use Rattle.elf_table.specs.declared.fault.Fault.TheVariants.{Refused, Source}
use Rattle.elf_listing.specs.Prelude.{AreNumbered, NumberedOr, SuffixesOr, suffix_bytes, walks_asked, walks_refusal}
use Rattle.elf_listing.specs.declared.suffixes.VersionLookup.{VersionLookup}
use Rattle.elf_listing.proofs.FirstTaken.{or-none}

-- a table of no symbols, and one without version indices
pub no_symbols : (file : List ℕ) (table : ℕ) → entry_count file (section_at file table) 24 ≡ 0 → SuffixesOr file table (Ok None)
unfolding suffixes_refusal
no_symbols file table none = (rw none refl, inl none)

module _ (file : List ℕ) (table : ℕ) where
  refusal_by : Bool → Option ℕ → Option Refusal
  refusal_by empty found =
      if empty then None
      else elim found as (λ _. Option Refusal) [
        | None ↦ None
        | Some i ↦ or_refusal (first_refusal (all_checks symbol_versions.checks file (section_at file i))) (walks_refusal file)
      ]

  refusal_is : suffixes_refusal file table ≡ refusal_by (entry_count file (section_at file table) 24 == 0) (version_numbers_of file table)
  unfolding suffixes_refusal refusal_by
  refusal_is = refl

  pub unnumbered : version_numbers_of file table ≡ None → SuffixesOr file table (Ok None)
  unfolding refusal_by
  unnumbered none = (refusal_is ∙ (ap (refusal_by (entry_count file (section_at file table) 24 == 0)) none ∙ either (entry_count file (section_at file table) 24 == 0)), inr none)
    where
      either : (empty : Bool) → refusal_by empty None ≡ None
      either true = refl
      either false = refl

  -- of a table with symbols: the checks of the version indices, then the walks
  module _ (section : ℕ) (some : (entry_count file (section_at file table) 24 == 0) ≡ false) (found : version_numbers_of file table ≡ Some section) where
    refused : suffixes_refusal file table ≡ or_refusal (first_refusal (all_checks symbol_versions.checks file (section_at file section))) (walks_refusal file)
    unfolding refusal_by
    refused = refusal_is ∙ (ap (λ (empty : Bool). refusal_by empty (version_numbers_of file table)) some ∙ ap (refusal_by false) found)

    pub refused_numbers : (fault : Fault) → RefusedBy (all_checks symbol_versions.checks file (section_at file section)) fault → SuffixesOr file table (Err fault)
    refused_numbers (Refused refusal) by = λ other. refused ∙ ap (λ (first : Option Refusal). or_refusal first (walks_refusal file)) by
    refused_numbers (Source fault offset) by = absurd by

    pub refused_walks : (places : List ℕ) (fault : Fault) → first_refusal (all_checks symbol_versions.checks file (section_at file section)) ≡ None
        → NumberedOr file places (Err fault) → SuffixesOr file table (Err fault)
    refused_walks places (Refused refusal) passes by = λ other. refused ∙ or-none _ _ (Some refusal) passes (by other)
    refused_walks places (Source fault offset) passes by = tt

    pub found_all : (suffixes : VersionLookup) (count : ℕ) → AreVersioned file (section_at file section) suffixes.words count → suffixes.at ≡ section_at file section
        → (walks_refusal file ≡ None) × AreNumbered file suffixes.numbered suffixes.places → SuffixesOr file table (Ok (Some suffixes))
    found_all suffixes count versioned here numbered = (
      refused ∙ or-none _ _ None versioned.pass numbered.0,
      record { section = section; found = found; here = here; placed = versioned.placed; counted = versioned.counted; numbered = numbered.1 },
    )

-- what the walks read, for a table with symbols
pub walks_of : (headers : HeaderTable) (table symbols size section : ℕ) → (symbols == 0) ≡ false → first_numbers headers table ≡ Some section
    → walks_asked headers table symbols size ≡ walks_cost headers size
walks_of headers table symbols size section some found =
    ap (λ (empty : Bool). if empty then 0 else elim (first_numbers headers table) as (λ _. ℕ) [ None ↦ 0 | Some i ↦ walks_cost headers size ]) some
    ∙ ap (λ (first : Option ℕ). elim first as (λ _. ℕ) [ None ↦ 0 | Some i ↦ walks_cost headers size ]) found

pub bytes_of : (headers : HeaderTable) (table cap section : ℕ) → first_numbers headers table ≡ Some section → suffix_bytes headers table cap ≡ 2 + name_bytes cap
bytes_of headers table cap section found = ap (λ (first : Option ℕ). elim first as (λ _. ℕ) [ None ↦ 0 | Some i ↦ 2 + name_bytes cap ]) found

-- no section is found
pub none_found : (found : Option ℕ) (none : Bool) → is_some found ≡ not none → none ≡ true → found ≡ None
none_found None none e is = refl
none_found (Some i) true e is = absurd cc
none_found (Some i) false e is = absurd cc
