-- What the names of versions that are kept are in a file.
use Rattle.std.proofs.Common.{◌≡◌, ℕ, List, Option, None, Some, Ok, Err, refl, sym, ap, ◌∙◌}
use Rattle.elf_model.specs.Prelude.{NumberNameSource, VersionQuery, VersionRecordTable as IsTableOf, VisitedRecord, naming_of, readings, reference_by_index}
use Rattle.elf_model.specs.declared.causes.Refusal.{Refusal}
use Rattle.elf_model.specs.declared.causes.Cause.TheVariants.{VersionIndex}
use Rattle.elf_source.specs.Source.{CountedState, KeepsSource, SetsLimit, SourceState}
use Rattle.elf_hash.specs.declared.symbols.DynamicSymbols.{DynamicSymbols}
use Rattle.elf_library.specs.VersionNames.{KeepsNames, KnowsNames}
use Rattle.elf_library.specs.declared.kept_version_names.NamedVersion.{NamedVersion}
use Rattle.elf_library.proofs.IndexLaws.{same_file_between}

-- A VERSION THAT HAS A NAME has it for each entry with its index
module _ (file : List ℕ) (records : List IsTableOf) (number : ℕ) where
  abbrev naming : NumberNameSource
  naming = naming_of file number (readings file records)

  by_found : (at other : ℕ) (found : List ℕ × VisitedRecord) → naming.found ≡ Some found → reference_by_index file records number other ≡ reference_by_index file records number at
  unfolding reference_by_index
  by_found at other found e = rw (e, reference_by_index) refl

  by_refused : (at : ℕ) (refusal : Refusal) → naming.found ≡ None → naming.refused ≡ Some refusal → reference_by_index file records number at ≡ Err refusal
  unfolding reference_by_index
  by_refused at refusal none e = rw (none, e, reference_by_index) refl

  by_none : (at : ℕ) → naming.found ≡ None → naming.refused ≡ None → reference_by_index file records number at ≡ Err (record { at = at; cause = VersionIndex })
  unfolding reference_by_index
  by_none at none e = rw (none, e, reference_by_index) refl

  pub named_anywhere : (at : ℕ) (asked : VersionQuery) → reference_by_index file records number at ≡ Ok asked → (other : ℕ) → reference_by_index file records number other ≡ Ok asked
  named_anywhere at asked is other = go naming.found refl naming.refused refl
    where
      go : (found : Option (List ℕ × VisitedRecord)) → naming.found ≡ found → (refused : Option Refusal) → naming.refused ≡ refused → reference_by_index file records number other ≡ Ok asked
      go (Some found) e refused r = by_found at other found e ∙ is
      go None e (Some refusal) r = let isnt = by_refused at refusal e r in let so = is in cc
      go None e None r = let isnt = by_none at e r in let so = is in cc

-- what is kept stays so after a call between two limits, the second of which is none
pub knows_names :
    {a b c d : CountedState} {left : Option ℕ} {symbols : DynamicSymbols} {old new : List (Option NamedVersion)} → SetsLimit a b left → KeepsSource b.seen c.seen → SetsLimit c d None
    → KnowsNames a.seen symbols old → KeepsNames b.seen symbols old new → KnowsNames d.seen symbols new
knows_names set keeps free knows keeps_them = record {
  known = λ file held.
      let before = sym (same_file_between set keeps free) ∙ held in
      λ told is. keeps_them.keeps file (ap (λ (s : SourceState). s.file) set.seen ∙ before) told is (knows.known file before told is);
}

pub same_names : {seen : SourceState} {symbols : DynamicSymbols} {places : List (Option NamedVersion)} → KeepsNames seen symbols places places
same_names = record { keeps = λ file held told is are. are }
