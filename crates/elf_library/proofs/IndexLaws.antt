-- What the indices of versions that are kept are in a file.
use Rattle.std.proofs.Common.{◌≡◌, ℕ, true, false, List, Option, None, Some, Result, Ok, Err, refl, sym, ap, ◌∙◌, arith}
use Rattle.std.specs.Result.{OnOk, is_ok}
use Rattle.elf_model.specs.Prelude.{CompareResult, LookupTables as IsScopeOf, Version, VersionQuery, asked_name, record_cost, version_indices}
use Rattle.elf_source.specs.Source.{CountedState, KeepsSource, SetsLimit, SourceState}
use Rattle.elf_table.proofs.LedgerLaws.{CallReads-more, CallReads-none}
use Rattle.elf_hash.specs.declared.lookup_tables.LookupTables.{LookupTables}
use Rattle.elf_loader.specs.Comparing.{CollectsNumbers}
use Rattle.elf_library.specs.Indices.{AreNumbersOf, KeepsIndices, KnowsIndices}
use Rattle.elf_library.specs.declared.kept_indices.VersionIndices.{VersionIndices}

-- what holds of a success, of one
pub on_ok : {X E P : Type 0} (result : Result X E) → is_ok result ≡ true → OnOk result P → P
on_ok (Ok x) is p = p
on_ok (Err e) is p = let no : false ≡ true = is in cc

module _ (file : List ℕ) (told : IsScopeOf) where
  -- the indices are those of the name that is given
  pub by_name : (asked : VersionQuery) (name : List ℕ) → asked_name asked ≡ Some name → version_indices file told asked ≡ version_indices file told (Version name)
  unfolding version_indices
  by_name asked name e = rw (e, version_indices) refl

  pub numbers_by_name : (asked : VersionQuery) (name numbers : List ℕ) → asked_name asked ≡ Some name → AreNumbersOf file told asked numbers → AreNumbersOf file told (Version name) numbers
  numbers_by_name asked name numbers e are =
      let same = by_name asked name e in
      record { whole = ap (λ (c : CompareResult). c.refused) (sym same) ∙ are.whole; same = λ number. rw same at (are.same number) }

  pub numbers_of_name : (asked : VersionQuery) (name numbers : List ℕ) → asked_name asked ≡ Some name → AreNumbersOf file told (Version name) numbers → AreNumbersOf file told asked numbers
  numbers_of_name asked name numbers e are =
      let same = sym (by_name asked name e) in
      record { whole = ap (λ (c : CompareResult). c.refused) (sym same) ∙ are.whole; same = λ number. rw same at (are.same number) }

  -- to have been collected, and to be kept
  pub collected : {a b : CountedState} (asked : VersionQuery) (numbers : List ℕ) → CollectsNumbers a b (record_cost asked) (version_indices file told asked) (Ok numbers) → AreNumbersOf file told asked numbers
  collected asked numbers collects = record { whole = collects.1; same = collects.2 }

  pub collects_kept : (c : CountedState) (asked : VersionQuery) (numbers : List ℕ) → AreNumbersOf file told asked numbers → CollectsNumbers c c (record_cost asked) (version_indices file told asked) (Ok numbers)
  collects_kept c asked numbers are = (CallReads-more _ (omega arith) (CallReads-none c), are.whole, are.same)

-- what is kept stays so after a call between two limits, the second of which is none
pub same_file_between : {a b c d : CountedState} {left : Option ℕ} → SetsLimit a b left → KeepsSource b.seen c.seen → SetsLimit c d None → d.seen.file ≡ a.seen.file
same_file_between set keeps free = ap (λ (s : SourceState). s.file) free.seen ∙ keeps.same_file ∙ ap (λ (s : SourceState). s.file) set.seen

pub knows_indices :
    {a b c d : CountedState} {left : Option ℕ} {scope : LookupTables} {old new : List (Option VersionIndices)} → SetsLimit a b left → KeepsSource b.seen c.seen → SetsLimit c d None
    → KnowsIndices a.seen scope old → KeepsIndices b.seen scope old new → KnowsIndices d.seen scope new
knows_indices set keeps free knows keeps_them = record {
  known = λ file held told is.
      let before = sym (same_file_between set keeps free) ∙ held in
      keeps_them.keeps file (ap (λ (s : SourceState). s.file) set.seen ∙ before) told is (knows.known file before told is);
}

pub same_indices : {seen : SourceState} {scope : LookupTables} {places : List (Option VersionIndices)} → KeepsIndices seen scope places places
same_indices = record { keeps = λ file held told is are. are }
