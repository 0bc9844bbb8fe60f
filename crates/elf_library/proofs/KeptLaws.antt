-- What is kept of a file.
use Rattle.std.proofs.Common.{◌≡◌, ◌+◌, ◌-◌, ◌*◌, ℕ, true, List, None, Option, Result, Ok, Err, IfOk, option_map, sym, ap, subst, ◌∙◌}
use Rattle.elf_model.specs.LoaderScope.{lookup_tables_of}
use Rattle.elf_source.specs.Source.{CountedState, SetsLimit, SourceState}
use Rattle.elf_table.specs.Prelude.{CallDid, CallReads, fault_of_result}
use Rattle.elf_table.proofs.LedgerLaws.{CallDid-then}
use Rattle.elf_table.specs.declared.fault.Fault.{Fault}
use Rattle.elf_table.specs.declared.fault.Fault.TheVariants.{Refused, Source}
use Rattle.elf_hash.specs.Prelude.{FindsLookupTables, LookupTablesInBounds}
use Rattle.elf_library.specs.Kept.{FindsFileTables, FindsTables, IsKept, KnowsVersions, ReturnsKept, found_tables_cost}
use Rattle.elf_library.specs.Looks.{SpendsAtMost, SpendsBudget}
use Rattle.elf_library.specs.Opens.{FindsTablesWithin, MayKeep}
use Rattle.elf_library.proofs.SpendLaws.{spent_off}
use Rattle.elf_library.proofs.VersionTableLaws.{hidden_file}
use Rattle.elf_library.specs.VersionTables.{FileVersionsInBounds}
use Rattle.elf_library.specs.declared.file_tables.FileTables.{FileTables}
use Rattle.elf_library.specs.declared.version_tables.FileVersions.{FileVersions}

-- what was found in a source is what is kept of it
pub kept_of : (old new : CountedState) (headers : ℕ) (found : FileTables) (n : ℕ) → CallDid old new None n (λ file. FindsTables file headers old new (Ok found)) → LookupTablesInBounds old.seen.size found.scope
    → IsKept new.seen headers found.scope None
kept_of old new headers tables n did lies = record {
  lies = subst (λ (size : ℕ). LookupTablesInBounds size tables.scope) (sym did.costs.reads.keeps.same_size) lies;
  known = λ file held.
      let found = (did.known file (sym did.costs.reads.keeps.same_file ∙ held)).finds in
      record { told = found.0; found = found.1; is = found.2 };
  placed = tt;
  ready_in = λ file held told is. tt;
}

-- what was found of the versions, in a source that hides its section headers
pub knows_found : (old new : CountedState) (headers : ℕ) (found : FileTables) (n : ℕ) → old.hides ≡ true → CallDid old new None n (λ file. FindsTables file headers old new (Ok found))
    → FileVersionsInBounds old.seen.size found.versions → KnowsVersions new.seen found.versions
knows_found old new headers found n hides did lies = record {
  lies = subst (λ (size : ℕ). FileVersionsInBounds size found.versions) (sym did.costs.reads.keeps.same_size) lies;
  known = λ file held.
      let before = sym did.costs.reads.keeps.same_file ∙ held in
      let hidden = hidden_file old hides file before in
      ((did.known file before).versions hidden.0, hidden.1);
}

-- a call that stopped, and is followed by another
pub did_anyway : {a b : CountedState} {stop : Option Fault} {n : ℕ} {P : List ℕ → Type 0} → CallDid a b stop n P → CallDid a b None n P
did_anyway p = record { costs = record { reads = p.costs.reads; says = tt }; known = p.known }

-- the same, with what is known of both
pub did_both : {a b c : CountedState} {stop : Option Fault} {n m : ℕ} {P Q : List ℕ → Type 0} → CallDid a b stop n P → CallDid b c None m Q → CallDid a c None (n + m) (λ file. P file × Q file)
did_both p q = CallDid-then (did_anyway p) q

-- what holds if the file is closed
pub back_tells : (file : List ℕ) (headers : ℕ) (fault : Fault) → FindsLookupTables file (lookup_tables_of file headers) (Err fault) → ReturnsKept file headers (Err fault)
back_tells file headers (Refused refusal) finds = finds
back_tells file headers (Source fault at) finds = tt

-- what was found may be kept, once the limit is removed
may_keep : {a b c d : CountedState} {left : Option ℕ} → SetsLimit a b left → SetsLimit c d None → (headers : ℕ) (result : Result FileTables Fault) (n : ℕ) → a.hides ≡ true
    → CallDid b c (fault_of_result result) n (λ file. FindsTables file headers b c result) → IfOk result (λ found. LookupTablesInBounds b.seen.size found.scope)
    → IfOk result (λ found. FileVersionsInBounds b.seen.size found.versions) → IfOk result (MayKeep d.seen headers)
may_keep {a} {b} {c} {d} set free headers (Ok found) n hides did lies lie = rw free.seen (kept_of b c headers found n did lies, knows_found b c headers found n (set.hides ∙ hides) did lie)
may_keep set free headers (Err fault) n hides did lies lie = tt

-- WHAT WAS FOUND WITHIN what is left of a budget
module _ {a b c d : CountedState} {left left_new : Option ℕ} (set : SetsLimit a b left) (free : SetsLimit c d None) (pays : left_new ≡ option_map (λ bytes. bytes - (d.asked - a.asked)) left) where
  within_cost : (stop : Option Fault) (n : ℕ → ℕ) → CallReads b c stop (n b.seen.size) → (SpendsAtMost a d left stop (n a.seen.size)) × SpendsBudget left left_new a.asked d.asked
  within_cost stop n did = spent_off left left_new set (subst (λ (m : ℕ). CallReads b c stop m) (ap (λ (s : SourceState). n s.size) set.seen) did) free pays

  pub tables_within : (headers : ℕ) {result : Result FileTables Fault} → a.hides ≡ true → FindsFileTables headers b c result
      → IfOk result (λ found. LookupTablesInBounds b.seen.size found.scope) → IfOk result (λ found. FileVersionsInBounds b.seen.size found.versions) → FindsTablesWithin a d headers left left_new result
  tables_within headers {result} hides found lies lie =
      let did = found.did in
      let spent = within_cost (fault_of_result result) (λ n. 2 * (64 + 64 * headers + n)) did.costs in
      record {
        costs = spent.0;
        pays = spent.1;
        kept = may_keep set free headers result _ hides did lies lie;
        known = λ file held.
            let finds = did.known file (rw set.seen held) in
            record { costs = (within_cost (fault_of_result result) (λ n. found_tables_cost file headers n) finds.costs).0; finds = finds.finds };
      }
