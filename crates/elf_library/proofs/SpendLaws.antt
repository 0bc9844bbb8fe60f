-- What a lookup costs between the call that sets a limit and the call that removes it.
use Rattle.std.proofs.Common.{◌≡◌, ℕ, ◌+◌, ◌-◌, ◌≤◌, List, Option, None, Some, Result, Ok, Err, IfOk, IfSome, option_map, refl, sym, ap, subst, ◌∙◌, arith}
use Rattle.elf_model.specs.Prelude.{LookupTables as IsScopeOf, SymbolQuery, definition_in, definition_lookup, lookup_tables_of}
use Rattle.elf_source.specs.Source.{CountedState, SetsLimit, ExceedsBudget, SourceState, counted}
use Rattle.elf_source.proofs.LimitLaws.{within_budget}
use Rattle.elf_table.specs.Prelude.{CallDid, CallReads, IsReadFault, fault_of_result}
use Rattle.elf_table.specs.declared.fault.Fault.{Fault}
use Rattle.elf_table.specs.declared.fault.Fault.TheVariants.{Refused, Source}
use Rattle.elf_table.proofs.LedgerLaws.{CallReads-more}
use Rattle.elf_loader.specs.Lookups.{lookup_bytes}
use Rattle.elf_hash.specs.Prelude.{IsLookupTables, LookupTablesInBounds, place_of_table}
use Rattle.elf_hash.specs.declared.table.HashTable.{HashTable}
use Rattle.elf_hash.specs.declared.lookup_tables.LookupTables.{LookupTables}
use Rattle.elf_library.specs.Filters.{filter_bytes}
use Rattle.elf_library.specs.Indices.{AreIndicesOf, KnowsIndices}
use Rattle.elf_library.specs.declared.kept_indices.VersionIndices.{VersionIndices}
use Rattle.elf_library.specs.Prelude.{DefinesAfter, DefinesIn, FaultLeaves, IsKept, IsReadyIf, IsReadyIn, LooksInObject, OverLeft, Prepares, ReturnsReady, SpendsAtMost, SpendsBudget, kept_cost, ready_bytes}
use Rattle.std.specs.Result.{result_unwrap_or}

-- what is left after it
pays_is : (left left_new : Option ℕ) (a d : ℕ) → left_new ≡ option_map (λ bytes. bytes - (d - a)) left → a ≤ d → IfSome left (λ bytes. d ≤ a + bytes) → SpendsBudget left left_new a d
pays_is None left_new a d is grows within = rw (is) tt
pays_is (Some bytes) left_new a d is grows within = rw (is) (omega (arith, grows, within))

module _ {a b c d : CountedState} (n : ℕ) where
  over_left : (left : Option ℕ) → SetsLimit a b left → ExceedsBudget b c n → SetsLimit c d None → OverLeft a d left n
  over_left None set over free = let none = set.most in let some = over.is_set in cc
  over_left (Some bytes) set over free =
      let most : Some (counted a.asked bytes) ≡ Some over.most = sym set.most ∙ over.is_set in
      let is : counted a.asked bytes ≡ over.most = cc in
      record {
        bytes = bytes;
        is_left = refl;
        above = omega (arith, is, over.above, set.asked);
        late = omega (arith, is, over.late, free.asked);
      }

  fault_says : (left : Option ℕ) (stop : Option Fault) → SetsLimit a b left → IfSome stop (IsReadFault b c n) → SetsLimit c d None → IfSome stop (FaultLeaves a d left n)
  fault_says left None set says free = tt
  fault_says left (Some (Refused refusal)) set says free = λ budget.
      let said = says budget in
      (rw (← set.seen) said.0, over_left left set said.1 free, said.2 ∙ sym free.stopped)
  fault_says left (Some (Source fault at)) set says free = (rw (free.seen, ← set.seen) says.0, says.1 ∙ sym free.stopped)

-- THE LAW: what is charged between the two
pub SpendsAtMost-of : {a b c d : CountedState} {left : Option ℕ} {stop : Option Fault} {n : ℕ} → SetsLimit a b left → CallReads b c stop n → SetsLimit c d None → SpendsAtMost a d left stop n
SpendsAtMost-of {a} {b} {c} {d} {left} {stop} {n} set charges free = record {
  keeps = rw (free.seen, ← set.seen) charges.reads.keeps;
  view = record {
    keeps = rw (free.source, ← set.source) charges.reads.view.keeps;
    hides = free.hides ∙ charges.reads.view.hides ∙ set.hides;
  };
  grows = omega (arith, set.asked, free.asked, charges.reads.grows);
  at_most = omega (arith, set.asked, free.asked, charges.reads.at_most);
  free = free.most;
  says = fault_says n left stop set charges.says free;
}

-- a lookup once the lookup tables are known
pub scoped : (file : List ℕ) (headers : ℕ) (wanted : SymbolQuery) (told : IsScopeOf) → lookup_tables_of file headers ≡ Ok told → definition_lookup file headers wanted ≡ definition_in file told wanted
unfolding definition_lookup
scoped file headers wanted told found = rw (found, definition_lookup) refl

-- THE LAW: a lookup in what is kept
module _ (a b c d : CountedState) (headers : ℕ) (scope : LookupTables) (ready : Option HashTable) (wanted : SymbolQuery) (left left_new : Option ℕ) (result : Result (Option ℕ) Fault) where
  pub looks_in : (file : List ℕ) (found : IsScopeOf) → lookup_tables_of file headers ≡ Ok found → SetsLimit a b left → DefinesAfter wanted 28 0 (definition_in file found wanted) b c result → SetsLimit c d None
      → DefinesIn file wanted (record { src = a; headers = headers }) (record { src = d; headers = headers }) left result
  looks_in file found is set looks free =
      let same = scoped file headers wanted found is in
      let within : looks.spent ≤ kept_cost file headers wanted = rw same (omega (arith, looks.within)) in
      record {
        costs = SpendsAtMost-of set (CallReads-more (kept_cost file headers wanted) within looks.costs) free;
        tells = rw same looks.tells;
      }

  pub looks_kept : (places : List (Option VersionIndices)) → IsKept a.seen headers scope ready → KnowsIndices a.seen scope places → SetsLimit a b left
      → CallDid b c (fault_of_result result) (lookup_bytes 28 b.seen.size wanted)
      (λ file. (found : IsScopeOf) → IsLookupTables file found scope → IsReadyIf file found ready → AreIndicesOf file found places → DefinesAfter wanted 28 0 (definition_in file found wanted) b c result)
      → SetsLimit c d None → left_new ≡ option_map (λ bytes. bytes - (d.asked - a.asked)) left
      → LooksInObject wanted (record { src = a; headers = headers }) (record { src = d; headers = headers }) left left_new result
  looks_kept places kept knows set did free is =
      let costs = SpendsAtMost-of set did.costs free in
      let most = within_budget left a b c set did.costs.reads.same_limit in
      let same = free.asked in
      record {
        costs = subst (λ (n : ℕ). SpendsAtMost a d left (fault_of_result result) n) (ap (λ (seen : SourceState). lookup_bytes 28 seen.size wanted) set.seen) costs;
        same_headers = refl;
        pays = pays_is left left_new a.asked d.asked is costs.grows (rw same most);
        known = λ file held.
            let in_file = kept.known file held in
            looks_in file in_file.told in_file.found set (did.known file (rw set.seen held) in_file.told in_file.is (kept.ready_in file held in_file.told in_file.is) (knows.known file held in_file.told in_file.is)) free;
      }

-- THE LAW: what is charged between the two is subtracted
pub spent_off : {a b c d : CountedState} {stop : Option Fault} {n : ℕ} (left left_new : Option ℕ) → SetsLimit a b left → CallReads b c stop n → SetsLimit c d None
    → left_new ≡ option_map (λ bytes. bytes - (d.asked - a.asked)) left → (SpendsAtMost a d left stop n) × SpendsBudget left left_new a.asked d.asked
spent_off {a} {b} {c} {d} left left_new set charges free is =
    let costs = SpendsAtMost-of set charges free in
    let most = within_budget left a b c set charges.reads.same_limit in
    let same = free.asked in
    (costs, pays_is left left_new a.asked d.asked is costs.grows (rw same most))

-- THE LAW: what is kept, with a table that is ready
pub kept_ready : (old new : SourceState) (headers : ℕ) (scope : LookupTables) (before ready : Option HashTable) → IsKept old headers scope before → new.size ≡ old.size → new.file ≡ old.file
    → IfSome ready (λ table. place_of_table table ≡ scope.hash) → ((file : List ℕ) → old.file ≡ Some file → IsReadyIn file scope ready) → IsKept new headers scope ready
kept_ready old new headers scope before ready kept size file placed told = record {
  lies = subst (λ (n : ℕ). LookupTablesInBounds n scope) (sym size) kept.lies;
  known = λ bytes held. kept.known bytes (sym file ∙ held);
  placed = placed;
  ready_in = λ bytes held. told bytes (sym file ∙ held);
}

-- a fault of the table is skipped
pub placed_of : (scope : LookupTables) (result : Result (Option HashTable) Fault) → IfOk result (λ ready. IfSome ready (λ table. place_of_table table ≡ scope.hash))
    → IfSome (result_unwrap_or result None) (λ table. place_of_table table ≡ scope.hash)
placed_of scope (Ok ready) placed = placed
placed_of scope (Err fault) placed = tt

pub ready_of : (file : List ℕ) (told : IsScopeOf) (result : Result (Option HashTable) Fault) → ReturnsReady file told result → IsReadyIf file told (result_unwrap_or result None)
ready_of file told (Ok ready) tells = tells
ready_of file told (Err fault) tells = tt
