-- What is read of an object within what is left of a budget.
use Rattle.std.proofs.Common.{◌≡◌, ℕ, ◌+◌, ◌-◌, ◌*◌, ◌/◌, ◌<◌, ◌≤◌, Bool, List, Option, None, Some, IfSome, Result, Ok, option_map, refl, sym, ap, subst, ◌∙◌, arith, mul-le-mul_right}
use Rattle.elf_hash.specs.Prelude.{CountsSymbols, IsDynamicSymbols, IsLookupTables, ReturnsAs, place_of_table}
use Rattle.elf_hash.specs.declared.table.HashTable.{HashTable}
use Rattle.elf_hash.specs.declared.lookup_tables.LookupTables.{LookupTables}
use Rattle.elf_loader.specs.Lookups.{lookup_bytes}
use Rattle.elf_loader.specs.Prelude.{comparing_bytes, max_versions_of}
use Rattle.elf_loader.proofs.ReadLaws.{most_all}
use Rattle.elf_model.specs.Prelude.{DynamicSymbols as AreSymbolsOf, LookupTables as IsScopeOf, SOUGHT_BYTES, SymbolQuery, Version, VersionRecordTable as IsTableOf, definition_in, file_of_version, is_weak, lacks_version, lookup_tables_of, name_bytes, record_cost, reference_at, state_by_segments, symbol_offset, whole_name}
use Rattle.elf_model.specs.declared.states.VersionState.{VersionState}
use Rattle.elf_source.specs.Source.{CountedState, SetsLimit, SourceState}
use Rattle.elf_table.proofs.LedgerLaws.{CallReads-more}
use Rattle.elf_table.specs.Prelude.{CallDid, CallReads, fault_of_result}
use Rattle.elf_table.specs.Tables.{strings_in}
use Rattle.elf_table.specs.declared.fault.Fault.{Fault}
use Rattle.elf_library.proofs.FilterLaws.{keeps_filter, kept_between, same_file, same_size}
use Rattle.elf_library.proofs.SpendLaws.{kept_ready, looks_kept, spent_off}
use Rattle.elf_library.specs.Copied.{ReadsKept}
use Rattle.elf_library.specs.Kept.{IsKept, IsReadyIn, KnowsVersions, LookupObjectState}
use Rattle.elf_library.specs.Filters.{FilterWords, IsFilterOf, KeepsFilter, filter_bytes}
use Rattle.elf_library.specs.Indices.{AreIndicesOf, KnowsIndices}
use Rattle.elf_library.specs.Looks.{FindsDefiner, LooksInObject, Prepares, ReadsReady}
use Rattle.elf_library.specs.Ready.{IsReadyIf, ready_bytes}
use Rattle.elf_library.specs.NeedWalks.{FindsVersionState, GoesOnIf, IsNeedsOf, ReadsNeed, ReadsNextNeed, StepsNeedsOf, need_bytes, needed_of}
use Rattle.elf_library.specs.Sought.{CountsHashed, LooksForVersion, ReadsFileName, ReturnsSought, ReturnsWhole, Seeks, SeeksOf, reference_bytes}
use Rattle.elf_library.specs.VersionNames.{HaveVersionNames, KnowsNames}
use Rattle.elf_library.specs.VersionTables.{AreVersionsOf}
use Rattle.elf_library.specs.declared.kept_indices.VersionIndices.{VersionIndices}
use Rattle.elf_library.specs.declared.kept_version_names.NamedVersion.{NamedVersion}
use Rattle.elf_library.specs.declared.needed_versions.NeedsWalk.{NeedsWalk}
use Rattle.elf_library.specs.declared.reference.SymbolReference.{SymbolReference}
use Rattle.elf_library.specs.declared.version_tables.FileVersions.{FileVersions}

-- an object with this source
abbrev object_of : CountedState → ℕ → LookupObjectState
object_of src headers = record { src = src; headers = headers }

module _ {a b c d : CountedState} {left left_new : Option ℕ} {headers : ℕ} (set : SetsLimit a b left) (free : SetsLimit c d None) (pays : left_new ≡ option_map (λ bytes. bytes - (d.asked - a.asked)) left) where
  -- at most this many bytes were read, as many as of the source before the limit was set
  pub reads_kept : {stop : Option Fault} (n : ℕ → ℕ) → CallReads b c stop (n b.seen.size) → ReadsKept (object_of a headers) (object_of d headers) left left_new stop (n a.seen.size)
  reads_kept {stop} n did =
      let reads = subst (λ (m : ℕ). CallReads b c stop m) (ap (λ (s : SourceState). n s.size) set.seen) did in
      let spent = spent_off left left_new set reads free pays in
      record { costs = spent.0; same_headers = refl; pays = spent.1 }

  pub finds_state_within : {versions : FileVersions} {needed : NeedsWalk} {result : Result (Option VersionState) Fault} → KnowsVersions a.seen versions
      → CallDid b c (fault_of_result result) (b.seen.size / 8 * record_cost (Version needed.name)) (λ file. AreVersionsOf file versions → ReturnsAs (Ok (state_by_segments file (needed_of needed))) result)
      → FindsVersionState needed (object_of a headers) (object_of d headers) left left_new result
  finds_state_within {needed = needed} knows did =
      let kept = reads_kept (λ n. n / 8 * record_cost (Version needed.name)) did.costs in
      record {
        costs = kept.costs;
        same_headers = refl;
        pays = kept.pays;
        known = λ file held. let known = knows.known file held in rw known.1 (did.known file (rw set.seen held) known.0);
      }

  pub reads_need_within : {old new : NeedsWalk} {result : Result (Option Bool) Fault} → ReadsNextNeed old new b c result → ReadsNeed old new (object_of a headers) (object_of d headers) left left_new result
  reads_need_within {old} {new} {result} step =
      let kept = reads_kept (λ n. need_bytes) step.did.costs in
      let size = sym (ap (λ (s : SourceState). s.size) free.seen ∙ step.did.costs.reads.keeps.same_size) in
      record {
        costs = kept.costs;
        same_headers = refl;
        pays = kept.pays;
        goes = subst (λ (n : ℕ). GoesOnIf n old new result) size step.goes;
        known = λ file held. step.did.known file (rw set.seen held);
      }

  module _ {scope : LookupTables} {ready : Option HashTable} (kept : IsKept a.seen headers scope ready) where
    pub counts_within : {result : Result ℕ Fault}
        → CallDid b c (fault_of_result result) (16 + scope.hash.size) (λ file. (told : IsScopeOf) → IsLookupTables file told scope → CountsSymbols file told b c result)
        → CountsHashed (object_of a headers) (object_of d headers) left left_new result
    counts_within did =
        let within : scope.hash.size ≤ a.seen.size = omega (arith, kept.lies.table) in
        let reads = reads_kept (λ n. 16 + a.seen.size) (CallReads-more (16 + a.seen.size) (omega (arith, within)) did.costs) in
        record {
          costs = reads.costs;
          same_headers = refl;
          pays = reads.pays;
          known = λ file held. let is = kept.known file held in let counts = did.known file (rw set.seen held) is.told is.is in (is.told, is.found, counts.tells);
        }

    pub reads_reference : {stop : Option Fault} → CallReads b c stop (24 + name_bytes SOUGHT_BYTES + (2 + max_versions_of scope.symbols * 28 + name_bytes SOUGHT_BYTES))
        → ReadsKept (object_of a headers) (object_of d headers) left left_new stop (reference_bytes a.seen.size)
    reads_reference did =
        let few = mul-le-mul_right 28 (most_all scope.symbols a.seen.size kept.lies.symbols) in
        reads_kept (λ n. reference_bytes a.seen.size) (CallReads-more (reference_bytes a.seen.size) (omega (arith, few)) did)

    -- the lookup tables of a known file
    tables_in : (file : List ℕ) (told : IsScopeOf) → a.seen.file ≡ Some file → lookup_tables_of file headers ≡ Ok told → IsLookupTables file told scope
    tables_in file told held found =
        let is = kept.known file held in
        let same : is.told ≡ told = let e = is.found in let f = found in cc in
        rw same at is.is

    pub seeks_within : {index : ℕ} {name version : List ℕ} {names : List (Option NamedVersion)} {result : Result (Option SymbolReference) Fault} → KnowsNames a.seen scope.symbols names
        → CallDid b c (fault_of_result result) (24 + name_bytes SOUGHT_BYTES + (2 + max_versions_of scope.symbols * 28 + name_bytes SOUGHT_BYTES))
        (λ file. (told : AreSymbolsOf) → IsDynamicSymbols file told scope.symbols → HaveVersionNames file told names → index < scope.symbols.table.count
        → ReturnsSought (reference_at file told index) (is_weak file (symbol_offset told index)) name version result)
        → ((file : List ℕ) → b.seen.file ≡ Some file → (told : AreSymbolsOf) → IsDynamicSymbols file told scope.symbols → HaveVersionNames file told names → SeeksOf file (file_of_version file told index) result)
        → Seeks index name version (object_of a headers) (object_of d headers) left left_new result
    seeks_within knows did of =
        let reads = reads_reference did.costs in
        record {
          costs = reads.costs;
          same_headers = refl;
          pays = reads.pays;
          known = λ file told held found below.
              let here = tables_in file told held found in
              did.known file (rw set.seen held) told.symbols here.symbols (knows.known file held told.symbols here.symbols) (omega (arith, below, here.count, kept.lies.count));
          of_file = λ file told held found below.
              let here = tables_in file told held found in
              of file (rw set.seen held) told.symbols here.symbols (knows.known file held told.symbols here.symbols);
        }

    pub reads_file_name_within : {index at : ℕ} {name : List ℕ} {result : Result (Unit {0}) Fault}
        → CallDid b c (fault_of_result result) (name_bytes SOUGHT_BYTES) (λ file. ReturnsWhole (whole_name (strings_in file scope.symbols.names) index at) name result)
        → ReadsFileName index at name (object_of a headers) (object_of d headers) left left_new result
    reads_file_name_within {index} {at} {name} {result} did =
        let reads = reads_kept (λ n. name_bytes SOUGHT_BYTES) did.costs in
        record {
          costs = reads.costs;
          same_headers = refl;
          pays = reads.pays;
          known = λ file told held found some.
              let here = tables_in file told held found in
              let names : strings_in file scope.symbols.names ≡ told.symbols.strings = here.symbols.names (omega (arith, some, here.count, kept.lies.count)) in
              rw names at (did.known file (rw set.seen held));
        }

    pub looks_for_version_within : {version : List ℕ} {result : Result Bool Fault}
        → CallDid b c (fault_of_result result) (comparing_bytes (Version version) (max_versions_of scope.symbols))
        (λ file. (told : IsScopeOf) → IsDynamicSymbols file told.symbols scope.symbols → ReturnsAs (lacks_version file told.symbols version) result)
        → LooksForVersion version (object_of a headers) (object_of d headers) left left_new result
    looks_for_version_within {version} did =
        let few = mul-le-mul_right (record_cost (Version version)) (most_all scope.symbols a.seen.size kept.lies.symbols) in
        let most = a.seen.size / 8 * record_cost (Version version) in
        let reads = reads_kept (λ n. most) (CallReads-more most (omega (arith, few)) did.costs) in
        record {
          costs = reads.costs;
          same_headers = refl;
          pays = reads.pays;
          known = λ file held. let is = kept.known file held in (is.told, is.found, did.known file (rw set.seen held) is.told is.is.symbols);
        }

  pub prepares_within : {P : List ℕ → Type 0} → CallDid b c None (ready_bytes b.seen.size + filter_bytes) P → Prepares (object_of a headers) (object_of d headers) left left_new
  prepares_within did =
      let reads = reads_kept (λ n. ready_bytes n + filter_bytes) did.costs in
      record { costs = reads.costs; same_headers = refl; pays = reads.pays }

  -- WHAT IS KEPT stays so, with the table and the filter that were read
  pub kept_prepared :
      {scope : LookupTables} {before ready : Option HashTable} {versions : FileVersions} {was filter : FilterWords} {places : List (Option VersionIndices)} {names : List (Option NamedVersion)}
      → IsKept a.seen headers scope before × KnowsVersions a.seen versions × KeepsFilter a scope.hash was × KnowsIndices a.seen scope places × KnowsNames a.seen scope.symbols names
      → ReadsReady scope ready filter b c
      → IsKept d.seen headers scope ready × KnowsVersions d.seen versions × KeepsFilter d scope.hash filter × KnowsIndices d.seen scope places × KnowsNames d.seen scope.symbols names
  kept_prepared {scope = scope} {before = before} {ready = ready} all reads =
      let did = reads.did in
      let keeps = did.costs.reads.keeps in
      let after = kept_between set keeps free all in (
        kept_ready a.seen d.seen headers scope before ready all.0 (same_size set keeps free) (same_file set keeps free) reads.placed (λ file held. (did.known file (rw set.seen held)).0),
        after.1,
        keeps_filter set keeps free (λ file held. (did.known file (rw set.seen held)).1),
        after.3,
        after.4,
      )

  pub looks_within : {scope : LookupTables} {ready : Option HashTable} {wanted : SymbolQuery} {places : List (Option VersionIndices)} {result : Result (Option ℕ) Fault} → IsKept a.seen headers scope ready → KnowsIndices a.seen scope places
      → FindsDefiner scope ready wanted places b c result
      → LooksInObject wanted (object_of a headers) (object_of d headers) left left_new result
  looks_within {scope} {ready} {wanted} {places} {result} kept knows finds = looks_kept a b c d headers scope ready wanted left left_new result places kept knows set finds.did free pays
