-- The symbols that a loader knows, by the tables that a lookup searches and the counts of its hash
-- table.
use Rattle.std.proofs.Common.{◌≡◌, ℕ, ◌≤◌, Bool, true, false, List, [], ◌∷◌, Option, None, Some, Ok, Err, refl, ap, arith}
use Rattle.elf_model.specs.Prelude.{GnuTable, HashStyle, IsBudgetRefusal, LookupTables as IsScopeOf, SysvTable, counts_check, dynamic_segment_index, first_refusal, has_none, known_symbols, least_size, lookup_tables_by_segments}
use Rattle.elf_model.specs.declared.causes.Refusal.{Refusal}
use Rattle.elf_source.specs.Source.{CountedState}
use Rattle.elf_table.specs.Prelude.{CallDid, CallReads, fault_of_result}
use Rattle.elf_table.specs.declared.fault.Fault.{Fault}
use Rattle.elf_table.specs.declared.fault.Fault.TheVariants.{Refused, Source}
use Rattle.elf_hash.specs.Prelude.{FindsLookupTables, HasCounts, IsLookupTables, IsPlaceIn, counts_bytes, hash_style_of}
use Rattle.elf_hash.specs.declared.hash_style.HashStyle.{HashStyle as Kind}
use Rattle.elf_hash.specs.declared.table.HashTable.{HashTable}
use Rattle.elf_hash.specs.declared.lookup_tables.LookupTables.{LookupTables}
use Rattle.elf_loader.specs.Known.{AreKnown, ReturnsKnown, counts_asked, passed_over}

-- a file without a hash table is accepted: then a call did not stop
pub passed_did : {a b : CountedState} {n : ℕ} {P : List ℕ → Type 0} (fault : Fault) → CallDid a b (Some fault) n P → CallDid a b (fault_of_result (passed_over fault)) n P
passed_did (Source fault at) did = did
passed_did {a} {b} {n} {P} (Refused refusal) did = go (has_none refusal.cause) refl
  where
    go : (h : Bool) → has_none refusal.cause ≡ h → CallDid a b (fault_of_result (passed_over (Refused refusal))) n P
    go true is = rw (is, passed_over) (record { costs = record { reads = did.costs.reads; says = tt }; known = did.known })
    go false isnt = rw (isnt, passed_over) did

pub passed_charges : {a b : CountedState} {n : ℕ} (fault : Fault) → CallReads a b (Some fault) n → CallReads a b (fault_of_result (passed_over fault)) n
passed_charges (Source fault at) costs = costs
passed_charges {a} {b} {n} (Refused refusal) costs = go (has_none refusal.cause) refl
  where
    go : (h : Bool) → has_none refusal.cause ≡ h → CallReads a b (fault_of_result (passed_over (Refused refusal))) n
    go true is = rw (is, passed_over) (record { reads = costs.reads; says = tt })
    go false isnt = rw (isnt, passed_over) costs

not_both : (b : Bool) → b ≡ true → b ≡ false → ⊥
not_both true t f = cc
not_both false t f = cc

-- its cause is not `Budget`
not_budget : (refusal : Refusal) → has_none refusal.cause ≡ true → IsBudgetRefusal refusal → ⊥
not_budget refusal is budget = not_both (has_none refusal.cause) is (ap has_none budget)

least_most : (kind : HashStyle) → least_size kind ≤ 16
least_most GnuTable = omega arith
least_most SysvTable = omega arith

-- what counts request at most
pub counts_most : (kind : Kind) → counts_bytes kind ≤ 16
counts_most kind = least_most (hash_style_of kind)

-- without dynamic entries there are none
pub finds_none : (file : List ℕ) → dynamic_segment_index file ≡ None → known_symbols file ≡ Ok None
unfolding known_symbols
finds_none file none = rw (none, known_symbols) refl

module _ (file : List ℕ) (index : ℕ) (some : dynamic_segment_index file ≡ Some index) where
  known_none : (refusal : Refusal) → lookup_tables_by_segments file ≡ Err refusal → has_none refusal.cause ≡ true → known_symbols file ≡ Ok None
  unfolding known_symbols
  known_none refusal e is = rw (some, e, is, known_symbols) refl

  known_fails : (refusal : Refusal) → lookup_tables_by_segments file ≡ Err refusal → has_none refusal.cause ≡ false → known_symbols file ≡ Err refusal
  unfolding known_symbols
  known_fails refusal e isnt = rw (some, e, isnt, known_symbols) refl

  pub passed_tells : (fault : Fault) → FindsLookupTables file (lookup_tables_by_segments file) (Err fault) → ReturnsKnown file (passed_over fault)
  passed_tells (Source fault at) finds = tt
  passed_tells (Refused refusal) finds = go (has_none refusal.cause) refl
    where
      go : (b : Bool) → has_none refusal.cause ≡ b → ReturnsKnown file (passed_over (Refused refusal))
      go true is = rw (is, passed_over) (known_none refusal (finds (not_budget refusal is)) is)
      go false isnt = rw (isnt, passed_over) (λ other. known_fails refusal (finds other) isnt)

  module _ (told : IsScopeOf) (scope : LookupTables) (found : lookup_tables_by_segments file ≡ Ok told) (is : IsLookupTables file told scope) where
    -- the location of its hash table
    pub its_place : IsPlaceIn told scope.hash
    its_place = record { kind = is.kind; head = is.head; table = record { start = is.place; size = is.size; symbols = is.count } }

    known_some : first_refusal (counts_check file told ∷ []) ≡ None → known_symbols file ≡ Ok (Some told)
    unfolding known_symbols
    known_some passes = rw (some, found, passes, known_symbols) refl

    known_misshapen : (refusal : Refusal) → first_refusal (counts_check file told ∷ []) ≡ Some refusal → known_symbols file ≡ Err refusal
    unfolding known_symbols
    known_misshapen refusal fails = rw (some, found, fails, known_symbols) refl

    -- its counts, or their refusal
    pub counted_known : (table : HashTable) → HasCounts file told (Ok table) → AreKnown file (record { symbols = scope.symbols; table = table })
    counted_known table has = record { scope = told; told = known_some has.0; symbols = is.symbols; table = has.1 }

    pub counts_refused : (fault : Fault) → HasCounts file told (Err fault) → ReturnsKnown file (Err fault)
    counts_refused (Refused refusal) has = λ other. known_misshapen refusal (has other)
    counts_refused (Source fault at) has = tt

    -- and what they request
    pub counts_within : counts_bytes scope.hash.kind ≤ counts_asked file
    counts_within = go (first_refusal (counts_check file told ∷ [])) refl
      where
        go : (first : Option Refusal) → first_refusal (counts_check file told ∷ []) ≡ first → counts_bytes scope.hash.kind ≤ counts_asked file
        go None passes =
            let e = known_some passes in
            let asked : counts_asked file ≡ least_size told.kind = rw (e, counts_asked) refl in
            let same = ap least_size is.kind in
            omega (arith, asked, same)
        go (Some refusal) fails =
            let e = known_misshapen refusal fails in
            let asked : counts_asked file ≡ 16 = rw (e, counts_asked) refl in
            let most = least_most (hash_style_of scope.hash.kind) in
            omega (arith, asked, most)
