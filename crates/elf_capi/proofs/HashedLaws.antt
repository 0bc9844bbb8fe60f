-- The symbols that a hash table covers, stage by stage.
use Rattle.std.proofs.Common.{◌≡◌, ℕ, ◌+◌, ◌*◌, ◌≤◌, List, Option, None, Ok, Err, refl, sym, subst, arith}
use Rattle.elf_model.specs.Prelude.{LookupTables as IsScopeOf, lookup_tables_of, symbols_hashed}
use Rattle.elf_hash.specs.Prelude.{FindsLookupTables, IsDynamicSymbols, RefusesAs, extent_bytes, scope_cost}
use Rattle.elf_hash.specs.declared.lookup_tables.LookupTables.{LookupTables}
use Rattle.elf_source.specs.Source.{CountedState}
use Rattle.elf_table.proofs.LedgerLaws.{CallReads-then}
use Rattle.elf_table.specs.Prelude.{CallReads}
use Rattle.elf_table.specs.declared.fault.Fault.{Fault}
use Rattle.elf_table.specs.declared.fault.Fault.TheVariants.{Refused, Source}
use Rattle.elf_capi.specs.Prelude.{PlacesHashed, ReturnsHashedRows, hashed_cost, hashed_of}
use Rattle.elf_capi.specs.declared.rows.RowPosition.{RowPosition}

-- n of these symbols lie in the file if all do
pub rows_within : (scope : LookupTables) (at count size : ℕ) → at ≡ scope.symbols.table.at → count ≤ scope.symbols.table.count → scope.symbols.table.at + scope.symbols.table.count * scope.symbols.table.entry ≤ size
    → at + 24 * count ≤ size
rows_within scope at count size is few all =
    let entry = scope.symbols.rows in
    let width : scope.symbols.table.at + scope.symbols.table.count * 24 ≤ size = subst (λ (n : ℕ). scope.symbols.table.at + scope.symbols.table.count * n ≤ size) entry all in
    omega (arith, is, few, width)

module _ (file : List ℕ) (headers : ℕ) where
  -- no lookup tables are found
  pub unscoped : (fault : Fault) → FindsLookupTables file (lookup_tables_of file headers) (Err fault) → ReturnsHashedRows file headers (Err fault)
  unscoped (Refused refusal) found = λ unless. let none = found unless in rw (none, hashed_of) refl
  unscoped (Source fault at) found = tt

  module _ (told : IsScopeOf) (found : lookup_tables_of file headers ≡ Ok told) where
    -- their symbols cannot be counted
    pub uncounted : (fault : Fault) → RefusesAs (symbols_hashed file told) fault → ReturnsHashedRows file headers (Err fault)
    uncounted (Refused refusal) counts = λ unless. let e = counts unless in rw (found, e, hashed_of) refl
    uncounted (Source fault at) counts = tt

    -- all of them are returned
    pub counted : (count : ℕ) (rows : RowPosition) → symbols_hashed file told ≡ Ok count → PlacesHashed file told.symbols count rows → ReturnsHashedRows file headers (Ok rows)
    counted count rows e places = (told.symbols, count, rw (found, e, hashed_of) refl, places)

    -- what that costs: the lookup tables, and the count
    cost_is : hashed_cost file headers ≡ scope_cost file headers + (16 + extent_bytes file told)
    cost_is = rw (found, hashed_cost) refl

    pub costs_counted : {a b c : CountedState} {stop : Option Fault} → CallReads a b None (scope_cost file headers) → CallReads b c stop (16 + extent_bytes file told) → CallReads a c stop (hashed_cost file headers)
    costs_counted first counts = CallReads-then (hashed_cost file headers) (omega (arith, cost_is)) first counts

  -- n of the symbols of the lookup tables
  pub places_hashed : (told : IsScopeOf) (scope : LookupTables) (count : ℕ) (rows : RowPosition) → IsDynamicSymbols file told.symbols scope.symbols → count ≤ scope.symbols.table.count
      → rows ≡ record { at = scope.symbols.table.at; count = count; index = 0; entry = 24; strings_at = scope.symbols.names.at; strings_len = scope.symbols.names.size }
      → PlacesHashed file told.symbols count rows
  places_hashed told scope count rows is few e = subst (λ (r : RowPosition). PlacesHashed file told.symbols count r) (sym e) (record {
    at = is.place;
    counted = refl;
    first = refl;
    entry = refl;
    strings = λ some. is.names (omega (arith, some, few));
  })
