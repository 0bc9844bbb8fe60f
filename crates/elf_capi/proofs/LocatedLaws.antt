-- A table of relocations that dynamic entries locate, stage by stage.
use Rattle.std.proofs.Common.{◌≡◌, ℕ, ◌/◌, List, ◌++◌, Option, None, Some, Result, Ok, Err, refl, sym, subst, ap, ◌∙◌}
use Rattle.elf_model.specs.Prelude.{LocatedTable, dynamic_segment_index, first_refusal, header_checks, load_checks, located_table, overlap_checks, p_filesz, p_offset, segment_at, segment_dynamic_checks}
use Rattle.elf_model.specs.declared.causes.Refusal.{Refusal}
use Rattle.elf_model.specs.declared.relocation_tables.RelocationTable.{RelocationTable}
use Rattle.elf_table.specs.Prelude.{IsOfRead, RefusedBy, StoreState, dynamic_table_at, rows, strings}
use Rattle.elf_table.specs.declared.fault.Fault.{Fault}
use Rattle.elf_table.specs.declared.fault.Fault.TheVariants.{Refused, Source}
use Rattle.elf_hash.proofs.SettleLaws.{checked_fails}
use Rattle.elf_hash.specs.Loading.{LoadsSegments}
use Rattle.elf_hash.specs.Prelude.{located_by}
use Rattle.elf_hash.specs.declared.relocation_tables.TableLocation.{TableLocation}
use Rattle.elf_capi.specs.LocatedTables.{ReturnsTable, as_location, located_of, located_position, table_apart, table_of_segment, table_of_segments}
use Rattle.elf_capi.specs.Rows.{rows_from_first}
use Rattle.elf_capi.specs.declared.rows.RowPosition.{RowPosition}

-- a fault of a read implies nothing
pub read_returns : {X : Type 0} (make : LocatedTable → X) (told : Result (Option LocatedTable) Refusal) (fault : Fault) → IsOfRead fault → ReturnsTable make told (Err fault)
read_returns make told (Refused refusal) budget = λ other. absurd (other budget)
read_returns make told (Source fault at) budget = tt

-- the table as it is located
by_located : (told : Result (Option LocatedTable) Refusal) (result : Result (Option TableLocation) Fault) → result ≡ located_by told → ReturnsTable as_location told result
by_located (Err refusal) result is = subst (λ r. ReturnsTable as_location (Err refusal) r) (sym is) (λ other. refl)
by_located (Ok None) result is = subst (λ r. ReturnsTable as_location (Ok None) r) (sym is) (None, refl, refl)
by_located (Ok (Some found)) result is = subst (λ r. ReturnsTable as_location (Ok (Some found)) r) (sym is) (Some found, refl, refl)

module _ (file : List ℕ) (table : RelocationTable) where
  -- two LOAD segments overlap, or none do
  pub overlap_returns : (fault : Fault) → RefusedBy (overlap_checks file) fault → ReturnsTable as_location (table_apart file table) (Err fault)
  overlap_returns (Refused refusal) r = λ other. rw (r, table_apart) refl
  overlap_returns (Source fault at) r = tt

  module _ (passed : first_refusal (overlap_checks file) ≡ None) where
    apart_is : table_apart file table ≡ table_of_segments file table
    apart_is = rw (passed, table_apart) refl

    -- there are no dynamic entries
    pub none_returns : dynamic_segment_index file ≡ None → ReturnsTable as_location (table_apart file table) (Ok None)
    none_returns none =
        let is : table_apart file table ≡ Ok None = apart_is ∙ rw (none, table_of_segments) refl in (None, is, refl)

    module _ (index : ℕ) (e : dynamic_segment_index file ≡ Some index) where
      segment_is : table_apart file table ≡ table_of_segment file table index
      segment_is = apart_is ∙ rw (e, table_of_segments) refl

      segment_fails : (fault : Fault) → RefusedBy (segment_dynamic_checks file (segment_at file index)) fault → ReturnsTable as_location (table_of_segment file table index) (Err fault)
      segment_fails (Refused refusal) r = λ other. rw (r, table_of_segment) refl
      segment_fails (Source fault at) r = tt

      -- or they are refused
      pub dynamic_returns : (fault : Fault) → Err fault ≡ dynamic_table_at file (segment_at file index) → ReturnsTable as_location (table_apart file table) (Err fault)
      dynamic_returns fault h =
          let at = segment_at file index in
          let refused = checked_fails (segment_dynamic_checks file at) (rows (p_offset file at) (p_filesz file at / 16) 16) fault h in
          subst (λ r. ReturnsTable as_location r (Err fault)) (sym segment_is) (segment_fails fault refused)

      -- or they locate the table
      pub located_returns : first_refusal (segment_dynamic_checks file (segment_at file index)) ≡ None → (result : Result (Option TableLocation) Fault)
          → result ≡ located_by (located_table file (segment_at file index) table) → ReturnsTable as_location (table_apart file table) result
      located_returns passes result is =
          let same : table_of_segment file table index ≡ located_table file (segment_at file index) table = rw (passes, table_of_segment) refl in
          subst (λ r. ReturnsTable as_location r result) (sym (segment_is ∙ same)) (by_located (located_table file (segment_at file index) table) result is)

module _ (file : List ℕ) (headers : ℕ) (table : RelocationTable) where
  -- a file that is not loaded
  pub load_returns : (fault : Fault) (store : StoreState) → LoadsSegments file headers store (Err fault) → ReturnsTable {X = RowPosition} located_position (located_of file headers table) (Err fault)
  load_returns (Refused refusal) store loads = λ other. let e = loads other in rw (e, located_of) refl
  load_returns (Source fault at) store loads = tt

  module _ (loads : first_refusal (header_checks file ++ load_checks file headers) ≡ None) where
    loaded_is : located_of file headers table ≡ table_apart file table
    loaded_is = rw (loads, located_of) refl

    -- the same of a loaded file, whose fault is that of the table
    pub fault_returns : (fault : Fault) → ReturnsTable as_location (table_apart file table) (Err fault) → ReturnsTable {X = RowPosition} located_position (located_of file headers table) (Err fault)
    fault_returns (Refused refusal) found = λ other. loaded_is ∙ found other
    fault_returns (Source fault at) found = tt

    -- no table
    pub absent_returns : ReturnsTable as_location (table_apart file table) (Ok None) → ReturnsTable located_position (located_of file headers table) (Ok None)
    absent_returns (None, told, is) = (None, loaded_is ∙ told, refl)
    absent_returns (Some found, told, is) = absurd (cc)

    -- or a position before its first row
    pub rows_return : (location : TableLocation) → ReturnsTable as_location (table_apart file table) (Ok (Some location))
        → ReturnsTable located_position (located_of file headers table) (Ok (Some (rows_from_first location.table (strings 0 0))))
    rows_return location (None, told, is) = absurd (cc)
    rows_return location (Some found, told, is) =
        let same : location ≡ as_location found = cc in
        (Some found, loaded_is ∙ told, ap (λ (l : TableLocation). Some (rows_from_first l.table (strings 0 0))) same)
