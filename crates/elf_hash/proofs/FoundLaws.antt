-- What the first PT_DYNAMIC segment implies, within what is requested.
use Rattle.std.proofs.Common.{◌≡◌, ℕ, zero, suc, ◌+◌, ◌*◌, ◌/◌, ◌<◌, ◌≤◌, List, None, Some, Result, Ok, Err, IfErr, refl, sym, ap, subst, ◌∙◌, arith}
use Rattle.std.proofs.Math.Nat.{div-mul-le_self}
use Rattle.elf_model.specs.Prelude.{PT_DYNAMIC, dynamic_segment_index, first_refusal, lookup_tables_by_segments, overlap_checks, p_filesz, p_offset, scope_in_segment, scope_in_segments, segment_at, segment_dynamic_checks}
use Rattle.elf_model.specs.declared.causes.Cause.TheVariants.{NoHash}
use Rattle.elf_source.specs.Source.{CountedState}
use Rattle.elf_table.specs.Prelude.{CallDid, IsOfCheck, IsOfRead, RefusedBy, TableInBounds, TableRange, dynamic_table_at, fault_of_result, first_of_kind, rows, size_of}
use Rattle.elf_table.specs.declared.fault.Fault.{Fault}
use Rattle.elf_table.specs.declared.fault.Fault.TheVariants.{Refused, Source}
use Rattle.elf_table.proofs.LedgerLaws.{CallDid-stop}
use Rattle.elf_hash.specs.Prelude.{FindsLookupTables, entries_asked, scope_by_entries}
use Rattle.elf_hash.specs.declared.lookup_tables.LookupTables.{LookupTables}
use Rattle.elf_hash.proofs.SettleLaws.{checked_fails, checked_passes}

-- a call that reads, and then one that only checks
pub did_check : {X : Type 0} {a b : CountedState} {n : ℕ} {P : List ℕ → Type 0} (result : Result X Fault) → IfErr result IsOfCheck → CallDid a b None n P
    → CallDid a b (fault_of_result result) n P
did_check (Ok x) check p = p
did_check (Err fault) check p = CallDid-stop fault check p

-- a table that is not empty lies within a source, and so do its bytes
fits_in : (count entry at size : ℕ) → (0 < count → at + count * entry ≤ size) → count * entry ≤ size
fits_in zero entry at size h = omega arith
fits_in (suc n) entry at size h = let a = h (omega arith) in omega (arith, a)

pub size_within : (table : TableRange) (size : ℕ) → TableInBounds size table → size_of table ≤ size
size_within table size h = fits_in table.count table.entry table.at size h

module _ (file : List ℕ) where
  -- two LOAD segments overlap, or none do
  pub overlap_refused : (fault : Fault) → RefusedBy (overlap_checks file) fault → FindsLookupTables file (lookup_tables_by_segments file) (Err fault)
  unfolding lookup_tables_by_segments
  overlap_refused (Refused refusal) r = λ other. rw (r, lookup_tables_by_segments) refl
  overlap_refused (Source fault at) r = tt

  pub apart_finds : first_refusal (overlap_checks file) ≡ None → (result : Result LookupTables Fault)
      → FindsLookupTables file (scope_in_segments file) result → FindsLookupTables file (lookup_tables_by_segments file) result
  unfolding lookup_tables_by_segments
  apart_finds none result f =
      let is : lookup_tables_by_segments file ≡ scope_in_segments file = rw (none, lookup_tables_by_segments) refl in
      subst (λ r. FindsLookupTables file r result) (sym is) f

  pub index_is : dynamic_segment_index file ≡ first_of_kind file PT_DYNAMIC
  unfolding dynamic_segment_index
  index_is = refl

  pub segments_none : dynamic_segment_index file ≡ None → scope_in_segments file ≡ Err (record { at = 0x20; cause = NoHash })
  unfolding scope_in_segments
  segments_none e = rw (e, scope_in_segments) refl

  -- a fault of a read implies nothing
  pub read_finds : (fault : Fault) → IsOfRead fault → FindsLookupTables file (scope_in_segments file) (Err fault)
  read_finds (Refused refusal) budget = λ other. absurd (other budget)
  read_finds (Source fault at) budget = tt

  module _ (index : ℕ) (e : dynamic_segment_index file ≡ Some index) where
    segments_are : scope_in_segments file ≡ scope_in_segment file index (segment_at file index)
    unfolding scope_in_segments
    segments_are = rw (e, scope_in_segments) refl

    segment_fails : (fault : Fault) → RefusedBy (segment_dynamic_checks file (segment_at file index)) fault → FindsLookupTables file (scope_in_segment file index (segment_at file index)) (Err fault)
    unfolding scope_in_segment
    segment_fails (Refused refusal) r = λ other. rw (r, scope_in_segment) refl
    segment_fails (Source fault at) r = tt

    pub dynamic_refused : (fault : Fault) → Err fault ≡ dynamic_table_at file (segment_at file index) → FindsLookupTables file (scope_in_segments file) (Err fault)
    dynamic_refused fault h =
        let at = segment_at file index in
        let refused = checked_fails (segment_dynamic_checks file at) (rows (p_offset file at) (p_filesz file at / 16) 16) fault h in
        subst (λ r. FindsLookupTables file r (Err fault)) (sym segments_are) (segment_fails fault refused)

    module _ (table : TableRange) (h : Ok table ≡ dynamic_table_at file (segment_at file index)) where
      pub dynamic_is : (first_refusal (segment_dynamic_checks file (segment_at file index)) ≡ None)
          × (rows (p_offset file (segment_at file index)) (p_filesz file (segment_at file index) / 16) 16 ≡ table)
      dynamic_is =
          let at = segment_at file index in
          checked_passes (segment_dynamic_checks file at) (rows (p_offset file at) (p_filesz file at / 16) 16) table h

      pub asked_within : size_of table ≤ entries_asked file
      asked_within =
          let at = segment_at file index in
          let asked : entries_asked file ≡ p_filesz file at = rw (e, dynamic_is.0, entries_asked) refl in
          let size : p_filesz file at / 16 * 16 ≡ size_of table = ap size_of dynamic_is.1 in
          let low = div-mul-le_self (p_filesz file at) 16 in
          omega (arith, asked, size, low)

      in_segment : scope_in_segment file index (segment_at file index) ≡ scope_by_entries file index (segment_at file index)
      unfolding scope_in_segment
      in_segment = rw (dynamic_is.0, scope_in_segment) refl

      pub segment_finds : (result : Result LookupTables Fault) → FindsLookupTables file (scope_by_entries file index (segment_at file index)) result → FindsLookupTables file (scope_in_segments file) result
      segment_finds result f = subst (λ r. FindsLookupTables file r result) (sym (segments_are ∙ in_segment)) f
