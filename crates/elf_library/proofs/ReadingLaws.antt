-- How a file is linked, stage by stage: the lookup tables, the first segment of dynamic entries,
-- the headers.
use Rattle.std.proofs.Common.{◌≡◌, ℕ, ◌+◌, ◌*◌, ◌/◌, ◌≤◌, Bool, true, false, List, ◌++◌, None, Some, Result, Ok, Err, refl, sym, ap, subst, ◌∙◌, arith}
use Rattle.elf_model.specs.Prelude.{DT_STRSZ, DT_STRTAB, IsBudgetRefusal, LinkState, LookupTables as IsScopeOf, TextRoom, dynamic_count, dynamic_segment_index, e_shnum, first_refusal, has_none, header_checks, linked_from, linked_in, links_by_segments, links_ceiling, links_of, listed_value, load_checks, loaded_links, lookup_refusal, lookup_tables_by_segments, no_link_info, p_filesz, p_offset, segment_at, segment_dynamic_checks, without_sections}
use Rattle.elf_model.specs.declared.causes.Refusal.{Refusal}
use Rattle.elf_model.proofs.StyleLemmas.{view_tells_of_none}
use Rattle.elf_source.specs.Source.{CountedState, MasksSectionHeaders}
use Rattle.elf_table.proofs.FaultLaws.{charges_hidden}
use Rattle.elf_table.specs.Prelude.{CallDid, CallReads, StoreState, TableRange, dynamic_table_at, fault_of_result, rows}
use Rattle.elf_table.specs.declared.fault.Fault.{Fault}
use Rattle.elf_table.specs.declared.fault.Fault.TheVariants.{Refused, Source}
use Rattle.elf_note.specs.Prelude.{AreStrings}
use Rattle.elf_note.specs.declared.string_values.DynamicStrings.{DynamicStrings}
use Rattle.elf_hash.proofs.SettleLaws.{checked_fails}
use Rattle.elf_hash.specs.Prelude.{FindsLookupTables, LoadsSegments}
use Rattle.elf_library.proofs.LoopLaws.{keeps_none}
use Rattle.elf_library.specs.Prelude.{HasFlags, LinkInfoState, ReturnsLinks, ReturnsLookupRefusal, linked_in_segments, lookup_passed, no_info}
use Rattle.elf_library.specs.declared.links.LinkInfo.{LinkInfo}

-- A LOOKUP: a file without a hash table is skipped, so that a call did not stop
pub passed_did : {a b : CountedState} {n : ℕ} {P : List ℕ → Type 0} (fault : Fault) → CallDid a b (Some fault) n P → CallDid a b (fault_of_result (lookup_passed fault)) n P
passed_did (Source fault at) did = did
passed_did {a} {b} {n} {P} (Refused refusal) did = go (has_none refusal.cause) refl
  where
    go : (h : Bool) → has_none refusal.cause ≡ h → CallDid a b (fault_of_result (lookup_passed (Refused refusal))) n P
    go true is = rw (is, lookup_passed) (record { costs = record { reads = did.costs.reads; says = tt }; known = did.known })
    go false isnt = rw (isnt, lookup_passed) did

not_both : (b : Bool) → b ≡ true → b ≡ false → ⊥
not_both true t f = cc
not_both false t f = cc

not_budget : (refusal : Refusal) → has_none refusal.cause ≡ true → IsBudgetRefusal refusal → ⊥
not_budget refusal is budget = not_both (has_none refusal.cause) is (ap has_none budget)

module _ (file : List ℕ) where
  pub lookup_passes : (scope : IsScopeOf) → lookup_tables_by_segments file ≡ Ok scope → lookup_refusal file ≡ None
  unfolding lookup_refusal
  lookup_passes scope e = rw (e, lookup_refusal) refl

  lookup_none : (refusal : Refusal) → lookup_tables_by_segments file ≡ Err refusal → has_none refusal.cause ≡ true → lookup_refusal file ≡ None
  unfolding lookup_refusal
  lookup_none refusal e is = rw (e, is, lookup_refusal) refl

  lookup_fails : (refusal : Refusal) → lookup_tables_by_segments file ≡ Err refusal → has_none refusal.cause ≡ false → lookup_refusal file ≡ Some refusal
  unfolding lookup_refusal
  lookup_fails refusal e isnt = rw (e, isnt, lookup_refusal) refl

  pub passed_tells : (fault : Fault) → FindsLookupTables file (lookup_tables_by_segments file) (Err fault) → ReturnsLookupRefusal (lookup_refusal file) (lookup_passed fault)
  passed_tells (Source fault at) finds = tt
  passed_tells (Refused refusal) finds = go (has_none refusal.cause) refl
    where
      go : (b : Bool) → has_none refusal.cause ≡ b → ReturnsLookupRefusal (lookup_refusal file) (lookup_passed (Refused refusal))
      go true is = rw (is, lookup_passed) (lookup_none refusal (finds (not_budget refusal is)) is)
      go false isnt = rw (isnt, lookup_passed) (λ other. lookup_fails refusal (finds other) isnt)

  module _ (room : TextRoom) where
    loaded_fails : (refusal : Refusal) → lookup_refusal file ≡ Some refusal → loaded_links file room ≡ Err refusal
    unfolding loaded_links
    loaded_fails refusal e = rw (e, loaded_links) refl

    pub loaded_is : lookup_refusal file ≡ None → linked_in_segments file room ≡ loaded_links file room
    unfolding loaded_links
    loaded_is e = rw (e, loaded_links) refl

    pub lookup_stops : (old new : LinkInfoState) (fault : Fault) → ReturnsLookupRefusal (lookup_refusal file) (Err fault) → ReturnsLinks (loaded_links file room) old new (Err fault)
    lookup_stops old new (Refused refusal) tells = λ other. loaded_fails refusal (tells other)
    lookup_stops old new (Source fault at) tells = tt

    -- THE FIRST SEGMENT of dynamic entries
    module _ (i : ℕ) (e : dynamic_segment_index file ≡ Some i) where
      table_fails : (refusal : Refusal) → first_refusal (segment_dynamic_checks file (segment_at file i)) ≡ Some refusal → linked_in_segments file room ≡ Err refusal
      table_fails refusal fails = rw (e, fails, linked_in_segments) refl

      pub table_stops : (old new : LinkInfoState) (fault : Fault) → Err fault ≡ dynamic_table_at file (segment_at file i) → ReturnsLinks (linked_in_segments file room) old new (Err fault)
      table_stops old new (Refused refusal) h = λ other.
          let at = segment_at file i in
          table_fails refusal (checked_fails (segment_dynamic_checks file at) (rows (p_offset file at) (p_filesz file at / 16) 16) (Refused refusal) h)
      table_stops old new (Source fault at) h = tt

      table_is : first_refusal (segment_dynamic_checks file (segment_at file i)) ≡ None
          → linked_in_segments file room ≡ linked_in file (p_offset file (segment_at file i)) (p_filesz file (segment_at file i) / 16) room
      table_is passes = rw (e, passes, linked_in_segments) refl

      in_is : (at n : ℕ) → linked_in file at n room
          ≡ linked_from file (listed_value file at n DT_STRTAB) (listed_value file at n DT_STRSZ) at (record { links = no_link_info; room = room }) (dynamic_count file at n)
      unfolding linked_in
      in_is at n = refl

      pub entries_are : first_refusal (segment_dynamic_checks file (segment_at file i)) ≡ None → (table : TableRange)
          → rows (p_offset file (segment_at file i)) (p_filesz file (segment_at file i) / 16) 16 ≡ table → (told : DynamicStrings) → AreStrings file table told
          → linked_from file told.address told.size table.at (record { links = no_link_info; room = room }) (dynamic_count file table.at table.count) ≡ linked_in_segments file room
      entries_are passes table is told are =
          rw (are.its_address, are.its_size, ← is) (sym (in_is (p_offset file (segment_at file i)) (p_filesz file (segment_at file i) / 16)) ∙ sym (table_is passes))

  segments_are : (room : TextRoom) → dynamic_segment_index file ≡ None → linked_in_segments file room ≡ Ok (record { links = no_link_info; room = room })
  segments_are room none = rw (none, linked_in_segments) refl

  pub segments_none : dynamic_segment_index file ≡ None → (held : LinkInfoState) (links : LinkInfo) → links ≡ no_info
      → ReturnsLinks (linked_in_segments file held.held.room) held held (Ok links)
  segments_none none held links is = (_, segments_are held.held.room none, keeps_none held links is)

-- links in other words
pub links_as : (told other : Result LinkState Refusal) (old new : LinkInfoState) (result : Result LinkInfo Fault) → told ≡ other → ReturnsLinks told old new result → ReturnsLinks other old new result
links_as told other old new result same tells = subst (λ t. ReturnsLinks t old new result) same tells

-- and a refusal of them
pub links_refused : (told other : Result LinkState Refusal) (old new : LinkInfoState) (fault : Fault) → told ≡ other → ReturnsLinks told old new (Err fault) → ReturnsLinks other old new (Err fault)
links_refused told other old new fault same tells = links_as told other old new (Err fault) same tells

-- n rows of 16 bytes lie within a source of a size
pub rows_most : (table : TableRange) (size : ℕ) → table.entry ≡ 16 → table.count * table.entry ≤ size → table.count * 4160 ≤ size / 16 * 4160
rows_most table size entry within =
    let is = ap (λ (n : ℕ). table.count * n) entry in
    omega (arith, is, within)

-- THE HEADERS
pub ceiling_is : (size headers : ℕ) → links_ceiling size headers ≡ 64 + headers * 56 + 3 * size + size / 16 * 4160
unfolding links_ceiling
ceiling_is size headers = refl

module _ (file : List ℕ) (headers : ℕ) (room : TextRoom) where
  refused : (refusal : Refusal) → first_refusal (header_checks file ++ load_checks file headers) ≡ Some refusal → links_by_segments file headers room ≡ Err refusal
  unfolding links_by_segments
  refused refusal e = rw (e, links_by_segments) refl

  pub shown_is : first_refusal (header_checks file ++ load_checks file headers) ≡ None → loaded_links file room ≡ links_by_segments file headers room
  unfolding links_by_segments
  shown_is e = rw (e, links_by_segments) refl

  pub load_stops : (old new : LinkInfoState) (fault : Fault) (store : StoreState) → LoadsSegments file headers store (Err fault)
      → ReturnsLinks (links_by_segments file headers room) old new (Err fault)
  load_stops old new (Refused refusal) store loads = λ other. refused refusal (loads other)
  load_stops old new (Source fault at) store loads = tt

-- the section header fields of the file header are masked meanwhile
links_are : (file : List ℕ) (headers : ℕ) (room : TextRoom) → links_by_segments (without_sections file) headers room ≡ links_of file headers room
unfolding links_of
links_are file headers room = refl

pub found_hidden : {a b c d : CountedState} (headers : ℕ) (room : TextRoom) (old new : LinkInfoState) (result : Result LinkInfo Fault) (most : ℕ → ℕ) → MasksSectionHeaders a b true → MasksSectionHeaders c d a.hides
    → CallDid b c (fault_of_result result) (most b.seen.size) (λ file. e_shnum file ≡ 0 → ReturnsLinks (links_by_segments file headers room) old new result × HasFlags file result)
    → CallDid a d (fault_of_result result) (most a.seen.size) (λ file. ReturnsLinks (links_of file headers room) old new result × HasFlags (without_sections file) result)
found_hidden {a} {b} {c} {d} headers room old new result most hide show did = record {
  costs = subst (λ (size : ℕ). CallReads a d (fault_of_result result) (most size)) hide.same_size (charges_hidden _ (fault_of_result result) hide show did.costs);
  known = λ file held.
      let links = did.known (without_sections file) (hide.shows refl file held) (view_tells_of_none file).1 in
      (links_as _ _ old new result (links_are file headers room) links.0, links.1);
}
