-- The row at fault by the headers in the store, and by the file.
use Rattle.std.proofs.Common.{◌≡◌, ℕ, ◌==◌, ◌&&◌, ◌||◌, nat_lt, if◌then◌else◌, Bool, true, false, List, [], Option, None, Some, Result, Ok, Err, refl, sym, ap, ◌∙◌}
use Rattle.elf_model.specs.Prelude.{HeaderCounts, HeaderTable, IsBudgetRefusal, ListingStyle, counts_in, e_phnum, e_shnum, fault_row, file_sections, first_refusal, has, header_checks, known_parts, lies_in_segments, listing_fault_row, needs_segments, overlap_checks, row_among, row_in_tables, row_index, table_segments, view_checks, viewed as view_of}
use Rattle.elf_model.specs.declared.causes.Refusal.{Refusal}
use Rattle.elf_model.specs.declared.fault_rows.FaultRow.{FaultRow}
use Rattle.elf_model.specs.declared.fault_rows.FaultRow.TheVariants.{FileHeader, NoRow, ProgramHeader, SectionHeader}
use Rattle.elf_model.proofs.FaultRowLemmas.{IsHeaderRow, load_refusal_row, overlap_refusal_row}
use Rattle.elf_model.proofs.FaultRowsHeld.{row_held}
use Rattle.elf_source.specs.Prelude.{OutState}
use Rattle.elf_record.specs.Prelude.{IsEhdr}
use Rattle.elf_record.specs.declared.ehdr.Ehdr.{Ehdr}
use Rattle.elf_table.specs.Load.{counts_of}
use Rattle.elf_table.specs.Prelude.{HeaderRead, HoldsSectionHeaders, HoldsSegments, LoadedAs, LoadedFile, StoreState, row, segment_bytes, stop_of}
use Rattle.elf_table.specs.declared.fault.Fault.{Fault}
use Rattle.elf_table.specs.declared.fault.Fault.TheVariants.{Refused as FaultRefused, Source as FaultSource}
use Rattle.elf_table.specs.declared.run_fault.RunFault.{RunFault}
use Rattle.elf_table.specs.declared.run_fault.RunFault.TheVariants.{Out, Refused, Source}
use Rattle.elf_listing.specs.Prelude.{ChecksView, FindsFaultRow, HoldsFaultRow, IsOfOutput, store_sections, store_segments, viewed_headers}

-- a refusal in a header is in the same row by any headers
header_row_held : (file : List ℕ) (style : ListingStyle) (parts : ℕ) (store : StoreState) (at : ℕ) → IsHeaderRow (counts_in file) at
    → row_among (counts_in file) (store_sections store) (store_segments store) at ≡ fault_row file style parts at
header_row_held file style parts store at is = is (store_sections store) (store_segments store) (file_sections file) (table_segments file style parts)

-- the load failed
pub load_row_held : (file : List ℕ) (style : ListingStyle) (parts : ℕ) (store : StoreState) (fault : Fault) → LoadedAs file (Err fault) store → HoldsFaultRow {X = Unit {0}} file style parts store (Err (stop_of fault))
load_row_held file style parts store (FaultRefused refusal) read = λ other. header_row_held file style parts store refusal.at (load_refusal_row file store.slots refusal (read other))
load_row_held file style parts store (FaultSource cause at) read = tt

-- a check of the LOAD segments failed
view_refusal_row : (file : List ℕ) (style : ListingStyle) (parts : ℕ) (refusal : Refusal) → first_refusal (view_checks file style parts) ≡ Some refusal → IsHeaderRow (counts_in file) refusal.at
unfolding view_checks
view_refusal_row file style parts refusal is = by_style (style.by_segments && needs_segments file style parts) is
  where
    by_style : (checked : Bool) → first_refusal (if checked then overlap_checks file else []) ≡ Some refusal → IsHeaderRow (counts_in file) refusal.at
    by_style true e = overlap_refusal_row file refusal e
    by_style false e = cc

pub view_row_held : (file : List ℕ) (style : ListingStyle) (parts : ℕ) (store : StoreState) (fault : Fault) → ChecksView (view_checks file style parts) (Err fault)
    → HoldsFaultRow {X = Unit {0}} file style parts store (Err (stop_of fault))
view_row_held file style parts store (FaultRefused refusal) checked = λ other. header_row_held file style parts store refusal.at (view_refusal_row file style parts refusal (checked other))
view_row_held file style parts store (FaultSource cause at) checked = tt

-- the row by other tables that have the same
row_among_same : (e : HeaderCounts) (at : ℕ) (a b c d : HeaderTable) → row_in_tables a b at ≡ row_in_tables c d at → row_among e a b at ≡ row_among e c d at
unfolding row_among
row_among_same e at a b c d same = by_header (nat_lt at 64)
  where
    by_program : (found : Option ℕ)
        → (elim found as (λ _. FaultRow) [ Some i ↦ ProgramHeader i | None ↦ row_in_tables a b at ]) ≡ (elim found as (λ _. FaultRow) [ Some i ↦ ProgramHeader i | None ↦ row_in_tables c d at ])
    by_program (Some i) = refl
    by_program None = same

    by_section : (found : Option ℕ)
        → (elim found as (λ _. FaultRow) [ Some i ↦ SectionHeader i | None ↦ elim (row_index e.phoff 56 e.phnum at) as (λ _. FaultRow) [ Some i ↦ ProgramHeader i | None ↦ row_in_tables a b at ] ])
        ≡ (elim found as (λ _. FaultRow) [ Some i ↦ SectionHeader i | None ↦ elim (row_index e.phoff 56 e.phnum at) as (λ _. FaultRow) [ Some i ↦ ProgramHeader i | None ↦ row_in_tables c d at ] ])
    by_section (Some i) = refl
    by_section None = by_program (row_index e.phoff 56 e.phnum at)

    by_header : (first : Bool)
        → (if first then FileHeader else elim (row_index e.shoff 64 e.shnum at) as (λ _. FaultRow) [ Some i ↦ SectionHeader i | None ↦ elim (row_index e.phoff 56 e.phnum at) as (λ _. FaultRow) [ Some i ↦ ProgramHeader i | None ↦ row_in_tables a b at ] ])
        ≡ (if first then FileHeader else elim (row_index e.shoff 64 e.shnum at) as (λ _. FaultRow) [ Some i ↦ SectionHeader i | None ↦ elim (row_index e.phoff 56 e.phnum at) as (λ _. FaultRow) [ Some i ↦ ProgramHeader i | None ↦ row_in_tables c d at ] ])
    by_header true = refl
    by_header false = by_section (row_index e.shoff 64 e.shnum at)

-- the program headers in the store are those in which tables are found
needs_alike : (none shown others : Bool) → (none && (shown || others)) ≡ (none && (shown || (none && others)))
needs_alike true shown others = refl
needs_alike false shown others = refl

segments_counted : (file : List ℕ) (style : ListingStyle) (parts : ℕ) (loaded : LoadedFile) → IsEhdr file 0 loaded.header → viewed_headers style parts loaded ≡ (table_segments file style parts).count
segments_counted file style parts loaded is =
    ap (λ n. if n == 0 && (has parts 4 || lies_in_segments style parts) then loaded.header.e_phnum else 0) is.e_shnum
    ∙ ap (λ n. if e_shnum file == 0 && (has parts 4 || lies_in_segments style parts) then n else 0) is.e_phnum
    ∙ ap (λ needed. if needed then e_phnum file else 0) (needs_alike (e_shnum file == 0) (has parts 4) (lies_in_segments style parts))

-- the tables were listed
pub tables_row_held : (file : List ℕ) (style : ListingStyle) (parts : ℕ) (loaded : LoadedFile) (store : StoreState) (result : Result (Unit {0}) RunFault) → HoldsSectionHeaders file loaded store
    → store.segments ≡ viewed_headers style parts loaded → HoldsSegments file store → HoldsFaultRow file style parts store result
tables_row_held file style parts loaded store (Ok x) belongs counted held = tt
tables_row_held file style parts loaded store (Err (Source cause at)) belongs counted held = tt
tables_row_held file style parts loaded store (Err (Out cause)) belongs counted held = tt
tables_row_held file style parts loaded store (Err (Refused refusal)) belongs counted held = λ other.
    let count : store.loaded ≡ e_shnum file = belongs.count ∙ belongs.header.e_shnum in
    let segments : store.segments ≡ (table_segments file style parts).count = counted ∙ segments_counted file style parts loaded belongs.header in
    let same = row_held file style parts (row store) (segment_bytes store) refusal.at (λ i below. belongs.rows i (rw count below)) (λ i below. held i (rw segments below)) in
    row_among_same (counts_in file) refusal.at (store_sections store) (store_segments store) (file_sections file) (table_segments file style parts) (rw (count, segments) same)

-- the counts in a decoded file header
counts_same : (file : List ℕ) (header : Ehdr) → IsEhdr file 0 header → counts_of header ≡ counts_in file
counts_same file header is = rw (is.e_phoff, is.e_shoff, is.e_phentsize, is.e_phnum, is.e_shentsize, is.e_shnum, is.e_shstrndx) refl

-- the row by the listing's file
row_refused : (file : List ℕ) (style : ListingStyle) (parts at : ℕ) (refusal : Refusal) → first_refusal (header_checks file) ≡ Some refusal → listing_fault_row file style parts at ≡ NoRow
unfolding listing_fault_row
row_refused file style parts at refusal h = rw h refl

row_passed : (file : List ℕ) (style : ListingStyle) (parts at : ℕ) → first_refusal (header_checks file) ≡ None
    → listing_fault_row file style parts at ≡ fault_row (view_of style file) style (known_parts style parts) at
unfolding listing_fault_row
row_passed file style parts at h = rw h refl

-- the file header was not read, or is refused
pub header_finds : (file : List ℕ) (style : ListingStyle) (parts : ℕ) (fault : Fault) → HeaderRead file (Err fault) → FindsFaultRow {X = Unit {0}} file style parts (Err (stop_of fault)) NoRow
header_finds file style parts (FaultRefused refusal) read =
    record { unknown = λ budget. refl; known = λ other. sym (row_refused file style parts refusal.at refusal (read other)) }
header_finds file style parts (FaultSource cause at) read = tt

-- the output failed
pub output_finds : (out : OutState) (file : List ℕ) (style : ListingStyle) (parts : ℕ) (stop : RunFault) (said : FaultRow) → IsOfOutput out stop → FindsFaultRow {X = Unit {0}} file style parts (Err stop) said
output_finds out file style parts (Refused refusal) said is = absurd is
output_finds out file style parts (Source cause at) said is = absurd is
output_finds out file style parts (Out cause) said is = tt

-- what follows the file header was listed
pub listed_finds : (file : List ℕ) (style : ListingStyle) (parts : ℕ) (viewed : Ehdr) (store : StoreState) (result : Result (Unit {0}) RunFault) (said : FaultRow)
    → first_refusal (header_checks file) ≡ None → IsEhdr (view_of style file) 0 viewed → HoldsFaultRow (view_of style file) style (known_parts style parts) store result
    → ((refusal : Refusal) → result ≡ Err (Refused refusal) → IsBudgetRefusal refusal → said ≡ NoRow)
    → ((refusal : Refusal) → result ≡ Err (Refused refusal) → (IsBudgetRefusal refusal → ⊥) → said ≡ row_among (counts_of viewed) (store_sections store) (store_segments store) refusal.at)
    → FindsFaultRow file style parts result said
listed_finds file style parts viewed store (Ok x) said passed is holds none some = tt
listed_finds file style parts viewed store (Err (Source cause at)) said passed is holds none some = tt
listed_finds file style parts viewed store (Err (Out cause)) said passed is holds none some = tt
listed_finds file style parts viewed store (Err (Refused refusal)) said passed is holds none some = record {
  unknown = none refusal refl;
  known = λ other.
      some refusal refl other
      ∙ ap (λ (e : HeaderCounts). row_among e (store_sections store) (store_segments store) refusal.at) (counts_same (view_of style file) viewed is)
      ∙ holds other
      ∙ sym (row_passed file style parts refusal.at passed);
}
