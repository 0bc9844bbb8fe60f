-- The kinds of tables, in the order of the definition's lists, are lawful.
use Rattle.std.proofs.Common.{◌≡◌, ℕ, ◌<◌, ◌≤◌, ◌==◌, Bool, true, false, List, refl}
use Rattle.elf_model.specs.Prelude.{HeaderTable, ListingStyle, RowFilter, TableHeaders, by_sections, by_segments, e_shnum, gnu_relocations, held_headers, kinds_cost, listing_cost, p_type, section_kinds, segment_kinds, sh_type, table_headers, viewed}
use Rattle.elf_model.specs.Cost.{located_cost, segments_cost, tables_cost}
use Rattle.elf_model.specs.SymbolFilterLaws.{SelectionsHideNoFault}
use Rattle.elf_model.specs.declared.place_filters.PlaceFilter.{PlaceFilter}
use Rattle.elf_model.specs.declared.symbol_filters.SymbolFilter.{SymbolFilter}
use Rattle.elf_model.proofs.DynamicKinds.{on_dynamic_entries, section_dynamic_lawful, segment_dynamic_lawful}
use Rattle.elf_model.proofs.HeldHeaders.{AreHeld}
use Rattle.elf_model.proofs.LawfulKinds.{AreLawful, are_apart, kinds-held, kinds-le, kinds-same}
use Rattle.elf_model.proofs.NoteKinds.{on_notes, section_notes_lawful, segment_notes_lawful}
use Rattle.elf_model.proofs.RelativeKinds.{on_relative, relocations_lawful}
use Rattle.elf_model.proofs.SelectionLaws.{AreSame, hides_no_fault}
use Rattle.elf_model.proofs.SymbolKinds.{on_symbols, symbols_lawful}
use Rattle.elf_model.proofs.TableBounds.{most_bound, table_bound}
use Rattle.elf_model.proofs.VersionKinds.{on_versions, version_kinds_lawful}

abbrev pub section_kinds_lawful : (gnu versions : Bool) → AreLawful sh_type 64 (most_bound versions) (section_kinds gnu versions)
section_kinds_lawful gnu versions =
    (symbols_lawful versions, (relocations_lawful gnu versions, (section_notes_lawful versions, (section_dynamic_lawful versions, version_kinds_lawful versions))))

abbrev pub segment_kinds_lawful : AreLawful p_type 56 table_bound segment_kinds
segment_kinds_lawful = (segment_notes_lawful, (segment_dynamic_lawful, tt))

-- what unfolds them
unfoldable pub on_kinds : Unit {0}
unfolding on_symbols on_relative on_notes on_dynamic_entries on_versions
on_kinds = tt

-- no type of a header is that of two kinds
sections_apart : (gnu versions : Bool) → are_apart sh_type 64 (most_bound versions) (section_kinds gnu versions) (section_kinds_lawful gnu versions) ≡ true
unfolding gnu_relocations
sections_apart true true = refl
sections_apart true false = refl
sections_apart false true = refl
sections_apart false false = refl

pub section_kinds-le : (headers : HeaderTable) (i size cap : ℕ) (gnu versions : Bool) (parts : ℕ)
    → kinds_cost (section_kinds gnu versions) headers i size cap parts ≤ most_bound versions size cap
section_kinds-le headers i size cap gnu versions parts =
    kinds-le sh_type 64 (most_bound versions) (section_kinds gnu versions) (section_kinds_lawful gnu versions) (sections_apart gnu versions) headers i size cap parts

pub segment_kinds-le : (headers : HeaderTable) (i size cap parts : ℕ) → kinds_cost segment_kinds headers i size cap parts ≤ table_bound size cap
segment_kinds-le headers i size cap parts = kinds-le p_type 56 table_bound segment_kinds segment_kinds_lawful refl headers i size cap parts

-- by headers in bytes of their own they cost what they cost in the file
pub section_kinds-held : (gnu versions : Bool) (all : HeaderTable) (row : ℕ → List ℕ) → AreHeld 64 row all → (i size cap parts : ℕ) → i < all.count
    → kinds_cost (section_kinds gnu versions) (held_headers all.count row) i size cap parts ≡ kinds_cost (section_kinds gnu versions) all i size cap parts
section_kinds-held gnu versions = kinds-held sh_type 64 (most_bound versions) (section_kinds gnu versions) (section_kinds_lawful gnu versions)

pub segment_kinds-held : (all : HeaderTable) (row : ℕ → List ℕ) → AreHeld 56 row all → (i size cap parts : ℕ) → i < all.count
    → kinds_cost segment_kinds (held_headers all.count row) i size cap parts ≡ kinds_cost segment_kinds all i size cap parts
segment_kinds-held = kinds-held p_type 56 table_bound segment_kinds segment_kinds_lawful

-- the rows of a file's tables, whatever rows are shown
kinds_same : (gnu versions : Bool) (file : List ℕ) (style : ListingStyle) (rows : RowFilter) (filter : SymbolFilter) (place : PlaceFilter) → AreSame file style rows filter place (table_headers gnu versions file).kinds
unfolding table_headers
kinds_same gnu versions file style rows filter place = by_sections_or_segments (e_shnum file == 0)
  where
    by_sections_or_segments : (none : Bool) → AreSame file style rows filter place (elim none as (λ _. TableHeaders) [ true ↦ by_segments file | false ↦ by_sections gnu versions file ]).kinds
    by_sections_or_segments true = kinds-same p_type 56 table_bound segment_kinds segment_kinds_lawful file style rows filter place
    by_sections_or_segments false = kinds-same sh_type 64 (most_bound versions) (section_kinds gnu versions) (section_kinds_lawful gnu versions) file style rows filter place

pub selections_hide_no_fault : SelectionsHideNoFault
unfolding listing_cost tables_cost segments_cost located_cost
selections_hide_no_fault file headers style parts rows filter place =
    (hides_no_fault file headers style parts rows filter place (kinds_same style.gnu style.versions (viewed style file) style rows filter place), refl)
