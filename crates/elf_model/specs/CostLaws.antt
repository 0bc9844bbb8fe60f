-- Facts about costs.
use Rattle.std.specs.Prelude.{◌≡◌, ℕ, ◌+◌, ◌*◌, ◌<◌, ◌≤◌, Bool, List, [], ◌∷◌, length}
use Rattle.elf_model.specs.Bytes.{slice}
use Rattle.elf_model.specs.Records.{FILE_HEADER_SIZE, SECTION_HEADER_SIZE, PROGRAM_HEADER_SIZE, e_shnum, e_phnum, section_at, segment_at}
use Rattle.elf_model.specs.Names.{name_bytes}
use Rattle.elf_model.specs.Checks.{pass, table_checks_of}
use Rattle.elf_model.specs.Listing.{has}
use Rattle.elf_model.specs.HeaderTables.{HeaderTable, TableKind, file_sections, file_segments, held_headers}
use Rattle.elf_model.specs.TableKinds.{section_kinds, segment_kinds}
use Rattle.elf_model.specs.Cost.{sum_over, cost_where, table_cost, kinds_cost, listing_cost, ceiling, style_ceiling}
use Rattle.elf_model.specs.Style.{ListingStyle}

-- no listing costs more than the ceiling of its file's length, for any bytes
abbrev pub CostIsWithinCeiling : Type 0
CostIsWithinCeiling =
    (file : List ℕ) → (headers : ℕ) → (style : ListingStyle) → (parts : ℕ)
    → listing_cost file headers style parts ≤ style_ceiling (length file) headers style

-- the last cost of this many is added to the others
abbrev pub LastCostIsAdded : Type 0
LastCostIsAdded =
    (amount : ℕ → ℕ) → (first count : ℕ)
    → sum_over amount first (count + 1) ≡ sum_over amount first count + amount (first + count)

-- some of the costs are no more than all
abbrev pub SumsGrow : Type 0
SumsGrow =
    (amount : ℕ → ℕ) → (first count more : ℕ) → count ≤ more
    → sum_over amount first count ≤ sum_over amount first more

-- whether the checks of a table pass does not depend on the offset of their refusals
abbrev pub PlacesDecideNothing : Type 0
PlacesDecideNothing =
    (bytes : List ℕ) → (at size place other entry_size : ℕ)
    → pass (table_checks_of bytes at size place entry_size) ≡ pass (table_checks_of bytes at size other entry_size)

-- if some rows are the section headers of a file, the tables that they describe cost what the
-- file's tables cost
abbrev pub RowsCostWhatTheFileCosts : Type 0
RowsCostWhatTheFileCosts =
    (file : List ℕ) → (row : ℕ → List ℕ) → (gnu versions : Bool) → (cap parts : ℕ)
    → ((i : ℕ) → i < e_shnum file → row i ≡ slice file (section_at file i) SECTION_HEADER_SIZE)
    → sum_over (λ i. kinds_cost (section_kinds gnu versions) (held_headers (e_shnum file) row) i (length file) cap parts) 0 (e_shnum file)
    ≡ sum_over (λ i. kinds_cost (section_kinds gnu versions) (file_sections file) i (length file) cap parts) 0 (e_shnum file)

-- and if they are its program headers
abbrev pub SegmentsCostWhatTheFileCosts : Type 0
SegmentsCostWhatTheFileCosts =
    (file : List ℕ) → (row : ℕ → List ℕ) → (cap parts : ℕ)
    → ((i : ℕ) → i < e_phnum file → row i ≡ slice file (segment_at file i) PROGRAM_HEADER_SIZE)
    → sum_over (λ i. kinds_cost segment_kinds (held_headers (e_phnum file) row) i (length file) cap parts) 0 (e_phnum file)
    ≡ sum_over (λ i. kinds_cost segment_kinds (file_segments file) i (length file) cap parts) 0 (e_phnum file)

-- what the tables of some kinds cost that this many headers describe, kind by kind
unfoldable pub kind_by_kind : List TableKind → HeaderTable → (file_size cap parts count : ℕ) → ℕ
kind_by_kind [] headers file_size cap parts count = 0
kind_by_kind (kind ∷ kinds) headers file_size cap parts count =
    cost_where (has parts kind.part) (sum_over (λ i. table_cost kind headers i file_size cap) 0 count)
    + kind_by_kind kinds headers file_size cap parts count

-- the sum over all headers is the sum kind by kind
abbrev pub TablesCostKindByKind : Type 0
TablesCostKindByKind =
    (kinds : List TableKind) → (headers : HeaderTable) → (file_size cap parts count : ℕ)
    → sum_over (λ i. kinds_cost kinds headers i file_size cap parts) 0 count
    ≡ kind_by_kind kinds headers file_size cap parts count

-- for any headers in the place of the section headers, what is read is within the ceiling
abbrev pub AnyRowsAreWithinCeiling : Type 0
AnyRowsAreWithinCeiling =
    (table : HeaderTable) → (style : ListingStyle) → (size headers parts sections segments : ℕ) → sections ≤ headers → segments ≤ headers
    → FILE_HEADER_SIZE + (SECTION_HEADER_SIZE * sections + sections * name_bytes style.cap + PROGRAM_HEADER_SIZE * segments
    + sum_over (λ i. kinds_cost (section_kinds style.gnu style.versions) table i size style.cap parts) 0 sections)
    ≤ style_ceiling size headers style

-- and so it is without sections, for any headers in the place of the program headers
abbrev pub AnySegmentsAreWithinCeiling : Type 0
AnySegmentsAreWithinCeiling =
    (table : HeaderTable) → (size headers cap parts segments : ℕ) → segments ≤ headers
    → FILE_HEADER_SIZE
    + (PROGRAM_HEADER_SIZE * segments + sum_over (λ i. kinds_cost segment_kinds table i size cap parts) 0 segments)
    ≤ ceiling size headers cap
