-- Section headers that are read at their own bytes cost what they cost in the file.
use Rattle.std.proofs.Common.{◌≡◌, ℕ, suc, zero, ◌+◌, ◌*◌, ◌/◌, ◌%◌, ◌<◌, ◌≤◌, ◌==◌, not, Bool, true, false, List, [], ◌∷◌, length, refl, ap, ◌∙◌, arith}
use Rattle.std.proofs.Math.Nat.{mul-le-mul_right, mul-add}
use Rattle.std.proofs.lemmas.Bool.{eqb-true}
use Rattle.elf_model.specs.Prelude.{AnyRowsAreWithinCeiling, AnySegmentsAreWithinCeiling, ListingStyle, PROGRAM_HEADER_SIZE, PlacesDecideNothing, RowsCostWhatTheFileCosts, SECTION_HEADER_SIZE, SegmentsCostWhatTheFileCosts, TablesCostKindByKind, ceiling, cost_where, e_phnum, e_shnum, field, file_sections, file_segments, has, held_headers, is_outside, kind_by_kind, kinds_cost, name_bytes, section_at, section_kinds, segment_at, segment_kinds, sh_entsize, sh_offset, sh_size, slice, style_ceiling, sum_over, table_cost, tables_cost}
use Rattle.elf_model.proofs.HeldHeaders.{AreHeld, table-pass}
use Rattle.elf_model.proofs.KindLists.{section_kinds-held, section_kinds-le, segment_kinds-held, segment_kinds-le}
use Rattle.elf_model.proofs.Slices.{field-slice}
use Rattle.elf_model.proofs.CostLemmas.{tables_ceiling-is, tables_by, headers_some}
use Rattle.elf_model.proofs.SumLemmas.{headers_within, sum_over-le}
use Rattle.elf_model.proofs.TableBounds.{most_bound, table_bound}

pub places_decide_nothing : PlacesDecideNothing
places_decide_nothing bytes at size place other entry_size =
    table-pass (not (sh_entsize bytes at == entry_size)) (not (sh_size bytes at % entry_size == 0)) (is_outside size (sh_offset bytes at) (sh_size bytes at)) place other

-- sums of equal costs
pub sum_over-equal : (amount other : ℕ → ℕ) (first count : ℕ) → ((i : ℕ) → first ≤ i → i < first + count → amount i ≡ other i)
    → sum_over amount first count ≡ sum_over other first count
unfolding sum_over
sum_over-equal amount other first zero h = refl
sum_over-equal amount other first (suc count) h =
    let one = h first (omega arith) (omega arith) in
    let more = sum_over-equal amount other (suc first) count (λ i a b. h i (omega arith) (omega arith)) in
    cc

-- headers that were copied from the file have its fields
sections_held : (file : List ℕ) (row : ℕ → List ℕ) → ((i : ℕ) → i < e_shnum file → row i ≡ slice file (section_at file i) SECTION_HEADER_SIZE) → AreHeld 64 row (file_sections file)
sections_held file row is i at size below within = ap (λ bytes. field bytes at size) (is i below) ∙ field-slice file (section_at file i) 64 at size within

segments_held : (file : List ℕ) (row : ℕ → List ℕ) → ((i : ℕ) → i < e_phnum file → row i ≡ slice file (segment_at file i) PROGRAM_HEADER_SIZE) → AreHeld 56 row (file_segments file)
segments_held file row is i at size below within = ap (λ bytes. field bytes at size) (is i below) ∙ field-slice file (segment_at file i) 56 at size within

pub rows_cost : RowsCostWhatTheFileCosts
rows_cost file row gnu versions cap parts is =
    sum_over-equal (λ i. kinds_cost (section_kinds gnu versions) (held_headers (e_shnum file) row) i (length file) cap parts)
    (λ i. kinds_cost (section_kinds gnu versions) (file_sections file) i (length file) cap parts)
    0 (e_shnum file) (λ i _ below. section_kinds-held gnu versions (file_sections file) row (sections_held file row is) i (length file) cap parts (omega arith))

pub segments_cost_rows : SegmentsCostWhatTheFileCosts
segments_cost_rows file row cap parts is =
    sum_over-equal (λ i. kinds_cost segment_kinds (held_headers (e_phnum file) row) i (length file) cap parts)
    (λ i. kinds_cost segment_kinds (file_segments file) i (length file) cap parts)
    0 (e_phnum file) (λ i _ below. segment_kinds-held (file_segments file) row (segments_held file row is) i (length file) cap parts (omega arith))

-- what the sections' tables cost is among the costs of all
pub sections_counted : (file : List ℕ) (style : ListingStyle) (parts : ℕ)
    → sum_over (λ i. kinds_cost (section_kinds style.gnu style.versions) (file_sections file) i (length file) style.cap parts) 0 (e_shnum file) ≤ tables_cost file style parts
unfolding tables_cost sum_over
sections_counted file style parts = by_cases (e_shnum file == 0) refl
  where
    by_cases : (none : Bool) → (e_shnum file == 0) ≡ none
        → sum_over (λ i. kinds_cost (section_kinds style.gnu style.versions) (file_sections file) i (length file) style.cap parts) 0 (e_shnum file) ≤ tables_cost file style parts
    by_cases true h = let zero : e_shnum file ≡ 0 = eqb-true (e_shnum file) 0 h in rw zero (omega arith)
    by_cases false h = let same = ap (tables_by file style.cap parts) (headers_some style.gnu style.versions file h) in omega arith

-- a sum of sums, and a sum under one condition
sum_over-add : (amount other : ℕ → ℕ) (first count : ℕ)
    → sum_over (λ i. amount i + other i) first count ≡ sum_over amount first count + sum_over other first count
unfolding sum_over
sum_over-add amount other first zero = refl
sum_over-add amount other first (suc count) = let more = sum_over-add amount other (suc first) count in omega arith

sum_over-zero : (first count : ℕ) → sum_over (λ i. 0) first count ≡ 0
unfolding sum_over
sum_over-zero first zero = refl
sum_over-zero first (suc count) = let more = sum_over-zero (suc first) count in omega arith

pub sum_over-where : (condition : Bool) (amount : ℕ → ℕ) (first count : ℕ)
    → sum_over (λ i. cost_where condition (amount i)) first count ≡ cost_where condition (sum_over amount first count)
sum_over-where true amount first count = refl
sum_over-where false amount first count = sum_over-zero first count

pub by_kind : TablesCostKindByKind
unfolding kinds_cost kind_by_kind
by_kind [] headers size cap parts count = sum_over-zero 0 count
by_kind (kind ∷ kinds) headers size cap parts count =
    let one : ℕ → ℕ = λ i. table_cost kind headers i size cap in
    let split = sum_over-add (λ i. cost_where (has parts kind.part) (one i)) (λ i. kinds_cost kinds headers i size cap parts) 0 count in
    let first = sum_over-where (has parts kind.part) one 0 count in
    let more = by_kind kinds headers size cap parts count in
    omega arith

pub any_rows : AnyRowsAreWithinCeiling
unfolding ceiling style_ceiling
any_rows table style size headers parts sections segments s p =
    let cap : ℕ = style.cap in
    let n : ℕ = name_bytes cap in
    let bound : ℕ = most_bound style.versions size cap in
    let tables = sum_over-le (λ i. kinds_cost (section_kinds style.gnu style.versions) table i size cap parts) bound 0 sections
    (λ i. section_kinds-le table i size cap style.gnu style.versions parts) in
    let m : sections * (64 + n + bound) ≤ headers * (64 + n + bound) = mul-le-mul_right (64 + n + bound) s in
    let e : sections * (64 + n + bound) ≡ sections * 64 + sections * n + sections * bound =
    mul-add sections (64 + n) bound ∙ ap (λ k. k + sections * bound) (mul-add sections 64 n) in
    let h : headers * (120 + n + bound) ≡ headers * 56 + headers * (64 + n + bound) =
    ap (λ k. headers * k) (omega arith) ∙ mul-add headers 56 (64 + n + bound) in
    omega (arith, tables, m, e, h, mul-le-mul_right 56 p, tables_ceiling-is size headers style)

pub any_segments : AnySegmentsAreWithinCeiling
unfolding ceiling
any_segments table size headers cap parts segments p =
    let bound : ℕ = table_bound size cap in
    let tables = sum_over-le (λ i. kinds_cost segment_kinds table i size cap parts) bound 0 segments (λ i. segment_kinds-le table i size cap parts) in
    let all = headers_within 56 (name_bytes cap) bound segments headers _ p (omega arith) tables in
    let h : headers * (120 + name_bytes cap + size + size / 16 * (32 + name_bytes cap)) ≡ headers * (120 + name_bytes cap + bound) = ap (λ k. headers * k) (omega arith) in
    omega arith
