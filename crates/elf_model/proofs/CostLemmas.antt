-- Costs add up within the ceiling.
use Rattle.std.proofs.Common.{◌≡◌, ℕ, if◌then◌else◌, ◌+◌, ◌*◌, ◌/◌, ◌≤◌, ◌==◌, ◌&&◌, ◌||◌, not, Bool, true, false, List, ◌++◌, length, refl, ap, ◌∙◌, arith}
use Rattle.std.proofs.Math.Nat.{mul-le-mul_left, mul-le-mul_right, mul-add}
use Rattle.std.proofs.lemmas.Bool.{ltb-false, eqb-true}
use Rattle.elf_model.specs.Prelude.{CostIsWithinCeiling, HeaderTable, ListingStyle, SuffixesAreWithinMost, TableHeaders, after_header as asked_after, by_sections, by_segments, ceiling, cost_where, e_phnum, e_shnum, e_shstrndx, early_checks, either_kind, entries_kind, file_sections, file_segments, follows_dynamic, gnu_relocations, has, has_tables, header_checks, header_field, is_loadable, is_symbol_table, kinds_cost, known_parts, listing_cost, located_cost, located_count, name_bytes, needs_segments, pass, relative_relocations, relocation_type, relocations, relocations_with_versions, section_kinds, sections_cost, segment_kinds, segments_cost, sh_link, sh_size, sh_type, style_ceiling, suffixed_symbols, suffixes_most, sum_over, symbols, table_checks_of, table_cost, table_headers, table_most, tables_ceiling, tables_cost, viewed}
use Rattle.elf_model.specs.TableKinds.{relocations_kind}
use Rattle.elf_model.proofs.CheckSteps.{all_pass, pass-behind}
use Rattle.elf_model.proofs.KindLists.{section_kinds-le, segment_kinds-le}
use Rattle.elf_model.proofs.RelativeKinds.{either_costs, entries_have}
use Rattle.elf_model.proofs.SymbolKinds.{suffixes_fit}
use Rattle.elf_model.proofs.TableBounds.{most_bound, table_bound, table_fits}
use Rattle.elf_model.proofs.StyleLemmas.{view_length}
use Rattle.elf_model.proofs.SumLemmas.{cost_where-le, cost_where-within, sum_over-le, and-second, headers_within, two_kinds}

-- a larger cost, under the same conditions
cost_more : (has passes : Bool) (amount other most : ℕ) → (passes ≡ true → other ≤ amount + most)
    → cost_where (has && passes) other ≤ cost_where (has && passes) amount + cost_where has most
cost_more true true amount other most h = h refl
cost_more true false amount other most h = omega arith
cost_more false passes amount other most h = omega arith

where-more : (condition : Bool) (amount other most : ℕ) → other ≤ amount + most → cost_where condition other ≤ cost_where condition amount + most
where-more true amount other most h = h
where-more false amount other most h = omega arith

where_either : (one other : Bool) (most : ℕ) → cost_where one most ≤ cost_where (one || other) most
where_either true other most = omega arith
where_either false other most = omega arith

-- one of two costs, each of which grows, or a third one
either_more : (first second : Bool) (a b c d e most : ℕ) → a ≤ b + cost_where first most → c ≤ d + cost_where second most
    → (if first then a else (if second then c else e)) ≤ (if first then b else (if second then d else e)) + cost_where (first || second) most
either_more true second a b c d e most one other = omega (arith, one)
either_more false true a b c d e most one other = omega (arith, other)
either_more false false a b c d e most one other = omega arith

-- The tables of one section header, with versions after the names of symbols.
module _ (headers : HeaderTable) (i size cap : ℕ) where
  symbols_more : table_cost suffixed_symbols headers i size cap
      ≤ table_cost symbols headers i size cap + cost_where (header_field headers sh_type i == 2 || header_field headers sh_type i == 11) (suffixes_most size cap)
  unfolding table_cost suffixed_symbols symbols
  symbols_more =
      cost_more (is_symbol_table (headers.bytes i) (headers.at i)) (pass (table_checks_of (headers.bytes i) (headers.at i) size (headers.at i) 24)) _ _
      (suffixes_most size cap) (λ h.
      let within = table_fits headers i size 24 h in
      omega (arith, suffixes_fit headers size cap i (header_field headers sh_size i / 24) (omega arith)))

  entries_more : (addends : Bool)
      → table_cost (relocations_with_versions addends) headers i size cap
      ≤ table_cost (relocations addends) headers i size cap + cost_where (header_field headers sh_type i == relocation_type addends) (suffixes_most size cap)
  unfolding table_cost relocations_with_versions relocations
  entries_more true =
      cost_more (header_field headers sh_type i == 4) (pass (table_checks_of (headers.bytes i) (headers.at i) size (headers.at i) 24)) _ _
      (suffixes_most size cap) (λ h.
      let within = table_fits headers i size 24 h in
      omega (arith, suffixes_fit headers size cap (header_field headers sh_link i) (header_field headers sh_size i / 24) (omega arith)))
  entries_more false =
      cost_more (header_field headers sh_type i == 9) (pass (table_checks_of (headers.bytes i) (headers.at i) size (headers.at i) 16)) _ _
      (suffixes_most size cap) (λ h.
      let within = table_fits headers i size 16 h in
      omega (arith, suffixes_fit headers size cap (header_field headers sh_link i) (header_field headers sh_size i / 16) (omega arith)))

  -- whether GNU listings have further relocations or not
  relocations_more : (gnu : Bool)
      → table_cost (relocations_kind gnu true) headers i size cap
      ≤ table_cost (relocations_kind gnu false) headers i size cap
      + cost_where (header_field headers sh_type i == 4 || header_field headers sh_type i == 9) (suffixes_most size cap)
  unfolding gnu_relocations
  relocations_more true =
      let type : ℕ = header_field headers sh_type i in
      let first = λ (versions : Bool).
      either_costs (entries_kind true versions) (either_kind (entries_kind false versions) relative_relocations) headers i size cap
      ∙ ap (λ (has : Bool). if has then table_cost (entries_kind true versions) headers i size cap else table_cost (either_kind (entries_kind false versions) relative_relocations) headers i size cap)
      (entries_have true versions (headers.bytes i) (headers.at i)) in
      let second = λ (versions : Bool).
      either_costs (entries_kind false versions) relative_relocations headers i size cap
      ∙ ap (λ (has : Bool). if has then table_cost (entries_kind false versions) headers i size cap else table_cost relative_relocations headers i size cap)
      (entries_have false versions (headers.bytes i) (headers.at i)) in
      rw (first true, first false, second true, second false)
      (either_more (type == 4) (type == 9) _ _ _ _ _ (suffixes_most size cap) (entries_more true) (entries_more false))
  relocations_more false =
      let more = entries_more true in
      omega (arith, more, where_either (header_field headers sh_type i == 4) (header_field headers sh_type i == 9) (suffixes_most size cap))

  -- all of them with versions after names
  pub suffixed_kinds-le : (gnu : Bool) (parts : ℕ)
      → kinds_cost (section_kinds gnu true) headers i size cap parts ≤ kinds_cost (section_kinds gnu false) headers i size cap parts + suffixes_most size cap
  unfolding kinds_cost suffixed_symbols symbols relocations_with_versions relocations gnu_relocations
  suffixed_kinds-le true parts =
      let one = two_kinds (header_field headers sh_type i) (suffixes_most size cap) in
      let a = where-more (has parts 8) _ _ _ symbols_more in
      let b = where-more (has parts 16) _ _ _ (relocations_more true) in
      omega (arith, one, a, b)
  suffixed_kinds-le false parts =
      let one = two_kinds (header_field headers sh_type i) (suffixes_most size cap) in
      let a = where-more (has parts 8) _ _ _ symbols_more in
      let b = where-more (has parts 16) _ _ _ (relocations_more false) in
      omega (arith, one, a, b)

-- the numbers of headers are allowed
pub loadable-within : (file : List ℕ) (headers : ℕ) → is_loadable file headers ≡ true → (e_shnum file ≤ headers) × (e_phnum file ≤ headers)
unfolding is_loadable
loadable-within file headers h =
    let early = pass-behind (header_checks file) (early_checks file headers) (all_pass (header_checks file ++ early_checks file headers) h) in
    (ltb-false headers (e_shnum file) early.1.1.1.0, ltb-false headers (e_phnum file) early.1.1.1.1.0)

-- what the tables cost that some headers describe
abbrev pub tables_by : (file : List ℕ) (cap parts : ℕ) → TableHeaders → ℕ
tables_by file cap parts tables = sum_over (λ i. kinds_cost tables.kinds tables.headers i (length file) cap parts) 0 tables.headers.count

pub headers_none : (gnu versions : Bool) (file : List ℕ) → (e_shnum file == 0) ≡ true → table_headers gnu versions file ≡ by_segments file
unfolding table_headers
headers_none gnu versions file h = rw (h, table_headers) refl

pub headers_some : (gnu versions : Bool) (file : List ℕ) → (e_shnum file == 0) ≡ false → table_headers gnu versions file ≡ by_sections gnu versions file
unfolding table_headers
headers_some gnu versions file h = rw (h, table_headers) refl

-- if there are no sections, all tables are those of the program headers
without_sections : (file : List ℕ) (style : ListingStyle) (parts headers : ℕ) → (e_shnum file == 0) ≡ true → e_phnum file ≤ headers
    → sections_cost file style.cap parts + segments_cost file style parts + tables_cost file style parts
    ≤ headers * (120 + name_bytes style.cap + most_bound style.versions (length file) style.cap)
unfolding sections_cost segments_cost tables_cost
without_sections file style parts headers z p =
    let cap : ℕ = style.cap in
    let n : e_shnum file ≡ 0 = eqb-true (e_shnum file) 0 z in
    let bound : ℕ = table_bound (length file) cap in
    let tables = sum_over-le (λ i. kinds_cost segment_kinds (file_segments file) i (length file) cap parts) bound 0 (e_phnum file)
    (λ i. segment_kinds-le (file_segments file) i (length file) cap parts) in
    let same = ap (tables_by file cap parts) (headers_none style.gnu style.versions file z) in
    let a = cost_where-le (needs_segments file style parts) (56 * e_phnum file) in
    let c = cost_where-le (has parts 2 && not (e_shstrndx file == 0)) (e_shnum file * name_bytes cap) in
    let d : e_shnum file * name_bytes cap ≡ 0 * name_bytes cap = ap (λ (k : ℕ). k * name_bytes cap) n in
    let all = headers_within 56 (name_bytes cap) bound (e_phnum file) headers _ p (omega arith) tables in
    let more : headers * (120 + name_bytes cap + bound) ≤ headers * (120 + name_bytes cap + most_bound style.versions (length file) cap) =
    mul-le-mul_left headers (omega arith) in
    omega arith

-- if there are sections, they are those of the section headers
with_sections : (file : List ℕ) (style : ListingStyle) (parts headers : ℕ) → (e_shnum file == 0) ≡ false → e_shnum file ≤ headers → e_phnum file ≤ headers
    → sections_cost file style.cap parts + segments_cost file style parts + tables_cost file style parts
    ≤ headers * (120 + name_bytes style.cap + most_bound style.versions (length file) style.cap)
unfolding sections_cost segments_cost tables_cost
with_sections file style parts headers z s p =
    let cap : ℕ = style.cap in
    let n : ℕ = name_bytes cap in
    let bound : ℕ = most_bound style.versions (length file) cap in
    let tables = sum_over-le (λ i. kinds_cost (section_kinds style.gnu style.versions) (file_sections file) i (length file) cap parts) bound 0 (e_shnum file)
    (λ i. section_kinds-le (file_sections file) i (length file) cap style.gnu style.versions parts) in
    let same = ap (tables_by file cap parts) (headers_some style.gnu style.versions file z) in
    let a = cost_where-le (needs_segments file style parts) (56 * e_phnum file) in
    let c = cost_where-le (has parts 2 && not (e_shstrndx file == 0)) (e_shnum file * n) in
    let m : e_shnum file * (64 + n + bound) ≤ headers * (64 + n + bound) = mul-le-mul_right (64 + n + bound) s in
    let e : e_shnum file * (64 + n + bound) ≡ e_shnum file * 64 + e_shnum file * n + e_shnum file * bound =
    mul-add (e_shnum file) (64 + n) bound ∙ ap (λ k. k + e_shnum file * bound) (mul-add (e_shnum file) 64 n) in
    let h : headers * (120 + n + bound) ≡ headers * 56 + headers * (64 + n + bound) =
    ap (λ k. headers * k) (omega arith) ∙ mul-add headers 56 (64 + n + bound) in
    omega arith

-- what is read after the file header is within the ceiling
after_header : (file : List ℕ) (style : ListingStyle) (parts headers : ℕ) (none : Bool) → (e_shnum file == 0) ≡ none → is_loadable file headers ≡ true
    → sections_cost file style.cap parts + segments_cost file style parts + tables_cost file style parts
    ≤ headers * (120 + name_bytes style.cap + most_bound style.versions (length file) style.cap)
after_header file style parts headers true z h = without_sections file style parts headers z (loadable-within file headers h).1
after_header file style parts headers false z h =
    let l = loadable-within file headers h in
    with_sections file style parts headers z l.0 l.1

-- the ceiling of the tables of a style, by that of the tables of each header
pub tables_ceiling-is : (size headers : ℕ) (style : ListingStyle)
    → tables_ceiling size headers style ≡ 64 + headers * (120 + name_bytes style.cap + most_bound style.versions size style.cap)
unfolding tables_ceiling ceiling
tables_ceiling-is size headers style = by_cases style.versions
  where
    by_cases : (versions : Bool) → (if versions then ceiling size headers style.cap + headers * suffixes_most size style.cap else ceiling size headers style.cap)
        ≡ 64 + headers * (120 + name_bytes style.cap + most_bound versions size style.cap)
    by_cases true =
        let n : ℕ = name_bytes style.cap in
        let plain : ℕ = 120 + n + table_bound size style.cap in
        let split : headers * (plain + suffixes_most size style.cap) ≡ headers * plain + headers * suffixes_most size style.cap =
        mul-add headers plain (suffixes_most size style.cap) in
        let left : headers * (64 + 56 + n + size + size / 16 * (32 + n)) ≡ headers * plain = ap (λ (k : ℕ). headers * k) (omega arith) in
        let right : headers * (plain + suffixes_most size style.cap) ≡ headers * (120 + n + most_bound true size style.cap) =
        ap (λ (k : ℕ). headers * k) (omega arith) in
        omega (arith, split, left, right)
    by_cases false =
        let n : ℕ = name_bytes style.cap in
        let same : headers * (64 + 56 + n + size + size / 16 * (32 + n)) ≡ headers * (120 + n + most_bound false size style.cap) =
        ap (λ (k : ℕ). headers * k) (omega arith) in
        omega (arith, same)

-- what dynamic entries locate is within its own, if the style follows them
pub located_within : (none follows symbols relocations : Bool) (most : ℕ)
    → cost_where (none && (follows && (symbols || relocations))) (located_count symbols relocations * most) ≤ cost_where follows (located_count true true * most)
located_within true true true true most = omega arith
located_within true true true false most = omega arith
located_within true true false true most = omega arith
located_within true true false false most = omega arith
located_within true false symbols relocations most = omega arith
located_within false follows symbols relocations most = omega arith

-- the same of two conditions
both_within : (passes : Bool) (one other a b : ℕ) → cost_where passes one ≤ a → other ≤ b → cost_where passes (one + other) ≤ a + b
both_within true one other a b h g = omega (arith, h, g)
both_within false one other a b h g = omega arith

-- what a listing reads is within it
after_within : (file : List ℕ) (headers : ℕ) (style : ListingStyle) (parts : ℕ) → 64 + asked_after file headers style parts ≤ style_ceiling (length file) headers style
unfolding style_ceiling located_cost
after_within file headers style parts =
    let passes : Bool = has_tables parts && is_loadable file headers in
    let tables : ℕ = sections_cost file style.cap parts + segments_cost file style parts + tables_cost file style parts in
    let within = cost_where-within passes tables (headers * (120 + name_bytes style.cap + most_bound style.versions (length file) style.cap))
    (λ h. after_header file style parts headers (e_shnum file == 0) refl (and-second (has_tables parts) (is_loadable file headers) h)) in
    let located = located_within (e_shnum file == 0) (follows_dynamic style) (has parts 8) (has parts 16) (table_most (length file) style.cap) in
    let both = both_within passes tables (located_cost file style parts) _ _ within located in
    let order : sections_cost file style.cap parts + segments_cost file style parts + located_cost file style parts + tables_cost file style parts ≡ tables + located_cost file style parts = omega arith in
    let same = ap (cost_where passes) order in
    omega (arith, both, same, tables_ceiling-is (length file) headers style)

pub suffixes_within_most : SuffixesAreWithinMost
suffixes_within_most gnu headers i size cap parts = suffixed_kinds-le headers i size cap gnu parts

pub cost_within : CostIsWithinCeiling
unfolding listing_cost
cost_within file headers style parts =
    rw (view_length style file) at (after_within (viewed style file) headers style (known_parts style parts))
