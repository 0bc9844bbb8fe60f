-- What the tables of a loaded file read, by the section headers in the store.
use Rattle.elf_model.specs.Prelude.{Check, HeaderTable, ListingStyle, PT_DYNAMIC, RELOCS, SECTIONS, SEGMENTS, SYMBOLS, TableKind, after_header, ceiling, cost_where, e_phnum, e_shnum, early_checks, file_segments, first_refusal, follows_dynamic, has, has_tables, header_checks, held_headers, is_loadable, is_outside, kind_by_kind, kinds_cost, known_parts, lies_in_segments, listing_cost, located_cost, located_most, name_bytes, p_filesz, p_offset, p_type, pass, range_checks_of, refuse, section_kinds, section_name_checks, sections_cost, segment_dynamic, segment_kinds, segments_cost, sh_offset, sh_size, style_ceiling, suffixes_most, sum_over, symbol_versions, table_checks_of, table_cost, table_most, tables_ceiling, tables_cost, viewed as view_of, whole_checks_of}
use Rattle.elf_model.specs.declared.causes.Cause.TheVariants.{SizeNotWhole, TableOutside}
use Rattle.std.proofs.Common.{◌≡◌, ℕ, ◌+◌, ◌-◌, ◌*◌, ◌/◌, ◌%◌, ◌<◌, ◌≤◌, ◌==◌, ◌&&◌, ◌||◌, ◌⊎◌, inl, inr, not, if◌then◌else◌, Bool, true, false, List, [], ◌∷◌, ◌++◌, length, Option, None, Some, Result, Ok, refl, sym, ap, ◌∙◌, arith}
use Rattle.std.proofs.lemmas.Bool.{cases_Bool, eqb-true}
use Rattle.std.specs.Prelude.{is_none}
use Rattle.elf_model.proofs.CheckSteps.{first_refusal-none, passes_front}
use Rattle.elf_model.proofs.CostLemmas.{headers_none, located_within, tables_by}
use Rattle.elf_model.proofs.SumLemmas.{cost_where-le, cost_where-within, sum_over-le, sums_grow}
use Rattle.elf_model.proofs.StoreLemmas.{rows_cost, segments_cost_rows, by_kind, any_rows, any_segments, sections_counted, places_decide_nothing}
use Rattle.elf_record.specs.Prelude.{IsEhdr}
use Rattle.elf_record.specs.declared.ehdr.Ehdr.{Ehdr}
use Rattle.elf_table.specs.Prelude.{HoldsSectionHeaders, HoldsSegments, IsOpened, LoadedFile, StoreState, StringTableRange, TableRange, byte_rows, checked, dynamic_of, early_of, load_cost, row, rows, segment_bytes, table_of}
use Rattle.elf_table.specs.declared.fault.Fault.{Fault}
use Rattle.elf_table.proofs.RelocationLaws.{passed_first}
use Rattle.elf_listing.specs.Prelude.{asked_cost, first_kinds, kinds_asked, kinds_listed, located_asked, name_cost, needs_segment_view, of_sections, of_segments, record_kinds, sections_listed, store_sections, store_segments, tables_listed, view_cost, viewed_headers}
use Rattle.elf_listing.proofs.FileShown.{viewed_none}
use Rattle.elf_table.proofs.LoadLaws.{early_is}

-- n equal costs
pub sum_of_equal : (amount count : ℕ) → sum_over (λ i. amount) 0 count ≤ count * amount
sum_of_equal amount count = sum_over-le (λ i. amount) amount 0 count (λ i. omega arith)

-- a section's name, which costs nothing if there is no string table
name_where : (names : Option StringTableRange) (none : Bool) (cap : ℕ) → (none ≡ true → names ≡ None) → name_cost names cap ≤ cost_where (not none) (name_bytes cap)
name_where names true cap is = rw (is refl) (omega arith)
name_where None false cap is = omega arith
name_where (Some strings) false cap is = omega arith

pub name_within : (names : Option StringTableRange) (index cap : ℕ) → (index ≡ 0 → names ≡ None) → name_cost names cap ≤ cost_where (not (index == 0)) (name_bytes cap)
name_within names index cap is = name_where names (index == 0) cap (λ e. is (eqb-true index 0 e))

-- what a returned table reads, after checks or empty, is within what is counted for its header
pub within_kind : (kind : TableKind) (headers : HeaderTable) (i size cap n : ℕ) (amount : ℕ → ℕ) (checks : List Check) (none some table : TableRange)
    → kind.has_table (headers.bytes i) (headers.at i) ≡ true
    → (first_refusal checks ≡ None → pass (kind.checks.own (headers.bytes i) (headers.at i) size) ≡ true)
    → ((n == 0) ≡ true → amount none.count ≡ 0) → amount some.count ≤ kind.asks headers i size cap
    → (elim (n == 0) as (λ _. Result TableRange Fault) [ true ↦ Ok none | false ↦ checked checks some ]) ≡ Ok table
    → amount table.count ≤ table_cost kind headers i size cap
unfolding table_cost
within_kind kind headers i size cap n amount checks none some table has same zero most h = rw has (by_cases (n == 0) zero h)
  where
    by_cases : (empty : Bool) → (empty ≡ true → amount none.count ≡ 0)
        → (elim empty as (λ _. Result TableRange Fault) [ true ↦ Ok none | false ↦ checked checks some ]) ≡ Ok table
        → amount table.count ≤ cost_where (pass (kind.checks.own (headers.bytes i) (headers.at i) size)) (kind.asks headers i size cap)
    by_cases true zero h = let is : none ≡ table = cc in rw (ap (λ (r : TableRange). amount r.count) (sym is) ∙ zero refl) (omega arith)
    by_cases false zero h = let p = passed_first (first_refusal checks) some table h in rw (same p.0, ap (λ (r : TableRange). amount r.count) (sym p.1)) (omega arith)

-- the entries of a section, each of which reads a given number of bytes
pub section_within : (kind : TableKind) (store : StoreState) (i size place cap entry each : ℕ) (table : TableRange) → kind.has_table (row store i) 0 ≡ true
    → kind.checks.own (row store i) 0 size ≡ table_checks_of (row store i) 0 size 0 entry
    → sh_size (row store i) 0 / entry * each ≡ kind.asks (store_sections store) i size cap
    → Ok table ≡ table_of (row store i) 0 size place entry → table.count * each ≤ table_cost kind (store_sections store) i size cap
section_within kind store i size place cap entry each table has own asks h =
    let bytes = row store i in
    within_kind kind (store_sections store) i size cap (sh_size bytes 0) (λ n. n * each) (table_checks_of bytes 0 size place entry)
    (rows (sh_offset bytes 0) 0 entry) (rows (sh_offset bytes 0) (sh_size bytes 0 / entry) entry) table has
    (λ none. ap pass own ∙ (places_decide_nothing bytes 0 size 0 place entry ∙ ap is_none none)) (λ _. omega arith) (omega (arith, asks)) (sym h)

-- if checks at one place pass, they pass at another
whole_by_cases : (broken outside : Bool) (place other : ℕ) → first_refusal (refuse broken place SizeNotWhole ∷ refuse outside place TableOutside ∷ []) ≡ None
    → pass (refuse broken other SizeNotWhole ∷ refuse outside other TableOutside ∷ []) ≡ true
whole_by_cases true outside place other h = cc
whole_by_cases false true place other h = cc
whole_by_cases false false place other h = refl

-- the bytes of a range, of which a given number cost an amount, and none cost nothing
pub range_within : (kind : TableKind) (headers : HeaderTable) (i size offset n place cap : ℕ) (amount : ℕ → ℕ) (table : TableRange)
    → kind.has_table (headers.bytes i) (headers.at i) ≡ true
    → kind.checks.own (headers.bytes i) (headers.at i) size ≡ range_checks_of size offset n (headers.at i)
    → amount 0 ≡ 0 → amount n ≤ kind.asks headers i size cap
    → Ok table ≡ byte_rows size offset n place → amount table.count ≤ table_cost kind headers i size cap
range_within kind headers i size offset n place cap amount table has own zero most h =
    within_kind kind headers i size cap n amount (range_checks_of size offset n place) (rows offset 0 1) (rows offset n 1) table has
    (λ none. ap pass own ∙ whole_by_cases false (is_outside size offset n) place (headers.at i) none) (λ _. zero) most (sym h)

-- the dynamic entries of a segment
pub segment_within : (store : StoreState) (i size place cap : ℕ) (table : TableRange) → (p_type (segment_bytes store i) 0 == PT_DYNAMIC) ≡ true
    → Ok table ≡ dynamic_of (segment_bytes store i) 0 size place
    → table.count * (32 + name_bytes cap) ≤ table_cost segment_dynamic (store_segments store) i size cap
unfolding segment_dynamic
segment_within store i size place cap table kind h =
    let bytes = segment_bytes store i in
    let n = p_filesz bytes 0 in
    let all = rows (p_offset bytes 0) (n / 16) 16 in
    within_kind segment_dynamic (store_segments store) i size cap n (λ k. k * (32 + name_bytes cap)) (whole_checks_of size (p_offset bytes 0) n place 16) all all table kind
    (whole_by_cases (not (n % 16 == 0)) (is_outside size (p_offset bytes 0) n) place 0)
    (λ empty. ap (λ k. k / 16 * (32 + name_bytes cap)) (eqb-true n 0 empty) ∙ omega arith) (omega arith)
    (unless_by_cases (n == 0) (whole_checks_of size (p_offset bytes 0) n place 16) all ∙ sym h)
  where
    unless_by_cases : (empty : Bool) (checks : List Check) (all : TableRange)
        → (elim empty as (λ _. Result TableRange Fault) [ true ↦ Ok all | false ↦ checked checks all ]) ≡ checked (if empty then [] else checks) all
    unless_by_cases true checks all = refl
    unless_by_cases false checks all = refl

-- what the tables read that the headers in the store describe
abbrev pub sections_sum : (gnu versions : Bool) → LoadedFile → StoreState → ℕ → ℕ → ℕ
sections_sum gnu versions loaded store most parts =
    sum_over (λ i. kinds_cost (section_kinds gnu versions) (store_sections store) i loaded.size most parts) 0 store.loaded

abbrev pub segments_sum : LoadedFile → StoreState → ℕ → ℕ → ℕ
segments_sum loaded store most parts = sum_over (λ i. kinds_cost segment_kinds (store_segments store) i loaded.size most parts) 0 store.segments

-- the names of n sections, if the parts have them, and the program headers, once, if any part needs
-- them
abbrev pub names_asked : LoadedFile → ℕ → ℕ → ℕ → ℕ
names_asked loaded count most parts = cost_where (has parts SECTIONS && not (loaded.header.e_shstrndx == 0)) (count * name_bytes most)

abbrev pub segments_asked : LoadedFile → ListingStyle → ℕ → ℕ
segments_asked loaded style parts =
    cost_where (has parts SEGMENTS || (loaded.header.e_shnum == 0 && lies_in_segments style parts)) (56 * loaded.header.e_phnum)

-- the names of all sections
names_listed : (asked named : Bool) (n count : ℕ) → cost_where asked (sum_over (λ i. cost_where named n) 0 count) ≤ cost_where (asked && named) (count * n)
names_listed true true n count = sum_of_equal n count
names_listed true false n count = omega (arith, sum_of_equal 0 count)
names_listed false named n count = omega arith

-- the program headers are read once, however they are read
segments_once : (none p others : Bool) (amount : ℕ)
    → cost_where (none && (p || others)) amount + cost_where (p && not none) amount ≤ cost_where (p || (none && others)) amount
segments_once true true others amount = omega arith
segments_once true false true amount = omega arith
segments_once true false false amount = omega arith
segments_once false true others amount = omega arith
segments_once false false others amount = omega arith

sum_of_none : (amount : ℕ → ℕ) (count : ℕ) → count ≡ 0 → sum_over amount 0 count ≡ 0
unfolding sum_over
sum_of_none amount count none = rw none refl

-- what some kinds of tables of sections read, and others
kinds_cost_append : (xs ys : List TableKind) (headers : HeaderTable) (size most parts count : ℕ)
    → kind_by_kind (xs ++ ys) headers size most parts count ≡ kind_by_kind xs headers size most parts count + kind_by_kind ys headers size most parts count
unfolding kind_by_kind
kinds_cost_append [] ys headers size most parts count = omega arith
kinds_cost_append (kind ∷ xs) ys headers size most parts count = omega (arith, kinds_cost_append xs ys headers size most parts count)

kinds_cost_listed : (kinds : List TableKind) (loaded : LoadedFile) (store : StoreState) (most parts : ℕ)
    → kinds_asked parts (sections_listed kinds) loaded store most ≡ kind_by_kind kinds (store_sections store) loaded.size most parts store.loaded
unfolding kind_by_kind kinds_asked kinds_listed
kinds_cost_listed [] loaded store most parts = refl
kinds_cost_listed (kind ∷ kinds) loaded store most parts = omega (arith, kinds_cost_listed kinds loaded store most parts)

segments_cost_listed : (kinds : List TableKind) (loaded : LoadedFile) (store : StoreState) (most parts : ℕ)
    → kinds_asked parts (kinds_listed of_segments kinds) loaded store most ≡ kind_by_kind kinds (store_segments store) loaded.size most parts store.segments
unfolding kind_by_kind kinds_asked kinds_listed
segments_cost_listed [] loaded store most parts = refl
segments_cost_listed (kind ∷ kinds) loaded store most parts = omega (arith, segments_cost_listed kinds loaded store most parts)

last_cost_listed : (loaded : LoadedFile) (store : StoreState) (most parts : ℕ)
    → asked_cost parts (of_sections symbol_versions) loaded store most ≡ kind_by_kind (symbol_versions ∷ []) (store_sections store) loaded.size most parts store.loaded
unfolding kind_by_kind
last_cost_listed loaded store most parts = omega arith

-- what is listed reads the names, the program headers, and the tables of all kinds
listed_parts : (style : ListingStyle) (loaded : LoadedFile) (store : StoreState) (parts : ℕ)
    → view_cost style parts loaded + tables_listed style parts loaded store
    ≤ names_asked loaded store.loaded style.cap parts + segments_asked loaded style parts + located_asked style parts loaded + sections_sum style.gnu style.versions loaded store style.cap parts
    + segments_sum loaded store style.cap parts
listed_parts style loaded store parts =
    let gnu : Bool = style.gnu in
    let versions : Bool = style.versions in
    let most : ℕ = style.cap in
    let names = names_listed (has parts SECTIONS) (not (loaded.header.e_shstrndx == 0)) (name_bytes most) store.loaded in
    let once = segments_once (loaded.header.e_shnum == 0) (has parts SEGMENTS) (lies_in_segments style parts) (56 * loaded.header.e_phnum) in
    let sections = by_kind (section_kinds gnu versions) (store_sections store) loaded.size most parts store.loaded in
    let segments = by_kind segment_kinds (store_segments store) loaded.size most parts store.segments in
    let all = kinds_cost_append (first_kinds gnu versions) (record_kinds ++ (symbol_versions ∷ [])) (store_sections store) loaded.size most parts store.loaded in
    let last = kinds_cost_append record_kinds (symbol_versions ∷ []) (store_sections store) loaded.size most parts store.loaded in
    let first = kinds_cost_listed (first_kinds gnu versions) loaded store most parts in
    let records = kinds_cost_listed record_kinds loaded store most parts in
    omega (arith, names, once, sections, segments, all, last, first, records, segments_cost_listed segment_kinds loaded store most parts, last_cost_listed loaded store most parts)

-- all program headers are in the store, or none
viewed_is : (style : ListingStyle) (parts : ℕ) (loaded : LoadedFile) → (viewed_headers style parts loaded ≡ 0) ⊎ (viewed_headers style parts loaded ≡ loaded.header.e_phnum)
viewed_is style parts loaded = by_cases (needs_segment_view style parts loaded)
  where
    by_cases : (needs : Bool) → ((if needs then loaded.header.e_phnum else 0) ≡ 0) ⊎ ((if needs then loaded.header.e_phnum else 0) ≡ loaded.header.e_phnum)
    by_cases true = inr refl
    by_cases false = inl refl

pub viewed_all : (style : ListingStyle) (parts : ℕ) (loaded : LoadedFile) (store : StoreState) → store.segments ≡ viewed_headers style parts loaded → 0 < store.segments → store.segments ≡ loaded.header.e_phnum
viewed_all style parts loaded store view some = elim (viewed_is style parts loaded) [ inl none ↦ absurd (omega arith) | inr all ↦ view ∙ all ]

-- the tables of the headers in the store are those of the file
module _ (file : List ℕ) (loaded : LoadedFile) (store : StoreState) (style : ListingStyle) (parts : ℕ) (belongs : HoldsSectionHeaders file loaded store) (held : HoldsSegments file store)
    (view : store.segments ≡ viewed_headers style parts loaded) where
  few_segments : segments_sum loaded store style.cap parts ≤ sum_over (λ i. kinds_cost segment_kinds (file_segments file) i (length file) style.cap parts) 0 (e_phnum file)
  few_segments = elim (viewed_is style parts loaded) [
    | inl none ↦
        let zero = sum_of_none (λ i. kinds_cost segment_kinds (store_segments store) i loaded.size style.cap parts) store.segments (view ∙ none) in
        omega (arith, zero)
    | inr all ↦
        let count : store.segments ≡ e_phnum file = view ∙ (all ∙ belongs.header.e_phnum) in
        let tables = segments_cost_rows file (segment_bytes store) style.cap parts (λ i below. held i (omega (arith, count))) in
        let same : segments_sum loaded store style.cap parts ≡ sum_over (λ i. kinds_cost segment_kinds (file_segments file) i (length file) style.cap parts) 0 (e_phnum file) = rw (count, belongs.size) tables in
        omega (arith, same)
  ]

  tables_within : sections_sum style.gnu style.versions loaded store style.cap parts + segments_sum loaded store style.cap parts ≤ tables_cost file style parts
  unfolding tables_cost
  tables_within =
      let count : store.loaded ≡ e_shnum file = belongs.count ∙ belongs.header.e_shnum in
      elim (cases_Bool (e_shnum file == 0)) [
        | inl none ↦
            let zero = sum_of_none (λ i. kinds_cost (section_kinds style.gnu style.versions) (store_sections store) i loaded.size style.cap parts) store.loaded (count ∙ eqb-true (e_shnum file) 0 none) in
            let same = ap (tables_by file style.cap parts) (headers_none style.gnu style.versions file none) in
            omega (arith, zero, same, few_segments)
        | inr some ↦
            let unviewed = view ∙ viewed_none style parts loaded (ap (λ n. n == 0) belongs.header.e_shnum ∙ some) in
            let zero = sum_of_none (λ i. kinds_cost segment_kinds (store_segments store) i loaded.size style.cap parts) store.segments unviewed in
            let tables = rows_cost file (row store) style.gnu style.versions style.cap parts (λ i below. belongs.rows i (omega (arith, count))) in
            let same : sections_sum style.gnu style.versions loaded store style.cap parts ≡ sum_over (λ i. kinds_cost (section_kinds style.gnu style.versions) (held_headers (e_shnum file) (row store)) i (length file) style.cap parts) 0 (e_shnum file) = rw (count, belongs.size) refl in
            omega (arith, zero, same, tables, sections_counted file style parts)
      ]

pub slots_below : (size headers : ℕ) (style : ListingStyle) → 64 + 64 * headers ≤ style_ceiling size headers style
slots_below size headers style =
    let all = any_rows (held_headers 0 (λ i. [])) style size headers 0 headers 0 (omega arith) (omega arith) in omega arith

-- versions after the names of symbols lower no ceiling
ceiling_below : (size headers : ℕ) (style : ListingStyle)
    → ceiling size headers style.cap + cost_where (follows_dynamic style) (located_most size style.cap) ≤ style_ceiling size headers style
unfolding style_ceiling tables_ceiling
ceiling_below size headers style = by_cases style.versions
  where
    by_cases : (versions : Bool)
        → ceiling size headers style.cap + cost_where (follows_dynamic style) (located_most size style.cap)
        ≤ (if versions then ceiling size headers style.cap + headers * suffixes_most size style.cap else ceiling size headers style.cap)
        + cost_where (follows_dynamic style) (located_most size style.cap)
    by_cases true = omega arith
    by_cases false = omega arith

-- what dynamic entries locate, if the file has no sections
located_sectioned : (style : ListingStyle) (parts : ℕ) (loaded : LoadedFile) → (loaded.header.e_shnum == 0) ≡ false → located_asked style parts loaded ≡ 0
located_sectioned style parts loaded some = rw some refl

located_is : (file : List ℕ) (style : ListingStyle) (parts : ℕ) (loaded : LoadedFile) (store : StoreState) → HoldsSectionHeaders file loaded store
    → located_asked style parts loaded ≡ located_cost file style parts
unfolding located_cost
located_is file style parts loaded store belongs = rw (belongs.header.e_shnum, belongs.size) refl

-- the section headers with their names, and the program headers
headers_within : (file : List ℕ) (loaded : LoadedFile) (style : ListingStyle) (parts : ℕ) → IsEhdr file 0 loaded.header
    → 64 * loaded.header.e_shnum + names_asked loaded loaded.header.e_shnum style.cap parts + segments_asked loaded style parts ≤ sections_cost file style.cap parts + segments_cost file style parts
unfolding sections_cost segments_cost
headers_within file loaded style parts is = rw (is.e_shnum, is.e_phnum, is.e_shstrndx) (omega arith)

-- if the checks before the load and the first of the load pass, what is read after the header
-- counts
loadable : (file : List ℕ) (headers : ℕ) → first_refusal (header_checks file) ≡ None → pass (early_checks file headers) ≡ true → is_loadable file headers ≡ true
unfolding is_loadable
loadable file headers passed early = ap is_none (first_refusal-none (header_checks file) (early_checks file headers) passed) ∙ early

-- a load reads the section headers if the checks before them pass, and nothing else
pub load_within : (file : List ℕ) (header : Ehdr) (size slots : ℕ) (style : ListingStyle) (parts : ℕ) → IsEhdr file 0 header → size ≡ length file → first_refusal (header_checks file) ≡ None → has_tables parts ≡ true
    → load_cost header size slots ≤ after_header file slots style parts
load_within file header size slots style parts is same passed tables =
    cost_where-within (pass (early_of header size slots)) (64 * header.e_shnum) _ (λ early.
    let headers = headers_within file (record { size = size; header = header }) style parts is in
    rw (tables, loadable file slots passed (ap is_none (sym (early_is file header size slots is same)) ∙ early)) (omega (arith, headers)))

pub load_below : (header : Ehdr) (size slots : ℕ) (style : ListingStyle) → 64 + load_cost header size slots ≤ style_ceiling size slots style
load_below header size slots style = let few : load_cost header size slots ≤ 64 * slots = grind arith in omega (arith, few, slots_below size slots style)

-- a file that was loaded is listed within its cost, and its headers alone are read within it
module _ (file : List ℕ) (loaded : LoadedFile) (store : StoreState) (slots : ℕ) (style : ListingStyle) (parts : ℕ) (belongs : HoldsSectionHeaders file loaded store)
    (same : store.slots ≡ slots) where
  loads : first_refusal (header_checks file) ≡ None → is_loadable file slots ≡ true
  loads passed = rw (← same) (loadable file store.slots passed (ap is_none (passes_front (early_checks file store.slots) (section_name_checks file) belongs.passes)))

  pub loaded_within : HoldsSegments file store → store.segments ≡ viewed_headers style parts loaded → first_refusal (header_checks file) ≡ None → has_tables parts ≡ true
      → 64 * loaded.header.e_shnum + (view_cost style parts loaded + tables_listed style parts loaded store) ≤ after_header file slots style parts
  loaded_within held view passed tables =
      let within = tables_within file loaded store style parts belongs held view in
      let headers = headers_within file loaded style parts belongs.header in
      let listed = listed_parts style loaded store parts in
      let names = ap (λ n. names_asked loaded n style.cap parts) belongs.count in
      let located = located_is file style parts loaded store belongs in
      rw (tables, loads passed) (omega (arith, within, headers, listed, names, located))

  pub view_within : first_refusal (header_checks file) ≡ None → has_tables parts ≡ true → 64 * loaded.header.e_shnum + view_cost style parts loaded ≤ after_header file slots style parts
  view_within passed tables =
      let once = segments_once (loaded.header.e_shnum == 0) (has parts SEGMENTS) (lies_in_segments style parts) (56 * loaded.header.e_phnum) in
      let headers = headers_within file loaded style parts belongs.header in
      rw (tables, loads passed) (omega (arith, once, headers))

-- and within the ceiling, for any source
pub loaded_below : (loaded : LoadedFile) (store : StoreState) (size slots : ℕ) (style : ListingStyle) (parts : ℕ) → loaded.size ≡ size → store.slots ≡ slots → store.loaded ≡ loaded.header.e_shnum
    → loaded.header.e_shnum ≤ slots → loaded.header.e_phnum ≤ slots → store.segments ≡ viewed_headers style parts loaded
    → 64 + (64 * loaded.header.e_shnum + (view_cost style parts loaded + tables_listed style parts loaded store)) ≤ style_ceiling size slots style
loaded_below loaded store size slots style parts same slotted count few some view =
    let listed = listed_parts style loaded store parts in
    let names = cost_where-le (has parts SECTIONS && not (loaded.header.e_shstrndx == 0)) (store.loaded * name_bytes style.cap) in
    let asked = cost_where-le (has parts SEGMENTS || (loaded.header.e_shnum == 0 && lies_in_segments style parts)) (56 * loaded.header.e_phnum) in
    rw (← same) (elim (cases_Bool (loaded.header.e_shnum == 0)) [
      | inl none ↦
          let zero : store.loaded ≡ 0 = count ∙ eqb-true loaded.header.e_shnum 0 none in
          let tables = sum_of_none (λ i. kinds_cost (section_kinds style.gnu style.versions) (store_sections store) i loaded.size style.cap parts) store.loaded zero in
          let unnamed : store.loaded * name_bytes style.cap ≡ 0 = rw zero (omega arith) in
          let within = cost_where-le (needs_segment_view style parts loaded) loaded.header.e_phnum in
          let more = sums_grow (λ i. kinds_cost segment_kinds (store_segments store) i loaded.size style.cap parts) 0 store.segments loaded.header.e_phnum (omega (arith, within, view)) in
          let all = any_segments (store_segments store) loaded.size slots style.cap parts loaded.header.e_phnum some in
          let located = located_within (loaded.header.e_shnum == 0) (follows_dynamic style) (has parts SYMBOLS) (has parts RELOCS) (table_most loaded.size style.cap) in
          omega (arith, zero, count, tables, names, unnamed, listed, asked, more, all, located, ceiling_below loaded.size slots style)
      | inr sectioned ↦
          let zero = sum_of_none (λ i. kinds_cost segment_kinds (store_segments store) i loaded.size style.cap parts) store.segments (view ∙ viewed_none style parts loaded sectioned) in
          let all = any_rows (store_sections store) style loaded.size slots parts store.loaded loaded.header.e_phnum (omega (arith, count)) some in
          omega (arith, zero, count, names, listed, asked, all, located_sectioned style parts loaded sectioned)
    ])

pub view_below : (loaded : LoadedFile) (size slots : ℕ) (style : ListingStyle) (parts : ℕ) → loaded.header.e_shnum ≤ slots → loaded.header.e_phnum ≤ slots
    → 64 + (64 * loaded.header.e_shnum + view_cost style parts loaded) ≤ style_ceiling size slots style
view_below loaded size slots style parts few some =
    let store : StoreState = record { slots = slots; loaded = loaded.header.e_shnum; rows = []; segments = viewed_headers style parts loaded; segment_rows = [] } in
    let below = loaded_below (record { size = size; header = loaded.header }) store size slots style parts refl refl refl few some refl in
    omega (arith, below)

-- what is read after a load, and after the program headers that it reads too, is paid if all of it
-- is
pub load_pays : (before m : ℕ) {after load shnum n k : ℕ} → after ≤ before + load → load ≤ 64 * shnum → n ≡ shnum → 64 * n + m ≤ k → after + m ≤ before + k
load_pays before m read most same within = omega arith

pub view_pays : (before view m : ℕ) {after load shnum n k : ℕ} → after ≤ before + (load + view) → load ≤ 64 * shnum → n ≡ shnum → 64 * n + (view + m) ≤ k → after + m ≤ before + k
view_pays before view m read most same within = omega arith

-- of a bound with the file header's bytes the rest is left
pub rest_pays : {n k : ℕ} → 64 + n ≤ k → n ≤ k - 64
rest_pays within = omega arith

-- a load leaves no more headers than slots
pub few_headers : (loaded : LoadedFile) (header : Ehdr) (size : ℕ) (store : StoreState) {slots : ℕ} → IsOpened loaded size header store → store.slots ≡ slots
    → (loaded.header.e_shnum ≤ slots) × (loaded.header.e_phnum ≤ slots)
few_headers loaded header size store opened same = rw (opened.same_header, ← same) (opened.passes.few, opened.passes.few_segments)

pub cost_is : (file : List ℕ) (headers : ℕ) (style : ListingStyle) (parts : ℕ)
    → listing_cost file headers style parts ≡ 64 + after_header (view_of style file) headers style (known_parts style parts)
unfolding listing_cost
cost_is file headers style parts = refl
