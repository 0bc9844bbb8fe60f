-- The items of a whole listing: the file header's, and what follows it.
use Rattle.std.proofs.lemmas.Bool.{cases_Bool, eqb-true, or_left, or_right}
use Rattle.std.proofs.Common.{◌≡◌, ℕ, ◌==◌, ◌||◌, inl, inr, true, List, [], ◌∷◌, ◌++◌, None, Err, false, sym, ap, ◌∙◌, refl, append-nil, append_assoc}
use Rattle.elf_model.specs.Prelude.{e_phnum, e_shnum, each, Fault, fault_of, file_sections, file_segments, first_refusal, has, has_tables, HEADER, header_checks, header_row, HeaderTable, IsBudgetRefusal, kinds_rows, known_parts, lies_in_segments, listing, ListingItem, ListingStyle, load_checks, load_items, loaded_items, located_items, records_rows, segment_dynamic, segment_kinds, segment_notes, segment_row, SEGMENTS, symbol_versions, table_headers, table_items, table_rows, TableHeaders, TableKind, version_definitions, version_needs, VERSIONS, view_checks, viewed as view_of, where_asked}
use Rattle.elf_model.specs.declared.causes.Refusal.{Refusal}
use Rattle.elf_model.proofs.VersionNameLaws.{back-none, front-none, records-none}
use Rattle.elf_model.proofs.CostLemmas.{headers_none, headers_some}
use Rattle.elf_model.proofs.ListingLemmas.{guarded-passes, guarded-fault, load_some}
use Rattle.elf_table.specs.Prelude.{HeaderRead, HoldsSectionHeaders, LoadedAs, LoadedFile, StoreState}
use Rattle.elf_table.specs.declared.fault.Fault.{Fault as TableFault}
use Rattle.elf_table.specs.declared.fault.Fault.TheVariants.{Refused}
use Rattle.elf_listing.specs.Prelude.{ChecksView, PartListed, first_kinds, kinds_items, kinds_listed, of_sections, of_segments, part_items, record_kinds, section_headers_part, sections_listed, segments_parts, viewed_headers}

-- the file header's part
abbrev pub header_part : ListingStyle → List ℕ → ℕ → List ListingItem
header_part style file parts = where_asked parts HEADER (header_row style file)

pub items_are : (file : List ℕ) (headers : ℕ) (style : ListingStyle) (parts : ℕ) → first_refusal (header_checks file) ≡ None → listing file headers style parts ≡ header_part style file parts ++ load_items (view_of style file) headers style (known_parts style parts)
unfolding listing
items_are file headers style parts passed = guarded-passes (header_checks file) (header_part style file parts ++ load_items (view_of style file) headers style (known_parts style parts)) passed

-- a refusal of the file header is all that is listed
pub header_alone : (file : List ℕ) (headers : ℕ) (style : ListingStyle) (parts : ℕ) (fault : TableFault) → HeaderRead file (Err fault) → (refusal : Refusal) → fault ≡ Refused refusal
    → (IsBudgetRefusal refusal → ⊥) → listing file headers style parts ≡ Fault refusal ∷ []
unfolding listing
header_alone file headers style parts fault read refusal is other =
    let first = rw is at read in
    guarded-fault (header_checks file) (header_part style file parts ++ load_items (view_of style file) headers style (known_parts style parts)) refusal (first other)

-- a refusal of the load is all that is listed after the file header
pub load_alone : (file : List ℕ) (headers : ℕ) (style : ListingStyle) (parts : ℕ) (fault : TableFault) (store : StoreState) → LoadedAs file (Err fault) store → store.slots ≡ headers → has_tables parts ≡ true
    → (refusal : Refusal) → fault ≡ Refused refusal → (IsBudgetRefusal refusal → ⊥) → load_items file headers style parts ≡ Fault refusal ∷ []
load_alone file headers style parts fault store read same tables refusal is other =
    let first = rw is at read in
    load_some file headers style parts tables
    ∙ guarded-fault (load_checks file headers) (loaded_items file style parts) refusal (ap (λ n. first_refusal (load_checks file n)) (sym same) ∙ first other)

-- if the load passes, what follows its checks is listed
load_after : (file : List ℕ) (headers slots : ℕ) (style : ListingStyle) (parts : ℕ) → first_refusal (load_checks file slots) ≡ None → slots ≡ headers → has_tables parts ≡ true
    → load_items file headers style parts ≡ loaded_items file style parts
load_after file headers slots style parts passed same tables =
    load_some file headers style parts tables
    ∙ guarded-passes (load_checks file headers) (loaded_items file style parts) (ap (λ n. first_refusal (load_checks file n)) (sym same) ∙ passed)

-- a refusal of the program headers is all of that
pub view_alone : (file : List ℕ) (headers slots : ℕ) (style : ListingStyle) (parts : ℕ) → first_refusal (load_checks file slots) ≡ None → slots ≡ headers → has_tables parts ≡ true
    → (fault : TableFault) → ChecksView (view_checks file style parts) (Err fault)
    → (refusal : Refusal) → fault ≡ Refused refusal → (IsBudgetRefusal refusal → ⊥) → load_items file headers style parts ≡ Fault refusal ∷ []
unfolding loaded_items
view_alone file headers slots style parts passed same tables fault checked refusal is other =
    let first = rw is at checked in
    load_after file headers slots style parts passed same tables
    ∙ guarded-fault (view_checks file style parts) (table_items file style parts) refusal (first other)

-- if they pass too, the tables are listed
pub load_passed : (file : List ℕ) (headers slots : ℕ) (style : ListingStyle) (parts : ℕ) → first_refusal (load_checks file slots) ≡ None → slots ≡ headers → has_tables parts ≡ true
    → first_refusal (view_checks file style parts) ≡ None → load_items file headers style parts ≡ table_items file style parts
unfolding loaded_items
load_passed file headers slots style parts passed same tables checked =
    load_after file headers slots style parts passed same tables
    ∙ guarded-passes (view_checks file style parts) (table_items file style parts) checked

-- a part of n headers
abbrev pub of_headers : List ℕ → ListingStyle → ℕ → PartListed → ℕ → List ListingItem
of_headers file style parts part count = where_asked parts part.bit (part_items part style count file)

abbrev pub segment_part : List ℕ → ListingStyle → ℕ → List ListingItem
segment_part file style parts = where_asked parts SEGMENTS (each (segment_row file style) 0 (e_phnum file)) ++ located_items file style parts

nothing_asked : (parts part : ℕ) → where_asked parts part [] ≡ []
nothing_asked parts part = elim (cases_Bool (has parts part)) [ inl asked ↦ rw (asked, where_asked) refl | inr other ↦ rw (other, where_asked) refl ]

-- a part of no header
none_of : (file : List ℕ) (style : ListingStyle) (parts : ℕ) (part : PartListed) (count : ℕ) → count ≡ 0 → of_headers file style parts part count ≡ []
unfolding each
none_of file style parts part count none = rw none (nothing_asked parts part.bit)

-- a part whose number of headers matters only if it is listed
asked_same : (parts part : ℕ) (items : ℕ → List ListingItem) (n m : ℕ) → (has parts part ≡ true → n ≡ m) → where_asked parts part (items n) ≡ where_asked parts part (items m)
asked_same parts part items n m same = elim (cases_Bool (has parts part)) [
  | inl asked ↦ ap (λ k. where_asked parts part (items k)) (same asked)
  | inr other ↦ rw (other, where_asked) refl
]

-- the rows of some kinds and of others
kinds_append : (xs ys : List TableKind) (headers : HeaderTable) (file : List ℕ) (style : ListingStyle) (parts : ℕ)
    → kinds_rows (xs ++ ys) headers file style parts ≡ kinds_rows xs headers file style parts ++ kinds_rows ys headers file style parts
unfolding kinds_rows
kinds_append [] ys headers file style parts = refl
kinds_append (kind ∷ xs) ys headers file style parts =
    let own : List ListingItem = where_asked parts kind.part (each (λ i. table_rows kind file style i (headers.at i)) 0 headers.count) in
    ap (λ rest. own ++ rest) (kinds_append xs ys headers file style parts) ∙ sym (append_assoc own _ _)

-- the rows of kinds of tables of sections are what these kinds list, for as many sections
sections_listed_by : (kinds : List TableKind) (file : List ℕ) (style : ListingStyle) (parts : ℕ) (store : StoreState) → store.loaded ≡ e_shnum file
    → kinds_rows kinds (file_sections file) file style parts ≡ kinds_items parts (sections_listed kinds) store style file
unfolding kinds_rows kinds_items kinds_listed
sections_listed_by [] file style parts store count = refl
sections_listed_by (kind ∷ kinds) file style parts store count =
    ap (λ n. of_headers file style parts (of_sections kind) n ++ kinds_rows kinds (file_sections file) file style parts) (sym count)
    ∙ ap (λ rest. of_headers file style parts (of_sections kind) store.loaded ++ rest) (sections_listed_by kinds file style parts store count)

-- each of some kinds whose part is listed has its headers in the store
abbrev AreHeld : List TableKind → ℕ → Type 0 → Type 0
AreHeld [] parts held = Unit {0}
AreHeld (kind ∷ kinds) parts held = (has parts kind.part ≡ true → held) × AreHeld kinds parts held

-- and so are the rows of kinds of tables of segments
segments_listed_by : (kinds : List TableKind) (file : List ℕ) (style : ListingStyle) (parts : ℕ) (store : StoreState) → AreHeld kinds parts (store.segments ≡ e_phnum file)
    → kinds_rows kinds (file_segments file) file style parts ≡ kinds_items parts (kinds_listed of_segments kinds) store style file
unfolding kinds_rows kinds_items kinds_listed
segments_listed_by [] file style parts store held = refl
segments_listed_by (kind ∷ kinds) file style parts store held =
    let own = asked_same parts kind.part (λ n. part_items (of_segments kind) style n file) (e_phnum file) store.segments (λ asked. sym (held.0 asked)) in
    ap (λ rows. rows ++ kinds_rows kinds (file_segments file) file style parts) own
    ∙ ap (λ rest. of_headers file style parts (of_segments kind) store.segments ++ rest) (segments_listed_by kinds file style parts store held.1)

-- without headers, kinds list nothing
none_listed : (of : TableKind → PartListed) (kinds : List TableKind) (file : List ℕ) (style : ListingStyle) (parts : ℕ) (store : StoreState) → ((kind : TableKind) → (of kind).count store ≡ 0)
    → kinds_items parts (kinds_listed of kinds) store style file ≡ []
unfolding kinds_items kinds_listed
none_listed of [] file style parts store zero = refl
none_listed of (kind ∷ kinds) file style parts store zero =
    rw (none_of file style parts (of kind) ((of kind).count store) (zero kind)) (none_listed of kinds file style parts store zero)

-- if a part needs the program headers of a file without sections, they are loaded
viewed_where : (style : ListingStyle) (parts : ℕ) (loaded : LoadedFile) → (loaded.header.e_shnum == 0) ≡ true → (has parts SEGMENTS || lies_in_segments style parts) ≡ true
    → viewed_headers style parts loaded ≡ loaded.header.e_phnum
viewed_where style parts loaded none asked = rw (none, asked) refl

pub viewed_none : (style : ListingStyle) (parts : ℕ) (loaded : LoadedFile) → (loaded.header.e_shnum == 0) ≡ false → viewed_headers style parts loaded ≡ 0
viewed_none style parts loaded some = rw some refl

pub viewed_segments : (style : ListingStyle) (parts : ℕ) (loaded : LoadedFile) → (loaded.header.e_shnum == 0) ≡ true → has parts SEGMENTS ≡ true → viewed_headers style parts loaded ≡ loaded.header.e_phnum
viewed_segments style parts loaded none asked = rw (none, asked) refl

-- the parts of the kinds of tables of segments need the program headers
segments_held : (style : ListingStyle) (parts : ℕ) (held : Type 0) → ((has parts SEGMENTS || lies_in_segments style parts) ≡ true → held) → AreHeld segment_kinds parts held
unfolding segment_notes segment_dynamic
segments_held style parts held all = (λ asked. all (or_right _ _ (or_left _ _ asked)), (λ asked. all (or_right _ _ (or_right _ _ (or_left _ _ asked))), tt))

-- what program headers list, if they are those of the file
segments_listed_are : (file : List ℕ) (style : ListingStyle) (parts : ℕ) (loaded : LoadedFile) (store : StoreState) → HoldsSectionHeaders file loaded store → store.segments ≡ viewed_headers style parts loaded
    → (e_shnum file == 0) ≡ true → kinds_rows segment_kinds (file_segments file) file style parts ≡ kinds_items parts segments_parts store style file
segments_listed_are file style parts loaded store belongs view none =
    let all = viewed_where style parts loaded (ap (λ n. n == 0) belongs.header.e_shnum ∙ none) in
    segments_listed_by segment_kinds file style parts store (segments_held style parts (store.segments ≡ e_phnum file) (λ asked. view ∙ (all asked ∙ belongs.header.e_phnum)))

-- the tables of the headers in the store, but the section headers and the program headers
abbrev kinds_by_store : List ℕ → ListingStyle → ℕ → StoreState → List ListingItem
kinds_by_store file style parts store =
    kinds_items parts (sections_listed (first_kinds style.gnu style.versions)) store style file
    ++ (kinds_items parts segments_parts store style file
    ++ (kinds_items parts (sections_listed record_kinds) store style file
    ++ of_headers file style parts (of_sections symbol_versions) store.loaded))

last_listed : (file : List ℕ) (style : ListingStyle) (parts : ℕ) (store : StoreState) → kinds_items parts (sections_listed (symbol_versions ∷ [])) store style file ≡ of_headers file style parts (of_sections symbol_versions) store.loaded
unfolding kinds_items kinds_listed
last_listed file style parts store = append-nil _

-- the tables of all kinds are those of the headers in the store
kinds_are : (file : List ℕ) (style : ListingStyle) (parts : ℕ) (loaded : LoadedFile) (store : StoreState) → HoldsSectionHeaders file loaded store → store.segments ≡ viewed_headers style parts loaded
    → kinds_rows (table_headers style.gnu style.versions file).kinds (table_headers style.gnu style.versions file).headers file style parts ≡ kinds_by_store file style parts store
kinds_are file style parts loaded store belongs view =
    let count : store.loaded ≡ e_shnum file = belongs.count ∙ belongs.header.e_shnum in
    elim (cases_Bool (e_shnum file == 0)) [
      | inl none ↦
          let zero : store.loaded ≡ 0 = count ∙ eqb-true (e_shnum file) 0 none in
          let first = none_listed of_sections (first_kinds style.gnu style.versions) file style parts store (λ kind. zero) in
          let records = none_listed of_sections record_kinds file style parts store (λ kind. zero) in
          let last = none_of file style parts (of_sections symbol_versions) store.loaded zero in
          ap (λ (tables : TableHeaders). kinds_rows tables.kinds tables.headers file style parts) (headers_none style.gnu style.versions file none)
          ∙ (segments_listed_are file style parts loaded store belongs view none ∙ sym (rw (first, records, last) (append-nil _)))
      | inr some ↦
          let zero : store.segments ≡ 0 = view ∙ viewed_none style parts loaded (ap (λ n. n == 0) belongs.header.e_shnum ∙ some) in
          let sections = file_sections file in
          let listed = λ (kinds : List TableKind). sections_listed_by kinds file style parts store count in
          ap (λ (tables : TableHeaders). kinds_rows tables.kinds tables.headers file style parts) (headers_some style.gnu style.versions file some)
          ∙ (kinds_append (first_kinds style.gnu style.versions) (record_kinds ++ (symbol_versions ∷ [])) sections file style parts
          ∙ (ap (λ rest. kinds_rows (first_kinds style.gnu style.versions) sections file style parts ++ rest) (kinds_append record_kinds (symbol_versions ∷ []) sections file style parts)
          ∙ rw (listed (first_kinds style.gnu style.versions), listed record_kinds, listed (symbol_versions ∷ []), last_listed file style parts store, none_listed of_segments segment_kinds file style parts store (λ kind. zero)) refl))
    ]

regrouped : (a b c d e : List ListingItem) → a ++ (b ++ (c ++ (d ++ e))) ≡ (((a ++ b) ++ c) ++ d) ++ e
regrouped a b c d e = simp append_assoc

grouped : (a b c : List ListingItem) → (a ++ b) ++ c ≡ a ++ (b ++ c)
grouped a b c = simp append_assoc

-- the tables of the headers in the store
abbrev pub by_store : List ℕ → ListingStyle → ℕ → StoreState → List ListingItem
by_store file style parts store =
    ((((of_headers file style parts section_headers_part store.loaded ++ segment_part file style parts)
    ++ kinds_items parts (sections_listed (first_kinds style.gnu style.versions)) store style file)
    ++ kinds_items parts segments_parts store style file)
    ++ kinds_items parts (sections_listed record_kinds) store style file)
    ++ of_headers file style parts (of_sections symbol_versions) store.loaded

-- the tables of a loaded file
pub tables_are : (file : List ℕ) (style : ListingStyle) (parts : ℕ) (loaded : LoadedFile) (store : StoreState) → HoldsSectionHeaders file loaded store → store.segments ≡ viewed_headers style parts loaded
    → table_items file style parts ≡ by_store file style parts store
unfolding table_items
tables_are file style parts loaded store belongs view =
    let count : e_shnum file ≡ store.loaded = sym (belongs.count ∙ belongs.header.e_shnum) in
    let first : List ListingItem = of_headers file style parts section_headers_part store.loaded ++ segment_part file style parts in
    ap (λ (rows : List ListingItem). rows ++ kinds_rows (table_headers style.gnu style.versions file).kinds (table_headers style.gnu style.versions file).headers file style parts) (grouped (of_headers file style parts section_headers_part (e_shnum file)) (where_asked parts SEGMENTS (each (segment_row file style) 0 (e_phnum file))) (located_items file style parts))
    ∙ ap (λ n. (of_headers file style parts section_headers_part n ++ segment_part file style parts) ++ kinds_rows (table_headers style.gnu style.versions file).kinds (table_headers style.gnu style.versions file).headers file style parts) count
    ∙ (ap (λ rest. first ++ rest) (kinds_are file style parts loaded store belongs view) ∙ regrouped first _ _ _ _)

-- if the rows of definitions and needs are listed and have no fault, they have none at all
pub versions_none : (file : List ℕ) (style : ListingStyle) (parts : ℕ) (loaded : LoadedFile) (store : StoreState) → HoldsSectionHeaders file loaded store
    → has parts VERSIONS ≡ true → fault_of (kinds_items parts (sections_listed record_kinds) store style file) ≡ None → fault_of (records_rows file style) ≡ None
unfolding version_definitions version_needs kinds_items kinds_listed
versions_none file style parts loaded store belongs asked none =
    let count : store.loaded ≡ e_shnum file = belongs.count ∙ belongs.header.e_shnum in
    let both = rw (asked, count, where_asked) at none in
    let first : List ListingItem = each ((of_sections version_definitions).items file style) 0 (e_shnum file) in
    let second : List ListingItem = each ((of_sections version_needs).items file style) 0 (e_shnum file) in
    records-none file style (front-none first (second ++ []) both) (front-none second [] (back-none first (second ++ []) both))
