-- The rows of words of relative relocations.
use Rattle.std.proofs.Common.{◌≡◌, ℕ, ◌+◌, ◌-◌, ◌*◌, ◌/◌, ◌%◌, ◌^◌, ◌<◌, ◌≤◌, ◌==◌, ◌||◌, ◌++◌, length, if◌then◌else◌, Bool, true, false, List, [], ◌∷◌, suc, Option, None, Some, Result, Ok, Err, refl, sym, ap, ◌∙◌, arith}
use Rattle.std.proofs.lemmas.Bool.{eqb-true, le-ltb, lt-ltb}
use Rattle.elf_model.specs.Prelude.{Fault as FaultItem, LAST_ADDRESS, ListingItem, ListingStyle, all_checks, base_after, bit_row, bitmap_base, chosen_row, each, entry_count, field, first_refusal, guarded, relr_table, sh_size, unless_empty, either_kind, entries_kind, gnu_relocations, relative_relocations, sh_type, no_name, place_of_relr, placed_choice, relr_prefix, relr_row, relr_rows, relr_rows_at, relr_word, section_at, sh_offset, slice, table_checks, table_cost, table_rows, word_rows}
use Rattle.elf_model.specs.HeaderTables.{TableKind}
use Rattle.elf_model.specs.declared.causes.Cause.TheVariants.{Relr}
use Rattle.elf_model.proofs.RelativeKinds.{either_costs, entries_have}
use Rattle.elf_options.specs.Permitted.{style_of}
use Rattle.elf_source.specs.declared.source.Source.{Ghosts as Sources}
use Rattle.elf_source.specs.declared.sink.Sink.{Ghosts as Sinks}
use Rattle.elf_record.proofs.RecordLaws.{first_field_in}
use Rattle.elf_table.specs.Prelude.{TableRange, rows, stop_of, table_at}
use Rattle.elf_table.specs.Store.{row}
use Rattle.elf_table.proofs.RelocationLaws.{table-passes}
use Rattle.elf_table.specs.declared.fault.Fault.TheVariants.{Refused}
use Rattle.elf_table.specs.declared.run_fault.RunFault.{RunFault}
use Rattle.elf_listing.specs.HeadersListed.{ListsHeader}
use Rattle.elf_listing.specs.Prelude.{ListingCalls, ListingWrote, entries_part, further_part, of_sections, relative_part, relocations_part, store_sections}
use Rattle.elf_listing.specs.declared.listing.Listing.{Listing}
use Rattle.elf_model.proofs.ListingLemmas.{rows_split}
use Rattle.elf_options.specs.declared.caps.ListingStyle.{ListingStyle as Shape}
use Rattle.elf_listing.proofs.EachLaws.{each-more}
use Rattle.elf_listing.proofs.PartsLaws.{Parts-as, Parts-more, Parts-then}
use Rattle.elf_listing.proofs.ListsLaws.{ListingCalls-refused, ListingCalls-within}
use Rattle.elf_listing.proofs.RowLaws.{Ends-first, WroteSome-as}

-- an address whose eight bytes end past 2^64
pub address_refused : (file : List ℕ) (style : ListingStyle) (section at address : ℕ) → LAST_ADDRESS < address
    → relr_row file style section at address ≡ FaultItem (record { at = at; cause = Relr }) ∷ []
unfolding relr_row
address_refused file style section at address past = rw (lt-ltb LAST_ADDRESS address past) refl

-- any other
pub address_is : (file : List ℕ) (style : ListingStyle) (section at address : ℕ) → address ≤ LAST_ADDRESS
    → relr_row file style section at address
    ≡ chosen_row (placed_choice style (place_of_relr file at address) style.choice) (relr_prefix style.format address section) at no_name
unfolding relr_row
address_is file style section at address within = rw (le-ltb LAST_ADDRESS address within) refl

-- a bit that is not set, and one that is
pub bit_none : (file : List ℕ) (style : ListingStyle) (section at base word bit : ℕ) → word / 2 ^ (bit + 1) % 2 ≡ 0 → bit_row file style section at base word bit ≡ []
unfolding bit_row
bit_none file style section at base word bit none = rw none refl

pub bit_set : (file : List ℕ) (style : ListingStyle) (section at base word bit : ℕ) → word / 2 ^ (bit + 1) % 2 ≡ 1
    → bit_row file style section at base word bit ≡ relr_row file style section at (base + 8 * bit)
unfolding bit_row
bit_set file style section at base word bit set = rw set refl

-- a remainder of 2 that is not 0 is 1
pub odd_is : (n : ℕ) → (n % 2 ≡ 0 → ⊥) → n % 2 ≡ 1
odd_is n odd = by (n % 2) (omega arith) odd
  where
    by : (rest : ℕ) → rest < 2 → (rest ≡ 0 → ⊥) → rest ≡ 1
    by rest few some = grind (arith, few, some)

-- a word that is an address, a bitmap after no address, and another bitmap
pub address_word : (file : List ℕ) (style : ListingStyle) (section at word : ℕ) (base : Option ℕ) → word % 2 ≡ 0 → word_rows file style section at base word ≡ relr_row file style section at word
unfolding word_rows
address_word file style section at word base even = rw even refl

pub bitmap_refused : (file : List ℕ) (style : ListingStyle) (section at word : ℕ) → word % 2 ≡ 1
    → word_rows file style section at None word ≡ FaultItem (record { at = at; cause = Relr }) ∷ []
unfolding word_rows
bitmap_refused file style section at word odd = rw odd refl

pub bitmap_word : (file : List ℕ) (style : ListingStyle) (section at base word : ℕ) → word % 2 ≡ 1
    → word_rows file style section at (Some base) word ≡ each (bit_row file style section at base word) 0 63
unfolding word_rows
bitmap_word file style section at base word odd = rw odd refl

-- the rows of a word of the file
pub word_is : (file : List ℕ) (style : ListingStyle) (header table_at place index word : ℕ) (base : Option ℕ) → place ≡ table_at + index * 8 → word ≡ relr_word file place
    → base ≡ bitmap_base file table_at index → relr_rows_at file style header table_at index ≡ word_rows file style header place base word
word_is file style header table_at place index word base here is from =
    let same : place ≡ table_at + 8 * index = omega (arith, here) in
    rw (is, from, same) refl

-- the words of a section's table
pub section_words : (file : List ℕ) (style : ListingStyle) (section at table_at count : ℕ) → table_at ≡ sh_offset file at
    → each (relr_rows file style section at) 0 count ≡ each (relr_rows_at file style section table_at) 0 count
unfolding relr_rows
section_words file style section at table_at count is = rw is refl

-- the row that a cursor gave is a word of the file
module _ (file : List ℕ) (table_at place i index word : ℕ) (base : Option ℕ) (bytes : List ℕ) (here : place ≡ table_at + i * 8) (held : bytes ≡ slice file place 8)
    (read : word ≡ field bytes 0 8) (same : i ≡ index) (from : base ≡ bitmap_base file table_at index) where
  read_is : word ≡ relr_word file place
  read_is = read ∙ first_field_in file place 8 bytes 8 held (omega arith)

  pub given_word : (style : ListingStyle) (header : ℕ) → relr_rows_at file style header table_at i ≡ word_rows file style header place base word
  given_word style header = word_is file style header table_at place i word base here read_is (from ∙ ap (bitmap_base file table_at) (sym same))

  pub next_base : (next : ℕ) → next ≡ index + 1 → base_after base word ≡ bitmap_base file table_at next
  unfolding bitmap_base
  next_base next is =
      let step : next ≡ suc index = omega (arith, is) in
      let there : place ≡ table_at + 8 * index = omega (arith, here, same) in
      rw (step, bitmap_base, ← from, ← there, ← read_is) refl

-- a table of relative relocations: its checks, and its words
pub relr_table_is : (file : List ℕ) (at : ℕ) (table : TableRange) → table_at file at 8 ≡ Ok table
    → (first_refusal (all_checks relr_table file at) ≡ None) × ((table.count ≡ entry_count file at 8) × (table.at ≡ sh_offset file at))
relr_table_is file at table held =
    let p = table-passes (sh_size file at == 0) (rows (sh_offset file at) 0 8) (rows (sh_offset file at) (sh_size file at / 8) 8) table (table_checks file at 8) held in
    (p.0, by (sh_size file at == 0) refl p.1)
  where
    by : (empty : Bool) → (sh_size file at == 0) ≡ empty
        → (elim empty as (λ _. TableRange) [ true ↦ rows (sh_offset file at) 0 8 | false ↦ rows (sh_offset file at) (sh_size file at / 8) 8 ]) ≡ table
        → (table.count ≡ sh_size file at / 8) × (table.at ≡ sh_offset file at)
    by true is same = let zero = eqb-true (sh_size file at) 0 is in (sym (ap (λ (t : TableRange). t.count) same) ∙ omega (arith, zero), sym (ap (λ (t : TableRange). t.at) same))
    by false is same = (sym (ap (λ (t : TableRange). t.count) same), sym (ap (λ (t : TableRange). t.at) same))

-- a word that is refused
pub refused_word : {S W : Type 0} {s : Sources S} {w : Sinks W} (a : Listing S W s w) (at : ℕ) (items : List ℕ → List ListingItem)
    → ((file : List ℕ) → items file ≡ FaultItem (record { at = at; cause = Relr }) ∷ [])
    → ListingCalls {X = Unit {0}} a a (Err (stop_of (Refused (record { at = at; cause = Relr })))) 0
    (ListingWrote {X = Unit {0}} a a (Err (stop_of (Refused (record { at = at; cause = Relr })))) items)
refused_word a at items is =
    ListingCalls-refused a (Refused (record { at = at; cause = Relr })) 0 _ (λ e. cc) (λ file held.
    Ends-first _ (record { at = at; cause = Relr }) (items file) (λ other. is file))

-- Rows that read nothing, one after another.
module _ {S W X : Type 0} {s : Sources S} {w : Sinks W} (row : Shape → List ℕ → ℕ → List ListingItem) (i : ℕ) where
  pub bits_then : {a b c : Listing S W s w} {x : X} {result : Result X RunFault}
      → ListingCalls a b (Ok x) 0 (ListingWrote a b (Ok x) (λ file. each (row a.style file) 0 i))
      → ListingCalls b c result 0 (ListingWrote b c result (λ file. row b.style file i))
      → ListingCalls a c result 0 (ListingWrote a c result (λ file. each (row a.style file) 0 (i + 1)))
  bits_then {a = a} p q = Parts-as (λ file held. each-more (row a.style file) i) (Parts-then _ (λ f style. 0) (λ f style file. row style file i) p q)

  pub bits_stopped : {a b : Listing S W s w} {stop : RunFault} (count : ℕ) → i < count
      → ListingCalls {X = X} a b (Err stop) 0 (ListingWrote {X = X} a b (Err stop) (λ file. each (row a.style file) 0 (i + 1)))
      → ListingCalls {X = X} a b (Err stop) 0 (ListingWrote {X = X} a b (Err stop) (λ file. each (row a.style file) 0 count))
  bits_stopped {a = a} count below p =
      let all : count ≡ i + 1 + (count - (i + 1)) = omega arith in
      rw all (Parts-as (λ file held. rows_split (row a.style file) 0 (i + 1) (count - (i + 1))) (Parts-more 0 _ _ p))

-- a table of one of two kinds is one of its kind
module _ (one other : TableKind) (file : List ℕ) (style : ListingStyle) (index at : ℕ) where
  -- the rows of both kinds, and of the first, by whether the header is of the first
  abbrev rows_of_both : Bool → List ListingItem
  rows_of_both has =
      elim (has || other.has_table file at) as (λ _. List ListingItem) [
        | true ↦
            guarded
            (unless_empty (if has then one.checks.bytes file at else other.checks.bytes file at)
            ((if has then one.checks.own file at (length file) else other.checks.own file at (length file))
            ++ (if has then one.checks.linked file at else other.checks.linked file at)))
            (if has then one.rows file style index at else other.rows file style index at)
        | false ↦ []
      ]

  abbrev rows_of_first : Bool → List ListingItem
  rows_of_first has = elim has as (λ _. List ListingItem) [ true ↦ guarded (all_checks one.checks file at) (one.rows file style index at) | false ↦ [] ]

  pub first_rows : one.has_table file at ≡ true → table_rows (either_kind one other) file style index at ≡ table_rows one file style index at
  unfolding table_rows
  first_rows has = ap rows_of_both has ∙ sym (ap rows_of_first has)

  pub second_rows : one.has_table file at ≡ false → table_rows (either_kind one other) file style index at ≡ table_rows other file style index at
  unfolding table_rows
  second_rows has = ap rows_of_both has

-- what was listed of a header is what a kind lists that is one of two
module _ {S W X : Type 0} {s : Sources S} {w : Sinks W} (one other : TableKind) (a b : Listing S W s w) (result : Result X RunFault) (i : ℕ) where
  pub Header-first : one.has_table (row a.file.store.now i) 0 ≡ true → ((file : List ℕ) → a.src.now.seen.file ≡ Some file → one.has_table file (section_at file i) ≡ true)
      → ListsHeader (of_sections one) a b result i → ListsHeader (of_sections (either_kind one other)) a b result i
  Header-first has held p =
      let headers = store_sections a.file.store.now in
      let size : ℕ = a.file.loaded.size in
      let cap : ℕ = a.style.cap.bytes in
      let cost = either_costs one other headers i size cap ∙ ap (λ (h : Bool). if h then table_cost one headers i size cap else table_cost other headers i size cap) has in
      ListingCalls-within _ _ _ _ _ _ _ (omega (arith, cost)) p (λ file known.
      WroteSome-as _ _ _ (first_rows one other file (style_of a.style) i (section_at file i) (held file known)) (p.shows file known))

  pub Header-second : one.has_table (row a.file.store.now i) 0 ≡ false → ((file : List ℕ) → a.src.now.seen.file ≡ Some file → one.has_table file (section_at file i) ≡ false)
      → ListsHeader (of_sections other) a b result i → ListsHeader (of_sections (either_kind one other)) a b result i
  Header-second has held p =
      let headers = store_sections a.file.store.now in
      let size : ℕ = a.file.loaded.size in
      let cap : ℕ = a.style.cap.bytes in
      let cost = either_costs one other headers i size cap ∙ ap (λ (h : Bool). if h then table_cost one headers i size cap else table_cost other headers i size cap) has in
      ListingCalls-within _ _ _ _ _ _ _ (omega (arith, cost)) p (λ file known.
      WroteSome-as _ _ _ (second_rows one other file (style_of a.style) i (section_at file i) (held file known)) (p.shows file known))

-- the relocations of listings that may be GNU's
module _ {S W X : Type 0} {s : Sources S} {w : Sinks W} (versions : Bool) (a b : Listing S W s w) (result : Result X RunFault) (i : ℕ) where
  pub with_addends : (gnu : Bool) → (sh_type (row a.file.store.now i) 0 == 4) ≡ true → ((file : List ℕ) → a.src.now.seen.file ≡ Some file → (sh_type file (section_at file i) == 4) ≡ true)
      → ListsHeader (entries_part true versions) a b result i → ListsHeader (relocations_part gnu versions) a b result i
  unfolding gnu_relocations
  with_addends true has held p =
      Header-first (entries_kind true versions) (either_kind (entries_kind false versions) relative_relocations) a b result i
      (entries_have true versions _ _ ∙ has) (λ file known. entries_have true versions file _ ∙ held file known) p
  with_addends false has held p = p

  pub further : (sh_type (row a.file.store.now i) 0 == 4) ≡ false → ((file : List ℕ) → a.src.now.seen.file ≡ Some file → (sh_type file (section_at file i) == 4) ≡ false)
      → ListsHeader (further_part versions) a b result i → ListsHeader (relocations_part true versions) a b result i
  unfolding gnu_relocations
  further has held p =
      Header-second (entries_kind true versions) (either_kind (entries_kind false versions) relative_relocations) a b result i
      (entries_have true versions _ _ ∙ has) (λ file known. entries_have true versions file _ ∙ held file known) p

  pub without_addends : (sh_type (row a.file.store.now i) 0 == 9) ≡ true → ((file : List ℕ) → a.src.now.seen.file ≡ Some file → (sh_type file (section_at file i) == 9) ≡ true)
      → ListsHeader (entries_part false versions) a b result i → ListsHeader (further_part versions) a b result i
  without_addends has held p =
      Header-first (entries_kind false versions) relative_relocations a b result i
      (entries_have false versions _ _ ∙ has) (λ file known. entries_have false versions file _ ∙ held file known) p

  pub relative : (sh_type (row a.file.store.now i) 0 == 9) ≡ false → ((file : List ℕ) → a.src.now.seen.file ≡ Some file → (sh_type file (section_at file i) == 9) ≡ false)
      → ListsHeader relative_part a b result i → ListsHeader (further_part versions) a b result i
  relative has held p =
      Header-second (entries_kind false versions) relative_relocations a b result i
      (entries_have false versions _ _ ∙ has) (λ file known. entries_have false versions file _ ∙ held file known) p
