-- The ranges of two tables of entries.
use Rattle.std.proofs.Common.{◌≡◌, ℕ, ◌+◌, ◌-◌, ◌*◌, ◌<◌, ◌≤◌, ◌==◌, ◌&&◌, not, nat_lt, Bool, true, false, List, [], ◌∷◌, ◌++◌, Option, None, Some, refl, sym, ap, subst, ◌∙◌, arith}
use Rattle.std.proofs.lemmas.Bool.{and_parts, eq-eqb, eqb-true, le-ltb, lt-ltb, ne_eqb}
use Rattle.elf_model.specs.Apply.{places_from}
use Rattle.elf_model.specs.Checks.{first_refusal, refuse}
use Rattle.elf_model.specs.Image.{count_before, entry_ranges, first_entries}
use Rattle.elf_model.specs.ImageChecks.{LoadedTable, entries_end, linkage_checks, linkage_table, rela_table}
use Rattle.elf_model.specs.LoaderScope.{checks_of_row, tagged_row}
use Rattle.elf_model.specs.Numbers.{DT_JMPREL}
use Rattle.elf_model.specs.declared.causes.Cause.TheVariants.{Unsupported}
use Rattle.elf_table.specs.Prelude.{TableRange}
use Rattle.elf_image.specs.Located.{IsMapped, mapped_end}
use Rattle.elf_image.specs.Relocated.{entry_places, row_count}
use Rattle.elf_image.specs.declared.tables.MappedTable.{MappedTable}

-- the entries of a table
places_none : (table : TableRange) → table.count ≡ 0 → entry_places table ≡ []
unfolding places_from
places_none table zero = rw zero refl

places_some : (loaded : LoadedTable) (table : TableRange) → table ≡ record { at = loaded.place; count = loaded.count; entry = 24 } → entry_places table ≡ first_entries loaded loaded.count
unfolding first_entries
places_some loaded table is = ap entry_places is

-- two lists in ranges
abbrev pub in_ranges : Bool → (one two : List ℕ) → List ℕ × List ℕ
in_ranges joined one two = elim joined [ true ↦ (one ++ two, []) | false ↦ (one, two) ]

ranges_opened : (e k : LoadedTable)
    → entry_ranges (Some e) (Some k) ≡ in_ranges (e.address + 24 * count_before e k == k.address) (first_entries e (count_before e k)) (first_entries k k.count)
unfolding entry_ranges
ranges_opened e k = by_next (e.address + 24 * count_before e k == k.address)
  where
    by_next : (b : Bool)
        → (elim b [
          | true ↦ (first_entries e (count_before e k) ++ first_entries k k.count, [])
          | false ↦ (first_entries e (count_before e k), first_entries k k.count)
        ]) ≡ in_ranges b (first_entries e (count_before e k)) (first_entries k k.count)
    by_next true = refl
    by_next false = refl

ranges_some : (e k : LoadedTable) (n : ℕ) → count_before e k ≡ n
    → entry_ranges (Some e) (Some k) ≡ in_ranges (e.address + 24 * n == k.address) (first_entries e n) (first_entries k k.count)
ranges_some e k n is =
    subst (λ (m : ℕ). entry_ranges (Some e) (Some k) ≡ in_ranges (e.address + 24 * m == k.address) (first_entries e m) (first_entries k k.count)) is (ranges_opened e k)

empty_count : (table : MappedTable) → table.rows.count ≡ 0 → not (table.rows.count == 0) ≡ false
empty_count table zero = rw zero refl

some_count : (table : MappedTable) (count : ℕ) → table.rows.count ≡ count → 0 < count → not (table.rows.count == 0) ≡ true
some_count table count is some = rw (ne_eqb table.rows.count 0 (λ zero. omega (arith, zero, is, some))) refl

right_false : (a b : Bool) → b ≡ false → (a && b) ≡ false
right_false true b is = is
right_false false b is = refl

-- TWO TABLES that do not end alike
module _ (addends calls : MappedTable) where
  abbrev both : Bool
  both = not (addends.rows.count == 0) && not (calls.rows.count == 0)

  pub apart_ranges : (rela linkage : Option LoadedTable) → IsMapped rela 24 addends → IsMapped linkage 24 calls → (both && (mapped_end addends == mapped_end calls)) ≡ false
      → in_ranges (both && (mapped_end addends == calls.address)) (entry_places addends.rows) (entry_places calls.rows) ≡ entry_ranges rela linkage
  unfolding entry_ranges
  apart_ranges None None a c apart = rw (empty_count addends a, places_none addends.rows a, places_none calls.rows c) refl
  apart_ranges None (Some k) a c apart = rw (empty_count addends a, places_none addends.rows a, places_some k calls.rows c.1) refl
  apart_ranges (Some e) None a c apart =
      let none : both ≡ false = right_false (not (addends.rows.count == 0)) (not (calls.rows.count == 0)) (empty_count calls c) in
      rw (none, places_some e addends.rows a.1, places_none calls.rows c) refl
  apart_ranges (Some e) (Some k) a c apart =
      let its_count : addends.rows.count ≡ e.count = ap (λ (t : TableRange). t.count) a.1 in
      let call_count : calls.rows.count ≡ k.count = ap (λ (t : TableRange). t.count) c.1 in
      let is_both : both ≡ true = rw (some_count addends e.count its_count a.2, some_count calls k.count call_count c.2) refl in
      let ends : (mapped_end addends == mapped_end calls) ≡ false = rw is_both at apart in
      let same_end : mapped_end addends ≡ entries_end e = omega (arith, a.0, its_count) in
      let calls_end : mapped_end calls ≡ entries_end k = omega (arith, c.0, call_count) in
      let other : (entries_end k == entries_end e) ≡ false = ne_eqb (entries_end k) (entries_end e) (λ same.
      absurd (let t : true ≡ false = sym (eq-eqb (mapped_end addends) (mapped_end calls) (same_end ∙ (sym same ∙ sym calls_end))) ∙ ends in cc)) in
      let next : (mapped_end addends == calls.address) ≡ (e.address + 24 * e.count == k.address) = rw (same_end, c.0) refl in
      let count : count_before e k ≡ e.count = rw (other, count_before) refl in
      rw (is_both, next, places_some e addends.rows a.1, places_some k calls.rows c.1) (sym (ranges_some e k e.count count))

  pub apart_checks : (file : List ℕ) (at : ℕ) → (rela linkage : Option LoadedTable) → rela_table file at ≡ rela → linkage_table file at ≡ linkage → IsMapped rela 24 addends → IsMapped linkage 24 calls
      → (both && (mapped_end addends == mapped_end calls)) ≡ false → first_refusal (linkage_checks file at) ≡ None
  unfolding linkage_checks
  apart_checks file at None linkage r l a c apart = rw (r, linkage_checks) refl
  apart_checks file at (Some e) None r l a c apart = rw (r, l, linkage_checks) refl
  apart_checks file at (Some e) (Some k) r l a c apart =
      let its_count : addends.rows.count ≡ e.count = ap (λ (t : TableRange). t.count) a.1 in
      let call_count : calls.rows.count ≡ k.count = ap (λ (t : TableRange). t.count) c.1 in
      let is_both : both ≡ true = rw (some_count addends e.count its_count a.2, some_count calls k.count call_count c.2) refl in
      let ends : (mapped_end addends == mapped_end calls) ≡ false = rw is_both at apart in
      let same_end : mapped_end addends ≡ entries_end e = omega (arith, a.0, its_count) in
      let calls_end : mapped_end calls ≡ entries_end k = omega (arith, c.0, call_count) in
      let other : (entries_end k == entries_end e) ≡ false = ne_eqb (entries_end k) (entries_end e) (λ same.
      absurd (let t : true ≡ false = sym (eq-eqb (mapped_end addends) (mapped_end calls) (same_end ∙ (sym same ∙ sym calls_end))) ∙ ends in cc)) in
      rw (r, l, linkage_checks) (by_row (tagged_row file at DT_JMPREL) other)
    where
      by_row : (row : Option ℕ) → (entries_end k == entries_end e) ≡ false
          → first_refusal (checks_of_row row (λ row. refuse ((entries_end k == entries_end e) && nat_lt e.count k.count) row Unsupported ∷ [])) ≡ None
      by_row None other = refl
      by_row (Some row) other = rw other refl

  pub apart_few : (rela linkage : Option LoadedTable) → IsMapped rela 24 addends → IsMapped linkage 24 calls → addends.rows.count + calls.rows.count ≤ row_count rela + row_count linkage
  apart_few None None a c = omega (arith, a, c)
  apart_few None (Some k) a c = omega (arith, a, ap (λ (t : TableRange). t.count) c.1)
  apart_few (Some e) None a c = omega (arith, ap (λ (t : TableRange). t.count) a.1, c)
  apart_few (Some e) (Some k) a c = omega (arith, ap (λ (t : TableRange). t.count) a.1, ap (λ (t : TableRange). t.count) c.1)

abbrev wide_rows : (place count : ℕ) → TableRange
wide_rows place count = record { at = place; count = count; entry = 24 }

-- TWO TABLES that end alike
record Alike (file : List ℕ) (at : ℕ) (addends calls : MappedTable) : Type 0 where
  entries : LoadedTable
  linkage : LoadedTable
  rela_is : rela_table file at ≡ Some entries
  linkage_is : linkage_table file at ≡ Some linkage
  entry_rows : IsMapped (Some entries) 24 addends
  call_rows : IsMapped (Some linkage) 24 calls
  ends : entries_end linkage ≡ entries_end entries

module _ (file : List ℕ) (at : ℕ) (addends calls : MappedTable) (a : IsMapped (rela_table file at) 24 addends) (c : IsMapped (linkage_table file at) 24 calls)
    (alike : (not (addends.rows.count == 0) && not (calls.rows.count == 0) && (mapped_end addends == mapped_end calls)) ≡ true) where
  alike_parts : (not (addends.rows.count == 0) ≡ true) × (not (calls.rows.count == 0) ≡ true) × (mapped_end addends ≡ mapped_end calls)
  alike_parts =
      let parts = and_parts (not (addends.rows.count == 0) && not (calls.rows.count == 0)) (mapped_end addends == mapped_end calls) alike in
      let both = and_parts (not (addends.rows.count == 0)) (not (calls.rows.count == 0)) parts.0 in
      (both.0, both.1, eqb-true (mapped_end addends) (mapped_end calls) parts.1)

  their_tables : Alike file at addends calls
  their_tables = go (rela_table file at) (linkage_table file at) refl refl a c
    where
      go : (rela linkage : Option LoadedTable) → rela_table file at ≡ rela → linkage_table file at ≡ linkage → IsMapped rela 24 addends → IsMapped linkage 24 calls → Alike file at addends calls
      go None linkage r l a c = absurd (let e : false ≡ true = sym (empty_count addends a) ∙ alike_parts.0 in cc)
      go (Some e) None r l a c = absurd (let e : false ≡ true = sym (empty_count calls c) ∙ alike_parts.1 in cc)
      go (Some e) (Some k) r l a c =
          let its_count : addends.rows.count ≡ e.count = ap (λ (t : TableRange). t.count) a.1 in
          let call_count : calls.rows.count ≡ k.count = ap (λ (t : TableRange). t.count) c.1 in
          record { entries = e; linkage = k; rela_is = r; linkage_is = l; entry_rows = a; call_rows = c; ends = omega (arith, alike_parts.2, its_count, call_count, a.0, c.0) }

  its_rows : addends.rows.count ≡ their_tables.entries.count
  its_rows = ap (λ (t : TableRange). t.count) their_tables.entry_rows.1

  call_count : calls.rows.count ≡ their_tables.linkage.count
  call_count = ap (λ (t : TableRange). t.count) their_tables.call_rows.1

  pub has_calls : (loaded : LoadedTable) × (linkage_table file at ≡ Some loaded)
  has_calls = (their_tables.linkage, their_tables.linkage_is)

  pub cut_refused : (row : ℕ) → tagged_row file at DT_JMPREL ≡ Some row → addends.rows.count < calls.rows.count
      → first_refusal (linkage_checks file at) ≡ Some (record { at = row; cause = Unsupported })
  unfolding linkage_checks
  cut_refused row is more =
      let t = their_tables in
      let above : t.entries.count < t.linkage.count = omega (arith, more, its_rows, call_count) in
      rw (t.rela_is, t.linkage_is, is, eq-eqb (entries_end t.linkage) (entries_end t.entries) t.ends, lt-ltb t.entries.count t.linkage.count above, linkage_checks) refl

  module _ (fits : calls.rows.count ≤ addends.rows.count) where
    pub cut_passes : first_refusal (linkage_checks file at) ≡ None
    unfolding linkage_checks
    cut_passes =
        let t = their_tables in
        let low : t.linkage.count ≤ t.entries.count = omega (arith, fits, its_rows, call_count) in
        rw (t.rela_is, t.linkage_is, linkage_checks) (by_row (tagged_row file at DT_JMPREL) (le-ltb t.entries.count t.linkage.count low))
      where
        by_row : (row : Option ℕ) → nat_lt their_tables.entries.count their_tables.linkage.count ≡ false
            → first_refusal (checks_of_row row (λ row. refuse ((entries_end their_tables.linkage == entries_end their_tables.entries) && nat_lt their_tables.entries.count their_tables.linkage.count) row Unsupported ∷ [])) ≡ None
        by_row None none = refl
        by_row (Some row) none = rw (none, right_false (entries_end their_tables.linkage == entries_end their_tables.entries) false refl) refl

    pub cut_places : (first : TableRange) → first ≡ record { at = addends.rows.at; count = addends.rows.count - calls.rows.count; entry = 24 }
        → in_ranges true (entry_places first) (entry_places calls.rows) ≡ entry_ranges (rela_table file at) (linkage_table file at)
    unfolding first_entries places_from
    cut_places first is =
        let t = their_tables in
        let low : t.linkage.count ≤ t.entries.count = omega (arith, fits, its_rows, call_count) in
        let place : addends.rows.at ≡ t.entries.place = ap (λ (r : TableRange). r.at) t.entry_rows.1 in
        let front : first ≡ wide_rows t.entries.place (t.entries.count - t.linkage.count) =
        is ∙ (ap (λ (p : ℕ). wide_rows p (addends.rows.count - calls.rows.count)) place
        ∙ (ap (λ (n : ℕ). wide_rows t.entries.place (n - calls.rows.count)) its_rows ∙ ap (λ (n : ℕ). wide_rows t.entries.place (t.entries.count - n)) call_count)) in
        let entries : entry_places first ≡ first_entries t.entries (t.entries.count - t.linkage.count) = ap entry_places front in
        let next : (t.entries.address + 24 * (t.entries.count - t.linkage.count) == t.linkage.address) ≡ true =
        eq-eqb (t.entries.address + 24 * (t.entries.count - t.linkage.count)) t.linkage.address (omega (arith, t.ends, low)) in
        let count : count_before t.entries t.linkage ≡ t.entries.count - t.linkage.count = rw (eq-eqb (entries_end t.linkage) (entries_end t.entries) t.ends, count_before) refl in
        let n = t.entries.count - t.linkage.count in
        let joined = ranges_some t.entries t.linkage n count ∙ ap (λ (b : Bool). in_ranges b (first_entries t.entries n) (first_entries t.linkage t.linkage.count)) next in
        rw (t.rela_is, t.linkage_is, entries, places_some t.linkage calls.rows t.call_rows.1) (sym joined)

    pub cut_few : (addends.rows.count - calls.rows.count) + calls.rows.count ≤ row_count (rela_table file at) + row_count (linkage_table file at)
    cut_few =
        let t = their_tables in
        let one : row_count (rela_table file at) ≡ t.entries.count = ap row_count t.rela_is in
        let other : row_count (linkage_table file at) ≡ t.linkage.count = ap row_count t.linkage_is in
        omega (arith, fits, its_rows, call_count, one, other)
