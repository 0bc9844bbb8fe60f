-- What dynamic entries locate, table by table.
use Rattle.std.proofs.Common.{◌≡◌, ◌≢◌, ℕ, ◌+◌, ◌*◌, ◌/◌, ◌<◌, ◌≤◌, ◌==◌, ◌&&◌, ◌||◌, if◌then◌else◌, Bool, true, false, List, [], ◌∷◌, ◌++◌, Option, None, Some, Result, Ok, Err, refl, sym, ap, subst, ◌∙◌, arith}
use Rattle.std.proofs.Math.Nat.{mul-add, mul-le-mul, mul-le-mul_left}
use Rattle.std.proofs.lemmas.Bool.{le-ltb, lt-ltb, ne_eqb}
use Rattle.elf_model.specs.Prelude.{Check, DisplayedName, Fault as FaultItem, LinePrefix, ListingItem, ListingStyle, LocatedSymbols, LocatedTable as IsLocated, RELOCS, SYMBOLS, chosen_row, dynamic_segment_index, dynamic_tables, e_machine, each, entries_rows, first_refusal, first_segment_tables, follows_dynamic, form_rows, form_size, guarded, has, has_located, located_items, located_row, located_rows, located_symbols, located_table, locates_tables, name_bytes, named_among, no_name, overlap_checks, p_filesz, p_offset, r_sym, relocation_choice, relocation_prefix, relocation_size, relocation_table_rows, relr_rows_at, segment_at, segment_dynamic_checks, segment_relocations, segment_symbol_rows, segment_tables, shown, st_name, table_most, where_asked}
use Rattle.elf_model.specs.declared.causes.Cause.TheVariants.{BadLink, SymbolIndex}
use Rattle.elf_model.specs.declared.causes.Cause.{Cause}
use Rattle.elf_model.specs.declared.causes.Refusal.{Refusal}
use Rattle.elf_model.specs.declared.relocation_tables.RelocationForm.TheVariants.{Relative, WithAddends, WithoutAddends}
use Rattle.elf_model.specs.declared.relocation_tables.RelocationForm.{RelocationForm}
use Rattle.elf_model.specs.declared.relocation_tables.RelocationTable.{RelocationTable}
use Rattle.elf_model.specs.declared.relocation_tables.RelocationTable.TheVariants.{Jmprel, Rel, Rela, Relr}
use Rattle.elf_model.proofs.ListingLemmas.{guarded-fault, guarded-passes}
use Rattle.elf_source.specs.Output.{OutState}
use Rattle.elf_table.specs.Prelude.{HoldsProgramHeaders, HoldsSectionHeaders, IsSymbolAmong, LoadedFile, NameRead, RefusedBy, Refuses, StoreState, StringTableRange, TableRange, dynamic_table_at, symbols_linked, row_at, rows, stop_of, strings_in}
use Rattle.elf_table.specs.declared.fault.Fault.{Fault}
use Rattle.elf_table.specs.declared.fault.Fault.TheVariants.{Refused, Source}
use Rattle.elf_table.specs.declared.names.NameEnd.{NameEnd}
use Rattle.elf_hash.specs.Prelude.{FindsSymbols, located_by}
use Rattle.elf_hash.proofs.SettleLaws.{checked_passes}
use Rattle.elf_listing.specs.Viewed.{IsViewed, viewed_headers}
use Rattle.elf_hash.specs.declared.relocation_tables.TableLocation.{TableLocation}
use Rattle.elf_source.specs.declared.source.Source.{Ghosts as Sources}
use Rattle.elf_source.specs.declared.sink.Sink.{Ghosts as Sinks}
use Rattle.elf_table.specs.declared.file.SectionView.{SectionView}
use Rattle.elf_table.specs.declared.run_fault.RunFault.{RunFault}
use Rattle.elf_listing.specs.Shows.{ListingCalls, ListingWrote, WroteUntilStop}
use Rattle.elf_listing.specs.Located.{ViewsEntries}
use Rattle.elf_listing.specs.declared.dynamic_tables.SegmentEntries.{SegmentEntries}
use Rattle.elf_listing.specs.declared.listing.Listing.{Listing}
use Rattle.elf_listing.proofs.ListsLaws.{ListingCalls-within}
use Rattle.elf_listing.proofs.RowLaws.{Ends-first, WroteSome-as, WroteUntilStop-first, entry_place}
use Rattle.elf_listing.proofs.SymbolNamed.{refuses_as}

-- the symbol that an entry names, among some symbols
module _ (file : List ℕ) (cap entry symbol : ℕ) where
  pub among_zero : (symbols : Option LocatedSymbols) → symbol ≡ 0 → named_among file cap symbols entry symbol ≡ (entry, no_name)
  unfolding named_among
  among_zero symbols zero = rw zero refl

  among_none : symbol ≢ 0 → named_among file cap None entry symbol ≡ (entry, Err BadLink)
  unfolding named_among
  among_none some = rw (ne_eqb symbol 0 some, named_among) refl

  among_past : (known : LocatedSymbols) → symbol ≢ 0 → known.count ≤ symbol → named_among file cap (Some known) entry symbol ≡ (entry, Err SymbolIndex)
  unfolding named_among
  among_past known some past = rw (ne_eqb symbol 0 some, le-ltb symbol known.count past, named_among) refl

  among_found : (known : LocatedSymbols) → symbol ≢ 0 → symbol < known.count
      → named_among file cap (Some known) entry symbol ≡ (known.place + 24 * symbol, shown known.strings (st_name file (known.place + 24 * symbol)) cap)
  unfolding named_among
  among_found known some few = rw (ne_eqb symbol 0 some, lt-ltb symbol known.count few, named_among) refl

  -- a fault of the symbol
  pub refuses_among : (linked : Option (TableRange × StringTableRange)) (fault : Fault) → IsSymbolAmong linked entry symbol (Err fault)
      → Refuses (named_among file cap (symbols_linked file linked) entry symbol).0 fault (named_among file cap (symbols_linked file linked) entry symbol).1
  refuses_among None fault is =
      subst (λ (f : Fault). Refuses (named_among file cap None entry symbol).0 f (named_among file cap None entry symbol).1) (sym is.1) (refuses_as _ _ _ (among_none is.0))
  refuses_among (Some symbols) fault is =
      let known : LocatedSymbols = record { place = symbols.0.at; count = symbols.0.count; strings = strings_in file symbols.1 } in
      subst (λ (f : Fault). Refuses (named_among file cap (Some known) entry symbol).0 f (named_among file cap (Some known) entry symbol).1) (sym is.2) (refuses_as _ _ _ (among_past known is.0 is.1))

  -- the name of a symbol that was found, as it is read
  pub read_among : (linked : Option (TableRange × StringTableRange)) (table : TableRange) (names : StringTableRange) (place off index : ℕ) (result : Result NameEnd Fault) (name : List ℕ)
      → symbol ≢ 0 → linked ≡ Some (table, names) → index ≡ symbol → table.entry ≡ 24 → symbol < table.count → place ≡ row_at table index → off ≡ st_name file place
      → NameRead place result name (shown (strings_in file names) off cap)
      → NameRead (named_among file cap (symbols_linked file linked) entry symbol).0 result name (named_among file cap (symbols_linked file linked) entry symbol).1
  read_among linked table names place off index result name some is same size few here named read =
      let known : LocatedSymbols = record { place = table.at; count = table.count; strings = strings_in file names } in
      let at : place ≡ table.at + 24 * symbol = here ∙ (ap (λ (i : ℕ). table.at + i * table.entry) same ∙ (ap (λ (n : ℕ). table.at + symbol * n) size ∙ omega arith)) in
      let P : ℕ × Result DisplayedName Cause → Type 0 = λ s. NameRead s.0 result name s.1 in
      let found : named_among file cap (symbols_linked file linked) entry symbol ≡ (place, shown (strings_in file names) off cap) =
      ap (λ (l : Option (TableRange × StringTableRange)). named_among file cap (symbols_linked file l) entry symbol) is
      ∙ (among_found known some few ∙ sym (ap (λ (n : ℕ). (place, shown (strings_in file names) n cap)) named
      ∙ ap (λ (p : ℕ). (p, shown (strings_in file names) (st_name file p) cap)) at)) in
      subst P (sym found) read

-- the row of an entry at its place
pub located_is : (addends : Bool) (file : List ℕ) (front : LinePrefix) (style : ListingStyle) (segment : ℕ) (symbols : Option LocatedSymbols) (table_at entry symbol index : ℕ)
    → entry ≡ table_at + index * relocation_size addends
    → front ≡ relocation_prefix addends style.format style.gnu (e_machine file) file entry segment → symbol ≡ r_sym file entry
    → located_row addends file style segment symbols table_at index
    ≡ chosen_row (relocation_choice addends file style entry) front (named_among file style.cap symbols entry symbol).0 (named_among file style.cap symbols entry symbol).1
unfolding located_row
located_is addends file front style segment symbols table_at entry symbol index here same names =
    let place : entry ≡ table_at + relocation_size addends * index = here ∙ entry_place addends table_at index in
    let row : LinePrefix → ℕ → ℕ → List ListingItem = λ text e k. chosen_row (relocation_choice addends file style e) text (named_among file style.cap symbols e k).0 (named_among file style.cap symbols e k).1 in
    sym (ap (λ text. row text entry symbol) same ∙ (ap (λ k. row (relocation_prefix addends style.format style.gnu (e_machine file) file entry segment) entry k) names
    ∙ ap (λ e. row (relocation_prefix addends style.format style.gnu (e_machine file) file e segment) e (r_sym file e)) place))

-- items after checks, of which one fails
pub guarded_fails : (checks : List Check) (items : List ListingItem) (a : OutState) (fault : Fault) → RefusedBy checks fault → WroteUntilStop a a (stop_of fault) (guarded checks items)
guarded_fails checks items a fault by =
    WroteUntilStop-first a fault _ (λ refusal is other. guarded-fault checks items refusal (subst (RefusedBy checks) is by))

-- the segment of the entries
pub no_segment : (file : List ℕ) (style : ListingStyle) (parts : ℕ) (first : Option ℕ) → first_refusal (overlap_checks file) ≡ None → first ≡ None
    → guarded (overlap_checks file) (first_segment_tables file style parts first) ≡ []
unfolding first_segment_tables
no_segment file style parts first passed none = guarded-passes (overlap_checks file) _ passed ∙ ap (first_segment_tables file style parts) none

pub in_segment : (file : List ℕ) (style : ListingStyle) (parts : ℕ) (first : Option ℕ) (segment : ℕ) → first_refusal (overlap_checks file) ≡ None → first ≡ Some segment
    → guarded (overlap_checks file) (first_segment_tables file style parts first)
    ≡ guarded (segment_dynamic_checks file (segment_at file segment)) (segment_tables file style parts segment (segment_at file segment))
unfolding first_segment_tables
in_segment file style parts first segment passed some = guarded-passes (overlap_checks file) _ passed ∙ ap (first_segment_tables file style parts) some

-- a table that is refused, that is none, and that is found
module _ (file : List ℕ) (style : ListingStyle) (segment at : ℕ) (table : RelocationTable) where
  pub table_refused : (a : OutState) (fault : Fault) → Err fault ≡ located_by (located_table file at table) → WroteUntilStop a a (stop_of fault) (relocation_table_rows file style segment at table)
  unfolding relocation_table_rows located_rows
  table_refused a fault is = by (located_table file at table) is
    where
      by : (found : Result (Option IsLocated) Refusal) → Err fault ≡ located_by found → WroteUntilStop a a (stop_of fault) (located_rows file style segment found (located_symbols file at))
      by (Err refusal) e = WroteUntilStop-first a fault _ (λ other same not. ap (λ (r : Refusal). FaultItem r ∷ []) (let both : Refused refusal ≡ Refused other = cc in cc))
      by (Ok None) e = absurd cc
      by (Ok (Some found)) e = absurd cc

  pub table_none : Ok None ≡ located_by (located_table file at table) → relocation_table_rows file style segment at table ≡ []
  unfolding relocation_table_rows located_rows
  table_none is = by (located_table file at table) is
    where
      by : (found : Result (Option IsLocated) Refusal) → Ok None ≡ located_by found → located_rows file style segment found (located_symbols file at) ≡ []
      by (Err refusal) e = absurd cc
      by (Ok None) e = refl
      by (Ok (Some found)) e = absurd cc

  pub table_found : (located : TableLocation) → Ok (Some located) ≡ located_by (located_table file at table)
      → relocation_table_rows file style segment at table
      ≡ form_rows located.form file style segment (record { form = located.form; place = located.table.at; count = located.table.count }) (located_symbols file at)
  unfolding relocation_table_rows located_rows
  table_found located is = by (located_table file at table) is
    where
      by : (found : Result (Option IsLocated) Refusal) → Ok (Some located) ≡ located_by found
          → located_rows file style segment found (located_symbols file at)
          ≡ form_rows located.form file style segment (record { form = located.form; place = located.table.at; count = located.table.count }) (located_symbols file at)
      by (Err refusal) e = absurd cc
      by (Ok None) e = absurd cc
      by (Ok (Some found)) e =
          let told : TableLocation = record { form = found.form; table = record { at = found.place; count = found.count; entry = form_size found.form } } in
          let same : located ≡ told = cc in
          let rows : TableLocation → List ListingItem = λ l. form_rows l.form file style segment (record { form = l.form; place = l.table.at; count = l.table.count }) (located_symbols file at) in
          sym (ap rows same)

-- the rows by the form of a table
module _ (file : List ℕ) (style : ListingStyle) (segment : ℕ) (table : IsLocated) (symbols : Result (Option LocatedSymbols) Refusal) where
  pub relative_rows : (form : RelocationForm) → form ≡ Relative → form_rows form file style segment table symbols ≡ each (relr_rows_at file style segment table.place) 0 table.count
  unfolding form_rows
  relative_rows form is = rw is refl

  pub plain_rows : (form : RelocationForm) → form ≡ WithoutAddends → form_rows form file style segment table symbols ≡ entries_rows false file style segment table symbols
  unfolding form_rows
  plain_rows form is = rw is refl

  pub addend_rows : (form : RelocationForm) → form ≡ WithAddends → form_rows form file style segment table symbols ≡ entries_rows true file style segment table symbols
  unfolding form_rows
  addend_rows form is = rw is refl

-- entries whose symbols are refused, or found
pub symbols_refused : (addends : Bool) (file : List ℕ) (style : ListingStyle) (segment : ℕ) (table : IsLocated) (symbols : Result (Option LocatedSymbols) Refusal) (a : OutState) (fault : Fault)
    → FindsSymbols file symbols (Err fault) → WroteUntilStop a a (stop_of fault) (entries_rows addends file style segment table symbols)
unfolding entries_rows
symbols_refused addends file style segment table symbols a (Refused refusal) is = Ends-first a refusal _ (λ other. ap (entries_rows addends file style segment table) is)
symbols_refused addends file style segment table symbols a (Source fault offset) is = absurd is

pub symbols_known : (addends : Bool) (file : List ℕ) (style : ListingStyle) (segment : ℕ) (table : IsLocated) (symbols : Result (Option LocatedSymbols) Refusal) (linked : Option (TableRange × StringTableRange))
    → FindsSymbols file symbols (Ok linked)
    → entries_rows addends file style segment table symbols ≡ each (located_row addends file style segment (symbols_linked file linked) table.place) 0 table.count
unfolding entries_rows
symbols_known addends file style segment table symbols linked is = ap (entries_rows addends file style segment table) is

-- a table that lies within a file of a size reads no more than is allowed for
pub entries_most : (size cap count entry further : ℕ) → 16 ≤ entry → further ≤ 32 + name_bytes cap → count * entry ≤ size → count * (entry + further) ≤ 1 * table_most size cap
entries_most size cap count entry further least few within =
    let n : count ≤ size / 16 = rows_few count entry size least within in
    let m : count * further ≤ size / 16 * (32 + name_bytes cap) = mul-le-mul n few in
    let s : count * (entry + further) ≡ count * entry + count * further = mul-add count entry further in
    omega (arith, m, s, within)
  where
    rows_few : (count entry size : ℕ) → 16 ≤ entry → count * entry ≤ size → count ≤ size / 16
    rows_few count entry size least within =
        let m : count * 16 ≤ count * entry = mul-le-mul_left count least in
        omega (arith, m, within)

pub row_least : (addends : Bool) → 16 ≤ relocation_size addends
row_least true = omega arith
row_least false = omega arith

-- what the calls keep of the entries
pub views_kept : {S W X : Type 0} {s : Sources S} {w : Sinks W} {a b : Listing S W s w} {result : Result X RunFault} {n : ℕ} {shows : Type 0} (entries : SegmentEntries)
    → ListingCalls a b result n shows → ViewsEntries a.file.loaded.size a.src.now.seen.file entries → ViewsEntries b.file.loaded.size b.src.now.seen.file entries
views_kept entries p views = record {
  sized = views.sized ∙ sym (ap (λ (f : SectionView). f.loaded.size) p.keeps.same_file);
  fits = views.fits;
  header = views.header;
  viewed = λ file held. views.viewed file (sym p.spent.0.reads.keeps.same_file ∙ held);
  tagged = λ file held. views.tagged file (sym p.spent.0.reads.keeps.same_file ∙ held);
}

pub four_are : (file : List ℕ) (style : ListingStyle) (segment at : ℕ)
    → segment_relocations file style segment at
    ≡ relocation_table_rows file style segment at Relr ++ relocation_table_rows file style segment at Rel
    ++ relocation_table_rows file style segment at Rela ++ relocation_table_rows file style segment at Jmprel
unfolding segment_relocations
four_are file style segment at = refl

pub tables_are : (file : List ℕ) (style : ListingStyle) (parts segment at : ℕ)
    → segment_tables file style parts segment at
    ≡ where_asked parts SYMBOLS (segment_symbol_rows file style segment at) ++ where_asked parts RELOCS (segment_relocations file style segment at)
unfolding segment_tables
tables_are file style parts segment at = refl

pub dynamic_are : (file : List ℕ) (style : ListingStyle) (parts : ℕ)
    → dynamic_tables file style parts ≡ guarded (overlap_checks file) (first_segment_tables file style parts (dynamic_segment_index file))
unfolding dynamic_tables
dynamic_are file style parts = refl

pub overlap_fails : (file : List ℕ) (style : ListingStyle) (parts : ℕ) (a : OutState) (fault : Fault) → RefusedBy (overlap_checks file) fault
    → WroteUntilStop a a (stop_of fault) (dynamic_tables file style parts)
unfolding dynamic_tables
overlap_fails file style parts a fault by = guarded_fails (overlap_checks file) _ a fault by

-- what dynamic entries locate, if it is asked for
pub items_asked : (file : List ℕ) (style : ListingStyle) (parts : ℕ) → locates_tables file style parts ≡ true → located_items file style parts ≡ dynamic_tables file style parts
unfolding located_items
items_asked file style parts is = rw is refl

pub items_none : (file : List ℕ) (style : ListingStyle) (parts : ℕ) → locates_tables file style parts ≡ false → located_items file style parts ≡ []
unfolding located_items
items_none file style parts is = rw is refl

-- items of a part that the parts have, or not
pub part_asked : (parts part : ℕ) (items : List ListingItem) → has parts part ≡ true → where_asked parts part items ≡ items
part_asked parts part items is = rw (is, where_asked) refl

pub part_none : (parts part : ℕ) (items : List ListingItem) → has parts part ≡ false → where_asked parts part items ≡ []
part_none parts part items is = rw (is, where_asked) refl

-- the dynamic entries of a segment
pub segment_found : (file : List ℕ) (at : ℕ) (table : TableRange) → dynamic_table_at file at ≡ Ok table
    → (first_refusal (segment_dynamic_checks file at) ≡ None) × (rows (p_offset file at) (p_filesz file at / 16) 16 ≡ table)
segment_found file at table is = checked_passes (segment_dynamic_checks file at) (rows (p_offset file at) (p_filesz file at / 16) 16) table (sym is)

-- the program headers in the store are those of the file, also if there are none
pub viewed_whole : (file : List ℕ) (loaded : LoadedFile) (store : StoreState) (known : Option (List ℕ)) → HoldsSectionHeaders file loaded store → IsViewed known loaded store → known ≡ Some file
    → store.segments ≡ loaded.header.e_phnum → HoldsProgramHeaders file loaded store
viewed_whole file loaded store known belongs viewed held whole = record { belongs = belongs; count = whole; rows = viewed.held file held }

-- the same items, within a larger bound
pub lists_as : {S W X : Type 0} {s : Sources S} {w : Sinks W} {a b : Listing S W s w} {result : Result X RunFault} {n k : ℕ} {xs ys : List ℕ → List ListingItem} → n ≤ k
    → ((file : List ℕ) → ys file ≡ xs file) → ListingCalls a b result n (ListingWrote a b result xs) → ListingCalls a b result k (ListingWrote a b result ys)
lists_as within same p = ListingCalls-within _ _ _ _ _ _ _ within p (λ file held. WroteSome-as _ _ _ (same file) (p.shows file held))

-- tables are located by the file, or by what was loaded of it
pub asked_by : (file : List ℕ) (style : ListingStyle) (parts : ℕ) (loaded : LoadedFile) (store : StoreState) → HoldsSectionHeaders file loaded store
    → locates_tables file style parts ≡ (loaded.header.e_shnum == 0 && (follows_dynamic style && has_located parts))
asked_by file style parts loaded store belongs = ap (λ (n : ℕ). n == 0 && (follows_dynamic style && has_located parts)) (sym belongs.header.e_shnum)

-- then all program headers are in the store
pub located_whole : (style : ListingStyle) (parts : ℕ) (loaded : LoadedFile) → (loaded.header.e_shnum == 0 && (follows_dynamic style && has_located parts)) ≡ true
    → viewed_headers style parts loaded ≡ loaded.header.e_phnum
located_whole style parts loaded asked = ap (λ (needed : Bool). if needed then loaded.header.e_phnum else 0) (needs (loaded.header.e_shnum == 0) (follows_dynamic style && has_located parts) (has parts 4) (has parts 32) (has parts 64) asked)
  where
    needs : (none located shown notes dynamic : Bool) → (none && located) ≡ true → (none && (shown || (notes || (dynamic || located)))) ≡ true
    needs true true true notes dynamic e = refl
    needs true true false true dynamic e = refl
    needs true true false false true e = refl
    needs true true false false false e = refl
    needs true false shown notes dynamic e = absurd cc
    needs false located shown notes dynamic e = absurd cc
