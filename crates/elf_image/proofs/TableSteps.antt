-- The tables that dynamic entries locate, and their checks.
use Rattle.std.proofs.Common.{◌≡◌, ℕ, zero, suc, ◌+◌, ◌*◌, ◌/◌, ◌%◌, ◌<◌, ◌==◌, ◌||◌, not, Bool, true, false, List, ◌++◌, Option, None, Some, Result, Ok, Err, refl, sym, ap, subst, ◌∙◌, arith}
use Rattle.std.specs.Prelude.{is_some, option_map, unwrap_or}
use Rattle.std.proofs.lemmas.Bool.{ne_eqb}
use Rattle.elf_model.specs.Checks.{Check, first_refusal}
use Rattle.elf_model.specs.ImageChecks.{LoadedTable, addend_checks, image_symbol_checks, image_tags, linkage_table, loaded_table, rela_table, row_value}
use Rattle.elf_model.specs.DynamicRelocations.{LocatedTable as IsLocated, form_by, form_if, form_size, located_table}
use Rattle.elf_model.specs.LoaderScope.{checks_of_row, rest_checks, rest_place, rest_size, segment_symbols, tagged_row}
use Rattle.elf_model.specs.Numbers.{DT_JMPREL, DT_PLTREL, DT_REL, DT_RELSZ, DT_SYMTAB}
use Rattle.elf_model.specs.Prelude.{d_un}
use Rattle.elf_model.specs.declared.causes.Cause.TheVariants.{Unsupported}
use Rattle.elf_model.specs.declared.causes.Refusal.{Refusal}
use Rattle.elf_model.specs.declared.relocation_tables.RelocationForm.{RelocationForm}
use Rattle.elf_model.specs.declared.relocation_tables.RelocationForm.TheVariants.{WithAddends}
use Rattle.elf_model.specs.declared.relocation_tables.RelocationTable.{RelocationTable}
use Rattle.elf_model.specs.declared.relocation_tables.RelocationTable.TheVariants as table
use Rattle.elf_table.specs.Prelude.{RefusedBy, TableRange}
use Rattle.elf_table.specs.declared.fault.Fault.{Fault}
use Rattle.elf_table.specs.declared.fault.Fault.TheVariants.{Refused}
use Rattle.elf_hash.specs.Prelude.{AreTableEntries, dynamic_entry_at, located_by}
use Rattle.elf_hash.specs.declared.dyn_entry.DynEntry.{DynEntry}
use Rattle.elf_hash.specs.declared.relocation_tables.TableEntries.{TableEntries}
use Rattle.elf_hash.specs.declared.relocation_tables.TableLocation.{TableLocation}
use Rattle.std.proofs.Math.Nat.{div-add-mod}
use Rattle.elf_hash.proofs.RelocationTableLaws.{no_address}
use Rattle.elf_hash.proofs.SegmentLaws.{IsRest, row_none, row_some}
use Rattle.elf_hash.proofs.SettleLaws.{passed_both, refused_back, refused_front}
use Rattle.elf_model.proofs.CheckSteps.{first_refusal-back}
use Rattle.elf_image.specs.Located.{AreImageRows, ChecksThen, HasOneForm, HasTables, IsMapped, MapsLocated, kind_row_checks, plain_checks, row_in}
use Rattle.elf_image.specs.Relocated.{AreEntrySymbols}
use Rattle.elf_image.specs.declared.dynamic_rows.ImageRows.{ImageRows}
use Rattle.elf_image.specs.declared.tables.MappedTable.{MappedTable}

-- THE ENTRIES of each table, and the others
module _ (file : List ℕ) (at : ℕ) (rows : ImageRows) (are : AreImageRows file at rows) where
  pub compact_entries : AreTableEntries file at table.Relr rows.compact
  unfolding row_in image_tags
  compact_entries = record { address = are.held 36 refl; size = are.held 35 refl; row = are.held 37 refl }

  pub plain_entries : AreTableEntries file at table.Rel rows.plain
  unfolding row_in image_tags
  plain_entries = record { address = are.held 17 refl; size = are.held 18 refl; row = are.held 19 refl }

  pub addend_entries : AreTableEntries file at table.Rela rows.addends
  unfolding row_in image_tags
  addend_entries = record { address = are.held 7 refl; size = are.held 8 refl; row = are.held 9 refl }

  pub call_entries : AreTableEntries file at table.Jmprel rows.calls
  unfolding row_in image_tags
  call_entries = record { address = are.held 23 refl; size = are.held 2 refl; row = are.held 20 refl }

  pub symbol_entry : rows.symbols ≡ option_map (dynamic_entry_at file) (tagged_row file at DT_SYMTAB)
  unfolding row_in image_tags
  symbol_entry = are.held 6 refl

  pub relative_entry : rows.relative ≡ option_map (dynamic_entry_at file) (tagged_row file at 0x6ffffff9)
  unfolding row_in image_tags
  relative_entry = are.held 0x6ffffff9 refl

  pub text_entry : rows.text ≡ option_map (dynamic_entry_at file) (tagged_row file at 22)
  unfolding row_in image_tags
  text_entry = are.held 22 refl

  pub flags_entry : rows.flags ≡ option_map (dynamic_entry_at file) (tagged_row file at 30)
  unfolding row_in image_tags
  flags_entry = are.held 30 refl

-- ENTRIES WITHOUT ADDENDS
module _ (file : List ℕ) (at : ℕ) where
  size_says : (size : Option DynEntry) (row : Option ℕ) → size ≡ option_map (dynamic_entry_at file) row
      → (elim row [ None ↦ true | Some size_row ↦ not (d_un file size_row == 0) ]) ≡ not (unwrap_or (option_map (λ (e : DynEntry). e.value) size) 1 == 0)
  size_says size None is = rw is refl
  size_says size (Some row) is = rw is refl

  module _ (entries : TableEntries) (are : AreTableEntries file at table.Rel entries) where
    pub no_plain : entries.address ≡ None → first_refusal (plain_checks file at) ≡ None
    no_plain none = rw (row_none file (tagged_row file at DT_REL) (sym none ∙ are.address)) refl

    pub plain_by_size : (address : DynEntry) (b : Bool) → entries.address ≡ Some address → (unwrap_or (option_map (λ (e : DynEntry). e.value) entries.size) 1 == 0) ≡ b
        → first_refusal (plain_checks file at) ≡ (elim b [ true ↦ None | false ↦ Some (record { at = address.at; cause = Unsupported }) ])
    plain_by_size address true some is =
        let row = row_some file (tagged_row file at DT_REL) address (sym some ∙ are.address) in
        rw (row.0, size_says entries.size (tagged_row file at DT_RELSZ) are.size, is) refl
    plain_by_size address false some is =
        let row = row_some file (tagged_row file at DT_REL) address (sym some ∙ are.address) in
        rw (row.0, size_says entries.size (tagged_row file at DT_RELSZ) are.size, is) refl

  module _ (entries : TableEntries) (are : AreTableEntries file at table.Jmprel entries) where
    pub no_calls : entries.address ≡ None → first_refusal (kind_row_checks file at) ≡ None
    no_calls none = rw (row_none file (tagged_row file at DT_JMPREL) (sym none ∙ are.address)) refl

    module _ (address : DynEntry) (some : entries.address ≡ Some address) where
      pub no_kind : entries.row ≡ None → first_refusal (kind_row_checks file at) ≡ None
      no_kind none =
          let row = row_some file (tagged_row file at DT_JMPREL) address (sym some ∙ are.address) in
          rw (row.0, row_none file (tagged_row file at DT_PLTREL) (sym none ∙ are.row)) refl

      pub kind_is : (kind : DynEntry) (b : Bool) → entries.row ≡ Some kind → (kind.value == 7) ≡ b
          → first_refusal (kind_row_checks file at) ≡ (elim b [ true ↦ None | false ↦ Some (record { at = kind.at; cause = Unsupported }) ])
      kind_is kind true has is =
          let row = row_some file (tagged_row file at DT_JMPREL) address (sym some ∙ are.address) in
          let here = row_some file (tagged_row file at DT_PLTREL) kind (sym has ∙ are.row) in
          rw (row.0, here.0, here.1, is) refl
      kind_is kind false has is =
          let row = row_some file (tagged_row file at DT_JMPREL) address (sym some ∙ are.address) in
          let here = row_some file (tagged_row file at DT_PLTREL) kind (sym has ∙ are.row) in
          rw (row.0, here.0, here.1, is) refl

-- A TABLE by its result
pub maps_none : (located : Result (Option IsLocated) Refusal) (address width : ℕ) (mapped : MappedTable) → located ≡ Ok None → mapped.rows.count ≡ 0
    → MapsLocated located address width (Ok mapped)
maps_none located address width mapped is none = rw is (refl, none)

pub maps_refused : (located : Result (Option IsLocated) Refusal) (address width : ℕ) (refusal : Refusal) → located ≡ Err refusal
    → MapsLocated located address width (Err (Refused refusal))
maps_refused located address width refusal is = rw is refl

pub maps_fault : (located : Result (Option IsLocated) Refusal) (address width : ℕ) (fault : Fault) → Err fault ≡ located_by located
    → MapsLocated located address width (Err fault)
maps_fault (Err refusal) address width fault is = let same : fault ≡ Refused refusal = cc in rw same refl
maps_fault (Ok None) address width fault is = cc
maps_fault (Ok (Some found)) address width fault is = cc

pub maps_found : (located : Result (Option IsLocated) Refusal) (address : ℕ) (form : RelocationForm) (mapped : MappedTable) → Ok (Some (record { form = form; table = mapped.rows })) ≡ located_by located
    → mapped.address ≡ address → 0 < mapped.rows.count → MapsLocated located address (form_size form) (Ok mapped)
maps_found (Err refusal) address form mapped is same some = cc
maps_found (Ok None) address form mapped is same some = cc
maps_found (Ok (Some found)) address form mapped is same some =
    let one : TableLocation = record { form = form; table = mapped.rows } in
    let other : TableLocation = record { form = found.form; table = record { at = found.place; count = found.count; entry = form_size found.form } } in
    let same_location : one ≡ other = cc in
    let its_form : form ≡ found.form = ap (λ (l : TableLocation). l.form) same_location in
    let rows : mapped.rows ≡ record { at = found.place; count = found.count; entry = form_size found.form } = ap (λ (l : TableLocation). l.table) same_location in
    let wide : mapped.rows ≡ record { at = found.place; count = found.count; entry = form_size form } = rows ∙ ap (λ (f : RelocationForm). record { at = found.place; count = found.count; entry = form_size f }) (sym its_form) in
    (refl, (same, wide, subst (λ (n : ℕ). 0 < n) (ap (λ (t : TableRange). t.count) rows) some))

-- a size of whole rows that is not 0 has a row
pub some_rows : (size entry : ℕ) → 0 < size → 0 < entry → size % entry ≡ 0 → 0 < size / entry
some_rows size entry some wide whole = go (size / entry) refl
  where
    go : (count : ℕ) → size / entry ≡ count → 0 < size / entry
    go zero is = absurd (let law : entry * 0 + 0 ≡ size = rw (is, whole) at (div-add-mod size entry) in omega (arith, some, law))
    go (suc count) is = omega (arith, is)

-- the address of a table is the value of its entry
pub address_value : (file : List ℕ) (at tag : ℕ) (address : DynEntry) → Some address ≡ option_map (dynamic_entry_at file) (tagged_row file at tag) → row_value file at tag ≡ address.value
address_value file at tag address is = let row = row_some file (tagged_row file at tag) address is in rw (row.0, row_value) row.1

pub no_value : (file : List ℕ) (at tag : ℕ) → None ≡ option_map (dynamic_entry_at file) (tagged_row file at tag) → row_value file at tag ≡ 0
no_value file at tag is = rw (row_none file (tagged_row file at tag) is, row_value) refl

unlocated : (file : List ℕ) (at : ℕ) (table : RelocationTable) → located_table file at table ≡ Ok None → loaded_table file at table ≡ None
unfolding loaded_table
unlocated file at table none = rw (none, loaded_table) refl

-- a table that is there has an entry with its address
pub located_address : (file : List ℕ) (at : ℕ) (table : RelocationTable) (entries : TableEntries) (loaded : LoadedTable) → AreTableEntries file at table entries
    → loaded_table file at table ≡ Some loaded → (address : DynEntry) × (entries.address ≡ Some address)
located_address file at table entries loaded are is = go entries.address refl
  where
    no_table : located_table file at table ≡ Ok None → loaded_table file at table ≡ None
    no_table none = unlocated file at table none

    go : (address : Option DynEntry) → entries.address ≡ address → (address : DynEntry) × (entries.address ≡ Some address)
    go (Some address) some = (address, some)
    go None none = absurd (let e : None ≡ Some loaded = sym (no_table (no_address file at table entries are none)) ∙ is in cc)

-- SYMBOLS
module _ (file : List ℕ) (at : ℕ) where
  pub no_symbols : None ≡ option_map (dynamic_entry_at file) (tagged_row file at DT_SYMTAB)
      → (first_refusal (checks_of_row (tagged_row file at DT_SYMTAB) (rest_checks file)) ≡ None) × AreEntrySymbols file at None
  no_symbols is = let none = row_none file (tagged_row file at DT_SYMTAB) is in (rw none refl, none)

  module _ (row : DynEntry) (is : Some row ≡ option_map (dynamic_entry_at file) (tagged_row file at DT_SYMTAB)) where
    here : tagged_row file at DT_SYMTAB ≡ Some row.at
    here = (row_some file (tagged_row file at DT_SYMTAB) row is).0

    pub its_value : d_un file row.at ≡ row.value
    its_value = (row_some file (tagged_row file at DT_SYMTAB) row is).1

    pub symbols_refused : (fault : Fault) → RefusedBy (rest_checks file row.at) fault → RefusedBy (checks_of_row (tagged_row file at DT_SYMTAB) (rest_checks file)) fault
    symbols_refused fault r = rw here r

    pub symbols_found : (rest symbols : TableRange) → first_refusal (rest_checks file row.at) ≡ None → IsRest file row.at rest
        → symbols ≡ record { at = rest.at; count = rest.count / 24; entry = 24 }
        → (first_refusal (checks_of_row (tagged_row file at DT_SYMTAB) (rest_checks file)) ≡ None) × AreEntrySymbols file at (Some symbols)
    unfolding segment_symbols
    symbols_found rest symbols passes r is =
        let located : segment_symbols file at ≡ (rest_place file row.at, rest_size file row.at / 24) = rw (here, segment_symbols) refl in
        let rows : symbols ≡ record { at = rest_place file row.at; count = rest_size file row.at / 24; entry = 24 } = is ∙ rw (r.place, r.size) refl in
        (rw here passes, ((row.at, here), rows ∙ sym (ap (λ (s : ℕ × ℕ). record { at = s.0; count = s.1; entry = 24 }) located)))

-- a table has rows if and only if it is there
is_there : (loaded : Option LoadedTable) (width : ℕ) (mapped : MappedTable) → IsMapped loaded width mapped → is_some loaded ≡ not (mapped.rows.count == 0)
is_there None width mapped none = rw none refl
is_there (Some loaded) width mapped is =
    let some = is.2 in
    let count : mapped.rows.count ≡ loaded.count = ap (λ (t : TableRange). t.count) is.1 in
    sym (rw (ne_eqb mapped.rows.count 0 (λ zero. omega (arith, zero, some, count))) refl)

symbol_checks_are : (file : List ℕ) (at : ℕ) → (is_some (rela_table file at) || is_some (linkage_table file at)) ≡ true
    → image_symbol_checks file at ≡ checks_of_row (tagged_row file at DT_SYMTAB) (rest_checks file)
unfolding image_symbol_checks
symbol_checks_are file at some = rw (some, image_symbol_checks) refl

-- the symbols, if there are entries
module _ (file : List ℕ) (at : ℕ) (addends calls : MappedTable) (a : IsMapped (rela_table file at) 24 addends) (c : IsMapped (linkage_table file at) 24 calls) where
  there : (is_some (rela_table file at) || is_some (linkage_table file at)) ≡ (not (addends.rows.count == 0) || not (calls.rows.count == 0))
  there = ap (λ (b : Bool). b || is_some (linkage_table file at)) (is_there (rela_table file at) 24 addends a) ∙ ap (λ (b : Bool). not (addends.rows.count == 0) || b) (is_there (linkage_table file at) 24 calls c)

  pub without_entries : not (addends.rows.count == 0) ≡ false → not (calls.rows.count == 0) ≡ false
      → (first_refusal (image_symbol_checks file at) ≡ None) × (HasTables file at → AreEntrySymbols file at None)
  unfolding image_symbol_checks
  without_entries no_addends no_calls =
      let none : (is_some (rela_table file at) || is_some (linkage_table file at)) ≡ false = there ∙ rw (no_addends, no_calls) refl in
      (rw (none, image_symbol_checks) refl, λ some. absurd (let e : true ≡ false = sym some ∙ none in cc))

  pub with_entries : (not (addends.rows.count == 0) || not (calls.rows.count == 0)) ≡ true → (result : Result (Option TableRange) Fault)
      → ChecksThen (checks_of_row (tagged_row file at DT_SYMTAB) (rest_checks file)) (AreEntrySymbols file at) result
      → ChecksThen (image_symbol_checks file at) (λ found. HasTables file at → AreEntrySymbols file at found) result
  with_entries some result reads = by_result result reads
    where
      checks : image_symbol_checks file at ≡ checks_of_row (tagged_row file at DT_SYMTAB) (rest_checks file)
      checks = symbol_checks_are file at (there ∙ some)

      by_result : (result : Result (Option TableRange) Fault) → ChecksThen (checks_of_row (tagged_row file at DT_SYMTAB) (rest_checks file)) (AreEntrySymbols file at) result
          → ChecksThen (image_symbol_checks file at) (λ found. HasTables file at → AreEntrySymbols file at found) result
      by_result (Ok found) r = (ap first_refusal checks ∙ r.0, λ any. r.1)
      by_result (Err fault) r = subst (λ (list : List Check). RefusedBy list fault) (sym checks) r

-- THE KIND of the entries of the procedure linkage table
pub addend_checks_are : (file : List ℕ) (at : ℕ) → addend_checks file at ≡ plain_checks file at ++ kind_row_checks file at
unfolding addend_checks
addend_checks_are file at = refl

pub one_kind : (file : List ℕ) (at : ℕ) (entries : TableEntries) → AreTableEntries file at table.Jmprel entries → first_refusal (addend_checks file at) ≡ None → HasOneForm table.Jmprel WithAddends 7 entries
one_kind file at entries are passes address row has_address has_row = go (row.value == 7) refl
  where
    kinds : first_refusal (kind_row_checks file at) ≡ None
    kinds = first_refusal-back (plain_checks file at) (kind_row_checks file at) (sym (ap first_refusal (addend_checks_are file at)) ∙ passes)

    go : (b : Bool) → (row.value == 7) ≡ b → form_by table.Jmprel row.value ≡ form_if (row.value == 7) WithAddends
    go true t = rw t refl
    go false t = absurd (let e : None ≡ Some (record { at = row.at; cause = Unsupported }) = sym kinds ∙ kind_is file at entries are address has_address row false has_row t in cc)

-- FIVE LISTS of checks, one after the other
module _ (a r e j s : List Check) where
  pub stop_first : (fault : Fault) → RefusedBy a fault → RefusedBy (a ++ r ++ e ++ j ++ s) fault
  stop_first fault f = refused_front (a ++ r ++ e ++ j) s fault (refused_front (a ++ r ++ e) j fault (refused_front (a ++ r) e fault (refused_front a r fault f)))

  module _ (pass_a : first_refusal a ≡ None) where
    pub stop_second : (fault : Fault) → RefusedBy r fault → RefusedBy (a ++ r ++ e ++ j ++ s) fault
    stop_second fault f = refused_front (a ++ r ++ e ++ j) s fault (refused_front (a ++ r ++ e) j fault (refused_front (a ++ r) e fault (refused_back a r fault pass_a f)))

    module _ (pass_r : first_refusal r ≡ None) where
      pub stop_third : (fault : Fault) → RefusedBy e fault → RefusedBy (a ++ r ++ e ++ j ++ s) fault
      stop_third fault f = refused_front (a ++ r ++ e ++ j) s fault (refused_front (a ++ r ++ e) j fault (refused_back (a ++ r) e fault (passed_both a r pass_a pass_r) f))

      module _ (pass_e : first_refusal e ≡ None) where
        pub stop_fourth : (fault : Fault) → RefusedBy j fault → RefusedBy (a ++ r ++ e ++ j ++ s) fault
        stop_fourth fault f = refused_front (a ++ r ++ e ++ j) s fault (refused_back (a ++ r ++ e) j fault (passed_both (a ++ r) e (passed_both a r pass_a pass_r) pass_e) f)

        module _ (pass_j : first_refusal j ≡ None) where
          before_last : first_refusal (a ++ r ++ e ++ j) ≡ None
          before_last = passed_both (a ++ r ++ e) j (passed_both (a ++ r) e (passed_both a r pass_a pass_r) pass_e) pass_j

          pub stop_fifth : (fault : Fault) → RefusedBy s fault → RefusedBy (a ++ r ++ e ++ j ++ s) fault
          stop_fifth fault f = refused_back (a ++ r ++ e ++ j) s fault before_last f

          pub passed_five : first_refusal s ≡ None → first_refusal (a ++ r ++ e ++ j ++ s) ≡ None
          passed_five pass_s = passed_both (a ++ r ++ e ++ j) s before_last pass_s
