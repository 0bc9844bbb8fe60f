-- One symbol more of a shared library is taken.
use Rattle.std.proofs.Common.{◌<◌, ◌≤◌, ℕ, [], refl, sym, ap, subst, ◌∙◌, arith}
use Rattle.std.specs.Prelude.{Ok, Err}
use Rattle.std.proofs.lemmas.Result.{err_from_is_err_and}
use Rattle.elf_model.specs.Records.{section_at}
use Rattle.elf_model.specs.Tables.{SYMBOL_SIZE, entry_at}
use Rattle.elf_resolve.specs.KeyTables.{KeyList}
use Rattle.elf_resolve.specs.LibraryKeys.{library_symbol_at}
use Rattle.elf_resolve.specs.LibraryTables.{HoldsLibraryVersions, TakesLibrarySymbols, TookLibraryRows, range_of_symbols}
use Rattle.elf_resolve.specs.ObjectTables.{HoldsSymbols}
use Rattle.elf_resolve.specs.StringBuffers.{TableTexts}
use Rattle.elf_resolve.proofs.LibraryTakenLaws.{forgotten, library_rows_all, library_rows_fault, library_rows_more, library_rows_none, library_taken, takes_none}
use Rattle.elf_resolve.proofs.library_symbols.take_library_symbols.Goals as goal

pub loop-index-init : goal.loop-index-init
loop-index-init c = record {
  same = refl;
  none = λ e. refl;
  takes = λ file table_at symbols known some held versions view.
      let range = c.symbol_range-first.ensures ∙ ap range_of_symbols some in
      subst (λ n. TookLibraryRows file known table_at symbols.first n symbols.count c.args.keys.now c.args.keys.now c.args.tables.row) (sym (ap (λ (r : ℕ × ℕ). r.0) range))
      (library_rows_none file known table_at symbols.first symbols.count c.args.keys.now c.args.tables.row);
}

pub returns-in_err-symbol : goal.returns-in_err-symbol
returns-in_err-symbol c = λ file known held view.
    let p = err_from_is_err_and c.from_residual.result c.from_residual.ensures.1 in
    let same = sym c.loop-index.invariant.same in
    let index = c.loop-index.index in
    rw (p.1, p.2)
    (library_taken file c.args.strings.now.bytes known c.args.tables.symbols c.args.keys.now c.loop-index.keys c.args.tables.row (Err c.in_err-symbol.field-0.0) held.symbols
    (λ symbols some dynamic.
    let at = section_at file symbols.section in
    let range = c.symbol_range-first.ensures ∙ ap range_of_symbols some in
    let below = subst (λ n. index < n) (ap (λ (r : ℕ × ℕ). r.1) range) c.loop-index-test.true in
    let here = subst (λ (t : TableTexts). HoldsSymbols file t.bytes at symbols) same dynamic.holds in
    let versions = subst (λ (t : TableTexts). HoldsLibraryVersions file t.bytes c.args.tables.versions c.args.versions.now known) same held.versions_are in
    library_rows_fault file known at symbols.first index symbols.count c.args.keys.now c.loop-index.keys c.args.tables.row c.in_err-symbol.field-0.0 below
    (c.loop-index.invariant.takes file at symbols known some dynamic.holds held.versions_are view) (c.in_err-symbol.ensures.finds file at symbols known some here versions view below))
    (λ none. absurd (omega (arith, c.loop-index-test.true, ap (λ (r : ℕ × ℕ). r.1) (c.symbol_range-first.ensures ∙ ap range_of_symbols none)))))

pub returns-in_err-take_found : goal.returns-in_err-take_found
returns-in_err-take_found c = λ file known held view.
    let p = err_from_is_err_and c.from_residual-in_err-take_found.result c.from_residual-in_err-take_found.ensures.1 in
    let same = sym c.loop-index.invariant.same in
    let index = c.loop-index.index in
    rw (p.1, p.2)
    (library_taken file c.args.strings.now.bytes known c.args.tables.symbols c.args.keys.now c.loop-index.keys c.args.tables.row (Err c.in_err-take_found.field-0.0) held.symbols
    (λ symbols some dynamic.
    let at = section_at file symbols.section in
    let range = c.symbol_range-first.ensures ∙ ap range_of_symbols some in
    let below = subst (λ n. index < n) (ap (λ (r : ℕ × ℕ). r.1) range) c.loop-index-test.true in
    let here = subst (λ (t : TableTexts). HoldsSymbols file t.bytes at symbols) same dynamic.holds in
    let versions = subst (λ (t : TableTexts). HoldsLibraryVersions file t.bytes c.args.tables.versions c.args.versions.now known) same held.versions_are in
    let found = c.in_ok-symbol.ensures.finds file at symbols known some here versions view below in
    library_rows_fault file known at symbols.first index symbols.count c.args.keys.now c.loop-index.keys c.args.tables.row c.in_err-take_found.field-0.0 below
    (c.loop-index.invariant.takes file at symbols known some dynamic.holds held.versions_are view)
    (c.in_err-take_found.ensures (library_symbol_at file known at index) (entry_at file at SYMBOL_SIZE index) found))
    (λ none. absurd (omega (arith, c.loop-index-test.true, ap (λ (r : ℕ × ℕ). r.1) (c.symbol_range-first.ensures ∙ ap range_of_symbols none)))))

pub loop-index-preserved : goal.loop-index-preserved
loop-index-preserved c = record {
  same = c.forget_after.ensures ∙ forgotten c.args.strings.now c.loop-index.strings c.library_symbol.new.strings c.used-used.result c.loop-index.invariant.same c.used-used.ensures c.in_ok-symbol.ensures.stays;
  none = λ e. absurd (omega (arith, c.loop-index-test.true, ap (λ (r : ℕ × ℕ). r.1) (c.symbol_range-first.ensures ∙ ap range_of_symbols e)));
  takes = λ file table_at symbols known some held versions view.
      let same = sym c.loop-index.invariant.same in
      let index = c.loop-index.index in
      let range = c.symbol_range-first.ensures ∙ ap range_of_symbols some in
      let below = subst (λ n. index < n) (ap (λ (r : ℕ × ℕ). r.1) range) c.loop-index-test.true in
      let here = subst (λ (t : TableTexts). HoldsSymbols file t.bytes table_at symbols) same held in
      let texts = subst (λ (t : TableTexts). HoldsLibraryVersions file t.bytes c.args.tables.versions c.args.versions.now known) same versions in
      let found = c.in_ok-symbol.ensures.finds file table_at symbols known some here texts view below in
      library_rows_more file known table_at symbols.first index symbols.count c.args.keys.now c.loop-index.keys c.take_found.new.keys c.args.tables.row below
      (c.loop-index.invariant.takes file table_at symbols known some held versions view)
      (c.in_ok-take_found.ensures (library_symbol_at file known table_at index) (entry_at file table_at SYMBOL_SIZE index) found);
}

pub returns : goal.returns
returns c = λ file known held view.
    library_taken file c.args.strings.now.bytes known c.args.tables.symbols c.args.keys.now c.loop-index.keys c.args.tables.row (Ok tt) held.symbols
    (λ symbols some dynamic.
    let at = section_at file symbols.section in
    let range = c.symbol_range-first.ensures ∙ ap range_of_symbols some in
    let past = subst (λ n. n ≤ c.loop-index.index) (ap (λ (r : ℕ × ℕ). r.1) range) c.loop-index-test.false in
    library_rows_all file known at symbols.first c.loop-index.index symbols.count c.args.keys.now c.loop-index.keys c.args.tables.row past
    (c.loop-index.invariant.takes file at symbols known some dynamic.holds held.versions_are view))
    (λ none. subst (λ (k : KeyList). TakesLibrarySymbols (Ok []) c.args.keys.now k c.args.tables.row (Ok tt)) (sym (c.loop-index.invariant.none none)) (takes_none (Ok []) c.args.keys.now c.args.tables.row refl))
