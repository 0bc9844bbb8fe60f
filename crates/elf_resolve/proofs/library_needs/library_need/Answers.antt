-- One symbol more of a shared library is looked at.
use Rattle.std.proofs.Common.{◌<◌, ◌≤◌, ℕ, [], refl, sym, ap, subst, ◌∙◌, arith}
use Rattle.std.specs.Prelude.{Ok, Err}
use Rattle.std.proofs.lemmas.Result.{err_from_is_err_and}
use Rattle.elf_model.specs.Records.{section_at}
use Rattle.elf_model.specs.Tables.{SYMBOL_SIZE, entry_at}
use Rattle.elf_resolve.specs.LibraryKeys.{library_symbol_at}
use Rattle.elf_resolve.specs.LibraryNeeds.{FindsNeed, NeededRows, no_need}
use Rattle.elf_resolve.specs.LibraryTables.{HoldsLibraryVersions, range_of_symbols}
use Rattle.elf_resolve.specs.ObjectTables.{HoldsSymbols}
use Rattle.elf_resolve.specs.StringBuffers.{TableTexts}
use Rattle.elf_resolve.proofs.LibraryNeedLaws.{need_rows_all, need_rows_fault, need_rows_more, need_rows_none}
use Rattle.elf_resolve.proofs.LibraryTakenLaws.{forgotten, library_known}
use Rattle.elf_resolve.proofs.library_needs.library_need.Goals as goal

pub loop-index-init : goal.loop-index-init
loop-index-init c = record {
  same = refl;
  none = λ e. refl;
  needs = λ file table_at symbols known some held versions view.
      let range = c.symbol_range-first.ensures ∙ ap range_of_symbols some in
      subst (λ n. NeededRows file known table_at symbols.first n symbols.count c.args.keys.now.keys c.args.marks.now no_need) (sym (ap (λ (r : ℕ × ℕ). r.0) range))
      (need_rows_none file known table_at symbols.first symbols.count c.args.keys.now.keys c.args.marks.now);
}

pub returns-in_err-symbol-clause-finds : goal.returns-in_err-symbol-clause-finds
returns-in_err-symbol-clause-finds c = λ file known held view.
    let p = err_from_is_err_and c.from_residual.result c.from_residual.ensures.1 in
    let same = sym c.loop-index.invariant.same in
    let index = c.loop-index.index in
    rw (p.1, p.2)
    (library_known file c.args.strings.now.bytes known c.args.tables.symbols (λ k. FindsNeed k c.args.keys.now.keys c.args.marks.now (Err c.in_err-symbol.field-0.0)) held.symbols
    (λ symbols some dynamic.
    let at = section_at file symbols.section in
    let range = c.symbol_range-first.ensures ∙ ap range_of_symbols some in
    let below = subst (λ n. index < n) (ap (λ (r : ℕ × ℕ). r.1) range) c.loop-index-test.true in
    let here = subst (λ (t : TableTexts). HoldsSymbols file t.bytes at symbols) same dynamic.holds in
    let versions = subst (λ (t : TableTexts). HoldsLibraryVersions file t.bytes c.args.tables.versions c.args.versions.now known) same held.versions_are in
    need_rows_fault file known at symbols.first index symbols.count c.args.keys.now.keys c.args.marks.now c.loop-index.need c.in_err-symbol.field-0.0 below
    (c.loop-index.invariant.needs file at symbols known some dynamic.holds held.versions_are view) (c.in_err-symbol.ensures.finds file at symbols known some here versions view below))
    (λ none. absurd (omega (arith, c.loop-index-test.true, ap (λ (r : ℕ × ℕ). r.1) (c.symbol_range-first.ensures ∙ ap range_of_symbols none)))))

pub loop-index-preserved : goal.loop-index-preserved
loop-index-preserved c = record {
  same = c.forget_after.ensures ∙ forgotten c.args.strings.now c.loop-index.strings c.library_symbol.new.strings c.used-used.result c.loop-index.invariant.same c.used-used.ensures c.in_ok-symbol.ensures.stays;
  none = λ e. absurd (omega (arith, c.loop-index-test.true, ap (λ (r : ℕ × ℕ). r.1) (c.symbol_range-first.ensures ∙ ap range_of_symbols e)));
  needs = λ file table_at symbols known some held versions view.
      let same = sym c.loop-index.invariant.same in
      let index = c.loop-index.index in
      let range = c.symbol_range-first.ensures ∙ ap range_of_symbols some in
      let below = subst (λ n. index < n) (ap (λ (r : ℕ × ℕ). r.1) range) c.loop-index-test.true in
      let here = subst (λ (t : TableTexts). HoldsSymbols file t.bytes table_at symbols) same held in
      let texts = subst (λ (t : TableTexts). HoldsLibraryVersions file t.bytes c.args.tables.versions c.args.versions.now known) same versions in
      let found = c.in_ok-symbol.ensures.finds file table_at symbols known some here texts view below in
      need_rows_more file known table_at symbols.first index symbols.count c.args.keys.now.keys c.args.marks.now c.loop-index.need c.need_after-need.result below
      (c.loop-index.invariant.needs file table_at symbols known some held versions view)
      (c.need_after-need.ensures (library_symbol_at file known table_at index) (entry_at file table_at SYMBOL_SIZE index) found);
}

pub returns-clause-same : goal.returns-clause-same
returns-clause-same c = c.loop-index.invariant.same

pub returns-clause-finds : goal.returns-clause-finds
returns-clause-finds c = λ file known held view.
    library_known file c.args.strings.now.bytes known c.args.tables.symbols (λ k. FindsNeed k c.args.keys.now.keys c.args.marks.now (Ok c.loop-index.need)) held.symbols
    (λ symbols some dynamic.
    let at = section_at file symbols.section in
    let range = c.symbol_range-first.ensures ∙ ap range_of_symbols some in
    let past = subst (λ n. n ≤ c.loop-index.index) (ap (λ (r : ℕ × ℕ). r.1) range) c.loop-index-test.false in
    need_rows_all file known at symbols.first c.loop-index.index symbols.count c.args.keys.now.keys c.args.marks.now c.loop-index.need past
    (c.loop-index.invariant.needs file at symbols known some dynamic.holds held.versions_are view))
    (λ none. ([], refl, c.loop-index.invariant.none none))
