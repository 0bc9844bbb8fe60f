-- One symbol more of a table is taken.
use Rattle.std.proofs.Common.{sym, subst, ◌∙◌, arith}
use Rattle.std.proofs.lemmas.Result.{err_from_is_err_and}
use Rattle.elf_model.specs.Tables.{SYMBOL_SIZE, entry_at}
use Rattle.elf_resolve.specs.ObjectTables.{HoldsSymbols}
use Rattle.elf_resolve.specs.StringBuffers.{TableTexts}
use Rattle.elf_resolve.proofs.ObjectSymbolLaws.{rows_all, rows_fault, rows_more}
use Rattle.elf_resolve.proofs.object_symbols.take_rows.Goals as goal

pub returns-in_err-named : goal.returns-in_err-named
returns-in_err-named c = λ file table_at count dropped held marks.
    let s = c.args.symbols in
    let here = subst (λ (t : TableTexts). HoldsSymbols file t.bytes table_at s) (sym c.loop-index.invariant.same) held in
    let p = err_from_is_err_and c.from_residual.result c.from_residual.ensures.1 in
    rw (p.1, p.2)
    (rows_fault file table_at s.first c.loop-index.index s.count dropped c.args.keys.now c.loop-index.keys c.args.row c.in_err-named.field-0.0 c.loop-index-test.true
    (c.loop-index.invariant.takes file table_at count dropped held marks) (c.in_err-named.ensures file table_at count dropped here c.loop-index-test.true marks))

pub returns-in_err-take_named : goal.returns-in_err-take_named
returns-in_err-take_named c = λ file table_at count dropped held marks.
    let s = c.args.symbols in
    let here = subst (λ (t : TableTexts). HoldsSymbols file t.bytes table_at s) (sym c.loop-index.invariant.same) held in
    let at = entry_at file table_at SYMBOL_SIZE c.loop-index.index in
    let named = c.in_ok-named.ensures file table_at count dropped here c.loop-index-test.true marks in
    let p = err_from_is_err_and c.from_residual-in_err-take_named.result c.from_residual-in_err-take_named.ensures.1 in
    rw (p.1, p.2)
    (rows_fault file table_at s.first c.loop-index.index s.count dropped c.args.keys.now c.loop-index.keys c.args.row c.in_err-take_named.field-0.0 c.loop-index-test.true
    (c.loop-index.invariant.takes file table_at count dropped held marks) (c.in_err-take_named.ensures.takes file table_at at dropped named))

pub loop-index-preserved : goal.loop-index-preserved
loop-index-preserved c = record {
  same = c.in_ok-take_named.ensures.same ∙ c.loop-index.invariant.same;
  takes = λ file table_at count dropped held marks.
      let s = c.args.symbols in
      let here = subst (λ (t : TableTexts). HoldsSymbols file t.bytes table_at s) (sym c.loop-index.invariant.same) held in
      let at = entry_at file table_at SYMBOL_SIZE c.loop-index.index in
      let named = c.in_ok-named.ensures file table_at count dropped here c.loop-index-test.true marks in
      rows_more file table_at s.first c.loop-index.index s.count dropped c.args.keys.now c.loop-index.keys c.take_named.new.keys c.args.row c.loop-index-test.true
      (c.loop-index.invariant.takes file table_at count dropped held marks) (c.in_ok-take_named.ensures.takes file table_at at dropped named);
}

pub returns : goal.returns
returns c = λ file table_at count dropped held marks.
    let s = c.args.symbols in
    rows_all file table_at s.first c.loop-index.index s.count dropped c.args.keys.now c.loop-index.keys c.args.row (omega arith) (c.loop-index.invariant.takes file table_at count dropped held marks)
