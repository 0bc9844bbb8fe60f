-- No symbol except the first, or the rows of the others.
use Rattle.std.proofs.Common.{◌≡◌, ℕ, ◌+◌, ◌-◌, ◌*◌, ◌<◌, Ok, sym, ap, ◌∙◌, arith}
use Rattle.elf_table.specs.Tables.{TableRange}
use Rattle.elf_model.specs.Traits.{SymbolTraitFlags, marks_from, no_symbol_traits}
use Rattle.elf_table.proofs.LedgerLaws.{CallDid-as, CallDid-none}
use Rattle.elf_loader.proofs.MarkLaws.{marks_as, no_rows, rows_from}
use Rattle.elf_loader.proofs.SpendLaws.{rows_lie}
use Rattle.elf_loader.proofs.trait_symbols.find_symbol_traits.Goals as goal

pub returns-then-count-lt2 : goal.returns-then-count-lt2
returns-then-count-lt2 g c =
    let none : c.args.count - 1 ≡ 0 = omega (arith, c.if-count-lt2.true) in
    CallDid-as _ (omega arith) (CallDid-none c.args.src.now)
    (λ file told costs symbols is. no_rows file symbols (c.args.count - 1) _ none ∙ ap (λ (m : SymbolTraitFlags). Ok m) (sym c.no_symbol_traits.ensures))

pub symbol_traits_of_rows-requires-clause-within : goal.symbol_traits_of_rows-requires-clause-within
symbol_traits_of_rows-requires-clause-within g c = rw c.rows_after_first-rows.ensures (rows_lie c.args.symbols.now.table _ c.args.count c.args.symbols.now.rows c.requires.lie.table c.requires.few)

pub returns : goal.returns
returns g c =
    let rows = c.rows_after_first-rows.ensures in
    let count : c.rows_after_first-rows.result.count ≡ c.args.count - 1 = ap (λ (t : TableRange). t.count) rows in
    let at : c.rows_after_first-rows.result.at ≡ c.args.symbols.now.table.at + 24 = ap (λ (t : TableRange). t.at) rows in
    let bytes = ap (λ (n : ℕ). n * 88) count in
    let some : 0 < c.args.symbols.now.table.count = omega (arith, c.if-count-lt2.false, c.requires.few) in
    CallDid-as _ (omega (arith, bytes)) c.symbol_traits_of_rows.ensures
    (λ file tells costs symbols is.
    let place : c.rows_after_first-rows.result.at ≡ symbols.place + 24 = omega (arith, at, is.place) in
    marks_as _ _ _ (rows_from file symbols _ _ _ _ _ place (is.names some) c.no_symbol_traits-2.ensures ∙ ap (marks_from file symbols no_symbol_traits 1) count) tells)
