-- The symbol of an index, in a table that is held.
use Rattle.std.proofs.Common.{◌≡◌, ◌+◌, ◌*◌, sym, ap, ◌∙◌, arith}
use Rattle.std.proofs.lemmas.Result.{err_from_is_err_and}
use Rattle.elf_model.specs.LinkObjects.{is_dropped}
use Rattle.elf_model.specs.LinkSymbols.{symbol_section, symbol_use}
use Rattle.elf_model.specs.Records.{sh_offset}
use Rattle.elf_model.specs.Tables.{SYMBOL_SIZE, entry_at, strings_of}
use Rattle.elf_resolve.specs.ObjectSymbols.{use_if}
use Rattle.elf_resolve.proofs.ObjectSymbolLaws.{named_found, rows_held, some_section, unnamed}
use Rattle.elf_resolve.proofs.object_symbols.named_use.Goals as goal

pub returns-in_default : goal.returns-in_default
returns-in_default c = λ file table_at count dropped held below marks.
    let rows = rows_held file c.args.strings.now.bytes c.bytes.result.now table_at c.args.index c.args.symbols held below (c.bytes.ensures _ held.rows) in
    c.in_default.ensures rows.0 file (sh_offset file table_at) rows.1

pub returns-in_err-name : goal.returns-in_err-name
returns-in_err-name c = λ file table_at count dropped held below marks.
    let rows = rows_held file c.args.strings.now.bytes c.bytes.result.now table_at c.args.index c.args.symbols held below (c.bytes.ensures _ held.rows) in
    let one = c.in-Some.ensures rows.0 file (sh_offset file table_at) rows.1 in
    let here : c.place-at.result ≡ entry_at file table_at SYMBOL_SIZE c.args.index = c.place-at.ensures (omega (arith, held.fits, below)) ∙ ap (λ a. a + 24 * c.args.index) held.at in
    let p = err_from_is_err_and c.from_residual.result c.from_residual.ensures.1 in
    rw (p.1, p.2)
    (unnamed file c.args.strings.now.bytes table_at (entry_at file table_at SYMBOL_SIZE c.args.index) c.place-at.result c.from.result c.in-Some.symbol c.in_err-name.field-0.0 one.0 one.1 c.from.ensures here
    (c.in_err-name.ensures (strings_of file table_at) (held.names (omega (arith, below)))))

pub returns : goal.returns
returns c = λ file table_at count dropped held below marks.
    let rows = rows_held file c.args.strings.now.bytes c.bytes.result.now table_at c.args.index c.args.symbols held below (c.bytes.ensures _ held.rows) in
    let at = entry_at file table_at SYMBOL_SIZE c.args.index in
    let one = c.in-Some.ensures rows.0 file (sh_offset file table_at) rows.1 in
    let here : c.place-at.result ≡ at = c.place-at.ensures (omega (arith, held.fits, below)) ∙ ap (λ a. a + 24 * c.args.index) held.at in
    let drops : c.is_in_dropped.result ≡ is_dropped dropped (symbol_section file at) = c.is_in_dropped.ensures.dropped file at count dropped one.1 marks in
    let used = c.use_of-symbol.ensures file at one.1 (λ is. some_section dropped (symbol_section file at) (sym drops ∙ is)) in
    named_found file c.args.strings.now.bytes table_at at c.place-at.result c.from.result dropped c.in-Some.symbol c.use_of-symbol.result c.in_ok-name.name one.0 one.1 c.from.ensures here
    (c.in_ok-name.ensures (strings_of file table_at) (held.names (omega (arith, below)))) (used ∙ ap (λ b. use_if b (symbol_use file at)) drops)
