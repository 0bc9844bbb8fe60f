-- The symbol of an index has the name of an entry, or not.
use Rattle.std.proofs.Common.{◌∙◌, arith}
use Rattle.elf_model.specs.LinkPasses.{index_name}
use Rattle.elf_model.specs.Records.{sh_offset}
use Rattle.elf_model.specs.Tables.{SYMBOL_SIZE, entry_at, strings_of}
use Rattle.elf_resolve.proofs.ObjectNameLaws.{definition_none, definition_some, named_as, other_binding}
use Rattle.elf_resolve.proofs.ObjectSymbolLaws.{rows_held}
use Rattle.elf_resolve.proofs.members.named_definition.Goals as goal

pub returns-in_err-symbol : goal.returns-in_err-symbol
returns-in_err-symbol c = λ file table_at held below.
    let rows = rows_held file c.args.strings.now.bytes c.bytes.result.now table_at c.args.index c.args.symbols held below (c.bytes.ensures _ held.rows) in
    rw c.from_residual.ensures
    (other_binding file table_at (entry_at file table_at SYMBOL_SIZE c.args.index) (index_name c.args.keys.now.keys c.args.entry) (c.in_err-symbol.ensures rows.0 file (sh_offset file table_at) rows.1))

pub returns-then-not-is_named : goal.returns-then-not-is_named
returns-then-not-is_named c = λ file table_at held below.
    let rows = rows_held file c.args.strings.now.bytes c.bytes.result.now table_at c.args.index c.args.symbols held below (c.bytes.ensures _ held.rows) in
    let at = entry_at file table_at SYMBOL_SIZE c.args.index in
    let name = index_name c.args.keys.now.keys c.args.entry in
    let one = c.in_ok-symbol.ensures rows.0 file (sh_offset file table_at) rows.1 in
    let known = named_as file table_at at c.in_ok-symbol.symbol.st_name name c.is_named.result one.0 one.1.st_name (c.is_named.ensures (strings_of file table_at) at (held.names (omega (arith, below)))) in
    definition_none file table_at at name (known ∙ c.if-not-is_named.true)

pub returns : goal.returns
returns c = λ file table_at held below.
    let rows = rows_held file c.args.strings.now.bytes c.bytes.result.now table_at c.args.index c.args.symbols held below (c.bytes.ensures _ held.rows) in
    let at = entry_at file table_at SYMBOL_SIZE c.args.index in
    let name = index_name c.args.keys.now.keys c.args.entry in
    let one = c.in_ok-symbol.ensures rows.0 file (sh_offset file table_at) rows.1 in
    let known = named_as file table_at at c.in_ok-symbol.symbol.st_name name c.is_named.result one.0 one.1.st_name (c.is_named.ensures (strings_of file table_at) at (held.names (omega (arith, below)))) in
    definition_some file table_at at name c.is_data_definition.result (known ∙ c.if-not-is_named.false) (c.is_data_definition.ensures file at one.1)
