-- No entries, no definitions, or the definitions are compared.
use Rattle.std.proofs.Common.{arith}
use Rattle.std.proofs.lemmas.Result.{err_from_is_err_and}
use Rattle.elf_table.proofs.LedgerLaws.{CallDid-as, CallDid-none}
use Rattle.elf_library.proofs.LackLaws.{are_definitions, definitions_alone, fewer_bytes, lacks_none, lacks_wordless, none_where, some_where, tells_empty, tells_fault}
use Rattle.elf_library.proofs.missing_version.lacks_version.Goals as goal

pub returns-then-is_none : goal.returns-then-is_none
returns-then-is_none g c =
    let none = none_where c.args.symbols.now.words c.is_none.result c.is_none.ensures c.if-is_none.true in
    CallDid-as _ (omega arith) (CallDid-none c.args.src.now)
    (λ file read costs told is. lacks_wordless file told.symbols c.args.symbols.now is c.args.version.now none)

pub returns-then-is_bare : goal.returns-then-is_bare
returns-then-is_bare g c =
    let bare = rw (c.if-is_bare.true, c.definitions_of-own.ensures) at c.is_bare.ensures in
    CallDid-as _ (omega arith) (CallDid-none c.args.src.now)
    (λ file read costs told is. lacks_none file told.symbols c.args.symbols.now is c.args.version.now bare.0 bare.1)

pub returns-in_err-numbers : goal.returns-in_err-numbers
returns-in_err-numbers g c =
    let p = err_from_is_err_and c.from_residual.result c.from_residual.ensures.1 in
    let bare = rw (c.if-is_bare.false, c.definitions_of-own.ensures) at c.is_bare.ensures in
    let wide = some_where c.args.symbols.now.words c.is_none.result c.is_none.ensures c.if-is_none.false in
    rw (p.1, p.2)
    (CallDid-as _ (fewer_bytes c.args.version.now c.args.symbols.now) (rw c.definitions_of-own.ensures at c.in_err-numbers.ensures)
    (λ file read costs told is.
    tells_fault file told c.args.version.now c.args.symbols.now is wide bare _ _ _ _
    (read (definitions_alone file told c.args.version.now) (are_definitions file told.symbols c.args.symbols.now is))))

pub returns : goal.returns
returns g c =
    let bare = rw (c.if-is_bare.false, c.definitions_of-own.ensures) at c.is_bare.ensures in
    let wide = some_where c.args.symbols.now.words c.is_none.result c.is_none.ensures c.if-is_none.false in
    CallDid-as _ (fewer_bytes c.args.version.now c.args.symbols.now) (rw c.definitions_of-own.ensures at c.in_ok-numbers.ensures)
    (λ file read costs told is.
    tells_empty file told c.args.version.now c.args.symbols.now is wide bare _ _ _ c.in_ok-numbers.numbers c.is_empty.result
    (read (definitions_alone file told c.args.version.now) (are_definitions file told.symbols c.args.symbols.now is)) c.is_empty.ensures)
