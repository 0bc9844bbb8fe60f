-- The definitions, and then the needs.
use Rattle.std.proofs.Common.{◌+◌, [], length, ap, arith}
use Rattle.std.proofs.lemmas.Result.{err_from_is_err_and}
use Rattle.elf_table.proofs.LedgerLaws.{CallDid-as, CallDid-then}
use Rattle.elf_model.specs.Prelude.{compared_with, pad64, readings}
use Rattle.elf_hash.specs.Symbols.{table_if_any}
use Rattle.elf_loader.specs.Tables.{max_records_of, readings_before}
use Rattle.elf_loader.proofs.TablesLaws.{compares-fault, compares-then, part, read-parted, sum-pays}
use Rattle.elf_loader.proofs.index_collection.compare_all.Goals as goal

pub returns-in_err-compare_any : goal.returns-in_err-compare_any
returns-in_err-compare_any g c =
    let p = err_from_is_err_and c.from_residual.result c.from_residual.ensures.1 in
    let each = 28 + pad64 (length c.args.version.now + 1) in
    let pays = sum-pays (max_records_of c.args.symbols.now.definitions) (max_records_of c.args.symbols.now.needs) each in
    rw (p.1, p.2)
    (CallDid-as _ (omega (arith, pays)) c.in_err-compare_any.ensures
    (λ file read costs told are.
    let parts = part file told (table_if_any c.args.symbols.now.definitions) (table_if_any c.args.symbols.now.needs) are in
    let e = read-parted file told (table_if_any c.args.symbols.now.definitions) (table_if_any c.args.symbols.now.needs) parts in
    compares-fault c.args.src.now c.compare_any.new.src each c.args.numbers.now c.compare_any.new.numbers c.compare_any.new.numbers (compared_with file c.args.version.now (readings file told))
    (compared_with file c.args.version.now (readings_before file parts.front (readings_before file parts.back []))) (compared_with file c.args.version.now (readings_before file parts.back [])) (compared_with file c.args.version.now []) _
    (ap (compared_with file c.args.version.now) e) (read parts.front (readings_before file parts.back []) parts.are_front)))

pub returns : goal.returns
returns g c =
    let each = 28 + pad64 (length c.args.version.now + 1) in
    let pays = sum-pays (max_records_of c.args.symbols.now.definitions) (max_records_of c.args.symbols.now.needs) each in
    CallDid-as _ (omega (arith, pays)) (CallDid-then c.in_ok-compare_any.ensures c.compare_any-2.ensures)
    (λ file read costs told are.
    let parts = part file told (table_if_any c.args.symbols.now.definitions) (table_if_any c.args.symbols.now.needs) are in
    let e = read-parted file told (table_if_any c.args.symbols.now.definitions) (table_if_any c.args.symbols.now.needs) parts in
    rw e
    (compares-then c.args.src.now c.compare_any.new.src c.compare_any-2.new.src each c.args.numbers.now c.compare_any.new.numbers c.compare_any-2.new.numbers _ (compared_with file c.args.version.now (readings_before file parts.back [])) _ c.compare_any-2.result
    (read.0 parts.front (readings_before file parts.back []) parts.are_front) (read.1 parts.back [] parts.are_back)))
