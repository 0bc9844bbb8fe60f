-- The definitions, and then the needs.
use Rattle.std.proofs.Common.{[], ap, ◌∙◌, arith}
use Rattle.std.proofs.lemmas.Result.{err_from_is_err_and}
use Rattle.elf_table.proofs.LedgerLaws.{CallDid-as, CallDid-then}
use Rattle.elf_model.specs.Loader.{naming_of}
use Rattle.elf_hash.specs.Symbols.{table_if_any}
use Rattle.elf_table.proofs.Absent.{none-of}
use Rattle.elf_loader.specs.Tables.{max_records_of, readings_before}
use Rattle.elf_loader.proofs.NamingLaws.{fault-of, file-some, file-then, names-then, some-of}
use Rattle.elf_loader.proofs.TablesLaws.{part, read-parted, sum-pays}
use Rattle.elf_loader.proofs.version_name_record.name_of.Goals as goal

pub returns-in_err-named-clause-did : goal.returns-in_err-named-clause-did
returns-in_err-named-clause-did g c =
    let p = err_from_is_err_and c.from_residual.result c.from_residual.ensures.1 in
    let pays = sum-pays (max_records_of c.args.symbols.now.definitions) (max_records_of c.args.symbols.now.needs) 28 in
    rw (p.1, p.2)
    (CallDid-as _ (omega (arith, pays)) c.in_err-named.ensures.did
    (λ file read costs told are.
    let parts = part file told (table_if_any c.args.symbols.now.definitions) (table_if_any c.args.symbols.now.needs) are in
    let e = read-parted file told (table_if_any c.args.symbols.now.definitions) (table_if_any c.args.symbols.now.needs) parts in
    fault-of file c.args.src.now c.name_in_any.new.src _ _ (naming_of file c.args.number (readings_before file parts.back [])) (naming_of file c.args.number []) _
    (ap (naming_of file c.args.number) e) (read parts.front (readings_before file parts.back []) parts.are_front)))

pub returns-in-Some-clause-did : goal.returns-in-Some-clause-did
returns-in-Some-clause-did g c =
    let pays = sum-pays (max_records_of c.args.symbols.now.definitions) (max_records_of c.args.symbols.now.needs) 28 in
    CallDid-as _ (omega (arith, pays)) (rw c.in-Some.is at c.in_ok-named.ensures.did)
    (λ file read costs told are.
    let parts = part file told (table_if_any c.args.symbols.now.definitions) (table_if_any c.args.symbols.now.needs) are in
    let e = read-parted file told (table_if_any c.args.symbols.now.definitions) (table_if_any c.args.symbols.now.needs) parts in
    some-of file c.args.src.now c.name_in_any.new.src _ _ (naming_of file c.args.number (readings_before file parts.back [])) (naming_of file c.args.number []) c.in-Some.named
    (ap (naming_of file c.args.number) e) (read parts.front (readings_before file parts.back []) parts.are_front))

pub returns-clause-did : goal.returns-clause-did
returns-clause-did g c =
    let none = none-of c.in_ok-named.field-0 c.in_default.not-Some in
    let pays = sum-pays (max_records_of c.args.symbols.now.definitions) (max_records_of c.args.symbols.now.needs) 28 in
    CallDid-as _ (omega (arith, pays)) (CallDid-then (rw none at c.in_ok-named.ensures.did) c.name_in_any-2.ensures.did)
    (λ file read costs told are.
    let parts = part file told (table_if_any c.args.symbols.now.definitions) (table_if_any c.args.symbols.now.needs) are in
    let e = read-parted file told (table_if_any c.args.symbols.now.definitions) (table_if_any c.args.symbols.now.needs) parts in
    names-then file c.args.src.now c.name_in_any.new.src c.name_in_any-2.new.src _ _ (naming_of file c.args.number (readings_before file parts.back [])) (naming_of file c.args.number []) c.name_in_any-2.result
    (ap (naming_of file c.args.number) e) (read.0 parts.front (readings_before file parts.back []) parts.are_front) (read.1 parts.back [] parts.are_back))

pub returns-in-Some-clause-file : goal.returns-in-Some-clause-file
returns-in-Some-clause-file g c =
    λ file held told are.
    let parts = part file told (table_if_any c.args.symbols.now.definitions) (table_if_any c.args.symbols.now.needs) are in
    let e = read-parted file told (table_if_any c.args.symbols.now.definitions) (table_if_any c.args.symbols.now.needs) parts in
    file-some file c.args.number _ _ (readings_before file parts.back []) c.name_in_any.new.file c.in-Some.named e
    ((rw c.in-Some.is at c.in_ok-named.ensures.file) file held parts.front (readings_before file parts.back []) parts.are_front)

pub returns-clause-file : goal.returns-clause-file
returns-clause-file g c =
    let none = none-of c.in_ok-named.field-0 c.in_default.not-Some in
    λ file held told are.
    let parts = part file told (table_if_any c.args.symbols.now.definitions) (table_if_any c.args.symbols.now.needs) are in
    let e = read-parted file told (table_if_any c.args.symbols.now.definitions) (table_if_any c.args.symbols.now.needs) parts in
    let held_on = c.in_ok-named.ensures.did.costs.reads.keeps.same_file ∙ held in
    file-then file c.args.number _ _ (readings_before file parts.back []) [] c.name_in_any.new.file c.name_in_any-2.new.file c.name_in_any-2.result e
    ((rw none at c.in_ok-named.ensures.file) file held parts.front (readings_before file parts.back []) parts.are_front)
    (c.name_in_any-2.ensures.file file held_on parts.back [] parts.are_back)
