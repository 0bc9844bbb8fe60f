-- No table, or one.
use Rattle.std.proofs.Common.{◌+◌, length, arith}
use Rattle.elf_table.proofs.LedgerLaws.{CallReads-none, CallDid-as, CallDid-none}
use Rattle.elf_model.specs.Names.{pad64}
use Rattle.elf_loader.proofs.TablesLaws.{compared-no-table, compared-one-table}
use Rattle.elf_loader.proofs.index_collection.compare_any.Goals as goal

pub returns-in-None : goal.returns-in-None
returns-in-None g c =
    rw c.in-None.is
    (CallDid-as _ (omega arith) (CallDid-none c.args.src.now)
    (λ file read costs told others are.
    compared-no-table file c.args.version.now c.args.numbers.now c.args.src.now (28 + pad64 (length c.args.version.now + 1)) told others (CallReads-none c.args.src.now) are))

pub returns-in-Some : goal.returns-in-Some
returns-in-Some g c =
    rw c.in-Some.is
    (CallDid-as _ (omega arith) c.compare_table.ensures
    (λ file read costs told others are.
    compared-one-table c.args.src.now c.compare_table.new.src file c.args.version.now c.args.numbers.now c.compare_table.new.numbers (28 + pad64 (length c.args.version.now + 1)) told others c.in-Some.records c.compare_table.result read are))
