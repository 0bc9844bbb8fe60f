-- Nothing is read of a table that is not held, and a read that fails is the call's.
use Rattle.std.proofs.Common.{arith, rules}
use Rattle.std.proofs.lemmas.Result.{err_from_is_err_and}
use Rattle.elf_table.proofs.LedgerLaws.{CallDid-as, CallDid-none, CallDid-of}
use Rattle.elf_table.proofs.FaultLaws.{of-read}
use Rattle.elf_note.proofs.table_buffer.TableBuffer.load.Goals as goal

pub returns-then-size-most : goal.returns-then-size-most
returns-then-size-most g c =
    let none = c.unread.ensures.none in
    record {
      did = CallDid-as _ (omega arith) (CallDid-none c.args.src.now) (λ file told costs whole. cc);
      holds = (c.unread.ensures.its_table, rw none (omega arith));
    }

pub returns-in_err-fill : goal.returns-in_err-fill
returns-in_err-fill g c =
    let p = err_from_is_err_and c.from_residual.result c.from_residual.ensures.1 in
    let e = c.in_err-fill.ensures in
    rw (p.1, p.2)
    (record {
      did = CallDid-as _ (search rules) (CallDid-of {P = λ file. Unit {0}} e.reads e.says (λ file h. tt)) (λ file told costs. tt);
      holds = of-read _ _ e.at;
    })
