-- After the last record none is left.
use Rattle.std.proofs.Common.{arith}
use Rattle.elf_model.proofs.VersionSteps.{met-ended}
use Rattle.elf_table.proofs.LedgerLaws.{CallDid-as, CallDid-none}
use Rattle.elf_table.proofs.Absent.{none-of}
use Rattle.elf_note.proofs.version_cursor.VersionCursor.advance.Goals as goal

pub returns-in_default-standing-clause-did : goal.returns-in_default-standing-clause-did
returns-in_default-standing-clause-did g c =
    let i = c.self.inside in
    let going = none-of i.failed c.in_default.not-Some in
    let ended = none-of i.standing c.in_default-standing.not-Some in
    rw (← c.self.view_is)
    (rw going
    (CallDid-as _ (omega arith) (CallDid-none c.args.src.now)
    (λ file told costs agrees.
    record { agrees = agrees; tells = λ well. rw ended (met-ended file i.held.table.at i.held.table.count i.left); leads = tt })))
