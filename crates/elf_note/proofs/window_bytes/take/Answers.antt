-- The bytes are copied if the window holds them.
use Rattle.std.proofs.lemmas.Result.{err_from_is_err_and}
use Rattle.elf_table.proofs.FaultLaws.{of-read}
use Rattle.elf_table.proofs.ThroughLaws.{through_err, through_ok, through_skip}
use Rattle.elf_note.proofs.window_bytes.take.Goals as goal

pub returns-in_err-fill_buf : goal.returns-in_err-fill_buf
returns-in_err-fill_buf g c =
    let p = err_from_is_err_and c.from_residual.result c.from_residual.ensures.1 in
    let e = c.in_err-fill_buf.ensures in
    rw (p.1, p.2) (record { reads = record { went = through_err e.went; fault = of-read _ _ e.brings.1 }; at = tt; taken = λ file h a. tt })

pub returns-clause-reads : goal.returns-clause-reads
returns-clause-reads g c =
    let e = c.in_ok-fill_buf.ensures in
    let s = c.skip.ensures in
    record { went = through_skip (through_ok _ e.went) s; fault = tt }
