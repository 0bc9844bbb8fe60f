use Rattle.std.proofs.lemmas.Result.{err_from_is_err_and}
use Rattle.elf_table.proofs.ThroughLaws.{through_skip}
use Rattle.elf_note.proofs.note.read_rest.Goals as goal

pub returns-in_err-take : goal.returns-in_err-take
returns-in_err-take g c =
    let p = err_from_is_err_and c.from_residual.result c.from_residual.ensures.1 in
    let e = c.in_err-take.ensures in
    rw (p.1, p.2) (record { reads = e.reads; at = tt; read = λ file h a. tt })

pub returns-clause-reads : goal.returns-clause-reads
returns-clause-reads g c =
    record { went = through_skip c.in_ok-take.ensures.reads.went c.skip.ensures; fault = tt }
