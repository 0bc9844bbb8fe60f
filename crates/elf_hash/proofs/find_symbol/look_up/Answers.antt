-- The walk for a symbol that has the name is the lookup of the name.
use Rattle.std.proofs.Common.{length, arith}
use Rattle.std.proofs.lemmas.Result.{err_from_is_err_and}
use Rattle.elf_table.proofs.LedgerLaws.{CallDid-as}
use Rattle.elf_hash.proofs.LookupLaws.{looks_answered, looks_failed, named, steps_ask}
use Rattle.elf_hash.proofs.find_symbol.look_up.Goals as goal

pub returns-in_err-walked-clause-did : goal.returns-in_err-walked-clause-did
returns-in_err-walked-clause-did g c =
    let p = err_from_is_err_and c.from_residual.result c.from_residual.ensures.1 in
    let ask = steps_ask c.args.table.now.nchain (length c.args.wanted.now) in
    let entry = c.requires.lies.symbols.0 in
    rw (p.1, p.2)
    (CallDid-as _ (omega (arith, ask)) c.in_err-walked.ensures.did
    (λ file walked costs at section table. looks_failed file at c.args.wanted.now _ section entry _ (rw c.sysv_hash.ensures at (walked _ _ table (named file at c.args.wanted.now _ section entry)))))

pub returns-clause-did : goal.returns-clause-did
returns-clause-did g c =
    let ask = steps_ask c.args.table.now.nchain (length c.args.wanted.now) in
    let entry = c.requires.lies.symbols.0 in
    rw (c.answer_of.ensures)
    (CallDid-as _ (omega (arith, ask)) c.in_ok-walked.ensures.did
    (λ file walked costs at section table. looks_answered file at c.args.wanted.now _ section entry _ (rw c.sysv_hash.ensures at (walked _ _ table (named file at c.args.wanted.now _ section entry)))))
