-- The table excludes the name, or the lookup goes on in it.
use Rattle.std.proofs.Common.{ℕ, ap, ◌∙◌, arith}
use Rattle.std.proofs.lemmas.Result.{err_from_is_err_and}
use Rattle.elf_table.proofs.LedgerLaws.{CallDid-as, CallDid-then}
use Rattle.elf_loader.specs.Lookups.{lookup_bytes}
use Rattle.elf_options.specs.Wants.{query_of}
use Rattle.elf_library.proofs.DefinerLaws.{defines_excluded, defines_unless, defines_unread}
use Rattle.elf_library.proofs.definition.definition_unless.Goals as goal

pub returns-in_err-excludes-clause-did : goal.returns-in_err-excludes-clause-did
returns-in_err-excludes-clause-did g c =
    let p = err_from_is_err_and c.from_residual.result c.from_residual.ensures.1 in
    rw (p.1, p.2)
    (CallDid-as _ (omega arith) c.in_err-excludes.ensures
    (λ file tells costs told is ready are. defines_unread file told (query_of c.args.wanted.now) ready.counts _ (tells told ready.is) (costs _ (omega arith))))

pub returns-then-branch-clause-did : goal.returns-then-branch-clause-did
returns-then-branch-clause-did g c =
    CallDid-as _ (omega arith) (rw c.if-branch.true at c.in_ok-excludes.ensures)
    (λ file tells costs told is ready are.
    let wanted = query_of c.args.wanted.now in
    defines_excluded file told wanted ready.counts (ready.versions wanted.asked c.requires.plain) (tells told ready.is) (costs _ (omega arith)))

pub returns-clause-did : goal.returns-clause-did
returns-clause-did g c =
    let first = c.in_ok-excludes.ensures in
    let same = ap (λ (size : ℕ). lookup_bytes 12 size (query_of c.args.wanted.now)) first.costs.reads.keeps.same_size in
    CallDid-as _ (omega (arith, same)) (CallDid-then first c.definition_in_table.ensures.did)
    (λ file read costs told is ready are. defines_unless file told (query_of c.args.wanted.now) ready.counts _ first.costs (read.1 told is ready.is are))

pub returns-clause-kept : goal.returns-clause-kept
returns-clause-kept g c = record { keeps = λ file held. c.definition_in_table.ensures.kept.keeps file (c.in_ok-excludes.ensures.costs.reads.keeps.same_file ∙ held) }
