-- The tables that the lookup searches, and the lookup in them.
use Rattle.std.proofs.Common.{ℕ, ap, arith}
use Rattle.std.proofs.lemmas.Result.{err_from_is_err_and}
use Rattle.elf_table.proofs.LedgerLaws.{CallDid-as, CallDid-then}
use Rattle.elf_loader.specs.Lookups.{lookup_bytes}
use Rattle.elf_loader.proofs.LookLaws.{looks_scoped, looks_unscoped}
use Rattle.elf_loader.proofs.ReadLaws.{ceiling_is}
use Rattle.elf_options.specs.Wants.{query_of}
use Rattle.elf_loader.proofs.loader_lookup.lookup_and_read_version.Goals as goal

pub returns-in_err-scope-clause-did : goal.returns-in_err-scope-clause-did
returns-in_err-scope-clause-did g c =
    let p = err_from_is_err_and c.from_residual.result c.from_residual.ensures.1 in
    let ceiling = ceiling_is c.args.src.now.seen.size c.args.store.now.slots (query_of c.args.wanted.now) in
    rw (p.1, p.2)
    (CallDid-as _ (omega (arith, ceiling)) c.in_err-scope.ensures.did
    (λ file finds costs. looks_unscoped file c.args.store.now.slots (query_of c.args.wanted.now) c.args.name.now _ finds.costs finds.finds))

pub returns-clause-did : goal.returns-clause-did
returns-clause-did g c =
    let ceiling = ceiling_is c.args.src.now.seen.size c.args.store.now.slots (query_of c.args.wanted.now) in
    let same = ap (λ (size : ℕ). lookup_bytes 28 size (query_of c.args.wanted.now)) c.in_ok-scope.ensures.did.costs.reads.keeps.same_size in
    CallDid-as _ (omega (arith, ceiling, same)) (CallDid-then c.in_ok-scope.ensures.did c.look_in.ensures)
    (λ file read costs.
    let found = read.0.finds in
    looks_scoped file c.args.store.now.slots (query_of c.args.wanted.now) found.0 found.1 c.look_in.new.name _ read.0.costs (read.1 found.0 found.2))
