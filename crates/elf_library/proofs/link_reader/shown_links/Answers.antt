-- The load, and what follows.
use Rattle.std.proofs.Common.{ℕ, ◌/◌, ap, arith}
use Rattle.std.proofs.lemmas.Result.{err_from_is_err_and}
use Rattle.elf_table.proofs.LedgerLaws.{CallDid-as, CallDid-then}
use Rattle.elf_library.proofs.ReadingLaws.{ceiling_is, links_as, load_stops, shown_is}
use Rattle.elf_library.proofs.link_reader.shown_links.Goals as goal

pub returns-in_err-loaded-clause-did : goal.returns-in_err-loaded-clause-did
returns-in_err-loaded-clause-did g c =
    let p = err_from_is_err_and c.from_residual.result c.from_residual.ensures.1 in
    let ceiling = ceiling_is c.args.src.now.seen.size c.args.store.now.slots in
    rw (p.1, p.2)
    (CallDid-as _ (omega (arith, ceiling)) c.in_err-loaded.ensures.did
    (λ file told costs none. (load_stops file c.args.store.now.slots c.args.links.now.held.room c.args.links.now c.args.links.now _ c.load_by_segments.new.store (told none).loads, tt)))

pub returns-clause-did : goal.returns-clause-did
returns-clause-did g c =
    let ceiling = ceiling_is c.args.src.now.seen.size c.args.store.now.slots in
    let first = c.in_ok-loaded.ensures.did in
    let same = first.costs.reads.keeps.same_size in
    let part = ap (λ (n : ℕ). n / 16) same in
    CallDid-as _ (omega (arith, ceiling, same, part)) (CallDid-then first c.link_info_by_segments.ensures)
    (λ file told costs none.
    let loads = (told.0 none).loads in
    let links = told.1 loads.1 in
    (links_as _ _ _ _ _ (shown_is file c.args.store.now.slots c.args.links.now.held.room loads.0) links.0, links.1))
