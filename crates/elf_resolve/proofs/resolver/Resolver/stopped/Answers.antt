use Rattle.std.proofs.Common.{Err, subst}
use Rattle.elf_resolve.specs.SearchStops.{EndsSearch}
use Rattle.elf_resolve.proofs.resolver.Resolver.stopped.Goals as goal

pub returns-in-Full-clause-stops : goal.returns-in-Full-clause-stops
returns-in-Full-clause-stops c = λ files file old whole ends file_is none.
    let at = subst (λ s. EndsSearch files.headers file c.args.archive.input old c.args.self.now.link.rows.rows whole c.args.fault c.args.asked (Err s)) c.in-Full.is ends in
    c.stopped_at.ensures.stops files file old whole at file_is none

pub returns-in-Unreadable-clause-stops : goal.returns-in-Unreadable-clause-stops
returns-in-Unreadable-clause-stops c = λ files file old whole ends file_is none.
    let at = subst (λ s. EndsSearch files.headers file c.args.archive.input old c.args.self.now.link.rows.rows whole c.args.fault c.args.asked (Err s)) c.in-Unreadable.is ends in
    c.stopped_at-in-Unreadable.ensures.stops files file old whole at file_is none
