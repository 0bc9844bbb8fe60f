use Rattle.elf_resolve.proofs.StopMemberLaws.{last_index, taken_stops}
use Rattle.elf_resolve.proofs.resolver.Resolver.stopped_at.Goals as goal

pub returns-in_default-asked-clause-stops : goal.returns-in_default-asked-clause-stops
returns-in_default-asked-clause-stops c = λ files file old whole held file_is none.
    let rows = c.args.self.now.link.rows.rows in
    taken_stops files file c.args.archive.input old rows whole c.args.fault c.args.asked c.in-Some.fault c.in-Some.is held c.checked_sub-self.result file_is none
    (λ before row are. last_index before rows row c.len.result c.checked_sub-self.result c.len.ensures c.checked_sub-self.ensures are)
