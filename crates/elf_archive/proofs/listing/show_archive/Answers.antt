-- What stopped the listing is reported after its lines.
use Rattle.std.proofs.Common.{of_calls, rules, ◌≡◌, Ok, Err}
use Rattle.elf_archive.proofs.WithinLaws.{asked_stopped, asked_whole, grows_within, says_within, stopped_within, whole_within}
use Rattle.elf_archive.proofs.listing.show_archive.Goals as goal

pub returns-in-Ok-clause-text : goal.returns-in-Ok-clause-text
returns-in-Ok-clause-text g c =
    let reads = c.within-listed.ensures in
    let end : c.within-listed.result ≡ Ok c.in-Ok.refused = search rules in
    whole_within c.args.alone c.args.caps c.args.parts.0 c.args.store.now.slots reads.sets reads.frees c.requires.small _ _ end (search of_calls)

pub returns-in-Ok-clause-asks : goal.returns-in-Ok-clause-asks
returns-in-Ok-clause-asks g c =
    let reads = c.within-listed.ensures in
    asked_whole c.args.alone c.args.caps c.args.parts.0 c.args.store.now.slots reads.sets reads.frees c.requires.small (search of_calls) (search of_calls)

pub returns-in-Err-clause-text : goal.returns-in-Err-clause-text
returns-in-Err-clause-text g c =
    let reads = c.within-listed.ensures in
    let end : c.within-listed.result ≡ Err c.in-Err.stop = search rules in
    stopped_within c.args.alone c.args.caps c.args.parts.0 c.args.store.now.slots reads.sets reads.frees c.requires.small c.args.out.now _ _ _ _ _ end c.show_stop.ensures.tells (search of_calls)

pub returns-in-Err-clause-asks : goal.returns-in-Err-clause-asks
returns-in-Err-clause-asks g c =
    let reads = c.within-listed.ensures in
    let end : c.within-listed.result ≡ Err c.in-Err.stop = search rules in
    asked_stopped c.args.alone c.args.caps c.args.parts.0 c.args.store.now.slots reads.sets reads.frees c.requires.small c.args.out.now _ _ _ _ _ end c.show_stop.ensures.tells (search of_calls) (search of_calls)

pub returns-in-Err-clause-says : goal.returns-in-Err-clause-says
returns-in-Err-clause-says g c =
    let reads = c.within-listed.ensures in
    let end : c.within-listed.result ≡ Err c.in-Err.stop = search rules in
    says_within c.args.alone c.args.caps c.args.parts.0 c.args.store.now.slots reads.sets reads.frees c.requires.small c.args.out.now _ _ _ _ _ end c.show_stop.ensures.tells (search of_calls)

pub returns-in-Err-clause-grows : goal.returns-in-Err-clause-grows
returns-in-Err-clause-grows g c =
    let reads = c.within-listed.ensures in
    let end : c.within-listed.result ≡ Err c.in-Err.stop = search rules in
    grows_within c.args.alone c.args.caps c.args.parts.0 c.args.store.now.slots reads.sets reads.frees c.requires.small c.args.out.now _ _ _ _ _ end c.show_stop.ensures.tells (search of_calls) c.show_stop.ensures.grows
