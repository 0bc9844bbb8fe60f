-- What stopped the listing is reported after its lines.
use Rattle.elf_listing.proofs.WithinLaws.{asked_within, grows_within, says_within, stopped_within, whole_within}
use Rattle.elf_listing.proofs.show_file.show.Goals as goal

pub returns-in-Ok-clause-text : goal.returns-in-Ok-clause-text
returns-in-Ok-clause-text g c =
    whole_within c.args.caps c.args.parts.0 c.args.store.now.slots c.limit.ensures c.limit-2.ensures c.requires _ _ c.in-Ok.is c.list_with_row-listed.ensures.text

pub returns-in-Err-clause-text : goal.returns-in-Err-clause-text
returns-in-Err-clause-text g c =
    stopped_within c.args.caps c.args.parts.0 c.args.store.now.slots c.limit.ensures c.limit-2.ensures c.requires _ _ _ _ _ _ c.in-Err.is c.show_stop_in.ensures.tells c.list_with_row-listed.ensures.row c.list_with_row-listed.ensures.text c.list_with_row-listed.ensures.cost

pub returns-in-Err-clause-asks : goal.returns-in-Err-clause-asks
returns-in-Err-clause-asks g c =
    asked_within c.args.caps c.args.parts.0 c.args.store.now.slots c.limit.ensures c.limit-2.ensures c.requires _ _ _ _ _ _ c.in-Err.is c.show_stop_in.ensures.tells c.list_with_row-listed.ensures.ceiling c.list_with_row-listed.ensures.unread c.list_with_row-listed.ensures.alone

pub returns-in-Err-clause-says : goal.returns-in-Err-clause-says
returns-in-Err-clause-says g c =
    says_within c.args.caps c.args.parts.0 c.args.store.now.slots c.limit.ensures c.limit-2.ensures c.requires _ _ _ _ _ _ c.in-Err.is c.show_stop_in.ensures.tells c.list_with_row-listed.ensures.ceiling

pub returns-in-Err-clause-grows : goal.returns-in-Err-clause-grows
returns-in-Err-clause-grows g c =
    grows_within c.args.caps c.args.parts.0 c.args.store.now.slots c.limit.ensures c.limit-2.ensures c.requires _ _ _ _ _ _ c.in-Err.is c.show_stop_in.ensures.tells c.show_stop_in.ensures.grows c.list_with_row-listed.ensures.grows
