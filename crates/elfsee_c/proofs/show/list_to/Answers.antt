-- What is requested is listed; otherwise nothing is.
use Rattle.std.proofs.Common.{length, subst}
use Rattle.elf_capi.specs.Asked.{GivesListing}
use Rattle.elfsee_c.proofs.AskedLaws.{costs_asked, shows_asked}
use Rattle.elfsee_c.proofs.show.list_to.Goals as goal

pub returns-in-Some-clause-shows : goal.returns-in-Some-clause-shows
returns-in-Some-clause-shows c = λ asked names gives.
    let given = subst (GivesListing asked names) c.in-Some.is gives in
    shows_asked c.args.file.now c.args.limits.now (length c.args.room.now) asked names c.in-Some.listing given c.args.out.now c.show_to.new.out c.show_to.new.end c.show_to.result c.show_to.ensures.shows

pub returns-in-Some-clause-cost : goal.returns-in-Some-clause-cost
returns-in-Some-clause-cost c = λ asked names gives.
    let given = subst (GivesListing asked names) c.in-Some.is gives in
    costs_asked c.args.file.now c.args.limits.now (length c.args.room.now) asked names c.in-Some.listing given c.show_to.new.end.asked c.show_to.ensures.cost
