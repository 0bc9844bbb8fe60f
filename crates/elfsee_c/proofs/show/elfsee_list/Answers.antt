-- What was listed is returned as numbers.
use Rattle.std.proofs.Common.{None, length}
use Rattle.elf_capi.specs.Prelude.{AreCaps, AsksListing, parts_in, style_in}
use Rattle.elfsee_c.proofs.AskedLaws.{told_listing}
use Rattle.elfsee_c.proofs.show.elfsee_list.Goals as goal

pub returns : goal.returns
returns c =
    let limits = c.args.limits.now in
    let room = length c.args.room.now in
    let asked = c.args.asked.now in
    let did = c.list_to-told.ensures in
    let gives = c.caller_listing_of.ensures in
    told_listing (AreCaps limits room × AsksListing asked None) c.args.file.now limits room (style_in asked None limits.name) (parts_in asked) c.report_status.result c.args.out.now c.list_to-told.new.out
    c.list_to-told.new.end c.report_status.new.end c.list_to-told.result (did.shows asked None gives) did.within (did.cost asked None gives) did.budget c.report_status.ensures.written c.report_status.ensures.asked c.report_status.ensures.status
