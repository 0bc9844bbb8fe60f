-- What the arguments allow and provide is what the call is made with.
use Rattle.std.proofs.Common.{◌≡◌, length, ap, ◌∙◌}
use Rattle.elf_table.specs.Store.{StoreState}
use Rattle.elf_capi.specs.Limits.{headers_of}
use Rattle.elfsee_c.proofs.PlacingLaws.{places}
use Rattle.elfsee_c.proofs.place_export.place_in.Goals as goal

pub returns-clause-places : goal.returns-clause-places
returns-clause-places c =
    let args = c.args in
    let room = length args.room.now in
    let did = c.place_section.ensures in
    let new = c.place_section.new in
    let permits : c.over-store.result.slots ≡ headers_of args.limits.now room = ap (λ (s : StoreState). s.slots) c.over-store.ensures ∙ c.in-Some.ensures.1 in
    places args.file.now args.limits.now args.section args.layout.now room args.out.now new.out new.end new.missing c.place_section.result c.over-store.result.slots c.in-Some.limits.budget c.lent-addresses.result
    permits c.in-Some.ensures.2 (c.lent-addresses.ensures ∙ c.in-Some-lend.ensures.1) c.in-Some.ensures.0 c.in-Some-lend.ensures.0 did.applies did.explains did.cost did.budget
