-- The arguments are in range, so the call is made with them.
use Rattle.std.proofs.Common.{◌≡◌, ◌^◌, ◌-◌, ◌==◌, ◌≤◌, length, ap, ◌∙◌, arith}
use Rattle.elf_table.specs.Store.{StoreState}
use Rattle.elf_image.specs.Items.{GivenItems, said_by}
use Rattle.elf_capi.proofs.BudgetLaws.{spends_less}
use Rattle.elf_capi.proofs.ImageLaws.{images, images_count}
use Rattle.elf_capi.specs.Images.{said_items}
use Rattle.elf_capi.specs.Limits.{headers_of}
use Rattle.elf_capi.specs.declared.end.CallEnd.{CallEnd}
use Rattle.elfsee_c.proofs.image_export.image_in.Goals as goal

pub returns-clause-images : goal.returns-clause-images
returns-clause-images c =
    let args = c.args in
    let room = length args.room.now in
    let wide : 16 ≤ length args.window.now = omega (arith, c.if-window-lt-WINDOW_BYTES.false) in
    let start = c.clear.new.self in
    let did = c.write_segment-written in
    let end : CallEnd = record { at = start.at; written = did.result; asked = c.short-end.result; cause = start.cause; none = start.none } in
    let permits : c.over-store.result.slots ≡ headers_of args.limits.now room = ap (λ (s : StoreState). s.slots) c.over-store.ensures ∙ c.in-Some.ensures.1 in
    let says : said_by _ (args.items.now.partial == 1) ≡ said_items args.items.now = ap (λ (g : GivenItems). said_by g (args.items.now.partial == 1)) c.in-Some-lend.ensures.1 in
    images args.file.now args.limits.now args.segment args.items.now room (length args.window.now) args.out.now did.new.out end did.new.outcome.told c.over-store.result.slots c.in-Some.limits.budget _
    permits c.in-Some.ensures.2 says (c.in-Some.ensures.0, c.in-Some-lend.ensures.0) wide did.ensures.text
    (omega (arith, c.short-end.ensures, did.ensures.cost)) (spends_less c.in-Some.limits.budget c.short-end.result did.new.outcome.asked (omega (arith, c.short-end.ensures)) did.ensures.budget)

pub returns-clause-written : goal.returns-clause-written
returns-clause-written c =
    let start = c.clear.new.self in
    let did = c.write_segment-written in
    let end : CallEnd = record { at = start.at; written = did.result; asked = c.short-end.result; cause = start.cause; none = start.none } in
    images_count c.args.file.now c.over-store.result.slots c.in-Some.limits.budget c.args.segment (2 ^ 64 - 1) (length c.args.window.now) _ did.new.out end did.new.outcome.told did.ensures.text
