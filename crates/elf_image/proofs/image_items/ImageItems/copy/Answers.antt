use Rattle.std.proofs.Common.{Some, sym, ap, ◌∙◌, get_or, []}
use Rattle.std.proofs.lemmas.List.{get_or_default}
use Rattle.elf_image.specs.Items.{copy_bytes}
use Rattle.elf_image.specs.declared.image_items.CopyItem.{CopyItem}
use Rattle.elf_image.proofs.ItemSteps.{copy_absent, copy_found}
use Rattle.elf_image.proofs.image_items.ImageItems.copy.Goals as goal

-- a copy without an item
abbrev nothing : CopyItem
nothing = record { index = 0; digits = 0; bytes = record { ref_ptr = (0, 0); now = [] } }

pub returns-in-Ok : goal.returns-in-Ok
returns-in-Ok c =
    let items = c.args.self.now.copies.now in
    let item = get_or items c.in-Ok.found nothing in
    ap (λ bytes. Some (copy_bytes bytes)) c.copied.ensures
    ∙ sym (copy_found items c.args.index c.in-Ok.found item c.in-Ok.ensures (get_or_default items c.in-Ok.found nothing item c.in-Ok.ensures.0))

pub returns-in-Err : goal.returns-in-Err
returns-in-Err c =
    sym (copy_absent c.args.self.now.copies.now c.args.index c.in-Err.field-0 nothing c.in-Err.ensures)
