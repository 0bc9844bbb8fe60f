use Rattle.std.proofs.Common.{sym, ◌∙◌, ap, get_or}
use Rattle.elf_model.specs.Placing.{address_in}
use Rattle.std.proofs.lemmas.List.{get_or_default}
use Rattle.elf_layout.proofs.LentSteps.{nowhere, section_found, section_absent}
use Rattle.elf_layout.proofs.lent.SortedSections.address.Goals as goal

pub returns-in-Ok : goal.returns-in-Ok
returns-in-Ok c =
    let items = c.self.inside.items.now in
    let item = get_or items c.in-Ok.i nowhere in
    sym (section_found items c.args.section c.in-Ok.i item c.in-Ok.ensures (get_or_default items c.in-Ok.i nowhere item c.in-Ok.ensures.0)) ∙ ap (λ l. address_in l c.args.section) c.self.view_is

pub returns-in-Err : goal.returns-in-Err
returns-in-Err c = sym (section_absent c.self.inside.items.now c.args.section c.in-Err.field-0 c.in-Err.ensures) ∙ ap (λ l. address_in l c.args.section) c.self.view_is
