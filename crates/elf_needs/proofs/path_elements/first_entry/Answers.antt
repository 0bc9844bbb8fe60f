use Rattle.std.proofs.Common.{zero-le, [], ◌∙◌, refl, add-one}
use Rattle.std.proofs.lemmas.List.{take_rest}
use Rattle.elf_needs.proofs.PartLaws.{split_at_sign, parted_whole}
use Rattle.elf_needs.proofs.path_elements.first_entry.Goals as goal

pub returns-in-Some-clause-parted : goal.returns-in-Some-clause-parted
returns-in-Some-clause-parted c =
    let text = c.args.text.now in
    let first = split_at_sign c.args.separator [] text c.in-Some.end c.in-Some.ensures.0.high c.in-Some.ensures.1 (λ k low is. c.in-Some.ensures.0.before k zero-le low is) in
    first ∙ rw (add-one, take_rest) refl

pub returns-in-None-clause-parted : goal.returns-in-None-clause-parted
returns-in-None-clause-parted c = parted_whole c.args.separator [] c.args.text.now (λ k low is. c.in-None.ensures k zero-le low is)
