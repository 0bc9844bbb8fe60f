-- The header's fields for section headers are masked meanwhile.
use Rattle.std.proofs.Common.{sym}
use Rattle.elf_model.specs.TraitCost.{segment_traits_ceiling}
use Rattle.elf_source.specs.Source.{MasksSectionHeaders}
use Rattle.elf_loader.proofs.HidingLaws.{found_hidden}
use Rattle.elf_loader.proofs.hardening.masked_traits.Goals as goal

pub returns-clause-did : goal.returns-clause-did
returns-clause-did g c =
    let show : MasksSectionHeaders c.shown_traits-found.new.src c.mask_section_headers-2.new.self c.args.src.now.hides = rw (sym c.hides-hides.ensures) c.mask_section_headers-2.ensures in
    found_hidden (λ size. segment_traits_ceiling size c.args.store.now.slots) c.mask_section_headers.ensures show c.shown_traits-found.ensures.did
