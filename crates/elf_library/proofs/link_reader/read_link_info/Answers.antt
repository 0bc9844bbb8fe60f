-- The section header fields of the file header are masked meanwhile.
use Rattle.std.proofs.Common.{sym}
use Rattle.elf_model.specs.Links.{links_ceiling}
use Rattle.elf_source.specs.Source.{MasksSectionHeaders}
use Rattle.elf_library.proofs.ReadingLaws.{found_hidden}
use Rattle.elf_library.proofs.link_reader.read_link_info.Goals as goal

pub returns-clause-did : goal.returns-clause-did
returns-clause-did g c =
    let show : MasksSectionHeaders c.shown_links-found.new.src c.mask_section_headers-2.new.self c.args.src.now.hides = rw (sym c.hides-hides.ensures) c.mask_section_headers-2.ensures in
    found_hidden _ _ _ _ _ (λ size. links_ceiling size c.args.store.now.slots) c.mask_section_headers.ensures show c.shown_links-found.ensures.did
