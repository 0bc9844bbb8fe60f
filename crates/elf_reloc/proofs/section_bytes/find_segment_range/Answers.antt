-- The section header fields of the file header are masked meanwhile.
use Rattle.std.proofs.Common.{sym}
use Rattle.elf_source.specs.Source.{MasksSectionHeaders}
use Rattle.elf_reloc.proofs.QueriedSteps.{segment_hidden}
use Rattle.elf_reloc.proofs.section_bytes.find_segment_range.Goals as goal

pub returns-clause-did : goal.returns-clause-did
returns-clause-did g c =
    let show : MasksSectionHeaders c.shown_segment_range-found.new.src c.mask_section_headers-2.new.self c.args.src.now.hides = rw (sym c.hides-hides.ensures) c.mask_section_headers-2.ensures in
    segment_hidden _ _ _ c.mask_section_headers.ensures show c.shown_segment_range-found.ensures.did
