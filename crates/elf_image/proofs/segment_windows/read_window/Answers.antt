use Rattle.std.proofs.Common.{arith}
use Rattle.elf_image.proofs.MaskSteps.{masked-costs, masked-file}
use Rattle.elf_image.proofs.segment_windows.read_window.Goals as goal

pub returns-clause-costs : goal.returns-clause-costs
returns-clause-costs g c =
    masked-costs c.args.target.now.hides c.requires.masked c.mask_section_headers.ensures c.mask_section_headers-2.ensures _ _ c.read-window.ensures.costs

pub returns-clause-shows : goal.returns-clause-shows
returns-clause-shows g c = λ whole is small.
    c.read-window.ensures.shows whole (masked-file _ _ c.args.target.now.hides whole c.mask_section_headers.ensures is) (omega (arith, c.mask_section_headers.ensures.same_size, small))
