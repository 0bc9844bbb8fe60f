use Rattle.elf_format.proofs.Pairs.{eight}
use Rattle.elf_format.proofs.hexadecimal.hex8.Goals as goal

pub returns : goal.returns
returns c =
    rw (
      c.hex_pair-a.ensures.first,
      c.hex_pair-a.ensures.last,
      c.hex_pair-c.ensures.first,
      c.hex_pair-c.ensures.last,
      c.hex_pair-e.ensures.first,
      c.hex_pair-e.ensures.last,
      c.hex_pair-g.ensures.first,
      c.hex_pair-g.ensures.last,
    )
    (eight c.args.number c.ranges.number.fits)
