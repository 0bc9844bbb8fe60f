-- The bytes so far are put into the window.
use Rattle.elf_image.specs.Items.{bytes_from}
use Rattle.elf_image.specs.SegmentParts.{KeepsEdges, PutsBytes}
use Rattle.elf_image.proofs.window.ImageWindow.put_copied.Given as goal

abbrev pub invariant-loop-i : goal.invariant-loop-i
invariant-loop-i l = record {
  edges : KeepsEdges l.fn.self l.self;
  puts : PutsBytes l.fn.self l.self l.offset (bytes_from l.bytes 0 l.i);
}
