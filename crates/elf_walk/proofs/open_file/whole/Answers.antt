-- A range of all bytes of a source, from which nothing was requested.
use Rattle.std.proofs.Common.{arith, subst, sym}
use Rattle.elf_source.specs.Ranges.{IsWholeRange}
use Rattle.elf_walk.proofs.open_file.whole.Goals as goal

pub returns-clause-whole : goal.returns-clause-whole
returns-clause-whole g c = record {
  whole = subst IsWholeRange (sym c.new-2.ensures.seen) c.new.ensures.whole;
  shows = c.new-2.ensures.shows;
  few = omega (arith, c.new-2.ensures.asked);
}
