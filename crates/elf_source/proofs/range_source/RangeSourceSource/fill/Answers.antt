use Rattle.std.proofs.Common.{sym, length}
use Rattle.elf_source.proofs.RangeLaws.{range_slice}
use Rattle.elf_source.proofs.range_source.RangeSourceSource.fill.Goals as goal

pub returns-clause-slice : goal.returns-clause-slice
returns-clause-slice g c = λ file held.
    range_slice c.fill.result c.args.self.now file c.fill.new.out c.args.at (length c.args.out.now) c.requires held (rw (sym c.self.view_is) c.fill.ensures.slice)
