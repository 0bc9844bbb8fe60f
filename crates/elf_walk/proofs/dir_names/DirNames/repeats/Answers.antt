use Rattle.std.proofs.Common.{rules, arith, ◌≡◌, ◌-◌, []}
use Rattle.std.specs.Prelude.{bytes_eq, slice_index_or}
use Rattle.elf_walk.proofs.SortedLaws.{repeats_is}
use Rattle.elf_walk.proofs.dir_names.DirNames.repeats.Goals as goal

pub returns : goal.returns
returns c =
    let is : c.eq.result ≡ bytes_eq (slice_index_or c.args.self.now c.args.index []) (slice_index_or c.args.self.now (c.args.index - 1) []) = search rules in
    repeats_is c.args.self.now c.args.index c.eq.result (omega (arith, c.if-index-eq0.false)) is
