use Rattle.std.proofs.Common.{◌≡◌, ◌-◌, length, arith}
use Rattle.elf_resolve.proofs.OpenedLaws.{outside_put}
use Rattle.elf_resolve.proofs.archive_searches.search_members.Goals as goal

pub returns-clause-outside : goal.returns-clause-outside
returns-clause-outside g c = λ fits.
    let range = c.within-start.result in
    let count : length c.search_archive-ended.new.taken ≡ range.1 - range.0 = omega (arith, c.search_archive-ended.auto.taken) in
    outside_put c.args.taken.now c.search_archive-ended.new.taken range c.args.archive.members (c.within-start.ensures.same fits) c.within-start.ensures.is_range.0 c.within-start.ensures.is_range.1 count
