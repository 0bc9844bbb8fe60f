-- The limit is removed last.
use Rattle.std.proofs.Common.{arith}
use Rattle.elf_reloc.proofs.RoomSteps.{says_last, spends_last}
use Rattle.elf_reloc.proofs.section_bytes.write_bytes.Goals as goal

pub returns-clause-writes : goal.returns-clause-writes
returns-clause-writes g c =
    let found = c.write_within-result.ensures.writes in
    record {
      says = says_last c.args.src.now c.write_within-result.new.src c.limit.new.self _ c.limit.ensures c.write_within-result.new.out _ c.write_within-result.result found.says;
      text = found.text;
      enough = found.enough;
      cost = λ file h. let most = found.cost file h in omega (arith, most, c.limit.ensures.asked);
      reads = spends_last c.args.src.now c.write_within-result.new.src c.limit.new.self _ c.limit.ensures _ found.reads;
      grows = found.grows;
      wrote = found.wrote;
    }
