use Rattle.std.proofs.Common.{arith}
use Rattle.elf_reloc.proofs.RoomSteps.{says_last, spends_last}
use Rattle.elf_reloc.proofs.apply_section.apply_with.Goals as goal

pub returns-clause-applies : goal.returns-clause-applies
returns-clause-applies g c =
    let found = c.apply_within-result.ensures.applies in
    record {
      says = says_last c.args.src.now c.apply_within-result.new.src c.limit.new.self _ c.limit.ensures c.apply_within-result.new.out _ c.apply_within-result.result found.says;
      text = found.text;
      enough = found.enough;
      cost = λ file h. let most = found.cost file h in omega (arith, most, c.limit.ensures.asked);
      reads = spends_last c.args.src.now c.apply_within-result.new.src c.limit.new.self _ c.limit.ensures _ found.reads;
      grows = found.grows;
      wrote = found.wrote;
    }
