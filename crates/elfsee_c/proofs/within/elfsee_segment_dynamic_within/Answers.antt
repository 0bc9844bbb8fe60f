-- What was opened is returned, and its entries count.
use Rattle.std.proofs.Common.{ap, Some, ◌∙◌, ◌*◌}
use Rattle.elf_capi.specs.Within.{asked_more, entries_looked}
use Rattle.elfsee_c.proofs.within.elfsee_segment_dynamic_within.Goals as goal

pub returns-clause-tells : goal.returns-clause-tells
returns-clause-tells c =
    let opened = Some c.segment_dynamic_within.result in
    record {
      opened = opened;
      is_opened = rw (c.entries_left-most.ensures) at c.segment_dynamic_within.ensures;
      tells = c.report_opened.ensures;
      counts = c.count_entries.ensures ∙ ap (λ most. asked_more c.args.asked.now (16 * entries_looked most opened)) c.entries_left-most.ensures;
    }
