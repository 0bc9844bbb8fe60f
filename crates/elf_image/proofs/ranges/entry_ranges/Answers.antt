-- The tables one after the other, or apart.
use Rattle.std.proofs.Common.{sym, ◌∙◌, refl}
use Rattle.elf_model.specs.ImageChecks.{linkage_table, rela_table}
use Rattle.elf_image.proofs.RangeSteps.{apart_checks, apart_few, apart_ranges}
use Rattle.elf_image.proofs.ranges.entry_ranges.Goals as goal

pub returns-clause-ranges : goal.returns-clause-ranges
returns-clause-ranges c = λ file at rows are.
    let addends = c.args.tables.now.addends in
    let calls = c.args.tables.now.calls in
    let apart = sym c.end_alike.ensures ∙ c.if-end_alike.false in (
      apart_checks addends calls file at (rela_table file at) (linkage_table file at) refl refl are.addends are.calls apart,
      record {
        places = rw c.are_consecutive.ensures (apart_ranges addends calls (rela_table file at) (linkage_table file at) are.addends are.calls apart);
        few = apart_few addends calls (rela_table file at) (linkage_table file at) are.addends are.calls;
        relative = c.relative_count.ensures file at rows;
      },
    )
