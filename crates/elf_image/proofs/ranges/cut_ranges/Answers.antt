-- The calls are the last of the other entries.
use Rattle.std.proofs.Common.{◌≡◌, ◌-◌, ◌<◌, ◌≤◌, sym, ap, ◌∙◌, arith}
use Rattle.elf_model.specs.LoaderScope.{tagged_row}
use Rattle.elf_model.specs.Numbers.{DT_JMPREL}
use Rattle.elf_model.specs.declared.relocation_tables.RelocationTable.TheVariants.{Jmprel}
use Rattle.elf_table.specs.Prelude.{TableRange}
use Rattle.elf_hash.proofs.SegmentLaws.{row_some}
use Rattle.elf_image.proofs.RangeSteps.{cut_few, cut_passes, cut_places, cut_refused, has_calls}
use Rattle.elf_image.proofs.TableSteps.{call_entries, located_address}
use Rattle.elf_image.proofs.ranges.cut_ranges.Goals as goal

pub returns-clause-within : goal.returns-clause-within
returns-clause-within c = λ size w. record { first = c.front_of-first.ensures.within size w.addends; second = w.calls }

pub returns-then-count-len-clause-ranges : goal.returns-then-count-len-clause-ranges
returns-then-count-len-clause-ranges c = λ file at rows are.
    let addends = c.args.tables.now.addends in
    let calls = c.args.tables.now.calls in
    let loaded = has_calls file at addends calls are.addends are.calls c.requires.alike in
    let entries = call_entries file at c.args.rows.now rows in
    let address = located_address file at Jmprel c.args.rows.now.calls loaded.0 entries loaded.1 in
    let row = row_some file (tagged_row file at DT_JMPREL) address.0 (sym address.1 ∙ entries.address) in
    let more : addends.rows.count < calls.rows.count = omega (arith, c.if-count-len.true, c.len.ensures, c.len-count.ensures) in
    rw (c.refused.ensures, c.calls_row.ensures address.0 address.1) (cut_refused file at addends calls are.addends are.calls c.requires.alike address.0.at row.0 more)

pub returns-clause-ranges : goal.returns-clause-ranges
returns-clause-ranges c = λ file at rows are.
    let addends = c.args.tables.now.addends in
    let calls = c.args.tables.now.calls in
    let fits : calls.rows.count ≤ addends.rows.count = omega (arith, c.if-count-len.false, c.len.ensures, c.len-count.ensures) in
    let first = rw c.len-count.ensures at c.front_of-first.ensures.rows in
    let count : c.front_of-first.result.count ≡ addends.rows.count - calls.rows.count = ap (λ (t : TableRange). t.count) first in (
      cut_passes file at addends calls are.addends are.calls c.requires.alike fits,
      record {
        places = cut_places file at addends calls are.addends are.calls c.requires.alike fits c.front_of-first.result first;
        few = rw count (cut_few file at addends calls are.addends are.calls c.requires.alike fits);
        relative = c.relative_count.ensures file at rows;
      },
    )
