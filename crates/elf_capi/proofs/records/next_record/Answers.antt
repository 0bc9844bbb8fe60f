-- A cursor that goes on where the numbers say steps as they do.
use Rattle.std.proofs.Common.{rules, ◌≡◌, ◌-◌, Some, None, Ok, Err, option_map, refl, sym, ap, ◌∙◌, arith, length}
use Rattle.elf_model.specs.Versions.{visited_from, next_position, with_visited}
use Rattle.elf_model.proofs.VersionSteps.{met-ended}
use Rattle.elf_source.specs.Source.{SourceState}
use Rattle.elf_table.specs.Prelude.{TableRange}
use Rattle.elf_table.specs.declared.fault.Fault.TheVariants.{Refused}
use Rattle.elf_note.specs.Reading.{BufferedTable, IsCursorOf, record_position_of, versions_left}
use Rattle.elf_capi.specs.VersionRecords.{bytes_within, records_left, standing_in}
use Rattle.elf_capi.proofs.RecordLaws.{goes_on, left_is, visited_inside}
use Rattle.elf_capi.proofs.records.next_record.Goals as goal

pub returns-in_default : goal.returns-in_default
returns-in_default c =
    let file = c.args.file.now in
    let records = c.args.records.now in
    let size = bytes_within (length file) records in
    let none : None ≡ standing_in size records = rw (c.table-table.ensures.count) at c.in_default.ensures.is_at in
    (ap (λ o. visited_from file records.at size o records.left) (sym none) ∙ met-ended file records.at size records.left, refl)

pub advance-met-requires : goal.advance-met-requires
advance-met-requires c = λ some.
    let file = c.args.file.now in
    let known = ap (λ (s : SourceState). s.file) c.new-src.ensures.seen ∙ ap Some c.new.ensures in
    let sized = c.new-src.result.seen.sized file known in
    let its = c.resumed-cursor.ensures.its_table in
    let at = ap (λ (t : TableRange). t.at) its ∙ c.table-table.ensures.at in
    let count = ap (λ (t : TableRange). t.count) its ∙ c.table-table.ensures.count in
    let entry = ap (λ (t : TableRange). t.entry) its ∙ c.table-table.ensures.bytes in
    rw entry (omega (arith, some, sized, at, count))

pub returns-in-Ok-Some : goal.returns-in-Ok-Some
returns-in-Ok-Some c =
    let file = c.args.file.now in
    let records = c.args.records.now in
    let table = c.table-table.result in
    let size = bytes_within (length file) records in
    let old = c.resumed-cursor.result in
    let new = c.advance-met.new.self in
    let resumed = c.resumed-cursor.ensures in
    let stand = record_position_of c.in-Some.standing in
    let known = ap (λ (s : SourceState). s.file) c.new-src.ensures.seen ∙ ap Some c.new.ensures in
    let met : c.advance-met.result ≡ Ok (Some c.in-Ok-Some.record) = search rules in
    let agrees : IsCursorOf file old = record {
      held = λ whole. absurd (let false = resumed.alone in cc);
      ahead = rw (resumed.its_table, resumed.is_at) c.in-Some.ensures.knows;
    } in
    let step = rw met at (c.advance-met.ensures.did.known file known agrees) in
    let gives = step.tells resumed.going in
    let leaves = rw met at c.advance-met.ensures.leaves in
    let before = left_is file records table (Some c.in-Some.standing) old c.table-table.ensures.at c.table-table.ensures.count c.in-Some.ensures.is_at resumed.its_table resumed.is_at resumed.left in
    let stood : Some stand ≡ standing_in size records = rw (c.table-table.ensures.count) at c.in-Some.ensures.is_at in
    let first = sym before ∙ gives.first in
    let inside = visited_inside file records.at size records.left stand gives.met (versions_left file new) (ap (λ o. visited_from file records.at size o records.left) stood ∙ first) in
    let held = ap (λ (h : BufferedTable). h.table) c.advance-met.ensures.keeps.same_held ∙ resumed.its_table in
    let at = ap (λ (t : TableRange). t.at) held ∙ c.table-table.ensures.at in
    let count = ap (λ (t : TableRange). t.count) held ∙ c.table-table.ensures.count in
    let leads : option_map record_position_of new.standing ≡ next_position file records.at stand =
    rw (resumed.is_at, resumed.its_table, c.table-table.ensures.at) at step.leads in
    let all = rw (count) at c.standing-in-Ok-Some.ensures.fits in
    let is = c.standing-in-Ok-Some.ensures.is in
    let owned = rw (c.table-table.ensures.count) at c.in-Some.ensures.owned in
    let less : new.left ≡ records.left - 1 = omega (arith, leaves.2, resumed.left) in
    let behind = goes_on file records c.go.new.self stand c.standing-in-Ok-Some.result new.each c.table-table.ensures.small inside owned (ap (λ o. option_map record_position_of o) is ∙ leads) all c.go.ensures in
    let left : versions_left file new ≡ records_left file c.go.new.self = rw (at, count, less, ← is) (sym behind) in (
      gives.met,
      first ∙ ap (with_visited gives.met) left,
      c.of.ensures file gives.met gives.is,
      search rules,
    )

pub returns-in-Ok-None : goal.returns-in-Ok-None
returns-in-Ok-None c =
    let file = c.args.file.now in
    let records = c.args.records.now in
    let old = c.resumed-cursor.result in
    let resumed = c.resumed-cursor.ensures in
    let known = ap (λ (s : SourceState). s.file) c.new-src.ensures.seen ∙ ap Some c.new.ensures in
    let met : c.advance-met.result ≡ Ok None = search rules in
    let agrees : IsCursorOf file old = record {
      held = λ whole. absurd (let false = resumed.alone in cc);
      ahead = rw (resumed.its_table, resumed.is_at) c.in-Some.ensures.knows;
    } in
    let step = rw met at (c.advance-met.ensures.did.known file known agrees) in
    let before = left_is file records c.table-table.result (Some c.in-Some.standing) old c.table-table.ensures.at c.table-table.ensures.count c.in-Some.ensures.is_at resumed.its_table resumed.is_at resumed.left in
    (sym before ∙ step.tells resumed.going, refl)

pub returns-in-Err-Refused : goal.returns-in-Err-Refused
returns-in-Err-Refused c =
    let file = c.args.file.now in
    let records = c.args.records.now in
    let old = c.resumed-cursor.result in
    let resumed = c.resumed-cursor.ensures in
    let known = ap (λ (s : SourceState). s.file) c.new-src.ensures.seen ∙ ap Some c.new.ensures in
    let met : c.advance-met.result ≡ Err (Refused c.in-Err-Refused.refusal) = search rules in
    let agrees : IsCursorOf file old = record {
      held = λ whole. absurd (let false = resumed.alone in cc);
      ahead = rw (resumed.its_table, resumed.is_at) c.in-Some.ensures.knows;
    } in
    let step = rw met at (c.advance-met.ensures.did.known file known agrees) in
    let says = rw (resumed.going, met) at c.advance-met.ensures.did.costs.says in
    let before = left_is file records c.table-table.result (Some c.in-Some.standing) old c.table-table.ensures.at c.table-table.ensures.count c.in-Some.ensures.is_at resumed.its_table resumed.is_at resumed.left in
    (sym before ∙ step.tells resumed.going (λ budget. let set = (says budget).1.is_set in let free = c.new-src.ensures.free in cc), refl)
