-- Each record that is yielded is compared, until none is left.
use Rattle.std.proofs.Common.{◌≡◌, ◌+◌, ◌-◌, ◌*◌, length, arith}
use Rattle.std.proofs.lemmas.Result.{err_from_is_err_and}
use Rattle.elf_table.proofs.Absent.{none-of}
use Rattle.elf_table.proofs.LedgerLaws.{CallDid-as, CallDid-none, CallDid-then}
use Rattle.elf_model.specs.Prelude.{compared_with, pad64}
use Rattle.elf_table.specs.Tables.{strings_in}
use Rattle.elf_note.specs.Reading.{unread}
use Rattle.elf_note.proofs.TakenLaws.{going-did}
use Rattle.elf_loader.proofs.LeftReadings.{left_of}
use Rattle.elf_loader.proofs.RecordWalk.{gone-most, gone_by, walk-gives, walk-next, walk-pays, walk-spends, walk-starts}
use Rattle.elf_loader.proofs.TableLaws.{ended-as, fault-compares, fault-left, fault-met, spent-read, start-as, step-as}
use Rattle.elf_loader.proofs.name_comparison.compare_table.Goals as goal

pub records-init : goal.records-init
records-init g c =
    let starts = c.one_by_one-cursor.ensures.starts in
    record {
      walks = walk-starts starts c.one_by_one-cursor.ensures.alone;
      so_far = CallDid-as _ (omega (arith, starts.left)) (CallDid-none c.args.src.now)
          (λ file told costs. (
            c.one_by_one-cursor.ensures.agrees file,
            λ t others is.
                start-as file c.args.version.now c.args.numbers.now t c.args.records.now others c.one_by_one-cursor.result _ (omega (arith, starts.left)) starts is,
          ));
    }

pub advance-requires : goal.advance-requires
advance-requires g c = let i = c.records.invariant in rw (i.walks.its_table, i.so_far.costs.reads.keeps.same_size) c.requires.within.table

pub returns-in_err-given : goal.returns-in_err-given
returns-in_err-given g c =
    let l = c.records in
    let i = l.invariant in
    let a = c.in_err-given.ensures in
    let new = c.advance.new.self in
    let p = err_from_is_err_and c.from_residual.result c.from_residual.ensures.1 in
    let pad = pad64 (length c.args.version.now + 1) in
    let pays = walk-spends i.walks a.keeps pad a.leaves in
    rw (p.1, p.2)
    (CallDid-as _ (omega (arith, pays.0, pays.1)) (CallDid-then i.so_far (going-did l.cursor.failed _ i.walks.going a.did))
    (λ file told costs t others is.
    let before = told.0 in
    let step = told.1 before.0 in
    fault-compares (28 + pad) (gone_by c.args.records.now l.cursor) (l.cursor.left - new.left) c.args.numbers.now l.numbers l.numbers _ _ (compared_with file c.args.version.now others) _ (before.1 t others is)
    (costs _ (omega arith)) pays.0 (spent-read file c.args.version.now t.strings others l.cursor new a.leaves.1) (fault-left file c.args.version.now t.strings others l.cursor new _ (step.tells i.walks.going))))

pub returns-in_err-compare_record : goal.returns-in_err-compare_record
returns-in_err-compare_record g c =
    let l = c.records in
    let i = l.invariant in
    let a = c.in_ok-given.ensures in
    let new = c.advance.new.self in
    let leaves = rw c.in-Some.is at a.leaves in
    let p = err_from_is_err_and c.from_residual-in_err-compare_record.result c.from_residual-in_err-compare_record.ensures.1 in
    let pad = pad64 (length c.args.version.now + 1) in
    let pays = walk-pays i.walks a.keeps c.in-Some.given pad leaves in
    let read : gone_by c.args.records.now l.cursor + 1 ≡ gone_by c.args.records.now new = omega (arith, leaves.2, i.walks.fewer) in
    rw (p.1, p.2)
    (CallDid-as _ (omega (arith, pays, gone-most c.args.records.now new (28 + pad))) (CallDid-then (CallDid-then i.so_far (going-did l.cursor.failed _ i.walks.going (rw c.in-Some.is at a.did))) c.in_err-compare_record.ensures)
    (λ file told costs t others is.
    let before = told.0.0 in
    let step = told.0.1 before.0 in
    let gives = step.tells i.walks.going in
    let fault = fault-met file c.args.version.now (strings_in file c.args.records.now.names) l.numbers c.compare_record.new.numbers gives.met (left_of file t.strings others l.cursor) (left_of file t.strings others new)
    (compared_with file c.args.version.now (left_of file t.strings others new)) c.in_err-compare_record.field-0.0 (walk-gives i.walks a.keeps file t others is leaves gives step.leads)
    (told.1 gives.met (left_of file t.strings others new) gives.is) in
    fault-compares {n = gone_by c.args.records.now l.cursor * (28 + pad) + (unread l.cursor - unread new) + pad} (28 + pad) (gone_by c.args.records.now l.cursor) 1 c.args.numbers.now l.numbers c.compare_record.new.numbers _ _ (compared_with file c.args.version.now others) _ (before.1 t others is)
    (costs _ (omega arith)) (rw read pays) fault.0 fault.1))

pub records-preserved : goal.records-preserved
records-preserved g c =
    let l = c.records in
    let i = l.invariant in
    let a = c.in_ok-given.ensures in
    let new = c.advance.new.self in
    let leaves = rw c.in-Some.is at a.leaves in
    record {
      walks = walk-next i.walks a.keeps c.in-Some.given leaves;
      so_far = CallDid-as _ (walk-pays i.walks a.keeps c.in-Some.given (pad64 (length c.args.version.now + 1)) leaves)
          (CallDid-then (CallDid-then i.so_far (going-did l.cursor.failed _ i.walks.going (rw c.in-Some.is at a.did))) c.in_ok-compare_record.ensures)
          (λ file told costs.
          let before = told.0.0 in
          let step = told.0.1 before.0 in
          let gives = step.tells i.walks.going in (
            step.agrees,
            λ t others is.
                step-as file c.args.version.now c.args.numbers.now l.numbers c.compare_record.new.numbers (strings_in file c.args.records.now.names) gives.met
                (left_of file t.strings others l.cursor) (left_of file t.strings others new) _ _ _ (omega (arith, leaves.2, i.walks.fewer))
                (walk-gives i.walks a.keeps file t others is leaves gives step.leads) (before.1 t others is) (told.1 gives.met (left_of file t.strings others new) gives.is),
          ));
    }

pub returns : goal.returns
returns g c =
    let l = c.records in
    let i = l.invariant in
    let a = c.in_ok-given.ensures in
    let new = c.advance.new.self in
    let none = none-of c.in_ok-given.field-0 c.in_default.not-Some in
    let pad = pad64 (length c.args.version.now + 1) in
    let same = (rw none at a.leaves).1 in
    let spent : unread l.cursor - unread new ≡ 0 = rw same (omega arith) in
    CallDid-as _ (omega (arith, spent, gone-most c.args.records.now l.cursor (28 + pad))) (CallDid-then i.so_far (going-did l.cursor.failed _ i.walks.going (rw none at a.did)))
    (λ file told costs t others is.
    let before = told.0 in
    let step = told.1 before.0 in (
      gone_by c.args.records.now l.cursor,
      costs _ (omega (arith, spent)),
      ended-as file c.args.version.now c.args.numbers.now l.numbers t others l.cursor new _ _ (step.tells i.walks.going) (before.1 t others is),
    ))
