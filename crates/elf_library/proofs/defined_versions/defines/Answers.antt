-- Each record that is yielded is compared, until one is the version or none is left.
use Rattle.std.proofs.Common.{◌+◌, ◌-◌, ◌≡◌, [], ap, length, ◌∙◌, arith}
use Rattle.std.proofs.lemmas.Result.{err_from_is_err_and}
use Rattle.elf_table.proofs.Absent.{none-of}
use Rattle.elf_table.proofs.LedgerLaws.{CallDid-as, CallDid-none, CallDid-then}
use Rattle.elf_model.specs.Prelude.{define_version, pad64}
use Rattle.elf_note.specs.Reading.{unread}
use Rattle.elf_note.proofs.TakenLaws.{going-did}
use Rattle.elf_loader.proofs.LeftReadings.{left_of, start-left}
use Rattle.elf_loader.proofs.RecordWalk.{gone-most, walk-gives, walk-next, walk-pays, walk-spends, walk-starts}
use Rattle.elf_library.proofs.DefinedLaws.{at_first, define_ends, define_fails, met_kind, next_kind, refuses_then}
use Rattle.elf_library.proofs.defined_versions.defines.Goals as goal

pub records-init : goal.records-init
records-init g c =
    let starts = c.one_by_one-cursor.ensures.starts in
    let cursor = c.one_by_one-cursor.result in
    record {
      walks = walk-starts starts c.one_by_one-cursor.ensures.alone;
      so_far = CallDid-as _ (omega (arith, starts.left)) (CallDid-none c.args.src.now)
          (λ file told costs. (
            c.one_by_one-cursor.ensures.agrees file,
            λ told is kind. (at_first cursor.standing _ _ _ starts.standing kind, ap (define_version file c.args.version.now c.args.hash) (start-left file told c.args.records.now [] cursor starts is)),
          ));
    }

pub returns-in_err-given : goal.returns-in_err-given
returns-in_err-given g c =
    let l = c.records in
    let i = l.invariant in
    let a = c.in_err-given.ensures in
    let p = err_from_is_err_and c.from_residual.result c.from_residual.ensures.1 in
    let pad = pad64 (length c.args.version.now + 1) in
    let pays = walk-spends i.walks a.keeps pad a.leaves in
    record {
      did =
          rw (p.1, p.2)
          (CallDid-as _ (omega (arith, pays.0, pays.1)) (CallDid-then i.so_far (going-did l.cursor.failed _ i.walks.going a.did))
          (λ file read costs told is kind.
          let before = read.0.1 told is kind in
          let step = read.1 read.0.0 in
          refuses_then _ _ c.in_err-given.field-0.0 before.1 (define_fails file c.args.version.now c.args.hash told.strings l.cursor c.advance.new.self c.in_err-given.field-0.0 (step.tells i.walks.going))));
    }

pub returns-in_err-is_version : goal.returns-in_err-is_version
returns-in_err-is_version g c =
    let l = c.records in
    let i = l.invariant in
    let a = c.in_ok-given.ensures in
    let new = c.advance.new.self in
    let leaves = rw c.in-Some.is at a.leaves in
    let p = err_from_is_err_and c.from_residual-in_err-is_version.result c.from_residual-in_err-is_version.ensures.1 in
    let pad = pad64 (length c.args.version.now + 1) in
    let pays = walk-pays i.walks a.keeps c.in-Some.given pad leaves in
    record {
      did =
          rw (p.1, p.2)
          (CallDid-as _ (omega (arith, pays, gone-most c.args.records.now new (28 + pad)))
          (CallDid-then (CallDid-then i.so_far (going-did l.cursor.failed _ i.walks.going (rw c.in-Some.is at a.did))) c.in_err-is_version.ensures.did)
          (λ file read costs told is kind.
          let before = read.0.0.1 told is kind in
          let step = read.0.1 read.0.0.0 in
          let gives = step.tells i.walks.going in
          refuses_then _ _ c.in_err-is_version.field-0.0
          (before.1 ∙ ap (define_version file c.args.version.now c.args.hash) (walk-gives i.walks a.keeps file told [] is leaves gives step.leads))
          (read.1 gives.met (left_of file told.strings [] new) gives.is (met_kind file l.cursor new c.in-Some.given gives before.0))));
    }

pub returns-then-branch : goal.returns-then-branch
returns-then-branch g c =
    let l = c.records in
    let i = l.invariant in
    let a = c.in_ok-given.ensures in
    let new = c.advance.new.self in
    let leaves = rw c.in-Some.is at a.leaves in
    let pad = pad64 (length c.args.version.now + 1) in
    let pays = walk-pays i.walks a.keeps c.in-Some.given pad leaves in
    record {
      did = CallDid-as _ (omega (arith, pays, gone-most c.args.records.now new (28 + pad)))
          (CallDid-then (CallDid-then i.so_far (going-did l.cursor.failed _ i.walks.going (rw c.in-Some.is at a.did))) (rw c.if-branch.true at c.in_ok-is_version.ensures.did))
          (λ file read costs told is kind.
          let before = read.0.0.1 told is kind in
          let step = read.0.1 read.0.0.0 in
          let gives = step.tells i.walks.going in
          before.1
          ∙ ap (define_version file c.args.version.now c.args.hash) (walk-gives i.walks a.keeps file told [] is leaves gives step.leads)
          ∙ read.1 gives.met (left_of file told.strings [] new) gives.is (met_kind file l.cursor new c.in-Some.given gives before.0));
    }

pub records-preserved : goal.records-preserved
records-preserved g c =
    let l = c.records in
    let i = l.invariant in
    let a = c.in_ok-given.ensures in
    let new = c.advance.new.self in
    let leaves = rw c.in-Some.is at a.leaves in
    record {
      walks = walk-next i.walks a.keeps c.in-Some.given leaves;
      so_far = CallDid-as _ (walk-pays i.walks a.keeps c.in-Some.given (pad64 (length c.args.version.now + 1)) leaves)
          (CallDid-then (CallDid-then i.so_far (going-did l.cursor.failed _ i.walks.going (rw c.in-Some.is at a.did))) (rw c.if-branch.false at c.in_ok-is_version.ensures.did))
          (λ file read costs.
          let step = read.0.1 read.0.0.0 in
          let gives = step.tells i.walks.going in (
            step.agrees,
            λ told is kind.
                let before = read.0.0.1 told is kind in (
                  next_kind file l.cursor new c.in-Some.given gives step.leads before.0,
                  before.1
                      ∙ ap (define_version file c.args.version.now c.args.hash) (walk-gives i.walks a.keeps file told [] is leaves gives step.leads)
                      ∙ read.1 gives.met (left_of file told.strings [] new) gives.is (met_kind file l.cursor new c.in-Some.given gives before.0),
                ),
          ));
    }

pub returns : goal.returns
returns g c =
    let l = c.records in
    let i = l.invariant in
    let a = c.in_ok-given.ensures in
    let new = c.advance.new.self in
    let none = none-of c.in_ok-given.field-0 c.in_default.not-Some in
    let pad = pad64 (length c.args.version.now + 1) in
    let same = (rw none at a.leaves).1 in
    let spent : unread l.cursor - unread new ≡ 0 = rw same (omega arith) in
    record {
      did = CallDid-as _ (omega (arith, spent, gone-most c.args.records.now l.cursor (28 + pad))) (CallDid-then i.so_far (going-did l.cursor.failed _ i.walks.going (rw none at a.did)))
          (λ file read costs told is kind.
          let before = read.0.1 told is kind in
          let step = read.1 read.0.0 in
          before.1 ∙ define_ends file c.args.version.now c.args.hash told.strings l.cursor new (step.tells i.walks.going));
    }
