-- Each record that is yielded is tested, until one has the index or none is left.
use Rattle.std.proofs.Common.{◌≡◌, ◌-◌, sym, ◌∙◌, arith}
use Rattle.std.proofs.lemmas.Result.{err_from_is_err_and}
use Rattle.elf_table.proofs.Absent.{none-of}
use Rattle.elf_table.proofs.LedgerLaws.{CallDid-as, CallDid-none, CallDid-then}
use Rattle.elf_model.specs.Prelude.{file_or, naming_of}
use Rattle.elf_table.specs.Tables.{strings_in}
use Rattle.elf_note.specs.Reading.{unread}
use Rattle.elf_note.proofs.TakenLaws.{going-did}
use Rattle.elf_loader.proofs.LeftReadings.{left_of}
use Rattle.elf_loader.proofs.NamingLaws.{ended-as, fault-left, fault-names, file-ended, file-here, file-later, file-starts, here-as, later-as, spent-read, start-as}
use Rattle.elf_loader.proofs.RecordWalk.{gone-most, gone_by, walk-gives, walk-next, walk-pays, walk-spends, walk-starts}
use Rattle.elf_loader.proofs.version_name_record.name_in_table.Goals as goal

pub records-init : goal.records-init
records-init g c =
    let starts = c.one_by_one-cursor.ensures.starts in
    record {
      walks = walk-starts starts c.one_by_one-cursor.ensures.alone;
      so_far = CallDid-as _ (omega (arith, starts.left)) (CallDid-none c.args.src.now)
          (λ file told costs. (
            c.one_by_one-cursor.ensures.agrees file,
            λ t others is. start-as file c.args.number t c.args.records.now others c.one_by_one-cursor.result _ (omega (arith, starts.left)) starts is,
          ));
      last = λ file held t others is met was. (met, was, file-starts file c.args.number t c.args.records.now others c.one_by_one-cursor.result met starts is);
    }

pub advance-requires : goal.advance-requires
advance-requires g c = let i = c.records.invariant in rw (i.walks.its_table, i.so_far.costs.reads.keeps.same_size) c.requires.within.table

pub returns-in_err-given-clause-did : goal.returns-in_err-given-clause-did
returns-in_err-given-clause-did g c =
    let l = c.records in
    let i = l.invariant in
    let a = c.in_err-given.ensures in
    let new = c.advance.new.self in
    let p = err_from_is_err_and c.from_residual.result c.from_residual.ensures.1 in
    let pays = walk-spends i.walks a.keeps 0 a.leaves in
    rw (p.1, p.2)
    (CallDid-as _ (omega (arith, pays.0, pays.1)) (CallDid-then i.so_far (going-did l.cursor.failed _ i.walks.going a.did))
    (λ file told costs t others is.
    let before = told.0 in
    let step = told.1 before.0 in
    fault-names file (gone_by c.args.records.now l.cursor) (l.cursor.left - new.left) _ _ (naming_of file c.args.number others) _ (before.1 t others is)
    (costs _ (omega arith)) pays.0 (spent-read file t.strings c.args.number others l.cursor new a.leaves.1) (fault-left file t.strings c.args.number others l.cursor new _ (step.tells i.walks.going))))

pub returns-then-names_version_index-clause-did : goal.returns-then-names_version_index-clause-did
returns-then-names_version_index-clause-did g c =
    let l = c.records in
    let i = l.invariant in
    let a = c.in_ok-given.ensures in
    let new = c.advance.new.self in
    let leaves = rw c.in-Some.is at a.leaves in
    let pays = walk-pays i.walks a.keeps c.in-Some.given 0 leaves in
    CallDid-as _ (omega (arith, pays, gone-most c.args.records.now new 28)) (CallDid-then i.so_far (going-did l.cursor.failed _ i.walks.going (rw c.in-Some.is at a.did)))
    (λ file told costs t others is.
    let before = told.0 in
    let step = told.1 before.0 in
    let gives = step.tells i.walks.going in
    let found = here-as file (strings_in file c.args.records.now.names) c.args.number gives.met (left_of file t.strings others l.cursor) (left_of file t.strings others new) _ _
    (walk-gives i.walks a.keeps file t others is leaves gives step.leads) (sym (c.names_version_index.ensures file gives.met gives.is) ∙ c.if-names_version_index.true) (before.1 t others is) in
    (gives.met, found.0, gives.is, costs _ (omega (arith, pays, found.1, leaves.2, i.walks.fewer))))

pub records-preserved : goal.records-preserved
records-preserved g c =
    let l = c.records in
    let i = l.invariant in
    let a = c.in_ok-given.ensures in
    let new = c.advance.new.self in
    let leaves = rw c.in-Some.is at a.leaves in
    let pays = walk-pays i.walks a.keeps c.in-Some.given 0 leaves in
    record {
      walks = walk-next i.walks a.keeps c.in-Some.given leaves;
      so_far = CallDid-as _ (omega (arith, pays)) (CallDid-then i.so_far (going-did l.cursor.failed _ i.walks.going (rw c.in-Some.is at a.did)))
          (λ file told costs.
          let before = told.0 in
          let step = told.1 before.0 in
          let gives = step.tells i.walks.going in (
            step.agrees,
            λ t others is.
                later-as file (strings_in file c.args.records.now.names) c.args.number gives.met (left_of file t.strings others l.cursor) (left_of file t.strings others new) _ _ _ (omega (arith, leaves.2, i.walks.fewer))
                (walk-gives i.walks a.keeps file t others is leaves gives step.leads) (sym (c.names_version_index.ensures file gives.met gives.is) ∙ c.if-names_version_index.false) (before.1 t others is),
          ));
      last = λ file held t others is met was.
          let told = (CallDid-then i.so_far (going-did l.cursor.failed _ i.walks.going (rw c.in-Some.is at a.did))).known file held in
          let step = told.1 told.0.0 in
          let gives = step.tells i.walks.going in
          let before = i.last file held t others is met was in (
            file_or gives.met before.0,
            c.file_of.ensures file gives.met before.0 gives.is before.1,
            before.2
                ∙ file-later file c.args.number (strings_in file c.args.records.now.names) gives.met (left_of file t.strings others l.cursor) (left_of file t.strings others new) before.0
                (walk-gives i.walks a.keeps file t others is leaves gives step.leads) (sym (c.names_version_index.ensures file gives.met gives.is) ∙ c.if-names_version_index.false),
          );
    }

pub returns-clause-did : goal.returns-clause-did
returns-clause-did g c =
    let l = c.records in
    let i = l.invariant in
    let a = c.in_ok-given.ensures in
    let new = c.advance.new.self in
    let none = none-of c.in_ok-given.field-0 c.in_default.not-Some in
    let same = (rw none at a.leaves).1 in
    let spent : unread l.cursor - unread new ≡ 0 = rw same (omega arith) in
    CallDid-as _ (omega (arith, spent, gone-most c.args.records.now l.cursor 28)) (CallDid-then i.so_far (going-did l.cursor.failed _ i.walks.going (rw none at a.did)))
    (λ file told costs t others is.
    let before = told.0 in
    let step = told.1 before.0 in (
      gone_by c.args.records.now l.cursor,
      costs _ (omega (arith, spent)),
      ended-as file t.strings c.args.number others l.cursor new _ _ (step.tells i.walks.going) (before.1 t others is),
    ))

pub returns-then-names_version_index-clause-file : goal.returns-then-names_version_index-clause-file
returns-then-names_version_index-clause-file g c =
    let l = c.records in
    let i = l.invariant in
    let a = c.in_ok-given.ensures in
    let new = c.advance.new.self in
    let leaves = rw c.in-Some.is at a.leaves in
    λ file held t others is met was.
    let told = (CallDid-then i.so_far (going-did l.cursor.failed _ i.walks.going (rw c.in-Some.is at a.did))).known file held in
    let step = told.1 told.0.0 in
    let gives = step.tells i.walks.going in
    let before = i.last file held t others is met was in
    let here = file-here file c.args.number (strings_in file c.args.records.now.names) gives.met (left_of file t.strings others l.cursor) (left_of file t.strings others new) before.0
    (walk-gives i.walks a.keeps file t others is leaves gives step.leads) (sym (c.names_version_index.ensures file gives.met gives.is) ∙ c.if-names_version_index.true) in
    rw (before.2, here) before.1

pub returns-clause-file : goal.returns-clause-file
returns-clause-file g c =
    let l = c.records in
    let i = l.invariant in
    let a = c.in_ok-given.ensures in
    let new = c.advance.new.self in
    let none = none-of c.in_ok-given.field-0 c.in_default.not-Some in
    λ file held t others is met was.
    let told = (CallDid-then i.so_far (going-did l.cursor.failed _ i.walks.going (rw none at a.did))).known file held in
    let step = told.1 told.0.0 in
    let before = i.last file held t others is met was in
    (before.0, before.1, before.2 ∙ file-ended file c.args.number t.strings others l.cursor new before.0 (step.tells i.walks.going))
