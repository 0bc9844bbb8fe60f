-- A record is yielded and its name is read, or none is left.
use Rattle.std.proofs.Common.{rules, [], Ok, Err, ap, arith}
use Rattle.std.proofs.lemmas.Result.{err_from_is_err_and}
use Rattle.elf_model.specs.Prelude.{needed_versions}
use Rattle.elf_table.proofs.Absent.{none-of}
use Rattle.elf_table.proofs.LedgerLaws.{CallDid-as, CallDid-then}
use Rattle.elf_note.proofs.TakenLaws.{going-did}
use Rattle.elf_loader.proofs.LeftReadings.{left_of}
use Rattle.elf_loader.proofs.RecordWalk.{walk-gives}
use Rattle.elf_library.proofs.NeedLaws.{as_walk, none_spends, one_pays, one_spends}
use Rattle.elf_library.proofs.NeedReadLaws.{left_ends, left_fails, taken}
use Rattle.elf_library.proofs.needed_versions.NeedsWalk.advance.Goals as goal

pub returns-in_err-given : goal.returns-in_err-given
returns-in_err-given g c =
    let a = c.in_err-given.ensures in
    let old = c.args.self.now.cursor in
    let p = err_from_is_err_and c.from_residual.result c.from_residual.ensures.1 in
    let pays = one_spends (as_walk c.requires) a.keeps _ a.leaves in
    rw (p.1, p.2)
    (record {
      did = (CallDid-as _ (omega (arith, pays)) (going-did old.failed _ c.requires.going a.did)
          (λ file reads costs told is.
          let step = reads is.agrees in
          record { is = record { is = is.is; agrees = step.agrees }; tells = left_fails file told c.args.self.now c.advance.new.self [] c.args.self.now c.in_err-given.field-0.0 (step.tells c.requires.going) }));
      goes = search rules;
    })

pub returns-in_default : goal.returns-in_default
returns-in_default g c =
    let a = c.in_ok-given.ensures in
    let old = c.args.self.now.cursor in
    let none = none-of c.in_ok-given.field-0 c.in_default.not-Some in
    let pays = none_spends old c.advance.new.self (rw none at a.leaves).1 in
    record {
      did = CallDid-as _ (omega (arith, pays)) (going-did old.failed _ c.requires.going (rw none at a.did))
          (λ file reads costs told is.
          let step = reads is.agrees in
          record { is = record { is = is.is; agrees = step.agrees }; tells = left_ends file told c.args.self.now c.advance.new.self (step.tells c.requires.going) });
      goes = search rules;
    }

pub returns-in_err-take : goal.returns-in_err-take
returns-in_err-take g c =
    let a = c.in_ok-given.ensures in
    let old = c.args.self.now.cursor in
    let p = err_from_is_err_and c.from_residual-in_err-take.result c.from_residual-in_err-take.ensures.1 in
    let leaves = rw c.in-Some.is at a.leaves in
    let pays = one_pays (as_walk c.requires) a.keeps c.in-Some.given leaves in
    let same = c.in_err-take.ensures.same in
    rw (p.1, p.2)
    (record {
      did = (CallDid-as _ (omega (arith, pays)) (CallDid-then (going-did old.failed _ c.requires.going (rw c.in-Some.is at a.did)) c.in_err-take.ensures.did)
          (λ file reads costs told is.
          let step = reads.0 is.agrees in
          let gives = step.tells c.requires.going in
          let t = taken file told c.args.self.now c.take.new.self c.advance.new.self is.is step.agrees same.0 same.1 _
          (ap (needed_versions file c.args.self.now.library) (walk-gives (as_walk c.requires) a.keeps file told [] is.is leaves gives step.leads)) (Err c.in_err-take.field-0.0)
          (reads.1 gives.met (left_of file told.strings [] c.advance.new.self) gives.is) in
          record { is = t.0; tells = t.1 }));
      goes = search rules;
    })

pub returns : goal.returns
returns g c =
    let a = c.in_ok-given.ensures in
    let old = c.args.self.now.cursor in
    let leaves = rw c.in-Some.is at a.leaves in
    let pays = one_pays (as_walk c.requires) a.keeps c.in-Some.given leaves in
    let same = c.in_ok-take.ensures.same in
    record {
      did = CallDid-as _ (omega (arith, pays)) (CallDid-then (going-did old.failed _ c.requires.going (rw c.in-Some.is at a.did)) c.in_ok-take.ensures.did)
          (λ file reads costs told is.
          let step = reads.0 is.agrees in
          let gives = step.tells c.requires.going in
          let t = taken file told c.args.self.now c.take.new.self c.advance.new.self is.is step.agrees same.0 same.1 _
          (ap (needed_versions file c.args.self.now.library) (walk-gives (as_walk c.requires) a.keeps file told [] is.is leaves gives step.leads)) (Ok c.in_ok-take.field-0)
          (reads.1 gives.met (left_of file told.strings [] c.advance.new.self) gives.is) in
          record { is = t.0; tells = t.1 });
      goes = search rules;
    }
