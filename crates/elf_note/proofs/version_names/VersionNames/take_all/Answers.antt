-- Each record that is yielded is added, until none is left.
use Rattle.std.proofs.Common.{◌∷◌, [], ◌++◌, None, Some, Ok, Err, refl, ◌∙◌, arith}
use Rattle.std.proofs.lemmas.Result.{err_from_is_err_and}
use Rattle.elf_table.proofs.LedgerLaws.{CallDid-as, CallDid-none, CallDid-then}
use Rattle.elf_note.specs.Reading.{versions_left}
use Rattle.elf_note.proofs.TakenLaws.{behind-more, end-cut, end-names, going-did, met-none, names-more, stops-all, unread-fewer}
use Rattle.elf_table.proofs.Absent.{none-of}
use Rattle.elf_note.proofs.version_names.VersionNames.take_all.Goals as goal

pub records-init : goal.records-init
records-init g c = record {
  going = c.requires.going;
  same_held = refl;
  count = refl;
  fewer = omega arith;
  so_far = CallDid-as _ (omega arith) (CallDid-none c.args.src.now)
      (λ file told costs agrees. (agrees, λ records names. met-none file records (versions_left file c.args.cursor.now) c.args.self.now c.args.places.now names));
}

pub advance-requires : goal.advance-requires
advance-requires g c = let i = c.records.invariant in rw (i.same_held, i.so_far.costs.reads.keeps.same_size) c.requires.within

pub take-requires : goal.take-requires
take-requires g c = let leaves = rw c.in-Some.is at c.in_ok-given.ensures.leaves in leaves.3

pub records-smaller : goal.records-smaller
records-smaller g c = let leaves = rw c.in-Some.is at c.in_ok-given.ensures.leaves in omega (arith, leaves.2)

pub records-preserved : goal.records-preserved
records-preserved g c =
    let l = c.records in
    let i = l.invariant in
    let a = c.in_ok-given.ensures in
    let new = c.advance.new.self in
    let leaves = rw c.in-Some.is at a.leaves in
    let did = rw c.in-Some.is at a.did in
    let fewer = unread-fewer l.cursor new a.keeps in
    record {
      going = leaves.1;
      same_held = a.keeps.same_held ∙ i.same_held;
      count = c.take.ensures.count ∙ i.count;
      fewer = omega (arith, fewer, i.fewer);
      so_far = CallDid-as _ (omega (arith, fewer, i.fewer)) (CallDid-then i.so_far (going-did l.cursor.failed (Ok (Some c.in-Some.given)) i.going did))
          (λ file told costs agrees.
          let before = told.0 agrees in
          let step = told.1 before.0 in
          let gives = step.tells i.going in (
            step.agrees,
            λ records names.
                let seen = before.1 records names in (
                  seen.0 ++ gives.met ∷ [],
                  behind-more seen.0 gives.met (versions_left file c.args.cursor.now) (versions_left file l.cursor) (versions_left file new) seen.1 gives.first,
                  names-more file records seen.0 gives.met c.take.new.self c.take.new.places (c.take.ensures.names file (records ++ seen.0) gives.met gives.is seen.2),
                ),
          ));
    }

pub returns-clause-did : goal.returns-clause-did
returns-clause-did g c =
    let l = c.records in
    let i = l.invariant in
    let a = c.in_ok-given.ensures in
    let new = c.advance.new.self in
    let none = none-of c.in_ok-given.field-0 c.in_default.not-Some in
    let did = rw none at a.did in
    let fewer = unread-fewer l.cursor new a.keeps in
    CallDid-as _ (omega (arith, fewer, i.fewer)) (CallDid-then i.so_far (going-did l.cursor.failed (Ok None) i.going did))
    (λ file told costs agrees records names.
    let before = told.0 agrees in
    let ends = (told.1 before.0).tells i.going in
    let seen = before.1 records names in (
      end-cut seen.0 (versions_left file c.args.cursor.now) (versions_left file l.cursor) seen.1 ends,
      end-names file records seen.0 (versions_left file c.args.cursor.now) (versions_left file l.cursor) l.self l.places seen.1 ends seen.2,
    ))

pub returns-clause-count : goal.returns-clause-count
returns-clause-count g c = c.records.invariant.count

pub returns-in_err-given-clause-count : goal.returns-in_err-given-clause-count
returns-in_err-given-clause-count g c = c.records.invariant.count

pub returns-in_err-given-clause-did : goal.returns-in_err-given-clause-did
returns-in_err-given-clause-did g c =
    let l = c.records in
    let i = l.invariant in
    let a = c.in_err-given.ensures in
    let new = c.advance.new.self in
    let fewer = unread-fewer l.cursor new a.keeps in
    let p = err_from_is_err_and c.from_residual.result c.from_residual.ensures.1 in
    rw (p.1, p.2)
    (CallDid-as _ (omega (arith, fewer, i.fewer)) (CallDid-then i.so_far (going-did l.cursor.failed (Err c.in_err-given.field-0.0) i.going a.did))
    (λ file told costs agrees records names.
    let before = told.0 agrees in
    let seen = before.1 records names in
    stops-all file records seen.0 (versions_left file c.args.cursor.now) (versions_left file l.cursor) (versions_left file new) l.self l.places _ seen.1
    ((told.1 before.0).tells i.going)))
