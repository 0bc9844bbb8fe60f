-- The record is visited, or what is left is refused.
use Rattle.std.proofs.Common.{◌≡◌, ◌⊎◌, ◌+◌, ◌<◌, None, inl, inr, arith, rules}
use Rattle.std.proofs.lemmas.Result.{err_from_is_err_and}
use Rattle.elf_model.specs.Prelude.{no_versions, record_size, visited_at}
use Rattle.elf_model.specs.declared.causes.Cause.TheVariants.{VersionCut}
use Rattle.elf_table.specs.declared.fault.Fault.TheVariants.{Refused}
use Rattle.elf_table.proofs.LedgerLaws.{CallDid-as, CallDid-none, CallDid-stop}
use Rattle.elf_note.specs.Reading.{record_position_of}
use Rattle.elf_note.proofs.LeftLaws.{cut-here, step-met, step-pays, step-refused}
use Rattle.elf_note.proofs.version_cursor.VersionCursor.meet.Goals as goal
use Rattle.elf_note.proofs.version_cursor.VersionCursor.meet.Goals.{then-self-eq0-via-then-self-eq0, then-self-eq0-via-else-self-eq0+then-end-from}

pub returns-then-self-eq0-clause-did : goal.returns-then-self-eq0-clause-did
returns-then-self-eq0-clause-did g c =
    let i = c.self.inside in
    let s = c.args.stand.now in
    let is_at = rw (← c.self.view_is) at c.requires.is_at in
    let size : c.len-size.result ≡ i.held.table.count = search rules in
    let why : (i.left ≡ 0) ⊎ (i.held.table.count < s.place + record_size s.kind) =
    elim c.then-self-eq0.branch [
      | then-self-eq0-via-then-self-eq0 w ↦ inl w.if-self-eq0.true
      | then-self-eq0-via-else-self-eq0+then-end-from w ↦ inr (omega (arith, size, c.record_bytes.ensures.value, c.from.ensures, w.from-else-self-eq0.ensures, w.if-end-from.true))
    ] in
    rw (c.refused.ensures, ← c.self.view_is)
    (CallDid-as _ (omega arith) (CallDid-stop (Refused (record { at = s.from; cause = VersionCut })) (λ budget. cc) (CallDid-none c.args.src.now))
    (λ file told costs agrees.
    record { agrees = agrees; tells = λ other. rw is_at (cut-here file i.held.table.at i.held.table.count (record_position_of s) i.left why); leads = tt }))

pub returns-in_err-step-clause-did : goal.returns-in_err-step-clause-did
returns-in_err-step-clause-did g c =
    let i = c.self.inside in
    let s = c.args.stand.now in
    let is_at = rw (← c.self.view_is) at c.requires.is_at in
    let fits = rw is_at at c.self.invariant.1 in
    let some : 0 < i.left = omega (arith, c.if-self-eq0.false) in
    let p = err_from_is_err_and c.from_residual.result c.from_residual.ensures.1 in
    rw (p.1, p.2, ← c.self.view_is)
    (CallDid-as _ (step-pays i.held i.left i.each _ some fits.pays) c.in_err-step.ensures.did
    (λ file told costs agrees. record {
      agrees = record { held = agrees.held; ahead = agrees.ahead };
      tells = step-refused file i.held.table.at i.held.table.count i.standing s i.left (no_versions None) _ is_at some (told agrees.held (rw is_at at agrees.ahead));
      leads = tt;
    }))

pub returns-clause-did : goal.returns-clause-did
returns-clause-did g c =
    let i = c.self.inside in
    let s = c.args.stand.now in
    let is_at = rw (← c.self.view_is) at c.requires.is_at in
    let fits = rw is_at at c.self.invariant.1 in
    let some : 0 < i.left = omega (arith, c.if-self-eq0.false) in
    rw (← c.self.view_is)
    (CallDid-as _ (step-pays i.held i.left i.each _ some fits.pays) c.in_ok-step.ensures.did
    (λ file told costs agrees.
    let step = told agrees.held (rw is_at at agrees.ahead) in
    record {
      agrees = record { held = agrees.held; ahead = step.knows };
      tells = record {
        met = visited_at i.held.table.at (record_position_of s);
        first = rw is_at (step-met file i.held.table.at i.held.table.count (record_position_of s) i.left c.in_ok-step.step some step);
        is = step.is;
      };
      leads = rw is_at step.leads;
    }))
