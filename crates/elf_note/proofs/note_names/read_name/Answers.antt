use Rattle.std.proofs.Common.{◌≡◌, false, inl, inr, rules}
use Rattle.std.proofs.lemmas.Result.{err_from_is_err_and}
use Rattle.elf_note.proofs.ShownNames.{shown-cut, shown-whole}
use Rattle.elf_table.proofs.ThroughLaws.{through_err, through_ok, through_skip}
use Rattle.elf_note.proofs.note_names.read_name.Goals as goal
use Rattle.elf_note.proofs.note_names.read_name.Goals.{else-not-found-via-then-not-found+else-size-from, else-not-found-via-else-not-found}

pub returns-then-size-from-clause-read : goal.returns-then-size-from-clause-read
returns-then-size-from-clause-read g c = λ file h a note e l.
    let f : c.in_ok-found.found ≡ false = search rules in
    shown-cut file c.args.window.now.at c.args.size c.args.cap.bytes c.min-want.result c.search_name.new.name note c.in_ok-found.found f (search rules) (search rules) e l
    (c.in_ok-found.ensures.searched file h a)

pub returns-clause-read : goal.returns-clause-read
returns-clause-read g c = λ file h a note e l.
    shown-whole file c.args.window.now.at c.args.size c.args.cap.bytes c.min-want.result c.search_name.new.name note c.in_ok-found.found
    (elim c.else-not-found.branch [
      | else-not-found-via-then-not-found+else-size-from w ↦ inr (search rules)
      | else-not-found-via-else-not-found w ↦ inl (search rules)
    ]) (search rules) e l
    (c.in_ok-found.ensures.searched file h a)

pub returns-in_err-found : goal.returns-in_err-found
returns-in_err-found g c =
    let p = err_from_is_err_and c.from_residual.result c.from_residual.ensures.1 in
    let e = c.in_err-found.ensures in
    rw (p.1, p.2) (record { reads = record { went = through_err e.reads.went; fault = e.reads.fault }; at = tt; read = λ file h a note n l. tt })

pub returns-then-size-from-clause-reads : goal.returns-then-size-from-clause-reads
returns-then-size-from-clause-reads g c =
    let e = c.in_ok-found.ensures in
    let s = c.skip.ensures in
    record { went = through_skip (through_ok _ e.reads.went) s; fault = tt }

pub returns-clause-reads : goal.returns-clause-reads
returns-clause-reads g c =
    let e = c.in_ok-found.ensures in
    let s = c.skip.ensures in
    record { went = through_skip (through_ok _ e.reads.went) s; fault = tt }
