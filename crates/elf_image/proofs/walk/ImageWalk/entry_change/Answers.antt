-- The change of an entry, by its result.
use Rattle.std.proofs.Common.{refl}
use Rattle.std.proofs.lemmas.Result.{err_from_is_err_and}
use Rattle.elf_image.proofs.ChangeSteps.{change_keeps, change_lacks, change_refused, change_stores}
use Rattle.elf_image.proofs.walk.ImageWalk.entry_change.Goals as goal

pub returns-in-Nothing-clause-takes : goal.returns-in-Nothing-clause-takes
returns-in-Nothing-clause-takes g c = λ source window rest held of has rela small.
    let change = rw c.in-Nothing.is at (c.in_ok-entry_result.ensures.change source held of has rela small) in
    (change_keeps source c.args.image.now.leaves window c.args.ordered.at rest change, tt)

pub returns-in-Stores-clause-takes : goal.returns-in-Stores-clause-takes
returns-in-Stores-clause-takes g c = λ source window rest held of has rela small.
    let change = rw c.in-Stores.is at (c.in_ok-entry_result.ensures.change source held of has rela small) in
    (change_stores source c.args.image.now.leaves window c.args.ordered.at rest c.in-Stores.change change, change.1)

pub returns-in-Lacks-clause-takes : goal.returns-in-Lacks-clause-takes
returns-in-Lacks-clause-takes g c = λ source window rest held of has rela small.
    let change = rw c.in-Lacks.is at (c.in_ok-entry_result.ensures.change source held of has rela small) in
    (change_lacks source c.args.image.now.leaves window c.args.ordered.at rest c.args.ordered c.in-Lacks.cause refl change rela, tt)

pub returns-in_err-entry_result-clause-takes : goal.returns-in_err-entry_result-clause-takes
returns-in_err-entry_result-clause-takes g c = λ source window rest held of has rela small.
    let p = err_from_is_err_and c.from_residual.result c.from_residual.ensures.1 in
    rw (p.1, p.2) (change_refused source c.args.image.now.leaves window c.args.ordered.at rest _ (c.in_err-entry_result.ensures.change source held of has rela small), tt)
