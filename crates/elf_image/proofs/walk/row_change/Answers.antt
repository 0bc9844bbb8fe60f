-- The place of a relative relocation.
use Rattle.std.proofs.Common.{refl}
use Rattle.std.proofs.lemmas.Result.{err_from_is_err_and}
use Rattle.elf_image.proofs.walk.row_change.Goals as goal

pub returns-in_err-place-clause-found : goal.returns-in_err-place-clause-found
returns-in_err-place-clause-found c = λ source of.
    let p = err_from_is_err_and c.from_residual.result c.from_residual.ensures.1 in
    rw (p.1, p.2) (c.in_err-place.ensures.found source of)

pub returns-clause-found : goal.returns-clause-found
returns-clause-found c = λ source of. (refl, refl, c.in_ok-place.ensures.found source of)
