-- A name is kept, or refused.
use Rattle.std.proofs.lemmas.Result.{err_from_is_err_and}
use Rattle.elf_model.specs.LinkArchives.{refusal_of}
use Rattle.elf_resolve.specs.TakenLibraries.{own_name_in}
use Rattle.elf_resolve.proofs.LibraryReadLaws.{record_fault}
use Rattle.elf_resolve.proofs.TakenLibraryLaws.{name_kept}
use Rattle.elf_resolve.proofs.asked_libraries.library_name.Goals as goal

pub returns-in_err-name : goal.returns-in_err-name
returns-in_err-name c = λ file header held.
    let p = err_from_is_err_and c.from_residual.result c.from_residual.ensures.1 in
    rw (p.1, p.2) (record_fault (refusal_of (own_name_in file header)) c.in_err-name.field-0.0 (c.in_err-name.ensures file header held))

pub returns-in-Some : goal.returns-in-Some
returns-in-Some c = λ file header held.
    let named = c.in_ok-name.ensures file header held in
    name_kept (own_name_in file header) named.0 c.keep.result named.1 c.keep.ensures.limit

pub returns-in-None : goal.returns-in-None
returns-in-None c = λ file header held.
    let named = c.in_ok-name.ensures file header held in
    name_kept (own_name_in file header) named.0 c.keep-in-None.result named.1 c.keep-in-None.ensures.limit
