-- Who needs a library decides whether it is asked for.
use Rattle.std.proofs.lemmas.Result.{err_from_is_err_and}
use Rattle.elf_model.specs.HeaderTables.{file_sections, first_typed}
use Rattle.elf_model.specs.Numbers.{SHT_DYNSYM}
use Rattle.elf_resolve.specs.LibraryKeys.{library_symbols}
use Rattle.elf_resolve.proofs.TakenLibraryLaws.{asks_either, needs_none}
use Rattle.elf_resolve.proofs.asked_libraries.is_asked_for.Goals as goal

pub returns-in_err-need-clause-asks : goal.returns-in_err-need-clause-asks
returns-in_err-need-clause-asks c = λ file known held view.
    let p = err_from_is_err_and c.from_residual.result c.from_residual.ensures.1 in
    rw (p.1, p.2) (c.in_err-need.ensures.finds file known held view)

pub returns-then-need-2-clause-asks : goal.returns-then-need-2-clause-asks
returns-then-need-2-clause-asks c = λ file known held view.
    let symbols = library_symbols file known (first_typed (file_sections file) SHT_DYNSYM) in
    asks_either symbols c.args.keys.now.keys c.args.room.now.marks _ (needs_none symbols c.args.keys.now.keys c.args.room.now.marks c.in_ok-need.need (c.in_ok-need.ensures.finds file known held view) c.if-need.false)

pub returns-else-need-2-clause-asks : goal.returns-else-need-2-clause-asks
returns-else-need-2-clause-asks c = λ file known held view.
    let symbols = library_symbols file known (first_typed (file_sections file) SHT_DYNSYM) in
    asks_either symbols c.args.keys.now.keys c.args.room.now.marks _ (needs_none symbols c.args.keys.now.keys c.args.room.now.marks c.in_ok-need.need (c.in_ok-need.ensures.finds file known held view) c.if-need.false)
