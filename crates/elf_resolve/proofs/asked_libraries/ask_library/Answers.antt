-- A library is taken if it is asked for.
use Rattle.std.proofs.Common.{refl, sym, subst}
use Rattle.std.proofs.lemmas.Result.{err_from_is_err_and}
use Rattle.elf_model.specs.HeaderTables.{file_sections, first_typed}
use Rattle.elf_model.specs.Numbers.{SHT_DYNSYM}
use Rattle.elf_resolve.specs.LibraryKeys.{library_symbols}
use Rattle.elf_resolve.specs.LibraryTables.{HoldsLibrary}
use Rattle.elf_resolve.specs.StringBuffers.{TableTexts}
use Rattle.elf_resolve.proofs.TakenLibraryLaws.{not_asked}
use Rattle.elf_resolve.proofs.asked_libraries.ask_library.Goals as goal

pub returns-in_err-is_asked_for : goal.returns-in_err-is_asked_for
returns-in_err-is_asked_for c = λ file known held view.
    let p = err_from_is_err_and c.from_residual.result c.from_residual.ensures.1 in
    rw (p.1, p.2) (c.in_err-is_asked_for.ensures.asks file known held view)

pub returns-then-not-branch : goal.returns-then-not-branch
returns-then-not-branch c = λ file known held view.
    let symbols = library_symbols file known (first_typed (file_sections file) SHT_DYNSYM) in
    (refl, not_asked symbols c.args.keys.now.keys c.args.room.now.marks c.in_ok-is_asked_for.field-0 c.if-not-branch.true (c.in_ok-is_asked_for.ensures.asks file known held view))

pub returns-in_err-take_library_symbols : goal.returns-in_err-take_library_symbols
returns-in_err-take_library_symbols c = λ file known held view.
    let here = subst (λ v. HoldsLibrary file c.is_asked_for.new.room.strings.bytes c.args.tables v known) (sym c.in_ok-is_asked_for.ensures.versions)
    (subst (λ (t : TableTexts). HoldsLibrary file t.bytes c.args.tables c.args.room.now.versions known) (sym c.in_ok-is_asked_for.ensures.strings) held) in
    let p = err_from_is_err_and c.from_residual-in_err-take_library_symbols.result c.from_residual-in_err-take_library_symbols.ensures.1 in
    rw (p.1, p.2) (c.in_err-take_library_symbols.ensures file known here view)

pub returns : goal.returns
returns c = λ file known held view.
    let here = subst (λ v. HoldsLibrary file c.is_asked_for.new.room.strings.bytes c.args.tables v known) (sym c.in_ok-is_asked_for.ensures.versions)
    (subst (λ (t : TableTexts). HoldsLibrary file t.bytes c.args.tables c.args.room.now.versions known) (sym c.in_ok-is_asked_for.ensures.strings) held) in
    c.in_ok-take_library_symbols.ensures file known here view
