-- An entry gives the library's own name, that of a library that is needed, or none.
use Rattle.std.proofs.Common.{◌∙◌, sym}
use Rattle.std.proofs.lemmas.Result.{err_from_is_err_and}
use Rattle.elf_model.specs.Tables.{strings_of}
use Rattle.elf_resolve.proofs.LibraryEntryLaws.{gives_own, own_unnamed}
use Rattle.elf_resolve.proofs.library.DynamicRows.own_after.Goals as goal

pub returns-then-gives_own : goal.returns-then-gives_own
returns-then-gives_own c = λ file at index before held is own.
    gives_own file at index c.args.entry is c.args.strings.now.bytes c.args.own before c.in_ok-name.name own (sym c.gives_own.ensures ∙ c.if-gives_own.true) (c.in_ok-name.ensures (strings_of file at) held.strings)

pub returns-in_err-name : goal.returns-in_err-name
returns-in_err-name c = λ file at index before held is own.
    let p = err_from_is_err_and c.from_residual.result c.from_residual.ensures.1 in
    rw (p.1, p.2)
    (own_unnamed file at index c.args.entry is c.args.strings.now.bytes c.args.own before c.in_err-name.field-0.0 own (sym c.gives_own.ensures ∙ c.if-gives_own.true) (c.in_err-name.ensures (strings_of file at) held.strings))
