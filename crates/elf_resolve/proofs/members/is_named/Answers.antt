-- The name of a symbol is that of an entry, or there is none.
use Rattle.std.proofs.Common.{ap, ◌∙◌}
use Rattle.std.specs.Prelude.{bytes_eq}
use Rattle.elf_model.specs.LinkPasses.{index_name}
use Rattle.elf_model.specs.LinkSymbols.{is_that, link_name}
use Rattle.elf_resolve.proofs.ObjectNameLaws.{named_that, unnamed_that}
use Rattle.elf_resolve.proofs.members.is_named.Goals as goal

pub returns-in-Ok : goal.returns-in-Ok
returns-in-Ok c = λ table at held.
    let wanted = index_name c.args.keys.now.keys c.args.entry in
    let found = c.in-Ok.ensures table held in
    c.is_name_of.ensures ∙ ap (λ t. bytes_eq t wanted) (c.bytes.ensures found.0 found.2) ∙ named_that table found.0 wanted c.from.result at 0 found.1
    ∙ ap (λ i. is_that (link_name table i at) wanted) c.from.ensures

pub returns-in-Err : goal.returns-in-Err
returns-in-Err c = λ table at held.
    let wanted = index_name c.args.keys.now.keys c.args.entry in
    unnamed_that c.args.strings.now.bytes table wanted c.from.result at 0 c.in-Err.field-0 (c.in-Err.ensures table held) ∙ ap (λ i. is_that (link_name table i at) wanted) c.from.ensures
