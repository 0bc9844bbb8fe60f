use Rattle.std.proofs.Common.{◌∙◌, sym, ap}
use Rattle.std.specs.List.{list_any}
use Rattle.std.specs.Str.{bytes_eq}
use Rattle.elf_options.proofs.NameSearch.{searched}
use Rattle.elf_options.proofs.names.SortedStrings.has.Goals as goal

pub returns : goal.returns
returns c =
    let search = c.binary_search.ensures in
    let found = searched c.self.inside.texts.now c.args.text.now c.self.invariant c.binary_search.result search.bound search.position in
    c.is_ok.ensures.value ∙ (sym found ∙ ap (λ texts. list_any (bytes_eq c.args.text.now) texts) c.self.view_is)
