use Rattle.std.proofs.Common.{rules, of_calls, ◌∙◌, sym, ap, nat_cmp}
use Rattle.std.proofs.lemmas.Fn.{always_returns_same}
use Rattle.std.specs.List.{list_any}
use Rattle.std.specs.Str.{bytes_eq}
use Rattle.std.specs.Cmp.Lexicographic.{slice_cmp}
use Rattle.elf_options.specs.Joins.{joined_text}
use Rattle.elf_options.proofs.NameSearch.{searched}
use Rattle.elf_options.proofs.names.SortedStrings.has_joined.Goals as goal

pub returns : goal.returns
returns c =
    let found = c.binary_search_by.ensures in
    let position = found.position (λ text. slice_cmp nat_cmp text.now (joined_text c.args.joined.now)) (always_returns_same _ _ _ (λ a r f k. search (rules, of_calls))) in
    let answer = searched c.self.inside.texts.now (joined_text c.args.joined.now) c.self.invariant c.binary_search_by.result found.bound position in
    c.is_ok.ensures.value ∙ (sym answer ∙ ap (λ texts. list_any (bytes_eq (joined_text c.args.joined.now)) texts) c.self.view_is)
