-- A name without a `$` is as it was.
use Rattle.std.proofs.Common.{◌≡◌, ℕ, List, zero-le, refl, ap, subst, ◌∙◌}
use Rattle.elf_needs.specs.Replaced.{needed_name_of, within_root}
use Rattle.elf_needs.specs.Searching.{expanded}
use Rattle.elf_library.specs.declared.links.NeededLibrary.{NeededLibrary}
use Rattle.elf_needs.proofs.TokenLaws.{test_dollar, without_tokens}
use Rattle.elf_needs.proofs.known_object.ObjectList.replace_name.Goals as goal

pub returns-in_default-clause-replaced : goal.returns-in_default-clause-replaced
returns-in_default-clause-replaced c = λ _ need is.
    let directory = within_root c.args.root.now c.directory_of.result.now in
    let same : c.in_ok-need.need ≡ need = cc (c.in_ok-need.ensures, is) in
    let text : c.text-text.result.now ≡ needed_name_of c.args.self.now.links need =
    c.text-text.ensures ∙ ap (λ (n : NeededLibrary). needed_name_of c.args.self.now.links n) same in
    let whole = without_tokens directory c.text-text.result.now (λ k low at. c.in_default.ensures k zero-le low (test_dollar _ at)) in
    record {
      directory = c.directory_of.result.now;
      is_dir = c.directory_of.ensures;
      replaces = record {
        other = need;
        is_there = is;
        same_entry = refl;
        its_name = subst (λ (l : List ℕ). l ≡ expanded directory 0 l) text whole;
      };
    }
