use Rattle.std.proofs.Common.{◌≡◌, ◌∷◌, ◌∙◌, ap, sym, subst, All}
use Rattle.std.proofs.lemmas.Result.{err_from_is_err_and}
use Rattle.elf_options.specs.NameLists.{IsNoNames, IsRowName, after_lines, line_names}
use Rattle.elf_options.proofs.NameLaws.{bad_first, bad_rest, each_split, put_line}
use Rattle.elf_options.proofs.row_names.push_lines.Goals as goal

pub returns-in_err-push_line-clause-refused : goal.returns-in_err-push_line-clause-refused
returns-in_err-push_line-clause-refused c =
    let p = err_from_is_err_and c.from_residual.result c.from_residual.ensures.1 in
    let fault = c.in_err-push_line.field-0.0 in
    let line = c.first_line-line.result.text.now in
    let rest = after_lines c.first_line-line.result.behind in
    let lines : after_lines c.loop-left.left ≡ line ∷ rest = ap after_lines c.in-Some.is ∙ c.first_line-line.ensures.lines in
    rw (p.1, p.2) (c.loop-left.invariant.bad fault
    (subst (λ ls. IsNoNames c.args.versions (line_names ls) fault) (sym lines) (bad_first c.args.versions line rest fault c.in_err-push_line.ensures.refused)))

pub loop-left-preserved : goal.loop-left-preserved
loop-left-preserved c =
    let line = c.first_line-line.result.text.now in
    let rest = after_lines c.first_line-line.result.behind in
    let lines : after_lines c.loop-left.left ≡ line ∷ rest = ap after_lines c.in-Some.is ∙ c.first_line-line.ensures.lines in
    record {
      names = put_line c.args.versions line rest _ _ _ _ lines c.in_ok-push_line.ensures.names c.loop-left.invariant.names;
      each = λ all. c.loop-left.invariant.each (subst (λ ls. All (IsRowName c.args.versions) (line_names ls)) (sym lines) (each_split c.args.versions line rest c.in_ok-push_line.ensures.each all));
      bad = λ fault bad. c.loop-left.invariant.bad fault (subst (λ ls. IsNoNames c.args.versions (line_names ls) fault) (sym lines) (bad_rest c.args.versions line rest fault bad));
    }
