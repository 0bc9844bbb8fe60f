-- The records are those of the first section of the type.
use Rattle.std.proofs.Common.{rules, sym, ◌∙◌}
use Rattle.std.proofs.lemmas.Result.{err_from_is_err_and}
use Rattle.elf_table.proofs.Absent.{none-of}
use Rattle.elf_hash.proofs.VersionLaws.{first_are, first_none, first_refused}
use Rattle.elf_hash.proofs.SettleLaws.{finds, refuses}
use Rattle.elf_hash.proofs.section_versions.first_records.Goals as goal

pub returns-in_default : goal.returns-in_default
returns-in_default c = finds _ (search rules) (λ bytes belongs.
    first_none bytes c.args.sh_type c.args.kind (sym (c.first.ensures.held bytes belongs) ∙ none-of c.first.result c.in_default.not-Some))

pub returns-in_err-records : goal.returns-in_err-records
returns-in_err-records c =
    let p = err_from_is_err_and c.from_residual.result c.from_residual.ensures.1 in
    rw (p.1, p.2) (refuses _ c.in_err-records.ensures.refusal (λ bytes belongs.
    (first_refused bytes c.args.sh_type c.args.kind _ (sym (c.first.ensures.held bytes belongs) ∙ c.in-Some.is) _ (c.in_err-records.ensures.held bytes belongs))))

pub returns : goal.returns
returns c = finds _ (search rules) (λ bytes belongs.
    first_are bytes c.args.sh_type c.args.kind _ (sym (c.first.ensures.held bytes belongs) ∙ c.in-Some.is) _ (c.in_ok-records.ensures.held bytes belongs))
