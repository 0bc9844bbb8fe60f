-- The records are the section's bytes, and their names those of the section that it links to.
use Rattle.std.proofs.Common.{rules, refl, ◌∙◌}
use Rattle.std.proofs.lemmas.Result.{err_from_is_err_and}
use Rattle.elf_model.specs.Records.{section_at}
use Rattle.elf_table.proofs.HashSectionLaws.{place_is}
use Rattle.elf_hash.proofs.VersionLaws.{records_are, strings_refused}
use Rattle.elf_hash.proofs.SettleLaws.{finds, refuses}
use Rattle.elf_hash.proofs.section_versions.section_records.Goals as goal

pub returns-in_err-names : goal.returns-in_err-names
returns-in_err-names c =
    let p = err_from_is_err_and c.from_residual-in_err-names.result c.from_residual-in_err-names.ensures.1 in
    rw (p.1, p.2) (refuses _ c.in_err-names.ensures.finds.refusal (λ bytes belongs.
    let is = c.section-header.ensures.is_at bytes belongs in
    let place = c.place-head.ensures.value ∙ place_is bytes c.args.section _ _ belongs in
    (strings_refused bytes (section_at bytes c.args.section) _ _ (rw (place, is.sh_offset, is.sh_size, belongs.size) at c.in_ok-table.ensures.value) c.in_err-names.ensures.some (c.in_err-names.ensures.finds.held bytes belongs c.in_err-names.ensures.some))))

pub returns : goal.returns
returns c = finds _ (search rules) (λ bytes belongs.
    let is = c.section-header.ensures.is_at bytes belongs in
    let place = c.place-head.ensures.value ∙ place_is bytes c.args.section _ _ belongs in
    records_are bytes (section_at bytes c.args.section) c.args.kind _ (rw (place, is.sh_offset, is.sh_size, belongs.size) at c.in_ok-table.ensures.value) refl place
    (c.in_ok-names.ensures.finds.held bytes belongs))
