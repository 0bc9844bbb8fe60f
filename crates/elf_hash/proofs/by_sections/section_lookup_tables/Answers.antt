-- The checks of the hash table's section, then those of the version tables.
use Rattle.std.proofs.Common.{rules, refl, ap, sym, ◌∙◌}
use Rattle.std.proofs.lemmas.Result.{err_from_is_err_and}
use Rattle.elf_model.specs.Prelude.{hash_checks_from, section_at, version_checks}
use Rattle.elf_table.proofs.HashSectionLaws.{place_is}
use Rattle.elf_record.specs.declared.ehdr.Ehdr.{Ehdr}
use Rattle.elf_hash.specs.Prelude.{hash_style_of, min_hash_bytes}
use Rattle.elf_hash.proofs.SectionLaws.{section_is}
use Rattle.elf_hash.proofs.SettleLaws.{finds, refused_back, refused_front, refuses}
use Rattle.elf_hash.proofs.by_sections.section_lookup_tables.Goals as goal

pub returns-in_err-index : goal.returns-in_err-index
returns-in_err-index c =
    let p = err_from_is_err_and c.from_residual.result c.from_residual.ensures.1 in
    rw (p.1, p.2) (refuses _ c.in_err-index.ensures.refusal (λ bytes belongs.
    let at = section_at bytes c.args.section in
    let told = c.in_err-index.ensures.held bytes belongs in
    (refused_front (hash_checks_from (min_hash_bytes c.args.kind) bytes at) (version_checks bytes at) _ (rw c.min_hash_bytes.ensures at told))))

pub returns-in_err-versions : goal.returns-in_err-versions
returns-in_err-versions c =
    let p = err_from_is_err_and c.from_residual-in_err-versions.result c.from_residual-in_err-versions.ensures.1 in
    rw (p.1, p.2) (refuses _ c.in_err-versions.ensures.refusal (λ bytes belongs.
    let at = section_at bytes c.args.section in
    let told = c.in_ok-index.ensures.held bytes belongs in
    let hashed = rw c.min_hash_bytes.ensures at told in
    let link = sym (c.section-header.ensures.is_at bytes belongs).sh_link in
    (refused_back (hash_checks_from (min_hash_bytes c.args.kind) bytes at) (version_checks bytes at) _ hashed.0 (c.in_err-versions.ensures.held bytes belongs at link))))

pub returns : goal.returns
returns c = finds _ (search rules) (λ bytes belongs.
    let at = section_at bytes c.args.section in
    let told = c.in_ok-index.ensures.held bytes belongs in
    let hashed = rw c.min_hash_bytes.ensures at told in
    let is = c.section-header.ensures.is_at bytes belongs in
    section_is bytes (hash_style_of c.args.kind) at _ _ _ hashed (c.in_ok-versions.ensures.held bytes belongs at (sym is.sh_link))
    (ap (λ (h : Ehdr). h.e_machine) c.header.ensures.value ∙ belongs.header.e_machine) refl (c.place.ensures.value ∙ place_is bytes c.args.section _ _ belongs) is.sh_offset is.sh_size c.len.ensures refl refl refl refl refl refl)
