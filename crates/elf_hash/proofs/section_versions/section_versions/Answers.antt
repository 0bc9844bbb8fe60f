-- The versym entries, then the definitions, then the needs.
use Rattle.std.proofs.Common.{rules, refl}
use Rattle.std.proofs.lemmas.Result.{err_from_is_err_and}
use Rattle.elf_table.proofs.Absent.{none-of}
use Rattle.elf_hash.proofs.VersionLaws.{definitions_refuse, needs_refuse, no_versions, versions_are, words_refuse}
use Rattle.elf_hash.proofs.SettleLaws.{finds, refuses}
use Rattle.elf_hash.proofs.section_versions.section_versions.Goals as goal

pub returns-in_err-words : goal.returns-in_err-words
returns-in_err-words c =
    let p = err_from_is_err_and c.from_residual.result c.from_residual.ensures.1 in
    rw (p.1, p.2) (refuses _ c.in_err-words.ensures.refusal (λ bytes belongs at link.
    (words_refuse bytes at _ (c.in_err-words.ensures.held bytes belongs at link))))

pub returns-in_default : goal.returns-in_default
returns-in_default c = finds _ (search rules) (λ bytes belongs at link.
    let told = c.in_ok-words.ensures.held bytes belongs at link in
    let none = rw (none-of c.in_ok-words.field-0 c.in_default.not-Some) at told in
    no_versions bytes at _ none.1 refl refl refl)

pub returns-in_err-definitions : goal.returns-in_err-definitions
returns-in_err-definitions c =
    let p = err_from_is_err_and c.from_residual-in_err-definitions.result c.from_residual-in_err-definitions.ensures.1 in
    rw (p.1, p.2) (refuses _ c.in_err-definitions.ensures.refusal (λ bytes belongs at link.
    let told = c.in_ok-words.ensures.held bytes belongs at link in
    let words = rw c.in-Some.is at told in
    (definitions_refuse bytes at _ words _ (c.in_err-definitions.ensures.held bytes belongs))))

pub returns-in_err-needs : goal.returns-in_err-needs
returns-in_err-needs c =
    let p = err_from_is_err_and c.from_residual-in_err-needs.result c.from_residual-in_err-needs.ensures.1 in
    rw (p.1, p.2) (refuses _ c.in_err-needs.ensures.refusal (λ bytes belongs at link.
    let told = c.in_ok-words.ensures.held bytes belongs at link in
    let words = rw c.in-Some.is at told in
    (needs_refuse bytes at _ words _ (c.in_ok-definitions.ensures.held bytes belongs).0 (c.in_err-needs.ensures.held bytes belongs))))

pub returns : goal.returns
returns c = finds _ (search rules) (λ bytes belongs at link.
    let told = c.in_ok-words.ensures.held bytes belongs at link in
    let words = rw c.in-Some.is at told in
    versions_are bytes at _ words _ refl (c.in_ok-definitions.ensures.held bytes belongs) (c.in_ok-needs.ensures.held bytes belongs))
