-- The section of entries, what is missing there, and the name.
use Rattle.std.proofs.Common.{◌≡◌, ◌∙◌, sym, ap, None, arith}
use Rattle.std.proofs.lemmas.Result.{err_from_is_err_and}
use Rattle.elf_model.specs.Prelude.{lack_with, section_at}
use Rattle.elf_table.proofs.LedgerLaws.{CallDid-as, CallDid-none, CallDid-then}
use Rattle.elf_reloc.proofs.ExplainLaws.{lacks_nothing, lacks_told, nowhere, somewhere}
use Rattle.elf_table.proofs.Absent.{none-of}
use Rattle.elf_reloc.proofs.explanation.explain_loaded.Goals as goal

pub returns-in_default : goal.returns-in_default
returns-in_default g c =
    let none = none-of c.entries_at.result c.in_default.not-Some in
    CallDid-as _ (omega arith) (CallDid-none c.args.src.now)
    (λ bytes read costs belongs. sym (nowhere bytes c.args.section c.args.layout.now c.args.refusal (rw none at (c.entries_at.ensures.found bytes belongs))))

pub returns-in_err-lacking : goal.returns-in_err-lacking
returns-in_err-lacking g c =
    let p = err_from_is_err_and c.from_residual.result c.from_residual.ensures.1 in
    rw (p.1, p.2)
    (CallDid-as _ (omega arith) c.in_err-lacking.ensures.did
    (λ bytes read costs belongs. let found = c.in-Some.ensures.found bytes belongs in read (section_at bytes found.0) found.2))

pub returns-in_default-2 : goal.returns-in_default-2
returns-in_default-2 g c =
    let none = none-of c.in_ok-lacking.field-0 c.in_default-2.not-Some in
    CallDid-as _ (omega arith) (rw none at c.in_ok-lacking.ensures.did)
    (λ bytes read costs belongs.
    let found = c.in-Some.ensures.found bytes belongs in
    sym (somewhere bytes c.args.section c.args.layout.now c.args.refusal found.0 found.1 ∙ lacks_nothing bytes (section_at bytes found.0) _ (read (section_at bytes found.0) found.2)))

pub returns-in_default-3 : goal.returns-in_default-3
returns-in_default-3 g c =
    let none = none-of c.in_ok-end.field-0 c.in_default-3.not-Some in
    CallDid-as _ (omega arith) (CallDid-then (rw c.in-Some-2.is at c.in_ok-lacking.ensures.did) (rw none at c.in_ok-end.ensures))
    (λ bytes read costs belongs.
    let found = c.in-Some.ensures.found bytes belongs in
    let told = lacks_told bytes (section_at bytes found.0) _ c.in-Some-2.lacking (read.0 (section_at bytes found.0) found.2) in
    sym (somewhere bytes c.args.section c.args.layout.now c.args.refusal found.0 found.1 ∙ (told ∙ ap (lack_with c.in-Some-2.lacking.missing) read.1.1)))

pub returns : goal.returns
returns g c =
    CallDid-as _ (omega arith) (CallDid-then (rw c.in-Some-2.is at c.in_ok-lacking.ensures.did) (rw c.in-Some-3.is at c.in_ok-end.ensures))
    (λ bytes read costs belongs.
    let found = c.in-Some.ensures.found bytes belongs in
    let told = lacks_told bytes (section_at bytes found.0) _ c.in-Some-2.lacking (read.0 (section_at bytes found.0) found.2) in
    sym (somewhere bytes c.args.section c.args.layout.now c.args.refusal found.0 found.1 ∙ (told ∙ ap (lack_with c.in-Some-2.lacking.missing) read.1)))
