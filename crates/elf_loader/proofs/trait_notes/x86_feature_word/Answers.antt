-- The machine, the first list, and the feature bits in it.
use Rattle.std.proofs.Common.{sym, ap, ◌∙◌, arith}
use Rattle.std.proofs.lemmas.Bool.{eq-eqb, ne_eqb}
use Rattle.std.proofs.lemmas.Result.{err_from_is_err_and}
use Rattle.elf_model.proofs.Slices.{slice-size}
use Rattle.elf_record.specs.declared.ehdr.Ehdr.{Ehdr}
use Rattle.elf_table.proofs.LedgerLaws.{CallReads-more, CallReads-then, CallDid-as, CallDid-none, CallDid-sized, CallDid-then}
use Rattle.elf_table.proofs.Absent.{none-of}
use Rattle.elf_loader.proofs.FeatureLaws.{asked_least, asked_list, list_fails, other_machine, value_of, word_none, word_some}
use Rattle.elf_loader.proofs.trait_notes.x86_feature_word.Goals as goal

pub returns-then-header-ne-EM_X86_64 : goal.returns-then-header-ne-EM_X86_64
returns-then-header-ne-EM_X86_64 g c =
    CallDid-as _ (omega arith) (CallDid-none c.args.src.now)
    (λ file told costs views.
    let machine = ap (λ (h : Ehdr). h.e_machine) c.header.ensures.value ∙ views.belongs.header.e_machine in
    record { costs = costs _ (omega arith); finds = other_machine file (ne_eqb _ _ (λ same. c.if-header-ne-EM_X86_64.true (machine ∙ same))) })

pub returns-in_err-list : goal.returns-in_err-list
returns-in_err-list g c =
    let p = err_from_is_err_and c.from_residual.result c.from_residual.ensures.1 in
    rw (p.1, p.2)
    (CallDid-as _ (omega arith) c.in_err-list.ensures.did
    (λ file told costs views.
    let machine = ap (λ (h : Ehdr). h.e_machine) c.header.ensures.value ∙ views.belongs.header.e_machine in
    let is = eq-eqb _ _ (sym machine ∙ c.if-header-ne-EM_X86_64.false) in
    let found = told views in
    record { costs = CallReads-more _ (asked_least file is) found.costs; finds = list_fails file is _ found.finds }))

pub returns-in_default : goal.returns-in_default
returns-in_default g c =
    let none = none-of _ c.in_default.not-Some in
    let found = rw none at c.in_ok-list.ensures in
    CallDid-as _ (omega arith) found.did
    (λ file told costs views.
    let machine = ap (λ (h : Ehdr). h.e_machine) c.header.ensures.value ∙ views.belongs.header.e_machine in
    let is = eq-eqb _ _ (sym machine ∙ c.if-header-ne-EM_X86_64.false) in
    let finds = told views in
    record { costs = CallReads-more _ (asked_least file is) finds.costs; finds = word_none file is finds.finds })

pub returns : goal.returns
returns g c =
    let found = rw c.in-Some.is at c.in_ok-list.ensures in
    let same = found.did.costs.reads.keeps.same_size in
    let lies = found.within in
    CallDid-as _ (omega (arith, lies)) (CallDid-sized (CallDid-then found.did c.features_in.ensures))
    (λ file told costs views.
    let machine = ap (λ (h : Ehdr). h.e_machine) c.header.ensures.value ∙ views.belongs.header.e_machine in
    let is = eq-eqb _ _ (sym machine ∙ c.if-header-ne-EM_X86_64.false) in
    let finds = told.1.0 views in
    let bytes = slice-size file c.in-Some.list.at c.in-Some.list.size (omega (arith, lies, told.0)) in
    let asked = asked_list file is _ finds.finds in
    record {
      costs = CallReads-then _ (omega (arith, asked, bytes)) finds.costs c.features_in.ensures.costs;
      finds = value_of _ _ _ (sym (word_some file is _ finds.finds)) told.1.1;
    })
