-- A section that has the name, the next, or no other.
use Rattle.std.proofs.Common.{◌≡◌, ◌<◌, ◌≤◌, ◌-◌, ℕ, refl, ap, ◌∙◌, arith}
use Rattle.std.proofs.lemmas.Result.{err_from_is_err_and}
use Rattle.elf_model.specs.Prelude.{e_shnum, first_that, is_stack_section}
use Rattle.elf_table.proofs.LedgerLaws.{CallDid-as, CallDid-none, CallDid-then}
use Rattle.elf_loader.proofs.StackLaws.{stack_gone, stack_here, stack_more}
use Rattle.elf_loader.proofs.section_stack.named_section.Goals as goal

pub sections-init : goal.sections-init
sections-init g c = record {
  within = omega arith;
  so_far = CallDid-as _ (omega arith) (CallDid-none c.args.src.now)
      (λ file told costs belongs names. let all : e_shnum file ≡ e_shnum file - 0 = omega arith in ap (first_that (is_stack_section file) 0) all);
}

pub returns-in_err-is_named-clause-did : goal.returns-in_err-is_named-clause-did
returns-in_err-is_named-clause-did g c =
    let p = err_from_is_err_and c.from_residual.result c.from_residual.ensures.1 in
    let count = c.sections-count.ensures in
    rw (p.1, p.2)
    (CallDid-as _ (omega (arith, count, c.sections-test.true)) (CallDid-then c.sections.invariant.so_far c.in_err-is_named.ensures)
    (λ file told costs belongs names. told.1 belongs names))

pub returns-then-is_named-clause-did : goal.returns-then-is_named-clause-did
returns-then-is_named-clause-did g c =
    let count = c.sections-count.ensures in
    CallDid-as _ (omega (arith, count, c.sections-test.true)) (CallDid-then c.sections.invariant.so_far c.in_ok-is_named.ensures)
    (λ file told costs belongs names.
    let below : c.sections.index < e_shnum file = omega (arith, count, belongs.count, belongs.header.e_shnum, c.sections-test.true) in
    told.0 belongs names ∙ stack_here file c.sections.index (e_shnum file) below (told.1 belongs names ∙ c.if-is_named.true))

pub sections-preserved : goal.sections-preserved
sections-preserved g c =
    let count = c.sections-count.ensures in
    record {
      within = omega (arith, count, c.sections-test.true);
      so_far = CallDid-as _ (omega arith) (CallDid-then c.sections.invariant.so_far c.in_ok-is_named.ensures)
          (λ file told costs belongs names.
          let below : c.sections.index < e_shnum file = omega (arith, count, belongs.count, belongs.header.e_shnum, c.sections-test.true) in
          told.0 belongs names ∙ stack_more file c.sections.index (e_shnum file) _ refl below (told.1 belongs names ∙ c.if-is_named.false));
    }

pub returns-clause-did : goal.returns-clause-did
returns-clause-did g c =
    let count = c.sections-count.ensures in
    CallDid-as _ (omega (arith, c.sections.invariant.within)) c.sections.invariant.so_far
    (λ file told costs belongs names.
    let past : e_shnum file ≤ c.sections.index = omega (arith, count, belongs.count, belongs.header.e_shnum, c.sections-test.false) in
    told belongs names ∙ stack_gone file c.sections.index (e_shnum file) past)
