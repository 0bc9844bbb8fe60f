-- What is reported is what the layout lacks, or nothing.
use Rattle.std.proofs.Common.{rules, ◌≡◌, Some, None, Ok, Err, inl, inr, ap, length, subst, ◌∙◌, arith}
use Rattle.elf_table.specs.declared.fault.Fault.TheVariants.{Refused as Refuses}
use Rattle.elf_capi.specs.LentLayouts.{ReturnsMissing}
use Rattle.elf_capi.proofs.BudgetLaws.{rest_spent}
use Rattle.elf_capi.proofs.LackLaws.{cannot_be_known, few_told}
use Rattle.elf_capi.proofs.placement.report_missing.Goals as goal

pub report-requires : goal.report-requires
report-requires c =
    let known = c.file_within-src.ensures.known in
    let wanted = c.args.wanted.now in
    let found : c.explain-found.result ≡ Ok (Some (c.in-Ok-Some.lack, c.in-Ok-Some.end)) = search rules in
    let is = rw (found) at (c.explain-found.ensures.did.known c.args.file.now known) in
    let few = few_told c.args.file.now wanted.section wanted.layout.now c.args.refusal c.in-Ok-Some.lack c.in-Ok-Some.end c.explain-found.new.name is in
    omega (arith, few, ap length c.bytes.ensures.value)

pub returns-in-Ok-Some-clause-explains : goal.returns-in-Ok-Some-clause-explains
returns-in-Ok-Some-clause-explains c =
    let known = c.file_within-src.ensures.known in
    let found : c.explain-found.result ≡ Ok (Some (c.in-Ok-Some.lack, c.in-Ok-Some.end)) = search rules in
    let is = rw (found) at (c.explain-found.ensures.did.known c.args.file.now known) in
    inl (subst (ReturnsMissing c.report.new.self) is (rw (c.bytes.ensures.value) at c.report.ensures))

pub returns-in-Ok-None-clause-explains : goal.returns-in-Ok-None-clause-explains
returns-in-Ok-None-clause-explains c =
    let known = c.file_within-src.ensures.known in
    let found : c.explain-found.result ≡ Ok None = search rules in
    let is = rw (found) at (c.explain-found.ensures.did.known c.args.file.now known) in
    inl (subst (ReturnsMissing c.clear.new.self) is c.clear.ensures)

pub returns-in-Err-Refused-clause-explains : goal.returns-in-Err-Refused-clause-explains
returns-in-Err-Refused-clause-explains c =
    let file = c.args.file.now in
    let known = c.file_within-src.ensures.known in
    let limit = c.file_within-src.ensures.limit ∙ c.rest_of.ensures in
    let found : c.explain-found.result ≡ Err (Refuses c.in-Err-Refused.field-0-0) = search rules in
    let checks = rw (found) at (c.explain-found.ensures.did.known file known) in
    let says = rw (found) at c.explain-found.ensures.did.costs.says in
    inr (
      c.clear.ensures,
      cannot_be_known file c.args.store.now.slots c.args.wanted.now.budget c.args.asked c.file_within-src.result c.explain-found.new.src c.in-Err-Refused.field-0-0 limit c.file_within-src.ensures.unasked
          (c.file_within-src.result.seen.sized file known) says checks,
    )

pub returns-in-Ok-Some-clause-cost : goal.returns-in-Ok-Some-clause-cost
returns-in-Ok-Some-clause-cost c =
    let cost = c.explain-found.ensures.did.costs.reads.at_most in omega (arith, c.asked-more.ensures, c.file_within-src.ensures.unasked, cost)

pub returns-in-Ok-Some-clause-budget : goal.returns-in-Ok-Some-clause-budget
returns-in-Ok-Some-clause-budget c =
    let limit = c.file_within-src.ensures.limit ∙ c.rest_of.ensures in
    rest_spent c.args.wanted.now.budget c.args.asked _ c.file_within-src.result c.explain-found.new.src limit c.asked-more.ensures
    c.explain-found.ensures.did.costs.reads.same_limit c.requires

pub returns-in-Ok-None-clause-cost : goal.returns-in-Ok-None-clause-cost
returns-in-Ok-None-clause-cost c =
    let cost = c.explain-found.ensures.did.costs.reads.at_most in omega (arith, c.asked-more.ensures, c.file_within-src.ensures.unasked, cost)

pub returns-in-Ok-None-clause-budget : goal.returns-in-Ok-None-clause-budget
returns-in-Ok-None-clause-budget c =
    let limit = c.file_within-src.ensures.limit ∙ c.rest_of.ensures in
    rest_spent c.args.wanted.now.budget c.args.asked _ c.file_within-src.result c.explain-found.new.src limit c.asked-more.ensures
    c.explain-found.ensures.did.costs.reads.same_limit c.requires

pub returns-in-Err-Refused-clause-cost : goal.returns-in-Err-Refused-clause-cost
returns-in-Err-Refused-clause-cost c =
    let cost = c.explain-found.ensures.did.costs.reads.at_most in omega (arith, c.asked-more.ensures, c.file_within-src.ensures.unasked, cost)

pub returns-in-Err-Refused-clause-budget : goal.returns-in-Err-Refused-clause-budget
returns-in-Err-Refused-clause-budget c =
    let limit = c.file_within-src.ensures.limit ∙ c.rest_of.ensures in
    rest_spent c.args.wanted.now.budget c.args.asked _ c.file_within-src.result c.explain-found.new.src limit c.asked-more.ensures
    c.explain-found.ensures.did.costs.reads.same_limit c.requires
