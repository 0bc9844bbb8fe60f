-- The file of a source in memory is known, so what is found is the file's.
use Rattle.std.proofs.Common.{rules, ◌≡◌, Ok, Err, length, arith}
use Rattle.elf_model.specs.Prelude.{find_cost}
use Rattle.elf_table.specs.declared.fault.Fault.TheVariants.{Refused as Refuses}
use Rattle.elf_capi.proofs.BudgetLaws.{wanting_read}
use Rattle.elf_capi.proofs.lookup_call.look_in.Goals as goal

pub returns-in-Ok-clause-looks : goal.returns-in-Ok-clause-looks
returns-in-Ok-clause-looks c =
    let file = c.args.file.now in
    let known = c.file_within-src.ensures.known in
    let found : c.find-found.result ≡ Ok c.in-Ok.lookup = search rules in
    (rw (found) at (c.find-found.ensures.did.known file known)).finds

pub returns-in-Err-Refused-clause-looks : goal.returns-in-Err-Refused-clause-looks
returns-in-Err-Refused-clause-looks c =
    let file = c.args.file.now in
    let known = c.file_within-src.ensures.known in
    let found : c.find-found.result ≡ Err (Refuses c.in-Err-Refused.refusal) = search rules in
    let finds = rw (found) at (c.find-found.ensures.did.known file known) in
    let cost = find_cost file c.args.store.now.slots c.args.name.now in (
      finds.finds,
      wanting_read c.args.budget c.file_within-src.result c.find-found.new.src cost (length file) c.in-Err-Refused.refusal c.file_within-src.ensures.limit c.file_within-src.ensures.unasked
          (c.file_within-src.result.seen.sized file known) finds.costs.says,
    )

pub returns-in-Ok-clause-cost : goal.returns-in-Ok-clause-cost
returns-in-Ok-clause-cost c =
    let known = c.file_within-src.ensures.known in
    let cost = (c.find-found.ensures.did.known c.args.file.now known).costs.reads.at_most in
    omega (arith, c.short.ensures, c.asked.ensures, c.file_within-src.ensures.unasked, cost)

pub returns-in-Err-Refused-clause-cost : goal.returns-in-Err-Refused-clause-cost
returns-in-Err-Refused-clause-cost c =
    let known = c.file_within-src.ensures.known in
    let cost = (c.find-found.ensures.did.known c.args.file.now known).costs.reads.at_most in
    omega (arith, c.short.ensures, c.asked.ensures, c.file_within-src.ensures.unasked, cost)
