-- The file of a source in memory is known, so what is found is the file's.
use Rattle.std.proofs.Common.{rules, ◌≡◌, Ok, Err, length, arith}
use Rattle.elf_model.specs.LoaderFind.{loader_cost}
use Rattle.elf_table.specs.declared.fault.Fault.TheVariants.{Refused as Refuses}
use Rattle.elf_capi.specs.Prelude.{asks_of, file_of, wanted_by}
use Rattle.elf_capi.proofs.BudgetLaws.{wanting_read}
use Rattle.elf_capi.proofs.loader_lookup.resolve_in.Goals as goal

pub returns-in-Ok-clause-resolves : goal.returns-in-Ok-clause-resolves
returns-in-Ok-clause-resolves c =
    let file = c.args.file.now in
    let known = c.file_within-src.ensures.known in
    let found : c.look_up-found.result ≡ Ok c.in-Ok.lookup = search rules in
    (rw (c.wanted-wanted.ensures.is, c.by_segments.ensures, found) at (c.look_up-found.ensures.did.known file known)).tells

pub returns-in-Err-Refused-clause-resolves : goal.returns-in-Err-Refused-clause-resolves
returns-in-Err-Refused-clause-resolves c =
    let file = c.args.file.now in
    let query = asks_of c.args.query.now in
    let known = c.file_within-src.ensures.known in
    let found : c.look_up-found.result ≡ Err (Refuses c.in-Err-Refused.refusal) = search rules in
    let looks = rw (c.wanted-wanted.ensures.is, c.by_segments.ensures, found) at (c.look_up-found.ensures.did.known file known) in
    let cost = loader_cost (file_of query file) c.args.store.now.slots (wanted_by query) in (
      looks.tells,
      wanting_read c.args.budget c.file_within-src.result c.look_up-found.new.src cost (length file) c.in-Err-Refused.refusal c.file_within-src.ensures.limit c.file_within-src.ensures.unasked
          (c.file_within-src.result.seen.sized file known) looks.costs.says,
    )

pub returns-in-Ok-clause-cost : goal.returns-in-Ok-clause-cost
returns-in-Ok-clause-cost c =
    let known = c.file_within-src.ensures.known in
    let cost = (rw (c.wanted-wanted.ensures.is, c.by_segments.ensures) at (c.look_up-found.ensures.did.known c.args.file.now known)).costs.reads.at_most in
    omega (arith, c.short.ensures, c.asked.ensures, c.file_within-src.ensures.unasked, cost)

pub returns-in-Err-Refused-clause-cost : goal.returns-in-Err-Refused-clause-cost
returns-in-Err-Refused-clause-cost c =
    let known = c.file_within-src.ensures.known in
    let cost = (rw (c.wanted-wanted.ensures.is, c.by_segments.ensures) at (c.look_up-found.ensures.did.known c.args.file.now known)).costs.reads.at_most in
    omega (arith, c.short.ensures, c.asked.ensures, c.file_within-src.ensures.unasked, cost)
