-- The file of a source in memory is known, so what is found is the file's.
use Rattle.std.proofs.Common.{rules, ◌≡◌, length, Ok, Err, refl, ◌∙◌, arith}
use Rattle.elf_model.specs.Style.{without_sections}
use Rattle.elf_model.proofs.StyleLemmas.{view_tells_of_none}
use Rattle.elf_table.specs.declared.fault.Fault.TheVariants.{Refused as Refuses}
use Rattle.elf_capi.specs.LocatedTables.{located_table_cost}
use Rattle.elf_capi.proofs.BudgetLaws.{wanting_read}
use Rattle.elf_capi.proofs.located_call.open_located.Goals as goal

pub returns-in-Ok-clause-reads : goal.returns-in-Ok-clause-reads
returns-in-Ok-clause-reads c =
    let file = c.args.file.now in
    let known = c.mask_section_headers.ensures.shows refl file c.file_within-src.ensures.known in
    let found : c.located_rows-found.result ≡ Ok c.in-Ok.rows = search rules in
    (rw (found) at (c.located_rows-found.ensures.did.known (without_sections file) known (view_tells_of_none file).1)).tells

pub returns-in-Ok-clause-cost : goal.returns-in-Ok-clause-cost
returns-in-Ok-clause-cost c =
    let file = c.args.file.now in
    let mask = c.mask_section_headers.ensures in
    let known = mask.shows refl file c.file_within-src.ensures.known in
    let cost = (c.located_rows-found.ensures.did.known (without_sections file) known (view_tells_of_none file).1).costs.reads.at_most in
    omega (arith, c.short.ensures, c.asked.ensures, mask.same_asked, c.file_within-src.ensures.unasked, cost)

pub returns-in-Err-Refused-clause-reads : goal.returns-in-Err-Refused-clause-reads
returns-in-Err-Refused-clause-reads c =
    let file = c.args.file.now in
    let shown = without_sections file in
    let mask = c.mask_section_headers.ensures in
    let known = mask.shows refl file c.file_within-src.ensures.known in
    let sized = c.file_within-src.result.seen.sized file c.file_within-src.ensures.known in
    let found : c.located_rows-found.result ≡ Err (Refuses c.in-Err-Refused.refusal) = search rules in
    let finds = rw (found) at (c.located_rows-found.ensures.did.known shown known (view_tells_of_none file).1) in
    let cost = located_table_cost shown c.args.store.now.slots in (
      finds.tells,
      wanting_read c.args.budget c.mask_section_headers.new.self c.located_rows-found.new.src cost (length file) c.in-Err-Refused.refusal (mask.same_limit ∙ c.file_within-src.ensures.limit)
          (mask.same_asked ∙ c.file_within-src.ensures.unasked) (omega (arith, sized, mask.same_size)) finds.costs.says,
    )

pub returns-in-Err-Refused-clause-cost : goal.returns-in-Err-Refused-clause-cost
returns-in-Err-Refused-clause-cost c =
    let file = c.args.file.now in
    let mask = c.mask_section_headers.ensures in
    let known = mask.shows refl file c.file_within-src.ensures.known in
    let cost = (c.located_rows-found.ensures.did.known (without_sections file) known (view_tells_of_none file).1).costs.reads.at_most in
    omega (arith, c.short.ensures, c.asked.ensures, mask.same_asked, c.file_within-src.ensures.unasked, cost)
