-- The file of a source in memory is known, so what is found is the file's.
use Rattle.std.proofs.Common.{rules, ◌≡◌, length, Ok, Err, ◌∙◌, arith}
use Rattle.elf_model.specs.Style.{looked_at}
use Rattle.elf_table.specs.declared.fault.Fault.TheVariants.{Refused as Refuses}
use Rattle.elf_capi.specs.Hashed.{hashed_cost}
use Rattle.elf_capi.proofs.BudgetLaws.{wanting_read}
use Rattle.elf_capi.proofs.HashedCallLaws.{shown_in}
use Rattle.elf_capi.proofs.hashed_call.open_hashed.Goals as goal

pub returns-in-Ok-clause-reads : goal.returns-in-Ok-clause-reads
returns-in-Ok-clause-reads c =
    let file = c.args.file.now in
    let shown = looked_at c.args.by_segments file in
    let mask = c.mask_section_headers.ensures in
    let known = shown_in c.args.by_segments file c.mask_section_headers.new.self mask.is_hidden (mask.same_source ∙ c.file_within-src.ensures.source) in
    let found : c.hashed_rows-found.result ≡ Ok c.in-Ok.rows = search rules in
    (rw (found) at (c.hashed_rows-found.ensures.did.known shown known)).tells

pub returns-in-Ok-clause-cost : goal.returns-in-Ok-clause-cost
returns-in-Ok-clause-cost c =
    let file = c.args.file.now in
    let shown = looked_at c.args.by_segments file in
    let mask = c.mask_section_headers.ensures in
    let known = shown_in c.args.by_segments file c.mask_section_headers.new.self mask.is_hidden (mask.same_source ∙ c.file_within-src.ensures.source) in
    let cost = (c.hashed_rows-found.ensures.did.known shown known).costs.reads.at_most in
    omega (arith, c.short.ensures, c.asked.ensures, mask.same_asked, c.file_within-src.ensures.unasked, cost)

pub returns-in-Err-Refused-clause-reads : goal.returns-in-Err-Refused-clause-reads
returns-in-Err-Refused-clause-reads c =
    let file = c.args.file.now in
    let shown = looked_at c.args.by_segments file in
    let mask = c.mask_section_headers.ensures in
    let known = shown_in c.args.by_segments file c.mask_section_headers.new.self mask.is_hidden (mask.same_source ∙ c.file_within-src.ensures.source) in
    let sized = c.file_within-src.result.seen.sized file c.file_within-src.ensures.known in
    let found : c.hashed_rows-found.result ≡ Err (Refuses c.in-Err-Refused.refusal) = search rules in
    let finds = rw (found) at (c.hashed_rows-found.ensures.did.known shown known) in
    let cost = hashed_cost shown c.args.store.now.slots in (
      finds.tells,
      wanting_read c.args.budget c.mask_section_headers.new.self c.hashed_rows-found.new.src cost (length file) c.in-Err-Refused.refusal (mask.same_limit ∙ c.file_within-src.ensures.limit)
          (mask.same_asked ∙ c.file_within-src.ensures.unasked) (omega (arith, sized, mask.same_size)) finds.costs.says,
    )

pub returns-in-Err-Refused-clause-cost : goal.returns-in-Err-Refused-clause-cost
returns-in-Err-Refused-clause-cost c =
    let file = c.args.file.now in
    let shown = looked_at c.args.by_segments file in
    let mask = c.mask_section_headers.ensures in
    let known = shown_in c.args.by_segments file c.mask_section_headers.new.self mask.is_hidden (mask.same_source ∙ c.file_within-src.ensures.source) in
    let cost = (c.hashed_rows-found.ensures.did.known shown known).costs.reads.at_most in
    omega (arith, c.short.ensures, c.asked.ensures, mask.same_asked, c.file_within-src.ensures.unasked, cost)
