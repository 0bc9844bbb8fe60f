-- The checks of the place, and then the bytes.
use Rattle.std.proofs.Common.{ℕ, sym, ap, subst, ◌∙◌}
use Rattle.std.proofs.lemmas.Result.{err_from_is_err_and}
use Rattle.elf_model.specs.Image.{ImageChange, Stores, change_by}
use Rattle.elf_model.specs.ImageItems.{ItemValues}
use Rattle.elf_model.specs.ImageValues.{changed_size, entry_symbol, stored_bytes}
use Rattle.elf_image.specs.Relocated.{ChangesAs, write_at}
use Rattle.elf_image.specs.Values.{stored_as}
use Rattle.elf_image.proofs.EntrySteps.{passed_change, place_refuses, stored_change}
use Rattle.elf_image.proofs.entry.stored_result.Goals as goal

pub returns-in_err-place-clause-change : goal.returns-in_err-place-clause-change
returns-in_err-place-clause-change c = λ source of rela small uses.
    let p = err_from_is_err_and c.from_residual.result c.from_residual.ensures.1 in
    let width = c.changed_size-width.ensures source.file _ _ uses.1 in
    let found = rw (width, rela.r_offset) at (c.in_err-place.ensures.found source of) in
    rw (p.1, p.2) (place_refuses source c.args.at c.args.found uses.0 c.args.image.now.leaves _ found)

pub returns-in-Ok-clause-change : goal.returns-in-Ok-clause-change
returns-in-Ok-clause-change c = λ source of rela small uses.
    let width = c.changed_size-width.ensures source.file _ _ uses.1 in
    let found = rw (width, rela.r_offset) at (c.in_ok-place.ensures.found source of) in
    let value = c.in-Ok.ensures.value source.file c.args.at _ rela small uses.1 of.based in
    let bytes = ap (λ (items : ItemValues). stored_bytes c.args.found source.file items c.args.at (entry_symbol source.file source.at c.args.at)) of.items in (
      stored_change source c.args.at c.args.found uses.0 c.in_ok-place.place (stored_as c.in-Ok.bytes) found.0 found.1 (sym bytes ∙ sym value)
          ∙ ap (λ (size : ℕ). Stores (write_at c.in_ok-place.place size (stored_as c.in-Ok.bytes))) (sym width),
      c.in-Ok.ensures.given,
    )

pub returns-in-Err-clause-change : goal.returns-in-Err-clause-change
returns-in-Err-clause-change c = λ source of rela small uses.
    let width = c.changed_size-width.ensures source.file _ _ uses.1 in
    let found = rw (width, rela.r_offset) at (c.in_ok-place.ensures.found source of) in
    let value = c.in-Err.ensures.value source.file c.args.at _ rela small uses.1 of.based in
    let bytes = ap (λ (items : ItemValues). stored_bytes c.args.found source.file items c.args.at (entry_symbol source.file source.at c.args.at)) of.items in
    let size = changed_size c.args.found source.file (entry_symbol source.file source.at c.args.at) in
    let same = passed_change source c.args.at c.args.found uses.0 found.0 ∙ ap (change_by source c.args.at size) (sym bytes ∙ sym value) in
    subst (λ (change : ImageChange). ChangesAs c.args.image.now.leaves c.args.at c.without_bytes.result change) (sym same) (c.without_bytes.ensures.change source size)
