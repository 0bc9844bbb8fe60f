-- The fields that locate section headers are masked, and then shown as before.
use Rattle.std.proofs.Common.{◌≡◌, ℕ, length, ap, subst, sym, arith}
use Rattle.elf_model.specs.Style.{without_sections}
use Rattle.elf_model.specs.Image.{image}
use Rattle.elf_source.proofs.HidingLaws.{ReadsUpTo-hidden}
use Rattle.elf_source.proofs.ReadsLaws.{ReadsUpTo-to}
use Rattle.elf_image.specs.ImageWrites.{IsTooLarge, WritesImage, request_cost, relocated_ceiling, request_items}
use Rattle.elf_image.proofs.LimitSteps.{limits-masked}
use Rattle.elf_image.proofs.MaskedImageSteps.{image_is, masked_file, no_sections}
use Rattle.elf_image.proofs.StopSteps.{stops-masked}
use Rattle.elf_image.proofs.segment_image.write_image.Goals as goal

pub returns-clause-writes : goal.returns-clause-writes
returns-clause-writes g c = λ file held.
    let mask = masked_file c.args.src.now c.mask_section_headers.new.self file held c.mask_section_headers.ensures in
    let writes = c.write_masked-written.ensures.writes file (without_sections file) (rw c.hides-hides.ensures mask) (no_sections file) in
    subst (λ answer. WritesImage c.args.out.now c.write_masked-written.new.out c.write_masked-written.result answer)
    (sym (image_is file c.args.store.now.slots c.args.request.now)) writes

pub returns-clause-cost : goal.returns-clause-cost
returns-clause-cost g c = λ file held.
    let mask = masked_file c.args.src.now c.mask_section_headers.new.self file held c.mask_section_headers.ensures in
    let cost = c.write_masked-written.ensures.cost file (without_sections file) (rw c.hides-hides.ensures mask) (no_sections file) in
    omega (arith, cost, c.mask_section_headers.ensures.same_asked, c.mask_section_headers-2.ensures.same_asked)

pub returns-clause-limits : goal.returns-clause-limits
returns-clause-limits g c = λ file held.
    let mask = masked_file c.args.src.now c.mask_section_headers.new.self file held c.mask_section_headers.ensures in
    let limits = c.write_masked-written.ensures.limits file (without_sections file) (rw c.hides-hides.ensures mask) (no_sections file) in
    limits-masked (IsTooLarge (without_sections file) c.args.request.now.segment c.args.request.now.most) (image file c.args.store.now.slots c.args.request.now.segment c.args.request.now.most (request_items c.args.request.now)) (request_cost file (without_sections file) (length c.args.window.now) c.args.request.now)
    c.write_masked-written.result c.mask_section_headers.ensures (rw (image_is file c.args.store.now.slots c.args.request.now) limits)

pub returns-clause-reads : goal.returns-clause-reads
returns-clause-reads g c =
    let masks = c.mask_section_headers.ensures in
    let window : ℕ = length c.args.window.now in
    let most = c.args.request.now.most in
    let same : relocated_ceiling c.mask_section_headers.new.self.seen.size window most ≡ relocated_ceiling c.args.src.now.seen.size window most =
    ap (λ (n : ℕ). relocated_ceiling n window most) masks.same_size in
    let reads = ReadsUpTo-hidden masks c.write_masked-written.ensures.reads (rw c.hides-hides.ensures at c.mask_section_headers-2.ensures) in
    ReadsUpTo-to reads (omega (arith, reads.at_most, masks.same_size, same))

pub returns-clause-stops : goal.returns-clause-stops
returns-clause-stops g c =
    stops-masked c.hides-hides.result c.write_masked-written.new.out c.write_masked-written.result c.hides-hides.ensures c.mask_section_headers.ensures c.mask_section_headers-2.ensures
    c.write_masked-written.ensures.stops
