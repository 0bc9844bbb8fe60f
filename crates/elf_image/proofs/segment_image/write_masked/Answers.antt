-- The load refuses.
use Rattle.std.proofs.Common.{◌≡◌, ◌+◌, ◌-◌, ◌*◌, ℕ, length, Err, ap, ◌∙◌, arith}
use Rattle.std.proofs.lemmas.Result.{err_from_is_err_and}
use Rattle.elf_model.specs.Prelude.{e_phnum}
use Rattle.elf_source.proofs.ReadsLaws.{ReadsUpTo-then, ReadsUpTo-to}
use Rattle.elf_hash.specs.Loading.{segments_load_cost}
use Rattle.elf_image.specs.ImageWrites.{IsTooLarge, request_cost, asked_image, relocated_ceiling, windows_met}
use Rattle.elf_image.proofs.ImageCostSteps.{headers_within}
use Rattle.elf_image.proofs.ImageSteps.{stops_before}
use Rattle.elf_image.proofs.LimitSteps.{limits-later, read-limits}
use Rattle.elf_image.proofs.MaskedImageSteps.{load_costs, load_stops, masked_after}
use Rattle.elf_image.proofs.StopSteps.{read-stops, stops-later}
use Rattle.elf_image.proofs.segment_image.write_masked.Goals as goal

pub returns-in_err-loaded-clause-writes : goal.returns-in_err-loaded-clause-writes
returns-in_err-loaded-clause-writes g c = λ whole file mask none.
    let p = err_from_is_err_and c.from_residual.result c.from_residual.ensures.1 in
    let loads = c.in_err-loaded.ensures.did.known file mask.seen none in
    stops_before (Unit {0}) c.args.out.now c.in_err-loaded.field-0.0 _ _ (p.1 ∙ ap Err p.2)
    (load_stops whole file c.args.store.now.slots c.args.masked.now.request.now c.load_image.new.store c.in_err-loaded.field-0.0 loads.loads)

pub returns-in_err-loaded-clause-cost : goal.returns-in_err-loaded-clause-cost
returns-in_err-loaded-clause-cost g c = λ whole file mask none.
    let request = c.args.masked.now.request.now in
    let window : ℕ = length c.args.window.now in
    let loads = c.in_err-loaded.ensures.did.known file mask.seen none in
    let within = headers_within file request.segment window (windows_met whole file window request) c.args.src.now.asked c.args.src.now.asked (omega arith) in
    omega (arith, loads.costs.reads.at_most, load_costs file c.args.store.now.slots, within)

pub returns-in_err-loaded-clause-limits : goal.returns-in_err-loaded-clause-limits
returns-in_err-loaded-clause-limits g c = λ whole file mask none.
    let p = err_from_is_err_and c.from_residual.result c.from_residual.ensures.1 in
    let request = c.args.masked.now.request.now in
    let slots = c.args.store.now.slots in
    let window : ℕ = length c.args.window.now in
    let loads = c.in_err-loaded.ensures.did.known file mask.seen none in
    let within = headers_within file request.segment window (windows_met whole file window request) 0 0 (omega arith) in
    rw (p.1, p.2)
    (read-limits (IsTooLarge file request.segment request.most) (asked_image whole file slots request) c.args.src.now c.load_image.new.src (segments_load_cost file slots) (request_cost whole file window request) c.in_err-loaded.field-0.0 (omega (arith, load_costs file slots, within)) loads.costs.says)

pub returns-clause-limits : goal.returns-clause-limits
returns-clause-limits g c = λ whole file mask none.
    let request = c.args.masked.now.request.now in
    let slots = c.args.store.now.slots in
    let window : ℕ = length c.args.window.now in
    let loads = c.in_ok-loaded.ensures.did.known file mask.seen none in
    let reads = loads.costs.reads in
    let within = headers_within file request.segment window (windows_met whole file window request) 0 0 (omega arith) in
    let same = c.load_image.ensures.slots in
    let cost : ℕ = request_cost whole file window request in
    let says = c.write_loaded.ensures.limits whole file (masked_after c.args.src.now c.load_image.new.src _ c.args.masked.now.hides whole file reads mask) (rw same loads.loads.0) loads.loads.1 in
    limits-later (IsTooLarge file request.segment request.most) (asked_image whole file slots request) (cost - (64 + 56 * e_phnum file)) cost c.write_loaded.result reads (omega (arith, reads.at_most, load_costs file slots, within)) (λ large. large) (rw same at says)

pub returns-in_err-loaded-clause-reads : goal.returns-in_err-loaded-clause-reads
returns-in_err-loaded-clause-reads g c =
    let reads = c.in_err-loaded.ensures.did.costs.reads in
    ReadsUpTo-to reads (omega (arith, reads.at_most))

pub returns-clause-reads : goal.returns-clause-reads
returns-clause-reads g c =
    let reads = c.in_ok-loaded.ensures.did.costs.reads in
    let window : ℕ = length c.args.window.now in
    let most = c.args.masked.now.request.now.most in
    let same : relocated_ceiling c.load_image.new.src.seen.size window most ≡ relocated_ceiling c.args.src.now.seen.size window most =
    ap (λ (n : ℕ). relocated_ceiling n window most) reads.keeps.same_size in
    let later = c.write_loaded.ensures.reads in
    ReadsUpTo-to (ReadsUpTo-then reads later) (omega (arith, reads.at_most, reads.keeps.same_size, same, later.at_most))

pub returns-in_err-loaded-clause-stops : goal.returns-in_err-loaded-clause-stops
returns-in_err-loaded-clause-stops g c =
    let p = err_from_is_err_and c.from_residual.result c.from_residual.ensures.1 in
    rw (p.1, p.2) (read-stops c.args.src.now c.load_image.new.src c.args.out.now _ c.in_err-loaded.field-0.0 c.in_err-loaded.ensures.did.costs.says)

pub returns-clause-stops : goal.returns-clause-stops
returns-clause-stops g c =
    stops-later c.write_loaded.new.src c.write_loaded.new.out c.write_loaded.result c.in_ok-loaded.ensures.did.costs.reads c.write_loaded.ensures.stops
