-- Each check refuses in its turn.
use Rattle.std.proofs.Common.{◌≡◌, ◌+◌, ◌-◌, ◌*◌, ◌≤◌, ℕ, length, Err, IfErr, refl, sym, ap, subst, ◌∙◌, arith}
use Rattle.std.proofs.lemmas.Result.{err_from_is_err_and}
use Rattle.elf_model.specs.Prelude.{e_phnum}
use Rattle.elf_source.proofs.ReadsLaws.{ReadsUpTo-none, ReadsUpTo-then, ReadsUpTo-to}
use Rattle.elf_hash.specs.Segments.{entries_asked}
use Rattle.elf_image.specs.ImageWrites.{IsTooLarge, RefusesOverLimit, WritesImage, request_cost, asked_image, relocated_ceiling, relocated_cost, windows_met}
use Rattle.elf_image.specs.Relocated.{SaysRelocations, entries_header}
use Rattle.elf_image.specs.declared.changes.ImageFile.{ImageFile}
use Rattle.elf_image.proofs.CeilingSteps.{larger_ceiling}
use Rattle.elf_image.proofs.ImageCostSteps.{entries_cost, headers_within, source_cost}
use Rattle.elf_image.proofs.ImageSteps.{has_source, kinds_refuse, loads_pass, no_overlap, relocated_answer, request_limits, request_refused, said_base, source_for, stops_before, told_refused}
use Rattle.elf_image.proofs.LimitSteps.{check-limits, limits-later, read-limits}
use Rattle.elf_image.proofs.StopSteps.{check-stops, read-stops, refusal-stops, stops-later}
use Rattle.elf_image.proofs.segment_image.write_loaded.Goals as goal

pub returns-in_err-check_headers-clause-writes : goal.returns-in_err-check_headers-clause-writes
returns-in_err-check_headers-clause-writes g c = λ whole file mask opened views.
    let p = err_from_is_err_and c.from_residual.result c.from_residual.ensures.1 in
    stops_before (Unit {0}) c.args.out.now c.in_err-check_headers.field-0.0 _ _ (p.1 ∙ ap Err p.2)
    (kinds_refuse whole file c.args.store.now.slots c.args.masked.now.request.now opened c.in_err-check_headers.field-0.0 (c.in_err-check_headers.ensures.held file views))

pub returns-in_err-check_headers-clause-cost : goal.returns-in_err-check_headers-clause-cost
returns-in_err-check_headers-clause-cost g c = λ whole file mask opened views.
    let request = c.args.masked.now.request.now in
    let window : ℕ = length c.args.window.now in
    headers_within file request.segment window (windows_met whole file window request) c.args.src.now.asked c.args.src.now.asked (omega arith)

pub returns-in_err-header-clause-writes : goal.returns-in_err-header-clause-writes
returns-in_err-header-clause-writes g c = λ whole file mask opened views.
    let p = err_from_is_err_and c.from_residual-in_err-header.result c.from_residual-in_err-header.ensures.1 in
    let request = c.args.masked.now.request.now in
    let slots = c.args.store.now.slots in
    let kind = c.in_ok-check_headers.ensures.held file views in
    stops_before (Unit {0}) c.args.out.now c.in_err-header.field-0.0 _ _ (p.1 ∙ ap Err p.2)
    (request_refused whole file slots request opened kind c.in_err-header.field-0.0 (c.in_err-header.ensures.held file views (loads_pass whole file slots request opened kind)))

pub returns-in_err-header-clause-cost : goal.returns-in_err-header-clause-cost
returns-in_err-header-clause-cost g c = λ whole file mask opened views.
    let request = c.args.masked.now.request.now in
    let window : ℕ = length c.args.window.now in
    headers_within file request.segment window (windows_met whole file window request) c.args.src.now.asked c.args.src.now.asked (omega arith)

pub returns-in_err-told-clause-writes : goal.returns-in_err-told-clause-writes
returns-in_err-told-clause-writes g c = λ whole file mask opened views.
    let p = err_from_is_err_and c.from_residual-in_err-told.result c.from_residual-in_err-told.ensures.1 in
    let request = c.args.masked.now.request.now in
    let slots = c.args.store.now.slots in
    let kind = c.in_ok-check_headers.ensures.held file views in
    let asked = c.in_ok-header.ensures.held file views (loads_pass whole file slots request opened kind) in
    let told = c.in_err-told.ensures.did.known file mask.seen views in
    stops_before (Unit {0}) c.args.out.now c.in_err-told.field-0.0 _ _ (p.1 ∙ ap Err p.2)
    (told_refused whole file slots request opened kind asked.0 (SaysRelocations file (entries_header file)) c.in_err-told.field-0.0 told.1)

pub returns-in_err-told-clause-cost : goal.returns-in_err-told-clause-cost
returns-in_err-told-clause-cost g c = λ whole file mask opened views.
    let request = c.args.masked.now.request.now in
    let window : ℕ = length c.args.window.now in
    let told = c.in_err-told.ensures.did.known file mask.seen views in
    entries_cost file request.segment window (windows_met whole file window request) c.args.src.now.asked c.told_relocations.new.src.asked told.0.reads.at_most

pub returns-clause-writes : goal.returns-clause-writes
returns-clause-writes g c = λ whole file mask opened views.
    let request = c.args.masked.now.request.now in
    let slots = c.args.store.now.slots in
    let kind = c.in_ok-check_headers.ensures.held file views in
    let loads = loads_pass whole file slots request opened kind in
    let asked = c.in_ok-header.ensures.held file views loads in
    let told = c.in_ok-told.ensures.did.known file mask.seen views in
    let target = c.target_of-target.result in
    let t = c.target_of-target.ensures in
    subst (λ answer. WritesImage c.args.out.now c.write_relocated.new.out c.write_relocated.result answer)
    (relocated_answer whole file slots request opened kind asked.0 told.1.0 target t.place.0) (c.write_relocated.ensures.writes (source_for whole file request)
    (has_source whole file request c.args.masked.now.hides c.in_ok-header.header target mask c.in_ok-told.ensures.did.costs.reads (omega (arith, c.requires.fits.same_size, c.requires.fits.small)) views
    (no_overlap whole file slots request opened kind) refl (c.base.ensures ∙ sym (said_base _ _)) told.1.1 (c.new.ensures file c.in_ok-told.told.ranges.first.at) loads asked.0 asked.1 t.place t.held t.hides (omega arith)))

pub returns-clause-limits : goal.returns-clause-limits
returns-clause-limits g c = λ whole file mask opened views.
    let request = c.args.masked.now.request.now in
    let slots = c.args.store.now.slots in
    let window : ℕ = length c.args.window.now in
    let kind = c.in_ok-check_headers.ensures.held file views in
    let loads = loads_pass whole file slots request opened kind in
    let asked = c.in_ok-header.ensures.held file views loads in
    let told = c.in_ok-told.ensures.did.known file mask.seen views in
    let target = c.target_of-target.result in
    let t = c.target_of-target.ensures in
    let image : ImageFile = record { view = record { loaded = c.args.loaded; store = c.args.store; whole = c.requires.fits.whole }; items = request.items; base = c.base.result; leaves = request.leaves; told = c.in_ok-told.told; chunks = c.new.result } in
    let cost : ℕ = relocated_cost (source_for whole file request) image target in
    let all = source_cost whole file window request image target 0 (entries_asked file + cost) told.1.1 refl t.place.0 (t.window ∙ refl) (t.place.2 ∙ asked.1.p_memsz) (t.held.1 ∙ asked.1.p_filesz) (omega arith) in
    limits-later (IsTooLarge file request.segment request.most) (asked_image whole file slots request) cost (request_cost whole file window request - (64 + 56 * e_phnum file)) c.write_relocated.result told.0.reads (omega (arith, told.0.reads.at_most, all))
    (λ none. absurd none)
    (subst (λ answer. IfErr c.write_relocated.result (RefusesOverLimit c.told_relocations.new.src cost ⊥ answer))
    (relocated_answer whole file slots request opened kind asked.0 told.1.0 target t.place.0) (c.write_relocated.ensures.limits (source_for whole file request)
    (has_source whole file request c.args.masked.now.hides c.in_ok-header.header target mask c.in_ok-told.ensures.did.costs.reads (omega (arith, c.requires.fits.same_size, c.requires.fits.small)) views
    (no_overlap whole file slots request opened kind) refl (c.base.ensures ∙ sym (said_base _ _)) told.1.1 (c.new.ensures file c.in_ok-told.told.ranges.first.at) loads asked.0 asked.1 t.place t.held t.hides (omega arith))))

pub returns-clause-cost : goal.returns-clause-cost
returns-clause-cost g c = λ whole file mask opened views.
    let request = c.args.masked.now.request.now in
    let slots = c.args.store.now.slots in
    let window : ℕ = length c.args.window.now in
    let kind = c.in_ok-check_headers.ensures.held file views in
    let loads = loads_pass whole file slots request opened kind in
    let asked = c.in_ok-header.ensures.held file views loads in
    let told = c.in_ok-told.ensures.did.known file mask.seen views in
    let target = c.target_of-target.result in
    let t = c.target_of-target.ensures in
    let image : ImageFile = record { view = record { loaded = c.args.loaded; store = c.args.store; whole = c.requires.fits.whole }; items = request.items; base = c.base.result; leaves = request.leaves; told = c.in_ok-told.told; chunks = c.new.result } in
    let cost = c.write_relocated.ensures.cost (source_for whole file request)
    (has_source whole file request c.args.masked.now.hides c.in_ok-header.header target mask c.in_ok-told.ensures.did.costs.reads (omega (arith, c.requires.fits.same_size, c.requires.fits.small)) views
    (no_overlap whole file slots request opened kind) refl (c.base.ensures ∙ sym (said_base _ _)) told.1.1 (c.new.ensures file c.in_ok-told.told.ranges.first.at) loads asked.0 asked.1 t.place t.held t.hides (omega arith)) in
    source_cost whole file window request image target c.args.src.now.asked c.write_relocated.new.src.asked told.1.1 refl t.place.0 (t.window ∙ refl) (t.place.2 ∙ asked.1.p_memsz) (t.held.1 ∙ asked.1.p_filesz)
    (omega (arith, cost, told.0.reads.at_most))

pub returns-in_err-check_headers-clause-limits : goal.returns-in_err-check_headers-clause-limits
returns-in_err-check_headers-clause-limits g c = λ whole file mask opened views.
    let p = err_from_is_err_and c.from_residual.result c.from_residual.ensures.1 in
    rw (p.1, p.2) (check-limits _ _ c.args.src.now _ c.in_err-check_headers.field-0.0 c.in_err-check_headers.ensures.refusal)

pub returns-in_err-header-clause-limits : goal.returns-in_err-header-clause-limits
returns-in_err-header-clause-limits g c = λ whole file mask opened views.
    let p = err_from_is_err_and c.from_residual-in_err-header.result c.from_residual-in_err-header.ensures.1 in
    let request = c.args.masked.now.request.now in
    let slots = c.args.store.now.slots in
    let kind = c.in_ok-check_headers.ensures.held file views in
    rw (p.1, p.2)
    (request_limits whole file slots request opened kind c.args.src.now _ c.in_err-header.field-0.0 (c.in_err-header.ensures.held file views (loads_pass whole file slots request opened kind)))

pub returns-in_err-told-clause-limits : goal.returns-in_err-told-clause-limits
returns-in_err-told-clause-limits g c = λ whole file mask opened views.
    let p = err_from_is_err_and c.from_residual-in_err-told.result c.from_residual-in_err-told.ensures.1 in
    let request = c.args.masked.now.request.now in
    let window : ℕ = length c.args.window.now in
    let told = c.in_err-told.ensures.did.known file mask.seen views in
    let all = entries_cost file request.segment window (windows_met whole file window request) 0 (entries_asked file) (omega arith) in
    rw (p.1, p.2)
    (read-limits (IsTooLarge file request.segment request.most) (asked_image whole file c.args.store.now.slots request) c.args.src.now c.told_relocations.new.src (entries_asked file) (request_cost whole file window request - (64 + 56 * e_phnum file)) c.in_err-told.field-0.0 (omega (arith, all)) told.0.says)

pub returns-in_err-check_headers-clause-reads : goal.returns-in_err-check_headers-clause-reads
returns-in_err-check_headers-clause-reads g c = ReadsUpTo-none _ _

pub returns-in_err-header-clause-reads : goal.returns-in_err-header-clause-reads
returns-in_err-header-clause-reads g c = ReadsUpTo-none _ _

pub returns-in_err-told-clause-reads : goal.returns-in_err-told-clause-reads
returns-in_err-told-clause-reads g c =
    let reads = c.in_err-told.ensures.did.costs.reads in
    ReadsUpTo-to reads (omega (arith, reads.at_most))

pub returns-clause-reads : goal.returns-clause-reads
returns-clause-reads g c =
    let size = c.args.src.now.seen.size in
    let target = c.target_of-target.result in
    let t = c.target_of-target.ensures in
    let reads = c.in_ok-told.ensures.did.costs.reads in
    let window : ℕ = length c.args.window.now in
    let most = c.args.masked.now.request.now.most in
    let memory : target.size ≤ most = omega (arith, t.place.2, c.in_ok-header.ensures.few) in
    let same : relocated_ceiling c.told_relocations.new.src.seen.size target.window target.size ≡ relocated_ceiling size window target.size =
    ap (λ (n : ℕ). relocated_ceiling n target.window target.size) reads.keeps.same_size ∙ ap (λ (w : ℕ). relocated_ceiling size w target.size) (t.window ∙ refl) in
    let later = c.write_relocated.ensures.reads in
    ReadsUpTo-to (ReadsUpTo-then reads later) (omega (arith, reads.at_most, later.at_most, same, larger_ceiling size window target.size most (omega (arith, c.requires.room)) memory))

pub returns-in_err-check_headers-clause-stops : goal.returns-in_err-check_headers-clause-stops
returns-in_err-check_headers-clause-stops g c =
    let p = err_from_is_err_and c.from_residual.result c.from_residual.ensures.1 in
    rw (p.1, p.2) (check-stops c.args.src.now c.args.src.now c.args.out.now c.in_err-check_headers.field-0.0 c.in_err-check_headers.ensures.refusal)

pub returns-in_err-header-clause-stops : goal.returns-in_err-header-clause-stops
returns-in_err-header-clause-stops g c =
    let p = err_from_is_err_and c.from_residual-in_err-header.result c.from_residual-in_err-header.ensures.1 in
    rw (p.1, p.2) (refusal-stops c.args.src.now c.args.src.now c.args.out.now c.in_err-header.field-0.0 c.in_err-header.ensures.refuses)

pub returns-in_err-told-clause-stops : goal.returns-in_err-told-clause-stops
returns-in_err-told-clause-stops g c =
    let p = err_from_is_err_and c.from_residual-in_err-told.result c.from_residual-in_err-told.ensures.1 in
    rw (p.1, p.2) (read-stops c.args.src.now c.told_relocations.new.src c.args.out.now _ c.in_err-told.field-0.0 c.in_err-told.ensures.did.costs.says)

pub returns-clause-stops : goal.returns-clause-stops
returns-clause-stops g c =
    stops-later c.write_relocated.new.src c.write_relocated.new.out c.write_relocated.result c.in_ok-told.ensures.did.costs.reads c.write_relocated.ensures.stops
