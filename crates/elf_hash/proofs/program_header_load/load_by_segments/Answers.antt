-- The file header, the load, and the program headers.
use Rattle.std.proofs.Common.{ap, ◌∙◌, arith}
use Rattle.std.proofs.lemmas.Result.{err_from_is_err_and}
use Rattle.elf_record.specs.declared.ehdr.Ehdr.{Ehdr}
use Rattle.elf_table.proofs.LoadLaws.{header_most}
use Rattle.elf_table.proofs.LedgerLaws.{CallDid-as, CallDid-of, CallDid-stop, CallDid-then}
use Rattle.elf_hash.proofs.LoadingLaws.{all_pass, cost_passed, header_stops, load_none, load_stops, read_stops}
use Rattle.elf_hash.proofs.program_header_load.load_by_segments.Goals as goal

pub returns-in_err-header-clause-did : goal.returns-in_err-header-clause-did
returns-in_err-header-clause-did g c =
    let p = err_from_is_err_and c.from_residual.result c.from_residual.ensures.1 in
    let most = header_most c.args.src.now.seen.size in
    rw (p.1, p.2)
    (CallDid-as _ (omega (arith, most)) (CallDid-of c.header.ensures.reads c.in_err-header.ensures.says c.in_err-header.ensures.read)
    (λ file read costs none. record { costs = costs _ (omega (arith, most)); loads = header_stops file _ _ c.args.store.now read }))

pub returns-then-header-ne0-clause-did : goal.returns-then-header-ne0-clause-did
returns-then-header-ne0-clause-did g c =
    let most = header_most c.args.src.now.seen.size in
    rw c.refused.ensures
    (CallDid-as _ (omega (arith, most)) (CallDid-stop _ (λ budget. cc) (CallDid-of c.header.ensures.reads tt c.in_ok-header.ensures.read))
    (λ file read costs none. absurd (c.if-header-ne0.true (read.1.e_shnum ∙ none))))

pub returns-in_err-loaded-clause-did : goal.returns-in_err-loaded-clause-did
returns-in_err-loaded-clause-did g c =
    let p = err_from_is_err_and c.from_residual-in_err-loaded.result c.from_residual-in_err-loaded.ensures.1 in
    let most = header_most c.args.src.now.seen.size in
    let load = load_none c.in_ok-header.header c.header.new.src.seen.size c.args.store.now.slots c.if-header-ne0.false in
    rw (p.1, p.2)
    (CallDid-as _ (omega (arith, most, load))
    (CallDid-then (CallDid-of c.header.ensures.reads tt c.in_ok-header.ensures.read) (CallDid-of c.load.ensures.reads c.in_err-loaded.ensures.says c.in_err-loaded.ensures.held))
    (λ file told costs none. record {
      costs = costs _ (omega (arith, most, load));
      loads = load_stops file _ _ c.load.new.store told.0.0 c.load.ensures.slots (told.1 told.0.1);
    }))

pub returns-in_err-load_segments-clause-did : goal.returns-in_err-load_segments-clause-did
returns-in_err-load_segments-clause-did g c =
    let p = err_from_is_err_and c.from_residual-in_err-load_segments.result c.from_residual-in_err-load_segments.ensures.1 in
    let most = header_most c.args.src.now.seen.size in
    let load = load_none c.in_ok-header.header c.header.new.src.seen.size c.args.store.now.slots c.if-header-ne0.false in
    let opened = c.in_ok-loaded.ensures.opens in
    let few = opened.passes.few_segments in
    let count = ap (λ (h : Ehdr). h.e_phnum) opened.same_header in
    let slots = c.load.ensures.slots in
    let first = CallDid-then (CallDid-of c.header.ensures.reads tt c.in_ok-header.ensures.read) (CallDid-of c.load.ensures.reads tt c.in_ok-loaded.ensures.held) in
    rw (p.1, p.2)
    (CallDid-as _ (omega (arith, most, load, few, count, slots))
    (CallDid-then first (CallDid-of c.load_segments.ensures.reads c.in_err-load_segments.ensures.says c.in_err-load_segments.ensures.held))
    (λ file told costs none.
    let belongs = told.0.1 told.0.0.1 in
    let cost = cost_passed file c.args.store.now.slots (all_pass file _ _ slots told.0.0.0 belongs.passes) in
    record { costs = costs _ (omega (arith, most, load, cost, belongs.header.e_phnum)); loads = read_stops file _ _ c.load_segments.new.store c.in_err-load_segments.ensures.fault }))

pub returns-clause-did : goal.returns-clause-did
returns-clause-did g c =
    let most = header_most c.args.src.now.seen.size in
    let load = load_none c.in_ok-header.header c.header.new.src.seen.size c.args.store.now.slots c.if-header-ne0.false in
    let opened = c.in_ok-loaded.ensures.opens in
    let few = opened.passes.few_segments in
    let count = ap (λ (h : Ehdr). h.e_phnum) opened.same_header in
    let slots = c.load.ensures.slots in
    let first = CallDid-then (CallDid-of c.header.ensures.reads tt c.in_ok-header.ensures.read) (CallDid-of c.load.ensures.reads tt c.in_ok-loaded.ensures.held) in
    CallDid-as _ (omega (arith, most, load, few, count, slots)) (CallDid-then first (CallDid-of c.load_segments.ensures.reads tt c.in_ok-load_segments.ensures.held))
    (λ file told costs none.
    let belongs = told.0.1 told.0.0.1 in
    let passes = all_pass file _ _ slots told.0.0.0 belongs.passes in
    let cost = cost_passed file c.args.store.now.slots passes in
    record { costs = costs _ (omega (arith, most, load, cost, belongs.header.e_phnum)); loads = (passes, told.1 belongs) })
