-- The load, and then the stack; or a check that fails.
use Rattle.std.proofs.Common.{ℕ, ◌*◌, sym, ap, ◌∙◌, arith}
use Rattle.elf_table.proofs.LedgerLaws.{CallDid-as, CallDid-of, CallDid-then, CallReads-more, CallReads-then}
use Rattle.elf_loader.proofs.StackLaws.{asked_passed, found_known, load_refused}
use Rattle.elf_loader.proofs.section_stack.stack_by_sections.Goals as goal

pub returns-in-Ok-clause-did : goal.returns-in-Ok-clause-did
returns-in-Ok-clause-did g c =
    let opens = c.in-Ok.ensures.opens in
    CallDid-as _ (omega (arith, opens.few)) (CallDid-then c.in-Ok.ensures.did c.loaded_stack.ensures)
    (λ file told costs.
    let all = told.0.loads in
    let cost = asked_passed file c.args.store.now.slots all.header all.load in
    record {
      costs = CallReads-then _ (omega (arith, cost, opens.count, all.belongs.header.e_shnum)) told.0.costs (c.loaded_stack.ensures.costs);
      finds = found_known file c.args.store.now.slots c.loaded_stack.result all.header all.load (told.1 all.belongs);
    })

pub returns-in-Err-clause-did : goal.returns-in-Err-clause-did
returns-in-Err-clause-did g c =
    let check = rw c.if-is_by_check.true at c.is_by_check.ensures in
    let did = c.in-Err.ensures.did in
    CallDid-as _ (omega arith) (CallDid-of did.costs.reads tt did.known)
    (λ file told costs. record {
      costs = record { reads = told.costs.reads; says = tt };
      finds = load_refused file c.args.store.now.slots c.load_sections.new.store c.in-Err.fault check told.loads;
    })

pub returns-in-Err-2-clause-did : goal.returns-in-Err-2-clause-did
returns-in-Err-2-clause-did g c =
    let read = rw c.if-is_by_check.false at c.is_by_check.ensures in
    CallDid-as _ (omega arith) c.in-Err.ensures.did (λ file told costs. record { costs = told.costs; finds = read })
