-- The state is that of the first fault.
use Rattle.std.proofs.Common.{rules, ◌≡◌, Err}
use Rattle.elf_table.specs.declared.run_fault.RunFault.TheVariants.{Refused, Source, Out}
use Rattle.elf_walk.proofs.ListingToldLaws.{fault_fails}
use Rattle.elf_walk.proofs.members.check_member_rows.Goals as goal

pub returns-in-Ok : goal.returns-in-Ok
returns-in-Ok g c =
    let did = c.find_fault.ensures in
    record {
      slots = did.slots;
      leaves = did.leaves;
      state = c.in-Ok.ensures.finds;
      cost = did.cost;
      read = tt;
      asks = record { ceiling = did.asks.ceiling; budget = did.asks.budget };
    }

pub returns-in-Err-Refused : goal.returns-in-Err-Refused
returns-in-Err-Refused g c =
    let did = c.find_fault.ensures in
    let end : c.find_fault.result ≡ Err (Refused c.in-Err-Refused.refusal) = search rules in
    record {
      slots = did.slots;
      leaves = did.leaves;
      state = λ file held. rw end at (did.finds file held);
      cost = did.cost;
      read = tt;
      asks = record { ceiling = did.asks.ceiling; budget = did.asks.budget };
    }

pub returns-in-Err-Source : goal.returns-in-Err-Source
returns-in-Err-Source g c =
    let did = c.find_fault.ensures in
    let end : c.find_fault.result ≡ Err (Source c.in-Err-Source.field-0-0 c.in-Err-Source.field-0-1) = search rules in
    record {
      slots = did.slots;
      leaves = did.leaves;
      state = λ file held. tt;
      cost = did.cost;
      read = fault_fails c.args.src.now c.find_fault.new.src c.in-Err-Source.field-0-0 (rw end at did.says);
      asks = record { ceiling = did.asks.ceiling; budget = did.asks.budget };
    }

pub returns-in-Err-Out : goal.returns-in-Err-Out
returns-in-Err-Out g c =
    let end : c.find_fault.result ≡ Err (Out c.in-Err-Out.field-0-0) = search rules in
    let none = rw end at c.find_fault.ensures.says in
    absurd none
