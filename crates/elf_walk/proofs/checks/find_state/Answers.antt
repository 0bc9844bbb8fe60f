-- The check that the rule specifies.
use Rattle.elf_walk.proofs.checks.find_state.Goals as goal

pub returns-then-rule : goal.returns-then-rule
returns-then-rule g c =
    let did = c.check_sorted.ensures in
    record {
      slots = did.slots;
      leaves = did.leaves;
      state = λ file held. rw c.if-rule.true (did.state file held);
      cost = λ file held. rw c.if-rule.true (did.cost file held);
      read = did.read;
      asks = rw c.if-rule.true did.asks;
    }

pub returns-else-rule : goal.returns-else-rule
returns-else-rule g c =
    let did = c.check.ensures in
    record {
      slots = did.slots;
      leaves = did.leaves;
      state = λ file held. rw c.if-rule.false (did.state file held);
      cost = λ file held. rw c.if-rule.false (did.cost file held);
      read = did.read;
      asks = rw c.if-rule.false did.asks;
    }
