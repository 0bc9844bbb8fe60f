-- The state of a file by its type.
use Rattle.std.proofs.Common.{refl, arith}
use Rattle.elf_walk.proofs.FileMagicLaws.{asks_as_archive, some_within, unlisted_found, unlisted_read}
use Rattle.elf_walk.proofs.sorted.check_by_type.Goals as goal

pub returns-in-Elf : goal.returns-in-Elf
returns-in-Elf g c =
    let did = c.check_elf.ensures in
    record {
      slots = did.slots;
      leaves = did.leaves;
      state = λ file held. rw c.in-Elf.is (did.state file held);
      cost = λ file held. rw c.in-Elf.is (did.cost file held);
      read = did.read;
      asks = asks_as_archive c.args.caps c.args.src.now c.check_elf.new.src did.asks;
    }

pub returns-in-Archive : goal.returns-in-Archive
returns-in-Archive g c =
    let did = c.check_archive.ensures in
    record {
      slots = did.slots;
      leaves = did.leaves;
      state = λ file held. rw c.in-Archive.is (did.state file held);
      cost = λ file held. rw c.in-Archive.is (did.cost file held);
      read = did.read;
      asks = did.asks;
    }

pub check_archive-requires-clause-begins : goal.check_archive-requires-clause-begins
check_archive-requires-clause-begins g c = c.requires.begins c.in-Archive.is

pub returns-in-Thin : goal.returns-in-Thin
returns-in-Thin g c = record {
  slots = refl;
  leaves = record {
    keeps = record { same_size = refl; no_fewer = omega arith; same_file = refl; same_whole = refl };
    free = c.requires.free;
  };
  state = λ file held. unlisted_found c.args.sort c.in-Thin.is c.args.caps c.args.parts.0 file c.unlisted_state.result c.unlisted_state.ensures;
  cost = λ file held. omega arith;
  read = unlisted_read c.args.src.now c.args.src.now c.args.sort c.unlisted_state.result c.unlisted_state.ensures;
  asks = record { ceiling = omega arith; budget = some_within c.args.caps.limits.budget _ _ refl };
}
