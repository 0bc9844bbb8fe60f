-- Nothing is written.
use Rattle.std.proofs.Common.{rules}
use Rattle.elf_archive.proofs.first_fault.find_unwritten.Goals as goal

pub returns-clause-slots : goal.returns-clause-slots
returns-clause-slots g c = c.find_in_archive-found.ensures.finds.slots

pub returns-clause-searches : goal.returns-clause-searches
returns-clause-searches g c = record {
  slots = _;
  old = _;
  new = c.find_in_archive-found.new.out;
  goes = c.find_in_archive-found.ensures.finds;
  unread = c.find_in_archive-found.ensures.unread;
  well = search rules;
}
