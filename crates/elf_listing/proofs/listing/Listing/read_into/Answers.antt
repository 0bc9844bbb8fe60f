-- The source's file is still the one that was opened, and what is held is that file's.
use Rattle.elf_note.proofs.HeldLaws.{still_ahead}
use Rattle.elf_table.proofs.OpenLaws.{still_open}
use Rattle.elf_listing.proofs.ViewedLaws.{still_viewed}
use Rattle.elf_listing.proofs.listing.Listing.read_into.Goals as goal

pub invariant_of-self : goal.invariant_of-self
invariant_of-self g c = record {
  loaded = still_open _ _ c.name.ensures.ahead.costs.spends.reads c.args.self.now.loaded;
  viewed = still_viewed _ _ c.name.ensures.ahead.costs.spends.reads c.args.self.now.viewed;
  held = still_ahead _ _ c.name.ensures.ahead c.args.self.now.held;
}
