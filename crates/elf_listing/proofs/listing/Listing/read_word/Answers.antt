-- The entry is the file's.
use Rattle.std.proofs.Common.{refl}
use Rattle.elf_table.proofs.OpenLaws.{still_open}
use Rattle.elf_note.proofs.HeldLaws.{still_held}
use Rattle.elf_note.proofs.SpendsLaws.{SpendsAtMost-reads}
use Rattle.elf_listing.proofs.NumberedShown.{word_is}
use Rattle.elf_listing.proofs.ViewedLaws.{still_viewed}
use Rattle.elf_listing.proofs.listing.Listing.read_word.Goals as goal

pub invariant_of-self : goal.invariant_of-self
invariant_of-self g c = record {
  loaded = still_open _ _ c.fill.ensures.reads c.args.self.now.loaded;
  viewed = still_viewed _ _ c.fill.ensures.reads c.args.self.now.viewed;
  held = still_held _ c.fill.ensures.reads c.args.self.now.held;
}

pub returns : goal.returns
returns g c = record {
  fetches = (record { same_src = refl; same_out = refl; same_file = refl; same_style = refl }, refl, SpendsAtMost-reads _ c.fill.ensures.reads, tt);
  kept = refl;
  read = λ file held. word_is file _ c.args.at _ (c.in_ok-fill.ensures.read file held) c.u16_at.ensures;
}
