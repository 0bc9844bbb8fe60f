-- No segment so far has a list of properties.
use Rattle.std.proofs.Common.{◌≡◌, ◌-◌, ◌*◌, ◌≤◌, None}
use Rattle.elf_model.specs.Prelude.{e_phnum, listed_from, property_list, sum_over}
use Rattle.elf_table.specs.Prelude.{CallDid, CallReads, HoldsProgramHeaders}
use Rattle.elf_loader.specs.Lists.{notes_asked}
use Rattle.elf_loader.proofs.trait_notes.property_list.Given as goal

abbrev pub invariant-segments : goal.invariant-segments
invariant-segments g l = record {
  below : l.segment ≤ l.fn.view.store.now.segments;
  so_far : CallDid l.fn.src l.src None (l.segment * l.fn.src.seen.size)
      (λ file. HoldsProgramHeaders file l.fn.view.loaded l.fn.view.store.now →
      CallReads l.fn.src l.src None (sum_over (notes_asked file) 0 l.segment)
      × (property_list file ≡ listed_from file l.segment (e_phnum file - l.segment)));
}

abbrev pub decreases-segments : goal.decreases-segments
decreases-segments g l = l.fn.view.store.now.segments - l.segment
