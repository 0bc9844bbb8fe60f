-- The walk can go on, and no entry that lacks an item was passed.
use Rattle.std.proofs.Common.{◌≡◌, ◌+◌, ◌≤◌, Some}
use Rattle.elf_model.specs.Image.{ImageSource}
use Rattle.elf_source.specs.Source.{ReadsUpTo}
use Rattle.elf_image.specs.Changes.{walk_reads}
use Rattle.elf_image.specs.Missing.{IsAliveIn, IsMissingOf, lacks_left}
use Rattle.elf_image.specs.Within.{walk_steps}
use Rattle.elf_image.proofs.missing.MissingEntries.next.Given as goal

abbrev pub invariant-steps : goal.invariant-steps
invariant-steps g l = record {
  reads : ReadsUpTo l.fn.src l.src (walk_reads l.fn.self.walk);
  account : l.src.asked + walk_reads l.self.walk ≤ l.fn.src.asked + walk_reads l.fn.self.walk;
  alive : IsAliveIn l.src.seen.size l.self;
  less : walk_steps l.self.walk ≤ walk_steps l.fn.self.walk;
  known : (source : ImageSource) → l.fn.src.seen.file ≡ Some source.file → IsMissingOf source l.fn.self
      → (lacks_left source l.fn.self ≡ lacks_left source l.self) × IsMissingOf source l.self;
}

abbrev pub decreases-steps : goal.decreases-steps
decreases-steps g l = walk_steps l.self.walk
