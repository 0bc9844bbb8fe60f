-- What was seen is marked, and what is left has the same result.
use Rattle.std.proofs.Common.{◌≡◌, ◌+◌, ◌≤◌, None, Some}
use Rattle.elf_model.specs.Image.{ImageSource, relocation_changes, writes_of}
use Rattle.elf_source.specs.Prelude.{ReadsUpTo}
use Rattle.elf_image.specs.Changes.{AreChangesOf, image_changes_left, image_pass, walk_reads}
use Rattle.elf_image.specs.Relocated.{IsImageOf}
use Rattle.elf_image.specs.Within.{WalkAlive, walk_steps}
use Rattle.elf_image.proofs.PassSteps.{SeenSo}
use Rattle.elf_image.proofs.passes.check.Given as goal

abbrev pub invariant-steps : goal.invariant-steps
invariant-steps g l = record {
  reads : ReadsUpTo l.fn.src l.src (image_pass l.image);
  asked : l.src.asked + walk_reads l.walk ≤ l.fn.src.asked + image_pass l.image;
  alive : WalkAlive l.fn.src.seen.size l.image l.walk;
  wanted : l.walk.wanted ≡ None;
  known : (source : ImageSource) → l.fn.src.seen.file ≡ Some source.file → IsImageOf source l.image → AreChangesOf source.file l.image l.walk;
  seen : (source : ImageSource) → l.fn.src.seen.file ≡ Some source.file → IsImageOf source l.image
      → SeenSo (writes_of l.image.leaves (relocation_changes source)) l.image.leaves l.target.window l.target.index (image_changes_left source l.walk) l.marks;
}

abbrev pub decreases-steps : goal.decreases-steps
decreases-steps g l = walk_steps l.walk
