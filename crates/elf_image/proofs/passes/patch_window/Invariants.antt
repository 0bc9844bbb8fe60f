-- What was seen is stored, and what is left has the other writes.
use Rattle.std.proofs.Common.{◌≡◌, ◌+◌, ◌≤◌, List, Some, Ok, length}
use Rattle.elf_model.specs.Image.{ImageSource, SegmentWrite, relocation_changes, writes_of}
use Rattle.elf_source.specs.Prelude.{ReadsUpTo}
use Rattle.elf_image.specs.Changes.{AreChangesOf, image_changes_left, image_pass, walk_reads}
use Rattle.elf_image.specs.Relocated.{IsImageOf}
use Rattle.elf_image.specs.SegmentParts.{IsWindowOf, KeepsEdges}
use Rattle.elf_image.specs.Within.{WalkAlive, walk_steps}
use Rattle.elf_image.specs.Written.{IsTargetOf, bytes_before}
use Rattle.elf_image.specs.declared.rela_rows.WindowReach.{WindowReach}
use Rattle.elf_image.proofs.WindowPassSteps.{IsReachOf, PatchedSo}
use Rattle.elf_image.proofs.passes.patch_window.Given as goal

abbrev pub invariant-steps : goal.invariant-steps
invariant-steps g l = record {
  reads : ReadsUpTo l.fn.src l.src (image_pass l.image);
  asked : l.src.asked + walk_reads l.walk ≤ l.fn.src.asked + image_pass l.image;
  alive : WalkAlive l.fn.src.seen.size l.image l.walk;
  wanted : (reach : WindowReach) × (l.walk.wanted ≡ Some reach) × IsReachOf l.target.first l.fn.window reach;
  edges : KeepsEdges l.fn.window l.window;
  known : (source : ImageSource) → l.fn.src.seen.file ≡ Some source.file → IsImageOf source l.image → AreChangesOf source.file l.image l.walk;
  rest : (source : ImageSource) (writes : List SegmentWrite) → l.fn.src.seen.file ≡ Some source.file → IsImageOf source l.image
      → writes_of l.image.leaves (relocation_changes source) ≡ Ok writes → (rest : List SegmentWrite) × (writes_of l.image.leaves (image_changes_left source l.walk) ≡ Ok rest);
  patched : (source : ImageSource) (writes : List SegmentWrite) → l.fn.src.seen.file ≡ Some source.file → IsImageOf source l.image → IsTargetOf source l.target
      → writes_of l.image.leaves (relocation_changes source) ≡ Ok writes → IsWindowOf (bytes_before source l.target) l.fn.window.low l.fn.window
      → l.fn.window.low + length l.fn.window.bytes.now ≤ l.target.size
      → PatchedSo source l.image.leaves l.target writes l.fn.window (image_changes_left source l.walk) l.walk l.window;
}

abbrev pub decreases-steps : goal.decreases-steps
decreases-steps g l = walk_steps l.walk
