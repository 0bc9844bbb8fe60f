-- No segment so far has the bytes in memory.
use Rattle.std.proofs.Common.{◌≡◌, ℕ, ◌<◌, false, List}
use Rattle.elf_model.specs.Image.{holds_in_memory}
use Rattle.elf_model.specs.Records.{segment_at}
use Rattle.elf_table.specs.Load.{HoldsProgramHeaders}
use Rattle.elf_image.proofs.place.holder.Given as goal

abbrev pub invariant-loop-index : goal.invariant-loop-index
invariant-loop-index l =
    (bytes : List ℕ) → HoldsProgramHeaders bytes l.view.loaded l.view.store.now
    → (i : ℕ) → i < l.index → holds_in_memory bytes (segment_at bytes i) l.address l.width ≡ false
