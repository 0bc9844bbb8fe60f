-- No program header so far is of the type.
use Rattle.std.proofs.Common.{◌≡◌, ◌==◌, ℕ, ◌<◌, false, List}
use Rattle.elf_model.specs.Records.{p_type, segment_at}
use Rattle.elf_table.specs.Load.{HoldsProgramHeaders}
use Rattle.elf_table.proofs.segment_view.ExecutionView.first_segment.Given as goal

abbrev pub invariant-loop-index : goal.invariant-loop-index
invariant-loop-index l =
    (bytes : List ℕ) → HoldsProgramHeaders bytes l.self.loaded l.self.store.now
    → (i : ℕ) → i < l.index → (p_type bytes (segment_at bytes i) == l.kind) ≡ false
