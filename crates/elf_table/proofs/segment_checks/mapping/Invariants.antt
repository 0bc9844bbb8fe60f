-- None of the program headers so far holds the bytes: the first that does is among those left.
use Rattle.std.proofs.Common.{◌-◌, ◌≡◌, ℕ, ◌≤◌, List}
use Rattle.elf_model.specs.Mapped.{mapped_at, mapped_from}
use Rattle.elf_model.specs.Records.{e_phnum}
use Rattle.elf_table.specs.Store.{HoldsSegments}
use Rattle.elf_table.proofs.segment_checks.mapping.Given as goal

abbrev pub invariant-segments : goal.invariant-segments
invariant-segments g l = record {
  within : l.segment ≤ l.count;
  none : (file : List ℕ) → HoldsSegments file (g.R.HeaderRows.state l.rows) → (g.R.HeaderRows.state l.rows).segments ≡ e_phnum file →
      mapped_at file l.address l.size ≡ mapped_from file l.address l.size l.segment (l.count - l.segment);
}

abbrev pub decreases-segments : goal.decreases-segments
decreases-segments g l = l.count - l.segment
