-- What refuses the file is what refuses the program headers that are left, after the page of those
-- so far.
use Rattle.std.proofs.Common.{◌-◌, ◌≡◌, ℕ, ◌≤◌, List}
use Rattle.elf_model.specs.Prelude.{first_refusal, overlap_checks}
use Rattle.elf_table.specs.Load.{HoldsProgramHeaders}
use Rattle.elf_table.proofs.OverlapLaws.{left}
use Rattle.elf_table.proofs.segment_view.ExecutionView.check_overlaps.Given as goal

abbrev pub invariant-segments : goal.invariant-segments
invariant-segments l = record {
  within : l.segment ≤ l.count;
  same : (file : List ℕ) → HoldsProgramHeaders file l.self.loaded l.self.store.now →
      first_refusal (overlap_checks file) ≡ left file l.page l.segment l.count;
}

abbrev pub decreases-segments : goal.decreases-segments
decreases-segments l = l.count - l.segment
