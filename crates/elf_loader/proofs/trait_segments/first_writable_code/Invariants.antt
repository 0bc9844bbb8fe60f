-- No segment so far is writable and executable.
use Rattle.std.proofs.Common.{◌≡◌, ◌-◌, ℕ, List}
use Rattle.elf_model.specs.Prelude.{e_phnum, first_that, is_writable_code}
use Rattle.elf_table.specs.Load.{HoldsProgramHeaders}
use Rattle.elf_loader.proofs.trait_segments.first_writable_code.Given as goal

abbrev pub invariant-segments : goal.invariant-segments
invariant-segments l = record {
  left : (file : List ℕ) → HoldsProgramHeaders file l.fn.view.loaded l.fn.view.store.now
      → first_that (is_writable_code file) 0 (e_phnum file) ≡ first_that (is_writable_code file) l.segment (e_phnum file - l.segment);
}

abbrev pub decreases-segments : goal.decreases-segments
decreases-segments l = l.fn.view.store.now.segments - l.segment
