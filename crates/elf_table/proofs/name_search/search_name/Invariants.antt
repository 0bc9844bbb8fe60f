use Rattle.std.proofs.Common.{◌≡◌, ℕ, ◌+◌, ◌-◌, ◌≤◌, List, length, take, None, Some, Ok}
use Rattle.elf_model.specs.Prelude.{nul_in, slice}
use Rattle.elf_table.specs.Prelude.{HoldsBytes, ReadsThroughWindow}
use Rattle.elf_table.proofs.name_search.search_name.Given as goal

abbrev pub invariant-loop-done : goal.invariant-loop-done
invariant-loop-done g l = record {
  in_range : l.done ≤ l.want;
  few : length l.name ≤ l.cap.bytes;
  place : l.window.at ≡ l.fn.window.at + l.done;
  went : ReadsThroughWindow {X = Unit {0}} g.S.Source.one_read l.fn.src l.src l.fn.window l.window (Ok tt);
  no_nul : (file : List ℕ) → l.fn.src.seen.file ≡ Some file → HoldsBytes file l.fn.window → nul_in (slice file l.fn.window.at l.done) ≡ None;
  name : (file : List ℕ) → l.fn.src.seen.file ≡ Some file → HoldsBytes file l.fn.window → l.name ≡ take l.cap.bytes (slice file l.fn.window.at l.done);
}

abbrev pub decreases-loop-done : goal.decreases-loop-done
decreases-loop-done g l = l.want - l.done
