use Rattle.std.proofs.Common.{◌≡◌, ℕ, ◌+◌, ◌-◌, ◌<◌, ◌≤◌, List, get_or, Some}
use Rattle.elf_source.specs.Source.{ReadsUpTo}
use Rattle.elf_table.proofs.NameWindows.{Between}
use Rattle.elf_table.proofs.names.match_pieces.Given as goal

abbrev pub invariant-loop-done : goal.invariant-loop-done
invariant-loop-done g l = record {
  in_range : l.done ≤ l.want;
  is_at : Between l.start l.want l.done l.window;
  reads : ReadsUpTo l.fn.src l.src l.done;
  alike : (file : List ℕ) → l.fn.src.seen.file ≡ Some file → (k : ℕ) → k < l.done → get_or file (l.start + k) 0 ≡ get_or l.wanted k 0;
}

abbrev pub decreases-loop-done : goal.decreases-loop-done
decreases-loop-done g l = l.want - l.done
