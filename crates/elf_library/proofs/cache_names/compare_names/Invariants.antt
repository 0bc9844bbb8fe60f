-- The ranks so far are equal, so those that are left decide.
use Rattle.std.specs.Cmp.Lexicographic.{slice_cmp}
use Rattle.std.proofs.Common.{◌≡◌, None, length}
use Rattle.elf_model.specs.LoaderCache.{name_ranks, rank_order}
use Rattle.elf_library.proofs.cache_names.compare_names.Given as goal

abbrev pub invariant-loop-x : goal.invariant-loop-x
invariant-loop-x l = slice_cmp rank_order (name_ranks None l.fn.a) (name_ranks None l.fn.b) ≡ slice_cmp rank_order l.left l.right

abbrev pub decreases-loop-x : goal.decreases-loop-x
decreases-loop-x l = length l.left
