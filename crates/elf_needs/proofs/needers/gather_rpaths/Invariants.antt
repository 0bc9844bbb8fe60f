-- What the objects that were processed give, with what those that are left do, is all.
use Rattle.std.proofs.Common.{◌≡◌, ◌≤◌, ◌++◌, length, drop}
use Rattle.elf_needs.specs.Prelude.{dirs_in, needers_of, rpath_dirs}
use Rattle.elf_needs.proofs.needers.gather_rpaths.Given as goal

abbrev pub invariant-loop-needer : goal.invariant-loop-needer
invariant-loop-needer l = record {
  dirs : dirs_in l.lists.items ++ rpath_dirs (needers_of (drop l.needer-index l.fn.needers)) ≡ rpath_dirs (needers_of l.fn.needers);
  few : length l.lists.items ≤ l.needer-index;
}
