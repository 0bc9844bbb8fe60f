-- The objects before this one were searched, and none of them defines the name.
use Rattle.std.proofs.Common.{◌≡◌, ◌≤◌, length}
use Rattle.elf_needs.proofs.BindLaws.{BindsSoFar}
use Rattle.elf_options.specs.Wants.{query_of}
use Rattle.elf_needs.proofs.bind_name.bind.Given as goal

abbrev pub invariant-loop-object : goal.invariant-loop-object
invariant-loop-object g l = record {
  so_far : BindsSoFar (query_of l.fn.wanted) l.fn.objects l.objects l.fn.left l.left l.object;
  end : l.object-end ≡ length l.fn.objects;
  within : l.object ≤ l.object-end;
}
