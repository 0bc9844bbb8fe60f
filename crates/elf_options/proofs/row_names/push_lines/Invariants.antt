-- The names so far, followed by the remaining ones, are the previous names and those of the list.
use Rattle.std.proofs.Common.{◌≡◌, ◌++◌, All}
use Rattle.elf_options.specs.Prelude.{IsNoNames, IsRowName, after_bytes, after_lines, line_names, listed_names, texts_of}
use Rattle.elf_options.specs.declared.names_fault.NamesFault.{NamesFault}
use Rattle.elf_options.proofs.row_names.push_lines.Given as goal

abbrev pub invariant-loop-left : goal.invariant-loop-left
invariant-loop-left l = record {
  names : texts_of l.names.items ++ line_names (after_lines l.left) ≡ texts_of l.initial.names.items ++ listed_names l.fn.list;
  each : All (IsRowName l.fn.versions) (line_names (after_lines l.left)) → All (IsRowName l.fn.versions) (listed_names l.fn.list);
  bad : (fault : NamesFault) → IsNoNames l.fn.versions (line_names (after_lines l.left)) fault → IsNoNames l.fn.versions (listed_names l.fn.list) fault;
}

abbrev pub decreases-loop-left : goal.decreases-loop-left
decreases-loop-left l = after_bytes l.left
