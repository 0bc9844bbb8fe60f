-- What is left has the same result.
use Rattle.std.proofs.Common.{length, ◌-◌, ◌≡◌, ℕ, ◌+◌, ◌≤◌, List, Some, drop}
use Rattle.elf_model.specs.Placing.{address_named}
use Rattle.elf_source.specs.Source.{ReadsUpTo}
use Rattle.elf_table.specs.Tables.{strings_in}
use Rattle.elf_layout.specs.Layouts.{items_cost}
use Rattle.elf_reloc.proofs.lookup.compared.Given as goal

abbrev pub invariant-loop-i : goal.invariant-loop-i
invariant-loop-i g l = record {
  within : l.i ≤ length l.items;
  reads : ReadsUpTo l.fn.src l.src (items_cost l.items);
  asked : l.src.asked + items_cost (drop l.i l.items) ≤ l.fn.src.asked + items_cost l.items;
  left : (file : List ℕ) → l.fn.src.seen.file ≡ Some file
      → address_named (strings_in file l.symbol.names) l.symbol.fields.st_name (drop l.i l.items) ≡ address_named (strings_in file l.symbol.names) l.symbol.fields.st_name l.items;
}

abbrev pub decreases-loop-i : goal.decreases-loop-i
decreases-loop-i g l = length l.items - l.i
