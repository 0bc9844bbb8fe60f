-- The lines of the symbols before this one are written.
use Rattle.std.proofs.Common.{◌≡◌, ℕ, ◌-◌, List, [], get_or, Ok}
use Rattle.elf_model.specs.Prelude.{LookupTables as IsScopeOf, items_from, lookup_tables_of, symbols_hashed}
use Rattle.elf_needs.specs.Prelude.{AreObjectFiles, AsksAll, WritesSoFar, bound_among, bound_lines}
use Rattle.elf_needs.proofs.bindings.bind_object.Given as goal

abbrev pub invariant-loop-symbol : goal.invariant-loop-symbol
invariant-loop-symbol g l = record {
  asks : AsksAll l.fn.objects l.objects l.fn.left l.left;
  known : (headers : ℕ) (files : List (List ℕ)) → AreObjectFiles headers l.fn.objects files → (told : IsScopeOf)
      → lookup_tables_of (get_or files l.place []) headers ≡ Ok told → symbols_hashed (get_or files l.place []) told ≡ Ok l.count
      → WritesSoFar (bound_lines l.scope.lines)
      (items_from (bound_among headers files l.scope) l.place (get_or files l.place []) told.symbols 1 (l.count - 1))
      (items_from (bound_among headers files l.scope) l.place (get_or files l.place []) told.symbols l.symbol (l.count - l.symbol))
      l.fn.out l.out l.fails;
}
