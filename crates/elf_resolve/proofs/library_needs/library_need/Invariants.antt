use Rattle.std.proofs.Common.{◌≡◌, List, ℕ}
use Rattle.std.specs.Prelude.{None, Some}
use Rattle.elf_resolve.specs.LibraryKeys.{LibraryVersions}
use Rattle.elf_resolve.specs.LibraryNeeds.{NeededRows, no_need}
use Rattle.elf_resolve.specs.LibraryTables.{HoldsLibraryVersions}
use Rattle.elf_resolve.specs.ObjectTables.{HoldsSymbols}
use Rattle.elf_resolve.specs.declared.object.SymbolRows.{SymbolRows}
use Rattle.elf_table.specs.Load.{HoldsSectionHeaders}
use Rattle.elf_resolve.proofs.library_needs.library_need.Given as goal

abbrev pub invariant-loop-index : goal.invariant-loop-index
invariant-loop-index l = record {
  same : l.strings ≡ l.initial.strings;
  none : l.tables.symbols ≡ None → l.need ≡ no_need;
  needs : (file : List ℕ) (table_at : ℕ) (symbols : SymbolRows) (known : LibraryVersions) → l.tables.symbols ≡ Some symbols → HoldsSymbols file l.initial.strings.bytes table_at symbols
      → HoldsLibraryVersions file l.initial.strings.bytes l.tables.versions l.versions known → HoldsSectionHeaders file l.view.loaded l.view.store.now
      → NeededRows file known table_at symbols.first l.index symbols.count l.keys.keys l.marks l.need;
}
