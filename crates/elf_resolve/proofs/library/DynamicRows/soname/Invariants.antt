use Rattle.std.proofs.Common.{◌≡◌, List, ℕ}
use Rattle.std.specs.Prelude.{Option}
use Rattle.elf_resolve.specs.LibraryEntries.{own_name}
use Rattle.elf_resolve.specs.LibraryFiles.{HoldsDynamic}
use Rattle.elf_resolve.specs.ObjectSymbols.{HoldsSome}
use Rattle.elf_resolve.proofs.LibraryEntryLaws.{left_from}
use Rattle.elf_resolve.proofs.library.DynamicRows.soname.Given as goal

abbrev pub invariant-loop-index : goal.invariant-loop-index
invariant-loop-index l = record {
  walks : (file : List ℕ) (at : ℕ) → HoldsDynamic file l.strings.bytes at l.self → (before : Option (List ℕ)) × (own_name file at ≡ left_from file at l.index before) × HoldsSome l.strings.bytes l.own before;
}
