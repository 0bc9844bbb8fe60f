use Rattle.std.proofs.Common.{◌≡◌, List, ℕ}
use Rattle.std.specs.Prelude.{Option, Ok}
use Rattle.elf_resolve.specs.LibraryEntries.{own_name}
use Rattle.elf_resolve.specs.LibraryFiles.{HoldsDynamic}
use Rattle.elf_resolve.proofs.LibraryEntryLaws.{left_from}
use Rattle.elf_resolve.proofs.library.DynamicRows.add_needed.Given as goal

abbrev pub invariant-loop-index : goal.invariant-loop-index
invariant-loop-index l = record {
  walks : (file : List ℕ) (at : ℕ) (own : Option (List ℕ)) → HoldsDynamic file l.strings.bytes at l.self → own_name file at ≡ Ok own → (before : Option (List ℕ)) × (left_from file at l.index before ≡ Ok own);
}
