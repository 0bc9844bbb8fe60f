-- What was requested from objects, of which one more was read.
use Rattle.std.proofs.Common.{ℕ, ◌<◌, List, length, get_or, set, Option, Result}
use Rattle.elf_model.specs.Prelude.{SymbolQuery}
use Rattle.elf_table.specs.declared.fault.Fault.{Fault}
use Rattle.elf_library.specs.Prelude.{CountsHashed, LooksInObject, LookupObjectState, ReadsKept}
use Rattle.elf_needs.specs.Prelude.{AsksAll}
use Rattle.elf_needs.proofs.AskLaws.{asks_one, asks_then, spends_same}

module _ {before objects : List LookupObjectState} {l0 l1 l2 : Option ℕ} (n : ℕ) (d new : LookupObjectState) (less : n < length objects) (asks : AsksAll before objects l0 l1) where
  -- a name was looked up in it
  pub asks_looked : {wanted : SymbolQuery} {result : Result (Option ℕ) Fault} → LooksInObject wanted (get_or objects n d) new l1 l2 result → AsksAll before (set objects n new) l0 l2
  asks_looked looks = asks_then asks (asks_one objects n d new less (spends_same looks.costs looks.same_headers) looks.pays)

  -- its symbols were counted
  pub asks_counted : {result : Result ℕ Fault} → CountsHashed (get_or objects n d) new l1 l2 result → AsksAll before (set objects n new) l0 l2
  asks_counted counts = asks_then asks (asks_one objects n d new less (spends_same counts.costs counts.same_headers) counts.pays)

  -- something else was read of it
  pub asks_read : {stop : Option Fault} {k : ℕ} → ReadsKept (get_or objects n d) new l1 l2 stop k → AsksAll before (set objects n new) l0 l2
  asks_read reads = asks_then asks (asks_one objects n d new less (spends_same reads.costs reads.same_headers) reads.pays)
