use Rattle.std.proofs.Common.{drop, Result}
use Rattle.elf_model.specs.Placing.{Layout, no_items}
use Rattle.elf_requests.specs.Layouts.{LaysWords}
use Rattle.elf_cli.specs.declared.faults.RequestFault.{RequestFault}
use Rattle.clap.specs.Walk.{texts}
use Rattle.elf_requests.proofs.items.lay.Given as goal

-- what the remaining arguments give after the layout so far, all of them give
abbrev pub invariant-loop-word : goal.invariant-loop-word
invariant-loop-word l =
    (result : Result Layout RequestFault) → LaysWords l.layout (texts (drop l.word-index l.words)) result → LaysWords no_items (texts l.words) result
