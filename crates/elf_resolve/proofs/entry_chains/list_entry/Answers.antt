use Rattle.std.proofs.Common.{subst, arith}
use Rattle.elf_resolve.specs.KeyChains.{AddsNumber, ChainTable}
use Rattle.elf_resolve.proofs.KeyListLaws.{one_listed, two_listed}
use Rattle.elf_resolve.proofs.entry_chains.list_entry.Goals as goal
use Rattle.elf_resolve.proofs.entry_chains.list_entry.Goals.{then-entry, else-entry}

pub returns : goal.returns
returns c =
    let number = c.saturating_mul-number.result in
    let key = c.args.entry.key in
    elim c.if-entry.branch [
      | then-entry w ↦ two_listed c.args.offers.now w.add.new.self c.add-2.new.self c.args.entry c.args.place w.saturating_add.result number
          (λ small. omega (arith, small, w.saturating_add.ensures, c.saturating_mul-number.ensures)) (λ small. omega (arith, small, c.saturating_mul-number.ensures))
          w.if-entry.true w.add.ensures (subst (λ (t : ChainTable). AddsNumber t c.add-2.new.self key number) w.offers-is c.add-2.ensures)
      | else-entry w ↦ one_listed c.args.offers.now c.add-2.new.self c.args.entry c.args.place number (λ small. omega (arith, small, c.saturating_mul-number.ensures))
          w.if-entry.false (subst (λ (t : ChainTable). AddsNumber t c.add-2.new.self key number) w.offers-is c.add-2.ensures)
    ]
