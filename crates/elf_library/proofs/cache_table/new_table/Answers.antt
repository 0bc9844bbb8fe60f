-- Where the file is too short there is no header.
use Rattle.std.proofs.Common.{◌+◌, ◌<◌, arith}
use Rattle.elf_library.proofs.CacheLaws.{no-new-header}
use Rattle.elf_table.proofs.LedgerLaws.{CallDid-as, CallDid-none, CallDid-sized}
use Rattle.elf_library.proofs.cache_table.new_table.Goals as goal
use Rattle.elf_library.proofs.cache_table.new_table.Goals.{then-at-size-via-then-at-size, then-at-size-via-else-at-size+then-size-at}

pub returns-then-at-size-clause-did : goal.returns-then-at-size-clause-did
returns-then-at-size-clause-did g c =
    let by : c.length-size.result < c.args.at + 48 = elim c.then-at-size.branch [
      | then-at-size-via-then-at-size w ↦ omega (arith, w.if-at-size.true)
      | then-at-size-via-else-at-size+then-size-at w ↦ omega (arith, w.if-at-size.false, w.if-size-at.true)
    ] in
    CallDid-as 48 (omega arith) (CallDid-sized (CallDid-none c.args.src.now))
    (λ file told costs. no-new-header file c.args.at (omega (arith, told.0, c.length-size.ensures.value, by)))
