-- The higher bytes of eight are what is left without the lowest.
use Rattle.std.proofs.Common.{arith}
use Rattle.elf_library.proofs.FitLaws.{higher_are}
use Rattle.elf_library.proofs.library_files.reserved.Goals as goal

pub returns : goal.returns
returns c =
    let higher = higher_are c.args.front.now (omega arith) in
    omega (arith, higher, c.u64_at.ensures, c.byte_at-first.ensures)

pub overflow_sub-result : goal.overflow_sub-result
overflow_sub-result c =
    let higher = higher_are c.args.front.now (omega arith) in
    omega (arith, higher, c.u64_at.ensures, c.byte_at-first.ensures)
