use Rattle.std.proofs.Common.{get_or, ◌∙◌, arith}
use Rattle.elf_resolve.proofs.IndexLaws.{big_all, big_fits, big_more, big_start}
use Rattle.elf_resolve.proofs.archive_index.big_endian.Goals as goal

pub loop-byte-init : goal.loop-byte-init
loop-byte-init c = (big_start c.args.bytes.now, omega arith)

pub loop-byte-preserved : goal.loop-byte-preserved
loop-byte-preserved c =
    let more = big_more c.args.bytes.now c.loop-byte.byte-index c.loop-byte-test.true in
    let fits = big_fits c.loop-byte.byte-index c.loop-byte.number (get_or c.args.bytes.now c.loop-byte.byte-index 0) (omega (arith, c.requires, c.loop-byte-test.true)) c.loop-byte.invariant.1 (omega arith) in
    (omega (arith, more, c.loop-byte.invariant.0), omega (arith, fits.1))

pub returns : goal.returns
returns c = c.loop-byte.invariant.0 ∙ big_all c.args.bytes.now c.loop-byte.byte-index (omega (arith, c.loop-byte-test.false))

pub overflow_mul-number : goal.overflow_mul-number
overflow_mul-number c =
    let fits = big_fits c.loop-byte.byte-index c.loop-byte.number 0 (omega (arith, c.requires, c.loop-byte-test.true)) c.loop-byte.invariant.1 (omega arith) in
    omega (arith, fits.0)
