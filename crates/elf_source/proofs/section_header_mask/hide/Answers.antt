use Rattle.std.proofs.Common.{sym, arith}
use Rattle.elf_model.proofs.StyleLemmas.{view_after}
use Rattle.elf_source.proofs.HidingLaws.{one_more, all_done}
use Rattle.elf_source.proofs.section_header_mask.hide.Goals as goal

pub returns-then-at-ge-HEADER_BYTES : goal.returns-then-at-ge-HEADER_BYTES
returns-then-at-ge-HEADER_BYTES c = sym (view_after c.args.at c.args.bytes.now (omega (arith, c.if-at-ge-HEADER_BYTES)))

pub loop-index-preserved : goal.loop-index-preserved
loop-index-preserved c =
    one_more c.args.at c.loop-index.index c.hidden.result c.loop-index.bytes _ (omega (arith, c.loop-index-test)) c.hidden.ensures c.loop-index.invariant

pub returns : goal.returns
returns c =
    all_done c.args.at c.loop-index.index c.loop-index.bytes _ (omega (arith, c.loop-index-test, c.loop-index.auto.index-end, c.loop-index.auto.bytes)) c.loop-index.invariant
