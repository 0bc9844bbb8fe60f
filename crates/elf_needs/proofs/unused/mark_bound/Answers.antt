-- The symbols are counted, and one more is looked up, or not.
use Rattle.elf_needs.proofs.AskLaws.{asks_none, asks_then}
use Rattle.elf_needs.proofs.UnusedLaws.{asks_counted}
use Rattle.elf_needs.proofs.unused.mark_bound.Goals as goal

pub returns-in_err-count : goal.returns-in_err-count
returns-in_err-count g c = asks_counted 0 c.index-objects-0.result c.symbol_count.new.self c.requires (asks_none c.args.objects.now c.args.left.now) c.symbol_count.ensures

pub loop-symbol-init : goal.loop-symbol-init
loop-symbol-init g c = record { asks = asks_counted 0 c.index-objects-0.result c.symbol_count.new.self c.requires (asks_none c.args.objects.now c.args.left.now) c.symbol_count.ensures }

pub returns-in_err-object : goal.returns-in_err-object
returns-in_err-object g c = asks_then c.loop-symbol.invariant.asks c.item_of.ensures.asks

pub loop-symbol-preserved : goal.loop-symbol-preserved
loop-symbol-preserved g c = record { asks = asks_then c.loop-symbol.invariant.asks c.item_of.ensures.asks }
