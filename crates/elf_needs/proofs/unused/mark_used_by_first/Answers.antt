-- The entries are located, once the symbols are looked up.
use Rattle.std.proofs.Common.{arith}
use Rattle.elf_needs.proofs.AskLaws.{asks_then}
use Rattle.elf_needs.proofs.UnusedLaws.{asks_read}
use Rattle.elf_needs.proofs.unused.mark_used_by_first.Goals as goal

pub returns-in_err-entries : goal.returns-in_err-entries
returns-in_err-entries g c =
    asks_read 0 c.index-objects-0.result c.relocations.new.self (omega (arith, c.requires, c.mark_bound.ensures.objects.same_length)) c.mark_bound.ensures c.relocations.ensures.costs

pub returns-in-Some : goal.returns-in-Some
returns-in-Some g c =
    asks_then (asks_read 0 c.index-objects-0.result c.relocations.new.self (omega (arith, c.requires, c.mark_bound.ensures.objects.same_length)) c.mark_bound.ensures c.relocations.ensures.costs) c.mark_copied.ensures

pub returns-in-None : goal.returns-in-None
returns-in-None g c =
    asks_read 0 c.index-objects-0.result c.relocations.new.self (omega (arith, c.requires, c.mark_bound.ensures.objects.same_length)) c.mark_bound.ensures c.relocations.ensures.costs
