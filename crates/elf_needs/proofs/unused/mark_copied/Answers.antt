-- One more entry is read, with the name of its symbol, which is looked up.
use Rattle.std.proofs.Common.{arith}
use Rattle.elf_needs.proofs.AskLaws.{asks_then}
use Rattle.elf_needs.proofs.UnusedLaws.{asks_read}
use Rattle.elf_needs.proofs.unused.mark_copied.Goals as goal

pub returns-in_err-symbol : goal.returns-in_err-symbol
returns-in_err-symbol g c =
    let i = c.loop-entry.invariant in
    asks_read 0 c.index-objects-0.result c.copied.new.self (omega (arith, c.requires, i.asks.objects.same_length)) i.asks c.copied.ensures.costs

pub loop-entry-preserved-in_default : goal.loop-entry-preserved-in_default
loop-entry-preserved-in_default g c =
    let i = c.loop-entry.invariant in
    record {
      asks = asks_read 0 c.index-objects-0.result c.copied.new.self (omega (arith, c.requires, i.asks.objects.same_length)) i.asks c.copied.ensures.costs;
      end = i.end;
    }

pub returns-in_err-name_of : goal.returns-in_err-name_of
returns-in_err-name_of g c =
    let i = c.loop-entry.invariant in
    let first = asks_read 0 c.index-objects-0.result c.copied.new.self (omega (arith, c.requires, i.asks.objects.same_length)) i.asks c.copied.ensures.costs in
    asks_read 0 c.index-objects-0-in-loop-entry.result c.name_of.new.self (omega (arith, c.requires, first.objects.same_length)) first c.name_of.ensures

pub loop-entry-preserved-then-not-branch : goal.loop-entry-preserved-then-not-branch
loop-entry-preserved-then-not-branch g c =
    let i = c.loop-entry.invariant in
    let first = asks_read 0 c.index-objects-0.result c.copied.new.self (omega (arith, c.requires, i.asks.objects.same_length)) i.asks c.copied.ensures.costs in
    record {
      asks = asks_read 0 c.index-objects-0-in-loop-entry.result c.name_of.new.self (omega (arith, c.requires, first.objects.same_length)) first c.name_of.ensures;
      end = i.end;
    }

pub returns-in_err-object : goal.returns-in_err-object
returns-in_err-object g c =
    let i = c.loop-entry.invariant in
    let first = asks_read 0 c.index-objects-0.result c.copied.new.self (omega (arith, c.requires, i.asks.objects.same_length)) i.asks c.copied.ensures.costs in
    asks_then (asks_read 0 c.index-objects-0-in-loop-entry.result c.name_of.new.self (omega (arith, c.requires, first.objects.same_length)) first c.name_of.ensures) c.copied_from.ensures

pub loop-entry-preserved : goal.loop-entry-preserved
loop-entry-preserved g c =
    let i = c.loop-entry.invariant in
    let first = asks_read 0 c.index-objects-0.result c.copied.new.self (omega (arith, c.requires, i.asks.objects.same_length)) i.asks c.copied.ensures.costs in
    record {
      asks = asks_then (asks_read 0 c.index-objects-0-in-loop-entry.result c.name_of.new.self (omega (arith, c.requires, first.objects.same_length)) first c.name_of.ensures) c.copied_from.ensures;
      end = i.end;
    }
