use Rattle.std.proofs.Common.{rules, arith}
use Rattle.std.proofs.lemmas.Result.{err_from_is_err_and}
use Rattle.elf_source.proofs.GrowthLaws.{grows_not, grows_put}
use Rattle.elf_reloc.proofs.WindowSteps.{front_as, front_written, stopping, takes_as}
use Rattle.elf_reloc.proofs.in_order.copy_through.Goals as goal

pub returns-in_err-fill-clause-did : goal.returns-in_err-fill-clause-did
returns-in_err-fill-clause-did g c = record { says = search (rules, stopping); reads = search rules; grows = grows_not _; wrote = search (rules, stopping) }

pub returns-in_err-put-clause-did : goal.returns-in_err-put-clause-did
returns-in_err-put-clause-did g c =
    let p = err_from_is_err_and c.from_residual-in_err-put.result c.from_residual-in_err-put.ensures.1 in
    record {
      says = rw (p.1, p.2) c.in_err-put.ensures.puts.1;
      reads = c.fill.ensures.reads;
      grows = grows_put _ _ c.put.ensures.puts;
      wrote = rw p.1 (omega (arith, front_written _ _ _ c.in_err-put.ensures.puts.0));
    }

pub returns-in_err-put-clause-text : goal.returns-in_err-put-clause-text
returns-in_err-put-clause-text g c = λ file held.
    let p = err_from_is_err_and c.from_residual-in_err-put.result c.from_residual-in_err-put.ensures.1 in
    rw (p.1, p.2) (front_as _ _ _ _ (c.in_ok-fill.ensures.read file held) c.in_err-put.ensures.puts.0)

pub returns-clause-did : goal.returns-clause-did
returns-clause-did g c = record { says = tt; reads = c.fill.ensures.reads; grows = grows_put _ _ c.put.ensures.puts; wrote = omega (arith, c.in_ok-put.ensures.puts.0.counts) }

pub returns-clause-text : goal.returns-clause-text
returns-clause-text g c = λ file held. takes_as _ _ _ _ (c.in_ok-fill.ensures.read file held) c.in_ok-put.ensures.puts.0
