use Rattle.std.proofs.Common.{rules, refl, ◌∙◌, arith}
use Rattle.std.proofs.lemmas.Result.{err_from_is_err_and}
use Rattle.elf_reloc.proofs.ReadLaws.{IsReadFault-then}
use Rattle.elf_reloc.proofs.WalkSteps.{asks-none, asks-then, finds-fault}
use Rattle.elf_table.proofs.OpenLaws.{still_open}
use Rattle.elf_reloc.proofs.walk.RelocationWalk.next.Goals as goal

pub steps-init : goal.steps-init
steps-init g c = record {
  asks = asks-none c.args.target.now c.args.self.now c.args.src.now;
  still = c.requires.goes;
  fewer = omega arith;
  counts = refl;
  reads = λ file held reads. (refl, reads);
}

pub step-requires : goal.step-requires
step-requires g c = record {
  opened = still_open _ _ c.steps.invariant.asks.reads c.requires.opened;
  goes = rw c.steps.invariant.asks.reads.keeps.same_size c.steps.invariant.still;
}

pub returns-in-Stores : goal.returns-in-Stores
returns-in-Stores g c =
    let known = c.steps.invariant in
    let went = c.in_ok-placed.ensures.went in
    let gives = rw c.in-Stores.is at went.gives in
    record {
      asks = asks-then known.asks c.step.ensures.asks;
      says = tt;
      went = record {
        goes = rw known.asks.reads.keeps.same_size at went.goes;
        counts = went.counts ∙ known.counts;
        gives = (omega (arith, known.fewer, gives.0), gives.1);
      };
      known = λ file held reads.
          let way = known.reads file held reads in
          let step = rw c.in-Stores.is at c.in_ok-placed.ensures.known file (known.asks.reads.keeps.same_file ∙ held) way.1 in
          (way.0 ∙ step.0, step.1);
    }

pub steps-smaller : goal.steps-smaller
steps-smaller g c = rw c.in-Nothing.is at c.in_ok-placed.ensures.went.gives

pub steps-preserved : goal.steps-preserved
steps-preserved g c =
    let known = c.steps.invariant in
    let went = c.in_ok-placed.ensures.went in
    record {
      asks = asks-then known.asks c.step.ensures.asks;
      still = rw known.asks.reads.keeps.same_size at went.goes;
      fewer = omega (arith, known.fewer, rw c.in-Nothing.is at went.gives);
      counts = went.counts ∙ known.counts;
      reads = λ file held reads.
          let way = known.reads file held reads in
          let step = rw c.in-Nothing.is at c.in_ok-placed.ensures.known file (known.asks.reads.keeps.same_file ∙ held) way.1 in
          (way.0 ∙ step.0, step.1);
    }

pub returns-in-End : goal.returns-in-End
returns-in-End g c =
    let known = c.steps.invariant in
    let went = c.in_ok-placed.ensures.went in
    record {
      asks = asks-then known.asks c.step.ensures.asks;
      says = tt;
      went = record {
        goes = rw known.asks.reads.keeps.same_size at went.goes;
        counts = went.counts ∙ known.counts;
        gives = rw c.in-End.is at went.gives;
      };
      known = λ file held reads.
          let way = known.reads file held reads in
          way.0 ∙ (rw c.in-End.is at c.in_ok-placed.ensures.known file (known.asks.reads.keeps.same_file ∙ held) way.1);
    }

pub returns-in_err-placed : goal.returns-in_err-placed
returns-in_err-placed g c =
    let p = err_from_is_err_and c.from_residual.result c.from_residual.ensures.1 in
    let known = c.steps.invariant in
    let e = c.in_err-placed.ensures in
    rw (p.1, p.2)
    (record {
      asks = asks-then known.asks c.step.ensures.asks;
      says = IsReadFault-then c.args.src.now c.steps.src c.step.new.src _ _ _ _ known.asks.reads known.asks.account e.says;
      went = tt;
      known = λ file held reads.
          let way = known.reads file held reads in
          finds-fault file c.args.target.now c.args.self.now c.steps.self c.step.new.self _ way.0 (e.known file (known.asks.reads.keeps.same_file ∙ held) way.1);
    })
