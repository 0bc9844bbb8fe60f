use Rattle.std.proofs.Common.{rules, ◌≡◌, ◌+◌, ap, ◌∙◌, arith, true}
use Rattle.std.proofs.lemmas.Result.{err_from_is_err_and}
use Rattle.elf_source.proofs.ReadsLaws.{ReadsUpTo-none, ReadsUpTo-then}
use Rattle.elf_table.proofs.Absent.{none-of}
use Rattle.elf_table.proofs.OpenLaws.{still_open}
use Rattle.elf_reloc.proofs.WalkSteps.{reads-left}
use Rattle.elf_reloc.specs.Prelude.{changes_left, entries_from, folded, patch_as, rising, walk_left}
use Rattle.elf_reloc.proofs.PassSteps.{folded-some, folded-none, folded-fault, checks_fault}
use Rattle.elf_reloc.proofs.ReadLaws.{IsReadFault-then}
use Rattle.elf_reloc.proofs.passes.check.Goals as goal

pub entries-init : goal.entries-init
entries-init g c = record {
  most = ReadsUpTo-none _ _;
  counts = c.new-entries.ensures.none c.args.target.now;
  asked = omega (arith, c.new-entries.ensures.left c.args.target.now);
  still = c.new-entries.ensures.begins _ c.args.target.now;
  reads = λ file held. c.new-entries.ensures.reads file c.args.target.now;
  left = λ file held. ap (folded rising (true, 0)) (c.new-entries.ensures.changes file c.args.target.now);
}

pub entries-preserved : goal.entries-preserved
entries-preserved g c =
    let known = c.entries.invariant in
    let now = c.in_ok-placed.ensures.went.goes in
    let counted = c.in_ok-placed.ensures.went.counts in
    let counts : c.next.new.self.count + entries_from c.args.target.now c.next.new.self.next ≡ entries_from c.args.target.now 0 = omega (arith, known.counts, counted) in
    record {
      most = reads-left _ (walk_left c.args.target.now c.next.new.self) (ReadsUpTo-then known.most c.next.ensures.asks.reads) (omega (arith, known.asked, c.next.ensures.asks.account));
      counts = counts;
      asked = omega (arith, known.asked, c.next.ensures.asks.account);
      still = rw known.most.keeps.same_size at now;
      reads = λ file held.
          let finds = rw c.in-Some.is at c.in_ok-placed.ensures.known file (known.most.keeps.same_file ∙ held) (known.reads file held) in finds.1;
      left = λ file held.
          let finds = rw c.in-Some.is at c.in_ok-placed.ensures.known file (known.most.keeps.same_file ∙ held) (known.reads file held) in
          ap (λ r. folded rising (r, c.in-Some.placed.offset) (changes_left file c.args.target.now c.next.new.self)) c.still_rises-rises.ensures
          ∙ folded-some rising (c.entries.rises, c.entries.low) _ _ (patch_as c.in-Some.placed) _ finds.0 (known.left file held);
    }

pub returns-clause-did : goal.returns-clause-did
returns-clause-did g c =
    let known = c.entries.invariant in
    let none = none-of _ c.in_default.not-Some in
    record {
      costs = record { reads = reads-left _ (walk_left c.args.target.now c.next.new.self) (ReadsUpTo-then known.most c.next.ensures.asks.reads) (omega (arith, known.asked, c.next.ensures.asks.account)); says = tt };
      known = λ file held.
          let finds = rw none at c.in_ok-placed.ensures.known file (known.most.keeps.same_file ∙ held) (known.reads file held) in
          folded-none rising (c.entries.rises, c.entries.low) _ _ finds (known.left file held);
    }

pub returns-in_err-placed-clause-did : goal.returns-in_err-placed-clause-did
returns-in_err-placed-clause-did g c =
    let p = err_from_is_err_and c.from_residual.result c.from_residual.ensures.1 in
    let known = c.entries.invariant in
    let e = c.in_err-placed.ensures in
    rw (p.1, p.2)
    (record {
      costs = record {
        reads = reads-left _ (walk_left c.args.target.now c.next.new.self) (ReadsUpTo-then known.most c.next.ensures.asks.reads) (omega (arith, known.asked, c.next.ensures.asks.account));
        says = IsReadFault-then c.args.src.now c.entries.src c.next.new.src _ _ _ _ known.most (omega (arith, known.asked)) e.says;
      };
      known = λ file held.
          checks_fault _ _ (folded-fault rising (c.entries.rises, c.entries.low) file c.args.target.now c.entries.entries c.next.new.self _ _
          (e.known file (known.most.keeps.same_file ∙ held) (known.reads file held)) (known.left file held));
    })

pub next-requires : goal.next-requires
next-requires g c = record {
  opened = still_open _ _ c.entries.invariant.most c.requires.opened;
  goes = search rules;
}
