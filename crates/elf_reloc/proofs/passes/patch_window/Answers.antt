use Rattle.std.proofs.Common.{rules, ap, ◌∙◌, arith, length}
use Rattle.std.proofs.lemmas.Result.{err_from_is_err_and}
use Rattle.elf_source.proofs.ReadsLaws.{ReadsUpTo-none, ReadsUpTo-then}
use Rattle.elf_table.proofs.Absent.{none-of}
use Rattle.elf_table.proofs.OpenLaws.{still_open}
use Rattle.elf_reloc.proofs.WalkSteps.{reads-left}
use Rattle.elf_reloc.specs.Prelude.{changes_left, folded, patch_as, storing, walk_left}
use Rattle.elf_reloc.proofs.PassSteps.{folded-some, folded-none, folded-fault, folds-fault}
use Rattle.elf_reloc.proofs.ReadLaws.{IsReadFault-then}
use Rattle.elf_reloc.proofs.passes.patch_window.Goals as goal

pub entries-init : goal.entries-init
entries-init g c = record {
  most = ReadsUpTo-none _ _;
  asked = omega (arith, c.new-entries.ensures.left c.args.target.now);
  still = c.new-entries.ensures.begins _ c.args.target.now;
  reads = λ file held. c.new-entries.ensures.reads file c.args.target.now;
  left = λ file held. ap (folded (storing c.args.low (length c.args.window.now)) c.args.window.now) (c.new-entries.ensures.changes file c.args.target.now);
}

pub entries-preserved : goal.entries-preserved
entries-preserved g c =
    let known = c.entries.invariant in
    let now = c.in_ok-placed.ensures.went.goes in
    record {
      most = reads-left _ (walk_left c.args.target.now c.next.new.self) (ReadsUpTo-then known.most c.next.ensures.asks.reads) (omega (arith, known.asked, c.next.ensures.asks.account));
      asked = omega (arith, known.asked, c.next.ensures.asks.account);
      still = rw known.most.keeps.same_size at now;
      reads = λ file held.
          let finds = rw c.in-Some.is at c.in_ok-placed.ensures.known file (known.most.keeps.same_file ∙ held) (known.reads file held) in finds.1;
      left = λ file held.
          let finds = rw c.in-Some.is at c.in_ok-placed.ensures.known file (known.most.keeps.same_file ∙ held) (known.reads file held) in
          ap (λ w. folded (storing c.args.low (length c.args.window.now)) w (changes_left file c.args.target.now c.next.new.self)) (c.put_in.ensures ∙ ap (λ n. storing c.args.low n c.entries.window (patch_as c.in-Some.placed)) c.entries.auto.window)
          ∙ folded-some (storing c.args.low (length c.args.window.now)) c.entries.window _ _ (patch_as c.in-Some.placed) _ finds.0 (known.left file held);
    }

pub returns : goal.returns
returns g c =
    let known = c.entries.invariant in
    let none = none-of _ c.in_default.not-Some in
    record {
      costs = record { reads = reads-left _ (walk_left c.args.target.now c.next.new.self) (ReadsUpTo-then known.most c.next.ensures.asks.reads) (omega (arith, known.asked, c.next.ensures.asks.account)); says = tt };
      known = λ file held.
          let finds = rw none at c.in_ok-placed.ensures.known file (known.most.keeps.same_file ∙ held) (known.reads file held) in
          folded-none (storing c.args.low (length c.args.window.now)) c.entries.window _ _ finds (known.left file held);
    }

pub returns-in_err-placed : goal.returns-in_err-placed
returns-in_err-placed g c =
    let p = err_from_is_err_and c.from_residual.result c.from_residual.ensures.1 in
    let known = c.entries.invariant in
    let e = c.in_err-placed.ensures in
    rw (p.1, p.2)
    (record {
      costs = record {
        reads = reads-left _ (walk_left c.args.target.now c.next.new.self) (ReadsUpTo-then known.most c.next.ensures.asks.reads) (omega (arith, known.asked, c.next.ensures.asks.account));
        says = IsReadFault-then c.args.src.now c.entries.src c.next.new.src _ _ _ _ known.most (omega (arith, known.asked)) e.says;
      };
      known = λ file held.
          folds-fault (Unit {0}) _ _ _ (folded-fault (storing c.args.low (length c.args.window.now)) c.entries.window file c.args.target.now c.entries.entries c.next.new.self _ _
          (e.known file (known.most.keeps.same_file ∙ held) (known.reads file held)) (known.left file held));
    })

pub next-requires : goal.next-requires
next-requires g c = record {
  opened = still_open _ _ c.entries.invariant.most c.requires.opened;
  goes = search rules;
}
