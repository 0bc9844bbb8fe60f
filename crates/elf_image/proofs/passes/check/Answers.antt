-- Each step stores something, which is marked, or nothing.
use Rattle.std.proofs.Common.{ap, sym, subst, ◌∙◌, arith}
use Rattle.std.proofs.lemmas.Result.{err_from_is_err_and}
use Rattle.elf_model.specs.Image.{relocation_changes, writes_of}
use Rattle.elf_source.proofs.ReadsLaws.{ReadsUpTo-none, ReadsUpTo-then, ReadsUpTo-to}
use Rattle.elf_image.specs.Changes.{image_changes_left}
use Rattle.elf_image.specs.Chunks.{HoldsChunks}
use Rattle.elf_image.specs.declared.ranges.EntryRanges.{EntryRanges}
use Rattle.elf_image.proofs.PassSteps.{check_stopped, other_step, seen_all, seen_none, seen_other, seen_stored}
use Rattle.elf_image.proofs.passes.check.Goals as goal

pub steps-init : goal.steps-init
steps-init g c = record {
  reads = ReadsUpTo-none _ _;
  asked = omega (arith, c.new-walk.ensures.reads _ c.requires.image);
  alive = c.new-walk.ensures.alive _ c.requires.image;
  wanted = c.new-walk.ensures.wanted;
  known = λ source held of. c.new-walk.ensures.known source of;
  seen = λ source held of.
      let partial = c.args.image.now.leaves in
      seen_none (writes_of partial (relocation_changes source)) source partial c.args.target.now (image_changes_left source c.new-walk.result) c.new-marks.result
      (ap (writes_of partial) (sym (c.new-walk.ensures.begins source of))) c.new-marks.ensures;
}

pub steps-preserved-in-Stores : goal.steps-preserved-in-Stores
steps-preserved-in-Stores g c =
    let known = c.steps.invariant in
    record {
      reads = ReadsUpTo-to (ReadsUpTo-then known.reads c.step.ensures.costs.reads) (omega (arith, known.asked, c.step.ensures.account));
      asked = omega (arith, known.asked, c.step.ensures.account);
      alive = rw known.reads.keeps.same_size at c.in_ok-change.ensures.alive;
      wanted = c.step.ensures.wanted ∙ known.wanted;
      known = λ source held of. c.in_ok-change.ensures.known source (known.reads.keeps.same_file ∙ held) of (known.known source held of);
      seen = λ source held of.
          let partial = c.args.image.now.leaves in
          let takes = rw c.in-Stores.is at c.in_ok-change.ensures.takes source (known.reads.keeps.same_file ∙ held) of (known.known source held of) in
          seen_stored (writes_of partial (relocation_changes source)) source partial c.args.target.now (image_changes_left source c.steps.walk) (image_changes_left source c.step.new.self) c.steps.marks c.mark_change-in-Stores.new.marks c.in-Stores.change takes.0
          (known.seen source held of) takes.1 takes.2 takes.3 c.mark_change-in-Stores.ensures;
    }

pub steps-preserved : goal.steps-preserved
steps-preserved g c =
    let known = c.steps.invariant in
    record {
      reads = ReadsUpTo-to (ReadsUpTo-then known.reads c.step.ensures.costs.reads) (omega (arith, known.asked, c.step.ensures.account));
      asked = omega (arith, known.asked, c.step.ensures.account);
      alive = rw known.reads.keeps.same_size at c.in_ok-change.ensures.alive;
      wanted = c.step.ensures.wanted ∙ known.wanted;
      known = λ source held of. c.in_ok-change.ensures.known source (known.reads.keeps.same_file ∙ held) of (known.known source held of);
      seen = λ source held of.
          let partial = c.args.image.now.leaves in
          let takes = c.in_ok-change.ensures.takes source (known.reads.keeps.same_file ∙ held) of (known.known source held of) in
          seen_other (writes_of partial (relocation_changes source)) source partial c.args.target.now (image_changes_left source c.steps.walk) (image_changes_left source c.step.new.self) c.steps.marks
          (known.seen source held of)
          (other_step source partial c.steps.walk.wanted (image_changes_left source c.steps.walk) (image_changes_left source c.step.new.self) c.in_ok-change.field-0 known.wanted c.in_default-2.not-Stores c.in_default-2.not-End takes);
    }

pub returns-in-End-clause-checks : goal.returns-in-End-clause-checks
returns-in-End-clause-checks g c = λ source held of.
    let known = c.steps.invariant in
    let partial = c.args.image.now.leaves in
    let takes = rw c.in-End.is at c.in_ok-change.ensures.takes source (known.reads.keeps.same_file ∙ held) of (known.known source held of) in
    seen_all (writes_of partial (relocation_changes source)) source partial c.args.target.now (image_changes_left source c.steps.walk) c.steps.marks (known.seen source held of) takes

pub returns-in_err-change-clause-checks : goal.returns-in_err-change-clause-checks
returns-in_err-change-clause-checks g c = λ source held of.
    let p = err_from_is_err_and c.from_residual.result c.from_residual.ensures.1 in
    let known = c.steps.invariant in
    let takes = c.in_err-change.ensures.takes source (known.reads.keeps.same_file ∙ held) of (known.known source held of) in
    rw (p.1, p.2)
    (check_stopped source c.args.image.now.leaves c.args.target.now c.steps.walk.wanted (image_changes_left source c.steps.walk) (image_changes_left source c.step.new.self) c.steps.marks c.in_err-change.field-0.0 (known.seen source held of) takes)

pub steps-preserved-in-Some : goal.steps-preserved-in-Some
steps-preserved-in-Some g c =
    let known = c.steps.invariant in
    let t = c.take_relative-change.ensures in
    record {
      reads = known.reads;
      asked = let r = t.reads in omega (arith, known.asked, r);
      alive = t.alive _ known.alive;
      wanted = t.wanted ∙ known.wanted;
      known = λ source held of. t.known source.file (known.known source held of);
      seen = λ source held of.
          let partial = c.args.image.now.leaves in
          let takes = t.takes source of (known.known source held of) in
          seen_stored (writes_of partial (relocation_changes source)) source partial c.args.target.now (image_changes_left source c.steps.walk) (image_changes_left source c.take_relative-change.new.self) c.steps.marks c.mark_change.new.marks c.take_relative-change.result takes.0
          (known.seen source held of) takes.1 takes.2 takes.3 c.mark_change.ensures;
    }

pub returns-in-End-clause-chunks : goal.returns-in-End-clause-chunks
returns-in-End-clause-chunks g c = λ source held of.
    let known = c.steps.invariant in
    let now = c.in_ok-change.ensures.known source (known.reads.keeps.same_file ∙ held) of (known.known source held of) in
    subst (λ (ranges : EntryRanges). HoldsChunks source.file ranges.first.at c.step.new.self.entries.chunks) now.ranges now.entries.chunks
