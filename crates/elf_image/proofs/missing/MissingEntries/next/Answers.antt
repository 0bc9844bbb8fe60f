-- The next entry, after steps over other changes.
use Rattle.std.proofs.Common.{ℕ, ◌/◌, ◌%◌, ◌^◌, ap, refl, ◌∙◌, arith}
use Rattle.std.proofs.lemmas.Result.{err_from_is_err_and}
use Rattle.elf_source.proofs.ReadsLaws.{ReadsUpTo-none, ReadsUpTo-then, ReadsUpTo-to}
use Rattle.elf_image.specs.Changes.{image_changes_left, walk_reads}
use Rattle.elf_image.specs.declared.missing.MissingEntries.{MissingEntries}
use Rattle.elf_image.proofs.MissingSteps.{lacks_end, lacks_first, lacks_passed, lacks_refused, passed_steps}
use Rattle.elf_image.proofs.ReadSteps.{reads_after}
use Rattle.elf_image.proofs.missing.MissingEntries.next.Goals as goal

pub steps-init : goal.steps-init
steps-init g c = record {
  reads = ReadsUpTo-none c.args.src.now (walk_reads c.args.self.now.walk);
  account = omega arith;
  alive = c.requires;
  less = omega arith;
  known = λ source held is. (refl, is);
}

pub returns-in-Lacks-clause-costs : goal.returns-in-Lacks-clause-costs
returns-in-Lacks-clause-costs g c =
    let before = c.steps.invariant in
    reads_after (walk_reads c.args.self.now.walk) (record { reads = before.reads; says = tt }) c.in_ok-ordered.ensures.costs before.account

pub returns-in-Lacks-clause-account : goal.returns-in-Lacks-clause-account
returns-in-Lacks-clause-account g c = omega (arith, c.steps.invariant.account, c.in_ok-ordered.ensures.account)

pub returns-in-Lacks-clause-finds : goal.returns-in-Lacks-clause-finds
returns-in-Lacks-clause-finds g c = λ source held is.
    let before = c.steps.invariant in
    let way = before.known source held is in
    let still = before.reads.keeps.same_file ∙ held in
    let takes = rw c.in-Lacks.is at (c.in_ok-ordered.ensures.takes source still way.1.image way.1.changes) in
    let walk = c.steps.self.walk in (
      way.0 ∙ lacks_first source c.steps.self.image.leaves walk.wanted way.1.whole (image_changes_left source walk) (image_changes_left source c.step.new.self) c.in-Lacks.ordered c.in-Lacks.cause takes,
      record {
        place = takes.2.r_offset;
        kind = c.kind.ensures ∙ ap (λ (i : ℕ). i % 2 ^ 32) takes.2.r_info;
        symbol = c.symbol.ensures ∙ ap (λ (i : ℕ). i / 2 ^ 32) takes.2.r_info;
      },
    )

pub returns-in-Lacks-clause-known : goal.returns-in-Lacks-clause-known
returns-in-Lacks-clause-known g c = λ source held is.
    let before = c.steps.invariant in
    let way = before.known source held is in
    let still = before.reads.keeps.same_file ∙ held in
    record {
      image = way.1.image;
      leaves = way.1.leaves;
      changes = c.in_ok-ordered.ensures.known source still way.1.image way.1.changes;
      whole = c.in_ok-ordered.ensures.wanted ∙ way.1.whole;
    }

pub returns-in-End-clause-finds : goal.returns-in-End-clause-finds
returns-in-End-clause-finds g c = λ source held is.
    let before = c.steps.invariant in
    let way = before.known source held is in
    let still = before.reads.keeps.same_file ∙ held in
    let walk = c.steps.self.walk in
    let takes = rw c.in-End.is at (c.in_ok-ordered.ensures.takes source still way.1.image way.1.changes) in
    way.0 ∙ lacks_end source c.steps.self.image.leaves walk.wanted way.1.whole (image_changes_left source walk) (image_changes_left source c.step.new.self) takes

pub returns-in-End-clause-known : goal.returns-in-End-clause-known
returns-in-End-clause-known g c = λ source held is.
    let before = c.steps.invariant in
    let way = before.known source held is in
    let still = before.reads.keeps.same_file ∙ held in
    record {
      image = way.1.image;
      leaves = way.1.leaves;
      changes = c.in_ok-ordered.ensures.known source still way.1.image way.1.changes;
      whole = c.in_ok-ordered.ensures.wanted ∙ way.1.whole;
    }

pub returns-in_err-ordered-clause-finds : goal.returns-in_err-ordered-clause-finds
returns-in_err-ordered-clause-finds g c = λ source held is.
    let p = err_from_is_err_and c.from_residual.result c.from_residual.ensures.1 in
    let before = c.steps.invariant in
    let way = before.known source held is in
    let still = before.reads.keeps.same_file ∙ held in
    let walk = c.steps.self.walk in
    let new : MissingEntries = record { image = c.steps.self.image; walk = c.step.new.self } in
    rw (p.1, p.2)
    (lacks_refused source c.steps.self.image.leaves walk.wanted way.1.whole (image_changes_left source walk) (image_changes_left source c.step.new.self) c.args.self.now new c.in_err-ordered.field-0.0 way.1.leaves way.0
    (c.in_err-ordered.ensures.takes source still way.1.image way.1.changes))

pub steps-preserved : goal.steps-preserved
steps-preserved g c =
    let before = c.steps.invariant in
    let step = c.step.ensures in
    let size = step.costs.reads.keeps.same_size in
    let less = passed_steps c.steps.self.walk c.step.new.self c.in_ok-ordered.field-0 c.in-Stores.is c.in_ok-ordered.ensures.steps in
    record {
      reads = ReadsUpTo-to (ReadsUpTo-then before.reads step.costs.reads) (omega (arith, before.account, step.costs.reads.at_most));
      account = omega (arith, before.account, step.account);
      alive = record { image = rw size before.alive.image; walk = rw size c.in_ok-ordered.ensures.alive };
      less = omega (arith, before.less, less);
      known = λ source held is.
          let way = before.known source held is in
          let still = before.reads.keeps.same_file ∙ held in
          let walk = c.steps.self.walk in (
            way.0
                ∙ lacks_passed source c.steps.self.image.leaves walk.wanted way.1.whole (image_changes_left source walk) (image_changes_left source c.step.new.self) c.in_ok-ordered.field-0 c.in-Stores.is
                (c.in_ok-ordered.ensures.takes source still way.1.image way.1.changes),
            record {
              image = way.1.image;
              leaves = way.1.leaves;
              changes = c.in_ok-ordered.ensures.known source still way.1.image way.1.changes;
              whole = c.in_ok-ordered.ensures.wanted ∙ way.1.whole;
            },
          );
    }
