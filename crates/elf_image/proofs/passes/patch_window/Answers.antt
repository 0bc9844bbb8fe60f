-- Each step stores something, which goes into the window if it is there, or passes by some writes that
-- do not.
use Rattle.std.proofs.Common.{ap, refl, ◌∙◌, arith}
use Rattle.std.proofs.lemmas.Result.{err_from_is_err_and}
use Rattle.elf_model.specs.Image.{writes_of}
use Rattle.elf_source.proofs.ReadsLaws.{ReadsUpTo-none, ReadsUpTo-then, ReadsUpTo-to}
use Rattle.elf_image.specs.Changes.{image_changes_left}
use Rattle.elf_image.proofs.PatchSteps.{rest_other, rest_stored, unrefused_step}
use Rattle.elf_image.proofs.WindowPassSteps.{edges_then, goes_rises, meets_before, patched_all, patched_none, patched_passed, patched_stored, still_bounded, stored_within}
use Rattle.elf_image.proofs.WriteLaws.{writes_fit}
use Rattle.elf_image.proofs.passes.patch_window.Goals as goal

pub steps-init : goal.steps-init
steps-init g c =
    let partial = c.args.image.now.leaves in
    record {
      reads = ReadsUpTo-none _ _;
      asked = omega (arith, c.new-walk.ensures.reads _ c.requires);
      alive = c.new-walk.ensures.alive _ c.requires;
      wanted = (c.reach.result, c.new-walk.ensures.wanted, record { first = c.reach.ensures.first; last = c.reach.ensures.last });
      edges = record { low = refl; before = refl; after = refl; long = refl };
      known = λ source held of. c.new-walk.ensures.known source of;
      rest = λ source writes held of is. (writes, ap (writes_of partial) (c.new-walk.ensures.begins source of) ∙ is);
      patched = λ source writes held of target is window inside.
          patched_none source partial c.args.target.now writes c.args.window.now target window inside (image_changes_left source c.new-walk.result) c.new-walk.result
          (ap (writes_of partial) (c.new-walk.ensures.begins source of) ∙ is) (writes_fit source partial writes is);
    }

pub steps-preserved-in-Some : goal.steps-preserved-in-Some
steps-preserved-in-Some g c =
    let known = c.steps.invariant in
    let partial = c.args.image.now.leaves in
    let t = c.take_relative-change.ensures in
    record {
      reads = known.reads;
      asked = let r = t.reads in omega (arith, known.asked, r);
      alive = t.alive _ known.alive;
      wanted = (known.wanted.0, t.wanted ∙ known.wanted.1, known.wanted.2);
      edges = edges_then c.args.window.now c.steps.window c.store_change.new.window known.edges c.store_change.ensures.edges;
      known = λ source held of. t.known source.file (known.known source held of);
      rest = λ source writes held of is.
          let takes = t.takes source of (known.known source held of) in
          let r = known.rest source writes held of is in
          let left = rest_stored partial takes.0 (image_changes_left source c.steps.walk) (image_changes_left source c.take_relative-change.new.self) r.0 takes.3 r.1 in
          (left.0, left.2);
      patched = λ source writes held of target is window inside.
          let takes = t.takes source of (known.known source held of) in
          let goes = t.turn source.file in
          let old = known.patched source writes held of target is window inside in
          let before = image_changes_left source c.steps.walk in
          let after = image_changes_left source c.take_relative-change.new.self in
          let change = c.take_relative-change.result in
          let new = c.take_relative-change.new.self in
          let meets = meets_before source partial c.args.target.now writes c.args.window.now target window inside before after c.steps.walk new c.steps.window known.edges old change takes.0 takes.1 takes.3 goes in
          let bounded = still_bounded source partial c.args.target.now writes c.args.window.now target window inside before after c.steps.walk new c.steps.window known.edges old change takes.0 takes.1 takes.3 goes in
          let ends = stored_within source partial c.args.target.now writes c.args.window.now target window inside before after c.steps.walk new c.steps.window known.edges old change takes.0 takes.1 takes.3 goes in
          patched_stored source partial c.args.target.now writes c.args.window.now target window inside before after c.steps.walk new c.steps.window known.edges old change takes.0 takes.1 takes.3 goes
          c.store_change.new.window c.store_change.ensures.edges (c.store_change.ensures.stores source takes.0 of takes.1 meets bounded ends);
    }

pub steps-preserved-in-Stores : goal.steps-preserved-in-Stores
steps-preserved-in-Stores g c =
    let known = c.steps.invariant in
    let partial = c.args.image.now.leaves in
    record {
      reads = ReadsUpTo-to (ReadsUpTo-then known.reads c.step.ensures.costs.reads) (omega (arith, known.asked, c.step.ensures.account));
      asked = omega (arith, known.asked, c.step.ensures.account);
      alive = rw known.reads.keeps.same_size at c.in_ok-change.ensures.alive;
      wanted = (known.wanted.0, c.step.ensures.wanted ∙ known.wanted.1, known.wanted.2);
      edges = edges_then c.args.window.now c.steps.window c.store_change-in-Stores.new.window known.edges c.store_change-in-Stores.ensures.edges;
      known = λ source held of. c.in_ok-change.ensures.known source (known.reads.keeps.same_file ∙ held) of (known.known source held of);
      rest = λ source writes held of is.
          let takes = rw c.in-Stores.is at c.in_ok-change.ensures.takes source (known.reads.keeps.same_file ∙ held) of (known.known source held of) in
          let r = known.rest source writes held of is in
          let t = rest_stored partial takes.0 (image_changes_left source c.steps.walk) (image_changes_left source c.step.new.self) r.0 takes.3 r.1 in
          (t.0, t.2);
      patched = λ source writes held of target is window inside.
          let takes = rw c.in-Stores.is at c.in_ok-change.ensures.takes source (known.reads.keeps.same_file ∙ held) of (known.known source held of) in
          let goes = rw c.in-Stores.is at c.in_ok-change.ensures.turn source (known.reads.keeps.same_file ∙ held) of (known.known source held of) in
          let old = known.patched source writes held of target is window inside in
          let before = image_changes_left source c.steps.walk in
          let after = image_changes_left source c.step.new.self in
          let change = c.in-Stores.change in
          let meets = meets_before source partial c.args.target.now writes c.args.window.now target window inside before after c.steps.walk c.step.new.self c.steps.window known.edges old change takes.0 takes.1 takes.3 goes in
          let bounded = still_bounded source partial c.args.target.now writes c.args.window.now target window inside before after c.steps.walk c.step.new.self c.steps.window known.edges old change takes.0 takes.1 takes.3 goes in
          let ends = stored_within source partial c.args.target.now writes c.args.window.now target window inside before after c.steps.walk c.step.new.self c.steps.window known.edges old change takes.0 takes.1 takes.3 goes in
          patched_stored source partial c.args.target.now writes c.args.window.now target window inside before after c.steps.walk c.step.new.self c.steps.window known.edges old change takes.0 takes.1 takes.3 goes
          c.store_change-in-Stores.new.window c.store_change-in-Stores.ensures.edges (c.store_change-in-Stores.ensures.stores source takes.0 of takes.1 meets bounded ends);
    }

pub steps-preserved : goal.steps-preserved
steps-preserved g c =
    let known = c.steps.invariant in
    let partial = c.args.image.now.leaves in
    record {
      reads = ReadsUpTo-to (ReadsUpTo-then known.reads c.step.ensures.costs.reads) (omega (arith, known.asked, c.step.ensures.account));
      asked = omega (arith, known.asked, c.step.ensures.account);
      alive = rw known.reads.keeps.same_size at c.in_ok-change.ensures.alive;
      wanted = (known.wanted.0, c.step.ensures.wanted ∙ known.wanted.1, known.wanted.2);
      edges = known.edges;
      known = λ source held of. c.in_ok-change.ensures.known source (known.reads.keeps.same_file ∙ held) of (known.known source held of);
      rest = λ source writes held of is.
          let takes = c.in_ok-change.ensures.takes source (known.reads.keeps.same_file ∙ held) of (known.known source held of) in
          let r = known.rest source writes held of is in
          let passes = rest_other source partial c.steps.walk.wanted known.wanted.0 (image_changes_left source c.steps.walk) (image_changes_left source c.step.new.self) r.0 c.in_ok-change.field-0 known.wanted.1 c.in_default-2.not-Stores c.in_default-2.not-End takes r.1 in
          (passes.left, passes.are);
      patched = λ source writes held of target is window inside.
          let takes = c.in_ok-change.ensures.takes source (known.reads.keeps.same_file ∙ held) of (known.known source held of) in
          let turn = c.in_ok-change.ensures.turn source (known.reads.keeps.same_file ∙ held) of (known.known source held of) in
          let old = known.patched source writes held of target is window inside in
          let before = image_changes_left source c.steps.walk in
          let after = image_changes_left source c.step.new.self in
          let passes = rest_other source partial c.steps.walk.wanted known.wanted.0 before after old.rest c.in_ok-change.field-0 known.wanted.1 c.in_default-2.not-Stores c.in_default-2.not-End takes old.are in
          let rises = goes_rises source.file c.steps.walk c.step.new.self c.in_ok-change.field-0 c.in_default-2.not-Stores c.in_default-2.not-End turn in
          patched_passed source partial c.args.target.now writes c.args.window.now target window inside before after c.steps.walk c.step.new.self c.steps.window known.edges old known.wanted.0 known.wanted.2.first known.wanted.2.last rises passes;
    }

pub returns-in-End-clause-patches : goal.returns-in-End-clause-patches
returns-in-End-clause-patches g c = λ source writes held of target is window inside.
    let known = c.steps.invariant in
    let takes = rw c.in-End.is at c.in_ok-change.ensures.takes source (known.reads.keeps.same_file ∙ held) of (known.known source held of) in
    let old = known.patched source writes held of target is window inside in
    patched_all source c.args.image.now.leaves c.args.target.now writes c.args.window.now target window inside (image_changes_left source c.steps.walk) c.steps.walk c.steps.window old takes

pub returns-in_err-change-clause-unrefused : goal.returns-in_err-change-clause-unrefused
returns-in_err-change-clause-unrefused g c = λ source writes held of is.
    let p = err_from_is_err_and c.from_residual.result c.from_residual.ensures.1 in
    let known = c.steps.invariant in
    let takes = c.in_err-change.ensures.takes source (known.reads.keeps.same_file ∙ held) of (known.known source held of) in
    let r = known.rest source writes held of is in
    rw (p.1, p.2) (unrefused_step source c.args.image.now.leaves c.steps.walk.wanted (image_changes_left source c.steps.walk) (image_changes_left source c.step.new.self) r.0 c.in_err-change.field-0.0 takes r.1)
