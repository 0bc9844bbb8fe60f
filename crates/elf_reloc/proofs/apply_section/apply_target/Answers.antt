use Rattle.std.proofs.Common.{rules, arith, sym, ap, ◌∙◌, Err}
use Rattle.std.proofs.lemmas.Result.{err_from_is_err_and}
use Rattle.elf_model.specs.Prelude.{patched, slice}
use Rattle.elf_table.proofs.OpenLaws.{still_open}
use Rattle.elf_reloc.specs.Walk.{walk_all}
use Rattle.elf_reloc.proofs.ApplySteps.{check_failed, writes_failed}
use Rattle.elf_reloc.proofs.BudgetSteps.{all_sum, checked_most, fault_applies, fault_wants, says_after, says_wants, spends_reads, spends_then, twice_sum, wants_after}
use Rattle.elf_reloc.proofs.CostSteps.{checked_below, entries_are}
use Rattle.elf_reloc.proofs.RisingSteps.{section_long, stores}
use Rattle.elf_reloc.proofs.apply_section.apply_target.Goals as goal

pub write_checked-requires-clause-may : goal.write_checked-requires-clause-may
write_checked-requires-clause-may g c = record {
  opened = still_open _ _ c.check.ensures.did.costs.reads c.requires.opened;
  within = search rules;
  fits = search rules;
}

pub returns-in_err-checked : goal.returns-in_err-checked
returns-in_err-checked g c =
    let p = err_from_is_err_and c.from_residual.result c.from_residual.ensures.1 in
    record {
      says =
          rw (p.1, p.2) (fault_applies c.args.src.now c.check.new.src c.args.out.now _ _ c.in_err-checked.field-0.0 (checked_most (walk_all c.args.target.now) c.args.target.now.size) c.in_err-checked.ensures.did.costs.says);
      reads = spends_reads _ c.check.ensures.did.costs.reads (checked_below (walk_all c.args.target.now) c.args.target.now.size _ _ c.check.ensures.did.costs.reads.at_most);
      once = λ file held headers is_at never. (
        omega (arith, c.check.ensures.did.costs.reads.at_most),
        rw (p.1, p.2) (fault_wants c.args.src.now c.check.new.src _ _ c.args.out.now c.in_err-checked.field-0.0 (omega arith) c.in_err-checked.ensures.did.costs.says),
      );
      grows = search rules;
      wrote = search rules;
      text = λ file held headers is_at.
          let belongs = c.requires.opened.belongs file held in
          check_failed file headers c.args.target.now c.args.at belongs (section_long c.args.src.now c.args.target.now c.args.at c.requires file held) is_at _ c.args.out.now c.in_err-checked.field-0.0 _ (p.1 ∙ ap Err p.2) (c.in_err-checked.ensures.did.known file held);
    }

pub returns : goal.returns
returns g c = record {
  says = search rules;
  reads =
      spends_then _ c.check.ensures.did.costs.reads c.write_checked.ensures.reads
      (omega (arith, all_sum c.in_ok-checked.checked.rises (walk_all c.args.target.now) c.args.target.now.size _ _ c.check.ensures.did.costs.reads.at_most, c.write_checked.ensures.reads.at_most));
  once = λ file held headers is_at never.
      let told = stores c.args.src.now c.args.target.now c.args.at c.requires file held headers _ is_at (c.in_ok-checked.ensures.did.known file held) in
      let rises = sym told.never_falls ∙ never in
      let twice = twice_sum c.in_ok-checked.checked.rises (walk_all c.args.target.now) c.args.target.now.size _ _ rises c.check.ensures.did.costs.reads.at_most in
      (omega (arith, twice, c.write_checked.ensures.reads.at_most), tt);
  grows = search rules;
  wrote = search rules;
  text = λ file held headers is_at.
      let told = stores c.args.src.now c.args.target.now c.args.at c.requires file held headers _ is_at (c.in_ok-checked.ensures.did.known file held) in (
        patched told.patches (slice file c.args.at c.args.target.now.size),
        told.text,
        c.in_ok-write_checked.ensures.text file (c.check.ensures.did.costs.reads.keeps.same_file ∙ held) told.patches told.are told.inside told.in_order,
        told.long,
        c.in_ok-checked.ensures.counted ∙ entries_are file c.args.target.now (c.requires.opened.belongs file held),
      );
}

pub returns-in_err-write_checked : goal.returns-in_err-write_checked
returns-in_err-write_checked g c =
    let p = err_from_is_err_and c.from_residual-in_err-write_checked.result c.from_residual-in_err-write_checked.ensures.1 in
    record {
      says =
          let all = all_sum c.in_ok-checked.checked.rises (walk_all c.args.target.now) c.args.target.now.size _ _ c.check.ensures.did.costs.reads.at_most in
          rw (p.1, p.2) (says_after c.write_checked.new.src c.write_checked.new.out _ _ c.in_err-write_checked.field-0.0 c.check.ensures.did.costs.reads all c.in_err-write_checked.ensures.says);
      reads =
          spends_then _ c.check.ensures.did.costs.reads c.write_checked.ensures.reads
          (omega (arith, all_sum c.in_ok-checked.checked.rises (walk_all c.args.target.now) c.args.target.now.size _ _ c.check.ensures.did.costs.reads.at_most, c.write_checked.ensures.reads.at_most));
      once = λ file held headers is_at never.
          let told = stores c.args.src.now c.args.target.now c.args.at c.requires file held headers _ is_at (c.in_ok-checked.ensures.did.known file held) in
          let rises = sym told.never_falls ∙ never in
          let twice = twice_sum c.in_ok-checked.checked.rises (walk_all c.args.target.now) c.args.target.now.size _ _ rises c.check.ensures.did.costs.reads.at_most in (
            omega (arith, twice, c.write_checked.ensures.reads.at_most),
            rw (p.1, p.2) (wants_after _ _ c.in_err-write_checked.field-0.0 c.check.ensures.did.costs.reads twice (says_wants c.check.new.src c.write_checked.new.src c.write_checked.new.out _ c.in_err-write_checked.field-0.0 c.in_err-write_checked.ensures.says)),
          );
      grows = search rules;
      wrote = search rules;
      text = λ file held headers is_at.
          let told = stores c.args.src.now c.args.target.now c.args.at c.requires file held headers _ is_at (c.in_ok-checked.ensures.did.known file held) in
          rw (p.1, p.2) (writes_failed (Unit {0}) _ _ c.in_err-write_checked.field-0.0 (patched told.patches (slice file c.args.at c.args.target.now.size)) _ _
          told.text (c.in_err-write_checked.ensures.text file (c.check.ensures.did.costs.reads.keeps.same_file ∙ held) told.patches told.are told.inside told.in_order));
    }
