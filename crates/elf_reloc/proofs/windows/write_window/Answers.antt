use Rattle.std.proofs.Common.{rules, ap, ◌∙◌, ◌+◌, ◌≤◌, arith, length, Err}
use Rattle.std.proofs.lemmas.Result.{err_from_is_err_and}
use Rattle.elf_source.proofs.GrowthLaws.{grows_not, grows_put}
use Rattle.elf_source.proofs.ReadsLaws.{ReadsUpTo-then, ReadsUpTo-to}
use Rattle.elf_table.proofs.OpenLaws.{still_open}
use Rattle.elf_reloc.specs.Walk.{changes_all}
use Rattle.elf_reloc.proofs.ReadLaws.{not_over}
use Rattle.elf_reloc.proofs.WindowSteps.{front_written, stopping, window_done, folds_ok, pass_failed, takes_as, front_as}
use Rattle.elf_reloc.proofs.windows.write_window.Goals as goal

pub returns-in_err-fill-clause-did : goal.returns-in_err-fill-clause-did
returns-in_err-fill-clause-did g c = record {
  says = search (rules, stopping);
  reads = ReadsUpTo-to c.fill.ensures.reads (omega (arith, c.fill.ensures.reads.at_most));
  grows = grows_not _;
  wrote = search (rules, stopping);
}

pub returns-in_err-patch_window-clause-did : goal.returns-in_err-patch_window-clause-did
returns-in_err-patch_window-clause-did g c =
    let pass = c.patch_window.ensures.costs.reads in
    record {
      says = search (rules, stopping);
      reads = ReadsUpTo-to (ReadsUpTo-then c.fill.ensures.reads pass) (omega (arith, c.fill.ensures.reads.at_most, pass.at_most));
      grows = grows_not _;
      wrote = search (rules, stopping);
    }

pub returns-in_err-put-clause-did : goal.returns-in_err-put-clause-did
returns-in_err-put-clause-did g c =
    let p = err_from_is_err_and c.from_residual-in_err-put.result c.from_residual-in_err-put.ensures.1 in
    let pass = c.patch_window.ensures.costs.reads in
    record {
      says = rw (p.1, p.2) c.in_err-put.ensures.puts.1;
      reads = ReadsUpTo-to (ReadsUpTo-then c.fill.ensures.reads pass) (omega (arith, c.fill.ensures.reads.at_most, pass.at_most));
      grows = grows_put _ _ c.put.ensures.puts;
      wrote = rw p.1 (omega (arith, front_written _ _ _ c.in_err-put.ensures.puts.0));
    }

pub returns-clause-did : goal.returns-clause-did
returns-clause-did g c =
    let pass = c.patch_window.ensures.costs.reads in
    record {
      says = tt;
      reads = ReadsUpTo-to (ReadsUpTo-then c.fill.ensures.reads pass) (omega (arith, c.fill.ensures.reads.at_most, pass.at_most));
      grows = grows_put _ _ c.put.ensures.puts;
      wrote = omega (arith, c.in_ok-put.ensures.puts.0.counts);
    }

pub overflow_add-at : goal.overflow_add-at
overflow_add-at g c = omega (arith, c.requires.part, c.requires.may.fits)

pub returns-clause-text : goal.returns-clause-text
returns-clause-text g c = λ file held patches are inside.
    let belongs = c.requires.may.opened.belongs file held in
    let long : c.args.at + c.args.target.now.size ≤ length file = omega (arith, belongs.size, c.requires.may.opened.size, c.requires.may.within) in
    let done = window_done file c.args.at c.args.target.now.size c.args.low (length c.args.window.now) (length c.fill.new.out) (changes_all file c.args.target.now) patches c.fill.new.out long c.requires.part (c.in_ok-fill.ensures.read file held) c.fill.auto.out are inside in
    let same = folds_ok c.patch_window.new.window _ _ (c.in_ok-patch_window.ensures.known file (c.fill.ensures.reads.keeps.same_file ∙ held)) done in
    takes_as _ _ _ _ same c.in_ok-put.ensures.puts.0

pub returns-in_err-put-clause-text : goal.returns-in_err-put-clause-text
returns-in_err-put-clause-text g c = λ file held patches are inside.
    let p = err_from_is_err_and c.from_residual-in_err-put.result c.from_residual-in_err-put.ensures.1 in
    let belongs = c.requires.may.opened.belongs file held in
    let long : c.args.at + c.args.target.now.size ≤ length file = omega (arith, belongs.size, c.requires.may.opened.size, c.requires.may.within) in
    let done = window_done file c.args.at c.args.target.now.size c.args.low (length c.args.window.now) (length c.fill.new.out) (changes_all file c.args.target.now) patches c.fill.new.out long c.requires.part (c.in_ok-fill.ensures.read file held) c.fill.auto.out are inside in
    let same = folds_ok c.patch_window.new.window _ _ (c.in_ok-patch_window.ensures.known file (c.fill.ensures.reads.keeps.same_file ∙ held)) done in
    rw (p.1, p.2) (front_as _ _ _ _ same c.in_err-put.ensures.puts.0)

pub returns-in_err-patch_window-clause-text : goal.returns-in_err-patch_window-clause-text
returns-in_err-patch_window-clause-text g c = λ file held patches are inside.
    let p = err_from_is_err_and c.from_residual-in_err-patch_window.result c.from_residual-in_err-patch_window.ensures.1 in
    let belongs = c.requires.may.opened.belongs file held in
    let long : c.args.at + c.args.target.now.size ≤ length file = omega (arith, belongs.size, c.requires.may.opened.size, c.requires.may.within) in
    let done = window_done file c.args.at c.args.target.now.size c.args.low (length c.args.window.now) (length c.fill.new.out) (changes_all file c.args.target.now) patches c.fill.new.out long c.requires.part (c.in_ok-fill.ensures.read file held) c.fill.auto.out are inside in
    pass_failed (Unit {0}) c.fill.new.src c.patch_window.new.src c.args.out.now c.in_err-patch_window.field-0.0 _ _ c.patch_window.new.window _ (p.1 ∙ ap Err p.2) done
    (not_over c.fill.new.src c.patch_window.new.src _ c.in_err-patch_window.field-0.0 (c.fill.ensures.reads.same_limit ∙ c.requires.may.free) c.in_err-patch_window.ensures.costs.says)
    (c.in_err-patch_window.ensures.known file (c.fill.ensures.reads.keeps.same_file ∙ held))

pub patch_window-requires : goal.patch_window-requires
patch_window-requires g c = record {
  opened = still_open _ _ c.fill.ensures.reads c.requires.may.opened;
  within = search rules;
  fits = search rules;
}
