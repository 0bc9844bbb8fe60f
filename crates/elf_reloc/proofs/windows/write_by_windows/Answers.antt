use Rattle.std.proofs.Common.{rules, refl, sym, ap, ◌∙◌, ◌+◌, ◌-◌, arith, ◌≡◌}
use Rattle.std.proofs.lemmas.Result.{err_from_is_err_and}
use Rattle.elf_source.proofs.ReadsLaws.{ReadsUpTo-none, ReadsUpTo-then, ReadsUpTo-to}
use Rattle.elf_table.proofs.OpenLaws.{still_open}
use Rattle.elf_model.specs.Prelude.{patched, slice}
use Rattle.elf_reloc.specs.Walk.{walk_all}
use Rattle.elf_reloc.proofs.WindowSteps.{window_more, window_stopped, windows_end, windows_account, takes_start, short_take, stopping}
use Rattle.elf_source.proofs.GrowthLaws.{grows_not, grows_then}
use Rattle.elf_model.proofs.Slices.{slice-size}
use Rattle.elf_reloc.proofs.windows.write_by_windows.Goals as goal

pub windows-init : goal.windows-init
windows-init g c = record {
  sized = refl;
  within = omega arith;
  reads = ReadsUpTo-none _ _;
  asked =
      let whole : c.args.target.now.size - 0 ≡ c.args.target.now.size = omega arith in
      rw whole (omega arith);
  grows = grows_not _;
  wrote = omega (arith, c.args.out.now.fits);
  text = λ file held patches are inside. takes_start _ (patched patches (slice file c.args.at c.args.target.now.size));
}

pub returns-in_err-write_window-clause-did : goal.returns-in_err-write_window-clause-did
returns-in_err-write_window-clause-did g c =
    let known = c.windows.invariant in
    let did = c.in_err-write_window.ensures.did in
    let count = c.min-count.ensures in
    let few = short_take c.min-count.result 64 (omega (arith, count)) in
    let asked = windows_account c.args.target.now.size c.windows.done c.min-count.result _ (walk_all c.args.target.now) c.windows.src.asked c.write_window.new.src.asked 0 _ c.windows-test.true count refl
    (omega (arith, did.reads.at_most, few)) known.asked in
    record {
      says = search (rules, stopping);
      reads = ReadsUpTo-to (ReadsUpTo-then known.reads did.reads) (omega (arith, asked));
      grows = grows_then known.grows did.grows;
      wrote = search (rules, stopping);
    }

pub returns-in_err-write_window-clause-text : goal.returns-in_err-write_window-clause-text
returns-in_err-write_window-clause-text g c = λ file held patches are inside.
    let known = c.windows.invariant in
    let p = err_from_is_err_and c.from_residual.result c.from_residual.ensures.1 in
    rw (p.1, p.2) (window_stopped (Unit {0}) _ _ _ (patched patches (slice file c.args.at c.args.target.now.size)) c.windows.done _ c.in_err-write_window.field-0.0 (known.text file held patches are inside)
    (c.in_err-write_window.ensures.text file (known.reads.keeps.same_file ∙ held) patches are inside))

pub windows-preserved : goal.windows-preserved
windows-preserved g c =
    let known = c.windows.invariant in
    let count = c.min-count.ensures in
    let few = short_take c.min-count.result 64 (omega (arith, count)) in
    let did = c.in_ok-write_window.ensures.did in
    let asked = windows_account c.args.target.now.size c.windows.done c.min-count.result _ (walk_all c.args.target.now) c.windows.src.asked _ 0 _ c.windows-test.true count refl
    (omega (arith, did.reads.at_most, few)) known.asked in
    record {
      sized = known.sized;
      within = omega (arith, c.windows-test.true, count);
      reads = ReadsUpTo-to (ReadsUpTo-then known.reads did.reads) (omega (arith, asked));
      asked = asked;
      grows = grows_then known.grows did.grows;
      wrote = omega (arith, known.wrote, did.wrote, few);
      text = λ file held patches are inside.
          window_more _ _ _ (patched patches (slice file c.args.at c.args.target.now.size)) c.windows.done _ _ (ap (λ n. c.windows.done + n) (sym few)) (known.text file held patches are inside)
          (c.in_ok-write_window.ensures.text file (known.reads.keeps.same_file ∙ held) patches are inside);
    }

pub write_window-requires-clause-may : goal.write_window-requires-clause-may
write_window-requires-clause-may g c = record {
  free = search rules;
  opened = still_open _ _ c.windows.invariant.reads c.requires.opened;
  within = search rules;
  fits = search rules;
}

pub returns-clause-did : goal.returns-clause-did
returns-clause-did g c =
    let known = c.windows.invariant in
    record { says = tt; reads = known.reads; grows = known.grows; wrote = omega (arith, known.wrote, known.within, c.windows-test.false) }

pub returns-clause-text : goal.returns-clause-text
returns-clause-text g c = λ file held patches are inside.
    let known = c.windows.invariant in
    windows_end _ _ patches (slice file c.args.at c.args.target.now.size) c.windows.done c.args.target.now.size (slice-size file c.args.at c.args.target.now.size (let belongs = c.requires.opened.belongs file held in omega (arith, belongs.size, c.requires.opened.size, c.requires.within))) inside
    (omega (arith, c.windows-test.false)) (known.text file held patches are inside)
