use Rattle.std.proofs.Common.{refl, sym, ap, ◌∙◌, ◌+◌, arith, Err}
use Rattle.std.proofs.lemmas.List.{take_all}
use Rattle.std.proofs.lemmas.Result.{err_from_is_err_and}
use Rattle.elf_source.proofs.ReadsLaws.{ReadsUpTo-none, ReadsUpTo-then, ReadsUpTo-to}
use Rattle.elf_model.specs.Bytes.{slice}
use Rattle.elf_reloc.specs.Windows.{NoRefusal}
use Rattle.elf_reloc.proofs.WindowSteps.{window_more, window_stopped, says_behind, short_take, takes_start, takes_as}
use Rattle.elf_reloc.proofs.InOrderSteps.{writes_as}
use Rattle.elf_source.proofs.GrowthLaws.{grows_not, grows_then}
use Rattle.elf_model.proofs.Slices.{slice-size, slice-slice}
use Rattle.elf_reloc.proofs.in_order.copy.Goals as goal

pub pages-init : goal.pages-init
pages-init g c = record {
  within = omega arith;
  reads = ReadsUpTo-none _ _;
  asked = omega arith;
  grows = grows_not _;
  wrote = omega (arith, c.args.out.now.fits);
  text = λ file held long. takes_start _ (slice file c.args.at c.args.size);
}

pub pages-smaller : goal.pages-smaller
pages-smaller g c = omega (arith, c.pages-test.true, c.min-count.ensures)

pub copy_through-requires-clause-few : goal.copy_through-requires-clause-few
copy_through-requires-clause-few g c = omega (arith, short_take c.min-count.result 4096 (omega (arith, c.min-count.ensures)), c.min-count.ensures)

pub copy_through-requires-clause-within : goal.copy_through-requires-clause-within
copy_through-requires-clause-within g c =
    let known = c.pages.invariant in
    let count = c.min-count.ensures in
    let few = short_take c.min-count.result 4096 (omega (arith, count)) in
    omega (arith, few, count, c.pages-test.true, c.requires.within, known.reads.keeps.same_size)

pub returns-in_err-copy_through-clause-did : goal.returns-in_err-copy_through-clause-did
returns-in_err-copy_through-clause-did g c =
    let p = err_from_is_err_and c.from_residual.result c.from_residual.ensures.1 in
    let known = c.pages.invariant in
    let did = c.in_err-copy_through.ensures.did in
    let count = c.min-count.ensures in
    let few = short_take c.min-count.result 4096 (omega (arith, count)) in
    record {
      says = rw (p.1, p.2) (says_behind NoRefusal c.args.src.now c.pages.src c.copy_through.new.src _ c.copy_through.new.out c.in_err-copy_through.field-0.0 known.reads did.says);
      reads = ReadsUpTo-to (ReadsUpTo-then known.reads did.reads) (omega (arith, known.asked, did.reads.at_most, few, c.pages-test.true, count));
      grows = grows_then known.grows did.grows;
      wrote = rw p.1 (omega (arith, known.wrote, did.wrote, few, c.pages-test.true, count));
    }

pub returns-in_err-copy_through-clause-text : goal.returns-in_err-copy_through-clause-text
returns-in_err-copy_through-clause-text g c = λ file held long.
    let p = err_from_is_err_and c.from_residual.result c.from_residual.ensures.1 in
    let known = c.pages.invariant in
    let count = c.min-count.ensures in
    let few = short_take c.min-count.result 4096 (omega (arith, count)) in
    let one = c.in_err-copy_through.ensures.text file (known.reads.keeps.same_file ∙ held) in
    rw (p.1, p.2) (window_stopped (Unit {0}) _ _ _ (slice file c.args.at c.args.size) c.pages.done c.min-count.result c.in_err-copy_through.field-0.0 (known.text file held long)
    (writes_as (Unit {0}) c.pages.out c.copy_through.new.out (Err c.in_err-copy_through.field-0.0) _ _ (ap (slice file (c.args.at + c.pages.done)) few ∙ sym (slice-slice file c.args.at c.args.size c.pages.done c.min-count.result (omega (arith, c.pages-test.true, count)))) one))

pub pages-preserved : goal.pages-preserved
pages-preserved g c =
    let known = c.pages.invariant in
    let did = c.in_ok-copy_through.ensures.did in
    let count = c.min-count.ensures in
    let few = short_take c.min-count.result 4096 (omega (arith, count)) in
    record {
      within = omega (arith, c.pages-test.true, count);
      reads = ReadsUpTo-to (ReadsUpTo-then known.reads did.reads) (omega (arith, known.asked, did.reads.at_most, few, c.pages-test.true, count));
      asked = omega (arith, known.asked, did.reads.at_most, few);
      grows = grows_then known.grows did.grows;
      wrote = omega (arith, known.wrote, did.wrote, few);
      text = λ file held long.
          window_more _ _ _ (slice file c.args.at c.args.size) c.pages.done c.min-count.result _ refl (known.text file held long)
          (takes_as _ _ _ _ (ap (slice file (c.args.at + c.pages.done)) few ∙ sym (slice-slice file c.args.at c.args.size c.pages.done c.min-count.result (omega (arith, c.pages-test.true, count))))
          (c.in_ok-copy_through.ensures.text file (known.reads.keeps.same_file ∙ held)));
    }

pub returns-clause-did : goal.returns-clause-did
returns-clause-did g c =
    let known = c.pages.invariant in
    record { says = tt; reads = known.reads; grows = known.grows; wrote = omega (arith, known.wrote, known.within, c.pages-test.false) }

pub returns-clause-text : goal.returns-clause-text
returns-clause-text g c = λ file held long.
    takes_as _ _ _ _ (take_all c.pages.done (slice file c.args.at c.args.size) (omega (arith, slice-size file c.args.at c.args.size long, c.pages-test.false)))
    (c.pages.invariant.text file held long)
