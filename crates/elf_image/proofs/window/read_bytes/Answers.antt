use Rattle.std.proofs.Common.{◌≡◌, ◌∙◌, ◌+◌, ◌-◌, ◌≤◌, List, ℕ, length, take, drop, ap, arith, length-drop, length-take}
use Rattle.std.proofs.lemmas.Result.{err_from_is_err_and}
use borrow.Rule.Slice.PartMut.{put_mid, same_len_mid}
use Rattle.elf_model.specs.Bytes.{slice}
use Rattle.elf_table.proofs.FaultLaws.{of-read}
use Rattle.elf_table.proofs.LedgerLaws.{CallReads-then}
use Rattle.elf_image.proofs.SegmentPartSteps.{piece-read}
use Rattle.elf_image.proofs.window.read_bytes.Goals as goal

pub loop-done-preserved : goal.loop-done-preserved
loop-done-preserved g c =
    let known = c.loop-done.invariant in
    let bytes : List ℕ = c.loop-done.bytes in
    let done : ℕ = c.loop-done.done in
    let count : ℕ = c.min-count.result in
    let few : count ≤ length bytes - done = omega (arith, c.min-count.ensures) in
    let whole : done + count - done ≡ count = omega arith in
    let part : length (take (done + count - done) (drop done bytes)) ≡ count = length-take (done + count - done) (drop done bytes) ∙ omega (arith, length-drop done bytes, few) in
    let long : length c.fill.new.out ≡ count = c.fill.auto.out ∙ part in
    let same : length (put_mid done (done + count - done) bytes c.fill.new.out) ≡ length bytes = same_len_mid done (done + count - done) bytes c.fill.new.out c.fill.auto.out in
    record {
      within = omega (arith, same, few, known.within);
      long = same ∙ known.long;
      costs = CallReads-then (done + count) (omega (arith, part)) known.costs (record { reads = c.fill.ensures.reads; says = tt });
      read = λ file held small.
          let here : c.saturating_add.result ≡ c.args.at + done = omega (arith, c.saturating_add.ensures, c.requires, small, few, known.long) in
          piece-read file bytes c.fill.new.out c.args.at done count (done + count - done) known.within (known.read file held small) long
          (c.in_ok-fill.ensures.read file (known.costs.reads.keeps.same_file ∙ held) ∙ (ap (λ a. slice file a (length (take (done + count - done) (drop done bytes)))) here ∙ ap (slice file (c.args.at + done)) part));
    }

pub returns-in_err-fill-clause-fault : goal.returns-in_err-fill-clause-fault
returns-in_err-fill-clause-fault g c =
    let p = err_from_is_err_and c.from_residual.result c.from_residual.ensures.1 in
    rw (p.1, p.2) (of-read _ _ c.in_err-fill.ensures.at)
