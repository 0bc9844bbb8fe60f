-- Another page is read after those before it.
use Rattle.std.proofs.Common.{ℕ, ◌+◌, ap, subst, ◌∙◌, arith}
use Rattle.elf_model.specs.Bytes.{slice}
use Rattle.elf_source.specs.Source.{ReadsUpTo}
use Rattle.elf_source.proofs.ReadsLaws.{ReadsUpTo-then}
use Rattle.elf_table.proofs.PagesRead.{page-size, page-added}
use borrow.Rule.Slice.PartMut.{same_len_mid}
use Rattle.elf_table.proofs.slot_memory.read_front.Goals as goal

pub loop-done-preserved : goal.loop-done-preserved
loop-done-preserved g c =
    let l = c.loop-done in
    let i = l.invariant in
    let few = c.min-count.ensures in
    let below = c.loop-done-test.true in
    let size = page-size l.done c.min-count.result l.bytes (omega (arith, few, i.within, i.room, below)) in
    let same = c.fill.auto.out in
    record {
      within = omega (arith, few, below);
      room = omega (arith, i.room, same_len_mid l.done _ l.bytes c.fill.new.out same);
      reads = subst (λ (n : ℕ). ReadsUpTo c.args.src.now c.fill.new.src (l.done + n)) size (ReadsUpTo-then i.reads c.fill.ensures.reads);
      read = λ file held.
          let page = c.in_ok-fill.ensures.read file (i.reads.keeps.same_file ∙ held) ∙ ap (slice file (c.args.from + l.done)) size in
          page-added file l.bytes c.fill.new.out c.args.from l.done c.min-count.result _ (omega (arith, i.within, i.room)) (same ∙ size) (i.read file held) page;
    }
