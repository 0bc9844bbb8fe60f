use Rattle.std.proofs.Common.{◌≡◌, ◌*◌, ◌/◌, length, refl, subst, arith}
use Rattle.std.specs.Prelude.{Some}
use Rattle.elf_model.specs.Bytes.{field}
use Rattle.elf_resolve.specs.SectionMarks.{MarksDropped}
use Rattle.elf_resolve.proofs.SectionGroupLaws.{word_there, words_marked-all, words_marked-more}
use Rattle.elf_resolve.proofs.section_groups.mark_words.Goals as goal
use Rattle.elf_resolve.proofs.section_groups.mark_words.Goals.{in-Some, in_default}

pub loop-index-preserved : goal.loop-index-preserved
loop-index-preserved c = (
  omega arith,
  λ count before held.
      let words = c.args.words.now in
      let index = c.loop-index.index in
      let there : c.word_in.result ≡ Some (field words (4 * index) 4) = word_there words index c.word_in.result (omega arith) c.word_in.ensures in
      let kept = c.loop-index.invariant.1 count before held in
      elim c.match-word_in.branch [
        | in-Some w ↦ words_marked-more count _ c.match-word_in.marks words before index w.in-Some.section (omega arith) w.marks-is (cc) (w.drop_section.ensures.drops count _ kept)
        | in_default w ↦ absurd (w.in_default.not-Some _ there)
      ],
)

pub returns : goal.returns
returns c = λ count before held.
    subst (MarksDropped count c.loop-index.marks) (words_marked-all c.args.words.now before c.loop-index.index (length c.args.words.now / 4) refl (omega arith) c.loop-index.invariant.0 (omega arith)) (c.loop-index.invariant.1 count before held)
