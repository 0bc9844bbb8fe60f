use Rattle.std.proofs.Common.{◌≡◌, ◌<◌, ◌+◌, ◌*◌, refl, sym, ap, ◌∙◌, arith}
use Rattle.std.proofs.lemmas.Result.{err_from_is_err_and}
use Rattle.elf_model.specs.Records.{section_at}
use Rattle.elf_table.specs.Tables.{TableRange}
use Rattle.elf_reloc.specs.Prelude.{section_count_of, target_as}
use Rattle.elf_reloc.proofs.WalkSteps.{rows-few, entries-end, entries-next, entries-other, entries-table, steps-passed, cost-passed, left-end, left-passed, section_none, cost-opened, opened-fault, opened-rows}
use Rattle.elf_reloc.proofs.walk.RelocationWalk.open.Goals as goal

pub overflow_add-self-2 : goal.overflow_add-self-2
overflow_add-self-2 c = omega arith

pub returns-then-section-sections-clause-went : goal.returns-then-section-sections-clause-went
returns-then-section-sections-clause-went c = record {
  goes = c.requires.goes;
  counts = refl;
  gives = entries-end c.args.target.now c.args.self.now.next (omega (arith, c.if-section-sections.true, c.sections.ensures));
}

pub returns-then-section-sections-clause-walked : goal.returns-then-section-sections-clause-walked
returns-then-section-sections-clause-walked c = λ file belongs reads.
    left-end file c.args.target.now c.args.self.now c.requires.none (omega (arith, c.if-section-sections.true, c.sections.ensures))

pub returns-then-not-applies_to-clause-went : goal.returns-then-not-applies_to-clause-went
returns-then-not-applies_to-clause-went c =
    let below : c.args.self.now.next < section_count_of c.args.target.now = omega (arith, c.if-section-sections.false, c.sections.ensures) in
    record {
      goes = record {
        not_failed = c.requires.goes.not_failed;
        entry = c.requires.goes.entry;
        within = c.requires.goes.within;
        linked = c.requires.goes.linked;
        next = omega (arith, below);
        few = omega (arith, c.requires.goes.few);
      };
      counts = omega (
        arith,
        entries-next c.args.target.now c.args.self.now.next below,
        entries-other c.args.target.now c.args.self.now.next (sym (c.applies_to.ensures _ 0 c.section-header.ensures.fields) ∙ c.if-not-applies_to.true),
      );
      gives = steps-passed c.args.target.now c.args.self.now _ refl below (omega (arith, c.requires.none));
    }

pub returns-then-not-applies_to-clause-left : goal.returns-then-not-applies_to-clause-left
returns-then-not-applies_to-clause-left c = cost-passed c.args.target.now c.args.self.now _ refl refl (omega (arith, c.if-section-sections.false, c.sections.ensures))

pub returns-then-not-applies_to-clause-walked : goal.returns-then-not-applies_to-clause-walked
returns-then-not-applies_to-clause-walked c = λ file belongs reads.
    let is_at = c.section-header.ensures.is_at file belongs in (
      left-passed file c.args.target.now c.args.self.now _ c.requires.none c.requires.none refl (omega (arith, c.if-section-sections.false, c.sections.ensures))
          (section_none (target_as file c.args.target.now) (section_at file c.args.self.now.next) (sym (c.applies_to.ensures file (section_at file c.args.self.now.next) is_at) ∙ c.if-not-applies_to.true)),
      record { agrees = reads.agrees; links = reads.links; placed = reads.placed },
    )

pub returns-clause-went : goal.returns-clause-went
returns-clause-went c =
    let below : c.args.self.now.next < section_count_of c.args.target.now = omega (arith, c.if-section-sections.false, c.sections.ensures) in
    record {
      goes = record {
        not_failed = c.new-self.ensures.failed;
        entry = ap (λ (t : TableRange). t.entry) c.new-self.ensures.table ∙ c.in_ok-found.ensures.entry;
        within = rw c.new-self.ensures.table c.in_ok-found.ensures.within;
        linked = c.in_ok-found.ensures.linked;
        next = omega (arith, below);
        few = omega arith;
      };
      counts = omega (
        arith,
        entries-next c.args.target.now c.args.self.now.next below,
        entries-table c.args.target.now c.args.self.now.next c.in_ok-found.found.0 (sym (c.applies_to.ensures _ 0 c.section-header.ensures.fields) ∙ c.if-not-applies_to.false) c.in_ok-found.ensures.table,
        c.len.ensures,
        c.from.ensures,
      );
      gives = steps-passed c.args.target.now c.args.self.now _ refl below
          (omega (arith, c.new-self.ensures.left, rows-few c.args.target.now.file.loaded.size c.in_ok-found.found.0 c.in_ok-found.ensures.entry c.in_ok-found.ensures.within));
    }

pub returns-clause-left : goal.returns-clause-left
returns-clause-left c =
    let n = c.new-self.ensures in
    let size : c.in_ok-found.found.0.count * c.in_ok-found.found.0.entry ≡ c.in_ok-found.found.0.count * 24 = ap (λ k. c.in_ok-found.found.0.count * k) c.in_ok-found.ensures.entry in
    let left : c.new-self.result.left * 24 ≡ c.in_ok-found.found.0.count * 24 = ap (λ k. k * 24) n.left in
    cost-opened c.args.target.now c.args.self.now _ n.failed (n.unread ∙ (size ∙ sym left)) refl (omega (arith, c.if-section-sections.false, c.sections.ensures))
    (n.left ∙ entries-table c.args.target.now c.args.self.now.next c.in_ok-found.found.0 (sym (c.applies_to.ensures _ 0 c.section-header.ensures.fields) ∙ c.if-not-applies_to.false) c.in_ok-found.ensures.table)

pub returns-clause-walked : goal.returns-clause-walked
returns-clause-walked c = λ file belongs reads.
    let is_at = c.section-header.ensures.is_at file belongs in
    opened-rows file c.args.target.now c.args.self.now _ c.in_ok-found.found.0 c.new-self.ensures.table c.new-self.ensures.index c.new-self.ensures.left c.new-self.ensures.held refl refl
    c.requires.none (omega (arith, c.if-section-sections.false, c.sections.ensures)) (sym (c.applies_to.ensures file (section_at file c.args.self.now.next) is_at) ∙ c.if-not-applies_to.false)
    (c.in_ok-found.ensures.held file belongs) refl

pub returns-in_err-found-clause-left : goal.returns-in_err-found-clause-left
returns-in_err-found-clause-left c = cost-passed c.args.target.now c.args.self.now _ refl refl (omega (arith, c.if-section-sections.false, c.sections.ensures))

pub returns-in_err-found-clause-walked : goal.returns-in_err-found-clause-walked
returns-in_err-found-clause-walked c = λ file belongs reads.
    let p = err_from_is_err_and c.from_residual.result c.from_residual.ensures.1 in
    let is_at = c.section-header.ensures.is_at file belongs in
    rw (p.1, p.2)
    (opened-fault file c.args.target.now c.args.self.now (record { cursor = c.args.self.now.cursor; symbols = c.args.self.now.symbols; current = c.args.self.now.current; next = c.args.self.now.next + 1; count = c.args.self.now.count }) _ c.requires.none (omega (arith, c.if-section-sections.false, c.sections.ensures))
    (sym (c.applies_to.ensures file (section_at file c.args.self.now.next) is_at) ∙ c.if-not-applies_to.false) (c.in_err-found.ensures.held file belongs))
