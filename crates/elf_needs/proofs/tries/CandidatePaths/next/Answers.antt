use Rattle.std.proofs.Common.{◌∙◌, ap, arith}
use Rattle.elf_needs.specs.Prelude.{entry_paths, left_entries, origin_of}
use Rattle.elf_needs.proofs.PathLaws.{nothing_left, passed_over, taken}
use Rattle.elf_needs.proofs.tries.CandidatePaths.next.Goals as goal

pub returns-then-put_entry-clause-next : goal.returns-then-put_entry-clause-next
returns-then-put_entry-clause-next c = λ _.
    let self = c.loop-self.self-inside in
    let entry = c.first_entry-entry.result in
    taken self.root.now self.name.now (origin_of self.origin) entry.text.now c.put_entry.new.path.items (left_entries self.separator entry.after) (left_entries self.separator self.left) c.args.self.now c.loop-self.invariant.paths
    (ap (left_entries self.separator) c.in-Some.is ∙ c.first_entry-entry.ensures.parted) c.if-put_entry.ensures

pub loop-self-preserved : goal.loop-self-preserved
loop-self-preserved c =
    let self = c.loop-self.self-inside in
    let entry = c.first_entry-entry.result in
    record {
      paths = passed_over self.root.now self.name.now (origin_of self.origin) entry.text.now c.put_entry.new.path.items (left_entries self.separator entry.after) (left_entries self.separator self.left) c.args.self.now c.loop-self.invariant.paths
          (ap (left_entries self.separator) c.in-Some.is ∙ c.first_entry-entry.ensures.parted) c.if-put_entry.ensures;
      few = omega (arith, c.loop-self.invariant.few, c.take.ensures.few);
    }

pub returns-clause-none : goal.returns-clause-none
returns-clause-none c = λ _ _.
    let self = c.loop-self.self-inside in
    c.loop-self.invariant.paths
    ∙ (ap (λ left. entry_paths self.root.now self.name.now (origin_of self.origin) (left_entries self.separator left)) c.in_default.is ∙ nothing_left self.root.now self.name.now (origin_of self.origin))
