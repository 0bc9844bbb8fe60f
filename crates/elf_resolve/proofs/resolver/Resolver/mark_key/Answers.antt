use Rattle.std.proofs.Common.{refl, sym, ◌∙◌}
use Rattle.elf_resolve.specs.KeyFinds.{state_found}
use Rattle.elf_resolve.proofs.KeyMarkLaws.{key_marked, unmarked_foreign, unmarked_right}
use Rattle.elf_resolve.proofs.MarkedRowLaws.{same_but_marks}
use Rattle.elf_resolve.proofs.resolver.Resolver.mark_key.Goals as goal

pub returns-then-not-entry : goal.returns-then-not-entry
returns-then-not-entry c = record {
  same = refl;
  marks = λ listed.
      let link = c.args.self.now in
      unmarked_foreign link c.args.key c.settled-entry.result (state_found link c.args.key c.settled-entry.result) listed (c.settled-entry.ensures (listed.own c.args.key)) refl c.if-not-entry.true;
}

pub returns-then-not-fails : goal.returns-then-not-fails
returns-then-not-fails c = record {
  same = refl;
  marks = λ listed.
      unmarked_right c.args.self.now c.args.key c.settled-entry.result c.state_of-state.result listed (c.settled-entry.ensures (listed.own c.args.key)) c.state_of-state.ensures (sym c.is_fault-fails.ensures ∙ c.if-not-fails.true);
}

pub returns : goal.returns
returns c =
    let two = same_but_marks c.args.self.now c.mark.new.self c.mark-2.new.self c.mark.ensures.same c.mark-2.ensures.same in
    record {
      same = same_but_marks c.args.self.now c.mark-2.new.self c.mark_after.new.self two c.mark_after.ensures.same;
      marks = λ listed.
          key_marked c.args.self.now c.args.key c.settled-entry.result c.state_of-state.result listed (c.settled-entry.ensures (listed.own c.args.key)) c.state_of-state.ensures
          c.mark.new.self c.mark-2.new.self c.mark_after.new.self c.definer.result c.referrer.result c.definer.ensures c.referrer.ensures c.if-not-entry.false (sym c.is_fault-fails.ensures ∙ c.if-not-fails.false)
          c.mark.ensures.same c.mark-2.ensures.same c.mark.ensures.marks c.mark-2.ensures.marks c.mark_after.ensures.marks;
    }
