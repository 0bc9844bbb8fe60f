use Rattle.std.proofs.Common.{◌∙◌, ◌*◌, ap, sym, subst, refl}
use Rattle.elf_table.specs.Prelude.{TableRange}
use Rattle.elf_image.specs.EntryOrder.{IsPartTable}
use Rattle.elf_image.proofs.entries.OrderedEntries.begin_part.Goals as goal

pub new-rows-requires : goal.new-rows-requires
new-rows-requires c = (c.part_of-part.ensures.within c.requires.within.0 c.requires.within.1).wide

pub returns-clause-alive : goal.returns-clause-alive
returns-clause-alive c = λ size w. c.new-rows.ensures.alive size (c.part_of-part.ensures.within size w)

pub returns-clause-begins : goal.returns-clause-begins
returns-clause-begins c =
    let old = c.args.self.now in
    record {
      ranges = refl;
      begun = refl;
      noted = refl;
      wanted = refl;
      chunks = refl;
      kind = c.part_of-part.ensures.kind;
      table = subst (IsPartTable old.ranges old.indirect c.part_of-part.result) (sym c.new-rows.ensures.table) c.part_of-part.ensures.table;
      index = c.new-rows.ensures.index;
      unread = c.new-rows.ensures.unread ∙ ap (λ (t : TableRange). 24 * t.count) (sym c.new-rows.ensures.table);
      held = c.new-rows.ensures.held;
    }
