-- The item of a name that an item may have.
use Rattle.std.proofs.Common.{rules, ◌≡◌, ◌==◌, false, length}
use Rattle.elf_model.specs.ExplainLine.{entry_item_text}
use Rattle.elf_format.proofs.LackText.{help_entry, help_named}
use Rattle.elf_format.proofs.lack_rows.show_help.Goals as goal

pub returns-else-is_empty : goal.returns-else-is_empty
returns-else-is_empty g c =
    let some : (length c.args.name.now == 0) ≡ false = search rules in
    record { puts = rw (c.in-Named.is, help_named c.in-Named.base c.args.name.now c.args.is_cut c.if-is_cut.false some) c.show_items.ensures.puts }

pub returns-else-is_empty-2 : goal.returns-else-is_empty-2
unfolding entry_item_text
returns-else-is_empty-2 g c =
    let some : (length c.args.name.now == 0) ≡ false = search rules in
    record { puts = rw (c.in-Entry.is, help_entry c.args.name.now c.args.is_cut c.if-is_cut-2.false some) c.show_item.ensures.puts }
