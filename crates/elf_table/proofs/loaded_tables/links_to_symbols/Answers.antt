-- The section that is linked to holds symbols, by the headers in the store.
use Rattle.std.proofs.Common.{sym, ◌∙◌, arith}
use borrow.Author.Tests.{ltb-true}
use Rattle.elf_table.specs.Store.{row}
use Rattle.elf_table.proofs.VersionLaws.{both-true, links_there}
use Rattle.elf_table.proofs.loaded_tables.links_to_symbols.Goals as goal
use Rattle.elf_table.proofs.loaded_tables.links_to_symbols.Goals.{then-link-ne0, else-link-ne0}

pub returns-then-link-from-clause-linked : goal.returns-then-link-from-clause-linked
returns-then-link-from-clause-linked g c = λ holds.
    elim c.if-link-ne0.branch [
      | then-link-ne0 w ↦
          let link = c.section_header-link.ensures.fields.sh_link in
          let low = ltb-true c.section_header-link.result.sh_link w.from.result (sym w.value-is ∙ c.if-link-from.true) in
          record {
            below = omega arith;
            small = omega arith;
            linked = both-true _ _ (links_there (row (g.R.HeaderRows.state c.args.rows.now)) _ _ _ link (omega arith) (omega arith)) (rw (← link) (sym (c.holds_symbols.ensures _ 0 c.section_header.ensures.fields) ∙ holds));
          }
      | else-link-ne0 w ↦ let other = rw w.if-link-ne0.false at (sym w.value-is ∙ c.if-link-from.true) in cc
    ]
