-- One more entry is added, and no other after the last.
use Rattle.std.proofs.Common.{◌≡◌, ℕ, List, Some, ◌∙◌, rules}
use Rattle.elf_record.specs.Dyn.{IsDyn}
use Rattle.elf_table.specs.Cursors.{next_row}
use Rattle.elf_note.proofs.EntriesLeft.{given, ended}
use Rattle.elf_note.proofs.EntriesLoop.{goes-fewer, goes-next, goes-place, goes-reads, goes-row, goes-start}
use Rattle.elf_loader.proofs.ValueLaws.{values_end, values_step}
use Rattle.elf_loader.proofs.trait_tags.listed_values.Goals as goal

pub entries-init : goal.entries-init
entries-init g c = record { goes = goes-start _ c.dynamic_rows-cursor.ensures; found = search rules }

pub entries-preserved : goal.entries-preserved
entries-preserved g c =
    let l = c.entries in
    let i = l.invariant in
    let a = c.in_ok-advance.ensures in
    let new = c.advance.new.self in
    let s = given l.src.seen.file l.cursor new c.in_ok-advance.field-0 c.if-branch.true a.steps in
    let at : ℕ = next_row l.cursor.cursor in
    let is_at : (file : List ℕ) → c.args.src.now.seen.file ≡ Some file → IsDyn file at c.entry_in-entry.result =
    λ file h. c.entry_in-entry.ensures file at (c.row.ensures.its_bytes ∙ goes-row i.goes s file h c.requires.rows) in
    record {
      goes = goes-next i.goes s a.asks.reads a.keeps.account;
      found = λ file h.
          values_step file c.args.table l.cursor new l.found _ (goes-fewer i.goes s file h) (goes-place i.goes s file h c.requires.rows)
          (c.with_entry-found.ensures file at (is_at file h)) (i.found file h);
    }

pub returns-clause-reads : goal.returns-clause-reads
returns-clause-reads g c = goes-reads c.entries.invariant.goes c.in_ok-advance.ensures.asks.reads

pub returns-clause-found : goal.returns-clause-found
returns-clause-found g c = λ file h.
    let l = c.entries in
    let i = l.invariant in
    let none = (ended l.src.seen.file l.cursor c.advance.new.self c.in_ok-advance.field-0 c.if-branch.false c.in_ok-advance.ensures.steps).none_left file in
    values_end file c.args.table l.cursor l.found none (i.found file h)
