-- One more entry is added, and no other after the last.
use Rattle.std.proofs.Common.{◌≡◌, ℕ, List, Some, ap, ◌∙◌, arith, rules}
use Rattle.elf_record.specs.Dyn.{IsDyn}
use Rattle.elf_table.proofs.LedgerLaws.{CallDid-of}
use Rattle.elf_table.specs.Prelude.{TableRange, next_row, row_at}
use Rattle.elf_note.proofs.EntriesLeft.{given, ended}
use Rattle.elf_note.proofs.EntriesLoop.{goes-fewer, goes-next, goes-place, goes-reads, goes-row, goes-start}
use Rattle.elf_hash.proofs.EntryLaws.{each_end, each_step, takes_at}
use Rattle.elf_hash.proofs.dynamic_tags.first_entries.Goals as goal

pub entries-init : goal.entries-init
entries-init g c = record { goes = goes-start _ c.dynamic_rows-cursor.ensures; found = search rules }

pub entries-preserved : goal.entries-preserved
entries-preserved g c =
    let l = c.entries in
    let i = l.invariant in
    let a = c.in_ok-advance.ensures in
    let s = given l.src.seen.file l.cursor c.advance.new.self c.in_ok-advance.field-0 c.if-branch.true a.steps in
    let at : ℕ = next_row l.cursor.cursor in
    let row = c.row-row.ensures in
    let index : c.row-row.result.index ≡ l.cursor.cursor.index = let x = row.its_index in let y = s.gives.next_index in omega arith in
    let offset : c.row-row.result.at ≡ at = row.its_offset ∙ (ap (λ (t : TableRange). row_at t c.row-row.result.index) s.gives.same_table ∙ ap (row_at l.cursor.cursor.table) index) in
    let is_at : (file : List ℕ) → c.args.src.now.seen.file ≡ Some file → IsDyn file at c.entry_in.result =
    λ file h. c.entry_in.ensures file at (row.its_bytes ∙ goes-row i.goes s file h c.requires.rows) in
    record {
      goes = goes-next i.goes s a.asks.reads a.keeps.account;
      found = λ file h.
          each_step file c.args.table at _ _ _ l.found _ (goes-fewer i.goes s file h) (goes-place i.goes s file h c.requires.rows)
          (takes_at file at c.row-row.result.at c.entry_in.result l.found _ offset (c.with_entry-found.ensures file) (is_at file h)) (i.found file h);
    }

pub returns-clause-did : goal.returns-clause-did
returns-clause-did g c =
    let l = c.entries in
    let i = l.invariant in
    let a = c.in_ok-advance.ensures in
    CallDid-of (goes-reads i.goes a.asks.reads) tt (λ file h.
    let none = (ended l.src.seen.file l.cursor c.advance.new.self c.in_ok-advance.field-0 c.if-branch.false a.steps).none_left file in
    each_end file c.args.table _ _ l.found none (i.found file h))
