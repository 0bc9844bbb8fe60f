use Rattle.std.proofs.Common.{◌≡◌, List, ℕ, Some, Option, ap, sym, ◌∙◌, rules}
use Rattle.elf_model.specs.Prelude.{DT_STRSZ, DT_STRTAB, dynamic_value}
use Rattle.elf_record.specs.Dyn.{IsDyn}
use Rattle.elf_table.proofs.LedgerLaws.{CallDid-of}
use Rattle.elf_table.specs.Cursors.{next_row}
use Rattle.elf_note.specs.DynCursors.{entries_left, first_value}
use Rattle.elf_note.proofs.EntriesLeft.{given, ended, value-step, value-end}
use Rattle.elf_note.proofs.EntriesLoop.{goes-fewer, goes-next, goes-place, goes-reads, goes-row, goes-start}
use Rattle.elf_note.proofs.string_values.dynamic_strings.Goals as goal

pub entries-init : goal.entries-init
entries-init g c = record { goes = goes-start _ c.dynamic_rows-cursor.ensures; address = search rules; size = search rules }

pub entries-preserved : goal.entries-preserved
entries-preserved g c =
    let l = c.entries in
    let i = l.invariant in
    let a = c.in_ok-advance.ensures in
    let new = c.advance.new.self in
    let s = given l.src.seen.file l.cursor new c.in_ok-advance.field-0 c.if-branch.true a.steps in
    let is_at : (file : List ℕ) → c.args.src.now.seen.file ≡ Some file → IsDyn file (next_row l.cursor.cursor) c.entry_in-entry.result =
    λ file h. c.entry_in-entry.ensures file (next_row l.cursor.cursor) (c.row.ensures.its_bytes ∙ goes-row i.goes s file h c.requires.rows) in
    record {
      goes = goes-next i.goes s a.asks.reads a.keeps.account;
      address = λ file h.
          ap (λ (x : Option ℕ). first_value x (dynamic_value file (next_row new.cursor) (entries_left file new) DT_STRTAB)) (c.first_of-address.ensures file (next_row l.cursor.cursor) (is_at file h))
          ∙ value-step file l.cursor new DT_STRTAB l.address (goes-fewer i.goes s file h) (goes-place i.goes s file h c.requires.rows) ∙ i.address file h;
      size = λ file h.
          ap (λ (x : Option ℕ). first_value x (dynamic_value file (next_row new.cursor) (entries_left file new) DT_STRSZ)) (c.first_of-size.ensures file (next_row l.cursor.cursor) (is_at file h))
          ∙ value-step file l.cursor new DT_STRSZ l.size (goes-fewer i.goes s file h) (goes-place i.goes s file h c.requires.rows) ∙ i.size file h;
    }

pub returns-clause-did : goal.returns-clause-did
returns-clause-did g c =
    let l = c.entries in
    let i = l.invariant in
    let a = c.in_ok-advance.ensures in
    CallDid-of (goes-reads i.goes a.asks.reads) tt (λ file h.
    let none = (ended l.src.seen.file l.cursor c.advance.new.self c.in_ok-advance.field-0 c.if-branch.false a.steps).none_left file in
    record {
      its_address = sym (value-end file l.cursor DT_STRTAB l.address none) ∙ i.address file h;
      its_size = sym (value-end file l.cursor DT_STRSZ l.size none) ∙ i.size file h;
    })
