-- What reads cost after others, within the sum of all.
use Rattle.std.proofs.Common.{◌≡◌, ℕ, ◌+◌, ◌-◌, ◌*◌, ◌≤◌, List, [], Option, None, refl, sym, ap, ◌∙◌, arith}
use Rattle.elf_source.specs.Source.{CountedState, ReadsUpTo}
use Rattle.elf_source.proofs.ReadsLaws.{ReadsUpTo-to}
use Rattle.elf_table.specs.Prelude.{CallReads, CursorState, GivesRow, TableInBounds, TableRange, next_row, row_at, size_of, unread_bytes}
use Rattle.elf_table.specs.declared.fault.Fault.{Fault}
use Rattle.elf_table.proofs.LedgerLaws.{CallReads-then}
use Rattle.elf_model.specs.Traits.{SymbolTraitFlags}
use Rattle.elf_note.specs.Ahead.{ReadAheadState, IsAheadOf}
use Rattle.elf_loader.specs.Marks.{marks_in}

-- a call after reads that leave a number of bytes of what all may request
pub charges_after : {a b c : CountedState} {stop : Option Fault} {n m : ℕ} (k : ℕ) → ReadsUpTo a b n → b.asked + m ≤ a.asked + k → CallReads b c stop m → CallReads a c stop k
charges_after {a} {b} k reads within costs =
    CallReads-then k (omega (arith, reads.grows, within))
    (record { reads = ReadsUpTo-to {k = b.asked - a.asked} reads (omega (arith, reads.grows)); says = tt })
    costs

-- the sum of a loop over rows: what was requested, the credit, what is unread, and what the rows
-- that are left request
pub account_start : (c : CursorState) (rows : TableRange) → rows.entry ≡ 24 → c.failed ≡ None → c.unread ≡ size_of rows → c.left ≡ rows.count
    → unread_bytes c + c.left * 64 ≡ rows.count * 88
account_start c rows entry none unread left = rw (none, unread, left, entry) (omega arith)

pub account_next : (unread read left rest before between later credit after all : ℕ) → rest + 1 ≡ left → between + read ≤ before + unread
    → later + after ≤ between + (credit + 64) → before + credit + (unread + left * 64) ≤ all → later + after + (read + rest * 64) ≤ all
account_next unread read left rest before between later credit after all less reads spends within =
    let product = ap (λ (n : ℕ). n * 64) less in omega (arith, product, reads, spends, within)

-- nothing is read ahead
pub nothing_ahead : (file : List ℕ) (a : ReadAheadState) → a.names.bytes ≡ [] → a.symbols.bytes ≡ [] → IsAheadOf file a
nothing_ahead file a names symbols = record { names = rw names refl; symbols = rw symbols refl }

-- the rows that are left before the first are all
pub row_place : (file : List ℕ) (c : CursorState) (rows : TableRange) (strings : List ℕ) (marks : SymbolTraitFlags) → c.table ≡ rows → c.index ≡ 0 → c.left ≡ rows.count
    → marks_in file rows.at strings marks rows.count ≡ marks_in file (next_row c) strings marks c.left
row_place file c rows strings marks table index left =
    let place : rows.at ≡ next_row c =
    sym (ap (λ (t : TableRange). row_at t c.index) table ∙ ap (row_at rows) index ∙ first rows.at rows.entry) in
    ap (λ (n : ℕ). marks_in file n strings marks rows.count) place ∙ ap (marks_in file (next_row c) strings marks) (sym left)
  where
    first : (at entry : ℕ) → at + 0 * entry ≡ at
    first at entry = omega arith

-- the next row follows the one that a step yields
pub next_is : (file : Option (List ℕ)) (old new : CursorState) → GivesRow file old new → old.table.entry ≡ 24 → next_row new ≡ next_row old + 24
next_is file old new g e =
    let next = g.next_index in
    let moved : old.table.at + new.index * 24 ≡ old.table.at + old.index * 24 + 24 = omega (arith, next) in
    ap (λ (t : TableRange). t.at + new.index * t.entry) g.same_table ∙ ap (λ (x : ℕ). old.table.at + new.index * x) e ∙ moved
    ∙ ap (λ (x : ℕ). old.table.at + old.index * x + 24) (sym e)

-- the rows except the first lie where all do
pub rows_lie : (table : TableRange) (size count : ℕ) → table.entry ≡ 24 → TableInBounds size table → count ≤ table.count
    → TableInBounds size (record { at = table.at + 24; count = count - 1; entry = 24 })
rows_lie table size count entry within few some =
    let e = ap (λ (n : ℕ). table.count * n) entry in
    let w = within (omega (arith, some, few)) in
    omega (arith, e, w, some, few)
