-- The loop of a listing over a cursor's rows.
use Rattle.std.proofs.Common.{◌≡◌, ℕ, ◌+◌, ◌*◌, ◌<◌, ◌≤◌, Bool, true, false, List, Option, None, Some, Ok, Err, sym, ap, ◌∙◌, arith}
use Rattle.elf_model.specs.Prelude.{ListingItem, each, slice}
use Rattle.elf_source.specs.Prelude.{CountedState, OutState, ReadsUpTo}
use Rattle.elf_note.specs.Ahead.{ReadsOnCredit}
use Rattle.elf_note.proofs.SpendsLaws.{SpendsAtMost-reads, SpendsAtMost-then, SpendsAtMost-to}
use Rattle.elf_table.specs.Prelude.{CursorState, GivesRow, HoldsRows, IsAt, IsReadFault, ShowsRow, TableRange, next_row, size_of, stop_of, unread_bytes}
use Rattle.elf_table.specs.declared.fault.Fault.{Fault}
use Rattle.elf_table.specs.declared.row.Row.{Row}
use Rattle.elf_table.specs.declared.run_fault.RunFault.{RunFault}
use Rattle.elf_options.specs.Prelude.{style_of}
use Rattle.elf_options.specs.declared.caps.ListingStyle.{ListingStyle as Shape}
use Rattle.elf_listing.specs.Prelude.{AdvancesRows, EndsListed, GivesListed, IsRowOf, RowLayout, SpentCredit, WroteItems, WroteUntilStop, reading, rows_cost, rows_to_give}
use Rattle.elf_listing.specs.declared.row_cursor.RowCursor.{RowCursor}
use Rattle.elf_listing.specs.declared.suffixes.VersionLookup.{VersionLookup}
use Rattle.elf_listing.proofs.EachLaws.{each-none, each-more, each-front}
use Rattle.elf_listing.proofs.ShowLaws.{SpentCredit-fault, StopSays-then, Whole-none, Whole-then, WroteUntilStop-then, WroteUntilStop-more, WroteUntilStop-unread}

-- no row was shown yet
pub rows_none : (row : ℕ → List ListingItem) (i : ℕ) (a : OutState) → i ≡ 0 → WroteItems a a (each row 0 i)
rows_none row i a first = rw (first, each-none row) (Whole-none a)

-- one more row was shown
pub rows_more : (row : ℕ → List ListingItem) (i next : ℕ) {a b c : OutState} → next ≡ i + 1 → WroteItems a b (each row 0 i) → WroteItems b c (row i) → WroteItems a c (each row 0 next)
rows_more row i next step before this = rw (step, each-more row i) (Whole-then before this)

-- a read failed before the next row
pub rows_unread : (row : ℕ → List ListingItem) (i count : ℕ) (a b : OutState) (fault : Fault) (at : ℕ) → i ≤ count → IsAt at fault → WroteItems a b (each row 0 i) → WroteUntilStop a b (stop_of fault) (each row 0 count)
rows_unread row i count a b fault at within is before =
    let more = each-front row i count within in rw more.1 (WroteUntilStop-unread a b fault at (each row 0 i) more.0 is before)

-- a row failed
pub rows_stopped : (row : ℕ → List ListingItem) (i count : ℕ) (a b c : OutState) (stop : RunFault) → i < count → WroteItems a b (each row 0 i) → WroteUntilStop b c stop (row i) → WroteUntilStop a c stop (each row 0 count)
rows_stopped row i count a b c stop below before this =
    let more = each-front row (i + 1) count (omega arith) in
    let shown = rw (← each-more row i) at (WroteUntilStop-then a b c stop (each row 0 i) (row i) before this) in
    rw more.1 (WroteUntilStop-more a c stop (each row 0 (i + 1)) more.0 shown)

-- what a new cursor may read is its table
pub account_begins : (c : CursorState) (table : TableRange) (layout : RowLayout) (versions : Option VersionLookup) (cap : ℕ) → table.entry ≡ layout.size → c.failed ≡ None → c.unread ≡ size_of table → c.left ≡ table.count
    → unread_bytes c + c.left * layout.own_cost versions cap ≡ rows_cost layout versions table cap
account_begins c table layout versions cap entry none unread left = rw (none, unread, left, entry) (omega arith)

-- the account of a loop: what was read, what is unread, and what the remaining rows read stay
-- within a bound
pub account_step : (old new : CursorState) (before after later own bound : ℕ) → new.left + 1 ≡ old.left → after + unread_bytes new ≤ before + unread_bytes old
    → later ≤ after + own → before + (unread_bytes old + old.left * own) ≤ bound → later + (unread_bytes new + new.left * own) ≤ bound
account_step old new before after later own bound less step more within =
    let product = ap (λ (n : ℕ). n * own) less in omega arith

-- what a row may read is left in the bound
pub account_row : (old new : CursorState) (before after own bound : ℕ) → new.left + 1 ≡ old.left → after + unread_bytes new ≤ before + unread_bytes old
    → before + (unread_bytes old + old.left * own) ≤ bound → after + own ≤ bound
account_row old new before after own bound less step within =
    let product = ap (λ (n : ℕ). n * own) less in omega arith

-- with the credit that is left
pub with_credit : (u0 u1 before after credit : ℕ) → after + u1 ≤ before + u0 → after + credit + u1 ≤ before + credit + u0
with_credit u0 u1 before after credit step = omega arith

-- a row failed, and what it might read was left in the bound
pub spent_stopped : (a b c : CountedState) (out : OutState) (x y z : ℕ) (stop : RunFault) (n m k : ℕ) → b.asked + y + m ≤ a.asked + (x + k)
    → ReadsOnCredit a b x y n → SpentCredit {X = Unit {0}} b c out y z (Err stop) m → SpentCredit {X = Unit {0}} a c out x z (Err stop) k
spent_stopped a b c out x y z stop n m k within p q =
    (SpendsAtMost-to (SpendsAtMost-then p q.0) (omega (arith, q.0.account)), StopSays-then a b c out stop (x + n) (y + m) (x + k) (omega arith) p.reads q.1)

-- a read failed before the next row, and what it might read was left in the bound
pub spent_unread : (a b c : CountedState) (out : OutState) (x y : ℕ) (fault : Fault) (n m k : ℕ) → b.asked + y + m ≤ a.asked + (x + k)
    → ReadsOnCredit a b x y n → ReadsUpTo b c m → IsReadFault b c m fault → SpentCredit {X = Unit {0}} a c out x y (Err (stop_of fault)) k
spent_unread a b c out x y fault n m k within p reads says =
    spent_stopped a b c out x y y (stop_of fault) n m k within p (SpentCredit-fault b c out y fault m m (omega arith) reads says)

-- what is bounded together with what is left is bounded
pub at_most : (n m k : ℕ) → n + m ≤ k → n ≤ k
at_most n m k within = omega arith

-- a step read, and then its row failed, which might read this much
pub step_stopped : (a b d c : CountedState) (out : OutState) (x y z : ℕ) (stop : RunFault) (n u m own k : ℕ) → m ≡ own → d.asked + y + own ≤ a.asked + (x + k)
    → ReadsOnCredit a b x y n → ReadsUpTo b d u → SpentCredit {X = Unit {0}} d c out y z (Err stop) m → SpentCredit {X = Unit {0}} a c out x z (Err stop) k
step_stopped a b d c out x y z stop n u m own k same within p reads q =
    spent_stopped a d c out x y z stop (n + u) m k (omega (arith, same)) (SpendsAtMost-then p (SpendsAtMost-reads y reads)) q

-- a step read, and then its row
pub step_more : {a b d c : CountedState} {x y z n u m k : ℕ} → ReadsOnCredit a b x y n → ReadsUpTo b d u → ReadsOnCredit d c y z m → c.asked + z ≤ a.asked + (x + k) → ReadsOnCredit a c x z k
step_more {y = y} p reads q within = SpendsAtMost-to (SpendsAtMost-then p (SpendsAtMost-then (SpendsAtMost-reads y reads) q)) within

-- a step read, and gave no row
pub step_last : {a b d : CountedState} {x y n u k : ℕ} → ReadsOnCredit a b x y n → ReadsUpTo b d u → d.asked + y ≤ a.asked + (x + k) → ReadsOnCredit a d x y k
step_last {y = y} p reads within = SpendsAtMost-to (SpendsAtMost-then p (SpendsAtMost-reads y reads)) within

-- the account of a loop whose rows read nothing: what was read, and what is unread
pub account_kept : (u0 u1 before after credit later bound : ℕ) → after + u1 ≤ before + u0 → later ≤ after + (credit + 0) → before + credit + u0 ≤ bound → later + u1 ≤ bound
account_kept u0 u1 before after credit later bound step more within = omega arith

-- the index of the row that a step gave
pub given_index : {holds : Option (List ℕ)} {old new : CursorState} {row : Row} → GivesRow holds old new → ShowsRow new row → row.index ≡ old.index
given_index gives lends = omega (arith, lends.its_index, gives.next_index)

-- the row that a step gave
pub given_row : {holds : Option (List ℕ)} {old new : CursorState} {row : Row} (file : List ℕ) (layout : RowLayout) (table : TableRange)
    → GivesRow holds old new → ShowsRow new row → holds ≡ Some file → HoldsRows file old → old.table ≡ table → table.entry ≡ layout.size
    → IsRowOf file table.at layout row
given_row {old = old} {new = new} {row = row} file layout table gives lends held agrees same entry =
    let index : row.index ≡ old.index = omega (arith, lends.its_index, gives.next_index) in
    let moved : row.at ≡ next_row old =
    lends.its_offset ∙ ap (λ (t : TableRange). t.at + row.index * t.entry) gives.same_table ∙ ap (λ (i : ℕ). old.table.at + i * old.table.entry) index in
    let whole : old.table.entry ≡ layout.size = ap (λ (t : TableRange). t.entry) same ∙ entry in
    let from_ : old.table.at ≡ table.at = ap (λ (t : TableRange). t.at) same in
    record {
      bytes = lends.its_bytes ∙ (gives.exact file held agrees ∙ (ap (λ (p : ℕ). slice file p old.table.entry) (sym moved) ∙ ap (λ (n : ℕ). slice file row.at n) whole));
      here = moved ∙ (ap (λ (n : ℕ). old.table.at + old.index * n) whole ∙ (ap (λ (p : ℕ). p + old.index * layout.size) from_ ∙ ap (λ (i : ℕ). table.at + i * layout.size) (sym index)));
    }

-- a step that returned that there is a row
pub step_gives : {holds : Option (List ℕ)} {old new : RowCursor} (answer : Bool) → answer ≡ true → AdvancesRows holds old new (Ok answer) → GivesListed holds old new
step_gives answer is steps = rw is at steps

-- or that there is none
pub step_ends : (holds : Option (List ℕ)) {old new : RowCursor} (answer : Bool) → answer ≡ false → AdvancesRows holds old new (Ok answer) → EndsListed old new
step_ends holds answer is steps = rw is at steps

-- a step gave the next row of a table of a file, and those before it were shown
pub record Turn (file : List ℕ) (style : Shape) (layout : RowLayout) (versions : Option VersionLookup) (table : TableRange) (old new : RowCursor) (row : Row) (a b : OutState) : Type 0 where
  pub of_kind : layout.here versions file table.at
  pub is_row : IsRowOf file table.at layout row
  pub index : row.index ≡ (reading old).index
  pub next : (reading new).index ≡ (reading old).index + 1
  pub below : (reading old).index < layout.listed file table
  pub before : WroteItems a b (each (layout.items versions file (style_of style) table.at) 0 (reading old).index)

pub turn : {holds : Option (List ℕ)} (file : List ℕ) (style : Shape) (layout : RowLayout) (versions : Option VersionLookup) (table : TableRange) (old new : RowCursor) (row : Row) (a b : OutState)
    → GivesListed holds old new → ShowsRow (reading new) row → holds ≡ Some file → HoldsRows file (reading old) → (reading old).table ≡ table → table.entry ≡ layout.size
    → (reading old).index + (reading old).left ≡ table.count → (reading old).index + rows_to_give file old ≡ layout.listed file table → (0 < table.count → layout.here versions file table.at)
    → WroteItems a b (each (layout.items versions file (style_of style) table.at) 0 (reading old).index) → Turn file style layout versions table old new row a b
turn file style layout versions table old new row a b step lends held agrees same entry counted listed kind_of before =
    let gives = step.gives in
    let less = step.one_less file held agrees in
    record {
      of_kind = kind_of (omega (arith, counted, gives.one_less));
      is_row = given_row file layout table gives lends held agrees same entry;
      index = given_index gives lends;
      next = gives.next_index;
      below = omega (arith, listed, less);
      before = before;
    }

-- its row was shown
pub turn_more : (file : List ℕ) (style now : Shape) (layout : RowLayout) (versions : Option VersionLookup) (table : TableRange) (old new : RowCursor) (row : Row) (a b c : OutState) → now ≡ style → Turn file style layout versions table old new row a b
    → (layout.here versions file table.at → IsRowOf file table.at layout row → WroteItems b c (layout.items versions file (style_of now) table.at row.index))
    → WroteItems a c (each (layout.items versions file (style_of style) table.at) 0 (reading new).index)
turn_more file style now layout versions table old new row a b c same this shown =
    rows_more (layout.items versions file (style_of style) table.at) (reading old).index _ this.next this.before (rw (this.index, same) at (shown this.of_kind this.is_row))

-- or failed
pub turn_stopped : (file : List ℕ) (style now : Shape) (layout : RowLayout) (versions : Option VersionLookup) (table : TableRange) (old new : RowCursor) (row : Row) (a b c : OutState) (stop : RunFault) → now ≡ style
    → Turn file style layout versions table old new row a b
    → (layout.here versions file table.at → IsRowOf file table.at layout row → WroteUntilStop b c stop (layout.items versions file (style_of now) table.at row.index))
    → WroteUntilStop a c stop (each (layout.items versions file (style_of style) table.at) 0 (layout.listed file table))
turn_stopped file style now layout versions table old new row a b c stop same this shown =
    rows_stopped (layout.items versions file (style_of style) table.at) (reading old).index _ a b c stop this.below this.before (rw (this.index, same) at (shown this.of_kind this.is_row))
