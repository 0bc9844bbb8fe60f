-- The rows come before the refusal of a symbol without an entry.
use Rattle.std.proofs.Common.{◌≡◌, ◌+◌, ◌*◌, nat_lt, true, false, ap, append-nil}
use Rattle.std.proofs.lemmas.Bool.{le-ltb, lt-ltb}
use Rattle.std.proofs.lemmas.Result.{err_from_is_err_and}
use Rattle.elf_model.specs.Prelude.{VERSYM_SIZE, name_bytes}
use Rattle.elf_note.proofs.SpendsLaws.{SpendsAtMost-to}
use Rattle.elf_table.specs.Tables.{TableRange}
use Rattle.elf_listing.proofs.Amounts.{all_as, asked_as, fewer_as, least_as}
use Rattle.elf_listing.specs.SymbolVersions.{versioned_items}
use Rattle.elf_listing.proofs.ListsLaws.{ListingCalls-within}
use Rattle.elf_listing.proofs.ShowLaws.{WroteUntilStop-more}
use Rattle.elf_listing.proofs.VersionedShown.{Ends-after}
use Rattle.elf_listing.proofs.listing.Listing.versioned.Goals as goal

pub returns-in_err-list_rows : goal.returns-in_err-list_rows
unfolding versioned_items
returns-in_err-list_rows g c =
    let p = err_from_is_err_and c.from_residual.result c.from_residual.ensures.1 in
    let shape = c.first_entries-rows.ensures in
    let cost = ap (λ (t : TableRange). t.count * (VERSYM_SIZE + name_bytes c.args.self.now.style.cap.bytes)) shape in
    rw (p.1, p.2)
    (ListingCalls-within _ _ _ _ _ _ _ (all_as cost) c.in_err-list_rows.ensures (λ file held. WroteUntilStop-more _ _ _ _ _ (rw shape at (c.in_err-list_rows.ensures.shows file held (λ some. tt)))))

pub returns-then-len-symbols : goal.returns-then-len-symbols
unfolding versioned_items
returns-then-len-symbols g c =
    let shape = c.first_entries-rows.ensures in
    let done = c.in_ok-list_rows.ensures in
    let fewer : nat_lt c.args.table.count c.args.symbols ≡ true = lt-ltb _ _ (fewer_as c.if-len-symbols.true c.len.ensures) in
    let cost = ap (λ (t : TableRange). t.count * (VERSYM_SIZE + name_bytes c.args.self.now.style.cap.bytes)) shape in
    let account = done.spent.0.account in
    record {
      grows = done.grows;
      keeps = record { same_src = done.keeps.same_src; same_out = done.keeps.same_out; same_file = done.keeps.same_file; same_style = done.keeps.same_style };
      spent = (SpendsAtMost-to done.spent.0 (asked_as _ _ account cost), λ budget. cc);
      shows = λ file held. rw (fewer, c.place-at.ensures.value) (Ends-after _ _ _ _ (rw shape at (done.shows file held (λ some. tt))));
    }

pub returns : goal.returns
unfolding versioned_items
returns g c =
    let shape = c.first_entries-rows.ensures in
    let done = c.in_ok-list_rows.ensures in
    let whole : nat_lt c.args.table.count c.args.symbols ≡ false = le-ltb _ _ (least_as c.if-len-symbols.false c.len.ensures) in
    let cost = ap (λ (t : TableRange). t.count * (VERSYM_SIZE + name_bytes c.args.self.now.style.cap.bytes)) shape in
    let account = done.spent.0.account in
    record {
      grows = done.grows;
      keeps = record { same_src = done.keeps.same_src; same_out = done.keeps.same_out; same_file = done.keeps.same_file; same_style = done.keeps.same_style };
      spent = (SpendsAtMost-to done.spent.0 (asked_as _ _ account cost), tt);
      shows = λ file held. rw (whole, append-nil _) (rw shape at (done.shows file held (λ some. tt)));
    }
