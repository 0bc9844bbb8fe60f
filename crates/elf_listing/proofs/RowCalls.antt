-- What a call that shows a row did, by the call that read its name.
use Rattle.std.proofs.Common.{◌≡◌, ℕ, ◌≤◌, List, [], Option, Some, Result, Ok, Err, sym, subst}
use Rattle.elf_model.specs.Prelude.{ListingItem}
use Rattle.elf_options.specs.Permitted.{style_of}
use Rattle.elf_source.specs.Prelude.{OutState}
use Rattle.elf_source.specs.declared.source.Source.{Ghosts as Sources}
use Rattle.elf_source.specs.declared.sink.Sink.{Ghosts as Sinks}
use Rattle.elf_table.specs.Prelude.{stop_of}
use Rattle.elf_table.specs.declared.fault.Fault.{Fault}
use Rattle.elf_table.specs.declared.names.NameEnd.{NameEnd}
use Rattle.elf_table.specs.declared.names.NameEnd.TheVariants.{Whole}
use Rattle.elf_table.specs.declared.row.Row.{Row}
use Rattle.elf_table.specs.declared.run_fault.RunFault.{RunFault}
use Rattle.elf_listing.specs.Prelude.{IsRowOf, ListingCalls, ListingReads, RowLayout, WroteSome, WroteUntilStop}
use Rattle.elf_listing.specs.TableRows.{ListsRow}
use Rattle.elf_listing.specs.declared.listing.Listing.{Listing}
use Rattle.elf_listing.specs.declared.suffixes.VersionLookup.{VersionLookup}
use Rattle.elf_listing.proofs.ListsLaws.{ListingCalls-hidden, ListingCalls-named, ListingCalls-unread}
use Rattle.elf_listing.proofs.RowLaws.{WroteSome-as}
use Rattle.elf_listing.proofs.ShowLaws.{Whole-none}

pub WroteUntilStop-as : (a b : OutState) (stop : RunFault) {xs ys : List ListingItem} → xs ≡ ys → WroteUntilStop a b stop ys → WroteUntilStop a b stop xs
WroteUntilStop-as a b stop same written = subst (λ (items : List ListingItem). WroteUntilStop a b stop items) (sym same) written

-- the name could not be read
pub ListsRow-unread : {S W : Type 0} {s : Sources S} {w : Sinks W} (old new : Listing S W s w) (result : Result (Unit {0}) RunFault) (fault : Fault) (layout : RowLayout) (versions : Option VersionLookup) (row : Row) (n : ℕ)
    → (stop : RunFault) × (result ≡ Err stop) × (stop ≡ stop_of fault) → n ≤ layout.own_cost versions old.style.cap.bytes → ListingReads {X = NameEnd} old new (Err fault) n
    → ((file : List ℕ) → old.src.now.seen.file ≡ Some file → (table_at : ℕ) → layout.here versions file table_at → IsRowOf file table_at layout row
    → WroteUntilStop old.out.now old.out.now (stop_of fault) (layout.items versions file (style_of old.style) table_at row.index))
    → ListsRow old new result layout versions row
ListsRow-unread old new result fault layout versions row n is within p shown =
    rw (is.1, is.2) (ListingCalls-unread old new fault n _ _ within p (rw p.1 shown))

-- the row is not shown
pub ListsRow-hidden : {S W : Type 0} {s : Sources S} {w : Sinks W} (old new : Listing S W s w) (layout : RowLayout) (versions : Option VersionLookup) (row : Row) (n : ℕ)
    → n ≤ layout.own_cost versions old.style.cap.bytes → ListingReads old new (Ok Whole) n
    → ((file : List ℕ) → old.src.now.seen.file ≡ Some file → (table_at : ℕ) → layout.here versions file table_at → IsRowOf file table_at layout row
    → layout.items versions file (style_of old.style) table_at row.index ≡ [])
    → ListsRow {X = Unit {0}} old new (Ok tt) layout versions row
ListsRow-hidden old new layout versions row n within p none =
    ListingCalls-hidden old new tt n _ _ within p (rw p.1 (λ file held table_at here is_row.
    WroteSome-as {X = Unit {0}} old.out.now old.out.now (Ok tt) (none file held table_at here is_row) (Whole-none old.out.now)))

-- the row is shown
pub ListsRow-named : {S W : Type 0} {s : Sources S} {w : Sinks W} (old mid new : Listing S W s w) (result : Result (Unit {0}) RunFault) (layout : RowLayout) (versions : Option VersionLookup) (row : Row) (n : ℕ) (read : Type 0)
    → n ≤ layout.own_cost versions old.style.cap.bytes → ListingReads old mid (Ok Whole) n → ListingCalls mid new result 0 read
    → ((file : List ℕ) → old.src.now.seen.file ≡ Some file → (table_at : ℕ) → layout.here versions file table_at → IsRowOf file table_at layout row
    → WroteSome mid.out.now new.out.now result (layout.items versions file (style_of old.style) table_at row.index))
    → ListsRow old new result layout versions row
ListsRow-named old mid new result layout versions row n read within p q shown =
    ListingCalls-named old mid new result n _ read _ within p q (rw (← p.1) shown)
