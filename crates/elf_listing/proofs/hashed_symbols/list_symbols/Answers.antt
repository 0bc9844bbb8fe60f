-- The lookup tables are located before the symbols are counted.
use Rattle.std.proofs.Common.{Ok, arith}
use Rattle.std.proofs.lemmas.Result.{err_from_is_err_and}
use Rattle.elf_options.specs.Permitted.{style_of}
use Rattle.elf_model.specs.Prelude.{segment_at}
use Rattle.elf_table.proofs.Absent.{none-of}
use Rattle.elf_listing.proofs.HashedShown.{hashed_fails, hashed_found, hashed_none}
use Rattle.elf_listing.proofs.ListsLaws.{ListingCalls-nothing, ListingCalls-refused, ListingCalls-within}
use Rattle.elf_listing.proofs.RowLaws.{WroteSome-as}
use Rattle.elf_listing.proofs.ShowLaws.{Whole-none}
use Rattle.elf_listing.proofs.hashed_symbols.list_symbols.Goals as goal

pub returns-in_default : goal.returns-in_default
returns-in_default g c = ListingCalls-nothing _ _ _ _ (λ file held.
    let at = segment_at file c.args.entries.now.segment in
    let told = rw (none-of _ c.in_default.not-Some) at (c.hash_entry.ensures file at (c.requires.tagged file held)) in
    WroteSome-as {X = Unit {0}} _ _ (Ok tt) (hashed_none file (style_of c.args.listing.now.style) c.args.entries.now.segment at told) (Whole-none _))

pub returns-in_err-tables : goal.returns-in_err-tables
returns-in_err-tables g c =
    let p = err_from_is_err_and c.from_residual.result c.from_residual.ensures.1 in
    rw (p.1, p.2) (ListingCalls-refused _ _ _ _ c.in_err-tables.ensures.refusal (λ file held.
    let at = segment_at file c.args.entries.now.segment in
    let told = rw c.in-Some.is at (c.hash_entry.ensures file at (c.requires.tagged file held)) in
    hashed_fails file (style_of c.args.listing.now.style) c.args.entries.now.segment at _ told.0 _ _
    (c.in_err-tables.ensures.held file (c.requires.viewed file held) (c.requires.tagged file held) told.1)))

pub returns : goal.returns
returns g c = ListingCalls-within _ _ _ _ _ _ _ (omega arith) c.list_counted.ensures (λ file held.
    let at = segment_at file c.args.entries.now.segment in
    let told = rw c.in-Some.is at (c.hash_entry.ensures file at (c.requires.tagged file held)) in
    let found = c.in_ok-tables.ensures.held file (c.requires.viewed file held) (c.requires.tagged file held) told.1 in
    WroteSome-as _ _ _ (hashed_found file (style_of c.args.listing.now.style) c.args.entries.now.segment at _ told.0 found.0)
    (c.list_counted.ensures.shows _ file held found.1))
