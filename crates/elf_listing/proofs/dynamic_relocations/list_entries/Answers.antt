-- The symbols are located before the rows.
use Rattle.std.proofs.Common.{◌+◌, arith}
use Rattle.std.proofs.lemmas.Result.{err_from_is_err_and}
use Rattle.elf_options.specs.Permitted.{style_of}
use Rattle.elf_model.specs.Prelude.{name_bytes, relocation_size, segment_at}
use Rattle.elf_hash.proofs.FoundLaws.{size_within}
use Rattle.elf_listing.proofs.LocatedShown.{entries_most, row_least, symbols_known, symbols_refused}
use Rattle.elf_listing.proofs.ListsLaws.{ListingCalls-refused, ListingCalls-within}
use Rattle.elf_listing.proofs.RowLaws.{WroteSome-as}
use Rattle.elf_listing.proofs.dynamic_relocations.list_entries.Goals as goal

pub returns-in_err-linked : goal.returns-in_err-linked
returns-in_err-linked g c =
    let p = err_from_is_err_and c.from_residual.result c.from_residual.ensures.1 in
    rw (p.1, p.2) (ListingCalls-refused _ _ _ _ c.in_err-linked.ensures.refusal (λ form file held.
    let at = segment_at file c.args.entries.now.segment in
    symbols_refused c.args.has_addends file (style_of c.args.listing.now.style) c.args.entries.now.segment _ _ _ _
    (c.in_err-linked.ensures.held file (c.requires.entries.viewed file held) at (c.requires.entries.tagged file held))))

pub returns : goal.returns
returns g c =
    let cap = c.args.listing.now.style.cap.bytes in
    let size = c.args.listing.now.file.loaded.size in
    let within = rw c.requires.rows at (size_within c.args.table size c.requires.within) in
    let cost = entries_most size cap c.args.table.count (relocation_size c.args.has_addends) (24 + name_bytes cap) (row_least c.args.has_addends) (omega arith) within in
    ListingCalls-within _ _ _ _ _ _ _ cost c.list_rows.ensures (λ form file held.
    let at = segment_at file c.args.entries.now.segment in
    WroteSome-as _ _ _
    (symbols_known c.args.has_addends file (style_of c.args.listing.now.style) c.args.entries.now.segment _ _ _
    (c.in_ok-linked.ensures.held file (c.requires.entries.viewed file held) at (c.requires.entries.tagged file held)))
    (c.list_rows.ensures.shows file held (λ some. tt)))
