-- The first segment of dynamic entries, where these have their strings, and what they give.
use Rattle.std.proofs.Common.{ℕ, ◌/◌, ap, sym, ◌∙◌, arith}
use Rattle.std.proofs.lemmas.Result.{err_from_is_err_and}
use Rattle.elf_table.proofs.Absent.{none-of}
use Rattle.elf_table.proofs.LedgerLaws.{CallDid-as, CallDid-none, CallDid-stop, CallDid-then}
use Rattle.elf_hash.proofs.FoundLaws.{dynamic_is, index_is, size_within}
use Rattle.elf_library.proofs.LibraryLaws.{flags_none, flags_some, links_found, links_same}
use Rattle.elf_library.proofs.LoopLaws.{read_links_stop}
use Rattle.elf_library.proofs.ReadingLaws.{entries_are, links_refused, rows_most, segments_none, table_stops}
use Rattle.elf_library.proofs.link_reader.entry_links.Goals as goal

pub returns-in_default : goal.returns-in_default
returns-in_default g c =
    CallDid-as _ (omega arith) (CallDid-none c.args.src.now)
    (λ file told costs views.
    let none = index_is file ∙ (sym (c.first_segment.ensures.first file views) ∙ none-of c.first_segment.result c.in_default.not-Some) in (
      links_same _ _ _ _ _ (segments_none file none c.args.links.now _ c.no_link_info.ensures) c.with_flags.ensures.texts,
      c.with_flags.ensures.flags file views (flags_none file none),
    ))

pub returns-in_err-table : goal.returns-in_err-table
returns-in_err-table g c =
    let p = err_from_is_err_and c.from_residual.result c.from_residual.ensures.1 in
    rw (p.1, p.2)
    (CallDid-as _ (omega arith) (CallDid-stop _ c.in_err-table.ensures.lies (CallDid-none c.args.src.now))
    (λ file told costs views.
    let some = index_is file ∙ (sym (c.first_segment.ensures.first file views) ∙ c.in-Some.is) in
    (table_stops file c.args.links.now.held.room _ some c.args.links.now c.args.links.now _ (c.in_err-table.ensures.held file views), tt)))

pub returns-in_err-values : goal.returns-in_err-values
returns-in_err-values g c =
    let p = err_from_is_err_and c.from_residual-in_err-values.result c.from_residual-in_err-values.ensures.1 in
    let fits = size_within _ _ c.in_ok-table.ensures.lies.within in
    rw (p.1, p.2)
    (CallDid-as _ (omega (arith, fits, c.requires)) c.in_err-values.ensures.did
    (λ file told costs views. (read_links_stop _ c.args.links.now c.args.links.now _ c.in_err-values.ensures.fault, tt)))

pub returns-in_err-links : goal.returns-in_err-links
returns-in_err-links g c =
    let p = err_from_is_err_and c.from_residual-in_err-links.result c.from_residual-in_err-links.ensures.1 in
    let fits = size_within _ _ c.in_ok-table.ensures.lies.within in
    let sized = ap (λ (n : ℕ). n / 16) c.requires in
    let most = rows_most c.in_ok-table.table _ c.in_ok-table.ensures.lies.entry fits in
    rw (p.1, p.2)
    (CallDid-as _ (omega (arith, fits, sized, most, c.requires)) (CallDid-then c.in_ok-values.ensures.did c.in_err-links.ensures)
    (λ file told costs views.
    let some = index_is file ∙ (sym (c.first_segment.ensures.first file views) ∙ c.in-Some.is) in
    let is = dynamic_is file _ some _ (c.in_ok-table.ensures.held file views) in
    (links_refused _ _ c.args.links.now c.args.links.now _ (entries_are file c.args.links.now.held.room _ some is.0 c.in_ok-table.table is.1 _ told.0.0) (told.1 views), tt)))

pub returns : goal.returns
returns g c =
    let fits = size_within _ _ c.in_ok-table.ensures.lies.within in
    let sized = ap (λ (n : ℕ). n / 16) c.requires in
    let most = rows_most c.in_ok-table.table _ c.in_ok-table.ensures.lies.entry fits in
    CallDid-as _ (omega (arith, fits, sized, most, c.requires)) (CallDid-then c.in_ok-values.ensures.did c.in_ok-links.ensures)
    (λ file told costs views.
    let some = index_is file ∙ (sym (c.first_segment.ensures.first file views) ∙ c.in-Some.is) in
    let is = dynamic_is file _ some _ (c.in_ok-table.ensures.held file views) in (
      links_found _ _ _ _ _ _ (entries_are file c.args.links.now.held.room _ some is.0 c.in_ok-table.table is.1 _ told.0.0) (told.1 views) c.with_flags-2.ensures.texts,
      c.with_flags-2.ensures.flags file views (flags_some file _ some c.in_ok-table.table is.1 _ told.0.1),
    ))
