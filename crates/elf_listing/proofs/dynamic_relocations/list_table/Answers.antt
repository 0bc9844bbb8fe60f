-- The table is located before its rows.
use Rattle.std.proofs.Common.{◌≡◌, ◌≤◌, ◌*◌, Ok, ap, ◌∙◌, arith}
use Rattle.std.proofs.lemmas.Result.{err_from_is_err_and}
use Rattle.elf_options.specs.Permitted.{style_of}
use Rattle.elf_model.specs.Prelude.{form_size, segment_at}
use Rattle.elf_hash.proofs.FoundLaws.{size_within}
use Rattle.elf_table.proofs.Absent.{none-of}
use Rattle.elf_listing.proofs.LocatedShown.{addend_rows, plain_rows, relative_rows, table_found, table_none, table_refused}
use Rattle.elf_listing.proofs.ListsLaws.{ListingCalls-nothing, ListingCalls-refused, ListingCalls-within}
use Rattle.elf_listing.proofs.RowLaws.{WroteSome-as}
use Rattle.elf_listing.proofs.ShowLaws.{Whole-none}
use Rattle.elf_listing.proofs.dynamic_relocations.list_table.Goals as goal

pub returns-in_err-located : goal.returns-in_err-located
returns-in_err-located g c =
    let p = err_from_is_err_and c.from_residual.result c.from_residual.ensures.1 in
    rw (p.1, p.2) (ListingCalls-refused _ _ _ _ c.in_err-located.ensures.refusal (λ file held.
    let at = segment_at file c.args.entries.now.segment in
    table_refused file (style_of c.args.listing.now.style) c.args.entries.now.segment at c.args.table _ _
    (c.in_err-located.ensures.held file (c.requires.viewed file held) at (c.requires.tagged file held))))

pub returns-in_default : goal.returns-in_default
returns-in_default g c = ListingCalls-nothing _ _ _ _ (λ file held.
    let at = segment_at file c.args.entries.now.segment in
    let told = rw (none-of _ c.in_default.not-Some) at (c.in_ok-located.ensures.held file (c.requires.viewed file held) at (c.requires.tagged file held)) in
    WroteSome-as {X = Unit {0}} _ _ (Ok tt) (table_none file (style_of c.args.listing.now.style) c.args.entries.now.segment at c.args.table told) (Whole-none _))

pub returns-in-Relative : goal.returns-in-Relative
returns-in-Relative g c =
    let bounds = rw (c.in-Some.is, c.requires.sized) at c.in_ok-located.ensures.within in
    let entry : c.in-Some.located.table.entry ≡ 8 = bounds.entry ∙ ap form_size c.in-Relative.is in
    let most : c.in-Some.located.table.count * 8 ≤ c.args.listing.now.file.loaded.size = rw entry at (size_within c.in-Some.located.table _ bounds.within) in
    ListingCalls-within _ _ _ _ _ _ _ (omega (arith, most)) c.list_words.ensures (λ file held.
    let at = segment_at file c.args.entries.now.segment in
    let style = style_of c.args.listing.now.style in
    let told = rw c.in-Some.is at (c.in_ok-located.ensures.held file (c.requires.viewed file held) at (c.requires.tagged file held)) in
    WroteSome-as _ _ _
    (table_found file style c.args.entries.now.segment at c.args.table _ told ∙ relative_rows file style c.args.entries.now.segment _ _ _ c.in-Relative.is)
    (c.list_words.ensures.shows file held (λ some. tt)))

pub returns-in-WithoutAddends : goal.returns-in-WithoutAddends
returns-in-WithoutAddends g c =
    ListingCalls-within _ _ _ _ _ _ _ (omega arith) c.list_entries.ensures (λ file held.
    let at = segment_at file c.args.entries.now.segment in
    let style = style_of c.args.listing.now.style in
    let told = rw c.in-Some.is at (c.in_ok-located.ensures.held file (c.requires.viewed file held) at (c.requires.tagged file held)) in
    WroteSome-as _ _ _
    (table_found file style c.args.entries.now.segment at c.args.table _ told ∙ plain_rows file style c.args.entries.now.segment _ _ _ c.in-WithoutAddends.is)
    (c.list_entries.ensures.shows c.in-Some.located.form file held))

pub returns-in-WithAddends : goal.returns-in-WithAddends
returns-in-WithAddends g c =
    ListingCalls-within _ _ _ _ _ _ _ (omega arith) c.list_entries-in-WithAddends.ensures (λ file held.
    let at = segment_at file c.args.entries.now.segment in
    let style = style_of c.args.listing.now.style in
    let told = rw c.in-Some.is at (c.in_ok-located.ensures.held file (c.requires.viewed file held) at (c.requires.tagged file held)) in
    WroteSome-as _ _ _
    (table_found file style c.args.entries.now.segment at c.args.table _ told ∙ addend_rows file style c.args.entries.now.segment _ _ _ c.in-WithAddends.is)
    (c.list_entries-in-WithAddends.ensures.shows c.in-Some.located.form file held))
