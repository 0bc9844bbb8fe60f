-- The table's checks and its string table's, and then the version lookup, come before its rows.
use Rattle.std.proofs.Common.{ℕ, ◌+◌, Option, None, Some, Ok, Err, refl, sym, ap, ◌∙◌, subst}
use Rattle.std.proofs.lemmas.Result.{err_from_is_err_and}
use Rattle.elf_options.specs.Permitted.{style_of}
use Rattle.elf_table.specs.Prelude.{StringTableRange}
use Rattle.elf_model.specs.Prelude.{name_bytes, section_at, slice, suffixed_symbols, symbols}
use Rattle.elf_table.proofs.RelocationLaws.{symbols-pass}
use Rattle.elf_listing.specs.Prelude.{SuffixesOr, store_sections}
use Rattle.elf_listing.specs.declared.suffixes.VersionLookup.{VersionLookup}
use Rattle.elf_listing.proofs.ListsLaws.{ListingCalls-unread}
use Rattle.elf_listing.proofs.RowLaws.{WroteSome-as}
use Rattle.elf_listing.proofs.SuffixCosts.{no_fewer, plain_within, rows_plain, rows_within, suffixed_within, walks_within}
use Rattle.elf_listing.proofs.SuffixTables.{ListingCalls-after, symbols_plain, symbols_refused, symbols_shown}
use Rattle.elf_listing.proofs.symbols.list_versioned.Goals as goal

pub returns-in_err-suffixes : goal.returns-in_err-suffixes
unfolding suffixed_symbols symbols
returns-in_err-suffixes g c =
    let p = err_from_is_err_and c.from_residual.result c.from_residual.ensures.1 in
    let told = c.in_err-suffixes.ensures in
    let f = c.args.listing.now.file in
    let kind = c.requires.kind in
    let cap = c.args.listing.now.style.cap.bytes in
    let within = suffixed_within suffixed_symbols f.store.now c.args.rows.now.section c.args.rows.now.section f.loaded.size _ cap 24 (24 + name_bytes cap) _ kind refl refl c.requires.table in
    let same = c.len.ensures in
    let section = c.from.ensures in
    let fetches = rw (same, section) at told.fetches in
    let cost = walks_within (store_sections f.store.now) c.args.rows.now.section f.loaded.size cap 24 (name_bytes cap) c.args.table.count c.args.table.count _ (no_fewer _) within in
    rw (p.1, p.2) (ListingCalls-unread _ _ _ _ _ _ cost fetches (λ file held.
    let belongs = c.args.listing.now.loaded.belongs file held in
    let at = section_at file c.args.rows.now.section in
    let kind = c.requires.typed file belongs in
    let found = symbols-pass file at _ (sym (c.requires.held file belongs)) in
    rw fetches.1
    (symbols_refused _ file (style_of c.args.listing.now.style) c.args.rows.now.section kind found.0 _ (subst (λ (t : ℕ). SuffixesOr file t (Err c.in_err-suffixes.field-0.0)) section (told.read file held (rw section (same ∙ found.1.counted)))))))

pub returns-then-not-branch : goal.returns-then-not-branch
unfolding suffixed_symbols symbols
returns-then-not-branch g c =
    let told = rw c.if-not-branch.true at c.in_ok-suffixes.ensures in
    let f = c.args.listing.now.file in
    let kind = c.requires.kind in
    let cap = c.args.listing.now.style.cap.bytes in
    let within = suffixed_within suffixed_symbols f.store.now c.args.rows.now.section c.args.rows.now.section f.loaded.size _ cap 24 (24 + name_bytes cap) _ kind refl refl c.requires.table in
    let same = c.len.ensures in
    let section = c.from.ensures in
    let fetches = rw (same, section) at told.fetches in
    let cost = plain_within (store_sections f.store.now) c.args.rows.now.section f.loaded.size cap 24 (name_bytes cap) c.args.table.count c.args.table.count _ (no_fewer _) within in
    ListingCalls-after {Y = Option VersionLookup} _ _ _ None _ _ _ _ _ (rw fetches.0.same_style (rows_plain _ _ _ _ _ cost)) fetches c.list_rows.ensures (λ file held.
    let belongs = c.args.listing.now.loaded.belongs file held in
    let at = section_at file c.args.rows.now.section in
    let kind = c.requires.typed file belongs in
    let found = symbols-pass file at _ (sym (c.requires.held file belongs)) in
    let none = subst (λ (t : ℕ). SuffixesOr file t (Ok None)) section (told.read file held (rw section (same ∙ found.1.counted))) in
    let shown = rw (fetches.0.same_style, fetches.1) at (c.list_rows.ensures.shows file (fetches.2.reads.keeps.same_file ∙ held) (λ some. (ap (λ (n : StringTableRange). slice file n.at n.size) (found.1.named some), found.1.placed, tt, c.requires.dynamic file belongs))) in
    WroteSome-as _ _ _ (symbols_plain file (style_of c.args.listing.now.style) c.args.rows.now.section kind found.0 _ found.1.counted none) shown)

pub returns : goal.returns
unfolding suffixed_symbols symbols
returns g c =
    let told = rw c.if-not-branch.false at c.in_ok-suffixes.ensures in
    let f = c.args.listing.now.file in
    let kind = c.requires.kind in
    let cap = c.args.listing.now.style.cap.bytes in
    let within = suffixed_within suffixed_symbols f.store.now c.args.rows.now.section c.args.rows.now.section f.loaded.size _ cap 24 (24 + name_bytes cap) _ kind refl refl c.requires.table in
    let same = c.len.ensures in
    let section = c.from.ensures in
    let fetches = rw (same, section) at told.fetches in
    let pays = (rw section at told.pays) cap in
    let cost = rows_within (store_sections f.store.now) c.args.rows.now.section f.loaded.size cap 24 (name_bytes cap) c.args.table.count c.args.table.count _ (no_fewer _) within (2 + name_bytes cap) pays in
    ListingCalls-after {Y = Option VersionLookup} _ _ _ None _ _ _ _ _ (rw fetches.0.same_style cost) fetches c.list_rows-2.ensures (λ file held.
    let belongs = c.args.listing.now.loaded.belongs file held in
    let at = section_at file c.args.rows.now.section in
    let kind = c.requires.typed file belongs in
    let found = symbols-pass file at _ (sym (c.requires.held file belongs)) in
    let some = subst (λ (t : ℕ). SuffixesOr file t (Ok (Some c.suffixes.new.lookup))) section (told.read file held (rw section (same ∙ found.1.counted))) in
    let shown = rw (fetches.0.same_style, fetches.1) at (c.list_rows-2.ensures.shows file (fetches.2.reads.keeps.same_file ∙ held) (λ rows. (ap (λ (n : StringTableRange). slice file n.at n.size) (found.1.named rows), found.1.placed, some.1, c.requires.dynamic file belongs))) in
    WroteSome-as _ _ _ (symbols_shown file (style_of c.args.listing.now.style) c.args.rows.now.section kind found.0 _ found.1.counted some.0) shown)
