-- Without a section of version indices the rows are those of symbols alone.
use Rattle.std.proofs.Common.{◌+◌, refl, sym, ap, ◌∙◌}
use Rattle.elf_options.specs.Permitted.{style_of}
use Rattle.elf_table.specs.Prelude.{StringTableRange}
use Rattle.elf_model.specs.Prelude.{name_bytes, section_at, slice, suffixed_symbols, symbols}
use Rattle.elf_table.proofs.RelocationLaws.{symbols-pass}
use Rattle.elf_listing.specs.Prelude.{store_sections}
use Rattle.elf_listing.proofs.ListsLaws.{ListingCalls-within}
use Rattle.elf_listing.proofs.RowLaws.{WroteSome-as}
use Rattle.elf_listing.proofs.SuffixCosts.{plain_alone, suffixed_within}
use Rattle.elf_listing.proofs.SuffixFound.{none_found, unnumbered}
use Rattle.elf_listing.proofs.SuffixTables.{symbols_plain}
use Rattle.elf_listing.proofs.symbols.list_with_versions.Goals as goal

pub returns-then-is_none : goal.returns-then-is_none
unfolding suffixed_symbols symbols
returns-then-is_none g c =
    let f = c.args.listing.now.file in
    let cap = c.args.listing.now.style.cap.bytes in
    let within = suffixed_within suffixed_symbols f.store.now c.args.rows.now.section c.args.rows.now.section f.loaded.size _ cap 24 (24 + name_bytes cap) _ c.requires.kind refl refl c.requires.table in
    let cost = plain_alone (store_sections f.store.now) c.args.rows.now.section f.loaded.size cap 24 (name_bytes cap) c.args.table.count _ within in
    ListingCalls-within _ _ _ _ _ _ _ cost c.list_rows.ensures (λ file held.
    let belongs = c.args.listing.now.loaded.belongs file held in
    let at = section_at file c.args.rows.now.section in
    let kind = c.requires.typed file belongs in
    let found = symbols-pass file at _ (sym (c.requires.held file belongs)) in
    let none = unnumbered file c.args.rows.now.section (sym (rw c.from-section.ensures at (c.version_numbers_of.ensures.held file belongs)) ∙ none_found _ _ c.is_none.ensures c.if-is_none.true) in
    WroteSome-as _ _ _ (symbols_plain file (style_of c.args.listing.now.style) c.args.rows.now.section kind found.0 _ found.1.counted none)
    (c.list_rows.ensures.shows file held (λ some. (ap (λ (n : StringTableRange). slice file n.at n.size) (found.1.named some), found.1.placed, tt, c.requires.dynamic file belongs))))
