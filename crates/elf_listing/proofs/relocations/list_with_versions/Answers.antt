-- Without a section of version indices the rows are those of entries alone.
use Rattle.std.proofs.Common.{◌+◌, ◌<◌, refl, sym, ◌∙◌, arith}
use Rattle.std.proofs.lemmas.Bool.{eq-eqb, false≢true, ne_eqb}
use Rattle.elf_options.specs.Permitted.{style_of}
use Rattle.elf_table.specs.Store.{row}
use Rattle.elf_model.specs.Prelude.{name_bytes, relocation_size, relocations, relocations_with_versions, sh_link}
use Rattle.elf_listing.specs.Prelude.{store_sections}
use Rattle.elf_listing.proofs.ListsLaws.{ListingCalls-nothing, ListingCalls-within}
use Rattle.elf_listing.proofs.RowLaws.{WroteSome-as}
use Rattle.elf_listing.proofs.SuffixCosts.{plain_alone, suffixed_within}
use Rattle.elf_listing.proofs.SuffixFound.{none_found, unnumbered}
use Rattle.elf_listing.proofs.SuffixTables.{entries_unnumbered, no_entries}
use Rattle.elf_listing.proofs.relocations.list_with_versions.Goals as goal

pub returns-then-is_empty : goal.returns-then-is_empty
returns-then-is_empty g c = ListingCalls-nothing _ _ _ _ (λ file held.
    let belongs = c.args.listing.now.loaded.belongs file held in
    let kind = sym (c.section-link.ensures.is_at file belongs).sh_type ∙ (c.section-link.ensures.fields.sh_type ∙ c.requires.kind) in
    let none = c.is_empty.ensures.0 c.if-is_empty.true in
    no_entries c.args.rows.now.has_addends file _ _ (eq-eqb _ _ kind) _ _ _ none (c.requires.held file belongs))

pub returns-then-is_none : goal.returns-then-is_none
unfolding relocations_with_versions relocations
returns-then-is_none g c =
    let f = c.args.listing.now.file in
    let cap = c.args.listing.now.style.cap.bytes in
    let link = c.section-link.ensures.fields.sh_link in
    let within = suffixed_within (relocations_with_versions c.args.rows.now.has_addends) f.store.now c.args.rows.now.section (sh_link (row f.store.now c.args.rows.now.section) 0) f.loaded.size _ cap (relocation_size c.args.rows.now.has_addends) (relocation_size c.args.rows.now.has_addends + (24 + name_bytes cap)) _ (eq-eqb _ _ c.requires.kind) refl refl c.requires.table in
    let cost = plain_alone (store_sections f.store.now) (sh_link (row f.store.now c.args.rows.now.section) 0) f.loaded.size cap (relocation_size c.args.rows.now.has_addends) (24 + name_bytes cap) c.args.table.count _ within in
    ListingCalls-within _ _ _ _ _ _ _ cost c.list_rows.ensures (λ file held.
    let belongs = c.args.listing.now.loaded.belongs file held in
    let is_at = c.section-link.ensures.is_at file belongs in
    let kind = sym is_at.sh_type ∙ (c.section-link.ensures.fields.sh_type ∙ c.requires.kind) in
    let filled = ne_eqb _ 0 (λ zero. false≢true (sym c.if-is_empty.false ∙ c.is_empty.ensures.1 zero)) in
    let some : 0 < c.args.table.count = grind (arith, filled) in
    let found = c.requires.held file belongs in
    let none = sym (rw is_at.sh_link at (c.version_numbers_of.ensures.held file belongs)) ∙ none_found _ _ c.is_none.ensures c.if-is_none.true in
    WroteSome-as _ _ _ (entries_unnumbered c.args.rows.now.has_addends file (style_of c.args.listing.now.style) c.args.rows.now.section (eq-eqb _ _ kind) _ _ found (unnumbered file _ none))
    (c.list_rows.ensures.shows file held (λ rows. (found.refers rows, found.placed, tt))))
