-- The table's checks, those of the symbols that it refers to, and then the version lookup come
-- before its rows.
use Rattle.std.proofs.Common.{◌≡◌, ◌+◌, ◌==◌, false, Option, None, refl, sym, ◌∙◌}
use Rattle.std.proofs.lemmas.Bool.{eq-eqb, ne_eqb}
use Rattle.std.proofs.lemmas.Result.{err_from_is_err_and}
use Rattle.elf_options.specs.Permitted.{style_of}
use Rattle.elf_table.specs.Store.{row}
use Rattle.elf_model.specs.Prelude.{name_bytes, relocation_size, relocations, relocations_with_versions, sh_link}
use Rattle.elf_listing.specs.Prelude.{linked_count, store_sections}
use Rattle.elf_listing.specs.declared.suffixes.VersionLookup.{VersionLookup}
use Rattle.elf_listing.proofs.Amounts.{not_none}
use Rattle.elf_listing.proofs.ListsLaws.{ListingCalls-unread}
use Rattle.elf_listing.proofs.RowLaws.{WroteSome-as}
use Rattle.elf_listing.proofs.SuffixCosts.{plain_within, rows_plain, rows_within, suffixed_within, walks_fewer, walks_within}
use Rattle.elf_listing.proofs.SuffixTables.{ListingCalls-after, entries_plain, entries_refused, entries_shown, linked_found}
use Rattle.elf_listing.proofs.relocations.list_versioned.Goals as goal

pub returns-in_err-linked_suffixes : goal.returns-in_err-linked_suffixes
unfolding relocations_with_versions relocations
returns-in_err-linked_suffixes g c =
    let p = err_from_is_err_and c.from_residual.result c.from_residual.ensures.1 in
    let told = c.in_err-linked_suffixes.ensures in
    let f = c.args.listing.now.file in
    let cap = c.args.listing.now.style.cap.bytes in
    let kind = c.requires.entries.kind in
    let link = c.section-link.ensures.fields.sh_link in
    let headers = store_sections f.store.now in
    let count = c.args.table.count in
    let filled = c.requires.filled in
    let some : (count == 0) ≡ false = ne_eqb _ 0 (not_none filled) in
    let within = suffixed_within (relocations_with_versions c.args.rows.now.has_addends) f.store.now c.args.rows.now.section (sh_link (row f.store.now c.args.rows.now.section) 0) f.loaded.size _ cap (relocation_size c.args.rows.now.has_addends) (relocation_size c.args.rows.now.has_addends + (24 + name_bytes cap)) _ (eq-eqb _ _ kind) refl refl c.requires.entries.table in
    let fetches = rw link at told.fetches in
    let fewer = walks_fewer headers (sh_link (row f.store.now c.args.rows.now.section) 0) (linked_count c.args.rows.now.linked) count f.loaded.size some in
    rw (p.1, p.2) (ListingCalls-unread _ _ _ _ _ _ (walks_within headers (sh_link (row f.store.now c.args.rows.now.section) 0) f.loaded.size cap (relocation_size c.args.rows.now.has_addends) (24 + name_bytes cap) (linked_count c.args.rows.now.linked) count _ fewer within) fetches (λ file held.
    let belongs = c.args.listing.now.loaded.belongs file held in
    let is_at = c.section-link.ensures.is_at file belongs in
    let kind = sym is_at.sh_type ∙ (c.section-link.ensures.fields.sh_type ∙ c.requires.entries.kind) in
    rw fetches.1
    (entries_refused c.args.rows.now.has_addends file (style_of c.args.listing.now.style) c.args.rows.now.section (eq-eqb _ _ kind) _ _ _ filled (c.requires.entries.held file belongs) _ (rw is_at.sh_link at (told.read file held)))))

pub returns-then-not-branch : goal.returns-then-not-branch
unfolding relocations_with_versions relocations
returns-then-not-branch g c =
    let told = rw c.if-not-branch.true at c.in_ok-linked_suffixes.ensures in
    let f = c.args.listing.now.file in
    let cap = c.args.listing.now.style.cap.bytes in
    let kind = c.requires.entries.kind in
    let link = c.section-link.ensures.fields.sh_link in
    let headers = store_sections f.store.now in
    let count = c.args.table.count in
    let filled = c.requires.filled in
    let some : (count == 0) ≡ false = ne_eqb _ 0 (not_none filled) in
    let within = suffixed_within (relocations_with_versions c.args.rows.now.has_addends) f.store.now c.args.rows.now.section (sh_link (row f.store.now c.args.rows.now.section) 0) f.loaded.size _ cap (relocation_size c.args.rows.now.has_addends) (relocation_size c.args.rows.now.has_addends + (24 + name_bytes cap)) _ (eq-eqb _ _ kind) refl refl c.requires.entries.table in
    let fetches = rw link at told.fetches in
    let fewer = walks_fewer headers (sh_link (row f.store.now c.args.rows.now.section) 0) (linked_count c.args.rows.now.linked) count f.loaded.size some in
    ListingCalls-after {Y = Option VersionLookup} _ _ _ None _ _ _ _ _ (rw fetches.0.same_style (rows_plain _ _ _ _ _ (plain_within headers (sh_link (row f.store.now c.args.rows.now.section) 0) f.loaded.size cap (relocation_size c.args.rows.now.has_addends) (24 + name_bytes cap) (linked_count c.args.rows.now.linked) count _ fewer within))) fetches c.list_rows.ensures (λ file held.
    let belongs = c.args.listing.now.loaded.belongs file held in
    let is_at = c.section-link.ensures.is_at file belongs in
    let kind = sym is_at.sh_type ∙ (c.section-link.ensures.fields.sh_type ∙ c.requires.entries.kind) in
    let found = c.requires.entries.held file belongs in
    let none = rw is_at.sh_link at (told.read file held) in
    let shown = rw (fetches.0.same_style, fetches.1) at (c.list_rows.ensures.shows file (fetches.2.reads.keeps.same_file ∙ held) (λ rows. (found.refers rows, found.placed, tt))) in
    WroteSome-as _ _ _ (entries_plain c.args.rows.now.has_addends file (style_of c.args.listing.now.style) c.args.rows.now.section (eq-eqb _ _ kind) _ _ filled found none) shown)

pub returns : goal.returns
unfolding relocations_with_versions relocations
returns g c =
    let told = rw c.if-not-branch.false at c.in_ok-linked_suffixes.ensures in
    let f = c.args.listing.now.file in
    let cap = c.args.listing.now.style.cap.bytes in
    let kind = c.requires.entries.kind in
    let link = c.section-link.ensures.fields.sh_link in
    let headers = store_sections f.store.now in
    let count = c.args.table.count in
    let filled = c.requires.filled in
    let some : (count == 0) ≡ false = ne_eqb _ 0 (not_none filled) in
    let within = suffixed_within (relocations_with_versions c.args.rows.now.has_addends) f.store.now c.args.rows.now.section (sh_link (row f.store.now c.args.rows.now.section) 0) f.loaded.size _ cap (relocation_size c.args.rows.now.has_addends) (relocation_size c.args.rows.now.has_addends + (24 + name_bytes cap)) _ (eq-eqb _ _ kind) refl refl c.requires.entries.table in
    let fetches = rw link at told.fetches in
    let fewer = walks_fewer headers (sh_link (row f.store.now c.args.rows.now.section) 0) (linked_count c.args.rows.now.linked) count f.loaded.size some in
    let pays = (rw link at told.pays) cap in
    ListingCalls-after {Y = Option VersionLookup} _ _ _ None _ _ _ _ _ (rw fetches.0.same_style (rows_within headers (sh_link (row f.store.now c.args.rows.now.section) 0) f.loaded.size cap (relocation_size c.args.rows.now.has_addends) (24 + name_bytes cap) (linked_count c.args.rows.now.linked) count _ fewer within (2 + name_bytes cap) pays)) fetches c.list_rows-2.ensures (λ file held.
    let belongs = c.args.listing.now.loaded.belongs file held in
    let is_at = c.section-link.ensures.is_at file belongs in
    let kind = sym is_at.sh_type ∙ (c.section-link.ensures.fields.sh_type ∙ c.requires.entries.kind) in
    let found = c.requires.entries.held file belongs in
    let some = linked_found _ _ _ (found.refers filled) (rw is_at.sh_link at (told.read file held)) in
    let shown = rw (fetches.0.same_style, fetches.1) at (c.list_rows-2.ensures.shows file (fetches.2.reads.keeps.same_file ∙ held) (λ rows. (found.refers rows, found.placed, some.1))) in
    WroteSome-as _ _ _ (entries_shown c.args.rows.now.has_addends file (style_of c.args.listing.now.style) c.args.rows.now.section (eq-eqb _ _ kind) _ _ found some.0) shown)
