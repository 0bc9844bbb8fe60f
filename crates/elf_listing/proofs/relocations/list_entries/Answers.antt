-- The table's checks and those of the symbols that it refers to come before its rows.
use Rattle.elf_options.specs.Permitted.{style_of}
use Rattle.std.proofs.Common.{rules, ◌+◌, Bool, refl, sym, ap, ◌∙◌, subst}
use Rattle.std.proofs.lemmas.Bool.{eq-eqb}
use Rattle.std.proofs.lemmas.Result.{err_from_is_err_and}
use Rattle.elf_model.specs.Prelude.{each, entries_kind, name_bytes, relocation_row, relocation_size, relocations, section_at}
use Rattle.elf_model.proofs.RelativeKinds.{entries_have}
use Rattle.elf_listing.specs.HeadersListed.{ListsHeader}
use Rattle.elf_listing.specs.Prelude.{entries_part}
use Rattle.elf_listing.proofs.NamedKinds.{entries_checks}
use Rattle.elf_listing.proofs.RowLaws.{WroteSome-as}
use Rattle.elf_listing.proofs.SectionCosts.{section_within}
use Rattle.elf_listing.proofs.SectionShown.{table_fails, table_passes}
use Rattle.elf_listing.proofs.SuffixCosts.{table_plain}
use Rattle.elf_listing.proofs.ListsLaws.{ListingCalls-refused, ListingCalls-within}
use Rattle.elf_listing.proofs.relocations.list_entries.Goals as goal

pub returns-in_err-found : goal.returns-in_err-found
returns-in_err-found g c =
    let p = err_from_is_err_and c.from_residual.result c.from_residual.ensures.1 in
    rw (p.1, p.2) (ListingCalls-refused _ _ _ _ (search rules) (λ file held.
    let versions = c.args.listing.now.style.versions in
    let addends = c.args.has_addends in
    let belongs = c.args.listing.now.loaded.belongs file held in
    table_fails (entries_kind addends versions) file _ _ _ (entries_have addends versions file _ ∙ eq-eqb _ _ (c.requires.kind.typed file belongs)) _ _ (rw (entries_checks addends versions) (c.in_err-found.ensures.held file belongs))))

pub list_with_versions-requires : goal.list_with_versions-requires
list_with_versions-requires g c = record {
  kind = c.requires.kind.kind;
  below = c.requires.below;
  held = c.in_ok-found.ensures.held;
  table = c.in_ok-found.ensures.table;
  entry = c.in_ok-found.ensures.entry;
  within = c.in_ok-found.ensures.within;
  linked = c.in_ok-found.ensures.linked;
}

pub returns-then-listing : goal.returns-then-listing
returns-then-listing g c =
    subst (λ (v : Bool). ListsHeader (entries_part c.args.has_addends v) c.args.listing.now c.list_with_versions.new.listing c.list_with_versions.result c.args.index) (sym c.if-listing.true) c.list_with_versions.ensures

pub returns : goal.returns
unfolding relocations
returns g c =
    let f = c.args.listing.now.file in
    let cap = c.args.listing.now.style.cap.bytes in
    let style = style_of c.args.listing.now.style in
    let addends = c.args.has_addends in
    let entry = relocation_size addends in
    let plain = ListingCalls-within _ _ _ _ _ _ _ (table_plain _ entry _ _ (section_within (relocations addends) f.store.now c.args.index f.loaded.size _ cap entry (entry + (24 + name_bytes cap)) _ (eq-eqb _ _ c.requires.kind.kind) refl refl c.in_ok-found.ensures.table)) c.list_rows.ensures (λ file held.
    let belongs = c.args.listing.now.loaded.belongs file held in
    let at = section_at file c.args.index in
    let found = c.in_ok-found.ensures.held file belongs in
    WroteSome-as _ _ _ (table_passes (relocations addends) file style c.args.index at (eq-eqb _ _ (c.requires.kind.typed file belongs)) found.pass ∙ ap (each (relocation_row addends file style c.args.index at) 0) (sym found.counted))
    (c.list_rows.ensures.shows file held (λ some. (found.refers some, found.placed, tt)))) in
    subst (λ (v : Bool). ListsHeader (entries_part addends v) c.args.listing.now c.list_rows.new.listing c.list_rows.result c.args.index) (sym c.if-listing.false) plain
