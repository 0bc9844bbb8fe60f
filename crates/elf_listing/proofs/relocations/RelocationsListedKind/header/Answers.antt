-- Entries with addends are listed, and in GNU listings those without and relative relocations.
use Rattle.std.proofs.Common.{Bool, true, Ok, sym, ◌∙◌, subst}
use Rattle.std.proofs.lemmas.Bool.{eq-eqb, ne_eqb}
use Rattle.elf_options.specs.Permitted.{style_of}
use Rattle.elf_model.specs.Prelude.{entries_kind, section_at}
use Rattle.elf_model.proofs.RelativeKinds.{entries_have}
use Rattle.elf_listing.specs.HeadersListed.{ListsHeader}
use Rattle.elf_listing.specs.Prelude.{relocations_part}
use Rattle.elf_listing.proofs.ListsLaws.{ListingCalls-nothing}
use Rattle.elf_listing.proofs.RelativeShown.{further, with_addends}
use Rattle.elf_listing.proofs.SectionShown.{no_table}
use Rattle.elf_listing.proofs.relocations.RelocationsListedKind.header.Goals as goal

pub list_entries-requires-clause-kind : goal.list_entries-requires-clause-kind
list_entries-requires-clause-kind g c = record {
  kind = sym c.section.ensures.fields.sh_type ∙ c.if-section-eq-SHT_RELA.true;
  typed = λ bytes belongs. sym (c.section.ensures.is_at bytes belongs).sh_type ∙ c.if-section-eq-SHT_RELA.true;
}

pub returns-then-section-eq-SHT_RELA : goal.returns-then-section-eq-SHT_RELA
returns-then-section-eq-SHT_RELA g c =
    with_addends c.args.listing.now.style.versions _ _ _ c.args.index c.args.listing.now.style.gnu
    (eq-eqb _ _ (sym c.section.ensures.fields.sh_type ∙ c.if-section-eq-SHT_RELA.true))
    (λ file held. eq-eqb _ _ (sym (c.section.ensures.is_at file (c.args.listing.now.loaded.belongs file held)).sh_type ∙ c.if-section-eq-SHT_RELA.true))
    c.list_entries.ensures

pub returns-then-not-listing : goal.returns-then-not-listing
returns-then-not-listing g c =
    let versions = c.args.listing.now.style.versions in
    subst (λ (gnu : Bool). ListsHeader {X = Unit {0}} (relocations_part gnu versions) c.args.listing.now c.args.listing.now (Ok tt) c.args.index) (sym c.if-not-listing.true)
    (ListingCalls-nothing _ _ _ _ (λ file held.
    let at = section_at file c.args.index in
    let is_at = c.section.ensures.is_at file (c.args.listing.now.loaded.belongs file held) in
    no_table (entries_kind true versions) file (style_of c.args.listing.now.style) c.args.index at _
    (entries_have true versions file at ∙ ne_eqb _ _ (λ same. c.if-section-eq-SHT_RELA.false (is_at.sh_type ∙ same)))))

pub returns : goal.returns
returns g c =
    let versions = c.args.listing.now.style.versions in
    subst (λ (gnu : Bool). ListsHeader (relocations_part gnu versions) c.args.listing.now c.list_further.new.listing c.list_further.result c.args.index) (sym c.if-not-listing.false)
    (further versions _ _ _ c.args.index
    (ne_eqb _ _ (λ same. c.if-section-eq-SHT_RELA.false (c.section.ensures.fields.sh_type ∙ same)))
    (λ file held. ne_eqb _ _ (λ same. c.if-section-eq-SHT_RELA.false ((c.section.ensures.is_at file (c.args.listing.now.loaded.belongs file held)).sh_type ∙ same)))
    c.list_further.ensures)
