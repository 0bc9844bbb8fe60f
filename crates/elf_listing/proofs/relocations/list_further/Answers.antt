-- The type of the section says which of the two kinds its table is of.
use Rattle.std.proofs.Common.{sym, ◌∙◌}
use Rattle.std.proofs.lemmas.Bool.{eq-eqb, ne_eqb}
use Rattle.elf_listing.proofs.RelativeShown.{relative, without_addends}
use Rattle.elf_listing.proofs.relocations.list_further.Goals as goal

pub list_entries-requires-clause-kind : goal.list_entries-requires-clause-kind
list_entries-requires-clause-kind g c = record {
  kind = sym c.section.ensures.fields.sh_type ∙ c.if-section-eq-SHT_REL.true;
  typed = λ bytes belongs. sym (c.section.ensures.is_at bytes belongs).sh_type ∙ c.if-section-eq-SHT_REL.true;
}

pub returns-then-section-eq-SHT_REL : goal.returns-then-section-eq-SHT_REL
returns-then-section-eq-SHT_REL g c =
    without_addends c.args.listing.now.style.versions _ _ _ c.args.index
    (eq-eqb _ _ (sym c.section.ensures.fields.sh_type ∙ c.if-section-eq-SHT_REL.true))
    (λ file held. eq-eqb _ _ (sym (c.section.ensures.is_at file (c.args.listing.now.loaded.belongs file held)).sh_type ∙ c.if-section-eq-SHT_REL.true))
    c.list_entries.ensures

pub returns : goal.returns
returns g c =
    relative c.args.listing.now.style.versions _ _ _ c.args.index
    (ne_eqb _ _ (λ same. c.if-section-eq-SHT_REL.false (c.section.ensures.fields.sh_type ∙ same)))
    (λ file held. ne_eqb _ _ (λ same. c.if-section-eq-SHT_REL.false ((c.section.ensures.is_at file (c.args.listing.now.loaded.belongs file held)).sh_type ∙ same)))
    c.list_relative.ensures
