-- The file as it is, or with the section header fields of its header masked meanwhile.
use Rattle.std.proofs.Common.{refl, sym}
use Rattle.elf_model.specs.Style.{without_sections}
use Rattle.elf_model.proofs.StyleLemmas.{view_tells_of_none}
use Rattle.elf_options.specs.Permitted.{style_of}
use Rattle.elf_source.specs.Source.{MasksSectionHeaders}
use Rattle.elf_source.proofs.HidingLaws.{hidden_file}
use Rattle.elf_listing.proofs.HiddenLaws.{viewed_all, viewed_hidden, header_hidden, ListingCosts-hidden}
use Rattle.elf_listing.proofs.ViewedLaws.{not_by}
use Rattle.elf_listing.proofs.show_file.list_by_segments.Goals as goal

pub returns-then-not-style-clause-cost : goal.returns-then-not-style-clause-cost
returns-then-not-style-clause-cost g c = λ file held.
    rw (viewed_all (style_of c.args.style) file c.if-not-style.true) (c.list_by_sections.ensures.cost file held)

pub returns-then-not-style-clause-text : goal.returns-then-not-style-clause-text
returns-then-not-style-clause-text g c = λ file held.
    rw (viewed_all (style_of c.args.style) file c.if-not-style.true) (c.list_by_sections.ensures.text file held)

pub list_by_sections-listed-requires : goal.list_by_sections-listed-requires
list_by_sections-listed-requires g c = record {
  fits = rw c.mask_section_headers.ensures.same_size c.requires.fits;
  header = λ viewed held.
      let file = hidden_file c.mask_section_headers.ensures viewed held in
      rw file.2 (header_hidden file.0 c.args.header.now c.without_sections.result (c.requires.header file.0 file.1) (c.without_sections.ensures file.0));
  hidden = λ viewed held by. let file = hidden_file c.mask_section_headers.ensures viewed held in rw file.2 (view_tells_of_none file.0).1;
}

pub returns-clause-cost : goal.returns-clause-cost
returns-clause-cost g c = λ file held.
    let show : MasksSectionHeaders c.list_by_sections-listed.new.src c.mask_section_headers-2.new.self c.args.src.now.hides = rw (sym c.hides-hides.ensures) c.mask_section_headers-2.ensures in
    rw (viewed_hidden (style_of c.args.style) file c.if-not-style.false)
    (ListingCosts-hidden _ c.list_by_sections-listed.result _ c.mask_section_headers.ensures show
    (c.list_by_sections-listed.ensures.cost (without_sections file) (c.mask_section_headers.ensures.shows refl file held)))

pub returns-clause-text : goal.returns-clause-text
returns-clause-text g c = λ file held.
    rw (viewed_hidden (style_of c.args.style) file c.if-not-style.false)
    (c.list_by_sections-listed.ensures.text (without_sections file) (c.mask_section_headers.ensures.shows refl file held))

pub list_by_sections-requires : goal.list_by_sections-requires
list_by_sections-requires g c = record {
  fits = c.requires.fits;
  header = c.requires.header;
  hidden = λ file held by. absurd (not_by c.args.style.by_segments c.if-not-style.true by);
}

pub returns-then-not-style-clause-below : goal.returns-then-not-style-clause-below
returns-then-not-style-clause-below g c = c.list_by_sections.ensures.below

pub returns-then-not-style-clause-grows : goal.returns-then-not-style-clause-grows
returns-then-not-style-clause-grows g c = c.list_by_sections.ensures.grows

pub returns-clause-grows : goal.returns-clause-grows
returns-clause-grows g c = c.list_by_sections-listed.ensures.grows

pub returns-then-not-style-clause-row : goal.returns-then-not-style-clause-row
returns-then-not-style-clause-row g c = λ file held.
    rw (viewed_all (style_of c.args.style) file c.if-not-style.true) (c.list_by_sections.ensures.row file held)

pub returns-clause-row : goal.returns-clause-row
returns-clause-row g c = λ file held.
    rw (viewed_hidden (style_of c.args.style) file c.if-not-style.false)
    (c.list_by_sections-listed.ensures.row (without_sections file) (c.mask_section_headers.ensures.shows refl file held))
