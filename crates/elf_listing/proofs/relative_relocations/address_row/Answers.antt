-- An address past the last one is refused; any other has a row, if it is selected.
use Rattle.std.proofs.Common.{false, true, refl, sym, ap, ◌∙◌, Ok, arith}
use Rattle.elf_options.specs.Permitted.{style_of}
use Rattle.elf_model.specs.Prelude.{LinePrefix, NoSuffix, named_row, no_name, place_of_relr, placed_choice, relr_prefix, relr_row}
use Rattle.elf_model.specs.Names.DisplayedName.{Whole as ShownWhole}
use Rattle.elf_note.proofs.SpendsLaws.{SpendsAtMost-none}
use Rattle.elf_source.proofs.GrowthLaws.{grows_not}
use Rattle.elf_table.specs.declared.names.NameEnd.TheVariants.{Whole}
use Rattle.elf_table.specs.Prelude.{shown_by}
use Rattle.elf_listing.proofs.Amounts.{part_of}
use Rattle.elf_listing.proofs.RelativeShown.{address_is, address_refused, refused_word}
use Rattle.elf_listing.proofs.RowLaws.{WroteSome-as, chosen-hidden, chosen-shown}
use Rattle.elf_listing.proofs.SelectionLaws.{placed-chosen-as}
use Rattle.elf_listing.proofs.ShowLaws.{Whole-none}
use Rattle.elf_listing.proofs.relative_relocations.address_row.Goals as goal

pub returns-then-address-gt-MAX_ADDRESS : goal.returns-then-address-gt-MAX_ADDRESS
returns-then-address-gt-MAX_ADDRESS g c =
    let word = c.args.word.now in
    refused_word c.args.listing.now word.at (λ file. relr_row file (style_of c.args.listing.now.style) word.section word.at c.args.address) (λ file.
    address_refused file (style_of c.args.listing.now.style) word.section word.at c.args.address c.if-address-gt-MAX_ADDRESS.true)

pub returns-then-not-is_row_shown : goal.returns-then-not-is_row_shown
returns-then-not-is_row_shown g c = record {
  grows = grows_not _;
  keeps = record { same_src = refl; same_out = refl; same_file = refl; same_style = refl };
  spent = (SpendsAtMost-none _ _ _ _ (part_of _ _), tt);
  shows = λ file held.
      let word = c.args.word.now in
      let style = c.args.listing.now.style in
      let here = place_of_relr file word.at c.args.address in
      let choice = placed_choice (style_of style) here (style_of style).choice in
      let name = sym (ap (λ bytes. Ok (ShownWhole bytes)) c.clear.ensures) in
      let hidden = placed-chosen-as style style _ here (shown_by Whole c.clear.new.self) NoSuffix _ false refl (c.place_of_relr-place.ensures file (c.file_type.ensures file held)) c.is_row_shown.ensures c.if-not-is_row_shown.true in
      WroteSome-as {X = Unit {0}} _ _ (Ok tt)
      (address_is file (style_of style) word.section word.at c.args.address (omega (arith, c.if-address-gt-MAX_ADDRESS.false))
      ∙ chosen-hidden choice (relr_prefix style.format c.args.address word.section) word.at Whole c.clear.new.self no_name name hidden)
      (Whole-none _);
}

pub returns : goal.returns
returns g c =
    let e = c.named_line.ensures in
    let keeps = e.keeps in
    record {
      grows = e.grows;
      keeps = record { same_src = keeps.same_src; same_out = keeps.same_out; same_file = keeps.same_file; same_style = keeps.same_style };
      spent = e.spent;
      shows = λ file held.
          let word = c.args.word.now in
          let style = c.args.listing.now.style in
          let here = place_of_relr file word.at c.args.address in
          let choice = placed_choice (style_of style) here (style_of style).choice in
          let name = sym (ap (λ bytes. Ok (ShownWhole bytes)) c.clear.ensures) in
          let shown = placed-chosen-as style style _ here (shown_by Whole c.clear.new.self) NoSuffix _ true refl (c.place_of_relr-place.ensures file (c.file_type.ensures file held)) c.is_row_shown.ensures c.if-not-is_row_shown.false in
          let front = rw c.requires.format at c.relr_prefix.ensures.front in
          WroteSome-as _ _ _
          (address_is file (style_of style) word.section word.at c.args.address (omega (arith, c.if-address-gt-MAX_ADDRESS.false))
          ∙ (chosen-shown choice (relr_prefix style.format c.args.address word.section) word.at Whole c.clear.new.self no_name name shown
          ∙ ap (λ (f : LinePrefix). named_row f word.at no_name) (sym front)))
          (e.shows word.at no_name name);
    }
