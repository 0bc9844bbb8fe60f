use Rattle.std.proofs.Common.{Ok, false, true, refl, sym, ap, ◌∙◌}
use Rattle.std.proofs.lemmas.Result.{err_from_is_err_and}
use Rattle.elf_options.specs.Permitted.{style_of}
use Rattle.elf_model.specs.Prelude.{LinePrefix, note_line, note_prefix, padded_size, place_of_record, placed_line}
use Rattle.elf_listing.proofs.Amounts.{part_of}
use Rattle.elf_listing.specs.Notes.{align_of}
use Rattle.elf_listing.proofs.SelectionLaws.{placed-as}
use Rattle.elf_listing.proofs.ListsLaws.{ListingCalls-nothing}
use Rattle.elf_listing.proofs.ShowLaws.{Whole-none}
use Rattle.elf_format.specs.Named.{shown_as}
use Rattle.elf_listing.proofs.NotesShown.{named_as, note_is, note_place}
use Rattle.elf_listing.proofs.RowLaws.{WroteSome-as, line-hidden, line-shown, Whole-line, WroteUntilStop-line}
use Rattle.elf_note.proofs.SpendsLaws.{SpendsAtMost-none}
use Rattle.elf_listing.proofs.listing.Listing.note_line.Goals as goal

pub returns-in_err-show_note : goal.returns-in_err-show_note
returns-in_err-show_note g c = record {
  grows = c.in_err-show_note.ensures.grows;
  keeps = record { same_src = refl; same_out = refl; same_file = refl; same_style = refl };
  spent =
      let p = err_from_is_err_and c.from_residual.result c.from_residual.ensures.1 in
      rw (p.1, p.2) (SpendsAtMost-none _ _ _ _ (part_of _ _), c.in_err-show_note.ensures.fails);
  shows = λ given is.
      let p = err_from_is_err_and c.from_residual.result c.from_residual.ensures.1 in
      let here = place_of_record given.at (padded_size (align_of c.args.is_wide) given.note) in
      let placed = placed-as c.args.self.now.style c.args.self.now.style _ here _ true refl (c.place_of_note-place.ensures ∙ note_place (align_of c.args.is_wide) _ given _ _ is) c.shows.ensures c.if-not-shows.false in
      let front = rw c.requires.format at c.note_prefix.ensures.front in
      let shown = named_as _ _ _ is.named ∙ ap (λ b. shown_as b c.args.self.now.name) (sym c.is_cut-is_cut.ensures)
      ∙ ap (shown_as c.is_cut-is_cut.result) (sym c.bytes-name.ensures.value) in
      let puts = c.in_err-show_note.ensures.puts given.note.descriptor (record { first_is = is.first_bytes; size_is = is.descsz }) in
      let line = note_is (style_of c.args.self.now.style) c.args.index (align_of c.args.is_wide) _ _ _ _ given is.kind is.namesz is.descsz shown
      ∙ ap (λ f. placed_line (style_of c.args.self.now.style) here (note_line f c.args.row.now.head.kind (shown_as c.is_cut-is_cut.result c.bytes-name.result.now) given.note.descriptor)) (sym front)
      ∙ line-shown (style_of c.args.self.now.style) here _ placed in
      rw (p.1, p.2, line) (WroteUntilStop-line _ puts.0);
}

pub returns : goal.returns
returns g c = record {
  grows = c.in_ok-show_note.ensures.grows;
  keeps = record { same_src = refl; same_out = refl; same_file = refl; same_style = refl };
  spent = (SpendsAtMost-none _ _ _ _ (part_of _ _), tt);
  shows = λ given is.
      let here = place_of_record given.at (padded_size (align_of c.args.is_wide) given.note) in
      let placed = placed-as c.args.self.now.style c.args.self.now.style _ here _ true refl (c.place_of_note-place.ensures ∙ note_place (align_of c.args.is_wide) _ given _ _ is) c.shows.ensures c.if-not-shows.false in
      let front = rw c.requires.format at c.note_prefix.ensures.front in
      let shown = named_as _ _ _ is.named ∙ ap (λ b. shown_as b c.args.self.now.name) (sym c.is_cut-is_cut.ensures)
      ∙ ap (shown_as c.is_cut-is_cut.result) (sym c.bytes-name.ensures.value) in
      let puts = c.in_ok-show_note.ensures.puts given.note.descriptor (record { first_is = is.first_bytes; size_is = is.descsz }) in
      let line = note_is (style_of c.args.self.now.style) c.args.index (align_of c.args.is_wide) _ _ _ _ given is.kind is.namesz is.descsz shown
      ∙ ap (λ f. placed_line (style_of c.args.self.now.style) here (note_line f c.args.row.now.head.kind (shown_as c.is_cut-is_cut.result c.bytes-name.result.now) given.note.descriptor)) (sym front)
      ∙ line-shown (style_of c.args.self.now.style) here _ placed in
      rw line (Whole-line _ puts.0);
}

pub returns-then-not-shows : goal.returns-then-not-shows
returns-then-not-shows g c = ListingCalls-nothing _ _ _ _ (λ given is.
    let style = style_of c.args.self.now.style in
    let here = place_of_record given.at (padded_size (align_of c.args.is_wide) given.note) in
    let hidden = placed-as c.args.self.now.style c.args.self.now.style _ here _ false refl (c.place_of_note-place.ensures ∙ note_place (align_of c.args.is_wide) _ given _ _ is) c.shows.ensures c.if-not-shows.true in
    WroteSome-as {X = Unit {0}} _ _ (Ok tt)
    (note_is style c.args.index (align_of c.args.is_wide) _ _ _ _ given refl refl refl refl ∙ line-hidden style here _ hidden)
    (Whole-none _))

pub show_note-requires-clause-format : goal.show_note-requires-clause-format
unfolding note_prefix
show_note-requires-clause-format g c = ap (λ (p : LinePrefix). p.format) c.note_prefix.ensures.front
