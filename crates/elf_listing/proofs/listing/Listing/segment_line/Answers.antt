-- The program header in the store is the file's.
use Rattle.std.proofs.Common.{◌≡◌, Ok, false, true, refl, ap, ◌∙◌, arith}
use Rattle.std.proofs.lemmas.Result.{err_from_is_err_and}
use Rattle.elf_options.specs.Permitted.{style_of}
use Rattle.elf_model.specs.Prelude.{place_of_segment, segment_at, segment_line}
use Rattle.elf_listing.proofs.Amounts.{part_of, some_of}
use Rattle.elf_listing.proofs.RowLaws.{WroteSome-as, line-hidden, line-shown, Whole-line, WroteUntilStop-line}
use Rattle.elf_listing.proofs.SelectionLaws.{placed-as}
use Rattle.elf_listing.proofs.ListsLaws.{ListingCalls-nothing}
use Rattle.elf_listing.proofs.ShowLaws.{Whole-none}
use Rattle.elf_listing.proofs.SegmentShown.{segment_line_is, views}
use Rattle.elf_note.proofs.SpendsLaws.{SpendsAtMost-none}
use Rattle.elf_source.proofs.GrowthLaws.{grows_front}
use Rattle.elf_listing.proofs.listing.Listing.segment_line.Goals as goal

pub returns-in_err-put : goal.returns-in_err-put
returns-in_err-put g c = record {
  grows = grows_front c.in_err-put.ensures.puts.0;
  keeps = record { same_src = refl; same_out = refl; same_file = refl; same_style = refl };
  spent =
      let p = err_from_is_err_and c.from_residual.result c.from_residual.ensures.1 in
      rw (p.1, p.2) (SpendsAtMost-none _ _ _ _ (part_of _ _), c.in_err-put.ensures.puts.1);
  shows = λ file held.
      let p = err_from_is_err_and c.from_residual.result c.from_residual.ensures.1 in
      let viewed = views file _ _ _ (c.args.self.now.loaded.belongs file held) c.args.self.now.viewed held (some_of c.requires.below) in
      let is_at = c.segment-header.ensures.is_at file (rw (c.view.ensures.loaded, c.view.ensures.store) viewed) in
      let told = rw c.view-2.ensures.loaded at c.place-place.ensures.value in
      let at : c.place-place.result ≡ segment_at file c.args.segment = omega (arith, told, (c.args.self.now.loaded.belongs file held).header.e_phoff) in
      let placed = c.place_of_segment.ensures file (rw at is_at) in
      let shown = placed-as c.args.self.now.style c.args.self.now.style _ (place_of_segment file (segment_at file c.args.segment)) _ true refl (placed ∙ ap (place_of_segment file) at) c.shows.ensures c.if-not-shows.false in
      let line = c.deref.ensures.0 ∙ (rw c.requires.format at (c.segment_row.ensures file (segment_at file c.args.segment) is_at)) in
      rw (p.1, p.2, segment_line_is file _ (style_of c.args.self.now.style) c.args.segment line ∙ line-shown (style_of c.args.self.now.style) (place_of_segment file (segment_at file c.args.segment)) _ shown) (WroteUntilStop-line _ c.in_err-put.ensures.puts.0);
}

pub returns : goal.returns
returns g c = record {
  grows = record { bytes = _; takes = c.in_ok-put.ensures.puts.0 };
  keeps = record { same_src = refl; same_out = refl; same_file = refl; same_style = refl };
  spent = (SpendsAtMost-none _ _ _ _ (part_of _ _), tt);
  shows = λ file held.
      let viewed = views file _ _ _ (c.args.self.now.loaded.belongs file held) c.args.self.now.viewed held (some_of c.requires.below) in
      let is_at = c.segment-header.ensures.is_at file (rw (c.view.ensures.loaded, c.view.ensures.store) viewed) in
      let told = rw c.view-2.ensures.loaded at c.place-place.ensures.value in
      let at : c.place-place.result ≡ segment_at file c.args.segment = omega (arith, told, (c.args.self.now.loaded.belongs file held).header.e_phoff) in
      let placed = c.place_of_segment.ensures file (rw at is_at) in
      let shown = placed-as c.args.self.now.style c.args.self.now.style _ (place_of_segment file (segment_at file c.args.segment)) _ true refl (placed ∙ ap (place_of_segment file) at) c.shows.ensures c.if-not-shows.false in
      let line = c.deref.ensures.0 ∙ (rw c.requires.format at (c.segment_row.ensures file (segment_at file c.args.segment) is_at)) in
      rw (segment_line_is file _ (style_of c.args.self.now.style) c.args.segment line ∙ line-shown (style_of c.args.self.now.style) (place_of_segment file (segment_at file c.args.segment)) _ shown) (Whole-line _ c.in_ok-put.ensures.puts.0);
}

pub returns-then-not-shows : goal.returns-then-not-shows
returns-then-not-shows g c = ListingCalls-nothing _ _ _ _ (λ file held.
    let viewed = views file _ _ _ (c.args.self.now.loaded.belongs file held) c.args.self.now.viewed held (some_of c.requires.below) in
    let is_at = c.segment-header.ensures.is_at file (rw (c.view.ensures.loaded, c.view.ensures.store) viewed) in
    let told = rw c.view-2.ensures.loaded at c.place-place.ensures.value in
    let at : c.place-place.result ≡ segment_at file c.args.segment = omega (arith, told, (c.args.self.now.loaded.belongs file held).header.e_phoff) in
    let placed = c.place_of_segment.ensures file (rw at is_at) in
    let style = style_of c.args.self.now.style in
    let hidden = placed-as c.args.self.now.style c.args.self.now.style _ (place_of_segment file (segment_at file c.args.segment)) _ false refl (placed ∙ ap (place_of_segment file) at) c.shows.ensures c.if-not-shows.true in
    WroteSome-as {X = Unit {0}} _ _ (Ok tt)
    (segment_line_is file (segment_line style.format style.gnu file (segment_at file c.args.segment) c.args.segment) style c.args.segment refl
    ∙ line-hidden style (place_of_segment file (segment_at file c.args.segment)) _ hidden)
    (Whole-none _))
