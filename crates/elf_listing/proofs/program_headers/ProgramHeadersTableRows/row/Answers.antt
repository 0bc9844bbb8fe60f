use Rattle.std.proofs.Common.{Ok, false, true, refl, ◌≡◌, ◌+◌, ◌*◌, ◌∙◌, arith}
use Rattle.std.proofs.lemmas.Result.{err_from_is_err_and}
use Rattle.elf_options.specs.Permitted.{style_of}
use Rattle.elf_model.specs.Prelude.{e_phoff, place_of_segment, segment_line}
use Rattle.elf_listing.proofs.Amounts.{part_of}
use Rattle.elf_listing.proofs.RowLaws.{WroteSome-as, line-hidden, line-shown, segment_is, Whole-line, WroteUntilStop-line}
use Rattle.elf_listing.proofs.SelectionLaws.{placed-as}
use Rattle.elf_listing.proofs.ListsLaws.{ListingCalls-nothing}
use Rattle.elf_listing.proofs.ShowLaws.{Whole-none}
use Rattle.elf_note.proofs.SpendsLaws.{SpendsAtMost-none}
use Rattle.elf_source.proofs.GrowthLaws.{grows_front}
use Rattle.elf_listing.proofs.program_headers.ProgramHeadersTableRows.row.Goals as goal

pub returns-in_err-put-clause-lists : goal.returns-in_err-put-clause-lists
returns-in_err-put-clause-lists g c = record {
  grows = grows_front c.in_err-put.ensures.puts.0;
  keeps = record { same_src = refl; same_out = refl; same_file = refl; same_style = refl };
  spent =
      let p = err_from_is_err_and c.from_residual.result c.from_residual.ensures.1 in
      rw (p.1, p.2) (SpendsAtMost-none _ _ _ _ (part_of _ _), c.in_err-put.ensures.puts.1);
  shows = λ file held at of_kind row.
      let p = err_from_is_err_and c.from_residual.result c.from_residual.ensures.1 in
      let decoded = c.decode-header.ensures.is_at file c.args.row.now.at (c.whole.ensures ∙ row.bytes) in
      let here : c.args.row.now.at ≡ e_phoff file + c.args.row.now.index * 56 = omega (arith, of_kind, row.here) in
      let shown = placed-as c.args.listing.now.style c.args.listing.now.style _ (place_of_segment file c.args.row.now.at) _ true refl (c.place_of_segment.ensures file decoded) c.is_place_shown.ensures c.if-not-is_place_shown.false in
      let line = c.deref.ensures.0 ∙ (rw c.requires.format at (c.segment_row.ensures file c.args.row.now.at decoded)) in
      rw (p.1, p.2, segment_is file _ (style_of c.args.listing.now.style) c.args.row.now.at c.args.row.now.index line here ∙ line-shown (style_of c.args.listing.now.style) (place_of_segment file c.args.row.now.at) _ shown) (WroteUntilStop-line _ c.in_err-put.ensures.puts.0);
}

pub returns-clause-lists : goal.returns-clause-lists
returns-clause-lists g c = record {
  grows = record { bytes = _; takes = c.in_ok-put.ensures.puts.0 };
  keeps = record { same_src = refl; same_out = refl; same_file = refl; same_style = refl };
  spent = (SpendsAtMost-none _ _ _ _ (part_of _ _), tt);
  shows = λ file held at of_kind row.
      let decoded = c.decode-header.ensures.is_at file c.args.row.now.at (c.whole.ensures ∙ row.bytes) in
      let here : c.args.row.now.at ≡ e_phoff file + c.args.row.now.index * 56 = omega (arith, of_kind, row.here) in
      let shown = placed-as c.args.listing.now.style c.args.listing.now.style _ (place_of_segment file c.args.row.now.at) _ true refl (c.place_of_segment.ensures file decoded) c.is_place_shown.ensures c.if-not-is_place_shown.false in
      let line = c.deref.ensures.0 ∙ (rw c.requires.format at (c.segment_row.ensures file c.args.row.now.at decoded)) in
      rw (segment_is file _ (style_of c.args.listing.now.style) c.args.row.now.at c.args.row.now.index line here ∙ line-shown (style_of c.args.listing.now.style) (place_of_segment file c.args.row.now.at) _ shown) (Whole-line _ c.in_ok-put.ensures.puts.0);
}

pub returns-then-not-is_place_shown-clause-lists : goal.returns-then-not-is_place_shown-clause-lists
returns-then-not-is_place_shown-clause-lists g c = ListingCalls-nothing _ _ _ _ (λ file held at of_kind row.
    let decoded = c.decode-header.ensures.is_at file c.args.row.now.at (c.whole.ensures ∙ row.bytes) in
    let here : c.args.row.now.at ≡ e_phoff file + c.args.row.now.index * 56 = omega (arith, of_kind, row.here) in
    let style = style_of c.args.listing.now.style in
    let hidden = placed-as c.args.listing.now.style c.args.listing.now.style _ (place_of_segment file c.args.row.now.at) _ false refl (c.place_of_segment.ensures file decoded) c.is_place_shown.ensures c.if-not-is_place_shown.true in
    WroteSome-as {X = Unit {0}} _ _ (Ok tt)
    (segment_is file (segment_line style.format style.gnu file c.args.row.now.at c.args.row.now.index) style c.args.row.now.at c.args.row.now.index refl here
    ∙ line-hidden style (place_of_segment file c.args.row.now.at) _ hidden)
    (Whole-none _))
