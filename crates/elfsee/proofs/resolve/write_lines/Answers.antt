-- What was written of a link, and then of the rest.
use Rattle.std.proofs.Common.{◌≡◌, ◌∙◌, ap, subst, sym}
use Rattle.std.specs.Io.Buffered.{writer_contents}
use Rattle.elfsee.specs.Links.{lines_end}
use Rattle.elfsee.proofs.resolve.write_lines.Goals as goal

pub returns : goal.returns
returns g c names listed named =
    let shown = c.show_link-shown in
    record {
      before = c.new-out.result;
      after = shown.new.out;
      shown = shown.result;
      last = c.into_inner-2.result;
      begins = c.new-out.ensures.taken ∙ ap (writer_contents g.W.Write.contents) c.new.ensures.writer;
      did = shown.ensures.writes names listed named;
      status = shown.ensures.status listed;
      is_at = sym (ap (writer_contents g.W.Write.contents) c.into_inner-2.ensures ∙ c.into_inner.ensures.taken);
      ends = subst (λ failed. c.lines_end.result ≡ lines_end shown.result failed) c.failed.ensures c.lines_end.ensures;
      rest = rw (sym c.is_ok.ensures.value) c.write_rest-rest.ensures;
    }
