-- A new source over all bytes of an archive is whole, and hides nothing; what its listing did ends
-- the program.
use Rattle.std.proofs.Common.{◌∙◌, ap, sym}
use Rattle.std.specs.Io.Buffered.{writer_contents}
use Rattle.elfsee.proofs.EndLaws.{all_below, archive_runs}
use Rattle.elfsee.proofs.archives.write_archive.Goals as goal

pub show_archive-listed-requires-clause-whole : goal.show_archive-listed-requires-clause-whole
show_archive-listed-requires-clause-whole g c = record {
  whole = rw (c.new-src.ensures.seen) c.new.ensures.whole;
  shows = c.new-src.ensures.shows;
}

pub returns : goal.returns
returns g c =
    let listed = c.show_archive-listed in
    let room = c.into_inner.ensures.room ∙ (listed.ensures.grows.takes.room ∙ (c.new-out.ensures.room ∙ (c.new-3.ensures.room.0 ∙ c.requires.none))) in
    let empty = c.into_inner-sink.ensures.none room in
    record {
      old = c.new-src.result;
      new = listed.new.src;
      same_size = rw (c.new-src.ensures.seen) c.new.ensures.size;
      same_file = rw (c.new-src.ensures.seen) c.new.ensures.file;
      unasked = c.new-src.ensures.asked;
      before = c.new-out.result;
      after = listed.new.out;
      answer = c.archive_status.result;
      begins = c.new-out.ensures.taken ∙ (all_below _ _ c.new-3.ensures.held ∙ (c.new-3.ensures.below ∙ ap (writer_contents g.W.Write.contents) c.new-2.ensures.writer));
      did = archive_runs c.args.caps c.args.parts.0 c.new-src.result listed.new.src c.new-out.result listed.new.out listed.result c.archive_status.result
          c.archive_status.ensures.refused c.archive_status.ensures.status listed.ensures.grows listed.ensures.leaves listed.ensures.says listed.ensures.text listed.ensures.cost listed.ensures.asks;
      last = c.into_inner-2.result;
      is_at = sym (ap (writer_contents g.W.Write.contents) c.into_inner-2.ensures
          ∙ (c.into_inner-sink.ensures.below ∙ (sym (all_below c.into_inner.result.below c.into_inner.result.held empty) ∙ c.into_inner.ensures.taken)));
      ends = c.end_answer.ensures.ends;
      rest = c.end_answer.ensures.rest;
    }
