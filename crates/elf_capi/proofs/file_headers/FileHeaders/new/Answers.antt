-- The headers in a file are its own.
use Rattle.elf_capi.proofs.RowsInPlace.{sections_in_place, segments_in_place}
use Rattle.elf_capi.proofs.file_headers.FileHeaders.new.Goals as goal

pub invariant_of-result : goal.invariant_of-result
invariant_of-result c =
    let file = c.args.file.now in
    let header = c.in_ok-header.header in
    let is = c.in_ok-header.ensures.1 in
    record {
      same = is;
      within = c.in-None.ensures.passes;
      sections = sections_in_place file header c.args.most is;
      segments = segments_in_place file header c.args.most is;
    }
