use Rattle.std.proofs.Common.{◌≡◌, ◌+◌, Ok, refl, sym, ap, ◌∙◌, arith}
use Rattle.elf_model.specs.Prelude.{bytes_in}
use Rattle.elf_model.specs.declared.causes.Cause.TheVariants.{MemberCut}
use Rattle.elf_model.specs.Archive.{Broken}
use Rattle.elf_format.specs.Named.{shown_as}
use Rattle.elf_archive.specs.Prelude.{extent_in, extent_of, member_in, walk_at}
use Rattle.elf_archive.specs.declared.rows.MemberRow.{MemberRow}
use Rattle.elf_archive.proofs.MemberLaws.{data-none, next-ends, next-cut, next-member, next-unnamed, behind-is, size-short}
use Rattle.elf_archive.proofs.RowLaws.{flagged, flag_small}
use Rattle.elf_archive.proofs.rows.next_member.Goals as goal

pub returns-then-at-length : goal.returns-then-at-length
returns-then-at-length c = (refl, λ index. next-ends c.args.file.now 4096 (walk_at index c.args.members.now) c.if-at-length.true)

pub returns-then-left : goal.returns-then-left
returns-then-left c =
    let file = c.args.file.now in
    let place = c.args.members.now in (
      refl,
      λ index. next-cut file 4096 (walk_at index place) MemberCut (omega arith) (data-none file place.at (size-short file place.at (omega arith))) ∙ ap Broken (sym c.cut.ensures),
    )

pub returns-in_default : goal.returns-in_default
returns-in_default c =
    let file = c.args.file.now in
    let place = c.args.members.now in (
      refl,
      λ index. next-cut file 4096 (walk_at index place) MemberCut (omega arith) (c.in_default.ensures.extent file c.chunk_at-header.ensures (omega arith)) ∙ ap Broken (sym c.cut-in_default.ensures),
    )

pub returns-in-Err : goal.returns-in-Err
returns-in-Err c =
    let file = c.args.file.now in
    let place = c.args.members.now in
    let told = c.in-Some.ensures.extent file c.chunk_at-header.ensures (omega arith) in
    let cut = rw c.table_in.ensures at c.in-Err.ensures in
    (refl, λ index. next-unnamed file 4096 (extent_of c.in-Some.extent) (walk_at index place) c.in-Err.cause (omega arith) told cut)

pub returns : goal.returns
returns c =
    let file = c.args.file.now in
    let old = c.args.members.now in
    let new = c.pass.new.members in
    let name = c.in-Ok.name in
    let row : MemberRow = record { at = old.at; content = record { at = c.in-Some.extent.at; len = c.in-Some.extent.size }; name = name.place; is_cut = c.flag.result; none = 0 } in
    let told = c.in-Some.ensures.extent file c.chunk_at-header.ensures (omega arith) in
    let lies = c.in-Some.ensures.lies in
    let shown : shown_as name.is_cut (bytes_in file (extent_in name.place)) ≡ (member_in file 0 row).name =
    ap (λ cut. shown_as cut (bytes_in file (extent_in name.place))) (sym (flagged name.is_cut c.flag.result c.flag.ensures)) in
    let named = rw c.table_in.ensures at c.in-Ok.ensures.0 in
    record {
      member = λ index. next-member file 4096 (extent_of c.in-Some.extent) (walk_at index old) (member_in file index row).name (omega arith) told (named ∙ ap Ok shown);
      goes_on = λ index. behind-is file c.chunk_at-header.result.now (walk_at index old) (walk_at (index + 1) new) (member_in file index row) c.chunk_at-header.ensures c.pass.ensures.at refl c.pass.ensures.names;
      header = refl;
      content = omega (arith, lies);
      name = c.in-Ok.ensures.1;
      further = omega (arith, c.pass.ensures.at, c.in-Some.ensures.begins);
      flag = flag_small name.is_cut c.flag.result c.flag.ensures;
      nothing = (refl, c.pass.ensures.none);
    }
