-- The bytes that a name begins with, by where it is.
use Rattle.std.proofs.Common.{sym, ◌∙◌, arith}
use Rattle.elf_archive.specs.Members.{extent_of}
use Rattle.elf_archive.proofs.NameLaws.{data_located, elsewhere-data, elsewhere-table, field_located, in-data, line_located, long-none, long-outside, table_located}
use Rattle.elf_archive.proofs.name_fronts.name_front.Goals as goal

pub returns-in-Some-clause-front : goal.returns-in-Some-clause-front
returns-in-Some-clause-front c =
    let told = sym c.bsd_name_length.ensures.value ∙ c.in-Some.is in
    let taken = in-data c.args.field.now c.in-Some.size told in
    record {
      most = omega (arith, c.requires.small, c.min.ensures, c.from-most.ensures);
      few = tt;
      whole = tt;
      cost = rw (elsewhere-data c.args.field.now c.in-Some.size told) (omega (arith, c.min.ensures, c.from-most.ensures));
      lies = λ size within. omega (arith, taken, within, c.min.ensures);
    }

pub returns-in-Some-clause-located : goal.returns-in-Some-clause-located
returns-in-Some-clause-located c = λ file small is.
    let told = sym c.bsd_name_length.ensures.value ∙ c.in-Some.is in
    data_located file c.args.field.now c.args.cap c.args.at is _ c.in-Some.size c.min.result told (omega (arith, c.min.ensures, c.from-most.ensures))

pub returns-in_default-long_offset-clause-located : goal.returns-in_default-long_offset-clause-located
returns-in_default-long_offset-clause-located c = λ file small is.
    field_located file c.args.field.now c.args.cap c.args.at is _ (sym c.bsd_name_length.ensures.value ∙ c.in_default.is) (sym c.long_offset.ensures.value ∙ c.in_default-long_offset.is)

pub returns-in_default-names-clause-located : goal.returns-in_default-names-clause-located
returns-in_default-names-clause-located c = λ file small is.
    let other = sym c.bsd_name_length.ensures.value ∙ c.in_default.is in
    let told = sym c.long_offset.ensures.value ∙ c.in-Some-long_offset.is in
    rw c.in_default-names.is (table_located file c.args.field.now c.args.cap c.args.at is _ other c.in-Some-long_offset.offset told ∙ long-none file c.args.cap c.in-Some-long_offset.offset)

pub returns-then-offset-table-clause-located : goal.returns-then-offset-table-clause-located
returns-then-offset-table-clause-located c = λ file small is.
    let other = sym c.bsd_name_length.ensures.value ∙ c.in_default.is in
    let told = sym c.long_offset.ensures.value ∙ c.in-Some-long_offset.is in
    rw c.in-Some-names.is (table_located file c.args.field.now c.args.cap c.args.at is _ other c.in-Some-long_offset.offset told ∙ long-outside file c.args.cap c.in-Some-long_offset.offset _ c.if-offset-table.true)

pub returns-clause-front : goal.returns-clause-front
returns-clause-front c =
    let other = sym c.bsd_name_length.ensures.value ∙ c.in_default.is in
    let told = sym c.long_offset.ensures.value ∙ c.in-Some-long_offset.is in
    record {
      most = omega (arith, c.requires.small, c.min-2.ensures, c.from-most.ensures);
      few = omega (arith, c.min-2.ensures, c.from-most.ensures);
      whole = tt;
      cost = rw (elsewhere-table c.args.field.now c.in-Some-long_offset.offset other told) (omega (arith, c.min-2.ensures, c.from-most.ensures));
      lies = λ size within names.
          let table = rw c.in-Some-names.is at names.lies in
          omega (arith, table, c.saturating_add.ensures, c.min-2.ensures, c.if-offset-table.false);
    }

pub returns-clause-located : goal.returns-clause-located
returns-clause-located c = λ file small is.
    let other = sym c.bsd_name_length.ensures.value ∙ c.in_default.is in
    let told = sym c.long_offset.ensures.value ∙ c.in-Some-long_offset.is in
    rw c.in-Some-names.is
    (table_located file c.args.field.now c.args.cap c.args.at is _ other c.in-Some-long_offset.offset told
    ∙ line_located file (extent_of c.in-Some-names.table) c.in-Some-long_offset.offset c.args.cap c.min-2.result c.saturating_add.result 18446744073709551615 c.if-offset-table.false (omega (arith, c.min-2.ensures, c.from-most.ensures)) (omega (arith, small)) (omega (arith, c.saturating_add.ensures)))
