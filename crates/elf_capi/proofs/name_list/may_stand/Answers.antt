-- A name is allowed if it can be looked up, and is not below the one before it.
use Rattle.std.proofs.Common.{arith}
use Rattle.elf_capi.proofs.NameLaws.{no_name_stands, stands_by}
use Rattle.elf_capi.proofs.name_list.may_stand.Goals as goal

pub returns-else-i-eq0 : goal.returns-else-i-eq0
returns-else-i-eq0 c =
    stands_by c.args.versions c.args.names.now c.args.i c.name_at-name.result.now c.name_at.result.now c.requires (omega (arith, c.if-i-eq0.false)) c.name_at-name.ensures c.name_at.ensures
    c.is_below.result c.is_below.ensures (c.is_valid_row_name.ensures.yes c.if-is_valid_row_name.true)

pub returns-else-is_valid_row_name : goal.returns-else-is_valid_row_name
returns-else-is_valid_row_name c =
    rw c.if-is_valid_row_name.false (no_name_stands c.args.versions c.args.names.now c.args.i c.name_at-name.result.now c.requires c.name_at-name.ensures (c.is_valid_row_name.ensures.no c.if-is_valid_row_name.false))
