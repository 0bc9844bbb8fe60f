-- By the magic, and the byte order.
use Rattle.std.proofs.Common.{◌%◌, ◌==◌, get_or, refl, sym, ◌∙◌, arith}
use Rattle.elf_library.proofs.CacheLaws.{new-header-is, or-other}
use Rattle.elf_library.proofs.cache_table.is_new_header.Goals as goal

pub returns-then-header-eq0 : goal.returns-then-header-eq0
returns-then-header-eq0 c =
    rw (new-header-is c.args.header.now (omega (arith, c.fits-header)) (sym c.starts_with.ensures.value ∙ c.if-starts_with.true), c.if-header-eq0.true) refl

pub returns-else-header-eq0 : goal.returns-else-header-eq0
returns-else-header-eq0 c =
    let order = get_or c.args.header.now 28 0 in
    rw (new-header-is c.args.header.now (omega (arith, c.fits-header)) (sym c.starts_with.ensures.value ∙ c.if-starts_with.true), or-other order (order % 4 == 2) c.if-header-eq0.false) refl
