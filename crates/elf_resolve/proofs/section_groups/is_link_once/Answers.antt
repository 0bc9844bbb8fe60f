use Rattle.elf_resolve.proofs.SectionGroupLaws.{link_once-by}
use Rattle.elf_resolve.proofs.section_groups.is_link_once.Goals as goal

pub returns-then-header-eq0 : goal.returns-then-header-eq0
returns-then-header-eq0 c = λ file at is. link_once-by file at c.args.header.now c.args.name.now c.starts_with.result is c.if-header-eq0.true c.starts_with.ensures.value
