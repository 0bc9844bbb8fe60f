-- The name is that of a version, unless the flags say otherwise.
use Rattle.elf_resolve.proofs.VersionPlaceLaws.{eq_true}
use Rattle.elf_resolve.proofs.version_names.set_defined.Goals as goal

pub returns-then-flags-eq0 : goal.returns-then-flags-eq0
returns-then-flags-eq0 c = λ bytes known is small held text.
    rw (eq_true _ _ c.if-flags-eq0.true) (c.set_name.ensures bytes known is small held text)
