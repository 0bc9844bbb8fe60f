use Rattle.std.proofs.Common.{◌∙◌, ap, refl}
use Rattle.elf_model.specs.Fixtures.{with_bytes}
use Rattle.elf_model.proofs.OnLiterals.{on_literals}
use Rattle.elf_fixtures.proofs.relocations.falling_relocations.Goals as goal

pub returns : goal.returns
unfolding on_literals
returns c = c.with_bytes.ensures ∙ (ap (with_bytes 0xf0 _) c.rising_relocations.ensures ∙ refl)
