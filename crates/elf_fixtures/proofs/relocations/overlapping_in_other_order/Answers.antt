use Rattle.std.proofs.Common.{◌∙◌, ap, refl}
use Rattle.elf_model.specs.Fixtures.{with_bytes}
use Rattle.elf_model.proofs.OnLiterals.{on_literals}
use Rattle.elf_fixtures.proofs.relocations.overlapping_in_other_order.Goals as goal

pub returns : goal.returns
unfolding on_literals
returns c = c.with_bytes.ensures ∙ (ap (with_bytes 0x48 _) c.overlapping_relocations.ensures ∙ refl)
