use Rattle.elf_model.proofs.PatchLaws.{window_patched}
use Rattle.elf_model.proofs.apply_laws.window_patched.Goals as goal

pub returns : goal.returns
returns c = window_patched
