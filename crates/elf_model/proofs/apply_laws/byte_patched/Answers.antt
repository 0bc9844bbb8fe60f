use Rattle.elf_model.proofs.PatchLaws.{byte_patched}
use Rattle.elf_model.proofs.apply_laws.byte_patched.Goals as goal

pub returns : goal.returns
returns c = byte_patched
