use Rattle.std.proofs.Common.{subst}
use Rattle.elf_resolve.specs.LibraryFiles.{HoldsSomeDynamic}
use Rattle.elf_resolve.proofs.TakenLibraryLaws.{name_none}
use Rattle.elf_resolve.proofs.asked_libraries.own_name_of.Goals as goal

pub returns-in-None : goal.returns-in-None
returns-in-None c = λ file header held. name_none file c.args.strings.now.bytes header (subst (HoldsSomeDynamic file c.args.strings.now.bytes header) c.in-None.is held)
