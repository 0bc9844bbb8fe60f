-- The words of this crate, for one import elsewhere.
pub use Rattle.elf_cli.specs.Args.{AreArgs, IsUnread}
pub use Rattle.elf_cli.specs.Building.{IsArg, IsBuilt}
pub use Rattle.elf_cli.specs.CommandLine.{program}
pub use Rattle.elf_cli.specs.Endings.{EndsWords, ProgramEnds, PutsRest, wants_rest}
pub use Rattle.elf_cli.specs.Faults.{IsFaultOf, IsOneOf, IsUnasked}
pub use Rattle.elf_cli.specs.UsageFaults.{HasUsageFault, usage_fault, selects_rows}
pub use Rattle.elf_cli.specs.Lines.{GivesFront}
pub use Rattle.elf_cli.specs.Pieces.{pieces}
pub use Rattle.elf_cli.specs.Reading.{AreMatched, AreRead, AreRefused, AreRejected}
