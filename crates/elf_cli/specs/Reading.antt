-- How the command line parses arguments.
use Rattle.std.specs.Prelude.{◌≡◌, List, [], Option}
use Rattle.clap.specs.Walk.{Row, Text}
use Rattle.clap.specs.Simple.{subcommand_of}
use Rattle.clap.specs.Faults.{fault_of}
use Rattle.elf_cli.specs.CommandLine.{program, spelled}
use Rattle.elf_cli.specs.Faults.{IsOneOf}
use Rattle.elf_cli.specs.declared.faults.RequestFault.{RequestFault}

-- the command line accepts these arguments, and parses them to this command with the values of its
-- arguments
pub record AreMatched (words : List Text) (matches : Option (Text × List Row)) : Type 0 where
  pub taken : fault_of program words ≡ []
  pub made : subcommand_of program words ≡ matches

-- it rejects them: this is one of its faults for them
pub record AreRejected (words : List Text) (fault : RequestFault) : Type 0 where
  pub among : IsOneOf (fault_of program words) fault

-- WHAT ARGUMENTS ARE READ AS: as these are matched or rejected
abbrev pub AreRead : List Text → Option (Text × List Row) → Type 0
AreRead words = AreMatched (spelled words)

abbrev pub AreRefused : List Text → RequestFault → Type 0
AreRefused words = AreRejected (spelled words)
