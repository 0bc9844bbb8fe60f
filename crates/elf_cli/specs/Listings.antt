-- The listings of one file that arguments request, and the version of the program.
use Rattle.std.specs.Prelude.{◌≡◌, Bool, true, false, not, ◌&&◌, ◌⊎◌, List, Option, None}
use Rattle.clap.specs.Walk.{Row, Text}
use Rattle.elf_cli.specs.Args.{AreArgs, IsUnread}
use Rattle.elf_cli.specs.Faults.{IsUnasked}
use Rattle.elf_cli.specs.UsageFaults.{HasUsageFault, usage_fault, selects_rows}
use Rattle.elf_cli.specs.Reading.{AreRead, AreRefused}
use Rattle.elf_cli.specs.declared.command_args.CommandArgs.{CommandArgs}
use Rattle.elf_cli.specs.declared.command_args.CommandName.{CommandName}
use Rattle.elf_cli.specs.declared.command_args.CommandName.TheVariants.{Show, Sample, Version}
use Rattle.elf_cli.specs.declared.faults.RequestFault.{RequestFault}

abbrev lists_one : CommandName → Bool
lists_one Show = true
lists_one Sample = true
lists_one Version = true
lists_one command = false

-- whether arguments request a listing of one file, of all its rows, or the version
abbrev pub is_listing : CommandArgs → Bool
is_listing args = lists_one args.command && not (selects_rows args)

-- a command with the values of its arguments is such a request, without a fault
pub record ListsBy (matches : Option (Text × List Row)) (args : CommandArgs) : Type 0 where
  pub read : AreArgs matches args
  pub listed : is_listing args ≡ true
  pub whole : usage_fault args ≡ None

-- why a request is refused: it is no such, or has the fault that is reported
abbrev pub IsNoListing : CommandArgs → RequestFault → Type 0
IsNoListing args reported = ((is_listing args ≡ false) × IsUnasked reported) ⊎ HasUsageFault args reported

-- the arguments are not read, or the request that they are is refused
abbrev pub ListsNothing : Option (Text × List Row) → RequestFault → Type 0
ListsNothing matches reported = IsUnread matches reported ⊎ ((args : CommandArgs) × AreArgs matches args × IsNoListing args reported)

-- WHAT IS TO BE SHOWN: the command line accepts the arguments, and the command that it parses is
-- such a request
abbrev pub WordsShow : List Text → CommandArgs → Type 0
WordsShow words args = (matches : Option (Text × List Row)) × AreRead words matches × ListsBy matches args

-- WHY NOTHING IS: the command line rejects the arguments, or parses a command that is refused
abbrev pub ShowsNothing : List Text → RequestFault → Type 0
ShowsNothing words reported =
    AreRefused words reported ⊎ ((matches : Option (Text × List Row)) × AreRead words matches × ListsNothing matches reported)
