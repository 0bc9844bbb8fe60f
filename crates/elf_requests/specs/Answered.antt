-- What the arguments of a command line request, and why they are refused.
use Rattle.std.specs.Prelude.{◌≡◌, ◌⊎◌, List, Option, None, Err, option_map}
use Rattle.clap.specs.Walk.{Row, Text, texts}
use Rattle.elf_cli.specs.Prelude.{AreArgs, AreRead, AreRefused, HasUsageFault, IsUnread, usage_fault}
use Rattle.elf_cli.specs.declared.command_args.CommandArgs.{CommandArgs}
use Rattle.elf_cli.specs.declared.command_args.CommandName.TheVariants as command
use Rattle.elf_cli.specs.declared.faults.RequestFault.TheVariants.{BadName, BadSection}
use Rattle.elf_cli.specs.declared.faults.RequestFault.{RequestFault}
use Rattle.elf_model.specs.Placing.{no_items}
use Rattle.elf_model.specs.BytesQuery.{BytesQuery}
use Rattle.elf_requests.specs.Asked.{AsksBytes, IsText, Makes}
use Rattle.elf_requests.specs.AskedTraits.{IsWordFault}
use Rattle.elf_requests.specs.Layouts.{LaysWords}
use Rattle.elf_requests.specs.declared.parsed_command.ParsedCommand.{ParsedCommand}

-- a lookup of a text that cannot be looked up
abbrev NamesBadly : CommandArgs → RequestFault → Type 0
NamesBadly args fault = (fault ≡ BadName) × (args.command ≡ command.Find) × (IsText args.caps.style.gnu args.name.now → ⊥)

-- a section that is applied in a layout, whose first refused item has this fault
abbrev LaysBadly : CommandArgs → RequestFault → Type 0
LaysBadly args fault = (args.command ≡ command.Apply) × LaysWords no_items (texts args.items.items) (Err fault)

-- a section is given by neither an index nor a name
abbrev LocatesNothing : CommandArgs → RequestFault → Type 0
LocatesNothing args fault = (fault ≡ BadSection) × (args.command ≡ command.Bytes) × ((query : BytesQuery) → AsksBytes args query → ⊥)

-- the fault of the arguments of a command: no memory or an invalid required trait; the first fault
-- of all arguments; or a name, an item or a section that is not valid
abbrev pub HasFault : CommandArgs → RequestFault → Type 0
HasFault args fault =
    IsWordFault (option_map (λ text. text.now) args.require) fault ⊎ (HasUsageFault args fault ⊎ (NamesBadly args fault ⊎ (LaysBadly args fault ⊎ LocatesNothing args fault)))

-- a command with the values of its arguments requests just this, without a fault
abbrev pub IsAsked : Option (Text × List Row) → ParsedCommand → Type 0
IsAsked matches asked = (args : CommandArgs) × AreArgs matches args × (usage_fault args ≡ None) × Makes args asked

-- the arguments cannot be read; or this is the fault of the request that they are
abbrev pub IsRefusal : Option (Text × List Row) → RequestFault → Type 0
IsRefusal matches fault = IsUnread matches fault ⊎ ((args : CommandArgs) × AreArgs matches args × HasFault args fault)

-- WHAT IS REQUESTED: the command line accepts the arguments, and the command that it parses
-- requests this
abbrev pub WordsAsk : List Text → ParsedCommand → Type 0
WordsAsk words asked = (matches : Option (Text × List Row)) × AreRead words matches × IsAsked matches asked

-- WHY ARGUMENTS ARE REFUSED: the command line has a fault for them, or the command that it parses
-- is refused
abbrev pub WordsRefused : List Text → RequestFault → Type 0
WordsRefused words fault =
    AreRefused words fault
    ⊎ ((matches : Option (Text × List Row)) × AreRead words matches × IsRefusal matches fault)
