-- What the functions that build the command line return.
use Rattle.std.specs.Prelude.{◌≡◌, false}
use Rattle.clap.specs.Walk.{Rule}
use Rattle.clap.specs.Simple.{App}
use Rattle.clap.specs.Words.{app_of, rule_of}
use Rattle.clap.specs.declared.builder.arg.Arg.{Arg}
use Rattle.clap.specs.declared.builder.command.Command.{Command}
use Rattle.clap.specs.declared.builder.command.Command.TheViews.{out-Command as fields_of}

-- a command that the parser of the arguments sees so, with no argument that its subcommands have
-- too
abbrev pub IsBuilt : App → Command → Type 0
IsBuilt app command = (app_of command ≡ app) × ((fields_of command).has_globals ≡ false)

-- an argument that the parser reads so, which subcommands of its command do not have
abbrev pub IsArg : Rule → Arg → Type 0
IsArg rule arg = (rule_of arg ≡ rule) × (arg.global ≡ false)
