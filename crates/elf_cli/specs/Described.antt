-- What descriptions of commands and their arguments mean.
use Rattle.std.specs.Prelude.{ℕ, List, [], ◌∷◌, Option, None, Some}
use Rattle.std.specs.Borrow.{Bor}
use Rattle.clap.specs.Walk.{Rule, Text}
use Rattle.clap.specs.declared.builder.value_parser.ValueParser.TheVariants.{NonEmptyString}
use Rattle.elf_cli.specs.CommandLine.{CommandRow, any_words, flag, indexed, numbered_option, option, optional, repeated, required, valued}
use Rattle.elf_cli.specs.declared.builder.CommandSpec.{CommandSpec}
use Rattle.elf_cli.specs.declared.arg_specs.ArgSpec.{ArgSpec}
use Rattle.elf_cli.specs.declared.arg_specs.ArgKind.{ArgKind}
use Rattle.elf_cli.specs.declared.arg_specs.ArgKind.TheVariants.{Flag, Value, Repeated, Number, Count, Filled, Needed, Index, Optional, Any}
use Rattle.elf_record.specs.declared.parts.Parts.{Parts}

-- the rule of an argument of this name and kind
abbrev pub rule_of_kind : Text → ArgKind → Rule
rule_of_kind name Flag = flag name
rule_of_kind name (Value value) = valued name
rule_of_kind name (Repeated value) = repeated name
rule_of_kind name (Number parser) = option name parser
rule_of_kind name (Count parser default) = numbered_option name parser default.now
rule_of_kind name (Filled value) = option name NonEmptyString
rule_of_kind name Needed = required name
rule_of_kind name (Index parser) = indexed name parser
rule_of_kind name Optional = optional name
rule_of_kind name Any = any_words name

-- another name, if there is one
abbrev pub other_names : Option (Bor Text) → List Text
other_names None = []
other_names (Some name) = name.now ∷ []

-- and with its letter
abbrev pub lettered : ArgSpec → Rule
lettered word = record (rule_of_kind word.name.now word.kind) { short = word.short }

-- and with its other name
abbrev pub rule_by : ArgSpec → Rule
rule_by word = record (lettered word) { aliases = other_names word.alias }

-- an argument as it is described, with the set of the commands that have it
abbrev pub argument_row : ArgSpec → ℕ × Rule
argument_row word = (word.commands, rule_by word)

-- a command as it is described
abbrev pub command_row : CommandSpec → CommandRow
command_row row = (row.name.now, row.command, row.bit, other_names row.alias)

-- a part's number and its name
abbrev pub part_row : Bor Text × Parts → ℕ × List ℕ
part_row row = (row.1.0, row.0.now)
