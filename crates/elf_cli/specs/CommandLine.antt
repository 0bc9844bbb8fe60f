-- The command line: its commands and their arguments, as the parser of the arguments sees them.
use Rattle.std.specs.Prelude.{ℕ, ◌+◌, ◌==◌, ◌||◌, if◌then◌else◌, bytes_eq, List, [], ◌∷◌, codes, get_or, pos, true, Some}
use Rattle.std.specs.Int.RustNames.{bit_and}
use Rattle.std.specs.List.{fold}
use Rattle.clap.specs.Walk.{Rule, Text}
use Rattle.clap.specs.Simple.{App, new_app, new_rule, with_rule, with_subcommand}
use Rattle.clap.specs.Lexer.{usize_max}
use Rattle.clap.specs.declared.builder.action.ArgAction.TheVariants.{Append, SetTrue}
use Rattle.clap.specs.declared.builder.value_parser.ValueParser.{ValueParser}
use Rattle.clap.specs.declared.builder.value_parser.ValueParser.TheVariants.{NonEmptyString, Signed, Unsigned}
use Rattle.elf_cli.specs.declared.command_args.CommandName.{CommandName}
use Rattle.elf_cli.specs.declared.command_args.CommandName.TheVariants as command
use Rattle.elf_cli.specs.declared.command_sets.TheConstants.{SHOW, SAMPLE, FIND, APPLY, BYTES, IMAGE, CHECK, LIST, TRAITS, NEEDS, RESOLVE, ARCHIVE, EXPLAIN, VERSION}

-- an option that may also be given by a letter, as in -g
abbrev pub by_letter : Text → Rule → Rule
by_letter letter rule = record rule { short = Some (get_or letter 0 0) }

-- one that other tools call so, by which name it may be given too
abbrev pub also_named : Text → Rule → Rule
also_named name rule = record rule { aliases = name ∷ [] }

-- an option without a value, which is set if it is given
abbrev pub flag : Text → Rule
flag name = record (new_rule name) { long = Some name; action = Some SetTrue }

-- an option with one value, with its name in help
abbrev pub valued : Text → Rule
valued name = record (new_rule name) { long = Some name; value_names = 1 }

-- one that may be repeated, with another value
abbrev pub repeated : Text → Rule
repeated name = record (valued name) { action = Some Append }

-- one whose value a parser reads
abbrev pub option : Text → ValueParser → Rule
option name parser = record (valued name) { parser = Some parser }

-- one with a number, which has a default if the option is absent
abbrev pub numbered_option : Text → ValueParser → Text → Rule
numbered_option name parser default = record (option name parser) { defaults = default ∷ [] }

-- a required argument
abbrev pub required : Text → Rule
required name = record (new_rule name) { required = true }

-- one that a parser reads
abbrev pub indexed : Text → ValueParser → Rule
indexed name parser = record (required name) { parser = Some parser }

-- an argument that may be left out
abbrev pub optional : Text → Rule
optional name = new_rule name

-- any number of arguments
abbrev pub any_words : Text → Rule
any_words name = record (new_rule name) { range = Some (record { start_inclusive = 0; end_inclusive = usize_max }) }

-- the commands that read the file that an argument names
abbrev one_file : ℕ
one_file = SHOW + FIND + APPLY + BYTES + IMAGE + ARCHIVE

-- those that read many files
abbrev many_files : ℕ
many_files = CHECK + LIST + TRAITS + NEEDS

-- those that list the tables of a file, or check them as a listing does
abbrev listing : ℕ
listing = SHOW + SAMPLE + CHECK + LIST + ARCHIVE

-- those whose rows may be selected
abbrev selecting : ℕ
selecting = SHOW + LIST + ARCHIVE

-- THE ARGUMENTS of all commands, in the order of help: the commands that have it, a bit for each,
-- and its rule
abbrev pub argument_rows : List (ℕ × Rule)
argument_rows =
    (one_file + SAMPLE + many_files, also_named (codes "max-headers") (numbered_option (codes "headers") (Signed (pos 1) (pos 65279)) (codes "4096")))
    ∷ (RESOLVE, also_named (codes "max-headers") (numbered_option (codes "headers") (Signed (pos 1) (pos 65279)) (codes "65279")))
    ∷ (listing, also_named (codes "max-name-len") (numbered_option (codes "names") (Signed (pos 1) (pos 4096)) (codes "256")))
    ∷ (one_file + SAMPLE + many_files + RESOLVE, option (codes "max-read") (Unsigned 0 9223372036854775807))
    ∷ (RESOLVE, option (codes "keys") (Unsigned 1 16777216))
    ∷ (RESOLVE, option (codes "key-bytes") (Unsigned 1 1073741824))
    ∷ (RESOLVE, option (codes "index") (Unsigned 1 16777216))
    ∷ (RESOLVE, option (codes "rows") (Unsigned 1 16777216))
    ∷ (NEEDS, option (codes "max-tries") (Unsigned 0 9223372036854775807))
    ∷ (NEEDS, valued (codes "library-path"))
    ∷ (NEEDS, valued (codes "default"))
    ∷ (NEEDS, also_named (codes "sysroot") (valued (codes "root")))
    ∷ (NEEDS, valued (codes "cache"))
    ∷ (NEEDS, flag (codes "no-cache"))
    ∷ (NEEDS, also_named (codes "bindings") (flag (codes "symbols")))
    ∷ (NEEDS, flag (codes "unused"))
    ∷ (NEEDS + RESOLVE, flag (codes "problems"))
    ∷ (TRAITS, valued (codes "require"))
    ∷ (SHOW + SAMPLE + CHECK + LIST, by_letter (codes "o") (option (codes "only") NonEmptyString))
    ∷ (ARCHIVE, by_letter (codes "o") (option (codes "only") NonEmptyString))
    ∷ (listing, by_letter (codes "g") (flag (codes "gnu")))
    ∷ (FIND, by_letter (codes "g") (flag (codes "gnu")))
    ∷ (listing, also_named (codes "use-dynamic") (by_letter (codes "D") (flag (codes "by-segments"))))
    ∷ (FIND, also_named (codes "use-dynamic") (by_letter (codes "D") (flag (codes "by-segments"))))
    ∷ (listing + FIND + TRAITS + NEEDS + RESOLVE, by_letter (codes "j") (flag (codes "json")))
    ∷ (listing + FIND + TRAITS + NEEDS, by_letter (codes "t") (flag (codes "table")))
    ∷ (selecting + SAMPLE, flag (codes "versions"))
    ∷ (selecting, by_letter (codes "n") (repeated (codes "name")))
    ∷ (selecting, valued (codes "name-list"))
    ∷ (selecting, flag (codes "defined"))
    ∷ (selecting, flag (codes "undefined"))
    ∷ (selecting, flag (codes "dynamic"))
    ∷ (selecting, valued (codes "at"))
    ∷ (selecting, valued (codes "address"))
    ∷ (APPLY + IMAGE, valued (codes "layout"))
    ∷ (IMAGE, option (codes "max-write") (Unsigned 0 9223372036854775807))
    ∷ (IMAGE, flag (codes "leave"))
    ∷ (IMAGE, flag (codes "missing"))
    ∷ (APPLY, flag (codes "explain"))
    ∷ (BYTES, option (codes "segment") (Unsigned 0 65535))
    ∷ (CHECK + LIST, flag (codes "members"))
    ∷ (many_files, valued (codes "files0-from"))
    ∷ (one_file, required (codes "FILE"))
    ∷ (FIND, required (codes "NAME"))
    ∷ (APPLY, indexed (codes "SECTION") (Signed (pos 0) (pos 65535)))
    ∷ (BYTES, optional (codes "SECTION"))
    ∷ (IMAGE, optional (codes "SEGMENT"))
    ∷ (IMAGE, any_words (codes "ITEM"))
    ∷ (APPLY, any_words (codes "ITEM"))
    ∷ (many_files, any_words (codes "PATH"))
    ∷ (RESOLVE, any_words (codes "WORDS"))
    ∷ (EXPLAIN, any_words (codes "CAUSE"))
    ∷ []

-- a command's name, with what it is called here, its bit, and its other names
abbrev pub CommandRow : Type 0
CommandRow = Text × CommandName × ℕ × List Text

-- THE COMMANDS, in the order of help
abbrev pub command_rows : List CommandRow
command_rows =
    (codes "show", command.Show, SHOW, [])
    ∷ (codes "sample", command.Sample, SAMPLE, [])
    ∷ (codes "find", command.Find, FIND, [])
    ∷ (codes "apply", command.Apply, APPLY, [])
    ∷ (codes "bytes", command.Bytes, BYTES, [])
    ∷ (codes "image", command.Image, IMAGE, [])
    ∷ (codes "check", command.Check, CHECK, [])
    ∷ (codes "list", command.List, LIST, [])
    ∷ (codes "traits", command.Traits, TRAITS, codes "hardening" ∷ [])
    ∷ (codes "needs", command.Needs, NEEDS, codes "deps" ∷ [])
    ∷ (codes "resolve", command.Resolve, RESOLVE, [])
    ∷ (codes "archive", command.Archive, ARCHIVE, [])
    ∷ (codes "explain", command.Explain, EXPLAIN, [])
    ∷ (codes "version", command.Version, VERSION, [])
    ∷ []

-- the command of a name, of those that the command line has
abbrev pub command_among : List CommandRow → Text → CommandName
command_among [] name = command.Version
command_among (known ∷ rest) name = if bytes_eq name known.0 then known.1 else command_among rest name

-- a command with one more argument, if it is in the set of the commands that have it
abbrev pub with_argument : ℕ → App → ℕ × Rule → App
with_argument bit app argument = if bit_and argument.0 bit == bit then with_rule app argument.1 else app

-- a command with its names
abbrev pub with_names : CommandRow → App
with_names known = let app = new_app known.0 in record app { top = record app.top { aliases = known.3 } }

-- a command with its arguments
abbrev pub described : CommandRow → App
described known = fold (with_argument known.2) (with_names known) argument_rows

-- a program with one more command
abbrev pub with_command : App → CommandRow → App
with_command app known = with_subcommand app (described known).top

-- the program, whose arguments begin after its name, and which requires a command
abbrev pub without_command : App
without_command = let app = new_app (codes "elfsee") in
    record app { top = record app.top { no_binary_name = true; subcommand_required = true; arg_required_else_help = true } }

-- THE COMMAND LINE: the program with all its commands
abbrev pub program : App
program = fold with_command without_command command_rows

-- the options that other programs have for their version: alone they are the command of that name
abbrev pub spelled : List Text → List Text
spelled (word ∷ []) =
    if bytes_eq word (codes "--version") || bytes_eq word (codes "-V") then codes "version" ∷ [] else word ∷ []
spelled words = words
