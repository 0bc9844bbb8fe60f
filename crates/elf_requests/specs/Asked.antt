-- What the arguments of a command request.
use Rattle.std.specs.Prelude.{Bool, true, false, not, ◌≡◌, ◌≤◌, ◌==◌, ◌&&◌, ◌||◌, nat_lt, [], ◌∷◌, length, option_map, None, Some, Ok}
use Rattle.clap.specs.Walk.{Text, texts}
use Rattle.elf_model.specs.BytesQuery.{BytesQuery, OfName, OfSection, OfSegment}
use Rattle.elf_model.specs.Prelude.{IsWanted, is_complete, no_items, parse_query}
use Rattle.elf_cli.specs.UsageFaults.{selects_rows}
use Rattle.elf_cli.specs.declared.command_args.CommandArgs.{CommandArgs}
use Rattle.elf_cli.specs.declared.command_args.CommandName.{CommandName}
use Rattle.elf_cli.specs.declared.command_args.CommandName.TheVariants as command
use Rattle.elf_reloc.specs.Queried.{query_as}
use Rattle.elf_requests.specs.AskedTraits.{AreRequired}
use Rattle.elf_requests.specs.Layouts.{LaysWords}
use Rattle.elf_requests.specs.declared.parsed_command.ParsedCommand.{ParsedCommand}
use Rattle.elf_requests.specs.declared.parsed_command.ParsedCommand.TheVariants.{File, Laid, Command}
use Rattle.elf_requests.specs.declared.requests.Request.{Request}
use Rattle.elf_requests.specs.declared.requests.Task.{Task}
use Rattle.elf_requests.specs.declared.requests.Task.TheVariants.{Show, Find, Resolve, Apply, Bytes, Place}

-- a text that can be looked up: it has 1 to 4,096 bytes and no NUL, and if glibc's dynamic loader
-- looks it up, neither its name nor its version is empty
pub record IsText (gnu : Bool) (text : Text) : Type 0 where
  pub is_name : IsWanted text
  pub most : length text ≤ 4096
  pub complete : gnu ≡ true → is_complete (parse_query text) ≡ true

-- whether a command lists one file
abbrev pub lists_file : CommandName → Bool
lists_file command.Show = true
lists_file command.Sample = true
lists_file _ = false

-- a text begins with a dot or a letter
abbrev pub begins_name : Text → Bool
begins_name [] = false
begins_name (first ∷ rest) =
    (first == 46) || ((nat_lt 64 first && nat_lt first 91) || (nat_lt 96 first && nat_lt first 123))

-- the name of a section, of at most 4,096 bytes, that begins with a dot or a letter
pub record IsSectionName (text : Text) : Type 0 where
  pub is_name : IsWanted text
  pub most : length text ≤ 4096
  pub begins : begins_name text ≡ true

-- whose bytes are requested: the program header's of an index, if one is given; or the section's of
-- an index, if a number is given; or the first section's of a name
abbrev pub AsksBytes : CommandArgs → BytesQuery → Type 0
AsksBytes args (OfSegment segment) = (args.segment ≡ Some segment) × (segment ≤ 65535)
AsksBytes args (OfSection section) = (args.segment ≡ None) × (args.wanted_index ≡ Some section) × (section ≤ 65535)
AsksBytes args (OfName name) =
    (args.segment ≡ None) × (args.wanted_index ≡ None) × (option_map (λ text. text.now) args.wanted ≡ Some name) × IsSectionName name

-- what is done with one file: all rows of the parts are listed; a text is looked up in the file's
-- own SysV hash table, or as glibc's dynamic loader does it; a section is written in the layout
-- that the items give; or bytes are written as they are. No arguments give addresses in another representation
abbrev pub IsTask : CommandArgs → Task → Type 0
IsTask args (Show parts style) = (lists_file args.command ≡ true) × (selects_rows args ≡ false) × (parts ≡ args.parts) × (style ≡ args.caps.style)
IsTask args (Find wanted format) =
    (args.command ≡ command.Find) × (args.caps.style.gnu ≡ false) × (wanted.bytes.now ≡ args.name.now) × (format ≡ args.caps.style.format)
IsTask args (Resolve wanted by_segments format) =
    (args.command ≡ command.Find) × (args.caps.style.gnu ≡ true) × (wanted.text.now ≡ args.name.now) × (by_segments ≡ args.caps.style.by_segments)
    × (format ≡ args.caps.style.format)
IsTask args (Apply section layout explain) =
    (args.command ≡ command.Apply) × (section ≡ args.section) × LaysWords no_items (texts args.items.items) (Ok layout.now) × (explain ≡ args.explain)
IsTask args (Bytes query) = (args.command ≡ command.Bytes) × AsksBytes args (query_as query)
IsTask args (Place section addresses explain) = ⊥

-- a request for the file that is named, or without a name for the sample
pub record IsRequest (args : CommandArgs) (request : Request) : Type 0 where
  pub file : request.file ≡ args.file
  pub limits : request.limits ≡ args.caps.limits
  pub task : IsTask args request.task

-- whether a command is a request for one file: a lookup, a section, bytes, or a listing of all rows
abbrev pub is_request : CommandName → (selects : Bool) → Bool
is_request command.Find selects = true
is_request command.Apply selects = true
is_request command.Bytes selects = true
is_request command.Show selects = not selects
is_request command.Sample selects = not selects
is_request _ selects = false

-- WHAT ARGUMENTS REQUEST: by the command something of one file, a section with the items of a file
-- too, or what all arguments say
abbrev pub Makes : CommandArgs → ParsedCommand → Type 0
Makes args (File request) = IsRequest args request × (args.command ≡ command.Apply → args.layout ≡ None)
Makes args (Laid asked) = IsRequest args asked.request × (args.command ≡ command.Apply) × (args.layout ≡ Some asked.list)
Makes args (Command asked) =
    (asked.args ≡ args) × (is_request args.command (selects_rows args) ≡ false)
    × AreRequired (option_map (λ text. text.now) args.require) asked.required.items
