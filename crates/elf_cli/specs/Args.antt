-- What the arguments of a command have of the values that the command line parsed.
use Rattle.std.specs.Prelude.{◌≡◌, ◌||◌, ℕ, is_some, List, [], codes, Option, None, Some, option_map, unwrap_or}
use Rattle.clap.specs.Walk.{Row, Text, first_of, one_of, texts}
use Rattle.elf_model.specs.Prelude.{EveryRow}
use Rattle.elf_model.specs.declared.place_filters.PlaceFilter.{PlaceFilter}
use Rattle.elf_options.specs.Prelude.{choice_of}
use Rattle.elf_options.specs.declared.caps.Caps.{Caps}
use Rattle.elf_options.specs.declared.caps.Limits.{Limits}
use Rattle.elf_options.specs.declared.caps.ListingStyle.{ListingStyle}
use Rattle.elf_cli.specs.CommandLine.{command_among, command_rows}
use Rattle.elf_cli.specs.Faults.{IsUnasked}
use Rattle.elf_cli.specs.Options.{HasNumber, HasPlace, IsCount, asked_format, asked_parts, asked_symbols, has_two_formats, is_given, is_option_set, is_set_or_implied, values_of}
use Rattle.elf_cli.specs.declared.command_args.CommandArgs.{CommandArgs}
use Rattle.elf_cli.specs.declared.command_args.CommandName.{CommandName}
use Rattle.elf_cli.specs.declared.faults.RequestFault.{RequestFault}
use Rattle.elf_cli.specs.declared.faults.RequestFault.TheVariants.{Memory}

-- the command of a name, of those that the command line has
abbrev pub command_named : Text → CommandName
command_named name = command_among command_rows name

-- how many headers are allowed and how many bytes may be read
pub record AreLimits (rows : List Row) (limits : Limits) : Type 0 where
  pub headers : IsCount 1 65279 (one_of (codes "headers") rows) limits.headers
  pub budget : (value : Option ℕ) → HasNumber (one_of (codes "max-read") rows) value → limits.budget ≡ value

-- which rows are shown by where they are
pub record IsPlaceFilter (rows : List Row) (filter : PlaceFilter) : Type 0 where
  pub at : HasPlace (first_of (codes "at") rows) filter.at
  pub address : HasPlace (first_of (codes "address") rows) filter.address

-- how rows are shown, before any is selected by name
pub record IsStyle (rows : List Row) (style : ListingStyle) : Type 0 where
  pub cap : IsCount 1 4096 (one_of (codes "names") rows) style.cap.bytes
  pub gnu : style.gnu ≡ is_set_or_implied (codes "gnu") rows
  pub by_segments : style.by_segments ≡ is_option_set (first_of (codes "by-segments") rows)
  pub format : style.format ≡ asked_format rows
  pub choice : choice_of style.choice ≡ EveryRow
  pub symbols : style.symbols ≡ asked_symbols rows
  pub place : IsPlaceFilter rows style.place
  pub versions : style.versions ≡ is_set_or_implied (codes "versions") rows

pub record AreCapOptions (rows : List Row) (caps : Caps) : Type 0 where
  pub limits : AreLimits rows caps.limits
  pub style : IsStyle rows caps.style

-- WHAT IS REQUESTED, an argument a line
pub record AreOptions (rows : List Row) (args : CommandArgs) : Type 0 where
  pub file : option_map (λ path. path.now) args.file ≡ first_of (codes "FILE") rows
  pub name : args.name.now ≡ unwrap_or (first_of (codes "NAME") rows) []
  pub section : IsCount 0 65535 (one_of (codes "SECTION") rows) args.section
  pub wanted : option_map (λ text. text.now) args.wanted ≡ first_of (codes "SECTION") rows
  pub wanted_index : HasPlace (first_of (codes "SECTION") rows) args.wanted_index
  pub segment : (value : Option ℕ) → HasNumber (one_of (codes "segment") rows) value → args.segment ≡ value
  pub items : texts args.items.items ≡ values_of (codes "ITEM") rows
  pub layout : option_map (λ path. path.now) args.layout ≡ first_of (codes "layout") rows
  pub explain : args.explain ≡ is_option_set (first_of (codes "explain") rows)
  pub paths : texts args.paths.items ≡ values_of (codes "PATH") rows
  pub causes : texts args.causes.items ≡ values_of (codes "CAUSE") rows
  pub list : option_map (λ path. path.now) args.list ≡ first_of (codes "files0-from") rows
  pub members : args.members ≡ is_option_set (first_of (codes "members") rows)
  pub caps : AreCapOptions rows args.caps
  pub two_formats : args.two_formats ≡ has_two_formats rows
  pub limits_names : args.limits_names ≡ is_given (codes "names") rows
  pub only : option_map (λ names. names.now) args.only ≡ first_of (codes "only") rows
  pub parts : args.parts.0 ≡ asked_parts rows
  pub names : texts args.names.items ≡ values_of (codes "name") rows
  pub at : option_map (λ text. text.now) args.at ≡ first_of (codes "at") rows
  pub address : option_map (λ text. text.now) args.address ≡ first_of (codes "address") rows
  pub name_list : option_map (λ path. path.now) args.name_list ≡ first_of (codes "name-list") rows
  pub require : option_map (λ text. text.now) args.require ≡ first_of (codes "require") rows
  pub library_path : args.library_path.now ≡ unwrap_or (first_of (codes "library-path") rows) []
  pub default : option_map (λ text. text.now) args.default ≡ first_of (codes "default") rows
  pub root : args.root.now ≡ unwrap_or (first_of (codes "root") rows) []
  pub cache : option_map (λ path. path.now) args.cache ≡ first_of (codes "cache") rows
  pub no_cache : args.no_cache ≡ (is_option_set (first_of (codes "no-cache") rows) || is_some (first_of (codes "default") rows))
  pub max_tries : (value : Option ℕ) → HasNumber (one_of (codes "max-tries") rows) value → args.max_tries ≡ value
  pub symbols : args.symbols ≡ is_option_set (first_of (codes "symbols") rows)
  pub unused : args.unused ≡ is_option_set (first_of (codes "unused") rows)
  pub problems : args.problems ≡ is_option_set (first_of (codes "problems") rows)
  pub image : option_map (λ text. text.now) args.image ≡ first_of (codes "SEGMENT") rows
  pub image_index : HasPlace (first_of (codes "SEGMENT") rows) args.image_index
  pub max_write : (value : Option ℕ) → HasNumber (one_of (codes "max-write") rows) value → args.max_write ≡ value
  pub missing : args.missing ≡ is_option_set (first_of (codes "missing") rows)
  pub leave : args.leave ≡ is_option_set (first_of (codes "leave") rows)
  pub keys : (value : Option ℕ) → HasNumber (one_of (codes "keys") rows) value → args.keys ≡ value
  pub key_bytes : (value : Option ℕ) → HasNumber (one_of (codes "key-bytes") rows) value → args.key_bytes ≡ value
  pub index : (value : Option ℕ) → HasNumber (one_of (codes "index") rows) value → args.index ≡ value
  pub link_rows : (value : Option ℕ) → HasNumber (one_of (codes "rows") rows) value → args.rows ≡ value
  pub words : texts args.words.items ≡ values_of (codes "WORDS") rows

-- a command with the values of its arguments
abbrev pub AreArgs : Option (Text × List Row) → CommandArgs → Type 0
AreArgs None args = ⊥
AreArgs (Some (command, rows)) args = (args.command ≡ command_named command) × AreOptions rows args

-- why there are none: out of memory, or there is no command
abbrev pub IsUnread : Option (Text × List Row) → RequestFault → Type 0
IsUnread None fault = IsUnasked fault
IsUnread (Some matches) fault = fault ≡ Memory
