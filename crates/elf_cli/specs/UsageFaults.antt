-- What is wrong with arguments that the command line accepts.
use Rattle.std.specs.Prelude.{Bool, true, false, not, ◌+◌, ◌||◌, ◌&&◌, ◌==◌, if◌then◌else◌, is_some, length, nat_lt, ℕ, ◌≡◌, List, Option, None, Some}
use Rattle.std.specs.Int.RustNames.{bit_or}
use Rattle.std.specs.List.{list_all}
use Rattle.clap.specs.Walk.{Text, texts}
use Rattle.elf_model.specs.Names.{nul_in}
use Rattle.elf_model.specs.declared.symbol_filters.SymbolFilter.{SymbolFilter}
use Rattle.elf_model.specs.Prelude.{RELOCS, SYMBOLS, VERSIONS, has, is_complete, parse_query}
use Rattle.elf_cli.specs.Faults.{IsUnasked}
use Rattle.elf_cli.specs.Options.{are_part_names}
use Rattle.elf_cli.specs.declared.command_args.CommandArgs.{CommandArgs}
use Rattle.elf_cli.specs.declared.command_args.CommandName.{CommandName}
use Rattle.elf_cli.specs.declared.command_args.CommandName.TheVariants.{Show, Find, Apply, Bytes, Image, Check, List as Listings, Traits, Needs, Archive}
use Rattle.elf_cli.specs.declared.faults.RequestFault.{RequestFault}
use Rattle.elf_cli.specs.declared.faults.RequestFault.TheVariants as fault
use Rattle.elf_cli.specs.declared.usage_faults.UsageFault.{UsageFault}
use Rattle.elf_cli.specs.declared.usage_faults.UsageFault.TheVariants.{UnknownPart, TwoFormats, TwoFilters, BadByte, BadAddress, NamesFull, BadName, NoGnu, NamesLimited, NoRows, NoPath, NoFile, NoSection, TwoRanges}

-- a text of 1 to 4,096 bytes without NUL; and if a name may have a version, neither is empty
abbrev pub is_name : (versions : Bool) → Text → Bool
is_name versions text =
    nat_lt 0 (length text) && (not (nat_lt 4096 (length text)) && (not (is_some (nul_in text)) && (not versions || is_complete (parse_query text))))

abbrev pub are_names : (versions : Bool) → List Text → Bool
are_names versions words = list_all (is_name versions) words

-- whether only the rows of some names are requested: there is a name, or a file of names
abbrev pub selects_rows : CommandArgs → Bool
selects_rows args = nat_lt 0 (length args.names.items) || is_some args.name_list

-- whether a command reads many files
abbrev pub is_of_many_files : CommandName → Bool
is_of_many_files Check = true
is_of_many_files Listings = true
is_of_many_files Traits = true
is_of_many_files Needs = true
is_of_many_files command = false

-- whether a command reads the file that its arguments name
abbrev pub takes_file : CommandName → Bool
takes_file Show = true
takes_file Find = true
takes_file Apply = true
takes_file Bytes = true
takes_file Image = true
takes_file Archive = true
takes_file command = false

-- whether something of GNU listings is requested, or of a loader's lookup
abbrev requires_gnu : CommandName → CommandArgs → Bool
requires_gnu Find args = args.caps.style.by_segments
requires_gnu command args = args.caps.style.versions || has args.parts.0 VERSIONS

abbrev pub gnu_option_is_missing : CommandArgs → Bool
gnu_option_is_missing args = not args.caps.style.gnu && requires_gnu args.command args

-- parts whose rows are selected by name, at least one
abbrev named_rows : ℕ
named_rows = SYMBOLS + RELOCS + VERSIONS

abbrev pub has_named_rows : ℕ → Bool
has_named_rows parts = nat_lt 0 parts && (bit_or parts named_rows == named_rows)

-- whether it is the command of archives, whose members have parts
abbrev pub is_archive : CommandName → Bool
is_archive Archive = true
is_archive command = false

-- a name is given that no part has
abbrev pub part_is_unknown : CommandArgs → Bool
part_is_unknown args = elim args.only [ None ↦ false | Some names ↦ not (are_part_names (is_archive args.command) names.now) ]

abbrev pub path_is_missing : CommandArgs → Bool
path_is_missing args = is_of_many_files args.command && ((length args.paths.items == 0) && not (is_some args.list))

abbrev pub file_is_missing : CommandArgs → Bool
file_is_missing args = takes_file args.command && not (is_some args.file)

-- the defined symbols alone and the undefined ones alone are requested
abbrev pub has_two_filters : SymbolFilter → Bool
has_two_filters symbols = symbols.defined && symbols.undefined

-- a text is given whose number was not read
abbrev pub is_unread : {X : Type 0} → Option X → Option ℕ → Bool
is_unread text number = is_some text && not (is_some number)

-- neither a section nor a program header is given whose bytes are to be written, or both are
abbrev pub is_of_bytes : CommandName → Bool
is_of_bytes Bytes = true
is_of_bytes command = false

abbrev pub section_is_missing : CommandArgs → Bool
section_is_missing args = is_of_bytes args.command && (not (is_some args.wanted) && not (is_some args.segment))

abbrev pub has_two_ranges : CommandArgs → Bool
has_two_ranges args = is_of_bytes args.command && (is_some args.wanted && is_some args.segment)

-- THE FAULT OF ARGUMENTS: the first of these
abbrev pub usage_fault : CommandArgs → Option UsageFault
usage_fault args =
    if part_is_unknown args then Some UnknownPart
    else if args.two_formats then Some TwoFormats
    else if has_two_filters args.caps.style.symbols then Some TwoFilters
    else if is_unread args.at args.caps.style.place.at then Some BadByte
    else if is_unread args.address args.caps.style.place.address then Some BadAddress
    else if nat_lt 64 (length args.names.items) then Some NamesFull
    else if not (are_names args.caps.style.versions (texts args.names.items)) then Some BadName
    else if gnu_option_is_missing args then Some NoGnu
    else if selects_rows args && args.limits_names then Some NamesLimited
    else if selects_rows args && not (has_named_rows args.parts.0) then Some NoRows
    else if path_is_missing args then Some NoPath
    else if file_is_missing args then Some NoFile
    else if section_is_missing args then Some NoSection
    else if has_two_ranges args then Some TwoRanges
    else None

-- how it is reported: for names by a fault of its own, otherwise by an error of the kind
-- `Format`, if there is memory for it
abbrev pub ReportsUsage : UsageFault → RequestFault → Type 0
ReportsUsage NamesFull reported = reported ≡ fault.NamesFull
ReportsUsage BadName reported = reported ≡ fault.BadName
ReportsUsage _ reported = IsUnasked reported

-- arguments have a fault, and this reports it
abbrev pub HasUsageFault : CommandArgs → RequestFault → Type 0
HasUsageFault args reported = (found : UsageFault) × (usage_fault args ≡ Some found) × ReportsUsage found reported
