-- Which rows are shown, by borrowed texts.
use Rattle.std.specs.Prelude.{if◌then◌else◌, map}
use Rattle.elf_model.specs.Prelude.{EveryRow, RowFilter as IsChoice, RowsOf, Suffix, Suffixed, shown_as, wanted_text}
use Rattle.elf_options.specs.Names.{texts_of}
use Rattle.elf_options.specs.declared.row_filter.RowFilter.{RowFilter}
use Rattle.elf_options.specs.declared.row_filter.VersionSuffix.{VersionSuffix}

-- which rows are shown, as the definitions have it: each text is a name, or may have a version
abbrev pub choice_of : RowFilter → IsChoice
choice_of choice = if choice.by_name then RowsOf (map (wanted_text choice.versions) (texts_of choice.texts.now)) else EveryRow

-- the version after a name, as the definitions have it
abbrev pub after_of : VersionSuffix → Suffix
after_of version = Suffixed version.is_default (shown_as version.is_cut version.name.now)
