-- What is looked up, by borrowed names.
use Rattle.elf_model.specs.Loader.{VersionQuery as IsAsked, NoVersion as AsksNone, Version as AsksVersion, DefaultVersion as AsksDefault, SymbolQuery as IsWanted}
use Rattle.elf_options.specs.declared.symbol_query.VersionQuery.{VersionQuery}
use Rattle.elf_options.specs.declared.symbol_query.VersionQuery.TheVariants.{NoVersion, Version, DefaultVersion}
use Rattle.elf_options.specs.declared.symbol_query.SymbolQuery.{SymbolQuery}

-- the version of a query, as the definitions have it
abbrev pub asked_of : VersionQuery → IsAsked
asked_of NoVersion = AsksNone
asked_of (Version version) = AsksVersion version.now
asked_of (DefaultVersion version) = AsksDefault version.now

-- a query, as the definitions have it
abbrev pub query_of : SymbolQuery → IsWanted
query_of wanted = record { name = wanted.name.now; asked = asked_of wanted.asked }
