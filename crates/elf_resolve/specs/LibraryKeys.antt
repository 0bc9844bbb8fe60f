-- The keys of the symbols of a shared library, by its bytes: the names that their versions give them,
-- or the first refusal.
use Rattle.std.specs.Prelude.{ℕ, zero, suc, ◌-◌, ◌==◌, ◌&&◌, ◌||◌, nat_lt, not, if◌then◌else◌, Bool, true, false, List, [], ◌∷◌, ◌++◌, Option, None, Some, Result, Ok, Err, bytes_eq}
use Rattle.elf_model.specs.LinkKeys.{LinkSymbol}
use Rattle.elf_model.specs.LinkSymbols.{AT, LTO_MARK, and_then, is_global, link_name, refused_at}
use Rattle.elf_model.specs.Loader.{is_hidden}
use Rattle.elf_model.specs.Numbers.{SHN_ABS, SHN_UNDEF}
use Rattle.elf_model.specs.Records.{section_at, sh_info, st_name, st_shndx, versym}
use Rattle.elf_model.specs.Tables.{SYMBOL_SIZE, entry_at, entry_count, strings_of}
use Rattle.elf_model.specs.Versions.{VERSYM_SIZE, number_in}
use Rattle.elf_model.specs.declared.causes.Cause.TheVariants.{VersionCut, VersionIndex}
use Rattle.elf_model.specs.declared.link_states.LinkCause.TheVariants.{Refused, Lto}
use Rattle.elf_model.specs.declared.link_states.LinkRefusal.{LinkRefusal}
use Rattle.elf_resolve.specs.LibrarySymbols.{is_function, library_role, library_use}
use Rattle.elf_resolve.specs.LibraryVersions.{NumberedName, name_of_number}

-- THE VERSIONS OF A LIBRARY: the offset of the header of its section of version indexes, if it has one,
-- and the names of those that it defines and of those that it needs
pub record LibraryVersions : Type 0 where
  pub indexes : Option ℕ
  pub defined : List NumberedName
  pub needed : List NumberedName

-- THE VERSION INDEX of a symbol, in the section of them whose header is at an offset; the section is
-- refused if it has none for it
abbrev pub version_index_at : List ℕ → (at symbol : ℕ) → Result ℕ LinkRefusal
version_index_at file at symbol =
    if nat_lt symbol (entry_count file at VERSYM_SIZE) then Ok (versym file (entry_at file at VERSYM_SIZE symbol))
    else refused_at at (Refused VersionCut)

-- the name of the version of an index: of a reference among those that are needed, of a definition
-- among those that are defined; that of a definition without a version is empty
abbrev pub version_name : LibraryVersions → (number : ℕ) → (is_reference : Bool) → Option (List ℕ)
version_name versions number true = name_of_number versions.needed number
version_name versions number false = if nat_lt number 2 then Some [] else name_of_number versions.defined number

-- a symbol is a reference
abbrev pub is_undefined_at : List ℕ → (at : ℕ) → Bool
is_undefined_at file at = st_shndx file at == SHN_UNDEF

-- a symbol has no version: it is not hidden, and it has an index of no version or is absolute, though
-- no function
abbrev pub is_absolute_data : List ℕ → (at : ℕ) → Bool
is_absolute_data file at = st_shndx file at == SHN_ABS && not (is_function file at)

abbrev pub has_no_version : List ℕ → (at word : ℕ) → Bool
has_no_version file at word = not (is_hidden word) && (nat_lt (number_in word) 2 || is_absolute_data file at)

-- THE NAMES OF THE KEYS of a symbol: with its version if it has one, and without it if a definition has
-- it as the default one
pub record KeyNames : Type 0 where
  pub name : List ℕ
  pub default_name : Option (List ℕ)

abbrev pub name_alone : (name : List ℕ) → KeyNames
name_alone name = record { name = name; default_name = None }

abbrev pub names_with : (has_default : Bool) → (name : List ℕ) → (word_at : ℕ) → (version : Option (List ℕ)) → Result KeyNames LinkRefusal
names_with has_default name word_at None = refused_at word_at (Refused VersionIndex)
names_with has_default name word_at (Some version) =
    Ok (record { name = name ++ AT ∷ version; default_name = if has_default then Some name else None })

abbrev pub names_by_word : List ℕ → LibraryVersions → (at word_at : ℕ) → (name : List ℕ) → Result ℕ LinkRefusal → Result KeyNames LinkRefusal
names_by_word file versions at word_at name (Err refusal) = Err refusal
names_by_word file versions at word_at name (Ok word) =
    if has_no_version file at word then Ok (name_alone name)
    else names_with (not (is_undefined_at file at || is_hidden word)) name word_at (version_name versions (number_in word) (is_undefined_at file at))

abbrev pub key_names : List ℕ → LibraryVersions → (indexes : Option ℕ) → (at symbol : ℕ) → (name : List ℕ) → Result KeyNames LinkRefusal
key_names file versions None at symbol name = Ok (name_alone name)
key_names file versions (Some header) at symbol name =
    names_by_word file versions at (entry_at file header VERSYM_SIZE symbol) name (version_index_at file header symbol)

-- a symbol by the names of its keys
abbrev pub library_symbol_named : List ℕ → (at : ℕ) → Result KeyNames LinkRefusal → Result (List LinkSymbol) LinkRefusal
library_symbol_named file at (Err refusal) = Err refusal
library_symbol_named file at (Ok names) =
    Ok (record { name = names.name; default_name = names.default_name; symbol = library_use (library_role file at) } ∷ [])

-- A SYMBOL counts if it is global and has a name; the mark of intermediate code alone is refused
abbrev pub symbol_counted : List ℕ → LibraryVersions → (at symbol : ℕ) → (name : List ℕ) → Result (List LinkSymbol) LinkRefusal
symbol_counted file versions at symbol [] = Ok []
symbol_counted file versions at symbol (byte ∷ name) = library_symbol_named file at (key_names file versions versions.indexes at symbol (byte ∷ name))

abbrev pub library_symbol_called : List ℕ → LibraryVersions → (at symbol : ℕ) → Result (List ℕ) LinkRefusal → Result (List LinkSymbol) LinkRefusal
library_symbol_called file versions at symbol (Err refusal) = Err refusal
library_symbol_called file versions at symbol (Ok name) =
    if bytes_eq name LTO_MARK then refused_at at Lto else symbol_counted file versions at symbol name

unfoldable pub library_symbol_at : List ℕ → LibraryVersions → (table_at symbol : ℕ) → Result (List LinkSymbol) LinkRefusal
library_symbol_at file versions table_at symbol =
    let at = entry_at file table_at SYMBOL_SIZE symbol in
    if is_global file at then library_symbol_called file versions at symbol (link_name (strings_of file table_at) (st_name file at) at) else Ok []

-- the symbols of a table from an index on, this many
unfoldable pub library_symbols_from : List ℕ → LibraryVersions → (table_at symbol count : ℕ) → Result (List LinkSymbol) LinkRefusal
library_symbols_from file versions table_at symbol zero = Ok []
library_symbols_from file versions table_at symbol (suc count) =
    and_then (library_symbol_at file versions table_at symbol) (library_symbols_from file versions table_at (suc symbol) count)

-- THE SYMBOLS OF A LIBRARY: those of its symbol table for dynamic linking, if it has one, after the
-- local ones
abbrev pub library_symbols : List ℕ → LibraryVersions → (table : Option ℕ) → Result (List LinkSymbol) LinkRefusal
library_symbols file versions None = Ok []
library_symbols file versions (Some table) =
    let table_at = section_at file table in
    library_symbols_from file versions table_at (sh_info file table_at) (entry_count file table_at SYMBOL_SIZE - sh_info file table_at)
