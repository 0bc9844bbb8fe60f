-- Facts about the versions after the names of symbols.
use Rattle.std.specs.Prelude.{ℕ, ◌≡◌, ◌+◌, ◌≤◌, Bool, true, false, List, None, Ok}
use Rattle.elf_model.specs.Choice.{Suffixed}
use Rattle.elf_model.specs.Cost.{kinds_cost, suffixes_most}
use Rattle.elf_model.specs.HeaderTables.{HeaderTable}
use Rattle.elf_model.specs.Names.{DisplayedName}
use Rattle.elf_model.specs.Numbers.{SHN_UNDEF}
use Rattle.elf_model.specs.Records.{sh_link, st_shndx}
use Rattle.elf_model.specs.Style.{ListingStyle}
use Rattle.elf_model.specs.Suffixes.{version_numbers_of, symbol_suffix}
use Rattle.elf_model.specs.TableKinds.{relocations, section_kinds, relocations_with_versions, suffixed_symbols, symbols}

-- the symbols of a table without a versym section are listed as without versions
abbrev pub UnversionedSymbolsArePlain : Type 0
UnversionedSymbolsArePlain =
    (file : List ℕ) (style : ListingStyle) (section at : ℕ) → version_numbers_of file section ≡ None
    → suffixed_symbols.rows file style section at ≡ symbols.rows file style section at

-- and so are relocation entries whose symbols are of such a table
abbrev pub UnversionedEntriesArePlain : Type 0
UnversionedEntriesArePlain =
    (addends : Bool) (file : List ℕ) (style : ListingStyle) (section at : ℕ) → version_numbers_of file (sh_link file at) ≡ None
    → (relocations_with_versions addends).rows file style section at ≡ (relocations addends).rows file style section at

-- an undefined symbol has no default version
abbrev pub UndefinedHaveNoDefault : Type 0
UndefinedHaveNoDefault =
    (file : List ℕ) (cap table symbol_at index : ℕ) (is_default : Bool) (name : DisplayedName) → st_shndx file symbol_at ≡ SHN_UNDEF
    → symbol_suffix file cap table symbol_at index ≡ Ok (Suffixed is_default name) → is_default ≡ false

-- the versions after the names of the symbols of a header's tables cost no more than a versym entry
-- and a name for each entry, and one walk over the definitions and the needs
abbrev pub SuffixesAreWithinMost : Type 0
SuffixesAreWithinMost =
    (gnu : Bool) (headers : HeaderTable) (index size cap parts : ℕ)
    → kinds_cost (section_kinds gnu true) headers index size cap parts
    ≤ kinds_cost (section_kinds gnu false) headers index size cap parts + suffixes_most size cap
