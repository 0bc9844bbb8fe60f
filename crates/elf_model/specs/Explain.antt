-- What a layout lacks if a relocation entry was refused: the address of a section, or one that is
-- given for a name.
use Rattle.std.specs.Prelude.{ℕ, ◌-◌, ◌/◌, ◌==◌, ◌&&◌, nat_lt, not, is_none, Bool, true, false, if◌then◌else◌, List, [], Option, None, Some, Result, Ok, Err}
use Rattle.elf_model.specs.Apply.{applies_to, symbol_checks}
use Rattle.elf_model.specs.Checks.{first_refusal, pass}
use Rattle.elf_model.specs.Find.{first_that}
use Rattle.elf_model.specs.Hash.{symbol_at}
use Rattle.elf_model.specs.Names.{DisplayedName, shown}
use Rattle.elf_model.specs.Names.DisplayedName.{Whole}
use Rattle.elf_model.specs.Numbers.{SHN_UNDEF, SHN_LORESERVE, STT_GNU_IFUNC}
use Rattle.elf_model.specs.Placing.{Layout, address_in}
use Rattle.elf_model.specs.Records.{e_shnum, sh_offset, st_name, st_shndx, st_type, r_sym, r_type, section_at}
use Rattle.elf_model.specs.Tables.{RELA_SIZE, entry_at, entry_count, linked_at, relocation_table_checks, strings_of}
use Rattle.elf_model.specs.Values.{takes_place, kind_of}
use Rattle.elf_model.specs.declared.causes.Cause.{Cause}
use Rattle.elf_model.specs.declared.causes.Cause.TheVariants.{Unplaced, Undefined, Unsupported}
use Rattle.elf_model.specs.declared.causes.Refusal.{Refusal}
use Rattle.elf_model.specs.declared.missing.MissingAddress.{MissingAddress}
use Rattle.elf_model.specs.declared.missing.LayoutAddress.{LayoutAddress}
use Rattle.elf_model.specs.declared.missing.LayoutAddress.TheVariants.{Place, Named, Entry}
use Rattle.elf_model.specs.declared.relocation_types.RelocationBase.{RelocationBase}
use Rattle.elf_model.specs.declared.relocation_types.RelocationBase.TheVariants.{Symbol, Linkage, Table, Thread}
use Rattle.elf_model.specs.declared.relocation_types.Formula.{Formula}
use Rattle.elf_model.specs.declared.relocation_types.RelocationType.{RelocationType}

-- no address is given for a section
abbrev is_unplaced : Layout → ℕ → Bool
is_unplaced layout section = is_none (address_in layout.sections section)

-- the symbol's section, if its index is one of a section, and it has no address
unfoldable pub symbol_place : Layout → Option (ℕ × ℕ) → Option LayoutAddress
symbol_place layout None = None
symbol_place layout (Some symbol) =
    if not (symbol.0 == SHN_UNDEF) && nat_lt symbol.0 SHN_LORESERVE && is_unplaced layout symbol.0 then Some (Place symbol.0) else None

-- what a symbol's name needs: nothing if the entry names symbol 0
unfoldable pub name_wanted : RelocationBase → Option (ℕ × ℕ) → Option LayoutAddress
name_wanted base None = None
name_wanted base (Some symbol) = Some (Named base)

-- what S of a system-specific type needs: for an indirect function its procedure linkage table
-- entry; nothing helps with another
unfoldable pub missing_ifunc_entry : ℕ → Option LayoutAddress
missing_ifunc_entry type = if type == STT_GNU_IFUNC then Some Entry else None

-- the entry of a symbol that a relocation entry needs: that of the base, if S has none
unfoldable pub missing_for_type : RelocationBase → Option (ℕ × ℕ) → Option LayoutAddress
missing_for_type base None = None
missing_for_type Symbol (Some symbol) = missing_ifunc_entry symbol.1
missing_for_type Linkage (Some symbol) = Some Entry
missing_for_type Table (Some symbol) = Some (Named Table)
missing_for_type Thread (Some symbol) = Some (Named Thread)

-- the section without an address: the relocated one if the formula uses P, otherwise the symbol's
unfoldable pub missing_place : Formula → Layout → ℕ → Option (ℕ × ℕ) → Option LayoutAddress
missing_place formula layout section symbol =
    elim (takes_place formula && is_unplaced layout section) [ true ↦ Some (Place section) | false ↦ symbol_place layout symbol ]

-- What an entry of a type needs that was refused for a cause, by the section index of its symbol
-- and the symbol's type, or none for symbol 0. If a section's address is missing: that of the
-- relocated section if the formula uses P and it has none, otherwise that of the symbol's section.
-- If a name's is missing: what the type's base needs for it; if an entry is missing: that.
unfoldable pub wanted : Cause → RelocationType → Layout → ℕ → Option (ℕ × ℕ) → Option LayoutAddress
wanted Unplaced type layout section symbol = missing_place type.formula layout section symbol
wanted Undefined type layout section symbol = name_wanted type.base symbol
wanted Unsupported type layout section symbol = missing_for_type type.base symbol
wanted _ type layout section symbol = None

-- that, with the number of the type and the symbol's name
unfoldable pub missing_of : ℕ → ℕ → Option LayoutAddress → Option MissingAddress
missing_of kind name None = None
missing_of kind name (Some wanted) = Some (record { kind = kind; name = name; wanted = wanted })

-- What is missing in a layout, by the entry at the refusal's offset in a section of entries with
-- this header, for a section that is relocated. Nothing if the type does not store a value, or the
-- symbol is none of the linked table's.
unfoldable pub missing : List ℕ → ℕ → Layout → ℕ → Refusal → Option MissingAddress
missing file header layout section refusal =
    elim (kind_of (r_type file refusal.at)) [
      | None ↦ None
      | Some type ↦ elim (first_refusal (symbol_checks file header refusal.at)) [
        | Some other ↦ None
        | None ↦
            let symbol = symbol_at file (linked_at file header) (r_sym file refusal.at) in
            elim (r_sym file refusal.at == 0) [
              | true ↦ missing_of (r_type file refusal.at) 0 (wanted refusal.cause type layout section None)
              | false ↦ missing_of (r_type file refusal.at) (st_name file symbol) (wanted refusal.cause type layout section (Some (st_shndx file symbol, st_type file symbol)))
            ]
      ]
    ]

-- one of the entries of a section of relocation entries, whose header is at an offset, is at
-- another
unfoldable pub has_entry : List ℕ → ℕ → ℕ → Bool
has_entry file header rela =
    let index = (rela - sh_offset file header) / RELA_SIZE in
    nat_lt index (entry_count file header RELA_SIZE) && entry_at file header RELA_SIZE index == rela

-- a section has relocation entries for another, its checks pass, and one of its entries is at an
-- offset
unfoldable pub relocates_at : List ℕ → ℕ → ℕ → ℕ → Bool
relocates_at file section rela header =
    applies_to file section header && pass (relocation_table_checks file header) && has_entry file header rela

-- THE SECTION OF ENTRIES that a refusal at an offset points into: the first of those, by its index
unfoldable pub refused_in : List ℕ → ℕ → ℕ → Option ℕ
refused_in file section rela = first_that (λ i. relocates_at file section rela (section_at file i)) 0 (e_shnum file)

-- how many bytes of the symbol's name are printed: the maximum length of the name of an item
abbrev pub ITEM_NAME_SIZE : ℕ
ITEM_NAME_SIZE = 255

-- the name of a symbol as it is printed: if st_name is 0 it has none (gABI 4, Symbol Table)
unfoldable pub resolved_symbol_name : List ℕ → ℕ → Result DisplayedName Cause
resolved_symbol_name strings index = elim (index == 0) [ true ↦ Ok (Whole []) | false ↦ shown strings index ITEM_NAME_SIZE ]

-- what is missing, and the name of the entry's symbol
pub record MissingEntry : Type 0 where
  pub missing : MissingAddress
  pub name : DisplayedName

-- that, if the name has no fault
abbrev pub lack_with : MissingAddress → Result DisplayedName Cause → Option MissingEntry
lack_with missing (Ok name) = Some (record { missing = missing; name = name })
lack_with missing (Err cause) = None

-- the same of an entry in a section of entries with this header, if something is missing
unfoldable pub lack_of : List ℕ → ℕ → Option MissingAddress → Option MissingEntry
lack_of file header None = None
lack_of file header (Some missing) = lack_with missing (resolved_symbol_name (strings_of file (linked_at file header)) missing.name)

-- WHAT A LAYOUT LACKS if a section, by its index, was refused: by the section of entries that the
-- refusal points into
unfoldable pub explained : List ℕ → ℕ → Layout → Refusal → Option MissingEntry
explained file section layout refusal =
    elim (refused_in file section refusal.at) [
      | None ↦ None
      | Some index ↦
          let header = section_at file index in
          lack_of file header (missing file header layout section refusal)
    ]
