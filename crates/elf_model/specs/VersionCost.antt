-- How many bytes the rows of symbol versions read at most, by the section headers.
use Rattle.std.specs.Prelude.{ℕ, ◌+◌, ◌*◌, ◌/◌, ◌==◌, ◌&&◌, ◌||◌, min, nat_lt, not, if◌then◌else◌, Bool, None, Some}
use Rattle.elf_model.specs.Checks.{pass, is_outside, is_symbol_table}
use Rattle.elf_model.specs.HeaderTables.{HeaderTable, header_field, first_typed}
use Rattle.elf_model.specs.Names.{name_bytes}
use Rattle.elf_model.specs.Numbers.{SHT_STRTAB, SHT_GNU_VERDEF, SHT_GNU_VERNEED}
use Rattle.elf_model.specs.Records.{sh_type, sh_offset, sh_size, sh_link}
use Rattle.elf_model.specs.Tables.{SYMBOL_SIZE, symbol_table}
use Rattle.elf_model.specs.Versions.{VERSYM_SIZE, DEFINITION_SIZE, DEFINED_NAME_SIZE, NEED_SIZE}

-- the bytes of the section of an index are within a file of this many bytes
abbrev pub is_inside : HeaderTable → (index file_size : ℕ) → Bool
is_inside headers i file_size = not (is_outside file_size (header_field headers sh_offset i) (header_field headers sh_size i))

-- what one walk over the first section of a type costs, each of whose records has a size and reads
-- some bytes, if the section's bytes are in the file
unfoldable pub walk_cost : HeaderTable → (file_size type size bytes : ℕ) → ℕ
walk_cost headers file_size type size bytes = elim (first_typed headers type) [
  | None ↦ 0
  | Some i ↦ if is_inside headers i file_size then header_field headers sh_size i / size * bytes else 0
]

-- what one walk over the definitions and the needs costs
unfoldable pub walks_cost : HeaderTable → (file_size : ℕ) → ℕ
walks_cost headers file_size =
    walk_cost headers file_size SHT_GNU_VERDEF DEFINITION_SIZE (DEFINITION_SIZE + DEFINED_NAME_SIZE)
    + walk_cost headers file_size SHT_GNU_VERNEED NEED_SIZE NEED_SIZE

-- the section of an index links to a section that is not the first
abbrev pub links : HeaderTable → (index : ℕ) → Bool
links headers i = nat_lt (header_field headers sh_link i) headers.count && not (header_field headers sh_link i == 0)

-- it links to a string table that is in the file
abbrev pub has_strings : HeaderTable → (index file_size : ℕ) → Bool
has_strings headers i file_size =
    let link = header_field headers sh_link i in
    links headers i && (header_field headers sh_type link == SHT_STRTAB && is_inside headers link file_size)

-- it links to a symbol table that passes its checks, with its strings
abbrev pub has_symbol_table : HeaderTable → (index file_size : ℕ) → Bool
has_symbol_table headers i file_size =
    let link = header_field headers sh_link i in
    (links headers i && is_symbol_table (headers.bytes link) (headers.at link))
    && (header_field headers sh_size link == 0
    || (pass (symbol_table.own (headers.bytes link) (headers.at link) file_size) && has_strings headers link file_size))

-- how many rows a versym section has: one for each symbol of the table that it links to that has an
-- entry
abbrev pub versioned_rows : HeaderTable → (index : ℕ) → ℕ
versioned_rows headers i =
    min (header_field headers sh_size i / VERSYM_SIZE) (header_field headers sh_size (header_field headers sh_link i) / SYMBOL_SIZE)

-- what its rows cost: a versym entry and a name each, and what finds the names, if what it links to
-- passes its checks and it is not empty
unfoldable pub versioned_cost : HeaderTable → (index file_size cap : ℕ) → ℕ
versioned_cost headers i file_size cap =
    if has_symbol_table headers i file_size && not (header_field headers sh_size i == 0)
    then versioned_rows headers i * (VERSYM_SIZE + name_bytes cap) + walks_cost headers file_size
    else 0
