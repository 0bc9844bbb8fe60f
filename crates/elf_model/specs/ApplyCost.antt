-- How many bytes may be read to apply the relocations of a section.
use Rattle.std.specs.Prelude.{ℕ, ◌+◌, ◌*◌, ◌/◌, ◌==◌, ◌&&◌, nat_le, max, Bool, true, false, List, [], ◌∷◌, length, sum_by, flat_map, None, Some}
use Rattle.elf_model.specs.Apply.{applies_to, before_entries, held_size, relocation_entries, section_headers}
use Rattle.elf_model.specs.Checks.{first_refusal, before_headers, table_checks}
use Rattle.elf_model.specs.Names.{pad64}
use Rattle.elf_model.specs.Numbers.{R_X86_64_NONE}
use Rattle.elf_model.specs.Placing.{Layout, NameSearch, Compared, Searched}
use Rattle.elf_model.specs.Records.{FILE_HEADER_SIZE, SECTION_HEADER_SIZE, e_shnum, r_offset, r_type}
use Rattle.elf_model.specs.Tables.{SYMBOL_SIZE, RELA_SIZE}

-- the offsets of the entries for a section in another: none unless it has entries for the section
-- and passes its own checks
unfoldable pub entries_in : List ℕ → ℕ → ℕ → List ℕ
entries_in file section at =
    elim (applies_to file section at) [
      | false ↦ []
      | true ↦ elim (first_refusal (table_checks file at RELA_SIZE)) [
        | Some refusal ↦ []
        | None ↦ relocation_entries file at
      ]
    ]

-- the offsets of all entries for a section
unfoldable pub entries_for : List ℕ → ℕ → List ℕ
entries_for file section = flat_map (entries_in file section) (section_headers file)

-- the offsets that entries other than R_X86_64_NONE change
unfoldable pub offsets_at : List ℕ → List ℕ → List ℕ
offsets_at file [] = []
offsets_at file (rela ∷ relas) =
    elim (r_type file rela == R_X86_64_NONE) [
      | true ↦ offsets_at file relas
      | false ↦ r_offset file rela ∷ offsets_at file relas
    ]

-- numbers each of which is at least the one before it, the first at least a given one
unfoldable pub never_fall_from : ℕ → List ℕ → Bool
never_fall_from low [] = true
never_fall_from low (offset ∷ offsets) = nat_le low offset && never_fall_from offset offsets

-- the offsets of the entries for a section never decrease
unfoldable pub offsets_never_fall : List ℕ → ℕ → Bool
offsets_never_fall file section = never_fall_from 0 (offsets_at file (entries_for file section))

-- the length in bytes of the longest of some names
unfoldable pub longest : List (List ℕ × ℕ) → ℕ
longest [] = 0
longest (item ∷ items) = max (length item.0) (longest items)

-- what a lookup among some names of a layout may cost: each of them, with its NUL; or the longest,
-- and nothing if there is none
unfoldable pub lookup_cost : NameSearch → List (List ℕ × ℕ) → ℕ
lookup_cost Compared items = sum_by (λ item. pad64 (length item.0 + 1)) items
lookup_cost Searched [] = 0
lookup_cost Searched (item ∷ items) = pad64 (longest (item ∷ items) + 1)

-- what the names of a layout may cost, each kind of them once
unfoldable pub layout_names_cost : Layout → ℕ
layout_names_cost layout =
    lookup_cost layout.lookup layout.definitions
    + (lookup_cost layout.lookup layout.linkage
    + (lookup_cost layout.lookup layout.table + lookup_cost layout.lookup layout.thread))

-- what one pass over the entries for a section may cost: for each the entry, a symbol and the
-- layout's names
abbrev pass_cost : List ℕ → ℕ → Layout → ℕ
pass_cost file section layout = length (entries_for file section) * (RELA_SIZE + SYMBOL_SIZE + layout_names_cost layout)

-- the cost of applying once the section headers are read: this many passes over the entries, and
-- the section
abbrev pub cost_of_passes : List ℕ → ℕ → Layout → ℕ → ℕ
cost_of_passes file section layout passes = passes * pass_cost file section layout + held_size file section

-- passes over the entries in windows of 64 bytes: one to check, and one for each window of the
-- section
abbrev pub window_passes : List ℕ → ℕ → ℕ
window_passes file section = 1 + (held_size file section + 63) / 64

-- the bytes that may be read with this many passes over the entries: the file header alone if the
-- section headers are not read; no entries and no section if a check before the entries fails
unfoldable pub cost_with : List ℕ → ℕ → ℕ → Layout → ℕ → ℕ
cost_with file headers section layout passes =
    elim (first_refusal (before_headers file headers)) [
      | Some refusal ↦ FILE_HEADER_SIZE
      | None ↦ elim (first_refusal (before_entries file headers section)) [
        | Some refusal ↦ FILE_HEADER_SIZE + SECTION_HEADER_SIZE * e_shnum file
        | None ↦ FILE_HEADER_SIZE + SECTION_HEADER_SIZE * e_shnum file + cost_of_passes file section layout passes
      ]
    ]

-- the bytes that may be read if the section is processed in windows
unfoldable pub apply_cost : List ℕ → ℕ → ℕ → Layout → ℕ
apply_cost file headers section layout = cost_with file headers section layout (window_passes file section)

-- the bytes that may be read if the offsets never decrease: a pass to check, and a pass to apply
unfoldable pub apply_cost_in_order : List ℕ → ℕ → ℕ → Layout → ℕ
apply_cost_in_order file headers section layout = cost_with file headers section layout 2

-- the bytes that may be read, by the order of the entries
unfoldable pub apply_cost_by_order : List ℕ → ℕ → ℕ → Layout → ℕ
apply_cost_by_order file headers section layout =
    elim (offsets_never_fall file section) [
      | true ↦ apply_cost_in_order file headers section layout
      | false ↦ apply_cost file headers section layout
    ]
