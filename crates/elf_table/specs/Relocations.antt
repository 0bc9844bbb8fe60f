-- The result for a section of relocation entries: its rows, and the symbols that they refer to.
use Rattle.std.specs.Prelude.{ℕ, ◌≡◌, ◌<◌, Bool, true, false, List, Option, None, Some, Result, Ok, Err}
use Rattle.elf_model.specs.Prelude.{Check, SYMBOL_SIZE, all_checks, entries_table, entry_count, first_refusal, has_symbols, linked_at, linked_table_checks, relocation_size, sh_offset, sh_size}
use Rattle.elf_table.specs.Tables.{TableRange, StringTableRange}
use Rattle.elf_table.specs.Sections.{strings, names_at}
use Rattle.elf_table.specs.declared.fault.Fault.{Fault}
use Rattle.elf_table.specs.declared.fault.Fault.TheVariants.{Refused, Source}

-- a fault is the refusal of the first check that fails
abbrev pub RefusedBy : List Check → Fault → Type 0
RefusedBy checks (Refused refusal) = first_refusal checks ≡ Some refusal
RefusedBy checks (Source fault at) = ⊥

-- the symbols of the section with this header, and the string table of their names; no bytes of an
-- empty one
pub record AreSymbols (file : List ℕ) (header : ℕ) (symbols : TableRange × StringTableRange) : Type 0 where
  pub counted : symbols.0.count ≡ entry_count file header SYMBOL_SIZE
  pub sized : symbols.0.entry ≡ SYMBOL_SIZE
  pub placed : symbols.0.at ≡ sh_offset file header
  pub named : 0 < symbols.0.count → symbols.1 ≡ names_at file (linked_at file header)
  pub unnamed : sh_size file header ≡ 0 → symbols.1 ≡ strings (sh_offset file header) 0

-- the symbols that the section with this header refers to: those of the section that its link
-- names, or none if that holds no symbols
abbrev pub RefersTo : List ℕ → ℕ → Option (TableRange × StringTableRange) → Type 0
RefersTo file header None = has_symbols file header ≡ false
RefersTo file header (Some symbols) = (has_symbols file header ≡ true) × AreSymbols file (linked_at file header) symbols

-- the symbols that are linked to, once their checks pass, or the first of those that fails
abbrev pub Links : List ℕ → ℕ → Result (Option (TableRange × StringTableRange)) Fault → Type 0
Links file header (Ok linked) = (first_refusal (linked_table_checks file header) ≡ None) × RefersTo file header linked
Links file header (Err fault) = RefusedBy (linked_table_checks file header) fault

-- the relocation entries, with or without addends, of the section with this header, whose checks
-- pass, and the symbols that they refer to; if there is no entry, none are searched
pub record AreEntries (addends : Bool) (file : List ℕ) (header : ℕ) (table : TableRange) (linked : Option (TableRange × StringTableRange)) : Type 0 where
  pub pass : first_refusal (all_checks (entries_table addends) file header) ≡ None
  pub counted : table.count ≡ entry_count file header (relocation_size addends)
  pub placed : table.at ≡ sh_offset file header
  pub refers : 0 < table.count → RefersTo file header linked
  pub none : table.count ≡ 0 → linked ≡ None

-- the result for a section of relocation entries: those, or the first of its checks that fails
abbrev pub RelocatesWith : (addends : Bool) → List ℕ → ℕ → Result (TableRange × Option (TableRange × StringTableRange)) Fault → Type 0
RelocatesWith addends file header (Ok found) = AreEntries addends file header found.0 found.1
RelocatesWith addends file header (Err fault) = RefusedBy (all_checks (entries_table addends) file header) fault

-- those with addends
abbrev pub AreRelocations : (file : List ℕ) → (header : ℕ) → TableRange → Option (TableRange × StringTableRange) → Type 0
AreRelocations file header table linked = AreEntries true file header table linked

abbrev pub Relocates : List ℕ → ℕ → Result (TableRange × Option (TableRange × StringTableRange)) Fault → Type 0
Relocates file header result = RelocatesWith true file header result
