-- The symbols and the relocation entries of sections, with or without versions after the names: the
-- same headers describe them, and their checks are the same.
use Rattle.std.proofs.Common.{◌≡◌, ℕ, Bool, true, false, List, refl}
use Rattle.elf_model.specs.Prelude.{entries_kind, entries_table, is_symbol_table, relocations, relocations_with_versions, suffixed_symbols, symbols}
use Rattle.elf_model.specs.Tables.{symbol_table}
use Rattle.elf_model.specs.TableKinds.{symbols_kind}

pub symbols_have : (versions : Bool) (file : List ℕ) (at : ℕ) → (symbols_kind versions).has_table file at ≡ is_symbol_table file at
unfolding symbols suffixed_symbols
symbols_have true file at = refl
symbols_have false file at = refl

pub symbols_checks : (versions : Bool) → (symbols_kind versions).checks ≡ symbol_table
unfolding symbols suffixed_symbols
symbols_checks true = refl
symbols_checks false = refl

pub entries_checks : (addends versions : Bool) → (entries_kind addends versions).checks ≡ entries_table addends
unfolding relocations relocations_with_versions
entries_checks addends true = refl
entries_checks addends false = refl
