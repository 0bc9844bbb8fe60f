-- An object whose section headers are loaded is taken.
use Rattle.std.specs.Prelude.{ℕ, ◌≡◌, List, Option, None, Some, Result, Ok, Err}
use Rattle.elf_model.specs.Checks.{first_refusal}
use Rattle.elf_model.specs.LinkArchives.{refusal_of}
use Rattle.elf_model.specs.LinkObjects.{LinkObject}
use Rattle.elf_model.specs.LinkSymbols.{groups_from, object_by, sections_from, symbol_table_in, symbols_if, table_checks_in}
use Rattle.elf_model.specs.Records.{e_shnum}
use Rattle.elf_model.specs.declared.link_states.LinkRefusal.{LinkRefusal}
use Rattle.elf_resolve.specs.KeyTables.{KeyList}
use Rattle.elf_resolve.specs.ObjectParts.{as_any_refusal}
use Rattle.elf_resolve.specs.Passing.{TookObject}
use Rattle.elf_resolve.specs.Taken.{IsLinkFault}
use Rattle.elf_resolve.specs.declared.link_faults.LinkFault.{LinkFault}

-- an object by its parts, and what it is refused for after its section headers
abbrev pub object_parts : List ℕ → Result LinkObject LinkRefusal
object_parts file = object_by (groups_from file 0 (e_shnum file)) (sections_from file 0 (e_shnum file)) (symbols_if file (symbol_table_in file))

abbrev pub refused_before : Option LinkRefusal → (rest : Option LinkRefusal) → Option LinkRefusal
refused_before None rest = rest
refused_before (Some refusal) rest = Some refusal

abbrev pub loaded_refusal : List ℕ → Option LinkRefusal
loaded_refusal file = refused_before (as_any_refusal (first_refusal (table_checks_in file (symbol_table_in file)))) (refusal_of (object_parts file))

-- AN OBJECT TAKEN once its section headers are loaded
pub record TookLoaded (file : List ℕ) (row : ℕ) (old new : KeyList) : Type 0 where
  pub pass : first_refusal (table_checks_in file (symbol_table_in file)) ≡ None
  pub object : LinkObject
  pub parts : object_parts file ≡ Ok object
  pub took : TookObject object old new row

abbrev pub TakesLoaded : List ℕ → (row : ℕ) → (old new : KeyList) → Result (Unit {0}) LinkFault → Type 0
TakesLoaded file row old new (Ok done) = TookLoaded file row old new
TakesLoaded file row old new (Err fault) = IsLinkFault (loaded_refusal file) fault
