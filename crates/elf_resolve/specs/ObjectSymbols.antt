-- The symbols of an object, as they are read and taken.
use Rattle.std.specs.Prelude.{ℕ, ◌≡◌, ◌-◌, if◌then◌else◌, Bool, true, false, List, Option, None, Some, Result, Ok, Err, map}
use Rattle.elf_model.specs.LinkArchives.{refusal_of}
use Rattle.elf_model.specs.LinkObjects.{ObjectSymbol, is_dropped, reference_role, symbol_without}
use Rattle.elf_model.specs.LinkSymbols.{is_global, is_weak_use, link_name, followed, link_symbol_at, symbol_section, symbol_use, symbols_from, version_sign_in, with_one_sign, without_version}
use Rattle.elf_model.specs.Records.{st_name}
use Rattle.elf_model.specs.Tables.{strings_of}
use Rattle.elf_model.specs.declared.link_states.LinkRefusal.{LinkRefusal}
use Rattle.elf_model.specs.declared.link_states.SymbolRole.{SymbolRole}
use Rattle.elf_model.specs.declared.link_states.SymbolRole.TheVariants.{WeakReference, Reference}
use Rattle.elf_model.specs.declared.link_states.SymbolUse.{SymbolUse}
use Rattle.elf_record.specs.Sym.{IsSym}
use Rattle.elf_record.specs.declared.sym.Sym.{Sym}
use Rattle.elf_resolve.specs.KeyTables.{KeyList}
use Rattle.elf_resolve.specs.StringBuffers.{HoldsText}
use Rattle.elf_resolve.specs.Symbols.{TookSymbols}
use Rattle.elf_resolve.specs.Taken.{IsLinkFault}
use Rattle.elf_resolve.specs.declared.link_faults.LinkFault.{LinkFault}
use Rattle.elf_resolve.specs.declared.object_symbols.NamedUse.{NamedUse}
use Rattle.elf_resolve.specs.declared.string_buffer.HeldText.{HeldText}

-- the symbol at an offset counts, or does not
abbrev pub FindsGlobal : (file : List ℕ) → (at : ℕ) → Option Sym → Type 0
FindsGlobal file at None = is_global file at ≡ false
FindsGlobal file at (Some symbol) = (is_global file at ≡ true) × IsSym file at symbol

-- what a reference of its binding is
abbrev pub reference_role_at : (file : List ℕ) → (at : ℕ) → SymbolRole
reference_role_at file at = if is_weak_use file at then WeakReference else Reference

-- a use by a symbol whose section may be dropped
abbrev pub dropped_use : SymbolUse → SymbolUse
dropped_use symbol = record { role = reference_role symbol.role; restricted = symbol.restricted; dropped = true; of_library = symbol.of_library; absolute = None }

abbrev pub use_if : (dropped : Bool) → SymbolUse → SymbolUse
use_if true symbol = dropped_use symbol
use_if false symbol = symbol

-- A NAMED USE: the symbol at an offset counts, is called so, and its section may be among those that
-- are dropped
pub record NamesUse (file bytes : List ℕ) (table_at at : ℕ) (sections : List ℕ) (named : NamedUse) : Type 0 where
  pub is_one : is_global file at ≡ true
  pub name : List ℕ
  pub called : link_name (strings_of file table_at) (st_name file at) at ≡ Ok name
  pub holds : HoldsText bytes named.name name
  pub symbol_is : named.symbol ≡ use_if (is_dropped sections (symbol_section file at)) (symbol_use file at)
  pub at_is : named.at ≡ at

abbrev pub MayNameUse : (file bytes : List ℕ) → (table_at at : ℕ) → (sections : List ℕ) → Option NamedUse → Type 0
MayNameUse file bytes table_at at sections None = is_global file at ≡ false
MayNameUse file bytes table_at at sections (Some named) = NamesUse file bytes table_at at sections named

-- it is found, or its name is refused
abbrev pub FindsUse : (file bytes : List ℕ) → (table_at at : ℕ) → (sections : List ℕ) → Result (Option NamedUse) LinkFault → Type 0
FindsUse file bytes table_at at sections (Ok named) = MayNameUse file bytes table_at at sections named
FindsUse file bytes table_at at sections (Err fault) = IsLinkFault (refusal_of (link_symbol_at file table_at at)) fault

-- a reference does not define the name without a version
abbrev pub is_reference_role : SymbolRole → Bool
is_reference_role WeakReference = true
is_reference_role Reference = true
is_reference_role _ = false

abbrev pub default_by : SymbolRole → (name : List ℕ) → Option (List ℕ)
default_by role name = if is_reference_role role then None else without_version name (version_sign_in name)

-- A TEXT that may be there
abbrev pub HoldsSome : (bytes : List ℕ) → Option HeldText → Option (List ℕ) → Type 0
HoldsSome bytes None is = is ≡ None
HoldsSome bytes (Some text) None = ⊥
HoldsSome bytes (Some text) (Some is) = HoldsText bytes text is

-- the names of a symbol's keys, or there is no room for them
abbrev pub NamesKeys : (bytes name : List ℕ) → SymbolRole → Result (HeldText × Option HeldText) LinkFault → Type 0
NamesKeys bytes name role (Ok names) = HoldsText bytes names.0 (with_one_sign name (version_sign_in name)) × HoldsSome bytes names.1 (default_by role name)
NamesKeys bytes name role (Err fault) = IsLinkFault None fault

-- SYMBOLS TAKEN without those of dropped sections, of a row, up to the first refusal
abbrev pub TakesObjectSymbols : (sections : List ℕ) → Result (List ObjectSymbol) LinkRefusal → (old new : KeyList) → (row : ℕ) → Result (Unit {0}) LinkFault → Type 0
TakesObjectSymbols sections known old new row (Ok done) = (symbols : List ObjectSymbol) × (known ≡ Ok symbols) × TookSymbols old new (map (symbol_without sections) symbols) (Some row)
TakesObjectSymbols sections known old new row (Err fault) = IsLinkFault (refusal_of known) fault

-- THE SYMBOLS up to an index of a table are taken: with the others they are those from the first
abbrev pub TookRows : (file : List ℕ) → (table_at first index count : ℕ) → (sections : List ℕ) → (old new : KeyList) → (row : ℕ) → Type 0
TookRows file table_at first index count sections old new row =
    (done : List ObjectSymbol) × (symbols_from file table_at first (count - first) ≡ followed done (symbols_from file table_at index (count - index)))
    × TookSymbols old new (map (symbol_without sections) done) (Some row)
