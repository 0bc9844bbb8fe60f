-- What the symbols of a file do to a table of keys.
use Rattle.std.specs.Prelude.{ℕ, ◌≡◌, ◌+◌, ◌⊎◌, true, List, [], ◌∷◌, length, Option, None, Some, Result, Ok, Err}
use Rattle.std.specs.Borrow.{Bor}
use Rattle.elf_model.specs.LinkKeys.{LinkSymbol, entry_named, is_further, key_in, name_used, symbol_taken, symbols_taken}
use Rattle.elf_model.specs.declared.link_states.SymbolUse.{SymbolUse}
use Rattle.elf_resolve.specs.KeptLimits.{KeepsLimits}
use Rattle.elf_resolve.specs.KeyTables.{IsFull, KeyList, fresh}
use Rattle.elf_resolve.specs.declared.symbols.Symbol as given
use Rattle.elf_resolve.specs.declared.table.KeyFault.{KeyFault}
use Rattle.elf_resolve.specs.declared.table.KeyFault.TheVariants.{TooManyFurther}

-- a symbol that is passed in
abbrev pub name_of_symbol_in : Option (Bor (List ℕ)) → Option (List ℕ)
name_of_symbol_in None = None
name_of_symbol_in (Some name) = Some name.now

abbrev pub symbol_record : given.Symbol → LinkSymbol
symbol_record s = record { name = s.name.now; default_name = name_of_symbol_in s.default_name; symbol = s.symbol }

-- why a symbol can't use a name: it is new and can't be entered, or the symbol defines it once more,
-- and there is no room for a further definition
abbrev pub LacksRoomForUse : KeyList → List ℕ → SymbolUse → KeyFault → Type 0
LacksRoomForUse table name symbol fault =
    ((key_in table.keys.names name ≡ None) × IsFull table name fault)
    ⊎ ((fault ≡ TooManyFurther) × (is_further (entry_named table.keys name) symbol ≡ true) × (length table.keys.further ≡ table.most_further))

-- A NAME USED: it was entered
pub record UsedName (old new : KeyList) (name : List ℕ) (symbol : SymbolUse) (row : Option ℕ) : Type 0 where
  pub keys : new.keys ≡ name_used row old.keys name symbol
  pub most : new.most ≡ old.most
  pub most_further : new.most_further ≡ old.most_further
  pub room : new.room + length (fresh old.keys name) ≡ old.room

-- there was no room
pub record NotUsedName (old new : KeyList) (name : List ℕ) (symbol : SymbolUse) (fault : KeyFault) : Type 0 where
  pub limits : KeepsLimits old new
  pub full : LacksRoomForUse new name symbol fault

abbrev pub UsesName : KeyList → KeyList → List ℕ → SymbolUse → (row : Option ℕ) → Result (Unit {0}) KeyFault → Type 0
UsesName old new name symbol row (Ok done) = UsedName old new name symbol row
UsesName old new name symbol row (Err fault) = NotUsedName old new name symbol fault

-- why a symbol can't be taken: its name can't be used, or that without the version
abbrev pub LacksRoomForSome : KeyList → Option (List ℕ) → SymbolUse → KeyFault → Type 0
LacksRoomForSome table None symbol fault = ⊥
LacksRoomForSome table (Some name) symbol fault = LacksRoomForUse table name symbol fault

abbrev pub LacksRoomForSymbol : KeyList → LinkSymbol → KeyFault → Type 0
LacksRoomForSymbol table s fault = LacksRoomForUse table s.name s.symbol fault ⊎ LacksRoomForSome table s.default_name s.symbol fault

-- A SYMBOL TAKEN
pub record TookSymbol (old new : KeyList) (symbol : LinkSymbol) (row : Option ℕ) : Type 0 where
  pub keys : new.keys ≡ symbol_taken row old.keys symbol
  pub most : new.most ≡ old.most
  pub most_further : new.most_further ≡ old.most_further

-- there was no room
pub record NotTookSymbol (old new : KeyList) (symbol : LinkSymbol) (fault : KeyFault) : Type 0 where
  pub limits : KeepsLimits old new
  pub full : LacksRoomForSymbol new symbol fault

abbrev pub TakesSymbol : KeyList → KeyList → LinkSymbol → (row : Option ℕ) → Result (Unit {0}) KeyFault → Type 0
TakesSymbol old new symbol row (Ok done) = TookSymbol old new symbol row
TakesSymbol old new symbol row (Err fault) = NotTookSymbol old new symbol fault

-- SYMBOLS TAKEN, in order
pub record TookSymbols (old new : KeyList) (symbols : List LinkSymbol) (row : Option ℕ) : Type 0 where
  pub keys : new.keys ≡ symbols_taken row old.keys symbols
  pub most : new.most ≡ old.most
  pub most_further : new.most_further ≡ old.most_further

-- there was no room for one of them
abbrev pub LacksRoomForOne : KeyList → List LinkSymbol → KeyFault → Type 0
LacksRoomForOne table [] fault = ⊥
LacksRoomForOne table (s ∷ symbols) fault = LacksRoomForSymbol table s fault ⊎ LacksRoomForOne table symbols fault

pub record NotTookSymbols (old new : KeyList) (symbols : List LinkSymbol) (fault : KeyFault) : Type 0 where
  pub limits : KeepsLimits old new
  pub full : LacksRoomForOne new symbols fault

abbrev pub TakesSymbols : KeyList → KeyList → List LinkSymbol → (row : Option ℕ) → Result (Unit {0}) KeyFault → Type 0
TakesSymbols old new symbols row (Ok done) = TookSymbols old new symbols row
TakesSymbols old new symbols row (Err fault) = NotTookSymbols old new symbols fault
