-- What a table of keys holds, and what a name and a symbol do to it.
use Rattle.std.specs.Prelude.{ℕ, ◌≡◌, ◌+◌, ◌≤◌, ◌<◌, ◌^◌, Bool, true, List, [], length, Option, None, Some, Result, Ok, Err, bytes_eq}
use Rattle.std.specs.Borrow.{Bor}
use Rattle.std.specs.List.{count_by}
use Rattle.std.specs.Map.{lookup}
use Rattle.elf_model.specs.LinkKeys.{LinkKeys, entered, entry_named_as, further_after, is_further, key_index, key_in, key_used}
use Rattle.elf_model.specs.LinkObjects.{is_kept, name_noted, signature_kept}
use Rattle.elf_model.specs.declared.link_states.FurtherDefinition.{FurtherDefinition}
use Rattle.elf_model.specs.declared.link_states.KeyEntry.{KeyEntry}
use Rattle.elf_model.specs.declared.link_states.SymbolUse.{SymbolUse}
use Rattle.elf_resolve.specs.declared.table.KeyFault.{KeyFault}
use Rattle.elf_resolve.specs.declared.table.KeyFault.TheVariants.{TooManyKeys, TooManyBytes, TooManyFurther, OutOfMemory}

-- the keys; how many there is room for; for how many bytes of further names; and for how many further
-- definitions
pub record KeyList : Type 0 where
  pub keys : LinkKeys
  pub most : ℕ
  pub room : ℕ
  pub most_further : ℕ

-- the place of each name in the map is the first one among the names
abbrev pub FindsKeys : List (Bor (List ℕ) × ℕ) → List (List ℕ) → Type 0
FindsKeys entries names = (q : List ℕ) → lookup (λ k. bytes_eq q k.now) entries ≡ key_in names q

-- a map, names and entries hold the same keys, there is room for the others, and the counts are those
-- of the entries
pub record Holds (places : List (Bor (List ℕ) × ℕ)) (names : List (List ℕ)) (entries : List KeyEntry) (count ordered asked most names_room entries_room order_room spare_places further most_further further_room : ℕ) : Type 0 where
  pub finds : FindsKeys places names
  pub paired : length entries ≡ count
  pub within : count ≤ most
  pub names_fit : most ≤ names_room
  pub entries_fit : most ≤ entries_room
  pub order_fits : most ≤ order_room
  pub places_fit : most ≤ count + spare_places
  pub indexed : most < 2 ^ 32
  pub met : ordered ≡ count_by (λ (e : KeyEntry). e.is_met) entries
  pub asks : asked ≡ count_by (λ (e : KeyEntry). e.is_asked) entries
  pub further_within : further ≤ most_further
  pub further_fit : most_further ≤ further_room

-- why a name can't be entered: room, or memory
abbrev pub IsFull : KeyList → List ℕ → KeyFault → Type 0
IsFull table name TooManyKeys = length table.keys.names ≡ table.most
IsFull table name TooManyBytes = (length table.keys.names < table.most) × (table.room < length name)
IsFull table name TooManyFurther = ⊥
IsFull table name OutOfMemory = Unit {0}

-- the bytes that are kept of a name
abbrev pub fresh_or : Option ℕ → List ℕ → List ℕ
fresh_or None name = name
fresh_or (Some place) name = []

unfoldable pub fresh : LinkKeys → List ℕ → List ℕ
fresh keys name = fresh_or (key_in keys.names name) name

-- a name was entered, if it is new: its bytes are taken off the room
pub record Entered (old new : KeyList) (name : List ℕ) (index : ℕ) : Type 0 where
  pub keys : new.keys ≡ entered old.keys name
  pub index_is : index ≡ key_index old.keys name
  pub most : new.most ≡ old.most
  pub most_further : new.most_further ≡ old.most_further
  pub room : new.room + length (fresh old.keys name) ≡ old.room

-- it is new and there is no room: nothing changes
pub record NotEntered (old new : KeyList) (name : List ℕ) (fault : KeyFault) : Type 0 where
  pub same : new ≡ old
  pub absent : key_in old.keys.names name ≡ None
  pub full : IsFull old name fault

-- A NAME ENTERED
abbrev pub Enters : KeyList → KeyList → List ℕ → Result ℕ KeyFault → Type 0
Enters old new name (Ok index) = Entered old new name index
Enters old new name (Err fault) = NotEntered old new name fault

-- A FURTHER DEFINITION ADDED, if it is one
pub record AddedFurther (old new : List FurtherDefinition) (most : ℕ) (definition : FurtherDefinition) (is_one : Bool) : Type 0 where
  pub items : new ≡ further_after old definition.key definition.row is_one
  pub within : length new ≤ most

pub record NotAddedFurther (old new : List FurtherDefinition) (most : ℕ) (is_one : Bool) (fault : KeyFault) : Type 0 where
  pub same : new ≡ old
  pub fault_is : fault ≡ TooManyFurther
  pub is : is_one ≡ true
  pub full : length old ≡ most

abbrev pub AddsFurther : List FurtherDefinition → List FurtherDefinition → (most : ℕ) → FurtherDefinition → (is_one : Bool) → Result (Unit {0}) KeyFault → Type 0
AddsFurther old new most definition is_one (Ok done) = AddedFurther old new most definition is_one
AddsFurther old new most definition is_one (Err fault) = NotAddedFurther old new most is_one fault

-- a key was not used: it is defined once more, and there is no room
pub record NotUsed (old new : KeyList) (index : ℕ) (symbol : SymbolUse) (fault : KeyFault) : Type 0 where
  pub same : new ≡ old
  pub fault_is : fault ≡ TooManyFurther
  pub once_more : is_further (entry_named_as old.keys index) symbol ≡ true
  pub full : length old.keys.further ≡ old.most_further

-- A KEY USED by a symbol of a row
abbrev pub UsesKey : KeyList → KeyList → (index : ℕ) → SymbolUse → (row : Option ℕ) → Result (Unit {0}) KeyFault → Type 0
UsesKey old new index symbol row (Ok done) = new ≡ record old { keys = key_used old.keys index symbol row }
UsesKey old new index symbol row (Err fault) = NotUsed old new index symbol fault

-- A GROUP KEPT, or dropped: its signature was entered
pub record KeptGroup (old new : KeyList) (signature : List ℕ) (is_link_once dropped : Bool) : Type 0 where
  pub keys : new.keys ≡ signature_kept (entered old.keys signature) (key_index old.keys signature) is_link_once
  pub dropped_is : dropped ≡ is_kept is_link_once (entry_named_as (entered old.keys signature) (key_index old.keys signature))
  pub most : new.most ≡ old.most
  pub most_further : new.most_further ≡ old.most_further
  pub room : new.room + length (fresh old.keys signature) ≡ old.room

abbrev pub KeepsGroup : KeyList → KeyList → (signature : List ℕ) → (is_link_once : Bool) → Result Bool KeyFault → Type 0
KeepsGroup old new signature is_link_once (Ok dropped) = KeptGroup old new signature is_link_once dropped
KeepsGroup old new signature is_link_once (Err fault) = NotEntered old new signature fault

-- A SECTION NOTED at the key of its name, which was entered
pub record NotedSection (old new : KeyList) (name : List ℕ) : Type 0 where
  pub keys : new.keys ≡ name_noted old.keys name
  pub most : new.most ≡ old.most
  pub most_further : new.most_further ≡ old.most_further
  pub room : new.room + length (fresh old.keys name) ≡ old.room

abbrev pub NotesSection : KeyList → KeyList → List ℕ → Result (Unit {0}) KeyFault → Type 0
NotesSection old new name (Ok done) = NotedSection old new name
NotesSection old new name (Err fault) = NotEntered old new name fault
