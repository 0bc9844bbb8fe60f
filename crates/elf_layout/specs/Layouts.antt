-- What is added to a layout, and what its names cost.
use Rattle.std.specs.Prelude.{ℕ, ◌≡◌, ◌≢◌, ◌+◌, ◌≤◌, ◌<◌, List, [], ◌∷◌, ◌++◌, length, sum_by, All, Any, Result, Ok, Err}
use Rattle.elf_model.specs.Prelude.{Layout, pad64}
use Rattle.elf_model.specs.declared.relocation_types.RelocationBase.{RelocationBase}
use Rattle.elf_model.specs.declared.relocation_types.RelocationBase.TheVariants as base
use Rattle.elf_layout.specs.declared.layout.Item.{Item}
use Rattle.elf_layout.specs.declared.layout.Item.TheVariants.{Section, Define, Entry, Table, Thread}
use Rattle.elf_layout.specs.declared.layout.LayoutFault.{LayoutFault}
use Rattle.elf_layout.specs.declared.layout.LayoutFault.TheVariants.{Full, Repeat}

-- a valid name of an item: 1 to 255 bytes, none a NUL
abbrev pub IsName : List ℕ → Type 0
IsName name = (0 < length name) × (length name ≤ 255) × All (λ byte. byte ≢ 0) name

-- each item has a valid name
abbrev pub HaveNames : List (List ℕ × ℕ) → Type 0
HaveNames items = All (λ item. IsName item.0) items

-- the name of an item, if it has one
abbrev pub OnName : Item → (List ℕ → Type 0) → Type 0
OnName (Section index address) P = Unit {0}
OnName (Define name address) P = P name.now
OnName (Entry name address) P = P name.now
OnName (Table name address) P = P name.now
OnName (Thread name address) P = P name.now

-- one of some items has this index, or name
abbrev pub HasKey : {K : Type 0} → List (K × ℕ) → K → Type 0
HasKey items key = Any (λ item. item.0 ≡ key) items

-- no item has it
abbrev pub LacksKey : {K : Type 0} → List (K × ℕ) → K → Type 0
LacksKey items key = All (λ item. item.0 ≢ key) items

-- an item is appended to others, up to a maximum; a repeated index or name is checked before the
-- number of items
abbrev pub Adds : {K X : Type 0} → ℕ → K → ℕ → List (K × ℕ) → List (K × ℕ) → Result X LayoutFault → Type 0
Adds most key address old new (Ok x) = (new ≡ old ++ (key, address) ∷ []) × LacksKey old key × (length old < most)
Adds most key address old new (Err Full) = (new ≡ old) × LacksKey old key × (length old ≡ most)
Adds most key address old new (Err Repeat) = (new ≡ old) × HasKey old key

-- an item is appended to those of its kind, and all else is unchanged
abbrev pub Pushes : {X : Type 0} → Item → Layout → Layout → Result X LayoutFault → Type 0
Pushes (Section index address) old new result =
    Adds 64 index address old.sections new.sections result
    × (new.definitions ≡ old.definitions) × (new.linkage ≡ old.linkage) × (new.table ≡ old.table) × (new.thread ≡ old.thread) × (new.lookup ≡ old.lookup)
Pushes (Define name address) old new result =
    Adds 32 name.now address old.definitions new.definitions result
    × (new.sections ≡ old.sections) × (new.linkage ≡ old.linkage) × (new.table ≡ old.table) × (new.thread ≡ old.thread) × (new.lookup ≡ old.lookup)
Pushes (Entry name address) old new result =
    Adds 32 name.now address old.linkage new.linkage result
    × (new.sections ≡ old.sections) × (new.definitions ≡ old.definitions) × (new.table ≡ old.table) × (new.thread ≡ old.thread) × (new.lookup ≡ old.lookup)
Pushes (Table name address) old new result =
    Adds 32 name.now address old.table new.table result
    × (new.sections ≡ old.sections) × (new.definitions ≡ old.definitions) × (new.linkage ≡ old.linkage) × (new.thread ≡ old.thread) × (new.lookup ≡ old.lookup)
Pushes (Thread name address) old new result =
    Adds 32 name.now address old.thread new.thread result
    × (new.sections ≡ old.sections) × (new.definitions ≡ old.definitions) × (new.linkage ≡ old.linkage) × (new.table ≡ old.table) × (new.lookup ≡ old.lookup)

-- what a comparison with each of some names costs
abbrev pub items_cost : List (List ℕ × ℕ) → ℕ
items_cost items = sum_by (λ item. pad64 (length item.0 + 1)) items

-- the names that are searched for a base
unfoldable pub names_for : Layout → RelocationBase → List (List ℕ × ℕ)
names_for layout base.Symbol = layout.definitions
names_for layout base.Linkage = layout.linkage
names_for layout base.Table = layout.table
names_for layout base.Thread = layout.thread
