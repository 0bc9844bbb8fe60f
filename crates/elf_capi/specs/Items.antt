-- The layout that a caller's items give.
use Rattle.std.specs.Prelude.{ℕ, zero, suc, ◌≡◌, ◌<◌, ◌^◌, Bool, true, false, List, [], ◌∷◌, Option, None, Some, Ok}
use Rattle.elf_layout.specs.Prelude.{Adds, IsName}
use Rattle.elf_layout.specs.declared.layout.Item.TheVariants.{Define, Entry, Section, Table, Thread}
use Rattle.elf_layout.specs.declared.layout.Item.{Item as Laid}
use Rattle.elf_model.specs.Placing.{Layout, no_items}
use Rattle.elf_capi.specs.declared.items.CallerItem.{CallerItem}

-- an address is appended to others, up to a maximum number, none of which has its index or name
abbrev pub IsAdded : {K : Type 0} → ℕ → K → ℕ → List (K × ℕ) → List (K × ℕ) → Type 0
IsAdded most key address old new = Adds {X = Unit {0}} most key address old new (Ok tt)

-- an item of a kind is added to a layout, after those of its type, and all else is unchanged: 0 is
-- a section, by an index below 2^16; by a name, 1 a definition, 2 a PLT entry, 3 a GOT entry and 4
-- a GOT entry for an offset from the thread pointer; there are no others
abbrev pub PutsKind : ℕ → CallerItem → Layout → Layout → Type 0
PutsKind zero item old new =
    (item.index < 2 ^ 16) × IsAdded 64 item.index item.address old.sections new.sections
    × (new.definitions ≡ old.definitions) × (new.linkage ≡ old.linkage) × (new.table ≡ old.table) × (new.thread ≡ old.thread) × (new.lookup ≡ old.lookup)
PutsKind (suc zero) item old new =
    IsName item.name.now × IsAdded 32 item.name.now item.address old.definitions new.definitions
    × (new.sections ≡ old.sections) × (new.linkage ≡ old.linkage) × (new.table ≡ old.table) × (new.thread ≡ old.thread) × (new.lookup ≡ old.lookup)
PutsKind (suc (suc zero)) item old new =
    IsName item.name.now × IsAdded 32 item.name.now item.address old.linkage new.linkage
    × (new.sections ≡ old.sections) × (new.definitions ≡ old.definitions) × (new.table ≡ old.table) × (new.thread ≡ old.thread) × (new.lookup ≡ old.lookup)
PutsKind (suc (suc (suc zero))) item old new =
    IsName item.name.now × IsAdded 32 item.name.now item.address old.table new.table
    × (new.sections ≡ old.sections) × (new.definitions ≡ old.definitions) × (new.linkage ≡ old.linkage) × (new.thread ≡ old.thread) × (new.lookup ≡ old.lookup)
PutsKind (suc (suc (suc (suc zero)))) item old new =
    IsName item.name.now × IsAdded 32 item.name.now item.address old.thread new.thread
    × (new.sections ≡ old.sections) × (new.definitions ≡ old.definitions) × (new.linkage ≡ old.linkage) × (new.table ≡ old.table) × (new.lookup ≡ old.lookup)
PutsKind (suc (suc (suc (suc (suc kind))))) item old new = ⊥

-- an item is added to a layout
abbrev pub LaysItem : CallerItem → Layout → Layout → Type 0
LaysItem item old new = PutsKind item.kind item old new

-- THE LAYOUT that items give after those of another, from the first to the last
abbrev pub LaysItems : Layout → List CallerItem → Layout → Type 0
LaysItems old [] new = new ≡ old
LaysItems old (item ∷ items) new = (next : Layout) × LaysItem item old next × LaysItems next items new

-- items give this layout, or none
abbrev pub LaysOut : List CallerItem → Layout → Bool → Type 0
LaysOut items layout true = LaysItems no_items items layout
LaysOut items layout false = (other : Layout) → LaysItems no_items items other → ⊥

-- an item as a layout has it; none if no layout has it
abbrev pub GivesItem : CallerItem → Option Laid → Type 0
GivesItem item None = (old new : Layout) → LaysItem item old new → ⊥
GivesItem item (Some (Section index address)) = (item.kind ≡ 0) × (item.index < 2 ^ 16) × (index ≡ item.index) × (address ≡ item.address)
GivesItem item (Some (Define name address)) = (item.kind ≡ 1) × IsName item.name.now × (name.now ≡ item.name.now) × (address ≡ item.address)
GivesItem item (Some (Entry name address)) = (item.kind ≡ 2) × IsName item.name.now × (name.now ≡ item.name.now) × (address ≡ item.address)
GivesItem item (Some (Table name address)) = (item.kind ≡ 3) × IsName item.name.now × (name.now ≡ item.name.now) × (address ≡ item.address)
GivesItem item (Some (Thread name address)) = (item.kind ≡ 4) × IsName item.name.now × (name.now ≡ item.name.now) × (address ≡ item.address)
