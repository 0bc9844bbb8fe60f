-- The layouts that arguments give.
use Rattle.std.specs.Prelude.{◌≡◌, ◌⊎◌, List, [], ◌∷◌, Result, Ok, Err}
use Rattle.clap.specs.Walk.{Text}
use Rattle.elf_layout.specs.Prelude.{ParsesItem, Pushes}
use Rattle.elf_layout.specs.declared.layout.LayoutFault.TheVariants.{Full, Repeat}
use Rattle.elf_layout.specs.declared.layout.Item.{Item}
use Rattle.elf_model.specs.Placing.{Layout}
use Rattle.elf_cli.specs.declared.faults.RequestFault.TheVariants.{BadItem, LayoutFull, LayoutRepeat}
use Rattle.elf_cli.specs.declared.faults.RequestFault.{RequestFault}

-- an argument is an item, which is added after those of its type
abbrev pub PutsItem : Text → Layout → Layout → Type 0
PutsItem word old new = (item : Item) × ParsesItem word item × Pushes {X = Unit {0}} item old new (Ok tt)

-- an argument is not an item; or one for which there is no room; or one whose index or name is
-- already there
abbrev pub RefusesItem : Text → Layout → RequestFault → Type 0
RefusesItem word old BadItem = (item : Item) → ParsesItem word item → ⊥
RefusesItem word old LayoutFull = (item : Item) × (new : Layout) × ParsesItem word item × Pushes {X = Unit {0}} item old new (Err Full)
RefusesItem word old LayoutRepeat = (item : Item) × (new : Layout) × ParsesItem word item × Pushes {X = Unit {0}} item old new (Err Repeat)
RefusesItem word old _ = ⊥

-- THE LAYOUT given by arguments after the items of another, from the first to the last; the first
-- refused argument decides
abbrev pub LaysWords : Layout → List Text → Result Layout RequestFault → Type 0
LaysWords old [] result = result ≡ Ok old
LaysWords old (word ∷ words) result =
    ((new : Layout) × PutsItem word old new × LaysWords new words result)
    ⊎ ((fault : RequestFault) × (result ≡ Err fault) × RefusesItem word old fault)
