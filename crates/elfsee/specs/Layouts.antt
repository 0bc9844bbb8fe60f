-- A section that is applied with the items of a file.
use Rattle.std.specs.Prelude.{ℕ, ◌≡◌, ◌⊎◌, Bool, List, [], codes}
use Rattle.elf_model.specs.Placing.{Layout}
use Rattle.elf_layout.specs.declared.items.LayoutFileFault.TheVariants.{BadItem, Memory, Read, Repeats, TooLarge}
use Rattle.elf_layout.specs.declared.items.LayoutFileFault.{LayoutFileFault}
use Rattle.elf_requests.specs.declared.requests.Task.TheVariants.{Place}
use Rattle.elf_requests.specs.declared.requests.Task.{Task}
use Rattle.elfsee.specs.Ends.{EndsWithoutMemory}

-- a task applies a section in these addresses
abbrev pub PlacesIn : (section : ℕ) → Layout → (explain : Bool) → Task → Type 0
PlacesIn section layout explain (Place applied addresses explained) = (applied ≡ section) × (addresses.now ≡ layout) × (explained ≡ explain)
PlacesIn section layout explain _ = ⊥

-- a message for a line was written, or there was no memory for it
abbrev pub EndsBadLine : ℕ → List ℕ → Type 0
EndsBadLine status line = ((status ≡ 2) × (line ≡ [])) ⊎ EndsWithoutMemory status line

-- how the program ends if a file gives no items: a message for the line is written before
abbrev pub EndsItems : LayoutFileFault → ℕ → List ℕ → Type 0
EndsItems Read status line = (status ≡ 2) × (line ≡ codes "elfsee: cannot read layout")
EndsItems TooLarge status line = (status ≡ 2) × (line ≡ codes "elfsee: layout too large")
EndsItems (BadItem number) status line = EndsBadLine status line
EndsItems (Repeats number) status line = EndsBadLine status line
EndsItems Memory status line = EndsWithoutMemory status line
