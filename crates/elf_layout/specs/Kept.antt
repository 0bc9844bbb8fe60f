-- Addresses as a layout, however they are stored.
use Rattle.std.specs.Prelude.{◌≡◌}
use Rattle.elf_model.specs.Prelude.{Compared, Layout, Searched}
use Rattle.elf_model.specs.declared.relocation_types.RelocationBase.{RelocationBase}
use Rattle.elf_layout.specs.Layouts.{names_for}
use Rattle.elf_layout.specs.declared.addresses.Among.{Among}
use Rattle.elf_layout.specs.declared.addresses.Among.TheVariants as among
use Rattle.elf_layout.specs.declared.addresses.AddressStorage.{AddressStorage}
use Rattle.elf_layout.specs.declared.addresses.AddressStorage.TheVariants.{Fixed, Lent}
use Rattle.elf_layout.specs.declared.addresses.BorrowedLayout.{BorrowedLayout}

-- a borrowed layout is searched
abbrev pub borrowed_as : BorrowedLayout → Layout
borrowed_as lent = record {
  lookup = Searched;
  sections = lent.sections;
  definitions = lent.definitions;
  linkage = lent.linkage;
  table = lent.table;
  thread = lent.thread;
}

-- what is stored
abbrev pub kept_as : AddressStorage → Layout
kept_as (Fixed layout) = layout.now
kept_as (Lent lent) = borrowed_as lent.now

-- the names that are searched for a base, and how a symbol's name is searched among them
abbrev pub IsAmong : Layout → RelocationBase → Among → Type 0
IsAmong layout base (among.Compared items) = (layout.lookup ≡ Compared) × (items.now ≡ names_for layout base)
IsAmong layout base (among.Searched names) = (layout.lookup ≡ Searched) × (names.now ≡ names_for layout base)
