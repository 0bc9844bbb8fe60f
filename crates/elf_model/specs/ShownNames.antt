-- Names as they are shown, by their bytes.
use Rattle.std.specs.Prelude.{ℕ, Bool, true, false, List}
use Rattle.elf_model.specs.Names.{DisplayedName}
use Rattle.elf_model.specs.Names.DisplayedName.{Whole, Cut}

-- a name as it is shown, by whether it was cut
abbrev pub shown_as : Bool → List ℕ → DisplayedName
shown_as true name = Cut name
shown_as false name = Whole name
