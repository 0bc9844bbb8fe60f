-- Whether rows are selected.
use Rattle.std.specs.Prelude.{◌≡◌, ◌||◌, Bool}
use Rattle.elf_model.specs.Prelude.{is_narrow, is_placed}
use Rattle.elf_options.specs.declared.caps.ListingStyle.{ListingStyle}

-- rows are selected by name or by where they are, or not every symbol is shown
abbrev pub has_selection : ListingStyle → Bool
has_selection style = style.choice.by_name || (is_narrow style.symbols || is_placed style.place)

-- rows are selected, or every row is shown, as a style says
abbrev pub ShowsRows : Bool → ListingStyle → Type 0
ShowsRows selects style = selects ≡ has_selection style
