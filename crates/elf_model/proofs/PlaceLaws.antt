-- Which rows are shown by their place.
use Rattle.std.proofs.Common.{◌≡◌, ℕ, ◌&&◌, ◌||◌, true, false, Option, None, Some, refl}
use Rattle.std.specs.Prelude.{is_some}
use Rattle.elf_model.specs.PlaceFilters.{is_at, is_in_memory}
use Rattle.elf_model.specs.SymbolFilterLaws.{EveryPlaceIsShown}

pub every_place_is_shown : EveryPlaceIsShown
every_place_is_shown filter row none = by filter.at filter.address none
  where
    by : (at address : Option ℕ) → is_some at || is_some address ≡ false → is_at at row && is_in_memory address row ≡ true
    by None None none = refl
    by None (Some address) none = cc
    by (Some at) address none = cc
