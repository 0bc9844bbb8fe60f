-- Which symbols a filter chooses.
use Rattle.std.proofs.Common.{◌≡◌, ◌&&◌, ◌||◌, not, Bool, true, false, refl}
use Rattle.elf_model.specs.SymbolFilterLaws.{EverySymbolIsShown, NarrowedChooses}

pub narrowed_chooses : NarrowedChooses
narrowed_chooses true choice name after = refl
narrowed_chooses false choice name after = refl

pub every_symbol_is_shown : EverySymbolIsShown
every_symbol_is_shown filter is_defined is_dynamic none = by filter.defined filter.undefined filter.dynamic none
  where
    by : (d u y : Bool) → d || (u || y) ≡ false → (not d || is_defined) && ((not u || not is_defined) && (not y || is_dynamic)) ≡ true
    by false false false none = refl
    by false false true none = cc
    by false true y none = cc
    by true u y none = cc
