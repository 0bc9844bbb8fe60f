-- What is shown if no row is selected, and which symbols are.
use Rattle.std.proofs.Common.{◌≡◌, ℕ, ◌==◌, ◌&&◌, ◌||◌, not, Bool, true, false, List, refl, sym, ◌∙◌, subst}
use Rattle.elf_model.specs.Prelude.{DisplayedName, EveryRow, ListingStyle, RowFilter as RowsShown, Suffix, chooses, class_choice, is_narrow, is_placed, narrowed, place_of_symbol, placed_choice, sh_type, shows_place, shows_symbol, st_shndx, symbol_choice}
use Rattle.elf_model.proofs.PlaceLaws.{every_place_is_shown}
use Rattle.elf_model.proofs.FilterLaws.{every_symbol_is_shown}
use Rattle.elf_model.specs.declared.place_filters.RowPlace.{RowPlace}
use Rattle.elf_options.specs.Prelude.{choice_of, style_of}
use Rattle.elf_options.specs.declared.caps.ListingStyle.{ListingStyle as Shape}
use Rattle.elf_options.specs.declared.row_filter.RowFilter.{RowFilter}
use Rattle.elf_listing.specs.Choosing.{has_selection}

-- nothing is selected
nothing : (by_name narrow placed : Bool) → by_name || (narrow || placed) ≡ false → (by_name ≡ false) × (narrow ≡ false) × (placed ≡ false)
nothing false false false none = (refl, refl, refl)
nothing false false true none = cc
nothing false true placed none = cc
nothing true narrow placed none = cc

named_alone : (choice : RowFilter) (name : DisplayedName) (after : Suffix) → choice.by_name ≡ false → chooses (choice_of choice) name after ≡ true
named_alone choice name after none = rw none refl

-- every row is shown
pub every_row : (style : Shape) (name : DisplayedName) (after : Suffix) → has_selection style ≡ false → chooses (choice_of style.choice) name after ≡ true
every_row style name after none = named_alone style.choice name after (nothing style.choice.by_name (is_narrow style.symbols) (is_placed style.place) none).0

-- and every symbol
pub every_symbol : (style : Shape) (is_defined is_dynamic : Bool) → has_selection style ≡ false → shows_symbol style.symbols is_defined is_dynamic ≡ true
every_symbol style is_defined is_dynamic none =
    every_symbol_is_shown style.symbols is_defined is_dynamic (nothing style.choice.by_name (is_narrow style.symbols) (is_placed style.place) none).1

-- wherever they are
pub every_place : (style : Shape) (place : RowPlace) → has_selection style ≡ false → shows_place style.place place ≡ true
every_place style place none = every_place_is_shown style.place place (nothing style.choice.by_name (is_narrow style.symbols) (is_placed style.place) none).2

-- the rows of a class, and at a place, are both
pub class_and_place : (class place : Bool) (choice : RowsShown) (name : DisplayedName) (after : Suffix) → class && chooses (narrowed place choice) name after ≡ chooses (narrowed (class && place) choice) name after
class_and_place true place choice name after = refl
class_and_place false place choice name after = refl

-- the result for a symbol at a place, in a style that is the same
pub class-chosen-as : (style now : Shape) (file : List ℕ) (symbol_at : ℕ) (is_defined is_dynamic : Bool) (place : RowPlace) (name : DisplayedName) (after : Suffix) (answer b : Bool) → now ≡ style
    → is_defined ≡ not (st_shndx file symbol_at == 0) → place ≡ place_of_symbol file symbol_at
    → answer ≡ chooses (narrowed (shows_symbol now.symbols is_defined is_dynamic && shows_place now.place place) (choice_of now.choice)) name after → answer ≡ b
    → chooses (class_choice file (style_of style) is_dynamic symbol_at) name after ≡ b
class-chosen-as style now file symbol_at is_defined is_dynamic place name after answer b same defined here is shows =
    let by_class = sym is ∙ shows in
    let by_type =
    subst (λ (d : Bool). chooses (narrowed (shows_symbol now.symbols d is_dynamic && shows_place now.place place) (choice_of now.choice)) name after ≡ b) defined by_class in
    let by_place =
    subst (λ (p : RowPlace). chooses (narrowed (shows_symbol now.symbols (not (st_shndx file symbol_at == 0)) is_dynamic && shows_place now.place p) (choice_of now.choice)) name after ≡ b) here by_type in
    subst (λ (s : Shape). chooses (narrowed (shows_symbol s.symbols (not (st_shndx file symbol_at == 0)) is_dynamic && shows_place s.place (place_of_symbol file symbol_at)) (choice_of s.choice)) name after ≡ b) same by_place

-- and for one of a section of the file
pub symbol-chosen-as : (style now : Shape) (file : List ℕ) (at symbol_at : ℕ) (is_defined is_dynamic : Bool) (place : RowPlace) (name : DisplayedName) (after : Suffix) (answer b : Bool) → now ≡ style
    → is_defined ≡ not (st_shndx file symbol_at == 0) → is_dynamic ≡ (sh_type file at == 11) → place ≡ place_of_symbol file symbol_at
    → answer ≡ chooses (narrowed (shows_symbol now.symbols is_defined is_dynamic && shows_place now.place place) (choice_of now.choice)) name after → answer ≡ b
    → chooses (symbol_choice file (style_of style) at symbol_at) name after ≡ b
symbol-chosen-as style now file at symbol_at is_defined is_dynamic place name after answer b same defined dynamic here is shows =
    subst (λ (y : Bool). chooses (class_choice file (style_of style) y symbol_at) name after ≡ b) dynamic
    (class-chosen-as style now file symbol_at is_defined is_dynamic place name after answer b same defined here is shows)

-- and for any row at a place
pub placed-chosen-as : (style now : Shape) (place other : RowPlace) (name : DisplayedName) (after : Suffix) (answer b : Bool) → now ≡ style → place ≡ other
    → answer ≡ chooses (narrowed (shows_place now.place place) (choice_of now.choice)) name after → answer ≡ b
    → chooses (placed_choice (style_of style) other (choice_of style.choice)) name after ≡ b
placed-chosen-as style now place other name after answer b same here is shows =
    subst (λ (s : Shape). chooses (narrowed (shows_place s.place other) (choice_of s.choice)) name after ≡ b) same
    (subst (λ (p : RowPlace). chooses (narrowed (shows_place now.place p) (choice_of now.choice)) name after ≡ b) here (sym is ∙ shows))

-- and for one whose name decides nothing
pub placed-as : (style now : Shape) (place other : RowPlace) (answer b : Bool) → now ≡ style → place ≡ other
    → answer ≡ shows_place now.place place → answer ≡ b → shows_place style.place other ≡ b
placed-as style now place other answer b same here is shows =
    subst (λ (s : Shape). shows_place s.place other ≡ b) same (subst (λ (p : RowPlace). shows_place now.place p ≡ b) here (sym is ∙ shows))

pub unnamed-shown : (style : ListingStyle) (place : RowPlace) (name : DisplayedName) (after : Suffix) (b : Bool) → shows_place style.place place ≡ b → chooses (placed_choice style place EveryRow) name after ≡ b
unnamed-shown style place name after true is = rw is refl
unnamed-shown style place name after false is = rw is refl
