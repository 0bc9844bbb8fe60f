-- A listing of the rows of some names, by that of every row which the same bytes request.
use Rattle.std.proofs.Common.{◌≡◌, ℕ, Bool, true, false, if◌then◌else◌, List, None, Some, refl, sym, ap, subst, ◌∙◌}
use Rattle.elf_model.specs.Prelude.{EveryRow, ListingStyle}
use Rattle.elf_options.specs.Prelude.{named_style, texts_of}
use Rattle.elf_capi.specs.Prelude.{AreLendableNames, AsksListing, BorrowedTexts, GivesListing, IsChosenPart, every_row_of, has_versions_in, style_of_flags}
use Rattle.elf_capi.specs.declared.caller_listing.CallerListing.{CallerListing}

-- a style of every row does not select by name
by_flag : (by_name : Bool) (names : List (List ℕ)) (style every : ListingStyle) → every.choice ≡ EveryRow → (if by_name then named_style names style else style) ≡ every → style ≡ every
by_flag false names style every rows same = same
by_flag true names style every rows same =
    let choice : (named_style names style).choice ≡ EveryRow = ap (λ (s : ListingStyle). s.choice) same ∙ rows in
    absurd (cc)

module _ (asked : List ℕ) (every : CallerListing) (gives : GivesListing asked None (Some every)) where
  pub every_row : (cap : ℕ) → every_row_of every cap ≡ style_of_flags asked cap
  every_row cap = by_flag every.by_name (texts_of every.names.now) (every_row_of every cap) (style_of_flags asked cap) refl (gives.2 cap)

  pub versions_are : every.versions ≡ has_versions_in asked
  versions_are = ap (λ (s : ListingStyle). s.versions) (every_row 0)

  pub no_part : (names : BorrowedTexts) → (IsChosenPart every.parts.0 → ⊥) → AsksListing asked (Some names) → ⊥
  no_part names none asks = none (subst IsChosenPart (sym gives.1) asks.1.0)

  pub no_names : (names : BorrowedTexts) → (AreLendableNames every.versions names → ⊥) → AsksListing asked (Some names) → ⊥
  no_names names none asks = none (subst (λ (v : Bool). AreLendableNames v names) (sym versions_are) asks.1.1)

  pub asks_named : (names : BorrowedTexts) → IsChosenPart every.parts.0 → AreLendableNames every.versions names → AsksListing asked (Some names)
  asks_named names part may = (gives.0.0, (subst IsChosenPart gives.1 part, subst (λ (v : Bool). AreLendableNames v names) versions_are may))
