-- A listing that shows no row, of which only the first fault is used.
use Rattle.std.specs.Prelude.{ℕ, ◌≡◌, ◌-◌, ◌^◌, None, Some}
use Rattle.elf_model.specs.Prelude.{ListingStyle}
use Rattle.elf_options.specs.Prelude.{style_of}
use Rattle.elf_options.specs.declared.caps.Caps.{Caps}

-- a style by which only rows at the last offset are shown, which no file has
abbrev pub unshown : ListingStyle → ListingStyle
unshown style = record (style) { place = record { at = Some (2 ^ 64 - 1); address = None } }

-- the same limits, and such a style
pub record ShowsNoRows (caps fewer : Caps) : Type 0 where
  pub limits : fewer.limits ≡ caps.limits
  pub style : style_of fewer.style ≡ unshown (style_of caps.style)
