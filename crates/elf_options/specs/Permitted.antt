-- The caps of a listing.
use Rattle.std.specs.Prelude.{ℕ, ◌≡◌, ◌≤◌, false, Option, None, Some}
use Rattle.elf_model.specs.Style.{ListingStyle as Styled, standard}
use Rattle.elf_options.specs.declared.caps.NameLimit.{NameLimit}
use Rattle.elf_options.specs.declared.caps.Caps.{Caps}
use Rattle.elf_options.specs.declared.caps.Limits.{Limits}
use Rattle.elf_options.specs.declared.caps.ListingStyle.{ListingStyle}
use Rattle.elf_options.specs.Chosen.{choice_of}

-- a style as the definitions of listings have it
abbrev pub style_of : ListingStyle → Styled
style_of style = record { cap = style.cap.bytes; gnu = style.gnu; by_segments = style.by_segments; format = style.format; choice = choice_of style.choice; symbols = style.symbols; place = style.place; versions = style.versions }

-- how many headers may be allowed
abbrev pub AreHeaders : ℕ → Type 0
AreHeaders headers = (1 ≤ headers) × (headers ≤ 65279)

-- how many bytes of a name may be shown
abbrev pub AreNameBytes : ℕ → Type 0
AreNameBytes bytes = (1 ≤ bytes) × (bytes ≤ 4096)

-- a limit of this many bytes is returned exactly if that many may be shown
abbrev pub PermitsName : ℕ → Option NameLimit → Type 0
PermitsName bytes None = AreNameBytes bytes → ⊥
PermitsName bytes (Some cap) = cap.bytes ≡ bytes

-- limits with this number and this budget are returned exactly if the number is allowed
abbrev pub PermitsHeaders : ℕ → Option ℕ → Option Limits → Type 0
PermitsHeaders headers budget None = AreHeaders headers → ⊥
PermitsHeaders headers budget (Some limits) = (limits.headers ≡ headers) × (limits.budget ≡ budget)

-- caps with these numbers, of the standards' names, and no budget are returned exactly if the
-- numbers are allowed
abbrev pub Permits : ℕ → ℕ → Option Caps → Type 0
Permits headers name None = AreHeaders headers × AreNameBytes name → ⊥
Permits headers name (Some caps) =
    (caps.limits.headers ≡ headers) × (style_of caps.style ≡ standard name) × (caps.limits.budget ≡ None)
