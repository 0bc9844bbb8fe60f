-- What limits and room allow.
use Rattle.elf_options.specs.Prelude.{AreHeaders, AreNameBytes, style_of}
use Rattle.elf_options.specs.declared.caps.Caps.{Caps}
use Rattle.elf_options.specs.declared.caps.Limits.{Limits as Permitted}
use Rattle.std.specs.Prelude.{ℕ, ◌≡◌, ◌≤◌, ◌/◌, ◌==◌, min, true, false, Option, None, Some}
use Rattle.elf_capi.specs.Asked.{caller_style}
use Rattle.elf_capi.specs.declared.caller_listing.CallerListing.{CallerListing}
use Rattle.elf_capi.specs.declared.limits.CallerLimits.{CallerLimits}

-- the read budget, if there is one
abbrev pub budget_of : CallerLimits → Option ℕ
budget_of limits = elim (limits.has_budget == 0) [ true ↦ None | false ↦ Some limits.budget ]

-- how many headers are allowed: as many as the limits say, or as many as the given bytes of room
-- hold, 64 bytes each
abbrev pub headers_of : CallerLimits → ℕ → ℕ
headers_of limits room = min limits.headers (room / 64)

-- limits in range, and room for a header
abbrev pub AreInRange : CallerLimits → ℕ → Type 0
AreInRange limits room = AreHeaders limits.headers × (64 ≤ room)

-- the same for a listing, which also limits the bytes of a name
abbrev pub AreCaps : CallerLimits → ℕ → Type 0
AreCaps limits room = AreInRange limits room × AreNameBytes limits.name

-- what limits and room allow is returned if they are in range, and not otherwise
abbrev pub GivesLimits : CallerLimits → ℕ → Option Permitted → Type 0
GivesLimits limits room None = AreInRange limits room → ⊥
GivesLimits limits room (Some permitted) = AreInRange limits room × (permitted.headers ≡ headers_of limits room) × (permitted.budget ≡ budget_of limits)

-- the same for a listing
abbrev pub GivesCaps : CallerLimits → ℕ → CallerListing → Option Caps → Type 0
GivesCaps limits room listing None = AreCaps limits room → ⊥
GivesCaps limits room listing (Some caps) =
    AreCaps limits room × (caps.limits.headers ≡ headers_of limits room) × (caps.limits.budget ≡ budget_of limits)
    × (style_of caps.style ≡ caller_style listing limits.name)
