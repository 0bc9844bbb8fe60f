-- How much of a file a listing reads at most.
use Rattle.std.specs.Prelude.{ℕ, ◌≡◌, ◌-◌, ◌^◌, ◌⊎◌, min}
use Rattle.elf_model.specs.Cost.{ceiling}
use Rattle.elf_options.specs.Permitted.{AreHeaders, AreNameBytes}
use Rattle.elf_capi.specs.declared.limits.CallerLimits.{CallerLimits}

-- the most that fits, and that for limits out of range
abbrev pub IsCost : ℕ → CallerLimits → ℕ → Type 0
IsCost size limits cost =
    (AreHeaders limits.headers × AreNameBytes limits.name × (cost ≡ min (ceiling size limits.headers limits.name) (2 ^ 64 - 1)))
    ⊎ ((AreHeaders limits.headers × AreNameBytes limits.name → ⊥) × (cost ≡ 2 ^ 64 - 1))
