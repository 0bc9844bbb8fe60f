-- What a caller looks up as a loader does.
use Rattle.std.specs.Prelude.{ℕ, ◌<◌, ◌≤◌, ◌%◌, ◌==◌, nat_lt, if◌then◌else◌, Bool, List, length}
use Rattle.elf_model.specs.Loader.{VersionQuery, NoVersion, Version, DefaultVersion, SymbolQuery}
use Rattle.elf_capi.specs.declared.query.Query.{Query}

-- WHAT A CALLER REQUESTS: how it is looked up, a name, and the name of a version
pub record QueryAsked : Type 0 where
  pub flags : ℕ
  pub name : List ℕ
  pub version : List ℕ

-- the same of borrowed names
abbrev pub asks_of : Query → QueryAsked
asks_of query = record { flags = query.flags; name = query.name.now; version = query.version.now }

-- flags are a sum: 1 is a lookup by the program headers, 2 requests the default version alone.
-- There are no others, and neither the name nor the version has more than 4,096 bytes
abbrev pub IsPermitted : QueryAsked → Type 0
IsPermitted asks = (asks.flags < 4) × (length asks.name ≤ 4096) × (length asks.version ≤ 4096)

-- whether it is a lookup by the program headers
abbrev pub goes_by_segments : ℕ → Bool
goes_by_segments flags = flags % 2 == 1

-- the version that is requested: none for a name of no bytes
abbrev pub asked_version : ℕ → List ℕ → VersionQuery
asked_version flags version =
    if length version == 0 then NoVersion else if nat_lt flags 2 then Version version else DefaultVersion version

-- the symbol query
abbrev pub wanted_by : QueryAsked → SymbolQuery
wanted_by asks = record { name = asks.name; asked = asked_version asks.flags asks.version }
