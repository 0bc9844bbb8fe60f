-- What a loader's lookup in a file in memory gives its caller.
use Rattle.std.specs.Prelude.{ℕ, ◌≡◌, ◌≤◌, true, false, List, length, Option, None, Some, Result, Ok, Err, IfSome}
use Rattle.elf_loader.specs.Prelude.{AnswersLoaderLookup}
use Rattle.elf_loader.specs.declared.lookup.SymbolLookup.TheVariants.{Absent, Found}
use Rattle.elf_loader.specs.declared.lookup.FoundSymbol.{FoundSymbol}
use Rattle.elf_loader.specs.declared.found.FoundVersion.{FoundVersion}
use Rattle.elf_loader.specs.declared.lookup.SymbolLookup.{SymbolLookup}
use Rattle.elf_loader.specs.declared.found.VersionName.TheVariants.{Told, Unnamed, Wanted as IsWanted}
use Rattle.elf_loader.specs.declared.found.VersionName.{VersionName}
use Rattle.elf_model.specs.Prelude.{IsBudgetRefusal, SymbolQuery, is_hidden, loader_cost, loader_looked, looked_at, number_in}
use Rattle.elf_model.specs.declared.causes.Refusal.{Refusal}
use Rattle.elf_model.specs.Hash.{Refused}
use Rattle.elf_table.specs.declared.names.NameEnd.TheVariants.{Cut, Whole}
use Rattle.elf_table.specs.declared.names.NameEnd.{NameEnd}
use Rattle.elf_capi.specs.Found.{no_symbol}
use Rattle.elf_capi.specs.Ends.{ReturnsCause, ReturnsNone}
use Rattle.elf_capi.specs.Limits.{AreInRange, budget_of, headers_of}
use Rattle.elf_capi.specs.Queries.{QueryAsked, IsPermitted, goes_by_segments, wanted_by}
use Rattle.elf_capi.specs.Wants.{IsWanting}
use Rattle.elf_capi.specs.declared.end.CallEnd.{CallEnd}
use Rattle.elf_capi.specs.declared.limits.CallerLimits.{CallerLimits}
use Rattle.elf_capi.specs.declared.resolved.Resolved.{Resolved}

-- nothing was found, and n symbols were tried
abbrev pub nothing_resolved : ℕ → Resolved
nothing_resolved tried = record {
  symbol = no_symbol;
  index = 0;
  tried = tried;
  version = record { at = 0; len = 0 };
  has_version = 0;
  is_hidden = 0;
  is_cut = 0;
  section = 0;
  words = 0;
  number = 0;
  none = 0;
  none_behind = 0;
}

-- the file as a lookup views it: with the section header fields of its header set to zero, if it is
-- a lookup by the program headers
abbrev pub file_of : QueryAsked → List ℕ → List ℕ
file_of asks file = looked_at (goes_by_segments asks.flags) file

-- a lookup within a budget, in a file of the given size and with the given number of headers
-- allowed: its result, with the name of a version in these bytes; or its refusal, except one for
-- lack of budget, which occurs only if the lookup costs more
abbrev pub ResolvesIn : List ℕ → ℕ → Option ℕ → ℕ → SymbolQuery → List ℕ → Result SymbolLookup Refusal → Type 0
ResolvesIn file headers budget size wanted told (Ok lookup) =
    AnswersLoaderLookup file wanted.asked told (loader_looked file headers wanted) lookup
ResolvesIn file headers budget size wanted told (Err refusal) =
    ((IsBudgetRefusal refusal → ⊥) → (loader_looked file headers wanted).lookup.answer ≡ Refused refusal)
    × (IsBudgetRefusal refusal → IsWanting budget (loader_cost file headers wanted) size refusal)

-- limits in range, room for a header, flags that are known, and a name and a version of at most
-- 4,096 bytes
abbrev MayResolve : CallerLimits → ℕ → QueryAsked → Type 0
MayResolve limits room asks = AreInRange limits room × IsPermitted asks

-- a lookup in a file; or the arguments are out of range, and nothing is read
abbrev pub Resolves : List ℕ → CallerLimits → ℕ → QueryAsked → List ℕ → ℕ → Option (Result SymbolLookup Refusal) → Type 0
Resolves file limits room asks told asked None = (MayResolve limits room asks → ⊥) × (asked ≡ 0)
Resolves file limits room asks told asked (Some answer) =
    MayResolve limits room asks
    × ResolvesIn (file_of asks file) (headers_of limits room) (budget_of limits) (length file) (wanted_by asks) told answer

-- the numbers of a symbol
abbrev pub HasSymbol : Resolved → FoundSymbol → Type 0
HasSymbol resolved found =
    (resolved.symbol ≡ found.symbol) × (resolved.index ≡ found.index) × (resolved.tried ≡ found.tried)
    × (resolved.section ≡ found.section) × (resolved.none ≡ 0) × (resolved.none_behind ≡ 0)

-- they are unchanged
abbrev pub SameSymbol : Resolved → Resolved → Type 0
SameSymbol old new =
    (new.symbol ≡ old.symbol) × (new.index ≡ old.index) × (new.tried ≡ old.tried)
    × (new.section ≡ old.section) × (new.none ≡ old.none) × (new.none_behind ≡ old.none_behind)

-- whether a name has more bytes than those given, as a number
abbrev pub cut_number : NameEnd → ℕ
cut_number Whole = 0
cut_number Cut = 1

-- the name of a version: n bytes at an offset, if it is reported, and no bytes if it is the wanted
-- one or none
abbrev ReturnsName : Resolved → ℕ → ℕ → VersionName → Type 0
ReturnsName resolved at told IsWanted = (resolved.version ≡ record { at = 0; len = 0 }) × (resolved.is_cut ≡ 0)
ReturnsName resolved at told Unnamed = (resolved.version ≡ record { at = 0; len = 0 }) × (resolved.is_cut ≡ 0)
ReturnsName resolved at told (Told end) = (resolved.version ≡ record { at = at; len = told }) × (resolved.is_cut ≡ cut_number end)

-- the numbers of a version, of whose name the given bytes are available; all 0 if there are no
-- versions
abbrev pub ReturnsFoundVersion : Resolved → ℕ → Option FoundVersion → Type 0
ReturnsFoundVersion resolved told None =
    (resolved.has_version ≡ 0) × (resolved.is_hidden ≡ 0) × (resolved.words ≡ 0) × (resolved.number ≡ 0)
    × (resolved.version ≡ record { at = 0; len = 0 }) × (resolved.is_cut ≡ 0)
ReturnsFoundVersion resolved told (Some version) =
    (resolved.has_version ≡ 1) × (resolved.is_hidden ≡ elim (is_hidden version.word) [ true ↦ 1 | false ↦ 0 ])
    × (resolved.words ≡ version.index) × (resolved.number ≡ number_in version.word)
    × ReturnsName resolved version.name_at told version.name

-- the result as numbers
abbrev pub ReturnsResolved : ℕ → Resolved → CallEnd → ℕ → Option (Result SymbolLookup Refusal) → Type 0
ReturnsResolved status resolved end told (Some (Ok (Found found))) =
    (status ≡ 0) × HasSymbol resolved found × ReturnsFoundVersion resolved told found.version × ReturnsNone end
ReturnsResolved status resolved end told (Some (Ok (Absent tried))) = (status ≡ 2) × (resolved ≡ nothing_resolved tried) × ReturnsNone end
ReturnsResolved status resolved end told (Some (Err refusal)) = (status ≡ 1) × (resolved ≡ nothing_resolved 0) × ReturnsCause end refusal
ReturnsResolved status resolved end told None = (status ≡ 4) × (resolved ≡ nothing_resolved 0) × ReturnsNone end

-- WHAT A CALLER HAS of a loader's lookup, with the given bytes of room: its result, as the numbers
-- have it, with what is reported of the name of a version
pub record IsResolved (file : List ℕ) (limits : CallerLimits) (room : ℕ) (asks : QueryAsked) (status : ℕ) (resolved : Resolved) (end : CallEnd) : Type 0 where
  pub told : List ℕ
  pub answer : Option (Result SymbolLookup Refusal)
  pub resolves : Resolves file limits room asks told end.asked answer
  pub tells : ReturnsResolved status resolved end (length told) answer
  pub nothing : (end.written ≡ 0) × (end.none ≡ 0)
  pub cost : end.asked ≤ loader_cost (file_of asks file) (headers_of limits room) (wanted_by asks)
  pub budget : IfSome (budget_of limits) (λ bytes. end.asked ≤ bytes)
