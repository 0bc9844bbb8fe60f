-- What a lookup in a file in memory gives its caller.
use Rattle.std.specs.Prelude.{ℕ, ◌≡◌, ◌≤◌, List, length, Option, None, Some, Result, Ok, Err, IfSome}
use Rattle.elf_model.specs.Prelude.{IsBudgetRefusal, find_cost, looked}
use Rattle.elf_model.specs.declared.causes.Refusal.{Refusal}
use Rattle.elf_model.specs.Hash.{Refused}
use Rattle.elf_hash.specs.Prelude.{AnswersSysvLookup}
use Rattle.elf_hash.specs.declared.lookup.Lookup.TheVariants.{Absent, Found}
use Rattle.elf_hash.specs.declared.lookup.Lookup.{Lookup}
use Rattle.elf_capi.specs.Ends.{ReturnsCause, ReturnsNone}
use Rattle.elf_capi.specs.Limits.{AreInRange, budget_of, headers_of}
use Rattle.elf_record.specs.declared.sym.Sym.{Sym}
use Rattle.elf_capi.specs.Wants.{IsWanting}
use Rattle.elf_capi.specs.declared.end.CallEnd.{CallEnd}
use Rattle.elf_capi.specs.declared.found.LookupFields.{LookupFields}
use Rattle.elf_capi.specs.declared.limits.CallerLimits.{CallerLimits}

-- a symbol of zeros, for a lookup that found none
abbrev pub no_symbol : Sym
no_symbol = record { st_value = 0; st_size = 0; st_name = 0; st_shndx = 0; st_info = 0; st_other = 0 }

-- nothing was found after n steps
abbrev pub nothing_after : ℕ → LookupFields
nothing_after steps = record {
  symbol = no_symbol;
  index = 0;
  steps = steps;
  section = 0;
  none = 0;
  none_behind = 0;
}

-- a lookup within a budget, with the given number of headers allowed: its result, or its refusal,
-- except one for lack of budget, which occurs only if the lookup costs more
abbrev pub LooksIn : List ℕ → ℕ → Option ℕ → List ℕ → Result Lookup Refusal → Type 0
LooksIn file headers budget name (Ok lookup) = AnswersSysvLookup file (looked file headers name) lookup
LooksIn file headers budget name (Err refusal) =
    ((IsBudgetRefusal refusal → ⊥) → (looked file headers name).answer ≡ Refused refusal)
    × (IsBudgetRefusal refusal → IsWanting budget (find_cost file headers name) (length file) refusal)

-- limits in range, room for a header, and a name of at most 4,096 bytes
abbrev MayLook : CallerLimits → ℕ → List ℕ → Type 0
MayLook limits room name = AreInRange limits room × (length name ≤ 4096)

-- a lookup in a file; or the arguments are out of range, and nothing is read
abbrev pub CallLooks : List ℕ → CallerLimits → ℕ → List ℕ → ℕ → Option (Result Lookup Refusal) → Type 0
CallLooks file limits room name asked None = (MayLook limits room name → ⊥) × (asked ≡ 0)
CallLooks file limits room name asked (Some looked) = MayLook limits room name × LooksIn file (headers_of limits room) (budget_of limits) name looked

-- the result as numbers
abbrev pub ReturnsLooked : ℕ → LookupFields → CallEnd → Option (Result Lookup Refusal) → Type 0
ReturnsLooked status found end (Some (Ok (Found section index symbol steps))) =
    (status ≡ 0) × (found.section ≡ section) × (found.index ≡ index) × (found.symbol ≡ symbol) × (found.steps ≡ steps) × (found.none ≡ 0) × (found.none_behind ≡ 0) × ReturnsNone end
ReturnsLooked status found end (Some (Ok (Absent steps))) = (status ≡ 2) × (found ≡ nothing_after steps) × ReturnsNone end
ReturnsLooked status found end (Some (Err refusal)) = (status ≡ 1) × (found ≡ nothing_after 0) × ReturnsCause end refusal
ReturnsLooked status found end None = (status ≡ 4) × (found ≡ nothing_after 0) × ReturnsNone end

-- WHAT A CALLER HAS of a lookup, with the given bytes of room: its result, as the numbers have it
pub record HasLookup (file : List ℕ) (limits : CallerLimits) (room : ℕ) (name : List ℕ) (status : ℕ) (found : LookupFields) (end : CallEnd) : Type 0 where
  pub answer : Option (Result Lookup Refusal)
  pub looks : CallLooks file limits room name end.asked answer
  pub tells : ReturnsLooked status found end answer
  pub nothing : (end.written ≡ 0) × (end.none ≡ 0)
  pub cost : end.asked ≤ find_cost file (headers_of limits room) name
  pub budget : IfSome (budget_of limits) (λ bytes. end.asked ≤ bytes)
