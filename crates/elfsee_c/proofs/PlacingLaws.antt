-- What a call in a borrowed layout did with its arguments, by its result.
use Rattle.std.proofs.Common.{◌≡◌, ℕ, ◌+◌, ◌≤◌, List, Option}
use Rattle.std.specs.Prelude.{IfSome}
use Rattle.elf_model.specs.Prelude.{Layout, apply_cost_by_order}
use Rattle.elf_reloc.specs.Explained.{explain_bytes}
use Rattle.elf_capi.specs.Prelude.{AppliesFor, AreInRange, ExplainsTold, MayBorrowLayout, PlacesInMemory, budget_of, headers_of, lent_layout}
use Rattle.elf_capi.specs.declared.call_status.CallStatus.TheVariants.{BadCall, Done, Full, Refused}
use Rattle.elf_capi.specs.declared.end.CallEnd.{CallEnd}
use Rattle.elf_capi.specs.declared.call_status.CallStatus.{CallStatus}
use Rattle.elf_capi.specs.declared.lent_layout.CallerLayout.{CallerLayout}
use Rattle.elf_capi.specs.declared.limits.CallerLimits.{CallerLimits}
use Rattle.elf_capi.specs.declared.missing.CallerMissing.{CallerMissing}

-- for each result
places_by : (file : List ℕ) (limits : CallerLimits) (section : ℕ) (layout : CallerLayout) (room : ℕ) (before out : List ℕ) (end : CallEnd) (missing : CallerMissing) (told : CallStatus)
    → AreInRange limits room → MayBorrowLayout layout → AppliesFor file (headers_of limits room) (budget_of limits) section (lent_layout layout) out end.written told
    → ExplainsTold file (headers_of limits room) (budget_of limits) section (lent_layout layout) (apply_cost_by_order file (headers_of limits room) section (lent_layout layout)) told missing
    → end.asked ≤ apply_cost_by_order file (headers_of limits room) section (lent_layout layout) + explain_bytes (headers_of limits room)
    → IfSome (budget_of limits) (λ bytes. end.asked ≤ bytes) → PlacesInMemory file limits section layout room before out end missing told
places_by file limits section layout room before out end missing Done range lend applies explains cost within =
    record { permitted = range; lent = lend; applies = applies; explains = explains; cost = cost; budget = within }
places_by file limits section layout room before out end missing (Refused refusal) range lend applies explains cost within =
    record { permitted = range; lent = lend; applies = applies; explains = explains; cost = cost; budget = within }
places_by file limits section layout room before out end missing Full range lend applies explains cost within =
    record { permitted = range; lent = lend; applies = applies; explains = explains; cost = cost; budget = within }
places_by file limits section layout room before out end missing BadCall range lend applies explains cost within = absurd applies

-- THE EFFECT OF A CALL, from what it was made with
pub places : (file : List ℕ) (limits : CallerLimits) (section : ℕ) (layout : CallerLayout) (room : ℕ) (before out : List ℕ) (end : CallEnd) (missing : CallerMissing) (told : CallStatus) (slots : ℕ) (budget : Option ℕ) (given : Layout)
    → slots ≡ headers_of limits room → budget ≡ budget_of limits → given ≡ lent_layout layout → AreInRange limits room → MayBorrowLayout layout
    → AppliesFor file slots budget section given out end.written told → ExplainsTold file slots budget section given (apply_cost_by_order file slots section given) told missing
    → end.asked ≤ apply_cost_by_order file slots section given + explain_bytes slots → IfSome budget (λ bytes. end.asked ≤ bytes)
    → PlacesInMemory file limits section layout room before out end missing told
places file limits section layout room before out end missing told slots budget given permits spends lays range lend applies explains cost within =
    places_by file limits section layout room before out end missing told range lend (rw (permits, spends, lays) at applies) (rw (permits, spends, lays) at explains) (rw (permits, lays) at cost) (rw (spends) at within)
