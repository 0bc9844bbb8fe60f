-- A requested listing is one in its style.
use Rattle.std.proofs.Common.{◌≡◌, ◌≤◌, ℕ, List, Option, Some, length, sym, subst, ◌∙◌, arith}
use Rattle.std.specs.Prelude.{IfSome}
use Rattle.elf_model.specs.Prelude.{IsBudgeted, ListingStyle, listing_cost}
use Rattle.elf_capi.specs.Prelude.{AreCaps, AsksListing, BorrowedTexts, FillsMemory, GivesListing, HasStyledListing, IsStatus, ShowsInMemory, budget_of, caller_style, headers_of, parts_in, style_in}
use Rattle.elf_capi.specs.declared.call_status.CallStatus.TheVariants.{BadCall, Done, Full, Refused}
use Rattle.elf_capi.specs.declared.end.CallEnd.{CallEnd}
use Rattle.elf_capi.specs.declared.call_status.CallStatus.{CallStatus}
use Rattle.elf_capi.specs.declared.limits.CallerLimits.{CallerLimits}
use Rattle.elf_capi.specs.declared.caller_listing.CallerListing.{CallerListing}

module _ (file : List ℕ) (limits : CallerLimits) (room : ℕ) (asked : List ℕ) (names : Option BorrowedTexts) (listing : CallerListing) (gives : GivesListing asked names (Some listing)) where
  -- what fills the memory
  fills : (out : List ℕ) (written : ℕ) (told : CallStatus)
      → FillsMemory (IsBudgeted (budget_of limits) file (headers_of limits room) (caller_style listing limits.name) listing.parts.0) out written told
      → FillsMemory (IsBudgeted (budget_of limits) file (headers_of limits room) (style_in asked names limits.name) (parts_in asked)) out written told
  fills out written told fill =
      subst (λ (style : ListingStyle). FillsMemory (IsBudgeted (budget_of limits) file (headers_of limits room) style (parts_in asked)) out written told) (gives.2 limits.name)
      (subst (λ parts. FillsMemory (IsBudgeted (budget_of limits) file (headers_of limits room) (caller_style listing limits.name) parts) out written told) gives.1 fill)

  pub shows_asked : (before out : List ℕ) (end : CallEnd) (told : CallStatus)
      → ShowsInMemory (AreCaps limits room) file limits room (caller_style listing limits.name) listing.parts.0 before out end told
      → ShowsInMemory (AreCaps limits room × AsksListing asked names) file limits room (style_in asked names limits.name) (parts_in asked) before out end told
  shows_asked before out end Done shows = ((shows.0, gives.0), fills out end.written Done shows.1)
  shows_asked before out end (Refused refusal) shows = ((shows.0, gives.0), fills out end.written (Refused refusal) shows.1)
  shows_asked before out end Full shows = ((shows.0, gives.0), fills out end.written Full shows.1)
  shows_asked before out end BadCall shows = ((λ both. shows.0 both.0), shows.1)

  -- and what it costs
  pub costs_asked : (n : ℕ) → n ≤ listing_cost file (headers_of limits room) (caller_style listing limits.name) listing.parts.0
      → n ≤ listing_cost file (headers_of limits room) (style_in asked names limits.name) (parts_in asked)
  costs_asked n within =
      subst (λ (style : ListingStyle). n ≤ listing_cost file (headers_of limits room) style (parts_in asked)) (gives.2 limits.name)
      (subst (λ parts. n ≤ listing_cost file (headers_of limits room) (caller_style listing limits.name) parts) gives.1 within)

-- what was listed, as numbers: the counts are unchanged
pub told_listing : (May : Type 0) (file : List ℕ) (limits : CallerLimits) (room : ℕ) (style : ListingStyle) (parts status : ℕ) (before out : List ℕ) (old new : CallEnd) (told : CallStatus)
    → ShowsInMemory May file limits room style parts before out old told → old.written ≤ length out → old.asked ≤ listing_cost file (headers_of limits room) style parts
    → IfSome (budget_of limits) (λ bytes. old.asked ≤ bytes) → new.written ≡ old.written → new.asked ≡ old.asked → IsStatus status new told
    → HasStyledListing May file limits room style parts status before out new
told_listing May file limits room style parts status before out old new told shows within cost budget written asked is = record {
  told = told;
  shows = same told shows;
  status_is = is;
  within = omega (arith, written, within);
  cost = omega (arith, asked, cost);
  budget = subst (λ (n : ℕ). IfSome (budget_of limits) (λ bytes. n ≤ bytes)) (sym asked) budget;
}
  where
    fills_same : (t : CallStatus) → FillsMemory (IsBudgeted (budget_of limits) file (headers_of limits room) style parts) out old.written t
        → FillsMemory (IsBudgeted (budget_of limits) file (headers_of limits room) style parts) out new.written t
    fills_same t fill = subst (λ (n : ℕ). FillsMemory (IsBudgeted (budget_of limits) file (headers_of limits room) style parts) out n t) (sym written) fill

    same : (t : CallStatus) → ShowsInMemory May file limits room style parts before out old t → ShowsInMemory May file limits room style parts before out new t
    same Done s = (s.0, fills_same Done s.1)
    same (Refused refusal) s = (s.0, fills_same (Refused refusal) s.1)
    same Full s = (s.0, fills_same Full s.1)
    same BadCall s = (s.0, (s.1.0, written ∙ s.1.1, asked ∙ s.1.2))
