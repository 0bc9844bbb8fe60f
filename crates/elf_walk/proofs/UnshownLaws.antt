-- A check does not depend on which rows a listing shows.
use Rattle.std.proofs.Common.{◌≡◌, ℕ, ◌<◌, List, [], ◌∷◌, Option, None, Some, inl, inr, refl, ap, ap₂, ◌∙◌, arith}
use Rattle.std.specs.Prelude.{zero, suc, ◌+◌, ◌++◌, ◌&&◌, if◌then◌else◌, length, option_map, Bool, true, false}
use Rattle.elf_model.specs.Prelude.{IsBudgeted, IsStateOf, ListingStyle, MemberWalkState, archive_ceiling, archive_cost, archive_fault, first_refusal, listing, listing_cost, listing_report, refusal_line, style_ceiling, tables_ceiling}
use Rattle.elf_model.specs.Archive.{Broken, Ends, Member, NextMember, OneMember, archive_checks, before_members, behind, bytes_in, is_elf, lists_members, members_of, next_member}
use Rattle.elf_model.specs.ArchiveCost.{header_cost, member_cost, members_cost}
use Rattle.elf_model.specs.FileLists.{first_fault, member_fault, placed_after}
use Rattle.elf_model.specs.Listing.{fault_of, lines_of}
use Rattle.elf_model.specs.declared.causes.Refusal.{Refusal}
use Rattle.elf_model.specs.declared.states.FileStatus.{FileStatus}
use Rattle.elf_model.specs.declared.states.FileStatus.TheVariants as state
use Rattle.elf_model.proofs.KindLists.{selections_hide_no_fault}
use Rattle.elf_source.specs.Source.{CountedState}
use Rattle.elf_options.specs.Prelude.{style_of}
use Rattle.elf_options.specs.declared.caps.Caps.{Caps}
use Rattle.elf_archive.specs.FirstFault.{IsArchiveFault, before_magic, cost_after_magic}
use Rattle.elf_walk.specs.CheckedFile.{ChecksFile, FindsState, check_ceiling, check_cost}
use Rattle.elf_walk.specs.Members.{FindsArchive}
use Rattle.elf_walk.specs.Unshown.{ShowsNoRows, unshown}

module _ (headers : ℕ) (style : ListingStyle) (parts : ℕ) where
  -- the first fault of a file, and what its listing costs, are those of all rows
  same_fault : (file : List ℕ) → fault_of (listing file headers (unshown style) parts) ≡ fault_of (listing file headers style parts)
  same_fault file = (selections_hide_no_fault file headers style parts style.choice style.symbols (unshown style).place).0

  same_cost : (file : List ℕ) → listing_cost file headers (unshown style) parts ≡ listing_cost file headers style parts
  same_cost file = (selections_hide_no_fault file headers style parts style.choice style.symbols (unshown style).place).1

  -- a listing within a budget has the same fault
  budgeted : (budget : Option ℕ) (file : List ℕ) (text : List ℕ) (fault : Option Refusal) → IsBudgeted budget file headers (unshown style) parts text fault
      → (all : List ℕ) × IsBudgeted budget file headers style parts all fault
  budgeted None file text fault is = (listing_report file headers style parts, record { text_is = refl; fault_is = is.fault_is ∙ same_fault file })
  budgeted (Some bytes) file text fault (inl is) =
      (listing_report file headers style parts, inl record { text_is = refl; fault_is = is.fault_is ∙ same_fault file })
  budgeted (Some bytes) file text fault (inr is) =
      let same = same_cost file in
      let over : bytes < listing_cost file headers style parts = omega (arith, is.0, same) in (
        lines_of [] ++ refusal_line style.format is.1.refusal,
        inr (over, record { front = []; rest = listing file headers style parts; split = refl; no_fault = refl; refusal = is.1.refusal; for_budget = is.1.for_budget; inside = is.1.inside; text_is = refl; fault_is = is.1.fault_is }),
      )

  -- and so the file has the same state
  same_state : (budget : Option ℕ) (file : List ℕ) (found : FileStatus) → IsStateOf budget file headers (unshown style) parts found → IsStateOf budget file headers style parts found
  same_state budget file found is =
      let all = budgeted budget file is.text is.fault is.listed in
      record { text = all.0; fault = is.fault; listed = all.1; state_is = is.state_is }

  -- a member of an archive has the same fault, and costs the same
  module _ (file : List ℕ) where
    listed_same : (shown : Bool) (content : List ℕ)
        → fault_of (if shown then listing content headers (unshown style) parts else []) ≡ fault_of (if shown then listing content headers style parts else [])
    listed_same true content = same_fault content
    listed_same false content = refl

    member_same : (m : Member) → member_fault file headers (unshown style) parts m ≡ member_fault file headers style parts m
    member_same m = ap (option_map (placed_after m.extent.at)) (listed_same (lists_members style parts && is_elf (bytes_in file m.extent)) (bytes_in file m.extent))

    first_same : (members : List Member) (walk : Option Refusal) → first_fault file headers (unshown style) parts members walk ≡ first_fault file headers style parts members walk
    unfolding first_fault
    first_same [] walk = refl
    first_same (m ∷ members) walk =
        ap₂ (λ (first rest : Option Refusal). elim first [ Some refusal ↦ Some refusal | None ↦ rest ]) (member_same m) (first_same members walk)

    archive_same : archive_fault file headers (unshown style) parts ≡ archive_fault file headers style parts
    unfolding archive_fault
    archive_same =
        ap (λ (fault : Option Refusal). elim (first_refusal (archive_checks file)) [ Some refusal ↦ Some refusal | None ↦ fault ])
        (first_same (members_of file style.cap).members (members_of file style.cap).refusal)

    member_costs : (m : Member) → member_cost file headers (unshown style) parts m ≡ member_cost file headers style parts m
    unfolding member_cost
    member_costs m = rw (same_cost (bytes_in file m.extent)) refl

    next_costs : (most : ℕ) (p : MemberWalkState)
        → ((q : MemberWalkState) → members_cost most file headers (unshown style) parts q ≡ members_cost most file headers style parts q) → (next : NextMember)
        → header_cost file style.cap p + elim next [ Ends ↦ 0 | Broken refusal ↦ 0 | OneMember member ↦ member_cost file headers (unshown style) parts member + members_cost most file headers (unshown style) parts (behind file p member) ]
        ≡ header_cost file style.cap p + elim next [ Ends ↦ 0 | Broken refusal ↦ 0 | OneMember member ↦ member_cost file headers style parts member + members_cost most file headers style parts (behind file p member) ]
    next_costs most p rest Ends = refl
    next_costs most p rest (Broken refusal) = refl
    next_costs most p rest (OneMember member) =
        ap₂ (λ (one others : ℕ). header_cost file style.cap p + (one + others)) (member_costs member) (rest (behind file p member))

    members_costs : (most : ℕ) (p : MemberWalkState) → members_cost most file headers (unshown style) parts p ≡ members_cost most file headers style parts p
    unfolding members_cost
    members_costs zero p = refl
    members_costs (suc most) p = next_costs most p (λ q. members_costs most q) (next_member file style.cap p)

    archive_costs : archive_cost file headers (unshown style) parts ≡ archive_cost file headers style parts
    unfolding archive_cost
    archive_costs = rw (members_costs (length file) before_members) refl

  archive_found : (budget : Option ℕ) (file : List ℕ) (fault : Option Refusal) → IsArchiveFault budget file headers (unshown style) parts fault → IsArchiveFault budget file headers style parts fault
  archive_found None file fault is = is ∙ archive_same file
  archive_found (Some bytes) file fault (inl is) = inl (is ∙ archive_same file)
  archive_found (Some bytes) file fault (inr is) = let same = archive_costs file in inr (omega (arith, is.0, same), is.1)

  -- their upper bounds are the same
  ceiling_same : (size : ℕ) → style_ceiling size headers (unshown style) ≡ style_ceiling size headers style
  unfolding style_ceiling tables_ceiling
  ceiling_same size = refl

  archive_ceiling_same : (size : ℕ) → archive_ceiling size headers (unshown style) ≡ archive_ceiling size headers style
  unfolding archive_ceiling style_ceiling tables_ceiling
  archive_ceiling_same size = refl

-- THE CHECK OF A FILE by a listing that shows no row is that by one that shows all
module _ (caps fewer : Caps) (parts : ℕ) (sees : ShowsNoRows caps fewer) where
  found : (file : List ℕ) (status : FileStatus) → FindsState fewer parts file status → FindsState caps parts file status
  found file state.Ok is = same_state caps.limits.headers (style_of caps.style) parts caps.limits.budget file _ (rw (sees.limits, sees.style) at is)
  found file (state.Refused refusal) is = same_state caps.limits.headers (style_of caps.style) parts caps.limits.budget file _ (rw (sees.limits, sees.style) at is)
  found file state.NoElf is = same_state caps.limits.headers (style_of caps.style) parts caps.limits.budget file _ (rw (sees.limits, sees.style) at is)
  found file state.Unread is = tt
  found file state.Memory is = same_state caps.limits.headers (style_of caps.style) parts caps.limits.budget file _ (rw (sees.limits, sees.style) at is)

  found_archive : (file : List ℕ) (status : FileStatus) → FindsArchive fewer parts file status → FindsArchive caps parts file status
  found_archive file state.Ok is = archive_found caps.limits.headers (style_of caps.style) parts (before_magic caps.limits.budget) file _ (rw (sees.limits, sees.style) at is)
  found_archive file (state.Refused refusal) is =
      archive_found caps.limits.headers (style_of caps.style) parts (before_magic caps.limits.budget) file _ (rw (sees.limits, sees.style) at is)
  found_archive file state.NoElf is = is
  found_archive file state.Unread is = tt
  found_archive file state.Memory is = is

  -- and its effect
  pub checks : {old new : CountedState} {slots now : ℕ} {status : FileStatus}
      → ChecksFile slots now fewer parts old new status FindsState check_cost check_ceiling → ChecksFile slots now caps parts old new status FindsState check_cost check_ceiling
  checks {old} {status = status} did = record {
    slots = did.slots;
    leaves = did.leaves;
    state = λ file held. found file status (did.state file held);
    cost = λ file held. let same = same_cost caps.limits.headers (style_of caps.style) parts file in rw (sees.limits, sees.style, same) at (did.cost file held);
    read = did.read;
    asks = let same = ceiling_same caps.limits.headers (style_of caps.style) parts old.seen.size in rw (sees.limits, sees.style, same) at did.asks;
  }

  pub checks_archive : {old new : CountedState} {slots now : ℕ} {status : FileStatus}
      → ChecksFile slots now fewer parts old new status FindsArchive cost_after_magic archive_ceiling
      → ChecksFile slots now caps parts old new status FindsArchive cost_after_magic archive_ceiling
  checks_archive {old} {status = status} did = record {
    slots = did.slots;
    leaves = did.leaves;
    state = λ file held. found_archive file status (did.state file held);
    cost = λ file held. let same = archive_costs caps.limits.headers (style_of caps.style) parts file in rw (sees.limits, sees.style, same) at (did.cost file held);
    read = did.read;
    asks = let same = archive_ceiling_same caps.limits.headers (style_of caps.style) parts old.seen.size in rw (sees.limits, sees.style, same) at did.asks;
  }
