-- The effect of the calls that list the members of an archive.
use Rattle.std.specs.Prelude.{ℕ, ◌≡◌, ◌<◌, ◌≤◌, ◌+◌, ◌-◌, ◌^◌, min, Bool, false, List, [], ◌∷◌, Option, None, Some, Result, Ok, Err, IfErr, IfOk, IfSome}
use Rattle.elf_model.specs.Prelude.{Fault, FileRange, IsArchiveBudgeted, IsBudgetRefusal, ListingItem, ListingStyle, Member, MemberWalkState, NextMember, OneMember, allowance, any_refused, archive_ceiling, archive_cost, archive_items, archive_length_checks, behind, first_refusal, header_cost, is_refused, member_cost, member_items, member_listing, next_member, placed_after, style_ceiling}
use Rattle.elf_model.specs.declared.causes.Refusal.{Refusal}
use Rattle.elf_model.specs.Archive.{Ends, Broken}
use Rattle.elf_model.specs.Names.DisplayedName.{Whole}
use Rattle.elf_source.specs.Prelude.{CountedState, ExceedsBudget, FailsOutput, IsOutFault, IsSourceFault, IsWholeRange, KeepsDeferred, OutGrows, OutState, ReadsUpTo}
use Rattle.elf_source.specs.declared.holding_sink.DeferredLine.{DeferredLine}
use Rattle.elf_source.specs.declared.faults.OutFault.{OutFault}
use Rattle.elf_options.specs.Prelude.{style_of}
use Rattle.elf_options.specs.declared.caps.Caps.{Caps}
use Rattle.elf_table.specs.declared.run_fault.RunFault.TheVariants.{Out}
use Rattle.elf_table.specs.declared.run_fault.RunFault.{RunFault}
use Rattle.elf_table.specs.declared.run_fault.RunFault.TheVariants.{Refused, Source}
use Rattle.elf_listing.specs.Prelude.{WroteSome, WroteText}
use Rattle.elf_archive.specs.Members.{IsInBounds, IsMemberWalkInBounds}

-- a source is a range of all bytes of an archive, and nothing of it is masked
pub record IsAll (c : CountedState) : Type 0 where
  pub whole : IsWholeRange c.seen
  pub shows : c.hides ≡ false

-- some bytes lie within such a source, of fewer than 2^63 bytes
pub record HoldsPart (c : CountedState) (part : FileRange) : Type 0 where
  pub whole : IsAll c
  pub size : c.seen.size < 2 ^ 63
  pub lies : IsInBounds c.seen.size part

-- what a refusal implies for the source, by reads of at most n bytes: if it is for lack of budget,
-- it is at an offset of the file
abbrev pub BudgetSays : CountedState → CountedState → ℕ → Refusal → Type 0
BudgetSays old new n refusal = IsBudgetRefusal refusal → (refusal.at < old.seen.size) × ExceedsBudget old new n

-- what a fault implies for the source and the output
abbrev pub StopTells : CountedState → CountedState → OutState → ℕ → RunFault → Type 0
StopTells old new out n (Refused refusal) = BudgetSays old new n refusal
StopTells old new out n (Source fault at) = IsSourceFault old.seen new.seen fault
StopTells old new out n (Out fault) = IsOutFault out fault

-- WHAT A CALL REQUESTS of the source: it requested at most n bytes, and a fault satisfies
-- `StopTells`
abbrev pub ReadsAtMostIn : {X : Type 0} → CountedState → CountedState → OutState → Result X RunFault → ℕ → Type 0
ReadsAtMostIn old new out result n = ReadsUpTo old new n × IfErr result (StopTells old new out n)

-- an offset after another one, saturating at 64 bits
abbrev pub after_start : ℕ → ℕ → ℕ
after_start start at = min (start + at) (2 ^ 64 - 1)

-- THE EFFECT OF A CALL that iterates over what an archive has, for any source: the store has as
-- many slots, what was written is kept, and at most the ceiling was requested; and if the file is
-- known, what it cost and what it showed
pub record GoesThrough {X : Type 0} (headers now : ℕ) (style : ListingStyle) (parts : ℕ) (a b : CountedState) (old new : OutState) (result : Result X RunFault) (most : ℕ → ListingStyle → ℕ) (costs : List ℕ → ℕ → ListingStyle → ℕ → ℕ) (shown : List ℕ → ℕ → ListingStyle → ℕ → Type 0) : Type 0 where
  pub slots : now ≡ headers
  pub grows : OutGrows old new
  pub ceiling : ReadsAtMostIn a b new result (most headers style)
  pub cost : (file : List ℕ) → a.seen.file ≡ Some file → ReadsAtMostIn a b new result (costs file headers style parts)
  pub shows : (file : List ℕ) → a.seen.file ≡ Some file → shown file headers style parts

-- a member with these data: neither what is listed after its line nor what that costs depends on
-- more
abbrev pub member_at : FileRange → Member
member_at extent = record { index = 0; extent = extent; name = Whole [] }

-- the same for one that shows the listing of a member's data: its ceiling, its cost, and what it
-- showed of the listing's items
abbrev pub GoesThroughMember : {X : Type 0} → FileRange → (headers now : ℕ) → ListingStyle → ℕ → (a b : CountedState) → (old new : OutState) → Result X RunFault → (ListingStyle → List ListingItem → Type 0) → Type 0
GoesThroughMember extent headers now style parts a b old new result shown =
    GoesThrough headers now style parts a b old new result (λ slots by. 4 + style_ceiling extent.size slots by)
    (λ file slots by which. member_cost file slots by which (member_at extent))
    (λ file slots by which. shown by (member_listing file slots by which (member_at extent)))

-- how the listing of a member that begins at an offset of a file ended: its own refusal is a
-- result, and what stops everything is returned with an offset in the file
abbrev pub EndsPart : {X : Type 0} → ℕ → Result X RunFault → Result (Option Refusal) RunFault → Type 0
EndsPart start (Ok x) result = result ≡ Ok None
EndsPart start (Err (Refused refusal)) result =
    (IsBudgetRefusal refusal → result ≡ Err (Refused (placed_after start refusal))) × ((IsBudgetRefusal refusal → ⊥) → result ≡ Ok (Some refusal))
EndsPart start (Err (Source fault at)) result = result ≡ Err (Source fault (after_start start at))
EndsPart start (Err (Out fault)) result = result ≡ Err (Out fault)

-- what was written of a member's listing: all of it, or what is before its own refusal, which is
-- returned; otherwise a prefix of it
abbrev pub ListsMember : OutState → OutState → Result (Option Refusal) RunFault → List ListingItem → Type 0
ListsMember old new (Ok None) items = WroteSome {X = Unit {0}} old new (Ok tt) items
ListsMember old new (Ok (Some refusal)) items = WroteSome {X = Unit {0}} old new (Err (Refused refusal)) items
ListsMember old new (Err (Refused refusal)) items = IsBudgetRefusal refusal × WroteSome {X = Unit {0}} old new (Err (Refused refusal)) items
ListsMember old new (Err stop) items = WroteSome {X = Unit {0}} old new (Err stop) items

-- MEMBERS WERE LISTED: these items were written, and the result is whether a listing was refused
abbrev pub ListsMembers : OutState → OutState → Result Bool RunFault → List ListingItem → Bool → Type 0
ListsMembers old new result items any = WroteSome old new result items × IfOk result (λ refused. refused ≡ any)

-- a line is deferred, or the output fails permanently with nothing of the line
abbrev pub HoldsOrBreaks : OutState → OutState → Result DeferredLine OutFault → List ℕ → Type 0
HoldsOrBreaks old new (Ok held) line = KeepsDeferred old new line held
HoldsOrBreaks old new (Err fault) line = FailsOutput old new fault

-- the result after a listing whose line was ended: the same, if the output failed with its current
-- count
abbrev pub AnswersAfter : Result Bool RunFault → OutState → Result Bool RunFault → Type 0
AnswersAfter (Ok refused) new result = result ≡ Ok refused
AnswersAfter (Err (Refused refusal)) new result = result ≡ Err (Refused refusal)
AnswersAfter (Err (Source fault at)) new result = result ≡ Err (Source fault at)
AnswersAfter (Err (Out fault)) new result = (now : OutFault) × (result ≡ Err (Out now)) × (now.written ≡ new.written)

-- what is listed at the next position of a walk
abbrev pub next_items : (alone : Bool) → List ℕ → ℕ → ListingStyle → ℕ → NextMember → List ListingItem
next_items alone file headers style parts Ends = []
next_items alone file headers style parts (Broken refusal) = Fault refusal ∷ []
next_items alone file headers style parts (OneMember member) = member_items alone file headers style parts member

-- what that costs at most
abbrev pub next_cost : List ℕ → ℕ → ListingStyle → ℕ → MemberWalkState → NextMember → ℕ
next_cost file headers style parts p Ends = header_cost file style.cap p
next_cost file headers style parts p (Broken refusal) = header_cost file style.cap p
next_cost file headers style parts p (OneMember member) = header_cost file style.cap p + member_cost file headers style parts member

-- a step of a listing returns the new position of its walk, and whether the member was refused
abbrev pub StepsTo : List ℕ → ℕ → ListingStyle → ℕ → MemberWalkState → MemberWalkState → Result (Option Bool) RunFault → Type 0
StepsTo file headers style parts old new (Ok None) = next_member file style.cap old ≡ Ends
StepsTo file headers style parts old new (Ok (Some refused)) =
    (member : Member) × (next_member file style.cap old ≡ OneMember member) × (new ≡ behind file old member)
    × (refused ≡ is_refused file headers style parts member)
StepsTo file headers style parts old new (Err stop) = Unit {0}

-- what is kept of an allowance for the members after a step
abbrev pub kept_for : ℕ → ℕ → ListingStyle → MemberWalkState → Result (Option Bool) RunFault → ℕ
kept_for size headers style new (Ok None) = 0
kept_for size headers style new (Ok (Some refused)) = allowance (size - new.at) headers style
kept_for size headers style new (Err stop) = 0

-- what a step reads, for any source
pub record StepsWithin (headers : ℕ) (style : ListingStyle) (old new : MemberWalkState) (a b : CountedState) (out : OutState) (result : Result (Option Bool) RunFault) : Type 0 where
  pub bytes : ℕ
  pub within : bytes + kept_for a.seen.size headers style new result ≤ allowance (a.seen.size - old.at) headers style
  pub takes : ReadsAtMostIn a b out result bytes

-- the walk after a member is still in the source, and further on
abbrev pub StandsBehind : ℕ → MemberWalkState → MemberWalkState → Result (Option Bool) RunFault → Type 0
StandsBehind size old new (Ok None) = Unit {0}
StandsBehind size old new (Ok (Some refused)) = IsMemberWalkInBounds size new × (old.at < new.at)
StandsBehind size old new (Err stop) = Unit {0}

-- A STEP OF A LISTING, from one position of the walk to another: what is next was listed
pub record StepsListing (alone : Bool) (headers now : ℕ) (style : ListingStyle) (parts : ℕ) (p q : MemberWalkState) (a b : CountedState) (old new : OutState) (result : Result (Option Bool) RunFault) : Type 0 where
  pub slots : now ≡ headers
  pub grows : OutGrows old new
  pub is_at : StandsBehind a.seen.size p q result
  pub within : StepsWithin headers style p q a b new result
  pub cost : (file : List ℕ) → a.seen.file ≡ Some file → ReadsAtMostIn a b new result (next_cost file headers style parts p (next_member file style.cap p))
  pub text : (file : List ℕ) → a.seen.file ≡ Some file → WroteSome old new result (next_items alone file headers style parts (next_member file style.cap p))
  pub steps : (file : List ℕ) → a.seen.file ≡ Some file → StepsTo file headers style parts p q result

-- THE TEXT: what these caps and parts list of an archive was written, its report or, if it costs
-- more than the budget, a prefix of whole lines and the line of the budget; at a fault of the
-- source or the output a prefix of that. At the end the result is whether the listing of a member
-- was refused
pub record ReportsArchive (alone : Bool) (file : List ℕ) (caps : Caps) (parts : ℕ) (old new : OutState) (result : Result Bool RunFault) : Type 0 where
  pub text : List ℕ
  pub fault : Option Refusal
  pub listed : IsArchiveBudgeted alone caps.limits.budget file caps.limits.headers (style_of caps.style) parts text fault
  pub wrote : WroteText old new result text fault
  pub refused : (any : Bool) → result ≡ Ok any → any ≡ any_refused file caps.limits.headers (style_of caps.style) parts

-- what a fault implies for the source and the output
abbrev pub ArchiveSays : CountedState → CountedState → OutState → RunFault → Type 0
ArchiveSays old new out (Refused refusal) = Unit {0}
ArchiveSays old new out (Source fault at) = IsSourceFault old.seen new.seen fault
ArchiveSays old new out (Out fault) = IsOutFault out fault

-- WHAT IS REQUESTED, for any source: at most the ceiling, and nothing if the length refuses the
-- file; never more than the budget; and if the result is that the budget is exhausted, fewer than
-- 4,096 bytes of it are left, and the result names an offset of the file
pub record AsksInArchive {X : Type 0} (caps : Caps) (old new : CountedState) (result : Result X RunFault) : Type 0 where
  pub ceiling : new.asked ≤ old.asked + archive_ceiling old.seen.size caps.limits.headers (style_of caps.style)
  pub unread : (refusal : Refusal) → first_refusal (archive_length_checks old.seen.size) ≡ Some refusal → new.seen ≡ old.seen × new.asked ≡ old.asked
  pub budget : IfSome caps.limits.budget (λ bytes. new.asked ≤ old.asked + bytes)
  pub late : (refusal : Refusal) → result ≡ Err (Refused refusal) → IsBudgetRefusal refusal
      → (bytes : ℕ) × (caps.limits.budget ≡ Some bytes) × (old.asked + bytes < new.asked + 4096)
  pub inside : (refusal : Refusal) → result ≡ Err (Refused refusal) → IsBudgetRefusal refusal → refusal.at < old.seen.size

-- THE EFFECT OF A CALL that lists an archive
abbrev pub ListsArchive : Bool → (headers now : ℕ) → ListingStyle → ℕ → (a b : CountedState) → (old new : OutState) → Result Bool RunFault → Type 0
ListsArchive alone headers now style parts a b old new result =
    GoesThrough headers now style parts a b old new result (archive_ceiling a.seen.size) archive_cost
    (λ file slots by which. ListsMembers old new result (archive_items alone file slots by which) (any_refused file slots by which))
