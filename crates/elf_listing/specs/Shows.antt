-- The effect of a call that writes a part of a listing.
use Rattle.std.specs.Prelude.{ℕ, ◌≡◌, ◌+◌, Bool, true, false, List, ◌∷◌, ◌++◌, None, Some, Result, Ok, Err, IfErr}
use Rattle.elf_model.specs.Prelude.{DisplayedName, Fault, IsBudgetRefusal, LinePrefix, ListingItem, fault_of, lines_of, named_row}
use Rattle.elf_model.specs.declared.causes.Cause.{Cause}
use Rattle.elf_model.specs.declared.causes.Refusal.{Refusal}
use Rattle.elf_source.specs.Prelude.{CountedState, IsOutFault, IsSourceFault, OutGrows, OutState, ReadsUpTo, SinkTakes, SinkTakesPrefix}
use Rattle.elf_source.specs.declared.source.Source.{Ghosts as Sources}
use Rattle.elf_source.specs.declared.sink.Sink.{Ghosts as Sinks}
use Rattle.elf_note.specs.Ahead.{ReadsOnCredit}
use Rattle.elf_table.specs.Prelude.{IsReadFault, IsReadRefusal, NameRead}
use Rattle.elf_table.specs.declared.names.NameEnd.TheVariants.{Cut as NameCut, Whole as NameWhole}
use Rattle.elf_table.specs.declared.fault.Fault.{Fault as Failure}
use Rattle.elf_table.specs.declared.names.NameEnd.{NameEnd}
use Rattle.elf_table.specs.declared.run_fault.RunFault.TheVariants.{Out}
use Rattle.elf_table.specs.declared.run_fault.RunFault.{RunFault}
use Rattle.elf_listing.specs.declared.listing.Listing.{Listing}
use Rattle.elf_table.specs.declared.run_fault.RunFault.TheVariants.{Refused, Source}

-- the lines of all items were written, and none is a fault
pub record WroteItems (old new : OutState) (items : List ListingItem) : Type 0 where
  pub takes : SinkTakes old new (lines_of items)
  pub no_fault : fault_of items ≡ None

-- the lines of a prefix of the items were written, each in full, and none of the rest
pub record WrotePrefix (old new : OutState) (items : List ListingItem) : Type 0 where
  pub front : List ListingItem
  pub rest : List ListingItem
  pub split : items ≡ front ++ rest
  pub takes : SinkTakes old new (lines_of front)
  pub no_fault : fault_of front ≡ None

-- a refusal is the fault that the items begin with
pub record IsNext (refusal : Refusal) (items : List ListingItem) : Type 0 where
  pub later : List ListingItem
  pub is_next : items ≡ Fault refusal ∷ later

-- the lines before the first fault were written, and this is the fault; if it is for lack of
-- budget, the lines of a prefix
pub record WroteUntilRefusal (old new : OutState) (refusal : Refusal) (items : List ListingItem) : Type 0 where
  pub front : WrotePrefix old new items
  pub next : (IsBudgetRefusal refusal → ⊥) → IsNext refusal front.rest

-- what was written when a listing stops
abbrev pub WroteUntilStop : OutState → OutState → RunFault → List ListingItem → Type 0
WroteUntilStop old new (Refused refusal) items = WroteUntilRefusal old new refusal items
WroteUntilStop old new (Source fault at) items = WrotePrefix old new items
WroteUntilStop old new (Out fault) items = SinkTakesPrefix old new (lines_of items)

-- a part of these items was written
abbrev pub WroteSome : {X : Type 0} → OutState → OutState → Result X RunFault → List ListingItem → Type 0
WroteSome old new (Ok x) items = WroteItems old new items
WroteSome old new (Err stop) items = WroteUntilStop old new stop items

-- what a fault that stops a listing implies for the source and the output
abbrev pub StopSays : CountedState → CountedState → OutState → ℕ → RunFault → Type 0
StopSays old new out n (Refused refusal) = IsReadRefusal old new n refusal
StopSays old new out n (Source fault at) = IsSourceFault old.seen new.seen fault × (at ≡ new.stopped)
StopSays old new out n (Out fault) = IsOutFault out fault

-- the fault is one of the output
abbrev pub IsOfOutput : OutState → RunFault → Type 0
IsOfOutput out (Refused refusal) = ⊥
IsOfOutput out (Source fault at) = ⊥
IsOfOutput out (Out fault) = IsOutFault out fault

-- WHAT A CALL COSTS: it requested at most n bytes, and a fault satisfies `StopSays`
abbrev pub ListingCosts : {X : Type 0} → CountedState → CountedState → OutState → Result X RunFault → ℕ → Type 0
ListingCosts old new out result n = ReadsUpTo old new n × IfErr result (StopSays old new out n)

-- what the calls of a listing preserve
pub record SameFile {S W : Type 0} {s : Sources S} {w : Sinks W} (old new : Listing S W s w) : Type 0 where
  pub same_src : new.src.ghost_name ≡ old.src.ghost_name
  pub same_out : new.out.ghost_name ≡ old.out.ghost_name
  pub same_file : new.file ≡ old.file
  pub same_style : new.style ≡ old.style

-- what a call costs that has some credit before it, and some after it: it requested at most n bytes
-- plus the credit it used, and a fault satisfies `StopSays`
abbrev pub SpentCredit : {X : Type 0} → CountedState → CountedState → OutState → ℕ → ℕ → Result X RunFault → ℕ → Type 0
SpentCredit old new out before after result n = ReadsOnCredit old new before after n × IfErr result (StopSays old new out (before + n))

-- THE EFFECT OF A CALL OF A LISTING. For any source: what was written is kept, the listing is still
-- of the same file, and at most n bytes were requested. And what it showed
pub record ListingCalls {S W X : Type 0} {s : Sources S} {w : Sinks W} (old new : Listing S W s w) (result : Result X RunFault) (n : ℕ) (shown : Type 0) : Type 0 where
  pub grows : OutGrows old.out.now new.out.now
  pub keeps : SameFile old new
  pub spent : SpentCredit old.src.now new.src.now new.out.now old.ahead.credit new.ahead.credit result n
  pub shows : shown

-- THE EFFECT OF A CALL THAT WRITES NOTHING, for any source: the listing is still of the same file,
-- at most n bytes were requested, and a fault satisfies `IsReadFault`
abbrev pub ListingReads : {S W X : Type 0} {s : Sources S} {w : Sinks W} → Listing S W s w → Listing S W s w → Result X Failure → ℕ → Type 0
ListingReads old new result n =
    SameFile old new × (new.out.now ≡ old.out.now) × ReadsOnCredit old.src.now new.src.now old.ahead.credit new.ahead.credit n
    × IfErr result (IsReadFault old.src.now new.src.now (old.ahead.credit + n))

-- WHAT IT WROTE: if the file of the source is known, its items
abbrev pub ListingWrote : {S W X : Type 0} {s : Sources S} {w : Sinks W} → Listing S W s w → Listing S W s w → Result X RunFault → (List ℕ → List ListingItem) → Type 0
ListingWrote old new result items = (file : List ℕ) → old.src.now.seen.file ≡ Some file → WroteSome old.out.now new.out.now result (items file)

-- whether a name is cut
abbrev pub cut_of : NameEnd → Bool
cut_of NameWhole = false
cut_of NameCut = true

-- the effect of a call that writes a line that ends in the name that was read: the line with the
-- shown part of the name
abbrev pub ListsLine : {S W X : Type 0} {s : Sources S} {w : Sinks W} → Listing S W s w → Listing S W s w → Result X RunFault → LinePrefix → NameEnd → Type 0
ListsLine old new result front end =
    ListingCalls old new result 0 ((at : ℕ) (answer : Result DisplayedName Cause) → NameRead at (Ok end) old.name answer → WroteSome old.out.now new.out.now result (named_row front at answer))
