-- The rows of symbol versions, by what is left of a walk over their records.
use Rattle.std.proofs.Common.{◌≡◌, ℕ, ◌+◌, ◌-◌, ◌*◌, ◌≤◌, List, [], ◌++◌, Option, None, Some, Ok, Err, refl, ap, ◌∙◌, append_assoc, append-nil, arith}
use Rattle.elf_model.specs.Prelude.{ListingItem, ListingStyle, Versions, VisitedRecord, chosen_row, end_rows, no_versions, place_of_version, placed_choice, shown, version_prefix, version_row, visited_rows, with_visited}
use Rattle.elf_model.specs.declared.causes.Refusal.{Refusal}
use Rattle.elf_table.specs.Prelude.{CallDid, stop_of}
use Rattle.elf_table.specs.declared.fault.Fault.{Fault}
use Rattle.elf_table.specs.declared.run_fault.RunFault.{RunFault}
use Rattle.elf_table.specs.declared.fault.Fault.TheVariants.{Refused, Source as Unread}
use Rattle.elf_source.specs.Prelude.{CountedState, OutState, ReadsUpTo}
use Rattle.elf_options.specs.Prelude.{style_of}
use Rattle.elf_options.specs.declared.caps.ListingStyle.{ListingStyle as Shape}
use Rattle.elf_note.specs.Prelude.{GivesVersion, IsCursorOf, IsVersion, KeepsWalk, LeavesWalk, ReturnsVersion, StepsIn, VersionCursorState, unread, versions_left, why_stopped_now}
use Rattle.elf_note.specs.declared.record.VersionRecord.{VersionRecord}
use Rattle.elf_note.proofs.TakenLaws.{going-did, unread-fewer}
use Rattle.elf_listing.specs.Prelude.{WrittenBefore, WroteItems, WroteUntilStop, versions_items}
use Rattle.elf_listing.proofs.NotesShown.{before_more, before_stopped}

-- the row of a record as returned
pub record_is : (file : List ℕ) (style : ListingStyle) (section : ℕ) (strings : List ℕ) (met : VisitedRecord) (given : VersionRecord) → IsVersion file met given
    → version_row file style section strings met
    ≡ chosen_row (placed_choice style (place_of_version file met) style.choice) (version_prefix style.format given.kind section given.number given.flags given.hash) given.named_at (shown strings given.name style.cap)
unfolding version_row
record_is file style section strings met given is =
    let kind = is.kind in
    let number = is.number in
    let flags = is.flags in
    let hash = is.hash in
    let place = is.named_at in
    let name = is.name in
    rw (kind, number, flags, hash, place, name) refl

-- a record, and what is left after it
pub record_left : (file : List ℕ) (style : ListingStyle) (section : ℕ) (strings : List ℕ) (met : VisitedRecord) (left : Versions)
    → versions_items file style section strings (with_visited met left)
    ≡ version_row file style section strings met ++ versions_items file style section strings left
unfolding visited_rows
record_left file style section strings met left = append_assoc (version_row file style section strings met) (visited_rows file style section strings left.met) (end_rows left.cut)

-- what is left if there is none
none_left : (file : List ℕ) (style : ListingStyle) (section : ℕ) (strings : List ℕ) (cut : Option Refusal) → versions_items file style section strings (no_versions cut) ≡ end_rows cut
unfolding visited_rows
none_left file style section strings cut = refl

-- after the last record
pub records_end : {a b : OutState} (file : List ℕ) (style : ListingStyle) (section : ℕ) (strings : List ℕ) (all : List ListingItem) (left : Versions) → left ≡ no_versions None
    → WrittenBefore a b all (versions_items file style section strings left) → WroteItems a b all
records_end file style section strings all left none before =
    rw (before.split
    ∙ ap (λ (x : List ListingItem). before.done ++ x) (ap (versions_items file style section strings) none ∙ none_left file style section strings None)
    ∙ append-nil before.done)
    before.whole

-- a step over the next record failed: at a read, or if there is no record
pub records_fault : (a b : OutState) (fault : Fault) (file : List ℕ) (style : ListingStyle) (section : ℕ) (strings : List ℕ) (all : List ListingItem) (left new : Versions)
    → ReturnsVersion file left new (Err fault) → WrittenBefore a b all (versions_items file style section strings left) → WroteUntilStop a b (stop_of fault) all
records_fault a b (Refused refusal) file style section strings all left new tells before = record {
  front = record { front = before.done; rest = versions_items file style section strings left; split = before.split; takes = before.whole.takes; no_fault = before.whole.no_fault };
  next = λ other. record {
    later = [];
    is_next = ap (versions_items file style section strings) (tells other) ∙ none_left file style section strings (Some refusal);
  };
}
records_fault a b (Unread fault at) file style section strings all left new tells before =
    record { front = before.done; rest = versions_items file style section strings left; split = before.split; takes = before.whole.takes; no_fault = before.whole.no_fault }

-- a step of a cursor that read a record: what it read, what may still be read, and in a known file
-- the record that was next
pub record Given (a b : CountedState) (old new : VersionCursorState) (given : VersionRecord) : Type 0 where
  pub reads : ReadsUpTo a b (unread old - unread new)
  pub account : b.asked + unread new ≤ a.asked + unread old
  pub going : new.failed ≡ None
  pub less : new.left + 1 ≡ old.left
  pub agrees : (file : List ℕ) → a.seen.file ≡ Some file → IsCursorOf file old → IsCursorOf file new
  pub gives : (file : List ℕ) → a.seen.file ≡ Some file → IsCursorOf file old → GivesVersion file (versions_left file old) (versions_left file new) given

pub step_given : (a b : CountedState) (old new : VersionCursorState) (given : VersionRecord) (answer : Option VersionRecord) → answer ≡ Some given → old.failed ≡ None
    → CallDid a b (why_stopped_now old.failed (Ok answer)) (unread old - unread new) (λ file. IsCursorOf file old → StepsIn file old new (Ok answer))
    → KeepsWalk old new → LeavesWalk old new (Ok answer) → Given a b old new given
step_given a b old new given answer is going did keeps leaves =
    let did = going-did old.failed (Ok answer) going did in
    let reads = did.costs.reads in
    let left = rw is at leaves in
    record {
      reads = reads;
      account = let fewer = unread-fewer old new keeps in omega (arith, reads.at_most);
      going = left.1;
      less = left.2;
      agrees = λ file held agrees. (did.known file held agrees).agrees;
      gives = λ file held agrees. rw is at ((did.known file held agrees).tells going);
    }

-- the record that was next was shown, and then what is left after it
pub record_more : (a b c : OutState) (file : List ℕ) (style now : Shape) (section : ℕ) (strings : List ℕ) (all : List ListingItem) (old new : Versions) (given : VersionRecord)
    → now ≡ style → GivesVersion file old new given → WrittenBefore a b all (versions_items file (style_of style) section strings old)
    → ((met : VisitedRecord) → IsVersion file met given → WroteItems b c (version_row file (style_of now) section strings met))
    → WrittenBefore a c all (versions_items file (style_of style) section strings new)
record_more a b c file style now section strings all old new given same gives before shown =
    before_more _ _ _ _ (ap (versions_items file (style_of style) section strings) gives.first ∙ record_left file (style_of style) section strings gives.met new) before
    (rw same at (shown gives.met gives.is))

-- or its row failed
pub record_stopped : (a b c : OutState) (stop : RunFault) (file : List ℕ) (style now : Shape) (section : ℕ) (strings : List ℕ) (all : List ListingItem) (old new : Versions) (given : VersionRecord)
    → now ≡ style → GivesVersion file old new given → WrittenBefore a b all (versions_items file (style_of style) section strings old)
    → ((met : VisitedRecord) → IsVersion file met given → WroteUntilStop b c stop (version_row file (style_of now) section strings met)) → WroteUntilStop a c stop all
record_stopped a b c stop file style now section strings all old new given same gives before shown =
    before_stopped _ _ _ _ _ _ _ _ (ap (versions_items file (style_of style) section strings) gives.first ∙ record_left file (style_of style) section strings gives.met new) before
    (rw same at (shown gives.met gives.is))

-- the account of a walk: what was read, what the cursor may still read, and the names of the
-- records that are left
pub records_account : (u0 u1 l0 l1 own before after credit later bound : ℕ) → l1 + 1 ≡ l0 → after + u1 ≤ before + u0 → later ≤ after + (credit + own)
    → before + credit + (u0 + l0 * own) ≤ bound → later + (u1 + l1 * own) ≤ bound
records_account u0 u1 l0 l1 own before after credit later bound less step more within =
    let product = ap (λ (n : ℕ). n * own) less in omega arith

-- what a record's name may read is left in the bound
pub record_pays : (u0 u1 l0 l1 own before after credit bound : ℕ) → l1 + 1 ≡ l0 → after + u1 ≤ before + u0 → before + credit + (u0 + l0 * own) ≤ bound → after + credit + own ≤ bound
record_pays u0 u1 l0 l1 own before after credit bound less step within =
    let product = ap (λ (n : ℕ). n * own) less in omega arith
