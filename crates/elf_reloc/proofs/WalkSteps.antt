-- The walk over entries, step by step.
use Rattle.std.proofs.Common.{◌≡◌, ℕ, suc, ◌+◌, ◌-◌, ◌*◌, ◌<◌, ◌≤◌, true, false, List, [], ◌∷◌, ◌++◌, Option, None, Some, Result, Ok, Err, refl, sym, ap, ◌∙◌, subst, arith, append_assoc}
use Rattle.elf_model.specs.Prelude.{ApplyTarget, Fails, Put, SectionChange, applies_to, entry_at, entry_changes, entry_count, first_refusal, places_from, relocation_table_checks, section_at, section_changes, sh_offset, sum_over}
use Rattle.elf_model.specs.declared.causes.Refusal.{Refusal}
use Rattle.elf_table.specs.Prelude.{CursorState, GivesRow, Relocates, TableInBounds, TableRange, row, section_place, table_of, unread_bytes}
use Rattle.elf_table.specs.declared.fault.Fault.{Fault}
use Rattle.elf_reloc.proofs.Opened.{entries_counted}
use Rattle.elf_source.specs.Source.{CountedState, ReadsUpTo}
use Rattle.elf_source.proofs.ReadsLaws.{ReadsUpTo-none, ReadsUpTo-then, ReadsUpTo-to}
use Rattle.elf_table.specs.declared.fault.Fault.TheVariants.{Refused, Source}
use Rattle.elf_reloc.specs.Prelude.{AsksOf, Changes, FindsEntry, IsWalkAlive, ReadsEntries, Refers, StepsWalk, beside_entry_cost, changes_all, changes_from, changes_left, entries_from, entry_count_in, patch_as, rows_changes, section_count_of, steps_left, target_as, walk_all, walk_left}
use Rattle.elf_reloc.specs.declared.entry.ApplyTarget.{ApplyTarget as TargetCode}
use Rattle.elf_reloc.specs.declared.entry.PlacedPatch.{PlacedPatch}
use Rattle.elf_reloc.specs.declared.walk.RelocationWalk.{RelocationWalk}
use Rattle.elf_reloc.specs.declared.walk.WalkStep.{WalkStep}

sum-suc : (cost : ℕ → ℕ) (i n : ℕ) → sum_over cost i (suc n) ≡ cost i + sum_over cost (suc i) n
unfolding sum_over
sum-suc cost i n = refl

pub sum-next : (cost : ℕ → ℕ) (i count : ℕ) → i < count → sum_over cost i (count - i) ≡ cost i + sum_over cost (i + 1) (count - (i + 1))
sum-next cost i count below =
    let n : count - i ≡ suc (count - (i + 1)) = omega arith in
    let s : suc i ≡ i + 1 = omega arith in
    ap (sum_over cost i) n ∙ (sum-suc cost i (count - (i + 1)) ∙ ap (λ k. cost i + sum_over cost k (count - (i + 1))) s)

-- the list of changes
from-suc : (file : List ℕ) (target : TargetCode) (i n : ℕ) → changes_from file target i (suc n) ≡ section_changes (target_as file target) (section_at file i) ++ changes_from file target (suc i) n
unfolding changes_from places_from
from-suc file target i n = refl

from-none : (file : List ℕ) (target : TargetCode) (i : ℕ) → changes_from file target i 0 ≡ []
unfolding changes_from places_from
from-none file target i = refl

pub from-next : (file : List ℕ) (target : TargetCode) (i count : ℕ) → i < count → changes_from file target i (count - i) ≡ section_changes (target_as file target) (section_at file i) ++ changes_from file target (i + 1) (count - (i + 1))
from-next file target i count below =
    let n : count - i ≡ suc (count - (i + 1)) = omega arith in
    let s : suc i ≡ i + 1 = omega arith in
    ap (changes_from file target i) n ∙ (from-suc file target i (count - (i + 1)) ∙ ap (λ k. section_changes (target_as file target) (section_at file i) ++ changes_from file target k (count - (i + 1))) s)

rows-suc : (file : List ℕ) (target : TargetCode) (at i n : ℕ) → rows_changes file target at i (suc n) ≡ entry_changes (target_as file target) at (entry_at file at 24 i) ++ rows_changes file target at (suc i) n
unfolding rows_changes places_from
rows-suc file target at i n = refl

rows-none : (file : List ℕ) (target : TargetCode) (at i : ℕ) → rows_changes file target at i 0 ≡ []
unfolding rows_changes places_from
rows-none file target at i = refl

-- the changes of a section
pub section_none : (t : ApplyTarget) (at : ℕ) → applies_to t.file t.section at ≡ false → section_changes t at ≡ []
unfolding section_changes
section_none t at h = rw (h, section_changes) refl

pub section_fault : (t : ApplyTarget) (at : ℕ) (refusal : Refusal) → applies_to t.file t.section at ≡ true → first_refusal (relocation_table_checks t.file at) ≡ Some refusal → section_changes t at ≡ Fails refusal ∷ []
unfolding section_changes
section_fault t at refusal h f = rw (h, section_changes) (rw (f, section_changes) refl)

pub section_rows : (file : List ℕ) (target : TargetCode) (at : ℕ) → applies_to file target.section at ≡ true → first_refusal (relocation_table_checks file at) ≡ None → section_changes (target_as file target) at ≡ rows_changes file target at 0 (entry_count file at 24)
unfolding section_changes rows_changes
section_rows file target at h f = rw (h, section_changes) (rw (f, section_changes) refl)

-- what is left if no row is left
pub left-rows : (file : List ℕ) (target : TargetCode) (e : RelocationWalk) → e.cursor.left ≡ 0 → changes_left file target e ≡ changes_from file target e.next (section_count_of target - e.next)
unfolding changes_left
left-rows file target e none = grind (arith, rows-none)

pub left-end : (file : List ℕ) (target : TargetCode) (e : RelocationWalk) → e.cursor.left ≡ 0 → section_count_of target ≤ e.next → changes_left file target e ≡ []
left-end file target e none past = grind (arith, left-rows, from-none)

-- the next section was skipped: it has no changes
pub left-passed : (file : List ℕ) (target : TargetCode) (old new : RelocationWalk) → old.cursor.left ≡ 0 → new.cursor.left ≡ 0 → new.next ≡ old.next + 1 → old.next < section_count_of target
    → section_changes (target_as file target) (section_at file old.next) ≡ [] → changes_left file target old ≡ changes_left file target new
left-passed file target old new none none' step below nothing = grind (arith, left-rows, from-next)

-- it was opened: its rows are left
pub left-opened : (file : List ℕ) (target : TargetCode) (old new : RelocationWalk) → old.cursor.left ≡ 0 → new.next ≡ old.next + 1 → new.current ≡ old.next → new.cursor.index ≡ 0 → new.cursor.left ≡ entry_count file (section_at file old.next) 24
    → old.next < section_count_of target → section_changes (target_as file target) (section_at file old.next) ≡ rows_changes file target (section_at file old.next) 0 (entry_count file (section_at file old.next) 24)
    → changes_left file target old ≡ changes_left file target new
unfolding changes_left
left-opened file target old new none step here first counted below are = grind (arith, rows-none, from-next)

-- it was refused
pub left-refused : (file : List ℕ) (target : TargetCode) (old : RelocationWalk) (refusal : Refusal) → old.cursor.left ≡ 0 → old.next < section_count_of target
    → section_changes (target_as file target) (section_at file old.next) ≡ Fails refusal ∷ [] → (rest : List SectionChange) × (changes_left file target old ≡ Fails refusal ∷ rest)
left-refused file target old refusal none below are = (
  changes_from file target (old.next + 1) (section_count_of target - (old.next + 1)),
  left-rows file target old none ∙ (from-next file target old.next (section_count_of target) below
      ∙ ap (λ l. l ++ changes_from file target (old.next + 1) (section_count_of target - (old.next + 1))) are),
)

-- a row was yielded
pub left-row : (file : List ℕ) (target : TargetCode) (old new : RelocationWalk) (at : ℕ) → new.next ≡ old.next → new.current ≡ old.current → new.cursor.index ≡ old.cursor.index + 1 → new.cursor.left + 1 ≡ old.cursor.left
    → at ≡ sh_offset file (section_at file old.current) + old.cursor.index * 24
    → changes_left file target old ≡ entry_changes (target_as file target) (section_at file old.current) at ++ changes_left file target new
unfolding changes_left
left-row file target old new at next here index less place =
    let l : old.cursor.left ≡ suc new.cursor.left = omega arith in
    let i : suc old.cursor.index ≡ new.cursor.index = omega arith in
    let p : entry_at file (section_at file old.current) 24 old.cursor.index ≡ at = omega arith in
    grind (arith, rows-suc file target (section_at file old.current) old.cursor.index new.cursor.left, append_assoc)

-- the entries of the sections that are left
pub entries-next : (target : TargetCode) (i : ℕ) → i < section_count_of target → entries_from target i ≡ entry_count_in target i + entries_from target (i + 1)
unfolding entries_from
entries-next target i below = sum-next (entry_count_in target) i (section_count_of target) below

pub entries-end : (target : TargetCode) (i : ℕ) → section_count_of target ≤ i → entries_from target i ≡ 0
unfolding entries_from sum_over
entries-end target i past = let zero : section_count_of target - i ≡ 0 = omega arith in rw (zero, entries_from) refl

pub entries-other : (target : TargetCode) (i : ℕ) → applies_to (row target.file.store.now i) target.section 0 ≡ false → entry_count_in target i ≡ 0
unfolding entry_count_in
entries-other target i h = rw (h, entry_count_in) refl

pub entries-table :
    (target : TargetCode) (i : ℕ) (table : TableRange) → applies_to (row target.file.store.now i) target.section 0 ≡ true
    → Ok table ≡ table_of (row target.file.store.now i) 0 target.file.loaded.size (section_place target.file.loaded.header i) 24
    → table.count ≡ entry_count_in target i
unfolding entry_count_in
entries-table target i table h found = grind (arith, entries_counted)

-- the cost of what is left
pub cost-begins : (target : TargetCode) (e : RelocationWalk) → e.cursor.failed ≡ None → e.cursor.unread ≡ 0 → e.cursor.left ≡ 0 → e.next ≡ 0 → walk_left target e ≡ walk_all target
unfolding walk_left walk_all
cost-begins target e f u l n = grind arith

pub left-begins : (file : List ℕ) (target : TargetCode) (e : RelocationWalk) → e.cursor.left ≡ 0 → e.next ≡ 0 → changes_left file target e ≡ changes_all file target
left-begins file target e l n = grind (arith, left-rows)

pub cost-opened :
    (target : TargetCode) (old new : RelocationWalk) → new.cursor.failed ≡ None → new.cursor.unread ≡ new.cursor.left * 24 → new.next ≡ old.next + 1 → old.next < section_count_of target
    → new.cursor.left ≡ entry_count_in target old.next → walk_left target new ≤ walk_left target old
unfolding walk_left
cost-opened target old new f u step below counted = grind (arith, entries-next)

pub cost-passed : (target : TargetCode) (old new : RelocationWalk) → new.cursor ≡ old.cursor → new.next ≡ old.next + 1 → old.next < section_count_of target → walk_left target new ≤ walk_left target old
unfolding walk_left
cost-passed target old new same step below = grind (arith, entries-next)

-- the steps that are left: a section was passed, and has no more rows than the file has bytes
pub rows-few : (size : ℕ) (table : TableRange) → table.entry ≡ 24 → TableInBounds size table → table.count ≤ size
rows-few size table entry within = grind arith

pub steps-passed : (target : TargetCode) (old new : RelocationWalk) → new.next ≡ old.next + 1 → old.next < section_count_of target → new.cursor.left ≤ target.file.loaded.size → steps_left target new < steps_left target old
unfolding steps_left
steps-passed target old new step below few =
    let n : section_count_of target - old.next ≡ suc (section_count_of target - new.next) = omega arith in
    rw n (omega arith)

-- what the walk holds refers to the symbols of its section
refers_here : (file : List ℕ) (target : TargetCode) (new : RelocationWalk) (section : ℕ) → new.current ≡ section → Refers file target (section_at file section) new.symbols → Refers file target (section_at file new.current) new.symbols
refers_here file target new section here h = let P : ℕ → Type 0 = λ k. Refers file target (section_at file k) new.symbols in subst P (sym here) h

-- a section was opened, or refused
pub opened-fault : (file : List ℕ) (target : TargetCode) (old new : RelocationWalk) (fault : Fault) → old.cursor.left ≡ 0 → old.next < section_count_of target → applies_to file target.section (section_at file old.next) ≡ true
    → Relocates file (section_at file old.next) (Err fault) → StepsWalk file target old new (Err fault)
opened-fault file target old new (Refused refusal) none below applies h = λ other.
    left-refused file target old refusal none below (section_fault (target_as file target) (section_at file old.next) refusal applies h)
opened-fault file target old new (Source fault at) none below applies h = absurd h

pub opened-rows : (file : List ℕ) (target : TargetCode) (old new : RelocationWalk) (table : TableRange) → new.cursor.table ≡ table → new.cursor.index ≡ 0 → new.cursor.left ≡ table.count → new.cursor.held ≡ [] → new.next ≡ old.next + 1 → new.current ≡ old.next
    → old.cursor.left ≡ 0 → old.next < section_count_of target → applies_to file target.section (section_at file old.next) ≡ true
    → Relocates file (section_at file old.next) (Ok (table, new.symbols.linked)) → new.symbols.last ≡ None → (changes_left file target old ≡ changes_left file target new) × ReadsEntries file target new
opened-rows file target old new table same first counted held step here none below applies h fresh =
    (grind (arith, left-opened, section_rows), record { agrees = rw held refl; links = grind arith; placed = grind arith })

-- a row was read, and then its symbol and names
pub cost-row : (target : TargetCode) (old new : RelocationWalk) (before middle after : ℕ) → new.next ≡ old.next → old.cursor.failed ≡ None → new.cursor.failed ≡ None → new.cursor.left + 1 ≡ old.cursor.left
    → middle + unread_bytes new.cursor ≤ before + unread_bytes old.cursor → after ≤ middle + beside_entry_cost target → after + walk_left target new ≤ before + walk_left target old
unfolding walk_left
cost-row target old new before middle after same f f' less account own = grind arith

-- the source failed before a row
cost-fault : (target : TargetCode) (old new : RelocationWalk) (before after : ℕ) (fault : Fault) → new.next ≡ old.next → new.cursor.failed ≡ Some fault
    → after + unread_bytes new.cursor ≤ before + unread_bytes old.cursor → after + walk_left target new ≤ before + walk_left target old
unfolding walk_left
cost-fault target old new before after fault next failed account = rw (next, failed) (omega (arith, account))

-- the bytes that are still to be read of a section are left to request
pub unread-left : (target : TargetCode) (e : RelocationWalk) → unread_bytes e.cursor ≤ walk_left target e
unfolding walk_left
unread-left target e = omega arith

-- reads within what was left to request
pub reads-left : {a b : CountedState} {n : ℕ} (left left' : ℕ) → ReadsUpTo a b n → b.asked + left' ≤ a.asked + left → ReadsUpTo a b left
reads-left left left' reads account = ReadsUpTo-to reads (omega (arith, account))

-- steps one after another
pub asks-none : (target : TargetCode) (e : RelocationWalk) (a : CountedState) → AsksOf a a target e e
asks-none target e a = record { reads = ReadsUpTo-none a (walk_left target e); account = omega arith }

pub asks-then : {target : TargetCode} {old mid new : RelocationWalk} {a b c : CountedState} → AsksOf a b target old mid → AsksOf b c target mid new → AsksOf a c target old new
asks-then p q = record { reads = ReadsUpTo-to (ReadsUpTo-then p.reads q.reads) (omega (arith, p.account, q.account)); account = omega (arith, p.account, q.account) }

pub finds-fault : (file : List ℕ) (target : TargetCode) (old mid new : RelocationWalk) (fault : Fault) → changes_left file target old ≡ changes_left file target mid
    → StepsWalk file target mid new (Err fault) → FindsEntry file target old new (Err fault)
finds-fault file target old mid new (Refused refusal) same walked = λ other. let found = walked other in (found.0, same ∙ found.1)
finds-fault file target old mid new (Source fault at) same walked = tt

-- a row was read, and then what else it needs
pub row-asks : (target : TargetCode) (old new : RelocationWalk) (a b c : CountedState) → new.next ≡ old.next → old.cursor.failed ≡ None → new.cursor.failed ≡ None → new.cursor.left + 1 ≡ old.cursor.left
    → ReadsUpTo a b (unread_bytes old.cursor) → b.asked + unread_bytes new.cursor ≤ a.asked + unread_bytes old.cursor → ReadsUpTo b c (beside_entry_cost target) → AsksOf a c target old new
row-asks target old new a b c same f f' less reads account own =
    let all = cost-row target old new a.asked b.asked c.asked same f f' less account own.at_most in
    record { reads = reads-left (walk_left target old) (walk_left target new) (ReadsUpTo-then reads own) all; account = all }

pub row-goes : (size : ℕ) (target : TargetCode) (holds : Option (List ℕ)) (old new : RelocationWalk) → GivesRow holds old.cursor new.cursor → new.next ≡ old.next → new.count ≡ old.count → new.symbols.linked ≡ old.symbols.linked
    → IsWalkAlive size target old → IsWalkAlive size target new
row-goes size target holds old new gives next count linked goes = record {
  not_failed = gives.still_not_failed;
  entry = ap (λ (t : TableRange). t.entry) gives.same_table ∙ goes.entry;
  within = rw gives.same_table goes.within;
  linked = rw linked goes.linked;
  next = omega (arith, goes.next);
  few = omega (arith, goes.few);
}

pub goes-same : (size size' : ℕ) (target : TargetCode) (old : RelocationWalk) (cursor : CursorState) → size' ≡ size → cursor ≡ old.cursor → IsWalkAlive size target old
    → IsWalkAlive size' target (record { cursor = cursor; symbols = old.symbols; current = old.current; next = old.next; count = old.count })
goes-same size size' target old cursor sized same goes = rw (sized, same) goes

pub steps-row : (target : TargetCode) (old new : RelocationWalk) → new.next ≡ old.next → new.cursor.left + 1 ≡ old.cursor.left → steps_left target new < steps_left target old
unfolding steps_left
steps-row target old new next less = rw next (omega arith)

-- the source failed before a row
pub fault-asks : (target : TargetCode) (old new : RelocationWalk) (a b : CountedState) (fault : Fault) → new.next ≡ old.next → new.cursor.failed ≡ Some fault
    → ReadsUpTo a b (unread_bytes old.cursor) → b.asked + unread_bytes new.cursor ≤ a.asked + unread_bytes old.cursor → AsksOf a b target old new
fault-asks target old new a b fault next failed reads account =
    let all = cost-fault target old new a.asked b.asked fault next failed account in
    record { reads = reads-left (walk_left target old) (walk_left target new) reads all; account = all }

-- no row is left: the effect of the step to the next section
pub end-asks : (target : TargetCode) (old new : RelocationWalk) (a b : CountedState) (cursor : CursorState) → cursor ≡ old.cursor
    → walk_left target new ≤ walk_left target (record { cursor = cursor; symbols = old.symbols; current = old.current; next = old.next; count = old.count })
    → ReadsUpTo a b (unread_bytes old.cursor) → b.asked + unread_bytes cursor ≤ a.asked + unread_bytes old.cursor → AsksOf a b target old new
end-asks target old new a b cursor same fewer reads account =
    let left : walk_left target new ≤ walk_left target old = rw same at fewer in
    let none : b.asked ≤ a.asked = omega (arith, account, ap unread_bytes same) in
    let all : b.asked + walk_left target new ≤ a.asked + walk_left target old = omega arith in
    record { reads = reads-left (walk_left target old) (walk_left target new) reads all; account = all }

-- the change of a row is the first of what is left
module _ (file : List ℕ) (target : TargetCode) (old new : RelocationWalk) (at : ℕ) (next : new.next ≡ old.next) (here : new.current ≡ old.current) (index : new.cursor.index ≡ old.cursor.index + 1) (less : new.cursor.left + 1 ≡ old.cursor.left)
    (place : at ≡ sh_offset file (section_at file old.current) + old.cursor.index * 24) where
  pub row-stores : (placed : PlacedPatch) → entry_changes (target_as file target) (section_at file old.current) at ≡ Put (patch_as placed) ∷ [] → changes_left file target old ≡ Put (patch_as placed) ∷ changes_left file target new
  row-stores placed h = left-row file target old new at next here index less place ∙ ap (λ l. l ++ changes_left file target new) h

  pub row-nothing : entry_changes (target_as file target) (section_at file old.current) at ≡ [] → changes_left file target old ≡ changes_left file target new
  row-nothing h = left-row file target old new at next here index less place ∙ ap (λ l. l ++ changes_left file target new) h

  pub row-fails : (fault : Fault) (after : RelocationWalk) → Changes (Err fault) (entry_changes (target_as file target) (section_at file old.current) at) → StepsWalk file target old after (Err fault)
  row-fails (Refused refusal) after h = λ other.
      (changes_left file target new, left-row file target old new at next here index less place ∙ ap (λ l. l ++ changes_left file target new) (h other))
  row-fails (Source fault offset) after h = tt

pub reads-row : (file : List ℕ) (target : TargetCode) (holds : Option (List ℕ)) (old new : RelocationWalk) → GivesRow holds old.cursor new.cursor → holds ≡ Some file → new.current ≡ old.current → ReadsEntries file target old
    → Refers file target (section_at file old.current) new.symbols → ReadsEntries file target new
reads-row file target holds old new gives held here reads refers = record {
  agrees = gives.agrees file held reads.agrees;
  links = λ some. refers_here file target new old.current here refers;
  placed = λ some. ap (λ (t : TableRange). t.at) gives.same_table ∙ (reads.placed (omega (arith, some, gives.one_less)) ∙ ap (λ k. sh_offset file (section_at file k)) (sym here));
}

pub same-walked : (file : List ℕ) (target : TargetCode) (old new : RelocationWalk) (cursor : CursorState) (result : Result WalkStep Fault) → cursor ≡ old.cursor
    → (let now : RelocationWalk = record { cursor = cursor; symbols = old.symbols; current = old.current; next = old.next; count = old.count } in ReadsEntries file target now → StepsWalk file target now new result) → ReadsEntries file target old → StepsWalk file target old new result
same-walked file target old new cursor result same walked reads =
    let P : CursorState → Type 0 = λ c. (let now : RelocationWalk = record { cursor = c; symbols = old.symbols; current = old.current; next = old.next; count = old.count } in ReadsEntries file target now → StepsWalk file target now new result) in
    subst P same walked (record { agrees = reads.agrees; links = reads.links; placed = reads.placed })
