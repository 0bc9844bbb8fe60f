-- The groups that are taken, one section after the other, and the sections that are marked.
use Rattle.std.proofs.Common.{◌≡◌, ℕ, suc, ◌+◌, ◌-◌, ◌<◌, ◌≤◌, Bool, true, false, List, [], ◌∷◌, ◌++◌, length, take, refl, ap, ◌∙◌, sym, subst, append_assoc, arith}
use Rattle.std.specs.Prelude.{Ok, if◌then◌else◌}
use Rattle.std.proofs.lemmas.List.{append-nil}
use Rattle.elf_model.specs.LinkArchives.{refusal_of}
use Rattle.elf_model.specs.LinkKeys.{LinkKeys, entered, entry_named_as, key_index}
use Rattle.elf_model.specs.LinkObjects.{DroppedSections, SectionGroup, group_taken, groups_taken, is_kept, signature_kept}
use Rattle.elf_model.specs.LinkSymbols.{and_then, followed, groups_at, groups_from}
use Rattle.elf_model.specs.Records.{e_shnum}
use Rattle.elf_resolve.specs.KeyTables.{KeyList}
use Rattle.elf_resolve.specs.SectionGroups.{DroppedGroups, TookGroups, none_dropped}
use Rattle.elf_resolve.specs.SectionMarks.{MarksDropped}
use Rattle.elf_resolve.specs.StringBuffers.{KeptTexts, TableTexts}
use Rattle.elf_resolve.specs.Taken.{IsLinkFault}
use Rattle.elf_resolve.specs.declared.link_faults.LinkFault.{LinkFault}
use Rattle.elf_resolve.proofs.FollowedLaws.{followed_all, followed_fault, followed_more, followed_none}

abbrev dropped_by : LinkKeys → List ℕ → DroppedSections
dropped_by keys sections = record { keys = keys; sections = sections }

-- groups after others, and what sections are dropped before them
groups_taken-append : (before : DroppedSections) (first more : List SectionGroup) → groups_taken before (first ++ more) ≡ groups_taken (groups_taken before first) more
groups_taken-append before [] more = refl
groups_taken-append before (group ∷ first) more = groups_taken-append (group_taken before group) first more

group-step : (is : Bool) (keys : LinkKeys) (sections added : List ℕ) (groups : List SectionGroup)
    → ((s : List ℕ) → groups_taken (dropped_by keys s) groups ≡ dropped_by (groups_taken (dropped_by keys []) groups).keys (s ++ (groups_taken (dropped_by keys []) groups).sections))
    → groups_taken (dropped_by keys (if is then sections ++ added else sections)) groups
    ≡ dropped_by (groups_taken (dropped_by keys (if is then [] ++ added else [])) groups).keys (sections ++ (groups_taken (dropped_by keys (if is then [] ++ added else [])) groups).sections)
group-step true keys sections added groups rest =
    rest (sections ++ added)
    ∙ ap (dropped_by (groups_taken (dropped_by keys []) groups).keys) (append_assoc sections added (groups_taken (dropped_by keys []) groups).sections)
    ∙ sym (ap (λ (d : DroppedSections). dropped_by d.keys (sections ++ d.sections)) (rest added))
group-step false keys sections added groups rest = rest sections

groups_taken-from : (keys : LinkKeys) (sections : List ℕ) (groups : List SectionGroup)
    → groups_taken (dropped_by keys sections) groups ≡ dropped_by (groups_taken (dropped_by keys []) groups).keys (sections ++ (groups_taken (dropped_by keys []) groups).sections)
groups_taken-from keys sections [] = ap (dropped_by keys) (sym (append-nil sections))
groups_taken-from keys sections (group ∷ groups) =
    let index = key_index keys group.signature in
    let now = entered keys group.signature in
    let next = signature_kept now index group.is_link_once in
    group-step (is_kept group.is_link_once (entry_named_as now index)) next sections group.sections groups (λ s. groups_taken-from next s groups)

-- THE GROUPS TAKEN SO FAR, before the section of an index
pub record TakenSoFar (file : List ℕ) (index : ℕ) (old new : KeyList) (marks : List Bool) : Type 0 where
  pub first : List SectionGroup
  pub so_far : groups_from file 0 (e_shnum file) ≡ followed first (groups_from file index (e_shnum file - index))
  pub keys : new.keys ≡ (groups_taken (none_dropped old) first).keys
  pub marked : MarksDropped (e_shnum file) marks (groups_taken (none_dropped old) first).sections
  pub most : new.most ≡ old.most
  pub most_further : new.most_further ≡ old.most_further

groups_from-step : (file : List ℕ) (index count : ℕ) → index < count
    → groups_from file index (count - index) ≡ and_then (groups_at file index) (groups_from file (index + 1) (count - (index + 1)))
unfolding groups_from
groups_from-step file index count below =
    let n : ℕ = count - (index + 1) in
    let here : count - index ≡ suc n = omega arith in
    let next : suc index ≡ index + 1 = omega arith in
    ap (groups_from file index) here ∙ ap (λ i. and_then (groups_at file index) (groups_from file i n)) next

groups_from-end : (file : List ℕ) (index count : ℕ) → count ≤ index → groups_from file index (count - index) ≡ Ok []
unfolding groups_from
groups_from-end file index count past = let none : count - index ≡ 0 = omega arith in ap (groups_from file index) none

pub taken_first : (file : List ℕ) (keys : KeyList) (marks : List Bool) → MarksDropped (e_shnum file) marks [] → TakenSoFar file 0 keys keys marks
taken_first file keys marks marked =
    let all : e_shnum file ≡ e_shnum file - 0 = omega arith in
    record {
      first = [];
      so_far = followed_none (groups_from file 0 (e_shnum file)) ∙ ap (λ n. followed [] (groups_from file 0 n)) all;
      keys = refl;
      marked = marked;
      most = refl;
      most_further = refl;
    }

-- the keys and the sections of the groups so far and of those of one section more
both-taken : (old mid : KeyList) (first more : List SectionGroup) → mid.keys ≡ (groups_taken (none_dropped old) first).keys
    → groups_taken (none_dropped old) (first ++ more)
    ≡ dropped_by (groups_taken (none_dropped mid) more).keys ((groups_taken (none_dropped old) first).sections ++ (groups_taken (none_dropped mid) more).sections)
both-taken old mid first more same =
    groups_taken-append (none_dropped old) first more
    ∙ groups_taken-from (groups_taken (none_dropped old) first).keys (groups_taken (none_dropped old) first).sections more
    ∙ ap (λ k. dropped_by (groups_taken (dropped_by k []) more).keys ((groups_taken (none_dropped old) first).sections ++ (groups_taken (dropped_by k []) more).sections)) (sym same)

pub taken_more : (file : List ℕ) (index : ℕ) (old mid new : KeyList) (marks final : List Bool) (groups : List SectionGroup) (sections : List ℕ) → index < e_shnum file
    → TakenSoFar file index old mid marks → groups_at file index ≡ Ok groups → TookGroups groups mid new sections
    → ((before : List ℕ) → MarksDropped (e_shnum file) marks before → MarksDropped (e_shnum file) final (before ++ sections))
    → TakenSoFar file (index + 1) old new final
taken_more file index old mid new marks final groups sections below before are took mark =
    let both = both-taken old mid before.first groups before.keys in
    record {
      first = before.first ++ groups;
      so_far = followed_more _ _ (groups_at file index) _ before.first groups before.so_far (groups_from-step file index (e_shnum file) below) are;
      keys = took.keys ∙ sym (ap (λ (d : DroppedSections). d.keys) both);
      marked =
          subst (MarksDropped (e_shnum file) final)
          (ap (λ s. (groups_taken (none_dropped old) before.first).sections ++ s) took.sections_are ∙ sym (ap (λ (d : DroppedSections). d.sections) both))
          (mark (groups_taken (none_dropped old) before.first).sections before.marked);
      most = took.most ∙ before.most;
      most_further = took.most_further ∙ before.most_further;
    }

pub taken_all : (file : List ℕ) (index : ℕ) (old new : KeyList) (marks : List Bool) → e_shnum file ≤ index → TakenSoFar file index old new marks → DroppedGroups file old new marks
taken_all file index old new marks past before = record {
  groups = before.first;
  are = followed_all _ _ before.first before.so_far (groups_from-end file index (e_shnum file) past);
  keys = before.keys;
  marked = before.marked;
  most = before.most;
  most_further = before.most_further;
}

pub taken_fault : (file : List ℕ) (index : ℕ) (old new : KeyList) (marks : List Bool) (fault : LinkFault) → index < e_shnum file → TakenSoFar file index old new marks
    → IsLinkFault (refusal_of (groups_at file index)) fault → IsLinkFault (refusal_of (groups_from file 0 (e_shnum file))) fault
taken_fault file index old new marks fault below before is =
    followed_fault _ _ (groups_at file index) _ before.first fault before.so_far (groups_from-step file index (e_shnum file) below) is

-- tables that are forgotten again leave those before them
pub forgotten : (old mid new : TableTexts) (used : ℕ) → KeptTexts old mid → used ≡ length old.bytes → new ≡ record mid { bytes = take used mid.bytes } → new ≡ old
forgotten old mid new used kept is eq =
    let bytes : take used mid.bytes ≡ old.bytes = ap (λ n. take n mid.bytes) is ∙ kept.first in
    eq ∙ ap (λ b. record { bytes = b; most = mid.most }) bytes ∙ ap (λ m. record { bytes = old.bytes; most = m }) kept.most
