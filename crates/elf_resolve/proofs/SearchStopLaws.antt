-- What a search adds to rows, and where it stops: one entry and one pass after another.
use Rattle.std.proofs.Common.{◌≡◌, ℕ, zero, suc, ◌<◌, Bool, true, false, List, [], ◌∷◌, ◌++◌, get_or, length, take, append_assoc, refl, sym, ap, subst, ◌∙◌, inl, inr, arith}
use Rattle.std.specs.Prelude.{Option, None, Some}
use Rattle.std.proofs.lemmas.List.{append-nil}
use Rattle.elf_model.specs.LinkPasses.{ArchiveMembers, ArchivePass, LinkArchive, archive_searched, asks_for, entry_visited, index_passed, is_taken, member_row, member_taken}
use Rattle.elf_model.specs.declared.link_states.IndexEntry.{IndexEntry}
use Rattle.elf_model.specs.declared.link_states.LinkRefusal.{LinkRefusal}
use Rattle.elf_model.specs.declared.link_states.LinkRow.{LinkRow}
use Rattle.elf_resolve.specs.Passing.{PassedTo, searched_archive}
use Rattle.elf_resolve.specs.RowTables.{LinkRows}
use Rattle.elf_resolve.specs.SearchStops.{AddedMembers, AreTakenMembers, FillsRows, IsMemberStop, StoppedAtMember, StopsSearch}
use Rattle.elf_resolve.specs.declared.table.LinkStop.{LinkStop}
use Rattle.elf_resolve.specs.declared.table.LinkStop.TheVariants.{Full, TooManyRows, Unreadable}
use Rattle.elf_resolve.specs.declared.passes.ArchiveInput.{ArchiveInput}
use Rattle.elf_resolve.proofs.BeginLaws.{Begins, begins_as, entry_begins, pass_begins}
use Rattle.elf_resolve.proofs.PassLaws.{visited_takes}

module _ (refusal : ℕ → Option LinkRefusal) (input : ℕ) where
  both_taken : (xs ys : List LinkRow) → AreTakenMembers refusal input xs → AreTakenMembers refusal input ys → AreTakenMembers refusal input (xs ++ ys)
  both_taken [] ys first second = second
  both_taken (x ∷ xs) ys first second = (first.0, both_taken xs ys first.1 second)

  pub added_none : (rows : List LinkRow) → AddedMembers refusal input rows rows
  added_none rows = record { added = []; rows = sym (append-nil rows); taken = tt }

  pub added_then : (a b c : List LinkRow) → AddedMembers refusal input a b → AddedMembers refusal input b c → AddedMembers refusal input a c
  added_then a b c first second = record {
    added = first.added ++ second.added;
    rows = second.rows ∙ ap (λ r. r ++ second.added) first.rows ∙ append_assoc a first.added second.added;
    taken = both_taken first.added second.added first.taken second.taken;
  }

  pub added_one : (old new : List LinkRow) (row : LinkRow) (member : ℕ) → new ≡ old ++ row ∷ [] → row.member ≡ Some member → row.input ≡ input → refusal member ≡ None → AddedMembers refusal input old new
  added_one old new row member rows member_is input_is none = record {
    added = row ∷ [];
    rows = rows;
    taken = (record { member = member; member_is = member_is; input_is = input_is; unrefused = none }, tt);
  }

  module _ (stopped halted : ℕ → Type 0) (count : ℕ) where
    -- after what was added before, and within what is made in all
    later : (start now new made whole : List LinkRow) → AddedMembers refusal input start now → Begins made whole → StoppedAtMember refusal stopped input count now new made → StoppedAtMember refusal stopped input count start new whole
    later start now new made whole before begins at = record {
      before = at.before;
      row = at.row;
      member = at.member;
      rest = at.rest ++ begins.rest;
      added = added_then start now at.before before at.added;
      rows = at.rows;
      made_is = begins.are ∙ ap (λ m. m ++ begins.rest) at.made_is ∙ append_assoc new at.rest begins.rest;
      member_is = at.member_is;
      input_is = at.input_is;
      within = at.within;
      stops = at.stops;
    }

    pub stops_later : (start now new made whole : List LinkRow) (stop : LinkStop) → AddedMembers refusal input start now → Begins made whole → StopsSearch refusal stopped halted input count now new made stop
        → StopsSearch refusal stopped halted input count start new whole stop
    stops_later start now new made whole TooManyRows before begins stops = tt
    stops_later start now new made whole (Full fault) before begins (inl halts) = inl halts
    stops_later start now new made whole (Full fault) before begins (inr at) = inr (later start now new made whole before begins at)
    stops_later start now new made whole Unreadable before begins (inl halts) = inl halts
    stops_later start now new made whole Unreadable before begins (inr at) = inr (later start now new made whole before begins at)

    pub halts_at : (old new made : List LinkRow) (member : ℕ) (stop : LinkStop) → member < count → halted member → StopsSearch refusal stopped halted input count old new made stop
    halts_at old new made member TooManyRows within halts = tt
    halts_at old new made member (Full fault) within halts = inl (member, within, halts)
    halts_at old new made member Unreadable within halts = inl (member, within, halts)

    one : (old new made : List LinkRow) (row : LinkRow) (member : ℕ) → member < count → new ≡ old ++ row ∷ [] → made ≡ new → row.member ≡ Some member → row.input ≡ input → stopped member → StoppedAtMember refusal stopped input count old new made
    one old new made row member within rows made_is member_is input_is stops = record {
      before = old;
      row = row;
      member = member;
      rest = [];
      added = added_none old;
      rows = rows;
      made_is = made_is ∙ sym (append-nil new);
      member_is = member_is;
      input_is = input_is;
      within = within;
      stops = stops;
    }

    pub stops_at : (old new made : List LinkRow) (row : LinkRow) (member : ℕ) (stop : LinkStop) → member < count → new ≡ old ++ row ∷ [] → made ≡ new → row.member ≡ Some member → row.input ≡ input → stopped member
        → StopsSearch refusal stopped halted input count old new made stop
    stops_at old new made row member TooManyRows within rows made_is member_is input_is stops = tt
    stops_at old new made row member (Full fault) within rows made_is member_is input_is stops = inr (one old new made row member within rows made_is member_is input_is stops)
    stops_at old new made row member Unreadable within rows made_is member_is input_is stops = inr (one old new made row member within rows made_is member_is input_is stops)

-- a member's stop says nothing of the rows
pub member_stops : (table : LinkRows) (stop : LinkStop) → IsMemberStop stop → FillsRows table stop
member_stops table TooManyRows of_member = absurd of_member
member_stops table (Full fault) of_member = tt
member_stops table Unreadable of_member = tt

-- A MEMBER THAT IS NOT TAKEN YET is one of so many
pub untaken_within : (taken : List Bool) (member : ℕ) → get_or taken member true ≡ false → member < length taken
untaken_within [] member free = cc
untaken_within (t ∷ taken) zero free = omega arith
untaken_within (t ∷ taken) (suc member) free = omega (arith, untaken_within taken member free)

-- its row is the one that a visit adds
pub visit_adds : (archive : LinkArchive) (p : ArchivePass) (e : IndexEntry) (row : LinkRow) (rows : List LinkRow) → asks_for archive.members p.keys e ≡ true → is_taken p.taken e.member ≡ false → row ≡ member_row archive.input archive.row p.keys e
    → rows ≡ p.rows ++ row ∷ [] → (entry_visited archive p e).rows ≡ rows
unfolding member_taken
visit_adds archive p e row rows asks free row_is added =
    ap (λ (q : ArchivePass). q.rows) (visited_takes archive p e asks free) ∙ ap (λ r. p.rows ++ r ∷ []) (sym row_is) ∙ sym added

-- WHAT WAS ADDED SO FAR, if members were known
pub record AddedSoFar (known : Type 0) (before after : ℕ → Option LinkRefusal) (input : ℕ) (old new : List LinkRow) : Type 0 where
  pub same : after ≡ before
  pub added : known → AddedMembers before input old new

pub added_first : (known : Type 0) (refusal : ℕ → Option LinkRefusal) (input : ℕ) (rows : List LinkRow) → AddedSoFar known refusal refusal input rows rows
added_first known refusal input rows = record { same = refl; added = λ k. added_none refusal input rows }

module _ (k0 k1 : Type 0) (r0 r1 r2 : ℕ → Option LinkRefusal) (input : ℕ) (start now new : List LinkRow) where
  pub added_more : AddedSoFar k0 r0 r1 input start now → r2 ≡ r1 → (k0 → k1) → (k1 → AddedMembers r1 input now new) → AddedSoFar k0 r0 r2 input start new
  added_more before same known added = record {
    same = same ∙ before.same;
    added = λ k. added_then r0 input start now new (before.added k) (subst (λ r. AddedMembers r input now new) before.same (added (known k)));
  }

  pub stops_after : (stopped halted : ℕ → Type 0) (from count : ℕ) (made whole : List LinkRow) (stop : LinkStop) → AddedSoFar k0 r0 r1 input start now → (k0 → k1) → (k0 → Begins made whole) → from ≡ count
      → (k1 → StopsSearch r1 stopped halted input from now new made stop) → k0 → StopsSearch r0 stopped halted input count start new whole stop
  stops_after stopped halted from count made whole stop before known begins same stops k =
      stops_later r0 input stopped halted count start now new made whole stop (before.added k) (begins k)
      (subst (λ n. StopsSearch r0 stopped halted input n now new made stop) same (subst (λ r. StopsSearch r stopped halted input from now new made stop) before.same (stops (known k))))

module _ (archive : ArchiveInput) (m0 m1 : ArchiveMembers) (k0 k1 : Type 0) (start now : ArchivePass) (es : List IndexEntry) where
  -- an entry's rows within a pass
  pub entry_within : (i : ℕ) (d : IndexEntry) → i < length es → PassedTo m0 m1 k0 k1 (index_passed (searched_archive archive m0) start (take i es)) now → k0
      → Begins (entry_visited (searched_archive archive m1) now (get_or es i d)).rows (index_passed (searched_archive archive m0) start es).rows
  entry_within i d below before k =
      subst (λ (p : ArchivePass). Begins p.rows (index_passed (searched_archive archive m0) start es).rows)
      (sym (ap (λ m. entry_visited (searched_archive archive m) now (get_or es i d)) before.same ∙ ap (λ p. entry_visited (searched_archive archive m0) p (get_or es i d)) (before.holds k)))
      (entry_begins (searched_archive archive m0) start es i d below)

  -- a pass within a search
  pub pass_within : PassedTo m0 m1 k0 k1 (archive_searched (searched_archive archive m0) es start) (archive_searched (searched_archive archive m0) es now) → k0
      → Begins (index_passed (searched_archive archive m1) now es).rows (archive_searched (searched_archive archive m0) es start).rows
  pass_within before k =
      begins_as _ (archive_searched (searched_archive archive m0) es now).rows _ (ap (λ (p : ArchivePass). p.rows) (before.holds k))
      (subst (λ m. Begins (index_passed (searched_archive archive m) now es).rows (archive_searched (searched_archive archive m0) es now).rows) (sym before.same) (pass_begins (searched_archive archive m0) es now))
