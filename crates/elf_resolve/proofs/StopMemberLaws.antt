-- Where a link stops at a member of an archive, as a resolver has it.
use Rattle.std.proofs.Common.{◌≡◌, ℕ, zero, suc, ◌+◌, ◌-◌, ◌<◌, ◌≤◌, Bool, List, [], ◌∷◌, ◌++◌, add-one, drop, drop-cons, get_or, length, length-append, refl, sym, ap, subst, ◌∙◌, ◌⊎◌, inl, inr, arith}
use Rattle.std.specs.Prelude.{SomeIff, Option, None, Some, Result, Ok, Err}
use Rattle.std.specs.List.{slice_get}
use Rattle.elf_model.specs.LinkArchives.{LinkFiles, LinkMember, link_members, members_as_objects, no_member, whole_members}
use Rattle.elf_model.specs.LinkInputs.{Linking, archive_again, members_taken, whole_row}
use Rattle.elf_model.specs.LinkPasses.{archive_searched}
use Rattle.elf_model.specs.declared.link_states.LinkRow.{LinkRow}
use Rattle.elf_resolve.specs.EndsAtRefusal.{LeavesRows, NoneRefused, StopsLink}
use Rattle.elf_resolve.specs.KeyTables.{KeyList}
use Rattle.elf_resolve.specs.LinkMembers.{ReturnsFileMember, TakesMember}
use Rattle.elf_resolve.specs.OpenedArchives.{HasMembers, archive_in, archive_of_input}
use Rattle.elf_resolve.specs.Passing.{pass_of}
use Rattle.elf_resolve.specs.Ranges.{IsRangeOf}
use Rattle.elf_resolve.specs.Resolved.{elements_in, linking_of, open_archive}
use Rattle.elf_resolve.specs.ResolvedInputs.{IsLink}
use Rattle.elf_resolve.specs.SearchStops.{EndsSearch, IsFaultOfMember, StoppedAtMember, StopsWith, refusal_in}
use Rattle.elf_resolve.specs.Taken.{IsLinkFault}
use Rattle.elf_resolve.specs.declared.archives.OpenedArchive.{OpenedArchive}
use Rattle.elf_resolve.specs.declared.link_faults.LinkFault.{LinkFault}
use Rattle.elf_resolve.specs.declared.link_faults.LinkFault.TheVariants.{Refused}
use Rattle.elf_resolve.specs.declared.resolver.Resolver.{Resolver}
use Rattle.elf_resolve.specs.declared.table.LinkStop.{LinkStop}
use Rattle.elf_model.specs.declared.link_states.LinkCause.TheVariants as cause
use Rattle.elf_resolve.proofs.BeginLaws.{Begins, begins_as, begins_same, members_begin}
use Rattle.elf_resolve.proofs.OpenedLaws.{found_opened}
use Rattle.elf_resolve.proofs.RefusalLaws.{added_none_refused, by_headers, limit_stops, member_row_refusal, none_more}
use Rattle.elf_resolve.proofs.SearchEndLaws.{member_stops, search_stops}
use Rattle.elf_resolve.proofs.TakenMemberLaws.{file_of, whole_step}

-- for lack of room
pub room_stops : (files : LinkFiles) (is_script : Type 0) (rows whole : List LinkRow) (index : Option ℕ) (at : ℕ) → StopsLink files is_script rows whole index (Refused (record { at = at; cause = cause.TooManyRows }))
room_stops files is_script rows whole index at = inl tt

-- a member that is there is one of so many
pub below_length : (members : List LinkMember) (index : ℕ) (m : LinkMember) → slice_get members index ≡ Some m → index < length members
below_length [] index m is = absurd cc
below_length (x ∷ members) zero m is = omega arith
below_length (x ∷ members) (suc index) m is = omega (arith, below_length members index m is)

-- A MEMBER OF A WHOLE ARCHIVE
module _ (files : LinkFiles) (file : List ℕ) (input row member : ℕ) (file_is : files.file input ≡ Some file) where
  pub member_leaves : (before : List LinkRow) (new : Resolver) (whole : List LinkRow) (index : ℕ) (k0 k1 : KeyList) (r : Result (Unit {0}) LinkFault) → member < length (link_members file).members
      → new.link.rows.rows ≡ before ++ whole_row input row member ∷ [] → new.row ≡ Some (length before) → whole ≡ new.link.rows.rows → NoneRefused files before → TakesMember files file member index k0 k1 r
      → LeavesRows files ⊥ new whole r
  member_leaves before new whole index k0 k1 (Ok done) below rows row_is whole_is none took =
      none_more files before new.link.rows.rows (whole_row input row member) rows
      (member_row_refusal files file (whole_row input row member) input member refl refl file_is ∙ sym (by_headers files file member) ∙ took.taken) none
  member_leaves before new whole index k0 k1 (Err fault) below rows row_is whole_is none says =
      let begins = begins_as new.link.rows.rows new.link.rows.rows whole (sym whole_is) (begins_same new.link.rows.rows) in
      member_stops files ⊥ file input member new.link.rows.rows whole before begins.rest new.row (whole_row input row member) fault file_is refl refl none rows row_is begins.are
      (λ moves. subst (λ r. IsLinkFault r fault) (by_headers files file member) (says below moves))

-- one member is the first part of those that are left
pub members_first : (file : List ℕ) (input row number headers : ℕ) (link whole : Linking) → number < length (link_members file).members
    → members_taken input row link (whole_members file number (drop number (link_members file).members) headers) ≡ whole
    → Begins (members_taken input row link (whole_members file number (get_or (link_members file).members number no_member ∷ []) headers)).rows whole.rows
members_first file input row number headers link whole below is =
    let ms = (link_members file).members in
    let m = get_or ms number no_member in
    let next : drop number ms ≡ m ∷ drop (number + 1) ms = drop-cons ms number no_member below ∙ ap (λ n. m ∷ drop n ms) (sym (add-one number)) in
    let one = members_taken input row link (whole_members file number (m ∷ []) headers) in
    let rest = whole_members file (number + 1) (drop (number + 1) ms) headers in
    let all : members_taken input row one rest ≡ whole =
    sym (whole_step input row link file number m (drop (number + 1) ms) headers) ∙ ap (λ l. members_taken input row link (whole_members file number l headers)) (sym next) ∙ is in
    begins_as one.rows _ whole.rows (ap (λ (l : Linking). l.rows) all) (members_begin input row one rest)

pub unknown_stops : (files : LinkFiles) (file : List ℕ) (member : ℕ) (rows whole : List LinkRow) (index : Option ℕ) (fault : LinkFault) → member < length (link_members file).members → ReturnsFileMember file member (Err fault)
    → StopsLink files ⊥ rows whole index fault
unknown_stops files file member rows whole index fault below says = limit_stops files ⊥ rows whole index fault (says below)

-- A SEARCH of an archive that is open
pub search_ends_as : (files : LinkFiles) (file : List ℕ) (old : Resolver) (archive : OpenedArchive) (before : List Bool) (rows : List LinkRow) (kept : Option LinkFault) (asked : Option ℕ) (r : Result (Unit {0}) LinkStop) → IsLink files old
    → archive_of_input old.tables.archives.items archive.input ≡ Some archive → files.file archive.input ≡ Some file → before ≡ old.taken.items
    → (HasMembers file old.tables.members.items archive → IsRangeOf archive.members.0 archive.members.1 (length before) → IsRangeOf archive.entries.0 archive.entries.1 (length old.tables.entries.items)
    → EndsSearch old.room.headers file archive.input old.link.rows.rows rows
    (archive_searched (archive_in archive file old.room.headers) (elements_in old.tables.entries.items archive.entries) (pass_of old.link (elements_in before archive.members))).rows kept asked r)
    → EndsSearch files.headers file archive.input old.link.rows.rows rows
    (archive_again (linking_of old) (open_archive old.tables.entries.items old.taken.items archive) (members_as_objects file (link_members file).members files.headers)).rows kept asked r
unfolding archive_again
search_ends_as files file old archive before rows kept asked r is found file_is before_is ends =
    let opened = found_opened files old.tables.members.items (length old.tables.entries.items) 0 old.tables.archives.items archive.input archive is.opened found in
    let has : HasMembers file old.tables.members.items archive = subst (λ f. HasMembers f old.tables.members.items archive) (file_of opened.file file (files.file archive.input) opened.file_is file_is) opened.has_members in
    let fits : IsRangeOf archive.members.0 archive.members.1 (length before) = (has.ordered, omega (arith, has.within, is.marked, ap length before_is)) in
    let es = elements_in old.tables.entries.items archive.entries in
    subst (λ b. EndsSearch files.headers file archive.input old.link.rows.rows rows (archive_searched (archive_in archive file files.headers) es (pass_of old.link (elements_in b archive.members))).rows kept asked r) before_is
    (subst (λ h. EndsSearch h file archive.input old.link.rows.rows rows (archive_searched (archive_in archive file h) es (pass_of old.link (elements_in before archive.members))).rows kept asked r) is.headers
    (ends has fits (opened.entries_ordered, opened.entries_within)))

pub ok_leaves : (files : LinkFiles) (file : List ℕ) (input : ℕ) (old new whole : List LinkRow) (kept : Option LinkFault) (asked : Option ℕ) (r : Result (Unit {0}) LinkStop) → r ≡ Ok tt → files.file input ≡ Some file → NoneRefused files old
    → EndsSearch files.headers file input old new whole kept asked r → NoneRefused files new
ok_leaves files file input old new whole kept asked (Ok done) is file_is none ends = added_none_refused files file input old new file_is ends none
ok_leaves files file input old new whole kept asked (Err stop) is file_is none ends = absurd cc

-- the fault that is kept, of a member whose row is the last one
same_fault : (kept : Option LinkFault) (fault other : LinkFault) → kept ≡ Some fault → kept ≡ Some other → other ≡ fault
same_fault kept fault other is is_other = let both : Some other ≡ Some fault = sym is_other ∙ is in cc

module _ (files : LinkFiles) (file : List ℕ) (input : ℕ) (old rows whole : List LinkRow) (kept : Option LinkFault) (asked : Option ℕ) (fault : LinkFault) (kept_is : kept ≡ Some fault)
    (held : StopsWith files.headers file input old rows whole kept asked) where
  kept_fault : IsLinkFault None fault ⊎ ((asked ≡ None) × StoppedAtMember (refusal_in (Some file) files.headers) (λ member. IsFaultOfMember files.headers file member fault) input (length (link_members file).members) old rows whole)
  kept_fault =
      subst (λ f. IsLinkFault None f ⊎ ((asked ≡ None) × StoppedAtMember (refusal_in (Some file) files.headers) (λ member. IsFaultOfMember files.headers file member f) input (length (link_members file).members) old rows whole))
      (same_fault kept fault held.0 kept_is held.1) held.2

  -- of a member that was asked for a definition it is of a limit
  pub asked_stops : (member : ℕ) (now : List LinkRow) (index : Option ℕ) → asked ≡ Some member → StopsLink files ⊥ now whole index fault
  asked_stops member now index is = by kept_fault where
    by : IsLinkFault None fault ⊎ ((asked ≡ None) × StoppedAtMember (refusal_in (Some file) files.headers) (λ m. IsFaultOfMember files.headers file m fault) input (length (link_members file).members) old rows whole) → StopsLink files ⊥ now whole index fault
    by (inl limit) = limit_stops files ⊥ now whole index fault limit
    by (inr at) = let both : Some member ≡ None = sym is ∙ at.0 in absurd cc

  pub taken_stops : (index : Option ℕ) → files.file input ≡ Some file → NoneRefused files old → ((before : List LinkRow) (row : LinkRow) → rows ≡ before ++ row ∷ [] → index ≡ Some (length before)) → StopsLink files ⊥ rows whole index fault
  taken_stops index file_is none last = by kept_fault where
    by : IsLinkFault None fault ⊎ ((asked ≡ None) × StoppedAtMember (refusal_in (Some file) files.headers) (λ m. IsFaultOfMember files.headers file m fault) input (length (link_members file).members) old rows whole) → StopsLink files ⊥ rows whole index fault
    by (inl limit) = limit_stops files ⊥ rows whole index fault limit
    by (inr at) = search_stops files file input old rows whole index fault file_is none at.1 last

-- the index of the last row
pub last_index : (before rows : List LinkRow) (row : LinkRow) (count : ℕ) (r : Option ℕ) → count ≡ length rows → SomeIff r (1 ≤ count) (count - 1) → rows ≡ before ++ row ∷ [] → r ≡ Some (length before)
last_index before rows row count None is none rows_are = absurd (none (omega (arith, is, ap length rows_are, length-append before (row ∷ []))))
last_index before rows row count (Some index) is some rows_are = ap (λ n. Some n) (omega (arith, is, some.1, ap length rows_are, length-append before (row ∷ [])))
