-- Members of an archive that a resolver takes, and an archive searched once more.
use Rattle.std.proofs.Common.{◌≡◌, ℕ, ◌+◌, ◌<◌, ◌≤◌, Bool, true, false, List, [], ◌∷◌, length, drop, get_or, add-one, drop-cons, refl, sym, ap, subst, ◌∙◌, arith}
use Rattle.std.specs.Prelude.{◌||◌, if◌then◌else◌, OnOk, Option, Some, Result, Ok, Err}
use Rattle.std.proofs.lemmas.List.{drop_all, length-map}
use Rattle.elf_archive.specs.Members.{extent_of_names}
use Rattle.elf_model.specs.Archive.{FileRange, bytes_in, is_name_table}
use Rattle.elf_model.specs.LinkArchives.{LinkFiles, LinkMember, is_archive_index, link_members, members_as_objects, no_member, or_empty, whole_members}
use Rattle.elf_model.specs.LinkInputs.{Linking, archive_again, members_taken}
use Rattle.elf_model.specs.LinkPasses.{archive_searched}
use Rattle.elf_model.specs.LinkSymbols.{object_of}
use Rattle.elf_resolve.specs.LinkMembers.{AreMembersOf, members_by_file}
use Rattle.elf_resolve.specs.OpenedArchives.{HasMembers, SameOutside, archive_in, archive_of_input}
use Rattle.elf_resolve.specs.Passing.{pass_of}
use Rattle.elf_resolve.specs.Ranges.{IsRangeOf}
use Rattle.elf_resolve.specs.Resolved.{elements_in, linking_of, open_archive}
use Rattle.elf_resolve.specs.ResolvedInputs.{IsLink, TookMembers}
use Rattle.elf_resolve.specs.Taken.{header_of}
use Rattle.elf_resolve.specs.declared.archives.ArchiveTables.{ArchiveTables}
use Rattle.elf_resolve.specs.declared.archives.OpenedArchive.{OpenedArchive}
use Rattle.elf_resolve.specs.declared.resolver.Resolver.{Resolver}
use Rattle.elf_resolve.proofs.ListRoomLaws.{limits_itself, limits_then, lists_itself, lists_then}
use Rattle.elf_resolve.proofs.OpenedLaws.{found_opened}
use Rattle.elf_resolve.proofs.ResolvedLaws.{members_searched}

-- members of an archive that is open
pub range_has : (file : List ℕ) (members all here : List ℕ) (archive : OpenedArchive) → all ≡ members → HasMembers file members archive
    → (IsRangeOf archive.members.0 archive.members.1 (length all) → here ≡ elements_in all archive.members) → AreMembersOf file here (extent_of_names archive.names)
range_has file members all here archive are has range =
    let same : here ≡ elements_in members archive.members =
    range (has.ordered, omega (arith, has.within, ap length are)) ∙ ap (λ m. elements_in m archive.members) are in
    record { unrefused = has.are.unrefused; offsets_are = same ∙ has.are.offsets_are; names_are = has.are.names_are }

pub members_of_file : (known : Option (List ℕ)) (file : List ℕ) (headers : ℕ) → known ≡ Some file → members_by_file known headers ≡ members_as_objects file (link_members file).members headers
members_of_file known file headers is = ap (λ k. members_by_file k headers) is

pub file_of : (one other : List ℕ) (known : Option (List ℕ)) → known ≡ Some one → known ≡ Some other → one ≡ other
file_of one other known is is_other = let both : Some one ≡ Some other = sym is ∙ is_other in cc

pub search_has : (files : LinkFiles) (file : List ℕ) (old : Resolver) (archive : OpenedArchive) → IsLink files old → archive_of_input old.tables.archives.items archive.input ≡ Some archive → files.file archive.input ≡ Some file
    → HasMembers file old.tables.members.items archive
search_has files file old archive is found file_is =
    let opened = found_opened files old.tables.members.items (length old.tables.entries.items) 0 old.tables.archives.items archive.input archive is.opened found in
    subst (λ f. HasMembers f old.tables.members.items archive) (file_of opened.file file (files.file archive.input) opened.file_is file_is) opened.has_members

pub search_makes : (files : LinkFiles) (file : List ℕ) (old new : Resolver) (archive : OpenedArchive) (before after : List Bool) → IsLink files old → archive_of_input old.tables.archives.items archive.input ≡ Some archive
    → files.file archive.input ≡ Some file → before ≡ old.taken.items → new.taken.items ≡ after → new.tables ≡ old.tables
    → (IsRangeOf archive.members.0 archive.members.1 (length before) → SameOutside before after archive.members)
    → (HasMembers file old.tables.members.items archive → IsRangeOf archive.members.0 archive.members.1 (length before) → IsRangeOf archive.entries.0 archive.entries.1 (length old.tables.entries.items)
    → pass_of new.link (elements_in after archive.members)
    ≡ archive_searched (archive_in archive file old.room.headers) (elements_in old.tables.entries.items archive.entries) (pass_of old.link (elements_in before archive.members)))
    → (linking_of new ≡ archive_again (linking_of old) (open_archive old.tables.entries.items old.taken.items archive) (members_as_objects file (link_members file).members files.headers))
    × (length new.taken.items ≡ length old.taken.items)
search_makes files file old new archive before after is found file_is before_is after_is tables outside searches =
    let opened = found_opened files old.tables.members.items (length old.tables.entries.items) 0 old.tables.archives.items archive.input archive is.opened found in
    let has : HasMembers file old.tables.members.items archive = subst (λ f. HasMembers f old.tables.members.items archive) (file_of opened.file file (files.file archive.input) opened.file_is file_is) opened.has_members in
    let fits : IsRangeOf archive.members.0 archive.members.1 (length before) = (has.ordered, omega (arith, has.within, is.marked, ap length before_is)) in
    let same : SameOutside old.taken.items new.taken.items archive.members =
    subst (λ t. SameOutside old.taken.items t archive.members) (sym after_is) (subst (λ b. SameOutside b after archive.members) before_is (outside fits)) in
    let es = elements_in old.tables.entries.items archive.entries in (
      members_searched files file old new archive is found tables same
          (ap (λ t. pass_of new.link (elements_in t archive.members)) after_is
          ∙ searches has fits (opened.entries_ordered, opened.entries_within) ∙ ap (λ h. archive_searched (archive_in archive file h) es (pass_of old.link (elements_in before archive.members))) is.headers
          ∙ ap (λ b. archive_searched (archive_in archive file files.headers) es (pass_of old.link (elements_in b archive.members))) before_is),
      same.count,
    )

pub on_ok_then : {T E : Type 0} → (P Q : Type 0) (r : Result T E) → (P → Q) → OnOk r P → OnOk r Q
on_ok_then P Q (Ok x) step holds = step holds
on_ok_then P Q (Err e) step holds = holds

-- what holds of an archive, for one that is the same
pub of_archive : {archive a : OpenedArchive} → (P Q : OpenedArchive → Type 0) → archive ≡ a → (P archive → Q archive) → P a → Q a
of_archive {archive} {a} P Q same step holds = subst Q same (step (subst P (sym same) holds))

pub on_ok : {T E : Type 0} → (P : Type 0) (r : Result T E) (x : T) → r ≡ Ok x → OnOk r P → P
on_ok P r x is holds = subst (λ q. OnOk q P) is holds

-- ALL MEMBERS ARE TAKEN, one after another
pub whole_step : (i r : ℕ) (link : Linking) (file : List ℕ) (n : ℕ) (m : LinkMember) (rest : List LinkMember) (headers : ℕ)
    → members_taken i r link (whole_members file n (m ∷ rest) headers) ≡ members_taken i r (members_taken i r link (whole_members file n (m ∷ []) headers)) (whole_members file (n + 1) rest headers)
whole_step i r link file n m rest headers = by (is_archive_index file m.header || is_name_table file m.header) where
  by : (no_file : Bool) → members_taken i r link (if no_file then whole_members file (n + 1) rest headers else (n, or_empty (object_of (bytes_in file m.extent) headers)) ∷ whole_members file (n + 1) rest headers)
      ≡ members_taken i r (members_taken i r link (if no_file then [] else (n, or_empty (object_of (bytes_in file m.extent) headers)) ∷ [])) (whole_members file (n + 1) rest headers)
  by true = refl
  by false = refl

took_then : (a b c : Resolver) (made : Linking) → TookMembers a b (linking_of b) → TookMembers b c made → TookMembers a c made
took_then a b c made first second = record {
  makes = second.makes;
  headers = second.headers ∙ first.headers;
  libraries = second.libraries ∙ first.libraries;
  tables = second.tables ∙ first.tables;
  states = second.states ∙ first.states;
  groups = second.groups ∙ first.groups;
  count = second.count ∙ first.count;
  lists = lists_then a b c first.lists second.lists;
  limits = limits_then a.link.keys b.link.keys c.link.keys first.limits second.limits;
}

took_as : (a b : Resolver) (made other : Linking) → made ≡ other → TookMembers a b made → TookMembers a b other
took_as a b made other same took = subst (λ l. TookMembers a b l) same took

pub took_itself : (a : Resolver) → TookMembers a a (linking_of a)
took_itself a = record { makes = refl; headers = refl; libraries = refl; tables = refl; states = refl; groups = refl; count = refl; lists = lists_itself a; limits = limits_itself a.link.keys }

pub whole_more : (file : List ℕ) (start now new : Resolver) (i r number : ℕ) (whole : Linking) → TookMembers start now (linking_of now)
    → members_taken i r (linking_of now) (whole_members file number (drop number (link_members file).members) start.room.headers) ≡ whole → number < length (link_members file).members
    → TookMembers now new (members_taken i r (linking_of now) (whole_members file number (get_or (link_members file).members number no_member ∷ []) now.room.headers))
    → TookMembers start new (linking_of new) × (members_taken i r (linking_of new) (whole_members file (number + 1) (drop (number + 1) (link_members file).members) start.room.headers) ≡ whole)
whole_more file start now new i r number whole first so_far below took =
    let ms = (link_members file).members in
    let m = get_or ms number no_member in
    let next : drop number ms ≡ m ∷ drop (number + 1) ms = drop-cons ms number no_member below ∙ ap (λ n. m ∷ drop n ms) (sym (add-one number)) in
    let made : linking_of new ≡ members_taken i r (linking_of now) (whole_members file number (m ∷ []) start.room.headers) =
    took.makes ∙ ap (λ h. members_taken i r (linking_of now) (whole_members file number (m ∷ []) h)) first.headers in (
      took_then start now new (linking_of new) first (took_as now new _ (linking_of new) (sym took.makes) took),
      ap (λ l. members_taken i r l (whole_members file (number + 1) (drop (number + 1) ms) start.room.headers)) made
          ∙ sym (whole_step i r (linking_of now) file number m (drop (number + 1) ms) start.room.headers)
          ∙ ap (λ l. members_taken i r (linking_of now) (whole_members file number l start.room.headers)) (sym next)
          ∙ so_far,
    )

pub whole_end : (file : List ℕ) (start now : Resolver) (i r number : ℕ) (whole : Linking) → TookMembers start now (linking_of now)
    → members_taken i r (linking_of now) (whole_members file number (drop number (link_members file).members) start.room.headers) ≡ whole → length (link_members file).members ≤ number
    → TookMembers start now whole
whole_end file start now i r number whole first so_far above =
    let none : drop number (link_members file).members ≡ [] = drop_all number (link_members file).members above in
    took_as start now (linking_of now) whole (sym (ap (λ l. members_taken i r (linking_of now) (whole_members file number l start.room.headers)) none) ∙ so_far) first

pub members_count : (file : List ℕ) (offsets : List ℕ) (names : Option FileRange) → AreMembersOf file offsets names → length (link_members file).members ≡ length offsets
members_count file offsets names are = sym (ap length are.offsets_are ∙ length-map (link_members file).members header_of)

pub still_has : (file : List ℕ) (start now : Resolver) (archive : OpenedArchive) (made : Linking) → TookMembers start now made → HasMembers file start.tables.members.items archive → HasMembers file now.tables.members.items archive
still_has file start now archive made took has = subst (λ (t : ArchiveTables). HasMembers file t.members.items archive) (sym took.tables) has

pub on_ok_from : {T E : Type 0} → (P : Type 0) (r : Result T E) → P → OnOk r P
on_ok_from P (Ok x) holds = holds
on_ok_from P (Err e) holds = tt
