-- A link as a resolver has it: what reading a file and taking its members make of it.
use Rattle.std.proofs.Common.{◌≡◌, ℕ, ◌-◌, ◌≤◌, Bool, true, false, List, [], ◌∷◌, ◌++◌, length, length-append, map, take, drop, set, refl, sym, ap, subst, ◌∙◌, arith}
use Rattle.std.specs.Prelude.{Option, None, Some, replicate}
use Rattle.std.specs.List.{slice_get}
use Rattle.std.proofs.lemmas.List.{append-nil, length-map, length-replicate, map-append}
use Rattle.std.proofs.Math.Seq.{drop-append_seam, take-append_seam}
use Rattle.elf_archive.specs.Members.{extent_of_names}
use Rattle.elf_archive.specs.declared.member.FileRange.{FileRange as Place}
use Rattle.elf_model.specs.LinkArchives.{LinkFiles, files_as_inputs, link_members, members_as_objects, whole_members}
use Rattle.elf_model.specs.LinkInputs.{OpenArchive, archive_again, archive_opened, file_row, index_entered, input_taken, members_taken, with_row, with_taken}
use Rattle.elf_model.specs.LinkKeys.{LinkKeys}
use Rattle.elf_model.specs.LinkPasses.{ArchivePass, archive_searched}
use Rattle.elf_model.specs.declared.link_states.IndexEntry.{IndexEntry}
use Rattle.elf_model.specs.declared.link_states.LinkRow.{LinkRow}
use Rattle.elf_model.specs.declared.link_states.LinkRowKind.TheVariants.{Archive}
use Rattle.elf_resolve.specs.EntryRows.{AreConsecutive}
use Rattle.elf_resolve.specs.KeptLimits.{KeepsLimits}
use Rattle.elf_resolve.specs.LinkPlaces.{is_new_state}
use Rattle.elf_resolve.specs.ListRooms.{HasListRoom, KeepsLists, KeepsWithin}
use Rattle.elf_resolve.specs.OpenedArchives.{AreDistinctArchives, AreOpened, HasMembers, IsOpenedArchive, IsInputState, SameOutside, archive_in, archive_of_input}
use Rattle.elf_resolve.specs.Passing.{pass_of}
use Rattle.elf_resolve.specs.Resolved.{elements_in, linking_of, open_archive}
use Rattle.elf_resolve.specs.ResolvedInputs.{AddedRowOf, EntersIndex, IsArchiveAt, IsLink, KeepsArchives, KeptArchive, OpenedAs, TookInput, TookMembers}
use Rattle.elf_resolve.specs.Taken.{ReadIndex, WalkedMembers, header_of}
use Rattle.elf_resolve.specs.declared.archives.ArchiveTables.{ArchiveTables}
use Rattle.elf_resolve.specs.declared.archives.OpenedArchive.{OpenedArchive}
use Rattle.elf_resolve.specs.declared.resolver.InputState.{InputState}
use Rattle.elf_resolve.specs.declared.resolver.InputState.TheVariants as state
use Rattle.elf_resolve.specs.declared.resolver.Resolver.{Resolver}
use Rattle.elf_source.specs.Source.{SourceState}
use Rattle.elf_resolve.proofs.ListRoomLaws.{consecutive_push, limits_same, limits_then, lists_then, room_by, room_still}
use Rattle.elf_resolve.proofs.OpenedLaws.{all_more, all_push, distinct_push, elements_more, found_new, one_taken}
-- a link by its parts
use Rattle.elf_resolve.proofs.InputLaws.{set_here, set_there, kept_state, input_searched, input_whole}

pub linking_by : (r : Resolver) (keys : LinkKeys) (rows : List LinkRow) (archives : List OpenArchive) → r.link.keys.keys ≡ keys → r.link.rows.rows ≡ rows
    → map (open_archive r.tables.entries.items r.taken.items) r.tables.archives.items ≡ archives → linking_of r ≡ record { keys = keys; rows = rows; archives = archives }
linking_by r keys rows archives keys_are rows_are archives_are = cc

-- what holds of a link still does, if its tables and states are the same
pub link_still : (files : LinkFiles) (old new : Resolver) → IsLink files old → new.room.headers ≡ old.room.headers → new.libraries ≡ old.libraries → new.states.items ≡ old.states.items → new.tables ≡ old.tables
    → length new.taken.items ≡ length old.taken.items → KeepsLists old new → KeepsLimits old.link.keys new.link.keys → IsLink files new
link_still files old new is headers libraries states tables count lists limits = record {
  headers = headers ∙ is.headers;
  no_libraries = subst (λ l. l.libraries.items ≡ []) (sym libraries) is.no_libraries;
  marked = count ∙ is.marked ∙ ap (λ (t : ArchiveTables). length t.members.items) (sym tables);
  opened = subst (λ (t : ArchiveTables). AreOpened files t.members.items (length t.entries.items) 0 t.archives.items) (sym tables) is.opened;
  distinct = subst (λ (t : ArchiveTables). AreDistinctArchives t.archives.items) (sym tables) is.distinct;
  states = λ input.
      subst (λ (t : ArchiveTables). IsInputState (slice_get new.states.items input) t.archives.items input) (sym tables)
      (subst (λ (s : List InputState). IsInputState (slice_get s input) old.tables.archives.items input) (sym states) (is.states input));
  lists = room_still old new is.lists lists limits tables;
}

-- AN ARCHIVE IS SEARCHED
pub members_searched : (files : LinkFiles) (file : List ℕ) (old new : Resolver) (archive : OpenedArchive) → IsLink files old → archive_of_input old.tables.archives.items archive.input ≡ Some archive → new.tables ≡ old.tables
    → SameOutside old.taken.items new.taken.items archive.members
    → pass_of new.link (elements_in new.taken.items archive.members)
    ≡ archive_searched (archive_in archive file files.headers) (elements_in old.tables.entries.items archive.entries) (pass_of old.link (elements_in old.taken.items archive.members))
    → linking_of new ≡ archive_again (linking_of old) (open_archive old.tables.entries.items old.taken.items archive) (members_as_objects file (link_members file).members files.headers)
unfolding archive_again
members_searched files file old new archive is found tables same pass_is =
    let es = old.tables.entries.items in
    let pass = archive_searched (archive_in archive file files.headers) (elements_in es archive.entries) (pass_of old.link (elements_in old.taken.items archive.members)) in
    let marks : elements_in new.taken.items archive.members ≡ pass.taken = ap (λ (p : ArchivePass). p.taken) pass_is in
    let one = one_taken es files old.tables.members.items (length es) 0 old.tables.archives.items archive.input archive old.taken.items new.taken.items pass.taken is.opened is.distinct found same marks in
    linking_by new pass.keys pass.rows (with_taken (linking_of old).archives archive.input pass.taken) (ap (λ (p : ArchivePass). p.keys) pass_is) (ap (λ (p : ArchivePass). p.rows) pass_is)
    (ap (λ (t : ArchiveTables). map (open_archive t.entries.items new.taken.items) t.archives.items) tables ∙ one)

-- archives of longer lists
maps_more : (files : LinkFiles) (members : List ℕ) (es more : List IndexEntry) (taken marks : List Bool) (from : ℕ) (archives : List OpenedArchive) → length taken ≡ length members → AreOpened files members (length es) from archives
    → map (open_archive (es ++ more) (taken ++ marks)) archives ≡ map (open_archive es taken) archives
maps_more files members es more taken marks from [] count are = refl
maps_more files members es more taken marks from (a ∷ archives) count are =
    let entries : elements_in (es ++ more) a.entries ≡ elements_in es a.entries = elements_more es more a.entries are.0.entries_ordered are.0.entries_within in
    let mine : elements_in (taken ++ marks) a.members ≡ elements_in taken a.members = elements_more taken marks a.members are.0.has_members.ordered (omega (arith, are.0.has_members.within, count)) in
    let head : open_archive (es ++ more) (taken ++ marks) a ≡ open_archive es taken a = cc in
    ap (λ x. x ∷ map (open_archive (es ++ more) (taken ++ marks)) archives) head ∙ ap (λ l. open_archive es taken a ∷ l) (maps_more files members es more taken marks a.members.1 archives count are.1)

-- the last elements of a list
elements_last : {A : Type 0} → (xs ys : List A) (range : ℕ × ℕ) → range.0 ≡ length xs → range.1 ≡ length (xs ++ ys) → elements_in (xs ++ ys) range ≡ ys
elements_last xs ys range start end =
    let sum : range.1 - range.0 ≡ length ys = omega (arith, start, end, length-append xs ys) in
    ap (λ n. take n (drop range.0 (xs ++ ys))) sum ∙ ap (λ n. take (length ys) (drop n (xs ++ ys))) start ∙ ap (λ l. take (length ys) l) (drop-append_seam xs ys)
    ∙ ap (λ l. take (length ys) l) (sym (append-nil ys)) ∙ take-append_seam ys []

-- AN ARCHIVE IS READ
enters_from : (is_whole : Bool) (file : List ℕ) (old from new : Resolver) → from.link.keys ≡ old.link.keys → from.tables.entries ≡ old.tables.entries → EntersIndex is_whole file from new → EntersIndex is_whole file old new
enters_from true file old from new keys entries is = (is.0 ∙ keys, is.1 ∙ entries)
enters_from false file old from new keys entries is =
    subst (λ k. ReadIndex file k new.link.keys old.tables.entries.items new.tables.entries.items) keys (subst (λ e. ReadIndex file from.link.keys new.link.keys e.items new.tables.entries.items) entries is)

marked_lists : (r0 r1 r3 : Resolver) (walked : ArchiveTables) → KeepsLists r0 r1 → r3 ≡ record r1 { tables = walked; taken = r3.taken } → KeepsLists r0 r3
marked_lists r0 r1 r3 walked kept same = record {
  offers = ap (λ (r : Resolver). r.offers) same ∙ kept.offers;
  further = ap (λ (r : Resolver). r.further) same ∙ kept.further;
  spare = ap (λ (r : Resolver). r.spare) same ∙ kept.spare;
  kinds = ap (λ (r : Resolver). r.kinds) same ∙ kept.kinds;
  problems = ap (λ (r : Resolver). r.problems) same ∙ kept.problems;
  most_rows = ap (λ (r : Resolver). r.link.rows.most) same ∙ kept.most_rows;
}

within_from : (first from : ArchiveTables) (last : ArchiveTables) → from.most ≡ first.most → from.entries ≡ first.entries → KeepsWithin from last → KeepsWithin first last
within_from first from last most entries kept = record { most = kept.most ∙ most; within = λ fits. kept.within (omega (arith, fits, most, ap (λ v. length v.items) entries)) }

pub archive_read : (file : List ℕ) (is_whole : Bool) (input row : ℕ) (r0 r1 r3 r4 : Resolver) (walked : ArchiveTables) (first entries count last : ℕ) (names : Option Place) → AddedRowOf r0 r1 (file_row Archive input) row
    → WalkedMembers file r1.tables.members.items walked.members.items (extent_of_names names) → walked.archives ≡ r1.tables.archives → walked.entries ≡ r1.tables.entries → walked.most ≡ r1.tables.most
    → r3 ≡ record r1 { tables = walked; taken = r3.taken } → r3.taken.items ≡ r1.taken.items ++ replicate (count - first) false
    → first ≡ length r1.tables.members.items → entries ≡ length r1.tables.entries.items → count ≡ length walked.members.items → last ≡ length r4.tables.entries.items
    → KeepsArchives r3 r4 → EntersIndex is_whole file r3 r4
    → OpenedAs file is_whole input r0 r4 (record { input = input; row = row; members = (first, count); entries = (entries, last); names = names })
archive_read file is_whole input row r0 r1 r3 r4 walked first entries count last names added walk archives_same entries_same most_same same marks first_is entries_is count_is last_is keeps enters =
    let members : r4.tables.members.items ≡ walked.members.items = ap (λ v. v.items) keeps.members ∙ ap (λ (r : Resolver). r.tables.members.items) same in
    let members_are : r4.tables.members.items ≡ r0.tables.members.items ++ map header_of (link_members file).members =
    members ∙ walk.members ∙ ap (λ (t : ArchiveTables). t.members.items ++ map header_of (link_members file).members) added.tables in
    let number : count - first ≡ length (link_members file).members =
    omega (arith, first_is, count_is, ap length walk.members, length-append r1.tables.members.items (map header_of (link_members file).members), length-map (link_members file).members header_of) in
    let row_is : row ≡ length r0.link.rows.rows = added.added.index_is in
    let first_now : first ≡ length r0.tables.members.items = first_is ∙ ap (λ (t : ArchiveTables). length t.members.items) added.tables in
    let count_now : count ≡ length r4.tables.members.items = count_is ∙ ap length (sym members) in
    let entries_now : entries ≡ length r0.tables.entries.items = entries_is ∙ ap (λ (t : ArchiveTables). length t.entries.items) added.tables in
    record {
      steps = record {
        headers = keeps.steps.headers ∙ ap (λ (r : Resolver). r.room.headers) same ∙ added.steps.headers;
        libraries = keeps.steps.libraries ∙ ap (λ (r : Resolver). r.libraries) same ∙ added.steps.libraries;
        states = keeps.steps.states ∙ ap (λ (r : Resolver). r.states) same ∙ added.steps.states;
        groups = keeps.steps.groups ∙ ap (λ (r : Resolver). r.groups) same ∙ added.steps.groups;
        lists = lists_then r0 r3 r4 (marked_lists r0 r1 r3 walked added.steps.lists same) keeps.steps.lists;
      };
      rows = ap (λ r. r.rows) keeps.rows ∙ ap (λ (r : Resolver). r.link.rows.rows) same ∙ added.added.rows;
      none_refused = walk.whole;
      members = members_are;
      archives = keeps.archives ∙ ap (λ (r : Resolver). r.tables.archives) same ∙ archives_same ∙ ap (λ (t : ArchiveTables). t.archives) added.tables;
      marks = ap (λ v. v.items) keeps.taken ∙ marks ∙ ap (λ v. v.items ++ replicate (count - first) false) added.taken ∙ ap (λ n. r0.taken.items ++ replicate n false) number;
      index = enters_from is_whole file r0 r3 r4 (ap (λ (r : Resolver). r.link.keys) same ∙ added.keys)
          (ap (λ (r : Resolver). r.tables.entries) same ∙ entries_same ∙ ap (λ (t : ArchiveTables). t.entries) added.tables) enters;
      within = within_from r0.tables r3.tables r4.tables (ap (λ (r : Resolver). r.tables.most) same ∙ most_same ∙ ap (λ (t : ArchiveTables). t.most) added.tables)
          (ap (λ (r : Resolver). r.tables.entries) same ∙ entries_same ∙ ap (λ (t : ArchiveTables). t.entries) added.tables) keeps.within;
      archive_is = cc;
      names = walk.names_are;
    }

-- A WHOLE ARCHIVE
pub opened_rows : (files : LinkFiles) (file : List ℕ) (input : ℕ) (old new : Resolver) (archive : OpenedArchive) → IsLink files old → OpenedAs file true input old new archive → linking_of new ≡ with_row (linking_of old) (file_row Archive input)
opened_rows files file input old new archive is opened =
    let entries : new.tables.entries.items ≡ old.tables.entries.items ++ [] = ap (λ v. v.items) opened.index.1 ∙ sym (append-nil old.tables.entries.items) in
    let archives = maps_more files old.tables.members.items old.tables.entries.items [] old.taken.items (replicate (length (link_members file).members) false) 0 old.tables.archives.items is.marked is.opened in
    let here : map (open_archive new.tables.entries.items new.taken.items) new.tables.archives.items ≡ map (open_archive (old.tables.entries.items ++ []) (old.taken.items ++ replicate (length (link_members file).members) false)) old.tables.archives.items =
    ap (λ e. map (open_archive e new.taken.items) new.tables.archives.items) entries
    ∙ ap (λ t. map (open_archive (old.tables.entries.items ++ []) t) new.tables.archives.items) opened.marks
    ∙ ap (λ v. map (open_archive (old.tables.entries.items ++ []) (old.taken.items ++ replicate (length (link_members file).members) false)) v.items) opened.archives in
    linking_by new (linking_of old).keys ((linking_of old).rows ++ file_row Archive input ∷ []) (linking_of old).archives (ap (λ k. k.keys) opened.index.0) opened.rows (here ∙ archives)

-- marks are as many as members
opened_count : (files : LinkFiles) (file : List ℕ) (is_whole : Bool) (input : ℕ) (old new : Resolver) (archive : OpenedArchive) → IsLink files old → OpenedAs file is_whole input old new archive → length new.taken.items ≡ length new.tables.members.items
opened_count files file is_whole input old new archive is opened =
    omega (
      arith,
      ap length opened.marks,
      ap length opened.members,
      is.marked,
      length-append old.taken.items (replicate (length (link_members file).members) false),
      length-append old.tables.members.items (map header_of (link_members file).members),
      length-map (link_members file).members header_of,
      length-replicate (length (link_members file).members) false,
    )

whole_link : (files : LinkFiles) (file : List ℕ) (input : ℕ) (old new : Resolver) (archive : OpenedArchive) → IsLink files old → OpenedAs file true input old new archive → IsLink files new
whole_link files file input old new archive is opened =
    let entries : length old.tables.entries.items ≤ length new.tables.entries.items = omega (arith, ap (λ v. length v.items) opened.index.1) in
    record {
      headers = opened.steps.headers ∙ is.headers;
      no_libraries = subst (λ l. l.libraries.items ≡ []) (sym opened.steps.libraries) is.no_libraries;
      marked = opened_count files file true input old new archive is opened;
      opened = subst (λ v. AreOpened files new.tables.members.items (length new.tables.entries.items) 0 v.items) (sym opened.archives)
          (subst (λ m. AreOpened files m (length new.tables.entries.items) 0 old.tables.archives.items) (sym opened.members)
          (all_more files old.tables.members.items (map header_of (link_members file).members) (length old.tables.entries.items) (length new.tables.entries.items) 0 old.tables.archives.items entries is.opened));
      distinct = subst (λ v. AreDistinctArchives v.items) (sym opened.archives) is.distinct;
      states = λ i.
          subst (λ v. IsInputState (slice_get new.states.items i) v.items i) (sym opened.archives)
          (subst (λ s. IsInputState (slice_get s.items i) old.tables.archives.items i) (sym opened.steps.states) (is.states i));
      lists = room_by old new is.lists opened.steps.lists (limits_same old.link.keys new.link.keys opened.index.0) opened.within
          (subst (λ v. AreConsecutive 0 v.items (length new.tables.entries.items)) (sym opened.archives)
          (subst (λ v. AreConsecutive 0 old.tables.archives.items (length v.items)) (sym opened.index.1) is.lists.consecutive));
    }

-- the archive that was read has the members of its file
pub opened_members : (file : List ℕ) (is_whole : Bool) (input : ℕ) (old new : Resolver) (archive : OpenedArchive) → OpenedAs file is_whole input old new archive → HasMembers file new.tables.members.items archive
opened_members file is_whole input old new archive opened =
    let start : archive.members.0 ≡ length old.tables.members.items = ap (λ (a : OpenedArchive). a.members.0) opened.archive_is in
    let end : archive.members.1 ≡ length new.tables.members.items = ap (λ (a : OpenedArchive). a.members.1) opened.archive_is in
    let counts = length-append old.tables.members.items (map header_of (link_members file).members) in
    record {
      ordered = omega (arith, start, end, counts, ap length opened.members);
      within = omega (arith, end);
      are = record {
        unrefused = opened.none_refused;
        offsets_are = ap (λ m. elements_in m archive.members) opened.members
            ∙ elements_last old.tables.members.items (map header_of (link_members file).members) archive.members start (end ∙ ap length opened.members);
        names_are = opened.names;
      };
    }

pub whole_taken : (files : LinkFiles) (file : List ℕ) (seen : SourceState) (input : ℕ) (old opened_link new : Resolver) (archive : OpenedArchive) → IsLink files old → IsArchiveAt files file old seen true input
    → OpenedAs file true input old opened_link archive
    → TookMembers opened_link new (members_taken archive.input archive.row (linking_of opened_link) (whole_members file 0 (link_members file).members opened_link.room.headers))
    → TookInput files old new input (input_taken (linking_of old) input (files_as_inputs files input))
unfolding input_taken
whole_taken files file seen input old opened_link new archive is at opened took =
    let file_is = input_whole files input file at.archive at.whole at.file_is opened.none_refused in
    let headers : opened_link.room.headers ≡ files.headers = opened.steps.headers ∙ is.headers in
    let states : new.states.items ≡ old.states.items = ap (λ v. v.items) (took.states ∙ opened.steps.states) in
    let of_row : members_taken archive.input archive.row (linking_of opened_link) (whole_members file 0 (link_members file).members opened_link.room.headers)
    ≡ members_taken input (length old.link.rows.rows) (with_row (linking_of old) (file_row Archive input)) (whole_members file 0 (link_members file).members files.headers) =
    ap (λ h. members_taken archive.input archive.row (linking_of opened_link) (whole_members file 0 (link_members file).members h)) headers
    ∙ ap (λ l. members_taken archive.input archive.row l (whole_members file 0 (link_members file).members files.headers)) (opened_rows files file input old opened_link archive is opened)
    ∙ ap (λ (a : OpenedArchive). members_taken a.input a.row (with_row (linking_of old) (file_row Archive input)) (whole_members file 0 (link_members file).members files.headers)) opened.archive_is in
    record {
      makes = took.makes ∙ of_row ∙ ap (λ f. input_taken (linking_of old) input f) (sym file_is);
      is_link = link_still files opened_link new (whole_link files file input old opened_link archive is opened) took.headers took.libraries (ap (λ v. v.items) took.states) took.tables took.count took.lists took.limits;
      groups = took.groups ∙ opened.steps.groups;
      reached = ap (λ s. is_new_state (slice_get s input)) states ∙ ap is_new_state at.state_is;
      others = λ j differ. ap (λ s. is_new_state (slice_get s j)) states;
    }

-- A SEARCHED ARCHIVE
kept_room : (file : List ℕ) (input : ℕ) (old opened_link new : Resolver) (archive : OpenedArchive) → HasListRoom old → OpenedAs file false input old opened_link archive → KeptArchive opened_link new archive → HasListRoom new
kept_room file input old opened_link new archive room opened kept =
    let archives : new.tables.archives.items ≡ old.tables.archives.items ++ archive ∷ [] = kept.archives ∙ ap (λ v. v.items ++ archive ∷ []) opened.archives in
    let made = (index_entered (record { keys = old.link.keys.keys; entries = [] }) opened.index.symbols).entries in
    let count : length new.tables.entries.items ≡ archive.entries.1 = ap (λ v. length v.items) kept.entries ∙ sym (ap (λ (a : OpenedArchive). a.entries.1) opened.archive_is) in
    let start : archive.entries.0 ≡ length old.tables.entries.items = ap (λ (a : OpenedArchive). a.entries.0) opened.archive_is in
    let more : length old.tables.entries.items ≤ archive.entries.1 = omega (arith, sym count, ap (λ v. length v.items) kept.entries, ap length opened.index.entries, length-append old.tables.entries.items made) in
    let limits : KeepsLimits old.link.keys opened_link.link.keys = record { most = opened.index.most; most_further = opened.index.most_further } in
    room_by old new room (lists_then old opened_link new opened.steps.lists kept.lists) (limits_then old.link.keys opened_link.link.keys new.link.keys limits (limits_same opened_link.link.keys new.link.keys (ap (λ l. l.keys) kept.link)))
    (record { most = kept.most ∙ opened.within.most; within = λ fits. omega (arith, opened.within.within fits, kept.most, ap (λ v. length v.items) kept.entries) })
    (subst (λ n. AreConsecutive 0 new.tables.archives.items n) (sym count)
    (subst (λ a. AreConsecutive 0 a archive.entries.1) (sym archives) (consecutive_push 0 (length old.tables.entries.items) old.tables.archives.items archive room.consecutive start more)))

kept_link : (files : LinkFiles) (file : List ℕ) (seen : SourceState) (input : ℕ) (old opened_link new : Resolver) (archive : OpenedArchive) → IsLink files old → IsArchiveAt files file old seen false input
    → OpenedAs file false input old opened_link archive → KeptArchive opened_link new archive → archive_of_input old.tables.archives.items input ≡ None → IsLink files new
kept_link files file seen input old opened_link new archive is at opened kept none =
    let input_is : archive.input ≡ input = ap (λ (a : OpenedArchive). a.input) opened.archive_is in
    let archives : new.tables.archives.items ≡ old.tables.archives.items ++ archive ∷ [] = kept.archives ∙ ap (λ v. v.items ++ archive ∷ []) opened.archives in
    let members : new.tables.members.items ≡ old.tables.members.items ++ map header_of (link_members file).members = ap (λ v. v.items) kept.members ∙ opened.members in
    let entries : new.tables.entries.items ≡ old.tables.entries.items ++ (index_entered (record { keys = old.link.keys.keys; entries = [] }) opened.index.symbols).entries = ap (λ v. v.items) kept.entries ∙ opened.index.entries in
    let more : length old.tables.entries.items ≤ length new.tables.entries.items =
    omega (arith, ap length entries, length-append old.tables.entries.items (index_entered (record { keys = old.link.keys.keys; entries = [] }) opened.index.symbols).entries) in
    let has = opened_members file false input old opened_link archive opened in
    let absent : archive_of_input old.tables.archives.items archive.input ≡ None = ap (λ i. archive_of_input old.tables.archives.items i) input_is ∙ none in
    let has_now : HasMembers file (old.tables.members.items ++ map header_of (link_members file).members) archive = subst (λ m. HasMembers file m archive) opened.members has in
    let is_opened : IsOpenedArchive files (old.tables.members.items ++ map header_of (link_members file).members) (length new.tables.entries.items) (length old.tables.members.items) archive = record {
      file = file;
      count = length (link_members file).members;
      symbols = opened.index.symbols;
      file_is = ap files.file input_is ∙ at.file_is;
      input_is = ap (λ i. files_as_inputs files i) input_is ∙ input_searched files input file opened.index.symbols at.archive at.whole at.file_is opened.none_refused opened.index.are;
      has_members = has_now;
      starts = omega (arith, ap (λ (a : OpenedArchive). a.members.0) opened.archive_is);
      entries_ordered = omega (arith, more, ap (λ (a : OpenedArchive). a.entries.0) opened.archive_is, ap (λ (a : OpenedArchive). a.entries.1) opened.archive_is, ap (λ v. length v.items) kept.entries);
      entries_within = omega (arith, ap (λ (a : OpenedArchive). a.entries.1) opened.archive_is, ap (λ v. length v.items) kept.entries);
    } in
    record {
      headers = kept.headers ∙ opened.steps.headers ∙ is.headers;
      no_libraries = subst (λ l. l.libraries.items ≡ []) (sym (kept.libraries ∙ opened.steps.libraries)) is.no_libraries;
      marked = ap (λ v. length v.items) kept.taken ∙ opened_count files file false input old opened_link archive is opened ∙ ap (λ v. length v.items) (sym kept.members);
      opened = subst (λ a. AreOpened files new.tables.members.items (length new.tables.entries.items) 0 a) (sym archives)
          (subst (λ m. AreOpened files m (length new.tables.entries.items) 0 (old.tables.archives.items ++ archive ∷ [])) (sym members)
          (all_push files old.tables.members.items (map header_of (link_members file).members) (length old.tables.entries.items) (length new.tables.entries.items) 0 old.tables.archives.items archive more is.opened is_opened));
      distinct = subst AreDistinctArchives (sym archives) (distinct_push old.tables.archives.items archive is.distinct absent);
      states = λ i.
          subst (λ a. IsInputState (slice_get new.states.items i) a i) (sym archives)
          (kept_state old.states.items new.states.items old.tables.archives.items archive input i input_is at.state_is
          (kept.states ∙ ap (λ s. set s archive.input (state.Archive (length opened_link.tables.archives.items))) (ap (λ v. v.items) opened.steps.states)
          ∙ ap (λ n. set old.states.items archive.input (state.Archive n)) (ap (λ v. length v.items) opened.archives)) absent (is.states i));
      lists = kept_room file input old opened_link new archive is.lists opened kept;
    }

-- the archive and the link when it is searched first
pub first_archive : (files : LinkFiles) (file : List ℕ) (input : ℕ) (old opened_link new : Resolver) (archive : OpenedArchive) → IsLink files old → (opened : OpenedAs file false input old opened_link archive) → KeptArchive opened_link new archive
    → open_archive new.tables.entries.items new.taken.items archive ≡ record {
      input = input;
      row = length old.link.rows.rows;
      entries = (index_entered (record { keys = old.link.keys.keys; entries = [] }) opened.index.symbols).entries;
      taken = replicate (length (link_members file).members) false;
    }
first_archive files file input old opened_link new archive is opened kept =
    let marks = replicate (length (link_members file).members) false in
    let made = (index_entered (record { keys = old.link.keys.keys; entries = [] }) opened.index.symbols).entries in
    let taken : new.taken.items ≡ old.taken.items ++ marks = ap (λ v. v.items) kept.taken ∙ opened.marks in
    let entries : new.tables.entries.items ≡ old.tables.entries.items ++ made = ap (λ v. v.items) kept.entries ∙ opened.index.entries in
    let count = opened_count files file false input old opened_link archive is opened in
    let entries_are : elements_in new.tables.entries.items archive.entries ≡ made =
    ap (λ e. elements_in e archive.entries) entries
    ∙ elements_last old.tables.entries.items made archive.entries (ap (λ (a : OpenedArchive). a.entries.0) opened.archive_is) (ap (λ (a : OpenedArchive). a.entries.1) opened.archive_is ∙ ap length opened.index.entries) in
    let taken_are : elements_in new.taken.items archive.members ≡ marks =
    ap (λ t. elements_in t archive.members) taken
    ∙ elements_last old.taken.items marks archive.members (ap (λ (a : OpenedArchive). a.members.0) opened.archive_is ∙ sym is.marked)
    (ap (λ (a : OpenedArchive). a.members.1) opened.archive_is ∙ sym count ∙ ap length opened.marks) in
    let input_is : archive.input ≡ input = ap (λ (a : OpenedArchive). a.input) opened.archive_is in
    let row_is : archive.row ≡ length old.link.rows.rows = ap (λ (a : OpenedArchive). a.row) opened.archive_is in
    cc

pub first_link : (files : LinkFiles) (file : List ℕ) (input : ℕ) (old opened_link new : Resolver) (archive : OpenedArchive) → IsLink files old → (opened : OpenedAs file false input old opened_link archive) → KeptArchive opened_link new archive
    → (let entered = index_entered (record { keys = old.link.keys.keys; entries = [] }) opened.index.symbols in
    linking_of new ≡ record {
      keys = entered.keys;
      rows = old.link.rows.rows ++ file_row Archive input ∷ [];
      archives = (linking_of old).archives ++ record { input = input; row = length old.link.rows.rows; entries = entered.entries; taken = replicate (length (link_members file).members) false } ∷ [];
    })
first_link files file input old opened_link new archive is opened kept =
    let entered = index_entered (record { keys = old.link.keys.keys; entries = [] }) opened.index.symbols in
    let marks = replicate (length (link_members file).members) false in
    let first : OpenArchive = record { input = input; row = length old.link.rows.rows; entries = entered.entries; taken = marks } in
    let taken : new.taken.items ≡ old.taken.items ++ marks = ap (λ v. v.items) kept.taken ∙ opened.marks in
    let entries : new.tables.entries.items ≡ old.tables.entries.items ++ entered.entries = ap (λ v. v.items) kept.entries ∙ opened.index.entries in
    let archives : new.tables.archives.items ≡ old.tables.archives.items ++ archive ∷ [] = kept.archives ∙ ap (λ v. v.items ++ archive ∷ []) opened.archives in
    let others : map (open_archive new.tables.entries.items new.taken.items) old.tables.archives.items ≡ (linking_of old).archives =
    ap (λ e. map (open_archive e new.taken.items) old.tables.archives.items) entries
    ∙ ap (λ t. map (open_archive (old.tables.entries.items ++ entered.entries) t) old.tables.archives.items) taken
    ∙ maps_more files old.tables.members.items old.tables.entries.items entered.entries old.taken.items marks 0 old.tables.archives.items is.marked is.opened in
    let all : map (open_archive new.tables.entries.items new.taken.items) new.tables.archives.items ≡ (linking_of old).archives ++ first ∷ [] =
    ap (λ a. map (open_archive new.tables.entries.items new.taken.items) a) archives
    ∙ map-append (open_archive new.tables.entries.items new.taken.items) old.tables.archives.items (archive ∷ [])
    ∙ ap (λ l. l ++ open_archive new.tables.entries.items new.taken.items archive ∷ []) others
    ∙ ap (λ a. (linking_of old).archives ++ a ∷ []) (first_archive files file input old opened_link new archive is opened kept) in
    linking_by new entered.keys (old.link.rows.rows ++ file_row Archive input ∷ []) ((linking_of old).archives ++ first ∷ [])
    (ap (λ l. l.keys.keys) kept.link ∙ opened.index.keys) (ap (λ l. l.rows.rows) kept.link ∙ opened.rows) all

-- it is searched
pub search_found : (files : LinkFiles) (file : List ℕ) (seen : SourceState) (input : ℕ) (old opened_link new : Resolver) (archive : OpenedArchive) → IsLink files old → IsArchiveAt files file old seen false input
    → OpenedAs file false input old opened_link archive → KeptArchive opened_link new archive → IsLink files new × (archive_of_input new.tables.archives.items archive.input ≡ Some archive) × (files.file archive.input ≡ Some file)
search_found files file seen input old opened_link new archive is at opened kept =
    let input_is : archive.input ≡ input = ap (λ (a : OpenedArchive). a.input) opened.archive_is in
    let none : archive_of_input old.tables.archives.items input ≡ None = subst (λ s. IsInputState s old.tables.archives.items input) at.state_is (is.states input) in
    let archives : new.tables.archives.items ≡ old.tables.archives.items ++ archive ∷ [] = kept.archives ∙ ap (λ v. v.items ++ archive ∷ []) opened.archives in (
      kept_link files file seen input old opened_link new archive is at opened kept none,
      ap (λ a. archive_of_input a archive.input) archives ∙ found_new old.tables.archives.items archive (ap (λ i. archive_of_input old.tables.archives.items i) input_is ∙ none),
      ap files.file input_is ∙ at.file_is,
    )

pub searched_taken : (files : LinkFiles) (file : List ℕ) (seen : SourceState) (input : ℕ) (old opened_link kept_as new : Resolver) (archive : OpenedArchive) → IsLink files old → IsArchiveAt files file old seen false input
    → OpenedAs file false input old opened_link archive → KeptArchive opened_link kept_as archive
    → TookMembers kept_as new (archive_again (linking_of kept_as) (open_archive kept_as.tables.entries.items kept_as.taken.items archive) (members_as_objects file (link_members file).members files.headers))
    → TookInput files old new input (input_taken (linking_of old) input (files_as_inputs files input))
unfolding input_taken archive_opened
searched_taken files file seen input old opened_link kept_as new archive is at opened kept took =
    let file_is = input_searched files input file opened.index.symbols at.archive at.whole at.file_is opened.none_refused opened.index.are in
    let found = search_found files file seen input old opened_link kept_as archive is at opened kept in
    let members = members_as_objects file (link_members file).members files.headers in
    let input_is : archive.input ≡ input = ap (λ (a : OpenedArchive). a.input) opened.archive_is in
    let states : new.states.items ≡ set old.states.items input (state.Archive (length opened_link.tables.archives.items)) =
    ap (λ v. v.items) took.states ∙ kept.states ∙ ap (λ s. set s.items archive.input (state.Archive (length opened_link.tables.archives.items))) opened.steps.states
    ∙ ap (λ i. set old.states.items i (state.Archive (length opened_link.tables.archives.items))) input_is in
    record {
      makes = took.makes
          ∙ ap (λ a. archive_again (linking_of kept_as) a members) (first_archive files file input old opened_link kept_as archive is opened kept)
          ∙ ap (λ l. archive_again l (record {
            input = input;
            row = length old.link.rows.rows;
            entries = (index_entered (record { keys = old.link.keys.keys; entries = [] }) opened.index.symbols).entries;
            taken = replicate (length (link_members file).members) false;
          }) members) (first_link files file input old opened_link kept_as archive is opened kept)
          ∙ ap (λ f. input_taken (linking_of old) input f) (sym file_is);
      is_link = link_still files kept_as new found.0 took.headers took.libraries (ap (λ v. v.items) took.states) took.tables took.count took.lists took.limits;
      groups = took.groups ∙ kept.groups ∙ opened.steps.groups;
      reached = ap (λ s. is_new_state (slice_get s input)) states
          ∙ ap is_new_state (set_here old.states.items input (state.Archive (length opened_link.tables.archives.items)) state.Done at.state_is);
      others = λ j differ. ap (λ s. is_new_state (slice_get s j)) states
          ∙ ap is_new_state (set_there old.states.items input j (state.Archive (length opened_link.tables.archives.items)) (λ same. differ (sym same)));
    }
