-- Where a link stops, as a resolver has it: at an input, and among the steps.
use Rattle.std.proofs.Common.{◌≡◌, ◌≢◌, ℕ, ◌+◌, Bool, true, false, List, [], ◌∷◌, ◌++◌, eqb, length, replicate, refl, sym, ap, subst, ◌∙◌, ◌⊎◌, inl, inr}
use Rattle.std.specs.Prelude.{IfErr, if◌then◌else◌, Option, None, Some, Result, Ok, Err, option_map}
use Rattle.std.specs.List.{slice_get}
use Rattle.std.proofs.lemmas.Bool.Decides.{eqb_tells}
use Rattle.elf_model.specs.LinkArchives.{LinkFiles, archive_input, files_as_inputs, link_members, members_as_objects, members_refusal, refusal_of, row_refusal, whole_members}
use Rattle.elf_model.specs.LinkInputs.{Linking, archive_again, archive_opened, file_row, index_entered, input_taken, members_taken, opened_at, with_row}
use Rattle.elf_model.specs.LinkSymbols.{object_of}
use Rattle.elf_model.specs.declared.link_states.IndexEntry.{IndexEntry}
use Rattle.elf_model.specs.declared.link_states.LinkRow.{LinkRow}
use Rattle.elf_model.specs.declared.link_states.LinkRowKind.TheVariants.{Archive, Missing, Object}
use Rattle.elf_resolve.specs.EndsAtRefusal.{IsFaultOfIndex, LeavesRows, NoneRefused, StopsLink}
use Rattle.elf_resolve.specs.KeyTables.{KeyList}
use Rattle.elf_resolve.specs.LinkPlaces.{IsLinkAt, input_made, is_new_input, is_new_state}
use Rattle.elf_resolve.specs.OpenedArchives.{IsOpenedArchive, archive_of_input}
use Rattle.elf_resolve.specs.Plans.{AreDistinctSteps}
use Rattle.elf_resolve.specs.Resolved.{linking_of, open_archive}
use Rattle.elf_resolve.specs.ResolvedInputs.{AddedRowOf, IsArchiveAt, IsAtStep, IsLink, KeptArchive, OpenedAs}
use Rattle.elf_resolve.specs.Taken.{IsLinkFault, ReadsIndex, TakesObject}
use Rattle.elf_resolve.specs.declared.archives.OpenedArchive.{OpenedArchive}
use Rattle.elf_resolve.specs.declared.link_faults.LinkFault.{LinkFault}
use Rattle.elf_resolve.specs.declared.link_files.LinkPlan.{LinkPlan}
use Rattle.elf_resolve.specs.declared.link_files.LinkStep.TheVariants as step
use Rattle.elf_resolve.specs.declared.resolver.InputState.TheVariants as state
use Rattle.elf_resolve.specs.declared.resolver.Resolver.{Resolver}
use Rattle.elf_source.specs.Source.{SourceState}
use Rattle.elf_resolve.proofs.BeginLaws.{Begins, begins_as, begins_then, groups_end_begin, inputs_made_begin}
use Rattle.elf_resolve.proofs.LinkFaultLaws.{fault_of_any, fault_of_part}
use Rattle.elf_resolve.proofs.OpenedLaws.{input_found, opened_as}
use Rattle.elf_resolve.proofs.PlaceLaws.{place_takes}
use Rattle.elf_resolve.proofs.RefusalLaws.{archive_at, file_refusal, file_stops, index_refusal, limit_stops, members_refused, missing_row_refusal, none_more, object_row_refusal, refused_rows, stops_within, whole_refusal}
use Rattle.elf_resolve.proofs.InputLaws.{input_searched, input_whole}
use Rattle.elf_resolve.proofs.ResolvedLaws.{first_archive, first_link, opened_rows}
use Rattle.elf_resolve.proofs.TakenLaws.{again_searched}

-- what is left is that of a larger link
pub leaves_within : {A : Type 0} → (files : LinkFiles) (script wider : Type 0) (link : Resolver) (made whole : List LinkRow) (r : Result A LinkFault) → (script → wider) → Begins made whole → LeavesRows files script link made r → LeavesRows files wider link whole r
leaves_within files script wider link made whole (Ok done) widens begins leaves = leaves
leaves_within files script wider link made whole (Err fault) widens begins leaves = stops_within files script wider link.link.rows.rows made whole link.row fault widens begins leaves

-- and of another resolver with these rows
pub leaves_as : {A : Type 0} → (files : LinkFiles) (script : Type 0) (link other : Resolver) (made whole : List LinkRow) (r : Result A LinkFault) → other.link ≡ link.link → other.row ≡ link.row → made ≡ whole → LeavesRows files script link made r → LeavesRows files script other whole r
leaves_as files script link other made whole (Ok done) same row is leaves = subst (λ l. NoneRefused files l.rows.rows) (sym same) leaves
leaves_as files script link other made whole (Err fault) same row is leaves =
    subst (λ l. StopsLink files script l.rows.rows whole other.row fault) (sym same) (subst (λ i. StopsLink files script link.link.rows.rows whole i fault) (sym row) (subst (λ w. StopsLink files script link.link.rows.rows w link.row fault) is leaves))

-- AN OBJECT
pub object_leaves : (files : LinkFiles) (file : List ℕ) (old new : Resolver) (index headers row : ℕ) (k0 k1 : KeyList) (r : Result (Unit {0}) LinkFault) → files.is_archive index ≡ false → files.file index ≡ Some file → headers ≡ files.headers
    → new.link.rows.rows ≡ old.link.rows.rows ++ file_row Object index ∷ [] → new.row ≡ Some (length old.link.rows.rows) → NoneRefused files old.link.rows.rows → TakesObject file headers row k0 k1 r
    → LeavesRows files ⊥ new (input_taken (linking_of old) index (files_as_inputs files index)).rows r
object_leaves files file old new index headers row k0 k1 (Ok done) not_archive file_is headers_are rows row_is none takes =
    none_more files old.link.rows.rows new.link.rows.rows (file_row Object index) rows
    (object_row_refusal files Object index file not_archive file_is ∙ ap (λ h. refusal_of (object_of file h)) (sym headers_are) ∙ ap refusal_of takes.1) none
object_leaves files file old new index headers row k0 k1 (Err fault) not_archive file_is headers_are rows row_is none says =
    let is = object_row_refusal files Object index file not_archive file_is ∙ ap (λ h. refusal_of (object_of file h)) (sym headers_are) in
    file_stops files ⊥ new.link.rows.rows _ old.link.rows.rows [] new.row (file_row Object index) Object fault none rows row_is (λ refusal it_is. refused_rows files (linking_of old) Object index refusal it_is)
    (subst (λ r. IsLinkFault r fault) (sym is) says)

-- a file that is missing
pub missing_leaves : (files : LinkFiles) (old new : Resolver) (index row : ℕ) → AddedRowOf old new (file_row Missing index) row → files.file index ≡ None → NoneRefused files old.link.rows.rows → NoneRefused files new.link.rows.rows
missing_leaves files old new index row added none_is none = none_more files old.link.rows.rows new.link.rows.rows (file_row Missing index) added.added.rows (missing_row_refusal files Missing index none_is) none

-- AN ARCHIVE THAT IS READ
module _ (files : LinkFiles) (file : List ℕ) (old : Resolver) (seen : SourceState) (is_whole : Bool) (input : ℕ) (at : IsArchiveAt files file old seen is_whole input) where
  archive_row_refusal : row_refusal files (file_row Archive input) ≡ refusal_of (archive_input is_whole file files.headers)
  archive_row_refusal = file_refusal files Archive input ∙ ap refusal_of (archive_at files input is_whole file at.archive at.whole at.file_is)

  pub archive_stops : (rows : List LinkRow) (index : Option ℕ) (fault : LinkFault) → NoneRefused files old.link.rows.rows → rows ≡ old.link.rows.rows ++ file_row Archive input ∷ [] → index ≡ Some (length old.link.rows.rows)
      → IsLinkFault (refusal_of (archive_input is_whole file files.headers)) fault → StopsLink files ⊥ rows (input_taken (linking_of old) input (files_as_inputs files input)).rows index fault
  archive_stops rows index fault none rows_are index_is says =
      file_stops files ⊥ rows _ old.link.rows.rows [] index (file_row Archive input) Object fault none rows_are index_is (λ refusal is. refused_rows files (linking_of old) Archive input refusal is)
      (subst (λ r. IsLinkFault r fault) (sym archive_row_refusal) says)

  pub members_stop : (rows : List LinkRow) (index : Option ℕ) (fault : LinkFault) → NoneRefused files old.link.rows.rows → rows ≡ old.link.rows.rows ++ file_row Archive input ∷ [] → index ≡ Some (length old.link.rows.rows)
      → IsLinkFault (members_refusal file) fault → StopsLink files ⊥ rows (input_taken (linking_of old) input (files_as_inputs files input)).rows index fault
  members_stop rows index fault none rows_are index_is says =
      archive_stops rows index fault none rows_are index_is
      (fault_of_part (members_refusal file) (refusal_of (archive_input is_whole file files.headers)) fault (λ refusal is. members_refused is_whole file files.headers refusal is) says)

  of_index : (whole : Bool) (fault : LinkFault) → members_refusal file ≡ None → IsFaultOfIndex whole file fault → IsLinkFault (refusal_of (archive_input whole file files.headers)) fault
  of_index true fault unrefused says = fault_of_any (refusal_of (archive_input true file files.headers)) fault says
  of_index false fault unrefused says = subst (λ r. IsLinkFault r fault) (sym (index_refusal file files.headers unrefused)) says

  pub index_stops : (rows : List LinkRow) (index : Option ℕ) (fault : LinkFault) → NoneRefused files old.link.rows.rows → rows ≡ old.link.rows.rows ++ file_row Archive input ∷ [] → index ≡ Some (length old.link.rows.rows)
      → members_refusal file ≡ None → IsFaultOfIndex is_whole file fault → StopsLink files ⊥ rows (input_taken (linking_of old) input (files_as_inputs files input)).rows index fault
  index_stops rows index fault none rows_are index_is unrefused says = archive_stops rows index fault none rows_are index_is (of_index is_whole fault unrefused says)

  none_of : (whole : Bool) (new : Resolver) (archive : OpenedArchive) → OpenedAs file whole input old new archive → refusal_of (archive_input whole file files.headers) ≡ None
  none_of true new archive opened = whole_refusal file files.headers opened.none_refused
  none_of false new archive opened = index_refusal file files.headers opened.none_refused ∙ ap refusal_of opened.index.are

  -- its row is not refused
  pub opened_leaves : (new : Resolver) (archive : OpenedArchive) → OpenedAs file is_whole input old new archive → NoneRefused files old.link.rows.rows → NoneRefused files new.link.rows.rows
  opened_leaves new archive opened none = none_more files old.link.rows.rows new.link.rows.rows (file_row Archive input) opened.rows (archive_row_refusal ∙ none_of is_whole new archive opened) none

-- a fault of an index that is read
pub index_fails : (is_whole : Bool) (file : List ℕ) (old new : KeyList) (before after : List IndexEntry) (r : Result (Unit {0}) LinkFault) → is_whole ≡ false → ReadsIndex file old new before after r → IfErr r (IsFaultOfIndex is_whole file)
index_fails is_whole file old new before after (Ok done) is reads = tt
index_fails is_whole file old new before after (Err fault) is says = subst (λ w. IsFaultOfIndex w file fault) (sym is) says

-- what its members make is what the input does
pub whole_makes : (files : LinkFiles) (file : List ℕ) (seen : SourceState) (input : ℕ) (old opened_link : Resolver) (archive : OpenedArchive) → IsLink files old → IsArchiveAt files file old seen true input → OpenedAs file true input old opened_link archive
    → members_taken archive.input archive.row (linking_of opened_link) (whole_members file 0 (link_members file).members opened_link.room.headers) ≡ input_taken (linking_of old) input (files_as_inputs files input)
unfolding input_taken
whole_makes files file seen input old opened_link archive is at opened =
    let file_is = input_whole files input file at.archive at.whole at.file_is opened.none_refused in
    let headers : opened_link.room.headers ≡ files.headers = opened.steps.headers ∙ is.headers in
    ap (λ h. members_taken archive.input archive.row (linking_of opened_link) (whole_members file 0 (link_members file).members h)) headers
    ∙ ap (λ l. members_taken archive.input archive.row l (whole_members file 0 (link_members file).members files.headers)) (opened_rows files file input old opened_link archive is opened)
    ∙ ap (λ (a : OpenedArchive). members_taken a.input a.row (with_row (linking_of old) (file_row Archive input)) (whole_members file 0 (link_members file).members files.headers)) opened.archive_is
    ∙ ap (λ f. input_taken (linking_of old) input f) (sym file_is)

pub searched_makes : (files : LinkFiles) (file : List ℕ) (seen : SourceState) (input : ℕ) (old opened_link kept_as : Resolver) (archive : OpenedArchive) → IsLink files old → IsArchiveAt files file old seen false input
    → OpenedAs file false input old opened_link archive → KeptArchive opened_link kept_as archive
    → archive_again (linking_of kept_as) (open_archive kept_as.tables.entries.items kept_as.taken.items archive) (members_as_objects file (link_members file).members files.headers) ≡ input_taken (linking_of old) input (files_as_inputs files input)
unfolding input_taken archive_opened
searched_makes files file seen input old opened_link kept_as archive is at opened kept =
    let file_is = input_searched files input file opened.index.symbols at.archive at.whole at.file_is opened.none_refused opened.index.are in
    let members = members_as_objects file (link_members file).members files.headers in
    ap (λ a. archive_again (linking_of kept_as) a members) (first_archive files file input old opened_link kept_as archive is opened kept)
    ∙ ap (λ l. archive_again l (record {
      input = input;
      row = length old.link.rows.rows;
      entries = (index_entered (record { keys = old.link.keys.keys; entries = [] }) opened.index.symbols).entries;
      taken = replicate (length (link_members file).members) false;
    }) members) (first_link files file input old opened_link kept_as archive is opened kept)
    ∙ ap (λ f. input_taken (linking_of old) input f) (sym file_is)

-- ONCE MORE
pub again_makes_input : (files : LinkFiles) (old : Resolver) (i k : ℕ) (a : OpenedArchive) (opened : IsOpenedArchive files old.tables.members.items (length old.tables.entries.items) 0 a) → slice_get old.states.items i ≡ Some (state.Archive k)
    → archive_of_input old.tables.archives.items i ≡ Some a
    → archive_again (linking_of old) (open_archive old.tables.entries.items old.taken.items a) (members_as_objects opened.file (link_members opened.file).members files.headers)
    ≡ input_made (is_new_input old.states.items i) (linking_of old) i (files_as_inputs files i)
again_makes_input files old i k a opened at found =
    let old_state : is_new_input old.states.items i ≡ false = ap is_new_state at in
    let there : opened_at (linking_of old).archives i ≡ Some (open_archive old.tables.entries.items old.taken.items a) =
    opened_as old.tables.entries.items old.taken.items old.tables.archives.items i ∙ ap (λ o. option_map (open_archive old.tables.entries.items old.taken.items) o) found in
    let input_is = ap (λ n. files_as_inputs files n) (sym (input_found old.tables.archives.items i a found)) ∙ opened.input_is in
    let searched = again_searched (linking_of old) i (open_archive old.tables.entries.items old.taken.items a) (files_as_inputs files i) opened.count opened.symbols (members_as_objects opened.file (link_members opened.file).members files.headers) there input_is in
    sym (ap (λ b. input_made b (linking_of old) i (files_as_inputs files i)) old_state ∙ searched)

-- a round of a group adds no row
pub group_leaves : {A : Type 0} → (files : LinkFiles) (is_script : Type 0) (old new : Resolver) (whole : List LinkRow) (r : Result A LinkFault) → new.link ≡ old.link → IfErr r (IsLinkFault None) → NoneRefused files old.link.rows.rows → LeavesRows files is_script new whole r
group_leaves files is_script old new whole (Ok value) same limit none = subst (λ l. NoneRefused files l.rows.rows) (sym same) none
group_leaves files is_script old new whole (Err fault) same limit none = limit_stops files is_script new.link.rows.rows whole new.row fault limit

-- AMONG THE STEPS: what an input makes is the first part of the whole link
not_itself : (is_new : ℕ → Bool) (index : ℕ) → (if eqb index index then false else is_new index) ≡ false
not_itself is_new index = by (eqb_tells index index) where
  by : ((eqb index index ≡ true) × (index ≡ index)) ⊎ ((eqb index index ≡ false) × (index ≢ index)) → (if eqb index index then false else is_new index) ≡ false
  by (inl (is, same)) = ap (λ b. if b then false else is_new index) is
  by (inr (is, differ)) = absurd (differ refl)

as_others : (is_new : ℕ → Bool) (index j : ℕ) → j ≢ index → (if eqb j index then false else is_new j) ≡ is_new j
as_others is_new index j differ = by (eqb_tells j index) where
  by : ((eqb j index ≡ true) × (j ≡ index)) ⊎ ((eqb j index ≡ false) × (j ≢ index)) → (if eqb j index then false else is_new j) ≡ is_new j
  by (inl (is, same)) = absurd (differ same)
  by (inr (is, other)) = ap (λ b. if b then false else is_new j) is

pub input_begins : (files : LinkFiles) (plan : LinkPlan) (whole : Linking) (old : Resolver) (place index : ℕ) → AreDistinctSteps plan.steps.items → slice_get plan.steps.items place ≡ Some (step.Input index) → IsAtStep files plan whole old place
    → Begins (input_made (is_new_input old.states.items index) (linking_of old) index (files_as_inputs files index)).rows whole.rows
input_begins files plan whole old place index distinct here at =
    let is_new = is_new_input old.states.items in
    let now : ℕ → Bool = λ j. if eqb j index then false else is_new j in
    let made = input_made (is_new index) (linking_of old) index (files_as_inputs files index) in
    let next : IsLinkAt (files_as_inputs files) whole plan.steps.items made old.groups.items now (place + 1) =
    place_takes (files_as_inputs files) whole plan.steps.items (linking_of old) made old.groups.items is_new now place (place + 1) index distinct refl refl (not_itself is_new index) (λ j differ. as_others is_new index j differ) here at.at in
    let rest = inputs_made_begin (files_as_inputs files) next.again next.left made in
    begins_as made.rows _ whole.rows (ap (λ (l : Linking). l.rows) next.makes)
    (begins_then made.rows _ _ rest (groups_end_begin (files_as_inputs files) next.groups _))
