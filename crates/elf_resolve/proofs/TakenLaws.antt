-- An input that is taken for the first time, or once more, as a resolver has it.
use Rattle.std.proofs.Common.{◌≡◌, ◌≢◌, ℕ, true, false, List, [], ◌∷◌, ◌++◌, length, map, set, refl, sym, ap, subst, ◌∙◌, ◌⊎◌, inl, inr, eqb}
use Rattle.std.specs.Prelude.{OnOk, Option, None, Some, Result, Ok, Err, option_map}
use Rattle.std.specs.List.{slice_get}
use Rattle.std.proofs.lemmas.Bool.Decides.{eqb_tells}
use Rattle.elf_model.specs.LinkArchives.{LinkFiles, files_as_inputs, link_members, members_as_objects}
use Rattle.elf_model.specs.LinkInputs.{IndexSymbol, InputFile, Linking, OpenArchive, again_at, archive_again, file_row, input_again, input_taken, opened_at}
use Rattle.elf_model.specs.LinkInputs.InputFile.{ObjectFile, SearchedFile, WholeFile, MissingFile}
use Rattle.elf_model.specs.LinkObjects.{object_taken}
use Rattle.elf_model.specs.LinkPasses.{ArchiveMembers}
use Rattle.elf_model.specs.LinkSymbols.{object_of}
use Rattle.elf_model.specs.declared.link_states.LinkRow.{LinkRow}
use Rattle.elf_model.specs.declared.link_states.LinkRowKind.TheVariants.{Object, Missing}
use Rattle.elf_resolve.specs.KeyTables.{KeyList}
use Rattle.elf_resolve.specs.ListRooms.{KeepsLists}
use Rattle.elf_resolve.specs.LinkPlaces.{input_made, is_new_input, is_new_state}
use Rattle.elf_resolve.specs.OpenedArchives.{AreDistinctArchives, AreOpened, IsOpenedArchive, IsInputState, archive_of_input}
use Rattle.elf_resolve.specs.Plans.{IsKnownFile, IsStaticPlan, archive_planned, file_of_kind, file_planned, planned_files, whole_planned}
use Rattle.elf_resolve.specs.Resolved.{linking_of, open_archive}
use Rattle.elf_resolve.specs.ResolvedInputs.{AddedRowOf, IsLink, IsPlanned, TookInput, TookMembers}
use Rattle.elf_resolve.specs.Taken.{TakesObject}
use Rattle.elf_resolve.specs.declared.archives.ArchiveTables.{ArchiveTables}
use Rattle.elf_resolve.specs.declared.archives.OpenedArchive.{OpenedArchive}
use Rattle.elf_resolve.specs.declared.link_files.InputKind.{InputKind}
use Rattle.elf_resolve.specs.declared.link_files.InputKind.TheVariants as kind
use Rattle.elf_resolve.specs.declared.link_faults.LinkFault.{LinkFault}
use Rattle.elf_resolve.specs.declared.link_files.LinkInput.{LinkInput}
use Rattle.elf_resolve.specs.declared.link_files.LinkPlan.{LinkPlan}
use Rattle.elf_resolve.specs.declared.resolver.InputState.{InputState}
use Rattle.elf_resolve.specs.declared.resolver.InputState.TheVariants as state
use Rattle.elf_resolve.specs.declared.resolver.Resolver.{Resolver}
use Rattle.elf_resolve.proofs.ListRoomLaws.{limits_same, room_still}
use Rattle.elf_resolve.proofs.OpenedLaws.{input_found, opened_as}
use Rattle.elf_resolve.proofs.InputLaws.{input_missing, input_object, set_here, set_there}
use Rattle.elf_resolve.proofs.ResolvedLaws.{link_still, linking_by}

-- AN INPUT IS REACHED
done_state : (old new : List InputState) (archives : List OpenedArchive) (index i : ℕ) → slice_get old index ≡ Some state.New → new ≡ set old index state.Done → IsInputState (slice_get old i) archives i → IsInputState (slice_get new i) archives i
done_state old new archives index i is_new states is = by (eqb_tells index i) where
  as_done : (s : Option InputState) → s ≡ Some state.New → IsInputState s archives i → IsInputState (Some state.Done) archives i
  as_done s is_new_here holds = subst (λ (o : Option InputState). IsInputState o archives i) is_new_here holds

  by : ((eqb index i ≡ true) × (index ≡ i)) ⊎ ((eqb index i ≡ false) × (index ≢ i)) → IsInputState (slice_get new i) archives i
  by (inl (yes_is, same)) =
      let was : slice_get old i ≡ Some state.New = ap (λ n. slice_get old n) (sym same) ∙ is_new in
      let here : slice_get new i ≡ Some state.Done = ap (λ s. slice_get s i) states ∙ ap (λ n. slice_get (set old n state.Done) i) same ∙ set_here old i state.Done state.New was in
      subst (λ s. IsInputState s archives i) (sym here) (as_done (slice_get old i) was is)
  by (inr (no_is, differ)) =
      let there : slice_get new i ≡ slice_get old i = ap (λ s. slice_get s i) states ∙ set_there old index i state.Done differ in
      subst (λ s. IsInputState s archives i) (sym there) is

state_lists : (old new : Resolver) → new ≡ record old { states = new.states } → KeepsLists old new
state_lists old new same = record {
  offers = ap (λ (r : Resolver). r.offers) same;
  further = ap (λ (r : Resolver). r.further) same;
  spare = ap (λ (r : Resolver). r.spare) same;
  kinds = ap (λ (r : Resolver). r.kinds) same;
  problems = ap (λ (r : Resolver). r.problems) same;
  most_rows = ap (λ (r : Resolver). r.link.rows.most) same;
}

pub reached_link : (files : LinkFiles) (old new : Resolver) (index : ℕ) → IsLink files old → slice_get old.states.items index ≡ Some state.New → new ≡ record old { states = new.states } → new.states.items ≡ set old.states.items index state.Done → IsLink files new
reached_link files old new index is is_new same states = record {
  headers = ap (λ (r : Resolver). r.room.headers) same ∙ is.headers;
  no_libraries = ap (λ (r : Resolver). r.libraries.libraries.items) same ∙ is.no_libraries;
  marked = ap (λ (r : Resolver). length r.taken.items) same ∙ is.marked ∙ ap (λ (r : Resolver). length r.tables.members.items) (sym same);
  opened = subst (λ (r : Resolver). AreOpened files r.tables.members.items (length r.tables.entries.items) 0 r.tables.archives.items) (sym same) is.opened;
  distinct = subst (λ (r : Resolver). AreDistinctArchives r.tables.archives.items) (sym same) is.distinct;
  states = λ i.
      subst (λ (r : Resolver). IsInputState (slice_get new.states.items i) r.tables.archives.items i) (sym same)
      (done_state old.states.items new.states.items old.tables.archives.items index i is_new states (is.states i));
  lists = room_still old new is.lists (state_lists old new same) (limits_same old.link.keys new.link.keys (ap (λ (r : Resolver). r.link.keys) same)) (ap (λ (r : Resolver). r.tables) same);
}

pub reached_done : (old new : Resolver) (index : ℕ) → slice_get old.states.items index ≡ Some state.New → new.states.items ≡ set old.states.items index state.Done → slice_get new.states.items index ≡ Some state.Done
reached_done old new index is_new states = ap (λ s. slice_get s index) states ∙ set_here old.states.items index state.Done state.New is_new

pub reached_took : (files : LinkFiles) (old marked new : Resolver) (index : ℕ) → marked ≡ record old { states = marked.states } → marked.states.items ≡ set old.states.items index state.Done
    → TookInput files marked new index (input_taken (linking_of marked) index (files_as_inputs files index)) → TookInput files old new index (input_taken (linking_of old) index (files_as_inputs files index))
reached_took files old marked new index same states took = record {
  makes = took.makes ∙ ap (λ (r : Resolver). input_taken (linking_of r) index (files_as_inputs files index)) same;
  is_link = took.is_link;
  groups = took.groups ∙ ap (λ (r : Resolver). r.groups) same;
  reached = took.reached;
  others = λ j differ. took.others j differ ∙ ap (λ s. is_new_state (slice_get s j)) states ∙ ap is_new_state (set_there old.states.items index j state.Done (λ one. differ (sym one)));
}

-- a row alone is added
row_link : (files : LinkFiles) (old new : Resolver) (row : LinkRow) (index : ℕ) → IsLink files old → AddedRowOf old new row index → IsLink files new
row_link files old new row index is added =
    link_still files old new is added.steps.headers added.steps.libraries (ap (λ v. v.items) added.steps.states) added.tables (ap (λ v. length v.items) added.taken)
    added.steps.lists (limits_same old.link.keys new.link.keys added.keys)

-- a link in which only keys and rows changed
took_keys : (files : LinkFiles) (old new : Resolver) (index : ℕ) (made : Linking) → IsLink files new → linking_of new ≡ made → new.states ≡ old.states → new.groups ≡ old.groups → slice_get old.states.items index ≡ Some state.Done → TookInput files old new index made
took_keys files old new index made is makes states groups done = record {
  makes = makes;
  is_link = is;
  groups = groups;
  reached = ap (λ v. is_new_state (slice_get v.items index)) states ∙ ap is_new_state done;
  others = λ j differ. ap (λ v. is_new_state (slice_get v.items j)) states;
}

same_archives : (old new : Resolver) → new.tables ≡ old.tables → new.taken ≡ old.taken → (linking_of new).archives ≡ (linking_of old).archives
same_archives old new tables taken =
    ap (λ (t : ArchiveTables). map (open_archive t.entries.items new.taken.items) t.archives.items) tables ∙ ap (λ v. map (open_archive old.tables.entries.items v.items) old.tables.archives.items) taken

pub missing_taken : (files : LinkFiles) (old new : Resolver) (index row : ℕ) → IsLink files old → slice_get old.states.items index ≡ Some state.Done → AddedRowOf old new (file_row Missing index) row → files.file index ≡ None
    → TookInput files old new index (input_taken (linking_of old) index (files_as_inputs files index))
unfolding input_taken
missing_taken files old new index row is done added none =
    let made : linking_of new ≡ input_taken (linking_of old) index MissingFile =
    linking_by new (linking_of old).keys ((linking_of old).rows ++ file_row Missing index ∷ []) (linking_of old).archives (ap (λ k. k.keys) added.keys) added.added.rows (same_archives old new added.tables added.taken) in
    took_keys files old new index (input_taken (linking_of old) index (files_as_inputs files index)) (row_link files old new (file_row Missing index) row is added)
    (made ∙ ap (λ f. input_taken (linking_of old) index f) (sym (input_missing files index none))) added.steps.states added.steps.groups done

pub object_file_taken : (files : LinkFiles) (file : List ℕ) (old added new : Resolver) (index row : ℕ) → IsLink files old → slice_get old.states.items index ≡ Some state.Done → files.is_archive index ≡ false → files.file index ≡ Some file
    → AddedRowOf old added (file_row Object index) row → new.link.rows ≡ added.link.rows → new.tables ≡ added.tables → new.taken ≡ added.taken → new.states ≡ added.states → new.groups ≡ added.groups → new.libraries ≡ added.libraries
    → new.room.headers ≡ added.room.headers → KeepsLists added new → TakesObject file added.room.headers row added.link.keys new.link.keys (Ok tt)
    → TookInput files old new index (input_taken (linking_of old) index (files_as_inputs files index))
unfolding input_taken
object_file_taken files file old added new index row is done not_archive file_is row_added rows tables taken states groups libraries headers lists takes =
    let object = takes.0 in
    let headers_are : added.room.headers ≡ files.headers = row_added.steps.headers ∙ is.headers in
    let object_is : object_of file files.headers ≡ Ok object = ap (λ h. object_of file h) (sym headers_are) ∙ takes.1 in
    let keys : new.link.keys.keys ≡ object_taken (Some (length old.link.rows.rows)) old.link.keys.keys object =
    takes.2.keys ∙ ap (λ k. object_taken (Some row) k.keys object) row_added.keys ∙ ap (λ n. object_taken (Some n) old.link.keys.keys object) row_added.added.index_is in
    let made : linking_of new ≡ input_taken (linking_of old) index (ObjectFile object) =
    linking_by new (object_taken (Some (length old.link.rows.rows)) old.link.keys.keys object) ((linking_of old).rows ++ file_row Object index ∷ []) (linking_of old).archives keys
    (ap (λ r. r.rows) rows ∙ row_added.added.rows) (same_archives old new (tables ∙ row_added.tables) (taken ∙ row_added.taken)) in
    took_keys files old new index (input_taken (linking_of old) index (files_as_inputs files index))
    (link_still files added new (row_link files old added (file_row Object index) row is row_added) headers libraries (ap (λ v. v.items) states) tables (ap (λ v. length v.items) taken) lists
    (record { most = takes.2.most; most_further = takes.2.most_further }))
    (made ∙ ap (λ f. input_taken (linking_of old) index f) (sym (input_object files index file object not_archive file_is object_is))) (states ∙ row_added.steps.states) (groups ∙ row_added.steps.groups) done

-- ONCE MORE only archives are searched
again_none : (link : Linking) (i : ℕ) (file : InputFile) → opened_at link.archives i ≡ None → input_again link i file ≡ link
unfolding input_again
again_none link i (SearchedFile count symbols members) none = ap (λ o. again_at link o members) none
again_none link i (ObjectFile object) none = refl
again_none link i (WholeFile members) none = refl
again_none link i MissingFile none = refl

pub done_again : (files : LinkFiles) (old : Resolver) (i : ℕ) → IsLink files old → slice_get old.states.items i ≡ Some state.Done
    → TookInput files old old i (input_made (is_new_input old.states.items i) (linking_of old) i (files_as_inputs files i))
done_again files old i is done =
    let old_state : is_new_input old.states.items i ≡ false = ap is_new_state done in
    let none : archive_of_input old.tables.archives.items i ≡ None = subst (λ (s : Option InputState). IsInputState s old.tables.archives.items i) done (is.states i) in
    let closed : opened_at (linking_of old).archives i ≡ None =
    opened_as old.tables.entries.items old.taken.items old.tables.archives.items i ∙ ap (λ o. option_map (open_archive old.tables.entries.items old.taken.items) o) none in
    record {
      makes = sym (ap (λ b. input_made b (linking_of old) i (files_as_inputs files i)) old_state ∙ again_none (linking_of old) i (files_as_inputs files i) closed);
      is_link = is;
      groups = refl;
      reached = old_state;
      others = λ j differ. refl;
    }

-- the archive that a state names
pub archive_found : (files : LinkFiles) (old : Resolver) (i k : ℕ) → IsLink files old → slice_get old.states.items i ≡ Some (state.Archive k)
    → (a : OpenedArchive) × (slice_get old.tables.archives.items k ≡ Some a) × (archive_of_input old.tables.archives.items i ≡ Some a)
archive_found files old i k is at = subst (λ (s : Option InputState). IsInputState s old.tables.archives.items i) at (is.states i)

pub again_searched : (link : Linking) (i : ℕ) (a : OpenArchive) (file : InputFile) (count : ℕ) (symbols : List IndexSymbol) (members : ArchiveMembers) → opened_at link.archives i ≡ Some a → file ≡ SearchedFile count symbols members
    → input_again link i file ≡ archive_again link a members
unfolding input_again
again_searched link i a file count symbols members found is = ap (λ f. input_again link i f) is ∙ ap (λ o. again_at link o members) found

pub archive_again_taken : (files : LinkFiles) (old new : Resolver) (i k : ℕ) (a : OpenedArchive) (opened : IsOpenedArchive files old.tables.members.items (length old.tables.entries.items) 0 a) → IsLink files old → slice_get old.states.items i ≡ Some (state.Archive k)
    → archive_of_input old.tables.archives.items i ≡ Some a
    → TookMembers old new (archive_again (linking_of old) (open_archive old.tables.entries.items old.taken.items a) (members_as_objects opened.file (link_members opened.file).members files.headers))
    → TookInput files old new i (input_made (is_new_input old.states.items i) (linking_of old) i (files_as_inputs files i))
archive_again_taken files old new i k a opened is at found took =
    let old_state : is_new_input old.states.items i ≡ false = ap is_new_state at in
    let there : opened_at (linking_of old).archives i ≡ Some (open_archive old.tables.entries.items old.taken.items a) =
    opened_as old.tables.entries.items old.taken.items old.tables.archives.items i ∙ ap (λ o. option_map (open_archive old.tables.entries.items old.taken.items) o) found in
    let input_is = ap (λ n. files_as_inputs files n) (sym (input_found old.tables.archives.items i a found)) ∙ opened.input_is in
    let searched = again_searched (linking_of old) i (open_archive old.tables.entries.items old.taken.items a) (files_as_inputs files i) opened.count opened.symbols (members_as_objects opened.file (link_members opened.file).members files.headers) there input_is in
    record {
      makes = took.makes ∙ sym (ap (λ b. input_made b (linking_of old) i (files_as_inputs files i)) old_state ∙ searched);
      is_link = link_still files old new is took.headers took.libraries (ap (λ v. v.items) took.states) took.tables took.count took.lists took.limits;
      groups = took.groups;
      reached = ap (λ v. is_new_state (slice_get v.items i)) took.states ∙ old_state;
      others = λ j differ. ap (λ v. is_new_state (slice_get v.items j)) took.states;
    }

-- FILES OF A PLAN
known_of_kind : (k : InputKind) (known : Option (List ℕ)) (file : List ℕ) → file_of_kind k known ≡ Some file → known ≡ Some file
known_of_kind kind.Missing known file is = absurd cc
known_of_kind kind.Object known file is = is
known_of_kind kind.Shared known file is = is
known_of_kind kind.Archive known file is = is
known_of_kind kind.BadScript known file is = is

pub known_planned : (input : Option LinkInput) (known : Option (List ℕ)) (file : List ℕ) → file_planned input known ≡ Some file → known ≡ Some file
known_planned None known file is = absurd cc
known_planned (Some input) known file is = known_of_kind input.kind known file is

pub planned_at : (known : ℕ → Option (List ℕ)) (plan : LinkPlan) (headers index : ℕ) (input : LinkInput) → IsStaticPlan known plan → slice_get plan.inputs.items index ≡ Some input → IsPlanned (planned_files known plan headers) known index input
planned_at known plan headers index input static at = record {
  archive = ap archive_planned at;
  whole = ap whole_planned at;
  file = ap (λ i. file_planned i (known index)) at;
  is_known = static.are_known index input at;
}

-- taken for the first time
pub first_taken : (files : LinkFiles) (old new : Resolver) (i : ℕ) → slice_get old.states.items i ≡ Some state.New → TookInput files old new i (input_taken (linking_of old) i (files_as_inputs files i))
    → TookInput files old new i (input_made (is_new_input old.states.items i) (linking_of old) i (files_as_inputs files i))
first_taken files old new i at took =
    let is_new : is_new_input old.states.items i ≡ true = ap is_new_state at in
    subst (λ b. TookInput files old new i (input_made b (linking_of old) i (files_as_inputs files i))) (sym is_new) took

pub object_on_ok : (P : Type 0) (file : List ℕ) (headers row : ℕ) (old new : KeyList) (result : Result (Unit {0}) LinkFault) → TakesObject file headers row old new result → (TakesObject file headers row old new (Ok tt) → P) → OnOk result P
object_on_ok P file headers row old new (Ok done) takes step = step takes
object_on_ok P file headers row old new (Err fault) takes step = tt

pub object_known : (files : LinkFiles) (known : ℕ → Option (List ℕ)) (index : ℕ) (input : LinkInput) → IsPlanned files known index input → input.kind ≡ kind.Object
    → (file : List ℕ) × (known index ≡ Some file) × (files.file index ≡ Some file)
object_known files known index input is at =
    let has : (bytes : List ℕ) × (known index ≡ Some bytes) = subst (λ k. IsKnownFile k (known index)) at is.is_known in
    (has.0, has.1, is.file ∙ ap (λ k. file_of_kind k (known index)) at ∙ has.1)

pub archive_known : (files : LinkFiles) (known : ℕ → Option (List ℕ)) (index : ℕ) (input : LinkInput) → IsPlanned files known index input → input.kind ≡ kind.Archive
    → (file : List ℕ) × (known index ≡ Some file) × (files.file index ≡ Some file)
archive_known files known index input is at =
    let has : (bytes : List ℕ) × (known index ≡ Some bytes) = subst (λ k. IsKnownFile k (known index)) at is.is_known in
    (has.0, has.1, is.file ∙ ap (λ k. file_of_kind k (known index)) at ∙ has.1)

pub found_as_own : (archives : List OpenedArchive) (i : ℕ) (a : OpenedArchive) → archive_of_input archives i ≡ Some a → archive_of_input archives a.input ≡ Some a
found_as_own archives i a found = ap (λ n. archive_of_input archives n) (input_found archives i a found) ∙ found
