-- A link at a step of a plan, as a resolver has it.
use Rattle.std.proofs.Common.{◌≡◌, ℕ, ◌+◌, ◌≤◌, Bool, true, false, List, [], ◌∷◌, ◌++◌, ◌<◌, get_or, length, map, take, refl, sym, ap, subst, ◌∙◌, arith}
use Rattle.std.specs.Prelude.{◌==◌, Option, None, Some}
use Rattle.std.specs.List.{slice_get}
use Rattle.std.proofs.lemmas.Bool.{eqb-true}
use Rattle.std.proofs.lemmas.List.{map-append, take_more}
use Rattle.std.specs.Borrow.{Bor}
use Rattle.std.proofs.lemmas.Option.{slice_get_past}
use Rattle.elf_model.specs.LinkArchives.{LinkFiles, files_as_inputs}
use Rattle.elf_model.specs.LinkInputs.{LinkInputs, Linking, argument_symbol, inputs_taken, linked, with_arguments}
use Rattle.elf_model.specs.LinkKeys.{LinkKeys, LinkSymbol, no_keys, symbol_taken, symbols_taken}
use Rattle.elf_resolve.specs.ListRooms.{KeepsLists}
use Rattle.elf_resolve.specs.LinkPlaces.{IsLinkAt, input_made, is_new_input, is_new_state}
use Rattle.elf_resolve.specs.OpenedArchives.{AreDistinctArchives, AreOpened, IsInputState}
use Rattle.elf_resolve.specs.Plans.{AreDistinctSteps, plan_steps}
use Rattle.elf_resolve.specs.Resolved.{linking_of, open_archive}
use Rattle.elf_resolve.specs.ResolvedInputs.{AskedNames, IsAtStep, IsFresh, IsLink, OpenedGroup, TookAll, TookInput}
use Rattle.elf_resolve.specs.declared.link_files.LinkPlan.{LinkPlan}
use Rattle.elf_resolve.specs.declared.link_files.LinkStep.TheVariants as step
use Rattle.elf_resolve.specs.declared.archives.OpenedArchive.{OpenedArchive}
use Rattle.elf_resolve.specs.declared.resolver.InputState.{InputState}
use Rattle.elf_resolve.specs.declared.resolver.InputState.TheVariants as state
use Rattle.elf_resolve.specs.declared.resolver.OpenGroup.{OpenGroup}
use Rattle.elf_resolve.specs.declared.resolver.Resolver.{Resolver}
use Rattle.elf_resolve.proofs.ListRoomLaws.{limits_itself, limits_same, limits_then, room_still}
use Rattle.elf_resolve.proofs.OpenedLaws.{distinct_as}
use Rattle.elf_resolve.proofs.PlaceLaws.{place_closes, place_ends, place_has_group, place_opens, place_repeats, place_starts, place_takes}
use Rattle.elf_resolve.proofs.ResolvedLaws.{link_still, linking_by}

-- a link of which only groups are others
lists_same : (old new : Resolver) → new ≡ record old { groups = new.groups } → KeepsLists old new
lists_same old new same = record {
  offers = ap (λ (r : Resolver). r.offers) same;
  further = ap (λ (r : Resolver). r.further) same;
  spare = ap (λ (r : Resolver). r.spare) same;
  kinds = ap (λ (r : Resolver). r.kinds) same;
  problems = ap (λ (r : Resolver). r.problems) same;
  most_rows = ap (λ (r : Resolver). r.link.rows.most) same;
}

group_link : (files : LinkFiles) (old new : Resolver) → IsLink files old → new ≡ record old { groups = new.groups } → IsLink files new
group_link files old new is same =
    link_still files old new is (ap (λ (r : Resolver). r.room.headers) same) (ap (λ (r : Resolver). r.libraries) same) (ap (λ (r : Resolver). r.states.items) same) (ap (λ (r : Resolver). r.tables) same)
    (ap (λ (r : Resolver). length r.taken.items) same) (lists_same old new same) (limits_same old.link.keys new.link.keys (ap (λ (r : Resolver). r.link.keys) same))

module _ (files : LinkFiles) (plan : LinkPlan) (whole : Linking) where
  pub step_opens : (old new : Resolver) (place next : ℕ) → next ≡ place + 1 → slice_get plan.steps.items place ≡ Some step.Open → OpenedGroup old new next → IsAtStep files plan whole old place → IsAtStep files plan whole new next
  step_opens old new place next next_is here opened at =
      let made = place_opens (files_as_inputs files) whole plan.steps.items (linking_of old) old.groups.items (is_new_input old.states.items) place next old.link.keys.keys.asked next_is refl here at.at in
      let same = opened.same in
      record {
        is_link = group_link files old new at.is_link same;
        at = subst (λ l. IsLinkAt (files_as_inputs files) whole plan.steps.items l new.groups.items (is_new_input new.states.items) next) (sym (ap (λ (r : Resolver). linking_of r) same))
            (subst (λ s. IsLinkAt (files_as_inputs files) whole plan.steps.items (linking_of old) new.groups.items (is_new_input s) next) (sym (ap (λ (r : Resolver). r.states.items) same))
            (subst (λ g. IsLinkAt (files_as_inputs files) whole plan.steps.items (linking_of old) g (is_new_input old.states.items) next) (sym opened.groups) made));
      }

  pub step_takes : (old new : Resolver) (place next index : ℕ) → AreDistinctSteps plan.steps.items → next ≡ place + 1 → slice_get plan.steps.items place ≡ Some (step.Input index)
      → TookInput files old new index (input_made (is_new_input old.states.items index) (linking_of old) index (files_as_inputs files index)) → IsAtStep files plan whole old place → IsAtStep files plan whole new next
  step_takes old new place next index distinct next_is here took at = record {
    is_link = took.is_link;
    at = subst (λ g. IsLinkAt (files_as_inputs files) whole plan.steps.items (linking_of new) g (is_new_input new.states.items) next) (sym (ap (λ v. v.items) took.groups))
        (place_takes (files_as_inputs files) whole plan.steps.items (linking_of old) (linking_of new) old.groups.items (is_new_input old.states.items) (is_new_input new.states.items) place next index distinct next_is took.makes
        took.reached took.others here at.at);
  }

  pub step_closes : (old new : Resolver) (last : OpenGroup) (place next : ℕ) → next ≡ place + 1 → slice_get plan.steps.items place ≡ Some step.Close → new ≡ record old { groups = new.groups } → old.groups.items ≡ new.groups.items ++ last ∷ []
      → old.link.keys.keys.asked ≡ last.asked → IsAtStep files plan whole old place → IsAtStep files plan whole new next
  step_closes old new last place next next_is here same groups asked at =
      let made = place_closes (files_as_inputs files) whole plan.steps.items (linking_of old) old.groups.items new.groups.items last (is_new_input old.states.items) place next next_is groups asked here at.at in
      record {
        is_link = group_link files old new at.is_link same;
        at = subst (λ l. IsLinkAt (files_as_inputs files) whole plan.steps.items l new.groups.items (is_new_input new.states.items) next) (sym (ap (λ (r : Resolver). linking_of r) same))
            (subst (λ s. IsLinkAt (files_as_inputs files) whole plan.steps.items (linking_of old) new.groups.items (is_new_input s) next) (sym (ap (λ (r : Resolver). r.states.items) same)) made);
      }

  pub step_repeats : (old popped new : Resolver) (last : OpenGroup) (place : ℕ) → slice_get plan.steps.items place ≡ Some step.Close → popped ≡ record old { groups = popped.groups } → old.groups.items ≡ popped.groups.items ++ last ∷ []
      → (old.link.keys.keys.asked == last.asked) ≡ false → OpenedGroup popped new last.first → IsAtStep files plan whole old place → IsAtStep files plan whole new last.first
  step_repeats old popped new last place here same groups differ opened at =
      let distinct = distinct_as old.tables.entries.items old.taken.items old.tables.archives.items at.is_link.distinct in
      let made = place_repeats (files_as_inputs files) whole plan.steps.items (linking_of old) old.groups.items popped.groups.items last (is_new_input old.states.items) place old.link.keys.keys.asked distinct groups refl differ here at.at in
      let asked : popped.link.keys.keys.asked ≡ old.link.keys.keys.asked = ap (λ (r : Resolver). r.link.keys.keys.asked) same in
      let groups_are : new.groups.items ≡ popped.groups.items ++ record { first = last.first; asked = old.link.keys.keys.asked } ∷ [] = opened.groups ∙ ap (λ a. popped.groups.items ++ record { first = last.first; asked = a } ∷ []) asked in
      let linking : linking_of new ≡ linking_of old = ap (λ (r : Resolver). linking_of r) opened.same ∙ ap (λ (r : Resolver). linking_of r) same in
      let states : new.states.items ≡ old.states.items = ap (λ (r : Resolver). r.states.items) opened.same ∙ ap (λ (r : Resolver). r.states.items) same in
      record {
        is_link = group_link files popped new (group_link files old popped at.is_link same) opened.same;
        at = subst (λ l. IsLinkAt (files_as_inputs files) whole plan.steps.items l new.groups.items (is_new_input new.states.items) last.first) (sym linking)
            (subst (λ s. IsLinkAt (files_as_inputs files) whole plan.steps.items (linking_of old) new.groups.items (is_new_input s) last.first) (sym states)
            (subst (λ g. IsLinkAt (files_as_inputs files) whole plan.steps.items (linking_of old) g (is_new_input old.states.items) last.first) (sym groups_are) made));
      }

  pub step_has_group : (old : Resolver) (place : ℕ) → old.groups.items ≡ [] → slice_get plan.steps.items place ≡ Some step.Close → IsAtStep files plan whole old place → ⊥
  step_has_group old place none here at = place_has_group (files_as_inputs files) whole plan.steps.items (linking_of old) old.groups.items (is_new_input old.states.items) place none here at.at

  pub steps_end : (old : Resolver) (place : ℕ) → length plan.steps.items ≤ place → IsAtStep files plan whole old place → TookAll files old whole
  steps_end old place past at = record {
    makes = place_ends (files_as_inputs files) whole plan.steps.items (linking_of old) old.groups.items (is_new_input old.states.items) place (slice_get_past plan.steps.items place past) at.at;
    is_link = at.is_link;
  }

differ_by : (a b : ℕ) (same : Bool) → (a == b) ≡ same → (a ≡ b → ⊥) → same ≡ false
differ_by a b true is differ = absurd (differ (eqb-true a b is))
differ_by a b false is differ = refl

pub differ_false : (a b : ℕ) → (a ≡ b → ⊥) → (a == b) ≡ false
differ_false a b differ = differ_by a b (a == b) refl differ

-- the row of the file that is read is another
pub row_link_still : (files : LinkFiles) (old : Resolver) (row : Option ℕ) → IsLink files old → IsLink files (record old { row = row })
row_link_still files old row is = link_still files old (record old { row = row }) is refl refl refl refl refl (record { offers = refl; further = refl; spare = refl; kinds = refl; problems = refl; most_rows = refl }) (limits_itself old.link.keys)

pub took_from_row : (files : LinkFiles) (old : Resolver) (row : Option ℕ) (new : Resolver) (index : ℕ) → TookInput files (record old { row = row }) new index (input_made (is_new_input old.states.items index) (linking_of old) index (files_as_inputs files index))
    → TookInput files old new index (input_made (is_new_input old.states.items index) (linking_of old) index (files_as_inputs files index))
took_from_row files old row new index took = record { makes = took.makes; is_link = took.is_link; groups = took.groups; reached = took.reached; others = took.others }

-- THE FIRST STEP
fresh_state : (o : Option InputState) (i : ℕ) → is_new_state o ≡ true → IsInputState o [] i
fresh_state None i is = refl
fresh_state (Some state.New) i is = refl
fresh_state (Some state.Done) i is = refl
fresh_state (Some (state.Archive index)) i is = absurd cc
fresh_state (Some (state.Library index)) i is = absurd cc

asked_lists : (old new : Resolver) → new ≡ record old { link = record old.link { keys = new.link.keys } } → KeepsLists old new
asked_lists old new same = record {
  offers = ap (λ (r : Resolver). r.offers) same;
  further = ap (λ (r : Resolver). r.further) same;
  spare = ap (λ (r : Resolver). r.spare) same;
  kinds = ap (λ (r : Resolver). r.kinds) same;
  problems = ap (λ (r : Resolver). r.problems) same;
  most_rows = ap (λ (r : Resolver). r.link.rows.most) same;
}

fresh_link : (files : LinkFiles) (old new : Resolver) (names : List (List ℕ)) → files.headers ≡ old.room.headers → IsFresh old → AskedNames old new names → IsLink files new
fresh_link files old new names headers fresh asked =
    let archives : new.tables.archives.items ≡ [] = ap (λ (r : Resolver). r.tables.archives.items) asked.same ∙ fresh.archives in
    record {
      headers = ap (λ (r : Resolver). r.room.headers) asked.same ∙ sym headers;
      no_libraries = ap (λ (r : Resolver). r.libraries.libraries.items) asked.same ∙ fresh.libraries;
      marked = ap (λ (r : Resolver). length r.taken.items) asked.same ∙ ap length fresh.taken ∙ sym (ap length fresh.members) ∙ sym (ap (λ (r : Resolver). length r.tables.members.items) asked.same);
      opened = subst (λ a. AreOpened files new.tables.members.items (length new.tables.entries.items) 0 a) (sym archives) (omega arith);
      distinct = subst AreDistinctArchives (sym archives) tt;
      states = λ i. subst (λ a. IsInputState (slice_get new.states.items i) a i) (sym archives)
          (fresh_state (slice_get new.states.items i) i (ap (λ (r : Resolver). is_new_input r.states.items i) asked.same ∙ fresh.states i));
      lists = room_still old new fresh.lists (asked_lists old new asked.same) asked.limits (ap (λ (r : Resolver). r.tables) asked.same);
    }

fresh_linking : (old new : Resolver) (names : List (List ℕ)) → IsFresh old → AskedNames old new names → linking_of new ≡ with_arguments names
unfolding with_arguments
fresh_linking old new names fresh asked =
    linking_by new (symbols_taken None no_keys (map argument_symbol names)) [] [] (asked.keys ∙ ap (λ k. symbols_taken None k (map argument_symbol names)) fresh.keys)
    (ap (λ (r : Resolver). r.link.rows.rows) asked.same ∙ fresh.rows)
    (ap (λ (a : List OpenedArchive). map (open_archive new.tables.entries.items new.taken.items) a) (ap (λ (r : Resolver). r.tables.archives.items) asked.same ∙ fresh.archives))

pub step_starts : (files : LinkFiles) (plan : LinkPlan) (old new : Resolver) (names : List (List ℕ)) (inputs : LinkInputs) → files.headers ≡ old.room.headers → IsFresh old → AskedNames old new names → plan_steps inputs ≡ plan.steps.items
    → IsAtStep files plan (linked (files_as_inputs files) names inputs) new 0
step_starts files plan old new names inputs headers fresh asked steps = record {
  is_link = fresh_link files old new names headers fresh asked;
  at = subst (λ g. IsLinkAt (files_as_inputs files) (linked (files_as_inputs files) names inputs) plan.steps.items (linking_of new) g (is_new_input new.states.items) 0)
      (sym (ap (λ (r : Resolver). r.groups.items) asked.same ∙ fresh.groups))
      (place_starts (files_as_inputs files) (linked (files_as_inputs files) names inputs) plan.steps.items inputs (linking_of new) (is_new_input new.states.items) steps
      (ap (λ l. inputs_taken (files_as_inputs files) inputs l) (fresh_linking old new names fresh asked))
      (λ i input at. ap (λ (r : Resolver). is_new_input r.states.items input) asked.same ∙ fresh.states input));
}

-- names that arguments ask for
symbols_both : (row : Option ℕ) (keys : LinkKeys) (xs ys : List LinkSymbol) → symbols_taken row keys (xs ++ ys) ≡ symbols_taken row (symbols_taken row keys xs) ys
symbols_both row keys [] ys = refl
symbols_both row keys (x ∷ xs) ys = symbols_both row (symbol_taken row keys x) xs ys

pub asked_none : (old : Resolver) → AskedNames old old []
asked_none old = record { same = refl; keys = refl; limits = limits_itself old.link.keys }

pub asked_more : (old now new : Resolver) (names : List (List ℕ)) (name : List ℕ) → AskedNames old now names → AskedNames now new (name ∷ []) → AskedNames old new (names ++ name ∷ [])
asked_more old now new names name first second = record {
  same = second.same ∙ ap (λ (r : Resolver). record r { link = record r.link { keys = new.link.keys } }) first.same;
  keys = second.keys ∙ ap (λ k. symbols_taken None k (map argument_symbol (name ∷ []))) first.keys
      ∙ sym (symbols_both None old.link.keys.keys (map argument_symbol names) (map argument_symbol (name ∷ [])))
      ∙ ap (λ l. symbols_taken None old.link.keys.keys l) (sym (map-append argument_symbol names (name ∷ [])));
  limits = limits_then old.link.keys now.link.keys new.link.keys first.limits second.limits;
}

pub asked_next : (xs : List (Bor (List ℕ))) (i : ℕ) (d : Bor (List ℕ)) (name : List ℕ) → i < length xs → name ≡ (get_or xs i d).now
    → map (λ (a : Bor (List ℕ)). a.now) (take i xs) ++ name ∷ [] ≡ map (λ (a : Bor (List ℕ)). a.now) (take (i + 1) xs)
asked_next xs i d name below is =
    ap (λ n. map (λ (a : Bor (List ℕ)). a.now) (take i xs) ++ n ∷ []) is
    ∙ sym (map-append (λ (a : Bor (List ℕ)). a.now) (take i xs) (get_or xs i d ∷ []))
    ∙ ap (λ l. map (λ (a : Bor (List ℕ)). a.now) l) (sym (take_more xs i d below))
