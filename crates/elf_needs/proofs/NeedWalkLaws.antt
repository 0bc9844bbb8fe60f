-- A walk over the versions that one of several objects needs.
use Rattle.std.proofs.Common.{◌≡◌, ℕ, ◌<◌, List, length, length-set, get_or, get_or-set_same, set, Option, Some, Ok, sym, ap, subst, ◌∙◌}
use Rattle.elf_library.specs.Prelude.{LookupObjectState, NeedsWalkGoesOn, StepsNeeds}
use Rattle.elf_library.specs.declared.needed_versions.NeedsWalk.{NeedsWalk}
use Rattle.elf_needs.proofs.AskLaws.{same_element}
use Rattle.elf_needs.specs.Bound.{AsksAll}
use Rattle.elf_needs.specs.VersionLines.{GoesOnAfter}
use Rattle.elf_needs.specs.declared.search_scope.WriteEnd.{WriteEnd}
use Rattle.elf_needs.specs.declared.search_scope.WriteEnd.TheVariants.{Cut, Ended, Whole}

-- a walk goes on after the lines of a record
goes_after : (size : ℕ) (old new : NeedsWalk) (came : WriteEnd) → NeedsWalkGoesOn size old new → GoesOnAfter size old new (Ok (Some came))
goes_after size old new (Whole fails) goes = goes
goes_after size old new Ended goes = tt
goes_after size old new Cut goes = tt

pub goes_on :
    (objects after : List LookupObjectState) (n : ℕ) (new : LookupObjectState) {l0 l1 : Option ℕ} (before walk : NeedsWalk) (came : WriteEnd) → n < length objects
    → AsksAll (set objects n new) after l0 l1 → NeedsWalkGoesOn new.src.seen.size before walk → (d : LookupObjectState) → GoesOnAfter (get_or after n d).src.seen.size before walk (Ok (Some came))
goes_on objects after n new before walk came less asks goes d =
    let low : n < length (set objects n new) = rw (length-set objects n new) less in
    let same : (get_or after n d).src.seen.size ≡ new.src.seen.size =
    (asks.objects.each n d low).same_size ∙ ap (λ (o : LookupObjectState). o.src.seen.size) (get_or-set_same objects n new d less) in
    goes_after (get_or after n d).src.seen.size before walk came (subst (λ (size : ℕ). NeedsWalkGoesOn size before walk) (sym same) goes)

-- a walk over the records of an object
pub steps_here : (objects : List LookupObjectState) (n : ℕ) (e : LookupObjectState) (walk : NeedsWalk) → n < length objects → StepsNeeds (get_or objects n e).src.seen.size walk
    → (d : LookupObjectState) → StepsNeeds (get_or objects n d).src.seen.size walk
steps_here objects n e walk less steps d = subst (λ (o : LookupObjectState). StepsNeeds o.src.seen.size walk) (same_element objects n e d less) steps
