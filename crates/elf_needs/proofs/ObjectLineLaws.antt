-- The lines of objects, one place after another.
use Rattle.std.proofs.Common.{◌≡◌, ℕ, zero, suc, ◌+◌, ◌<◌, ◌≤◌, List, [], ◌∷◌, ◌++◌, drop, length, Result, refl, sym, ap, ◌∙◌, append_assoc, arith}
use Rattle.std.proofs.lemmas.List.{drop_all}
use Rattle.elf_source.specs.Prelude.{OutPuts, OutState, SinkTakes, SinkTakesPrefix}
use Rattle.elf_source.specs.declared.faults.OutFault.{OutFault}
use Rattle.elf_source.proofs.PutsLaws.{SinkTakes-nothing, SinkTakes-then, SinkTakesPrefix-more, SinkTakesPrefix-then}
use Rattle.elf_format.proofs.PutsSteps.{puts_then}
use Rattle.elf_needs.specs.ObjectLines.{line_of_place, places_in_order, lines_of_places}
use Rattle.elf_needs.specs.declared.known_object.KnownObject.{KnownObject}
use Rattle.elf_needs.specs.declared.known_object.ObjectList.{ObjectList}
use Rattle.elf_needs.specs.declared.line_options.LineOptions.{LineOptions}
use Rattle.elf_needs.specs.declared.object_lines.ListedPlace.{ListedPlace}

-- the lines of the first places are written, and the others are left
pub record WritesPlaces (lines : LineOptions) (objects : ObjectList) (program : List ℕ) (all left : List ListedPlace) (old new : OutState) : Type 0 where
  pub text : List ℕ
  pub takes : SinkTakes old new text
  pub split : lines_of_places lines objects program all ≡ text ++ lines_of_places lines objects program left

module _ (lines : LineOptions) (objects : ObjectList) (program : List ℕ) (all : List ListedPlace) where
  pub writes_none : (old : OutState) → WritesPlaces lines objects program all all old old
  writes_none old = record { text = []; takes = SinkTakes-nothing old; split = refl }

  module _ {left : List ListedPlace} {old mid : OutState} (so_far : WritesPlaces lines objects program all left old mid) where
    next_text : (place : ListedPlace) (rest : List ListedPlace) → left ≡ place ∷ rest
        → lines_of_places lines objects program all ≡ (so_far.text ++ line_of_place lines objects program place) ++ lines_of_places lines objects program rest
    unfolding lines_of_places
    next_text place rest is =
        so_far.split ∙ ap (λ ps. so_far.text ++ lines_of_places lines objects program ps) is
        ∙ sym (append_assoc so_far.text (line_of_place lines objects program place) (lines_of_places lines objects program rest))

    pub writes_more : (place : ListedPlace) (rest : List ListedPlace) (new : OutState) → left ≡ place ∷ rest
        → SinkTakes mid new (line_of_place lines objects program place) → WritesPlaces lines objects program all rest old new
    writes_more place rest new is takes = record {
      text = so_far.text ++ line_of_place lines objects program place;
      takes = SinkTakes-then so_far.text (line_of_place lines objects program place) so_far.takes takes;
      split = next_text place rest is;
    }

    pub writes_fault : (place : ListedPlace) (rest : List ListedPlace) (new : OutState) → left ≡ place ∷ rest
        → SinkTakesPrefix mid new (line_of_place lines objects program place) → SinkTakesPrefix old new (lines_of_places lines objects program all)
    writes_fault place rest new is stopped =
        let part = SinkTakesPrefix-then so_far.text (line_of_place lines objects program place) so_far.takes stopped in
        rw (next_text place rest is) (SinkTakesPrefix-more _ (lines_of_places lines objects program rest) part)

    pub writes_all : {X : Type 0} (new : OutState) (result : Result X OutFault) → left ≡ [] → OutPuts mid new result [] → OutPuts old new result (lines_of_places lines objects program all)
    unfolding lines_of_places
    writes_all new result is puts =
        let whole : lines_of_places lines objects program all ≡ so_far.text ++ [] = so_far.split ∙ ap (λ ps. so_far.text ++ lines_of_places lines objects program ps) is in
        rw whole (puts_then new so_far.text [] result so_far.takes puts)

-- the places of objects in order
place_first : (known : List KnownObject) (n index : ℕ) → index < length known
    → places_in_order n (drop index known) ≡ record { index = n; depth = 0 } ∷ places_in_order (suc n) (drop (suc index) known)
unfolding places_in_order
place_first [] n index less = absurd (omega (arith, less))
place_first (object ∷ known) n zero less = refl
place_first (object ∷ known) n (suc index) less = place_first known n index (omega (arith, less))

pub place_next : (known : List KnownObject) (index : ℕ) → index < length known
    → places_in_order index (drop index known) ≡ record { index = index; depth = 0 } ∷ places_in_order (index + 1) (drop (index + 1) known)
place_next known index less =
    let one : index + 1 ≡ suc index = omega arith in rw one (place_first known index index less)

pub place_none : (known : List KnownObject) (index : ℕ) → length known ≤ index → places_in_order index (drop index known) ≡ []
unfolding places_in_order
place_none known index past = ap (places_in_order index) (drop_all index known past)
