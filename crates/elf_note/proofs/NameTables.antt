-- The names of version indices, with one more record.
use Rattle.std.proofs.Common.{◌≡◌, ◌≢◌, ℕ, ◌<◌, ◌≤◌, ◌==◌, ◌&&◌, Bool, true, false, List, [], ◌∷◌, ◌++◌, length, replicate, inl, inr, Option, None, Some, refl, sym, ap, slice_index_or, subst, ◌∙◌, arith}
use Rattle.std.proofs.lemmas.Bool.{cases_Bool, cases_eq, cases_lt}
use Rattle.std.proofs.lemmas.Bool.Decides.{nat_tests}
use Rattle.std.proofs.lemmas.List.{get_or-replicate, get_or-set_other, get_or-set_same, get_or_past, length-replicate, length-set}
use Rattle.std.proofs.Math.ListN.{set}
use Rattle.elf_model.specs.Versions.{VisitedRecord, named_at, named_by, names_version_index, names_version, number_in, number_word}
use Rattle.elf_model.proofs.VersionLaws.{first_list_names_first, named-here, named-later, named-none}
use Rattle.elf_note.specs.Prelude.{GivesName, IsNameOfRecord, IsPlaceOfRecord, NameFits, NamesNumbers, name_at}
use Rattle.elf_note.specs.declared.version_names.VersionNameRef.TheVariants.{Defined, Needed, Nowhere}
use Rattle.elf_note.specs.declared.version_names.VersionNameRef.{VersionNameRef}

-- if none of some records names a version index, the others after them do or do not
behind-none :
    (file : List ℕ) (number : ℕ) (first second : List VisitedRecord) → named_by file number first ≡ None
    → named_by file number (first ++ second) ≡ named_by file number second
behind-none file number [] second e = refl
behind-none file number (met ∷ first) second e =
    elim (cases_Bool (names_version_index file number met)) [
      | inl here ↦ let h = named-here file number met first here in absurd (cc)
      | inr later ↦
          named-later file number met (first ++ second) later
          ∙ behind-none file number first second (sym (named-later file number met first later) ∙ e)
    ]

-- a record after others that does not name the version index changes nothing
pub not-named :
    (file : List ℕ) (number : ℕ) (records : List VisitedRecord) (met : VisitedRecord) → names_version_index file number met ≡ false
    → named_by file number (records ++ met ∷ []) ≡ named_by file number records
not-named file number records met other = go (named_by file number records) refl
  where
    go : (o : Option VisitedRecord) → named_by file number records ≡ o → named_by file number (records ++ met ∷ []) ≡ named_by file number records
    go None e = behind-none file number records (met ∷ []) e ∙ named-later file number met [] other ∙ named-none file number ∙ sym e
    go (Some first) e = first_list_names_first file number records (met ∷ []) first e ∙ sym e

-- nor does one if another has named it
pub still-named :
    (file : List ℕ) (number : ℕ) (records : List VisitedRecord) (met first : VisitedRecord) → named_by file number records ≡ Some first
    → named_by file number (records ++ met ∷ []) ≡ named_by file number records
still-named file number records met first e = first_list_names_first file number records (met ∷ []) first e ∙ sym e

-- one that does, if none has, names it
pub now-named :
    (file : List ℕ) (number : ℕ) (records : List VisitedRecord) (met : VisitedRecord) → named_by file number records ≡ None
    → names_version_index file number met ≡ true → named_by file number (records ++ met ∷ []) ≡ Some met
now-named file number records met none here =
    behind-none file number records (met ∷ []) none ∙ named-here file number met [] here

-- a location that is nowhere is that of no record, and any other is that of one
pub nowhere-none : (file : List ℕ) (o : Option VisitedRecord) (name : VersionNameRef) → IsNameOfRecord file o name → name ≡ Nowhere → o ≡ None
nowhere-none file None name is e = refl
nowhere-none file (Some met) Nowhere is e = absurd is
nowhere-none file (Some met) (Defined index) is e = cc
nowhere-none file (Some met) (Needed index) is e = cc

pub somewhere-some : (file : List ℕ) (o : Option VisitedRecord) (name : VersionNameRef) → IsNameOfRecord file o name → (name ≡ Nowhere → ⊥) → (met : VisitedRecord) × (o ≡ Some met)
somewhere-some file None Nowhere is other = absurd (other refl)
somewhere-some file None (Defined index) is other = absurd is
somewhere-some file None (Needed index) is other = absurd is
somewhere-some file (Some met) name is other = (met, refl)

-- a record names no version index but its own
other-number : (version : Bool) (own number : ℕ) → own ≢ number → (version && (own == number)) ≡ false
other-number true own number other = grind (arith, nat_tests)
other-number false own number other = refl

own-number : (version : Bool) (own number : ℕ) → own ≡ number → (version && (own == number)) ≡ version
own-number true own number same = grind (arith, nat_tests)
own-number false own number same = refl

-- the name that a record gives a version index, if none has named it before
gives-here :
    (file : List ℕ) (number : ℕ) (records : List VisitedRecord) (met : VisitedRecord) (name : VersionNameRef) (version : Bool) → names_version file met ≡ version
    → number_in (number_word file met) ≡ number → named_by file number records ≡ None → GivesName file met version name
    → IsNameOfRecord file (named_by file number (records ++ met ∷ [])) name
gives-here file number records met name true is own none gives =
    let named = now-named file number records met none (own-number (names_version file met) _ number own ∙ is) in
    rw named gives
gives-here file number records met name false is own none gives =
    let unnamed = not-named file number records met (own-number (names_version file met) _ number own ∙ is) ∙ none in
    rw (unnamed, gives) tt

-- a record that is added if its version index has no name
new-names :
    (file : List ℕ) (records : List VisitedRecord) (met : VisitedRecord) (names : List VersionNameRef) (own : ℕ) (name : VersionNameRef) → own < length names
    → number_in (number_word file met) ≡ own → name_at names own ≡ Nowhere → GivesName file met (names_version file met) name
    → ((number : ℕ) → IsNameOfRecord file (named_by file number records) (name_at names number))
    → (number : ℕ) → IsNameOfRecord file (named_by file number (records ++ met ∷ [])) (name_at (set names own name) number)
new-names file records met names own name inside is nowhere gives before number =
    elim (cases_eq own number) [
      | inl same ↦
          let none : named_by file own records ≡ None = nowhere-none file (named_by file own records) (name_at names own) (before own) nowhere in
          let here = gives-here file own records met name (names_version file met) refl is none gives in
          let is_at : name_at (set names own name) own ≡ name = get_or-set_same names own name Nowhere inside in
          rw (← same) (rw is_at here)
      | inr other ↦
          let kept : name_at (set names own name) number ≡ name_at names number = get_or-set_other names own number name Nowhere (λ e. other (sym e)) in
          let unnamed = not-named file number records met (other-number (names_version file met) (number_in (number_word file met)) number (λ e. other (sym is ∙ e))) in
          rw (kept, unnamed) (before number)
    ]

-- the place that is stored for it
place-here :
    (file : List ℕ) (number : ℕ) (records : List VisitedRecord) (met : VisitedRecord) (version : Bool) → names_version file met ≡ version
    → number_in (number_word file met) ≡ number → named_by file number records ≡ None
    → IsPlaceOfRecord file (named_by file number (records ++ met ∷ [])) (named_at file met)
place-here file number records met true is own none =
    rw (now-named file number records met none (own-number (names_version file met) _ number own ∙ is)) refl
place-here file number records met false is own none =
    rw (not-named file number records met (own-number (names_version file met) _ number own ∙ is) ∙ none) tt

new-places :
    (file : List ℕ) (records : List VisitedRecord) (met : VisitedRecord) (places : List ℕ) (own place : ℕ)
    → number_in (number_word file met) ≡ own → named_by file own records ≡ None → place ≡ named_at file met
    → ((number : ℕ) → number < length places → IsPlaceOfRecord file (named_by file number records) (slice_index_or places number 0))
    → (number : ℕ) → number < length (set places own place) → IsPlaceOfRecord file (named_by file number (records ++ met ∷ [])) (slice_index_or (set places own place) number 0)
new-places file records met places own place is none here before number few =
    let inside : number < length places = rw (length-set places own place) at few in
    elim (cases_eq own number) [
      | inl same ↦
          let low : own < length places = rw (← same) at inside in
          let is_at : slice_index_or (set places own place) own 0 ≡ place = get_or-set_same places own place 0 low in
          rw (← same) (rw (is_at, here) (place-here file own records met (names_version file met) refl is none))
      | inr other ↦
          let kept : slice_index_or (set places own place) number 0 ≡ slice_index_or places number 0 = get_or-set_other places own number place 0 (λ e. other (sym e)) in
          let unnamed = not-named file number records met (other-number (names_version file met) (number_in (number_word file met)) number (λ e. other (sym is ∙ e))) in
          rw (kept, unnamed) (before number inside)
    ]

pub take-new :
    (file : List ℕ) (records : List VisitedRecord) (met : VisitedRecord) (names : List VersionNameRef) (places : List ℕ) (own place : ℕ) (name : VersionNameRef) → own < length names
    → number_in (number_word file met) ≡ own → name_at names own ≡ Nowhere → GivesName file met (names_version file met) name → place ≡ named_at file met
    → NamesNumbers file records names places → NamesNumbers file (records ++ met ∷ []) (set names own name) (set places own place)
take-new file records met names places own place name inside is nowhere gives here before =
    let none : named_by file own records ≡ None = nowhere-none file (named_by file own records) (name_at names own) (before.named own) nowhere in
    record {
      named = new-names file records met names own name inside is nowhere gives before.named;
      placed = new-places file records met places own place is none here before.placed;
    }

-- and one if it has
pub take-old :
    (file : List ℕ) (records : List VisitedRecord) (met : VisitedRecord) (names : List VersionNameRef) (places : List ℕ) (own : ℕ)
    → number_in (number_word file met) ≡ own → (name_at names own ≡ Nowhere → ⊥)
    → NamesNumbers file records names places → NamesNumbers file (records ++ met ∷ []) names places
take-old file records met names places own is somewhere before = record {
  named = λ number. rw (still number) (before.named number);
  placed = λ number few. rw (still number) (before.placed number few);
}
  where
    still : (number : ℕ) → named_by file number (records ++ met ∷ []) ≡ named_by file number records
    still number =
        elim (cases_eq own number) [
          | inl same ↦
              let first = somewhere-some file (named_by file own records) (name_at names own) (before.named own) somewhere in
              ap (λ n. named_by file n (records ++ met ∷ [])) (sym same) ∙ still-named file own records met first.0 first.1 ∙ ap (λ n. named_by file n records) same
          | inr other ↦ not-named file number records met (other-number (names_version file met) (number_in (number_word file met)) number (λ e. other (sym is ∙ e)))
        ]

-- no version index has a name if there is no record
pub none-names : (file : List ℕ) (count number : ℕ) → IsNameOfRecord file (named_by file number []) (name_at (replicate count Nowhere) number)
none-names file count number =
    let none = named-none file number in
    elim (cases_lt number count) [
      | inl low ↦ let here : name_at (replicate count Nowhere) number ≡ Nowhere = get_or-replicate count number Nowhere Nowhere low in rw (none, here) tt
      | inr high ↦
          let here : name_at (replicate count Nowhere) number ≡ Nowhere = get_or_past (replicate count Nowhere) number Nowhere (omega (arith, length-replicate count Nowhere)) in
          rw (none, here) tt
    ]

-- a name of a version index that is low enough
pub name-fits : (number : ℕ) (name : VersionNameRef) → number < 1024 → NameFits number name
name-fits number Nowhere low = tt
name-fits number (Defined index) low = low
name-fits number (Needed index) low = low

-- a version index past the last has no name
pub behind-last :
    (file : List ℕ) (o : Option VisitedRecord) (names : List VersionNameRef) (number : ℕ) → length names ≤ number → IsNameOfRecord file o (name_at names number)
    → IsNameOfRecord file o Nowhere
behind-last file o names number far is =
    let none : name_at names number ≡ Nowhere = get_or_past names number Nowhere far in
    subst (IsNameOfRecord file o) none is
