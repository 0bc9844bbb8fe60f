-- The names of versions in a buffer, by their indexes.
use Rattle.std.proofs.Common.{◌≡◌, ℕ, ◌<◌, ◌==◌, Bool, true, false, List, [], ◌∷◌, ◌++◌, length, take, drop, refl, sym, ap, subst, ◌∙◌, arith, length-set}
use Rattle.std.specs.Prelude.{Option, None, Some, if◌then◌else◌, is_some, slice_set}
use Rattle.std.proofs.lemmas.List.{append-nil, drop_all, get_or-set_other, get_or-set_same, take_all}
use Rattle.elf_resolve.specs.LibraryVersions.{NumberedName, name_of_number}
use Rattle.elf_resolve.specs.ObjectSymbols.{HoldsSome}
use Rattle.elf_resolve.specs.StringBuffers.{HoldsText}
use Rattle.elf_resolve.specs.VersionTexts.{text_of_number}
use Rattle.elf_resolve.specs.VersionWalks.{HoldsVersionNames}
use Rattle.elf_resolve.specs.declared.string_buffer.HeldText.{HeldText}
use Rattle.elf_resolve.proofs.VersionPlaceLaws.{eq_is, eq_other, eq_true}

-- A NAME MORE after others: the name of an index is the first
name_other : (known : List NumberedName) (one : NumberedName) (number : ℕ) → (one.number == number) ≡ false → name_of_number (known ++ one ∷ []) number ≡ name_of_number known number
name_other [] one number other = rw other refl
name_other (first ∷ known) one number other = ap (λ (rest : Option (List ℕ)). if first.number == number then Some first.name else rest) (name_other known one number other)

name_new : (known : List NumberedName) (one : NumberedName) (number : ℕ) → (one.number == number) ≡ true → name_of_number known number ≡ None → name_of_number (known ++ one ∷ []) number ≡ Some one.name
name_new [] one number same none = rw same refl
name_new (first ∷ known) one number same none = by_test (first.number == number) (name_new known one number same) none
  where
    by_test : (t : Bool) → (name_of_number known number ≡ None → name_of_number (known ++ one ∷ []) number ≡ Some one.name)
        → (if t then Some first.name else name_of_number known number) ≡ None → (if t then Some first.name else name_of_number (known ++ one ∷ []) number) ≡ Some one.name
    by_test true rest none = absurd (cc)
    by_test false rest none = rest none

name_first : (known : List NumberedName) (one : NumberedName) (number : ℕ) (name : List ℕ) → name_of_number known number ≡ Some name → name_of_number (known ++ one ∷ []) number ≡ Some name
name_first [] one number name is = absurd (cc)
name_first (first ∷ known) one number name is = by_test (first.number == number) (name_first known one number name) is
  where
    by_test : (t : Bool) → (name_of_number known number ≡ Some name → name_of_number (known ++ one ∷ []) number ≡ Some name)
        → (if t then Some first.name else name_of_number known number) ≡ Some name → (if t then Some first.name else name_of_number (known ++ one ∷ []) number) ≡ Some name
    by_test true rest is = is
    by_test false rest is = rest is

-- an index without a name has one from now on
pub name_set : (bytes : List ℕ) (texts : List (Option HeldText)) (known : List NumberedName) (number : ℕ) (name : HeldText) (is : List ℕ) → number < 1024 → is_some (text_of_number texts number) ≡ false
    → HoldsVersionNames bytes texts known → HoldsText bytes name is → HoldsVersionNames bytes (slice_set texts number (Some name)) (known ++ record { number = number; name = is } ∷ [])
name_set bytes texts known number name is small none held text = record {
  room = length-set texts number (Some name) ∙ held.room;
  names_are = λ other. by_test other (number == other) refl;
}
  where
    there : number < length texts
    there = omega (arith, held.room)

    by_text : (text : Option HeldText) → is_some text ≡ false → HoldsSome bytes text (name_of_number known number) → name_of_number known number ≡ None
    by_text None none held = held
    by_text (Some text) none held = absurd (cc)

    free : name_of_number known number ≡ None
    free = by_text (text_of_number texts number) none (held.names_are number)

    here : HoldsSome bytes (text_of_number (slice_set texts number (Some name)) number) (name_of_number (known ++ record { number = number; name = is } ∷ []) number)
    here = rw (get_or-set_same texts number (Some name) None there, name_new known (record { number = number; name = is }) number (eq_true number number refl) free) text

    by_test : (other : ℕ) (t : Bool) → (number == other) ≡ t
        → HoldsSome bytes (text_of_number (slice_set texts number (Some name)) other) (name_of_number (known ++ record { number = number; name = is } ∷ []) other)
    by_test other true e =
        subst (λ k. HoldsSome bytes (text_of_number (slice_set texts number (Some name)) k) (name_of_number (known ++ record { number = number; name = is } ∷ []) k)) (eq_is number other e) here
    by_test other false e =
        rw (get_or-set_other texts number other (Some name) None (eq_other number other e), name_other known (record { number = number; name = is }) other e) (held.names_are other)

-- an index that has a name keeps it
pub name_kept : (bytes : List ℕ) (texts : List (Option HeldText)) (known : List NumberedName) (number : ℕ) (is : List ℕ) → is_some (text_of_number texts number) ≡ true
    → HoldsVersionNames bytes texts known → HoldsVersionNames bytes texts (known ++ record { number = number; name = is } ∷ [])
name_kept bytes texts known number is some held = record {
  room = held.room;
  names_are = λ other. by_test other (number == other) refl;
}
  where
    by_name : (text : Option HeldText) (name : Option (List ℕ)) → is_some text ≡ true → HoldsSome bytes text name → name_of_number known number ≡ name
        → HoldsSome bytes text (name_of_number (known ++ record { number = number; name = is } ∷ []) number)
    by_name None name some held e = absurd (cc)
    by_name (Some text) None some held e = absurd held
    by_name (Some text) (Some old) some held e = rw (name_first known (record { number = number; name = is }) number old e) held

    by_test : (other : ℕ) (t : Bool) → (number == other) ≡ t → HoldsSome bytes (text_of_number texts other) (name_of_number (known ++ record { number = number; name = is } ∷ []) other)
    by_test other true e =
        subst (λ k. HoldsSome bytes (text_of_number texts k) (name_of_number (known ++ record { number = number; name = is } ∷ []) k)) (eq_is number other e)
        (by_name (text_of_number texts number) (name_of_number known number) some (held.names_are number) refl)
    by_test other false e = subst (HoldsSome bytes (text_of_number texts other)) (sym (name_other known (record { number = number; name = is }) other e)) (held.names_are other)

-- what a slice of all items was set to
pub all_written : {A : Type 0} (n : ℕ) (lent new old : List A) → lent ≡ old → length new ≡ length lent → n ≡ length old → take n (new ++ drop (length new) old) ≡ new
all_written n lent new old is same all =
    let long : length new ≡ length old = same ∙ ap length is in
    ap (λ b. take n (new ++ b)) (drop_all (length new) old (omega arith)) ∙ ap (take n) (append-nil new) ∙ take_all n new (omega arith)

pub names_written : (bytes : List ℕ) (n : ℕ) (lent new old : List (Option HeldText)) (names : List NumberedName) → lent ≡ old → length new ≡ length lent → n ≡ length old → HoldsVersionNames bytes new names
    → HoldsVersionNames bytes (take n (new ++ drop (length new) old)) names
names_written bytes n lent new old names is same all held = subst (λ (t : List (Option HeldText)). HoldsVersionNames bytes t names) (sym (all_written n lent new old is same all)) held
