-- What an entry gives about how a file is linked, and what is stored of it.
use Rattle.std.proofs.Common.{◌≡◌, ℕ, zero, suc, ◌<◌, ◌==◌, Bool, true, false, List, [], ◌∷◌, ◌++◌, length, slice_index_or, Option, None, Some, Result, Ok, Err, refl, sym, ap, ◌∙◌, arith, length-append, append_assoc}
use Rattle.std.proofs.lemmas.Bool.Decides.{nat_tests}
use Rattle.elf_model.specs.Prelude.{LinkState, NeededName, TextRoom, d_tag, d_un, first_refusal, first_text, is_link, link_text, linked_by, linked_with, mapped_bytes, mapped_checks, mapped_place, room_after, shown, strings_at}
use Rattle.elf_model.specs.declared.causes.Refusal.{Refusal}
use Rattle.elf_model.specs.declared.causes.Cause.TheVariants.{Unmapped}
use Rattle.elf_table.specs.Prelude.{StringTableRange, strings, strings_mapped}
use Rattle.elf_table.specs.declared.fault.Fault.{Fault}
use Rattle.elf_table.specs.declared.fault.Fault.TheVariants.{Refused, Source}
use Rattle.elf_library.specs.Prelude.{AreNeeds, IsHeldText, IsNeed, KeepsLinks, KeepsText, LinkInfoState, ReturnsLinks, ReturnsStrings, ReturnsText, first_index, text_by, with_index}
use Rattle.elf_library.specs.declared.links.LinkInfo.{LinkInfo}
use Rattle.elf_library.specs.declared.links.NeededLibrary.{NeededLibrary}

-- THE STRINGS that entries locate
module _ (file : List ℕ) (at : ℕ) where
  pub strings_nowhere : (size : Option ℕ) → strings_at file at None size ≡ Err (record { at = at; cause = Unmapped })
  unfolding strings_at
  strings_nowhere size = refl

  pub strings_unsized : (address : ℕ) → strings_at file at (Some address) None ≡ Err (record { at = at; cause = Unmapped })
  unfolding strings_at
  strings_unsized address = refl

  module _ (address size : ℕ) where
    strings_pass : first_refusal (mapped_checks file address size at) ≡ None → strings_at file at (Some address) (Some size) ≡ Ok (mapped_bytes file address size)
    unfolding strings_at
    strings_pass e = rw (e, strings_at) refl

    strings_fail : (refusal : Refusal) → first_refusal (mapped_checks file address size at) ≡ Some refusal → strings_at file at (Some address) (Some size) ≡ Err refusal
    unfolding strings_at
    strings_fail refusal e = rw (e, strings_at) refl

    pub strings_found : (result : Result StringTableRange Fault) → result ≡ strings_mapped file address size at → ReturnsStrings file (strings_at file at (Some address) (Some size)) result
    strings_found result is = go (first_refusal (mapped_checks file address size at)) refl
      where
        go : (first : Option Refusal) → first_refusal (mapped_checks file address size at) ≡ first → ReturnsStrings file (strings_at file at (Some address) (Some size)) result
        go None e =
            let r : result ≡ Ok (strings (mapped_place file address size) size) = is ∙ rw (e, strings_mapped) refl in
            rw r (strings_pass e)
        go (Some refusal) e =
            let r : result ≡ Err (Refused refusal) = is ∙ rw (e, strings_mapped) refl in
            rw r (strings_fail refusal e)

-- TEXTS that are stored stay where they are, with others after them
kept_at : (xs ys : List (List ℕ)) (i : ℕ) → i < length xs → slice_index_or (xs ++ ys) i [] ≡ slice_index_or xs i []
kept_at [] ys i below = absurd (omega (arith, below))
kept_at (x ∷ xs) ys zero below = refl
kept_at (x ∷ xs) ys (suc i) below = kept_at xs ys i (omega (arith, below))

last_at : (xs : List (List ℕ)) (text : List ℕ) → slice_index_or (xs ++ text ∷ []) (length xs) [] ≡ text
last_at [] text = refl
last_at (x ∷ xs) text = last_at xs text

longer : (xs : List (List ℕ)) (text : List ℕ) (i : ℕ) → i < length xs → i < length (xs ++ text ∷ [])
longer xs text i below = let n = length-append xs (text ∷ []) in omega (arith, below, n)

last_below : (xs : List (List ℕ)) (text : List ℕ) → length xs < length (xs ++ text ∷ [])
last_below xs text = let n = length-append xs (text ∷ []) in omega (arith, n)

module _ (texts : List (List ℕ)) (text : List ℕ) where
  text_kept : (index : Option ℕ) (told : Option (List ℕ)) → IsHeldText texts index told → IsHeldText (texts ++ text ∷ []) index told
  text_kept None told is = is
  text_kept (Some i) told is = (longer texts text i is.0, is.1 ∙ ap (λ (t : List ℕ). Some t) (sym (kept_at texts (text ∷ []) i is.0)))

  text_first : (index : Option ℕ) (told : Option (List ℕ)) (is : Bool) → IsHeldText texts index told
      → IsHeldText (texts ++ text ∷ []) (first_index index is (length texts)) (first_text told is text)
  text_first None told true is = rw is (last_below texts text, ap (λ (t : List ℕ). Some t) (sym (last_at texts text)))
  text_first None told false is = rw is refl
  text_first (Some i) told b is = rw is.1 (text_kept (Some i) _ (is.0, refl))

  needs_kept : (needs : List NeededLibrary) (told : List NeededName) → AreNeeds texts needs told → AreNeeds (texts ++ text ∷ []) needs told
  needs_kept [] [] are = tt
  needs_kept (need ∷ needs) (name ∷ told) are =
      (record { at = are.0.at; below = longer texts text need.name are.0.below; name = kept_at texts (text ∷ []) need.name are.0.below ∙ are.0.name }, needs_kept needs told are.1)
  needs_kept [] (name ∷ told) are = absurd are
  needs_kept (need ∷ needs) [] are = absurd are

  last_need : (at : ℕ) → IsNeed (texts ++ text ∷ []) (record { at = at; name = length texts }) (record { at = at; name = text })
  last_need at = record { at = refl; below = last_below texts text; name = last_at texts text }

needs_more : (texts : List (List ℕ)) (needs : List NeededLibrary) (told : List NeededName) (need : NeededLibrary) (name : NeededName) → AreNeeds texts needs told → IsNeed texts need name
    → AreNeeds texts (needs ++ need ∷ []) (told ++ name ∷ [])
needs_more texts [] [] need name are is = (is, tt)
needs_more texts (other ∷ needs) (one ∷ told) need name are is = (are.0, needs_more texts needs told need name are.1 is)
needs_more texts [] (one ∷ told) need name are is = absurd are
needs_more texts (other ∷ needs) [] need name are is = absurd are

no_text : (told : Option (List ℕ)) (text : List ℕ) → first_text told false text ≡ told
no_text None text = refl
no_text (Some t) text = refl

-- AN ENTRY, by its tag and its text
module _ (file : List ℕ) (address size : Option ℕ) (at : ℕ) where
  text_nowhere : (room : TextRoom) (refusal : Refusal) → strings_at file at address size ≡ Err refusal → link_text file address size room at ≡ Err refusal
  unfolding link_text
  text_nowhere room refusal e = rw (e, link_text) refl

  text_is : (room : TextRoom) (strings : List ℕ) → strings_at file at address size ≡ Ok strings → link_text file address size room at ≡ text_by room at (shown strings (d_un file at) 4096)
  unfolding link_text
  text_is room strings e = rw (e, link_text) refl

  module _ (state : LinkState) where
    pub with_other : is_link (d_tag file at) ≡ false → linked_with file address size at state ≡ Ok state
    unfolding linked_with
    with_other isnt = rw (isnt, linked_with) refl

    module _ (is : is_link (d_tag file at) ≡ true) where
      with_refused : (refusal : Refusal) → link_text file address size state.room at ≡ Err refusal → linked_with file address size at state ≡ Err refusal
      unfolding linked_with
      with_refused refusal e = rw (is, e, linked_with) refl

      with_told : (text : List ℕ) → link_text file address size state.room at ≡ Ok text
          → linked_with file address size at state ≡ Ok (record { links = linked_by (d_tag file at) at text state.links; room = room_after state.room text })
      unfolding linked_with
      with_told text e = rw (is, e, linked_with) refl

      -- its strings are refused, or its text
      pub names_stop : (before new : LinkInfoState) (fault : Fault) → ReturnsStrings file (strings_at file at address size) (Err fault) → ReturnsLinks (linked_with file address size at state) before new (Err fault)
      names_stop before new (Refused refusal) e = λ other. with_refused refusal (text_nowhere state.room refusal e)
      names_stop before new (Source fault offset) e = absurd e

      pub text_stops : (strings : List ℕ) (room : TextRoom) (before old new : LinkInfoState) (fault : Fault) → strings_at file at address size ≡ Ok strings → room ≡ state.room
          → (off : ℕ) → off ≡ d_un file at → ReturnsText (text_by room at (shown strings off 4096)) old new (Err fault) → ReturnsLinks (linked_with file address size at state) before new (Err fault)
      text_stops strings room before old new (Refused refusal) e same off is_at tells = λ other.
          with_refused refusal
          (text_is state.room strings e ∙ ap (λ (n : ℕ). text_by state.room at (shown strings n 4096)) (sym is_at) ∙ ap (λ (r : TextRoom). text_by r at (shown strings off 4096)) (sym same)
          ∙ tells other)
      text_stops strings room before old new (Source fault offset) e same off is_at tells = tt

      -- its text is stored
      module _ (strings : List ℕ) (before old mid : LinkInfoState) (index : ℕ) (links : LinkInfo) (e : strings_at file at address size ≡ Ok strings)
          (off : ℕ) (is_at : off ≡ d_un file at) (k : KeepsText (text_by old.held.room at (shown strings off 4096)) old mid index) (l : KeepsLinks before old links state) where
        told : linked_with file address size at state ≡ Ok (record { links = linked_by (d_tag file at) at k.text state.links; room = room_after state.room k.text })
        told =
            with_told k.text
            (text_is state.room strings e ∙ ap (λ (n : ℕ). text_by state.room at (shown strings n 4096)) (sym is_at) ∙ ap (λ (r : TextRoom). text_by r at (shown strings off 4096)) (sym l.room)
            ∙ k.reported_text)

        texts_more : old.held.texts ++ k.text ∷ [] ≡ before.held.texts ++ (l.more ++ k.text ∷ [])
        texts_more = ap (λ (t : List (List ℕ)). t ++ k.text ∷ []) l.texts ∙ append_assoc before.held.texts l.more (k.text ∷ [])

        room_less : room_after old.held.room k.text ≡ room_after state.room k.text
        room_less = ap (λ (r : TextRoom). room_after r k.text) l.room

        pub text_told : (tag : ℕ) → tag ≡ d_tag file at → (tag == 1) ≡ false → ReturnsLinks (linked_with file address size at state) before mid (Ok (with_index links tag index))
        unfolding linked_by
        text_told tag same other = (
          _,
          told,
          rw (k.kept, k.its_index, ← same, other) (record {
            more = l.more ++ k.text ∷ [];
            texts = texts_more;
            needed = l.needed;
            needs = l.needs;
            are = needs_kept old.held.texts k.text l.needed state.links.needed l.are;
            soname = text_first old.held.texts k.text links.soname state.links.soname (tag == 14) l.soname;
            rpath = text_first old.held.texts k.text links.rpath state.links.rpath (tag == 15) l.rpath;
            runpath = text_first old.held.texts k.text links.runpath state.links.runpath (tag == 29) l.runpath;
            room = room_less;
          }),
        )

        pub need_told : d_tag file at ≡ 1 → (new : LinkInfoState) → new ≡ record { held = mid.held; needs = mid.needs ++ record { at = at; name = index } ∷ [] }
            → ReturnsLinks (linked_with file address size at state) before new (Ok links)
        unfolding linked_by
        need_told tag new is =
            let name : NeededName = record { at = at; name = k.text } in
            let need : NeededLibrary = record { at = at; name = length old.held.texts } in
            let texts = old.held.texts in (
              _,
              told,
              rw (is, k.kept, k.its_index, tag) (record {
                more = l.more ++ k.text ∷ [];
                texts = texts_more;
                needed = l.needed ++ need ∷ [];
                needs = ap (λ (n : List NeededLibrary). n ++ need ∷ []) l.needs ∙ append_assoc before.needs l.needed (need ∷ []);
                are = needs_more (texts ++ k.text ∷ []) l.needed state.links.needed need name (needs_kept texts k.text l.needed state.links.needed l.are) (last_need texts k.text at);
                soname = rw (no_text state.links.soname k.text) (text_kept texts k.text links.soname state.links.soname l.soname);
                rpath = rw (no_text state.links.rpath k.text) (text_kept texts k.text links.rpath state.links.rpath l.rpath);
                runpath = rw (no_text state.links.runpath k.text) (text_kept texts k.text links.runpath state.links.runpath l.runpath);
                room = room_less;
              }),
            )

pub isnt_tag : (tag other : ℕ) → (tag ≡ other → ⊥) → (tag == other) ≡ false
isnt_tag tag other isnt = grind (arith, nat_tests)
