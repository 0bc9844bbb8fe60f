-- The dynamic entries of a shared library, one after the other, and the names that they give.
use Rattle.std.proofs.Common.{◌≡◌, ℕ, suc, ◌+◌, ◌-◌, ◌*◌, ◌/◌, ◌<◌, ◌≤◌, ◌^◌, ◌==◌, ◌&&◌, min, Bool, true, false, List, [], length, inl, inr, refl, sym, ap, subst, ◌∙◌, arith, if◌then◌else◌}
use Rattle.std.specs.Prelude.{Option, None, Some, Result, Ok, Err, is_none}
use Rattle.std.proofs.lemmas.Bool.{cases_lt}
use Rattle.elf_model.specs.Bytes.{field, slice}
use Rattle.elf_model.specs.LinkArchives.{refusal_of}
use Rattle.elf_model.specs.LinkSymbols.{link_name}
use Rattle.elf_model.specs.Records.{d_tag, d_un, sh_offset, sh_size}
use Rattle.elf_model.specs.Tables.{DYNAMIC_SIZE, entry_at, entry_count, section_bytes, strings_of}
use Rattle.elf_model.specs.declared.link_states.LinkRefusal.{LinkRefusal}
use Rattle.elf_model.proofs.Slices.{field-slice, slice-size}
use Rattle.elf_resolve.specs.LibraryEntries.{FindsOwnName, IsDynamicEntry, entry_name, own_kept, own_name_from, own_named, own_step}
use Rattle.elf_resolve.specs.LibraryFiles.{HoldsDynamic}
use Rattle.elf_resolve.specs.ObjectSymbols.{HoldsSome}
use Rattle.elf_resolve.specs.StringBuffers.{FindsText}
use Rattle.elf_resolve.specs.VersionWalks.{IsRecordRefusal}
use Rattle.elf_resolve.specs.declared.library.DynamicEntry.{DynamicEntry}
use Rattle.elf_resolve.specs.declared.library.DynamicRows.{DynamicRows}
use Rattle.elf_resolve.specs.declared.link_faults.LinkFault.{LinkFault}
use Rattle.elf_resolve.specs.declared.link_faults.LinkFault.TheVariants.{Refused, Read, Open, Memory}
use Rattle.elf_resolve.specs.declared.string_buffer.HeldText.{HeldText}
use Rattle.elf_resolve.proofs.StringBufferLaws.{held_size}
use Rattle.elf_resolve.proofs.VersionPlaceLaws.{eq_false, eq_true}

-- how many entries there can be
pub count_is : (file bytes : List ℕ) (at : ℕ) (dynamic : DynamicRows) → HoldsDynamic file bytes at dynamic → dynamic.rows.size / 16 ≡ entry_count file at DYNAMIC_SIZE
count_is file bytes at dynamic held = ap (λ n. n / 16) (sym (held_size bytes dynamic.rows (section_bytes file at) held.rows) ∙ held.whole)

-- THE BYTES OF AN ENTRY are a part of those of the section
module _ (file bytes rows part : List ℕ) (at index start : ℕ) (dynamic : DynamicRows) (held : HoldsDynamic file bytes at dynamic) (is : rows ≡ section_bytes file at) (fits : length rows < 2 ^ 64)
    (from : start ≡ min (index * 16) (2 ^ 64 - 1)) (here : start + 16 ≤ length rows → part ≡ slice rows start 16) (none : length rows < start + 16 → part ≡ []) where
  sized : length rows ≡ sh_size file at
  sized = ap length is ∙ held.whole

  pub entry_past : length part < 16 → index < entry_count file at DYNAMIC_SIZE → ⊥
  entry_past short below =
      let inside : index * 16 + 16 ≤ sh_size file at = omega (arith, below) in
      let same : start ≡ index * 16 = omega (arith, sized) in
      let within : start + 16 ≤ length rows = omega (arith, sized) in
      omega (arith, ap length (here within), slice-size rows start 16 within)

  entry_within : 16 ≤ length part → start + 16 ≤ length rows
  entry_within long = elim (cases_lt (length rows) (start + 16)) [
    | inl past ↦ absurd (omega (arith, ap length (none past)))
    | inr within ↦ within
  ]

  entry_field : (from_byte : ℕ) → from_byte + 8 ≤ 16 → 16 ≤ length part → field part from_byte 8 ≡ field file (entry_at file at DYNAMIC_SIZE index + from_byte) 8
  entry_field from_byte small long =
      let within = entry_within long in
      let inside : (start + from_byte) + 8 ≤ sh_size file at = omega (arith, within, sized) in
      let there : sh_offset file at + (start + from_byte) ≡ entry_at file at DYNAMIC_SIZE index + from_byte = omega (arith, within) in
      ap (λ b. field b from_byte 8) (here within) ∙ field-slice rows start 16 from_byte 8 small ∙ ap (λ b. field b (start + from_byte) 8) is
      ∙ field-slice file (sh_offset file at) (sh_size file at) (start + from_byte) 8 inside ∙ ap (λ n. field file n 8) there

  pub entry_tag : 16 ≤ length part → field part 0 8 ≡ d_tag file (entry_at file at DYNAMIC_SIZE index)
  entry_tag long =
      let first : entry_at file at DYNAMIC_SIZE index + 0 ≡ entry_at file at DYNAMIC_SIZE index = omega arith in
      entry_field 0 (omega arith) long ∙ ap (λ n. field file n 8) first

  pub entry_found : (tag value place : ℕ) → 16 ≤ length part → tag ≡ field part 0 8 → value ≡ field part 8 8 → place ≡ min (dynamic.at + start) (2 ^ 64 - 1) → (tag ≡ 0 → ⊥)
      → IsDynamicEntry file at index (record { tag = tag; value = value; at = place })
  entry_found tag value place long tag_is value_is placed some =
      let within = entry_within long in
      let same : start ≡ index * 16 = omega (arith, within) in
      record {
        below = omega (arith, within, sized);
        tag_is = tag_is ∙ entry_tag long;
        value_is = value_is ∙ entry_field 8 (omega arith) long;
        at_is = omega (arith, placed, held.at_is, held.fits, within, sized);
        some = λ null. some (tag_is ∙ entry_tag long ∙ null);
      }

-- THE NAME of an entry is refused, or gives the library's own
pub entry_refused : (bytes strings : List ℕ) (index at : ℕ) (fault : LinkFault) → FindsText bytes strings index at (Err fault) → IsRecordRefusal (refusal_of (link_name strings index at)) fault
entry_refused bytes strings index at (Refused refusal) is = ap refusal_of is
entry_refused bytes strings index at Read is = is
entry_refused bytes strings index at Open is = is
entry_refused bytes strings index at Memory is = is

pub none_same : (bytes : List ℕ) (text : Option HeldText) (name : Option (List ℕ)) → HoldsSome bytes text name → is_none text ≡ is_none name
none_same bytes None name held = ap is_none (sym held)
none_same bytes (Some text) None held = absurd held
none_same bytes (Some text) (Some name) held = refl

step_by : (gives needs : Bool) (own : Option (List ℕ)) (name : Result (List ℕ) LinkRefusal) → Result (Option (List ℕ)) LinkRefusal
step_by gives needs own name = if gives then own_named name else if needs then own_kept own name else Ok own

named_refusal : (name : Result (List ℕ) LinkRefusal) → refusal_of (own_named name) ≡ refusal_of name
named_refusal (Ok name) = refl
named_refusal (Err refusal) = refl

kept_refusal : (own : Option (List ℕ)) (name : Result (List ℕ) LinkRefusal) → refusal_of (own_kept own name) ≡ refusal_of name
kept_refusal own (Ok name) = refl
kept_refusal own (Err refusal) = refl

module _ (file : List ℕ) (at index : ℕ) (entry : DynamicEntry) (is : IsDynamicEntry file at index entry) where
  abbrev place : ℕ
  place = entry_at file at DYNAMIC_SIZE index

  abbrev name_here : Result (List ℕ) LinkRefusal
  name_here = entry_name file at place

  name_same : link_name (strings_of file at) entry.value entry.at ≡ name_here
  name_same = ap (λ v. link_name (strings_of file at) v entry.at) is.value_is ∙ ap (λ p. link_name (strings_of file at) (d_un file place) p) is.at_is

  tag_test : (number : ℕ) → (entry.tag == number) ≡ (d_tag file place == number)
  tag_test number = ap (λ t. t == number) is.tag_is

  own_test : (bytes : List ℕ) (own : Option HeldText) (before : Option (List ℕ)) (test : Bool) → HoldsSome bytes own before → (entry.tag == 14 && is_none own) ≡ test → (d_tag file place == 14 && is_none before) ≡ test
  own_test bytes own before test held e = ap (λ b. b && is_none before) (sym (tag_test 14)) ∙ ap (λ b. entry.tag == 14 && b) (sym (none_same bytes own before held)) ∙ e

  -- it gives the own name
  step_own : (before : Option (List ℕ)) → (d_tag file place == 14 && is_none before) ≡ true → own_step file at place before ≡ own_named name_here
  step_own before e = ap (λ b. if b then own_named name_here else if d_tag file place == 1 then own_kept before name_here else Ok before) e

  step_other : (before : Option (List ℕ)) → (d_tag file place == 14 && is_none before) ≡ false → own_step file at place before ≡ (if d_tag file place == 1 then own_kept before name_here else Ok before)
  step_other before e = ap (λ b. if b then own_named name_here else if d_tag file place == 1 then own_kept before name_here else Ok before) e

  pub gives_own : (bytes : List ℕ) (own : Option HeldText) (before : Option (List ℕ)) (text : HeldText) → HoldsSome bytes own before → (entry.tag == 14 && is_none own) ≡ true
      → FindsText bytes (strings_of file at) entry.value entry.at (Ok text) → FindsOwnName (own_step file at place before) bytes (Ok (Some text))
  gives_own bytes own before text held e found =
      (Some found.0, step_own before (own_test bytes own before true held e) ∙ ap own_named (sym name_same ∙ found.1), found.2)

  pub own_unnamed : (bytes : List ℕ) (own : Option HeldText) (before : Option (List ℕ)) (fault : LinkFault) → HoldsSome bytes own before → (entry.tag == 14 && is_none own) ≡ true
      → FindsText bytes (strings_of file at) entry.value entry.at (Err fault) → FindsOwnName (own_step file at place before) bytes (Err fault)
  own_unnamed bytes own before fault held e found =
      subst (λ known. IsRecordRefusal known fault) (sym (ap refusal_of (step_own before (own_test bytes own before true held e)) ∙ named_refusal name_here ∙ ap refusal_of (sym name_same)))
      (entry_refused bytes (strings_of file at) entry.value entry.at fault found)

  -- it gives no name
  pub gives_none : (bytes : List ℕ) (own : Option HeldText) (before : Option (List ℕ)) → HoldsSome bytes own before → (entry.tag == 14 && is_none own) ≡ false → (entry.tag == 1) ≡ false
      → FindsOwnName (own_step file at place before) bytes (Ok own)
  gives_none bytes own before held e other =
      (before, step_other before (own_test bytes own before false held e) ∙ ap (λ b. if b then own_kept before name_here else Ok before) (sym (tag_test 1) ∙ other), held)

  -- it gives that of a library that is needed
  step_needed : (before : Option (List ℕ)) → (d_tag file place == 14 && is_none before) ≡ false → (entry.tag == 1) ≡ true → own_step file at place before ≡ own_kept before name_here
  step_needed before e needed = step_other before e ∙ ap (λ b. if b then own_kept before name_here else Ok before) (sym (tag_test 1) ∙ needed)

  pub gives_needed : (bytes : List ℕ) (own : Option HeldText) (before : Option (List ℕ)) (text : HeldText) → HoldsSome bytes own before → (entry.tag == 14 && is_none own) ≡ false → (entry.tag == 1) ≡ true
      → FindsText bytes (strings_of file at) entry.value entry.at (Ok text) → FindsOwnName (own_step file at place before) bytes (Ok own)
  gives_needed bytes own before text held e needed found =
      (before, step_needed before (own_test bytes own before false held e) needed ∙ ap (own_kept before) (sym name_same ∙ found.1), held)

  pub needed_unnamed : (bytes : List ℕ) (own : Option HeldText) (before : Option (List ℕ)) (fault : LinkFault) → HoldsSome bytes own before → (entry.tag == 14 && is_none own) ≡ false → (entry.tag == 1) ≡ true
      → FindsText bytes (strings_of file at) entry.value entry.at (Err fault) → FindsOwnName (own_step file at place before) bytes (Err fault)
  needed_unnamed bytes own before fault held e needed found =
      subst (λ known. IsRecordRefusal known fault) (sym (ap refusal_of (step_needed before (own_test bytes own before false held e) needed) ∙ kept_refusal before name_here ∙ ap refusal_of (sym name_same)))
      (entry_refused bytes (strings_of file at) entry.value entry.at fault found)

  -- a step that is not refused has the name of a needed library
  pub needed_named : (bytes : List ℕ) (before after : Option (List ℕ)) (fault : LinkFault) → own_step file at place before ≡ Ok after → entry.tag ≡ 1 → FindsText bytes (strings_of file at) entry.value entry.at (Err fault) → ⊥
  needed_named bytes before after fault stepped needed found =
      let tag : d_tag file place ≡ 1 = sym is.tag_is ∙ needed in
      let other : (d_tag file place == 14) ≡ false = ap (λ t. t == 14) tag in
      let step = step_needed before (ap (λ b. b && is_none before) other) (eq_true entry.tag 1 needed) in
      let refused = entry_refused bytes (strings_of file at) entry.value entry.at fault found in
      no_refusal fault (subst (λ known. IsRecordRefusal known fault) (ap refusal_of name_same ∙ sym (kept_refusal before name_here) ∙ ap refusal_of (sym step ∙ stepped)) refused)
    where
      no_refusal : (fault : LinkFault) → IsRecordRefusal None fault → ⊥
      no_refusal (Refused refusal) is = cc
      no_refusal Read is = is
      no_refusal Open is = is
      no_refusal Memory is = is

-- THE WALK over the entries, from an index on
abbrev pub left_from : List ℕ → (at index : ℕ) → (own : Option (List ℕ)) → Result (Option (List ℕ)) LinkRefusal
left_from file at index own = own_name_from file at index (entry_count file at DYNAMIC_SIZE - index) own

abbrev next_or : List ℕ → (at index rest : ℕ) → Result (Option (List ℕ)) LinkRefusal → Result (Option (List ℕ)) LinkRefusal
next_or file at index rest (Ok next) = own_name_from file at (suc index) rest next
next_or file at index rest (Err refusal) = Err refusal

module _ (file : List ℕ) (at index : ℕ) (before : Option (List ℕ)) where
  abbrev here : ℕ
  here = entry_at file at DYNAMIC_SIZE index

  abbrev rest_of : ℕ
  rest_of = entry_count file at DYNAMIC_SIZE - (index + 1)

  one_more : index < entry_count file at DYNAMIC_SIZE
      → left_from file at index before ≡ (if d_tag file here == 0 then Ok before else next_or file at index rest_of (own_step file at here before))
  unfolding own_name_from
  one_more below =
      let e : entry_count file at DYNAMIC_SIZE - index ≡ suc rest_of = omega (arith, below) in
      rw e (ap (λ r. if d_tag file here == 0 then Ok before else r) (by_step (own_step file at here before)))
    where
      by_step : (step : Result (Option (List ℕ)) LinkRefusal)
          → (elim step as (λ _. Result (Option (List ℕ)) LinkRefusal) [ Ok next ↦ own_name_from file at (suc index) rest_of next | Err refusal ↦ Err refusal ]) ≡ next_or file at index rest_of step
      by_step (Ok next) = refl
      by_step (Err refusal) = refl

  pub walk_null : index < entry_count file at DYNAMIC_SIZE → d_tag file here ≡ 0 → left_from file at index before ≡ Ok before
  walk_null below null = one_more below ∙ ap (λ b. if b then Ok before else next_or file at index rest_of (own_step file at here before)) (eq_true (d_tag file here) 0 null)

  pub walk_all : entry_count file at DYNAMIC_SIZE ≤ index → left_from file at index before ≡ Ok before
  unfolding own_name_from
  walk_all past = let none : entry_count file at DYNAMIC_SIZE - index ≡ 0 = omega (arith, past) in ap (λ n. own_name_from file at index n before) none

  walk_step : (entry : DynamicEntry) → IsDynamicEntry file at index entry → left_from file at index before ≡ next_or file at index rest_of (own_step file at here before)
  walk_step entry is =
      one_more is.below ∙ ap (λ b. if b then Ok before else next_or file at index rest_of (own_step file at here before)) (eq_false (d_tag file here) 0 is.some)

  pub walk_next : (entry : DynamicEntry) (next : Option (List ℕ)) → IsDynamicEntry file at index entry → own_step file at here before ≡ Ok next → left_from file at index before ≡ left_from file at (index + 1) next
  walk_next entry next is step =
      let n : suc index ≡ index + 1 = omega arith in
      walk_step entry is ∙ ap (next_or file at index rest_of) step ∙ ap (λ i. own_name_from file at i rest_of next) n

  pub walk_refused : (entry : DynamicEntry) (fault : LinkFault) → IsDynamicEntry file at index entry → IsRecordRefusal (refusal_of (own_step file at here before)) fault
      → IsRecordRefusal (refusal_of (left_from file at index before)) fault
  walk_refused entry fault is refused = subst (λ known. IsRecordRefusal known fault) (sym (ap refusal_of (walk_step entry is))) (by_step (own_step file at here before) fault refused)
    where
      by_step : (step : Result (Option (List ℕ)) LinkRefusal) (fault : LinkFault) → IsRecordRefusal (refusal_of step) fault → IsRecordRefusal (refusal_of (next_or file at index rest_of step)) fault
      by_step (Ok next) (Refused refusal) is = absurd (cc)
      by_step (Ok next) Read is = absurd is
      by_step (Ok next) Open is = absurd is
      by_step (Ok next) Memory is = absurd is
      by_step (Err refusal) fault is = is

  -- if what is left is not refused, no step is
  pub step_passes : (entry : DynamicEntry) (own : Option (List ℕ)) → IsDynamicEntry file at index entry → left_from file at index before ≡ Ok own
      → (next : Option (List ℕ)) × (own_step file at here before ≡ Ok next) × (left_from file at (index + 1) next ≡ Ok own)
  step_passes entry own is known = by_step (own_step file at here before) refl
    where
      by_step : (step : Result (Option (List ℕ)) LinkRefusal) → own_step file at here before ≡ step
          → (next : Option (List ℕ)) × (own_step file at here before ≡ Ok next) × (left_from file at (index + 1) next ≡ Ok own)
      by_step (Ok next) e = (next, e, sym (walk_next entry next is e) ∙ known)
      by_step (Err refusal) e = let refused = sym known ∙ walk_step entry is ∙ ap (next_or file at index rest_of) e in absurd (cc)
