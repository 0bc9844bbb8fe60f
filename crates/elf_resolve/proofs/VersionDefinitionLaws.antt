-- What a record of a definition of a version names, or why it is refused.
use Rattle.std.proofs.Common.{◌≡◌, ℕ, ◌+◌, ◌<◌, ◌≤◌, ◌==◌, Bool, true, false, List, [], ◌∷◌, length, inl, inr, refl, sym, ap, subst, ◌∙◌, arith}
use Rattle.std.specs.Prelude.{Option, None, Some, Result, Ok, Err, if◌then◌else◌, bit_and, nat_lt}
use Rattle.elf_model.specs.Bytes.{field, slice}
use Rattle.elf_model.specs.LinkArchives.{refusal_of}
use Rattle.elf_model.specs.LinkSymbols.{link_name}
use Rattle.elf_model.specs.Records.{sh_offset, sh_size, vd_aux, vd_flags, vd_ndx, vd_next, vd_version, vda_name}
use Rattle.elf_model.specs.Tables.{section_bytes, strings_of}
use Rattle.elf_model.specs.Versions.{next_position, next_word, number_in}
use Rattle.elf_model.specs.declared.causes.Cause.TheVariants.{BadVersion, VersionCut, VersionIndex}
use Rattle.elf_model.specs.declared.link_states.LinkRefusal.{LinkRefusal}
use Rattle.elf_model.specs.declared.versions.VersionKind.TheVariants.{Definition}
use Rattle.elf_resolve.specs.LibraryVersions.{NumberedName, numbered}
use Rattle.elf_resolve.specs.StringBuffers.{FindsText}
use Rattle.elf_resolve.specs.VersionWalks.{FindsBytes, FindsNumber, FindsRecord, HoldsVersions, IsNextRecord, IsRecordPlace, IsRecordRefusal, names_here, next_along, place_along, state_at}
use Rattle.elf_resolve.specs.declared.link_faults.LinkFault.{LinkFault}
use Rattle.elf_resolve.specs.declared.version_records.RecordPlace.{RecordPlace}
use Rattle.elf_resolve.specs.declared.version_records.VersionSection.{VersionSection}
use Rattle.elf_resolve.proofs.VersionPlaceLaws.{IsInside, along_place, definition_tested, eq_false, eq_true, first_field, lt_false, lt_true, next_by, numbered_refused, place_inside, place_outside, record_field, refused_as, tested}

-- a definition in its section
pub definition_of : (file : List ℕ) (at p from : ℕ) (form small cut : Bool) → p + 20 ≤ sh_size file at
    → (vd_version file (sh_offset file at + p) == 1) ≡ form → nat_lt (number_in (vd_ndx file (sh_offset file at + p))) 1024 ≡ small
    → nat_lt (sh_size file at) (p + (vd_aux file (sh_offset file at + p) + 8)) ≡ cut
    → let here = sh_offset file at + p in
    let named = here + vd_aux file here in
    names_here file at (state_at Definition 0 p from)
    ≡ tested false form small cut from here (numbered (bit_and (vd_flags file here) 1 == 0) (number_in (vd_ndx file here)) (link_name (strings_of file at) (vda_name file named) named))
definition_of file at p from form small cut within is_form is_small is_cut =
    let here = sh_offset file at + p in
    let named = here + vd_aux file here in
    let names = numbered (bit_and (vd_flags file here) 1 == 0) (number_in (vd_ndx file here)) (link_name (strings_of file at) (vda_name file named) named) in
    definition_tested file at p from
    ∙ ap (λ o. tested o (vd_version file here == 1) (nat_lt (number_in (vd_ndx file here)) 1024) (nat_lt (sh_size file at) (p + (vd_aux file here + 8))) from here names) (lt_false (sh_size file at) (p + 20) within)
    ∙ ap (λ f. tested false f (nat_lt (number_in (vd_ndx file here)) 1024) (nat_lt (sh_size file at) (p + (vd_aux file here + 8))) from here names) is_form
    ∙ ap (λ s. tested false form s (nat_lt (sh_size file at) (p + (vd_aux file here + 8))) from here names) is_small
    ∙ ap (λ c. tested false form small c from here names) is_cut

-- A DEFINITION that is cut or of another form, of too large an index, whose name is cut, is refused, or is
-- called so
pub definition_refused : (file bytes : List ℕ) (at p from : ℕ) (table : VersionSection) (place : RecordPlace) (fault : LinkFault) → HoldsVersions file bytes at table → IsRecordPlace (sh_offset file at) p from place
    → FindsRecord (section_bytes file at) place 20 (Err fault) → IsRecordRefusal (refusal_of (names_here file at (state_at Definition 0 p from))) fault
definition_refused file bytes at p from table place fault held is (inl found) =
    let here = sh_offset file at + p in
    let named = here + vd_aux file here in
    let outside = lt_true (sh_size file at) (p + 20) (place_outside file bytes at p from 20 table place held is found.0) in
    refused_as (names_here file at (state_at Definition 0 p from)) from place.led_by VersionCut fault
    (definition_tested file at p from
    ∙ ap (λ o. tested o (vd_version file here == 1) (nat_lt (number_in (vd_ndx file here)) 1024) (nat_lt (sh_size file at) (p + (vd_aux file here + 8))) from here
    (numbered (bit_and (vd_flags file here) 1 == 0) (number_in (vd_ndx file here)) (link_name (strings_of file at) (vda_name file named) named))) outside)
    is.led_by found.1
definition_refused file bytes at p from table place fault held is (inr found) =
    let here = sh_offset file at + p in
    let inside = place_inside file bytes at p from 20 table place held is (omega arith) found.0 in
    let other = eq_false (vd_version file here) 1 (λ e. found.1 (first_field file _ at p 20 2 place inside refl (omega arith) ∙ e)) in
    refused_as (names_here file at (state_at Definition 0 p from)) here place.at BadVersion fault
    (definition_of file at p from false (nat_lt (number_in (vd_ndx file here)) 1024) (nat_lt (sh_size file at) (p + (vd_aux file here + 8))) inside.within other refl refl) inside.at_is found.2

-- a definition of the only form, whose index is known
pub record IsDefinition (file : List ℕ) (at p word : ℕ) (place : RecordPlace) : Type 0 where
  pub inside : IsInside file at p 20 place
  pub form : (vd_version file (sh_offset file at + p) == 1) ≡ true
  pub word_is : word ≡ vd_ndx file (sh_offset file at + p)

pub definition_read : (file bytes record_bytes : List ℕ) (at p from word : ℕ) (table : VersionSection) (place : RecordPlace) → HoldsVersions file bytes at table → IsRecordPlace (sh_offset file at) p from place
    → (place.start + 20 ≤ length (section_bytes file at)) × (record_bytes ≡ slice (section_bytes file at) place.start 20) → field record_bytes 0 2 ≡ 1 → word ≡ field record_bytes 4 2
    → IsDefinition file at p word place
definition_read file bytes record_bytes at p from word table place held is found form word_is =
    let inside = place_inside file bytes at p from 20 table place held is (omega arith) found.0 in
    record {
      inside = inside;
      form = eq_true (vd_version file (sh_offset file at + p)) 1 (sym (first_field file record_bytes at p 20 2 place inside found.1 (omega arith)) ∙ form);
      word_is = word_is ∙ record_field file record_bytes at p 20 4 2 place inside found.1 (omega arith);
    }

pub definition_large : (file : List ℕ) (at p from word : ℕ) (place : RecordPlace) (fault : LinkFault) → IsDefinition file at p word place → FindsNumber word place.at (Err fault)
    → IsRecordRefusal (refusal_of (names_here file at (state_at Definition 0 p from))) fault
definition_large file at p from word place fault is found =
    let here = sh_offset file at + p in
    let large = lt_false (number_in (vd_ndx file here)) 1024 (subst (λ w. 1024 ≤ number_in w) is.word_is found.0) in
    refused_as (names_here file at (state_at Definition 0 p from)) here place.at VersionIndex fault
    (definition_of file at p from true false (nat_lt (sh_size file at) (p + (vd_aux file here + 8))) is.inside.within is.form large refl) is.inside.at_is found.1

definition_small : (file : List ℕ) (at p word : ℕ) (place : RecordPlace) → IsDefinition file at p word place → number_in word < 1024 → nat_lt (number_in (vd_ndx file (sh_offset file at + p))) 1024 ≡ true
definition_small file at p word place is small = lt_true (number_in (vd_ndx file (sh_offset file at + p))) 1024 (subst (λ w. number_in w < 1024) is.word_is small)

-- the place of its name
pub name_place : (file : List ℕ) (at p word aux : ℕ) (place name : RecordPlace) → IsDefinition file at p word place → aux ≡ vd_aux file (sh_offset file at + p) → name ≡ place_along place aux
    → IsRecordPlace (sh_offset file at) (p + vd_aux file (sh_offset file at + p)) (sh_offset file at + p) name
name_place file at p word aux place name is far along =
    rw (along, far) (along_place file at p 20 (vd_aux file (sh_offset file at + p)) place is.inside)

pub definition_cut : (file bytes : List ℕ) (at p from word : ℕ) (table : VersionSection) (place name : RecordPlace) (fault : LinkFault) → HoldsVersions file bytes at table → IsDefinition file at p word place
    → number_in word < 1024 → IsRecordPlace (sh_offset file at) (p + vd_aux file (sh_offset file at + p)) (sh_offset file at + p) name → FindsBytes (section_bytes file at) name 8 (Err fault)
    → IsRecordRefusal (refusal_of (names_here file at (state_at Definition 0 p from))) fault
definition_cut file bytes at p from word table place name fault held is small named found =
    let here = sh_offset file at + p in
    let past = place_outside file bytes at (p + vd_aux file here) here 8 table name held named found.0 in
    let cut = lt_true (sh_size file at) (p + (vd_aux file here + 8)) (omega arith) in
    refused_as (names_here file at (state_at Definition 0 p from)) here name.led_by VersionCut fault
    (definition_of file at p from true true true is.inside.within is.form (definition_small file at p word place is small) cut) named.led_by found.1

-- its name is in the section
definition_whole : (file : List ℕ) (at p from word : ℕ) (place name : RecordPlace) → IsDefinition file at p word place → number_in word < 1024
    → IsInside file at (p + vd_aux file (sh_offset file at + p)) 8 name
    → let here = sh_offset file at + p in
    let named = here + vd_aux file here in
    names_here file at (state_at Definition 0 p from) ≡ numbered (bit_and (vd_flags file here) 1 == 0) (number_in (vd_ndx file here)) (link_name (strings_of file at) (vda_name file named) named)
definition_whole file at p from word place name is small inside =
    let here = sh_offset file at + p in
    definition_of file at p from true true false is.inside.within is.form (definition_small file at p word place is small)
    (lt_false (sh_size file at) (p + (vd_aux file here + 8)) (within_sum p (vd_aux file here) (sh_size file at) inside.within))
  where
    within_sum : (p aux size : ℕ) → p + aux + 8 ≤ size → p + (aux + 8) ≤ size
    within_sum p aux size h = omega arith

definition_name : (file bytes : List ℕ) (at p index : ℕ) (name : RecordPlace) → let here = sh_offset file at + p in
    let named = here + vd_aux file here in
    IsInside file at (p + vd_aux file here) 8 name → bytes ≡ slice (section_bytes file at) name.start 8 → index ≡ field bytes 0 4
    → link_name (strings_of file at) (vda_name file named) named ≡ link_name (strings_of file at) index name.at
definition_name file bytes at p index name inside is index_is =
    let here = sh_offset file at + p in
    let named = here + vd_aux file here in
    let there : sh_offset file at + (p + vd_aux file here) ≡ named = sum_assoc (sh_offset file at) p (vd_aux file here) in
    let same : index ≡ vda_name file named = index_is ∙ first_field file bytes at (p + vd_aux file here) 8 4 name inside is (omega arith) ∙ ap (λ n. field file n 4) there in
    ap (λ i. link_name (strings_of file at) i named) (sym same) ∙ ap (link_name (strings_of file at) index) (sym (inside.at_is ∙ there))
  where
    sum_assoc : (a b c : ℕ) → a + (b + c) ≡ a + b + c
    sum_assoc a b c = omega arith

pub definition_unnamed : (file bytes name_bytes : List ℕ) (at p from word index : ℕ) (place name : RecordPlace) (fault : LinkFault) → IsDefinition file at p word place → number_in word < 1024
    → IsInside file at (p + vd_aux file (sh_offset file at + p)) 8 name → name_bytes ≡ slice (section_bytes file at) name.start 8 → index ≡ field name_bytes 0 4
    → FindsText bytes (strings_of file at) index name.at (Err fault) → IsRecordRefusal (refusal_of (names_here file at (state_at Definition 0 p from))) fault
definition_unnamed file bytes name_bytes at p from word index place name fault is small inside part index_is found =
    let here = sh_offset file at + p in
    subst (λ (r : Result (List NumberedName) LinkRefusal). IsRecordRefusal (refusal_of r) fault) (sym (definition_whole file at p from word place name is small inside))
    (numbered_refused bytes (strings_of file at) (bit_and (vd_flags file here) 1 == 0) (number_in (vd_ndx file here)) index name.at _ fault found (definition_name file name_bytes at p index name inside part index_is))

pub definition_named : (file name_bytes : List ℕ) (at p from word flags index : ℕ) (text : List ℕ) (place name : RecordPlace) → IsDefinition file at p word place → number_in word < 1024
    → flags ≡ vd_flags file (sh_offset file at + p)
    → IsInside file at (p + vd_aux file (sh_offset file at + p)) 8 name → name_bytes ≡ slice (section_bytes file at) name.start 8 → index ≡ field name_bytes 0 4
    → link_name (strings_of file at) index name.at ≡ Ok text
    → names_here file at (state_at Definition 0 p from) ≡ Ok (if bit_and flags 1 == 0 then record { number = number_in word; name = text } ∷ [] else [])
definition_named file name_bytes at p from word flags index text place name is small flags_are inside part index_is called =
    let here = sh_offset file at + p in
    definition_whole file at p from word place name is small inside
    ∙ ap (numbered (bit_and (vd_flags file here) 1 == 0) (number_in (vd_ndx file here))) (definition_name file name_bytes at p index name inside part index_is ∙ called)
    ∙ by_flag (bit_and (vd_flags file here) 1 == 0) (number_in (vd_ndx file here))
    ∙ ap (λ w. Ok (if bit_and (vd_flags file here) 1 == 0 then record { number = number_in w; name = text } ∷ [] else [])) (sym is.word_is)
    ∙ ap (λ f. Ok (if bit_and f 1 == 0 then record { number = number_in word; name = text } ∷ [] else [])) (sym flags_are)
  where
    by_flag : (names_version : Bool) (number : ℕ) → numbered names_version number (Ok text) ≡ Ok (if names_version then record { number = number; name = text } ∷ [] else [])
    by_flag true number = refl
    by_flag false number = refl

pub definition_next : (file : List ℕ) (at p from distance : ℕ) (place : RecordPlace) (next : Option RecordPlace) → IsInside file at p 20 place → distance ≡ vd_next file (sh_offset file at + p) → next ≡ next_along place distance
    → IsNextRecord Definition 0 None (sh_offset file at) (next_position file (sh_offset file at) (state_at Definition 0 p from)) next
unfolding next_position next_word
definition_next file at p from distance place next inside is goes =
    let table = sh_offset file at in
    let d = vd_next file (table + p) in
    rw (goes, is)
    (next_by Definition 0 None table (p + d) (table + p) (λ last. if last then None else Some (state_at Definition 0 (p + d) (table + p))) (d == 0) (place_along place d) refl refl (along_place file at p 20 d place inside))
