-- Version records of a shared library: where they are, what is tested of them, and walks over them.
use Rattle.std.proofs.Common.{◌≡◌, ℕ, suc, ◌+◌, ◌-◌, ◌<◌, ◌≤◌, ◌^◌, ◌==◌, ◌≢◌, min, Bool, true, false, List, [], ◌∷◌, length, refl, sym, ap, subst, ◌∙◌, arith}
use Rattle.std.specs.Prelude.{Option, None, Some, Result, Ok, Err, if◌then◌else◌, bit_and, nat_lt, not}
use Rattle.std.proofs.lemmas.Bool.Decides.{nat_tests}
use Rattle.elf_model.specs.Bytes.{field, slice}
use Rattle.elf_model.specs.Checks.{first_refusal, refuse}
use Rattle.elf_model.specs.LinkArchives.{refusal_of}
use Rattle.elf_model.specs.LinkSymbols.{and_then, as_any, link_name, refused_at}
use Rattle.elf_model.specs.Records.{sh_offset, sh_size, vd_aux, vd_flags, vd_ndx, vd_version, vda_name, vn_version, vna_name, vna_other}
use Rattle.elf_model.specs.Tables.{section_bytes, strings_of}
use Rattle.elf_model.specs.Versions.{RecordCursorState, Versions, VisitedRecord, first_position, max_records, name_distance, name_end, name_index, names_version, next_position, no_versions, number_in, number_word, record_checks, version_word, versions_in, visited_at, visited_from, with_visited}
use Rattle.elf_model.specs.declared.causes.Cause.{Cause}
use Rattle.elf_model.specs.declared.causes.Cause.TheVariants.{BadVersion, VersionCut, VersionIndex}
use Rattle.elf_model.specs.declared.causes.Refusal.{Refusal}
use Rattle.elf_model.specs.declared.link_states.LinkCause.TheVariants as cause
use Rattle.elf_model.specs.declared.link_states.LinkRefusal.{LinkRefusal}
use Rattle.elf_model.specs.declared.versions.VersionKind.{VersionKind}
use Rattle.elf_model.specs.declared.versions.VersionKind.TheVariants.{Definition, File, Need}
use Rattle.elf_model.proofs.Slices.{field-slice, slice-slice}
use Rattle.elf_resolve.specs.LibraryVersions.{NumberedName, names_of_record, names_visited, numbered, version_names}
use Rattle.elf_resolve.specs.StringBuffers.{FindsText}
use Rattle.elf_resolve.specs.VersionWalks.{HoldsVersions, IsNextRecord, IsRecordPlace, IsRecordRefusal, file_fault, names_from, names_here, place_along, state_at}
use Rattle.elf_resolve.specs.declared.link_faults.LinkFault.{LinkFault}
use Rattle.elf_resolve.specs.declared.link_faults.LinkFault.TheVariants as fault
use Rattle.elf_resolve.specs.declared.version_records.RecordPlace.{RecordPlace}
use Rattle.elf_resolve.specs.declared.version_records.VersionSection.{VersionSection}

-- A PLACE of a record is exact within its section
pub record IsInside (file : List ℕ) (at p size : ℕ) (place : RecordPlace) : Type 0 where
  pub start : place.start ≡ p
  pub at_is : place.at ≡ sh_offset file at + p
  pub within : p + size ≤ sh_size file at

exact_at : (off all start here p size : ℕ) → off + all < 2 ^ 64 → start ≡ min p (2 ^ 64 - 1) → here ≡ min (off + p) (2 ^ 64 - 1) → 0 < size → start + size ≤ all
    → (start ≡ p) × (here ≡ off + p) × (p + size ≤ all)
exact_at off all start here p size fits from_start from_here some within =
    let same : start ≡ p = omega arith in
    (same, omega arith, omega arith)

pub place_inside : (file bytes : List ℕ) (at p from size : ℕ) (table : VersionSection) (place : RecordPlace) → HoldsVersions file bytes at table → IsRecordPlace (sh_offset file at) p from place → 0 < size
    → place.start + size ≤ length (section_bytes file at) → IsInside file at p size place
place_inside file bytes at p from size table place held is some within =
    let fits = subst (λ n. n + sh_size file at < 2 ^ 64) held.at_is held.fits in
    let exact = exact_at (sh_offset file at) (sh_size file at) place.start place.at p size fits is.start is.at_is some (subst (λ n. place.start + size ≤ n) held.whole within) in
    record { start = exact.0; at_is = exact.1; within = exact.2 }

pub place_outside : (file bytes : List ℕ) (at p from size : ℕ) (table : VersionSection) (place : RecordPlace) → HoldsVersions file bytes at table → IsRecordPlace (sh_offset file at) p from place
    → length (section_bytes file at) < place.start + size → sh_size file at < p + size
place_outside file bytes at p from size table place held is past = past_end place.start p (sh_size file at) is.start (subst (λ n. n < place.start + size) held.whole past)
  where
    past_end : (start p all : ℕ) → start ≡ min p (2 ^ 64 - 1) → all < start + size → all < p + size
    past_end start p all is past = omega arith

-- the place at a distance from it
pub along_place : (file : List ℕ) (at p size distance : ℕ) (place : RecordPlace) → IsInside file at p size place → IsRecordPlace (sh_offset file at) (p + distance) (sh_offset file at + p) (place_along place distance)
along_place file at p size distance place inside = record {
  start = ap (λ n. min (n + distance) (2 ^ 64 - 1)) inside.start;
  at_is = ap (λ n. min (n + distance) (2 ^ 64 - 1)) inside.at_is ∙ ap (λ n. min n (2 ^ 64 - 1)) (omega arith);
  led_by = inside.at_is;
}

-- A FIELD of a record is that of the file
pub record_field : (file bytes : List ℕ) (at p size from width : ℕ) (place : RecordPlace) → IsInside file at p size place → bytes ≡ slice (section_bytes file at) place.start size → from + width ≤ size
    → field bytes from width ≡ field file (sh_offset file at + p + from) width
record_field file bytes at p size from width place inside is fits =
    let part : bytes ≡ slice file (sh_offset file at + p) size =
    is ∙ ap (λ n. slice (section_bytes file at) n size) inside.start ∙ slice-slice file (sh_offset file at) (sh_size file at) p size inside.within in
    ap (λ b. field b from width) part ∙ field-slice file (sh_offset file at + p) size from width fits

pub first_field : (file bytes : List ℕ) (at p size width : ℕ) (place : RecordPlace) → IsInside file at p size place → bytes ≡ slice (section_bytes file at) place.start size → width ≤ size
    → field bytes 0 width ≡ field file (sh_offset file at + p) width
first_field file bytes at p size width place inside is fits =
    record_field file bytes at p size 0 width place inside is (omega arith) ∙ ap (λ n. field file n width) (omega arith)

-- a field of a part of some bytes
pub part_field : (bytes part : List ℕ) (from width : ℕ) → part ≡ slice bytes from width → field part 0 width ≡ field bytes from width
part_field bytes part from width is = ap (λ b. field b 0 width) is ∙ field-slice bytes from width 0 width (omega arith) ∙ ap (λ n. field bytes n width) (omega arith)

-- WHAT A RECORD NAMES, by its tests: whether it ends outside the section, has the only form, has an index
-- that is not too large, and its name ends outside the section
abbrev pub tested : (outside form small cut : Bool) → (from at : ℕ) → Result (List NumberedName) LinkRefusal → Result (List NumberedName) LinkRefusal
tested true form small cut from at names = refused_at from (cause.Refused VersionCut)
tested false false small cut from at names = refused_at at (cause.Refused BadVersion)
tested false true false cut from at names = refused_at at (cause.Refused VersionIndex)
tested false true true true from at names = refused_at at (cause.Refused VersionCut)
tested false true true false from at names = names

tested_is : (outside form small cut : Bool) (from at : ℕ) (names : Result (List NumberedName) LinkRefusal)
    → elim (first_refusal (refuse outside from VersionCut ∷ refuse (not form) at BadVersion ∷ refuse (not small) at VersionIndex ∷ refuse cut at VersionCut ∷ [])) [
      | Some refusal ↦ Err (as_any refusal)
      | None ↦ names
    ]
    ≡ tested outside form small cut from at names
tested_is true form small cut from at names = refl
tested_is false false small cut from at names = refl
tested_is false true false cut from at names = refl
tested_is false true true true from at names = refl
tested_is false true true false from at names = refl

pub definition_tested : (file : List ℕ) (at p from : ℕ)
    → let here = sh_offset file at + p in
    let named = here + vd_aux file here in
    names_here file at (state_at Definition 0 p from)
    ≡ tested (nat_lt (sh_size file at) (p + 20)) (vd_version file here == 1) (nat_lt (number_in (vd_ndx file here)) 1024) (nat_lt (sh_size file at) (p + (vd_aux file here + 8))) from here
    (numbered (bit_and (vd_flags file here) 1 == 0) (number_in (vd_ndx file here)) (link_name (strings_of file at) (vda_name file named) named))
unfolding names_here names_of_record record_checks version_word number_word name_end name_index name_distance names_version
definition_tested file at p from =
    let here = sh_offset file at + p in
    let named = here + vd_aux file here in
    tested_is (nat_lt (sh_size file at) (p + 20)) (vd_version file here == 1) (nat_lt (number_in (vd_ndx file here)) 1024) (nat_lt (sh_size file at) (p + (vd_aux file here + 8))) from here
    (numbered (bit_and (vd_flags file here) 1 == 0) (number_in (vd_ndx file here)) (link_name (strings_of file at) (vda_name file named) named))

pub file_tested : (file : List ℕ) (at p from : ℕ)
    → let here = sh_offset file at + p in
    let outside = nat_lt (sh_size file at) (p + 16) in
    names_here file at (state_at File 0 p from) ≡ tested outside (vn_version file here == 1) true outside from here (Ok [])
unfolding names_here names_of_record record_checks version_word number_word name_end
file_tested file at p from =
    let outside = nat_lt (sh_size file at) (p + 16) in
    tested_is outside (vn_version file (sh_offset file at + p) == 1) true outside from (sh_offset file at + p) (Ok [])

pub need_tested : (file : List ℕ) (at owner p from : ℕ)
    → let here = sh_offset file at + p in
    let outside = nat_lt (sh_size file at) (p + 16) in
    names_here file at (state_at Need owner p from)
    ≡ tested outside true (nat_lt (number_in (vna_other file here)) 1024) outside from here
    (numbered true (number_in (vna_other file here)) (link_name (strings_of file at) (vna_name file here) (here + 0)))
unfolding names_here names_of_record record_checks version_word number_word name_end name_index name_distance names_version
need_tested file at owner p from =
    let here = sh_offset file at + p in
    let outside = nat_lt (sh_size file at) (p + 16) in
    tested_is outside true (nat_lt (number_in (vna_other file here)) 1024) outside from here
    (numbered true (number_in (vna_other file here)) (link_name (strings_of file at) (vna_name file here) (here + 0)))

-- THE WALK from a state: the record of the state, and then from the next state on
visit_named : (file strings : List ℕ) (first : Option Refusal) (met : VisitedRecord) (rest : Versions)
    → names_visited file strings (elim first [ Some refusal ↦ no_versions (Some refusal) | None ↦ with_visited met rest ])
    ≡ and_then (elim first [ Some refusal ↦ Err (as_any refusal) | None ↦ names_of_record file strings met ]) (names_visited file strings rest)
visit_named file strings None met rest = refl
visit_named file strings (Some refusal) met rest = refl

pub names_next : (file : List ℕ) (at left : ℕ) (stand : RecordCursorState)
    → names_from file at (Some stand) (suc left) ≡ and_then (names_here file at stand) (names_from file at (next_position file (sh_offset file at) stand) left)
unfolding names_from names_here visited_from
names_next file at left stand =
    let table = sh_offset file at in
    let size = sh_size file at in
    visit_named file (strings_of file at) (first_refusal (record_checks file table size stand)) (visited_at table stand) (visited_from file table size (next_position file table stand) left)

pub names_end : (file : List ℕ) (at left : ℕ) → names_from file at None left ≡ Ok []
unfolding names_from visited_from
names_end file at left = refl

pub names_past : (file : List ℕ) (at : ℕ) (stand : RecordCursorState) → names_from file at (Some stand) 0 ≡ refused_at stand.from (cause.Refused VersionCut)
unfolding names_from visited_from
names_past file at stand = refl

pub names_all : (kind : VersionKind) (file : List ℕ) (at : ℕ) → version_names kind file at ≡ names_from file at (first_position kind at (sh_size file at)) (max_records kind (sh_size file at))
unfolding names_from version_names versions_in
names_all kind file at = refl

-- TESTS of numbers
pub lt_true : (m n : ℕ) → m < n → nat_lt m n ≡ true
lt_true m n is = grind (arith, nat_tests)

pub lt_false : (m n : ℕ) → n ≤ m → nat_lt m n ≡ false
lt_false m n is = grind (arith, nat_tests)

pub eq_true : (m n : ℕ) → m ≡ n → (m == n) ≡ true
eq_true m n is = grind (arith, nat_tests)

pub eq_false : (m n : ℕ) → (m ≡ n → ⊥) → (m == n) ≡ false
eq_false m n other = grind (arith, nat_tests)

pub eq_is : (m n : ℕ) → (m == n) ≡ true → m ≡ n
eq_is m n is = grind (arith, nat_tests)

pub eq_other : (m n : ℕ) → (m == n) ≡ false → n ≢ m
eq_other m n other = grind (arith, nat_tests)

-- A REFUSAL of a record, and of a name
pub refused_as : (known : Result (List NumberedName) LinkRefusal) (at place : ℕ) (why : Cause) (fault : LinkFault) → known ≡ refused_at at (cause.Refused why) → place ≡ at → fault ≡ file_fault place why
    → IsRecordRefusal (refusal_of known) fault
refused_as known at place why fault is same from = rw (from, is) (ap (λ n. Some (record { at = n; cause = cause.Refused why })) (sym same))

pub numbered_refused : (bytes strings : List ℕ) (names_version : Bool) (number index at : ℕ) (name : Result (List ℕ) LinkRefusal) (fault : LinkFault) → FindsText bytes strings index at (Err fault)
    → name ≡ link_name strings index at → IsRecordRefusal (refusal_of (numbered names_version number name)) fault
numbered_refused bytes strings names_version number index at name (fault.Refused refusal) found same = ap (λ n. refusal_of (numbered names_version number n)) (same ∙ found)
numbered_refused bytes strings names_version number index at name fault.Read found same = absurd found
numbered_refused bytes strings names_version number index at name fault.Open found same = absurd found
numbered_refused bytes strings names_version number index at name fault.Memory found same = absurd found

-- THE NEXT PLACE, by the test of the distance to it
pub next_by : (kind : VersionKind) (owner : ℕ) (end : Option RecordCursorState) (table at from : ℕ) (shape : Bool → Option RecordCursorState) (last : Bool) (place : RecordPlace)
    → shape true ≡ end → shape false ≡ Some (state_at kind owner at from) → IsRecordPlace table at from place → IsNextRecord kind owner end table (shape last) (if last then None else Some place)
next_by kind owner end table at from shape true place ends goes is = ends
next_by kind owner end table at from shape false place ends goes is = (at, from, goes, is)
