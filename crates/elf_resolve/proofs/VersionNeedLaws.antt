-- What a record of a needed version names, or why it is refused.
use Rattle.std.proofs.Common.{◌≡◌, ℕ, ◌+◌, ◌<◌, ◌≤◌, ◌==◌, Bool, true, false, List, [], ◌∷◌, refl, sym, ap, subst, ◌∙◌, arith}
use Rattle.std.specs.Prelude.{Option, None, Some, Result, Ok, Err, if◌then◌else◌, nat_lt}
use Rattle.elf_model.specs.LinkArchives.{refusal_of}
use Rattle.elf_model.specs.LinkSymbols.{link_name}
use Rattle.elf_model.specs.Records.{sh_offset, sh_size, vna_name, vna_next, vna_other}
use Rattle.elf_model.specs.Tables.{section_bytes, strings_of}
use Rattle.elf_model.specs.Versions.{next_position, next_word, number_in}
use Rattle.elf_model.specs.declared.causes.Cause.TheVariants.{VersionCut, VersionIndex}
use Rattle.elf_model.specs.declared.link_states.LinkRefusal.{LinkRefusal}
use Rattle.elf_model.specs.declared.versions.VersionKind.TheVariants.{Need}
use Rattle.elf_resolve.specs.LibraryVersions.{NumberedName, numbered}
use Rattle.elf_resolve.specs.StringBuffers.{FindsText}
use Rattle.elf_resolve.specs.VersionWalks.{FindsBytes, FindsNumber, HoldsVersions, IsNextRecord, IsRecordPlace, IsRecordRefusal, after_file, names_here, next_along, place_along, state_at}
use Rattle.elf_resolve.specs.declared.link_faults.LinkFault.{LinkFault}
use Rattle.elf_resolve.specs.declared.version_records.RecordPlace.{RecordPlace}
use Rattle.elf_resolve.specs.declared.version_records.VersionSection.{VersionSection}
use Rattle.elf_resolve.proofs.VersionPlaceLaws.{IsInside, along_place, lt_false, lt_true, need_tested, next_by, numbered_refused, place_outside, refused_as, tested}

-- A NEEDED VERSION that is cut, of too large an index, without a name, and with one
pub need_cut : (file bytes : List ℕ) (at owner p from : ℕ) (table : VersionSection) (place : RecordPlace) (fault : LinkFault) → HoldsVersions file bytes at table → IsRecordPlace (sh_offset file at) p from place
    → FindsBytes (section_bytes file at) place 16 (Err fault) → IsRecordRefusal (refusal_of (names_here file at (state_at Need owner p from))) fault
need_cut file bytes at owner p from table place fault held is found =
    let here = sh_offset file at + p in
    let names = numbered true (number_in (vna_other file here)) (link_name (strings_of file at) (vna_name file here) (here + 0)) in
    let outside = lt_true (sh_size file at) (p + 16) (place_outside file bytes at p from 16 table place held is found.0) in
    refused_as (names_here file at (state_at Need owner p from)) from place.led_by VersionCut fault
    (need_tested file at owner p from ∙ ap (λ o. tested o true (nat_lt (number_in (vna_other file here)) 1024) o from here names) outside) is.led_by found.1

need_inside : (file : List ℕ) (at owner p from : ℕ) (small : Bool) → p + 16 ≤ sh_size file at → nat_lt (number_in (vna_other file (sh_offset file at + p))) 1024 ≡ small
    → let here = sh_offset file at + p in
    names_here file at (state_at Need owner p from) ≡ tested false true small false from here (numbered true (number_in (vna_other file here)) (link_name (strings_of file at) (vna_name file here) (here + 0)))
need_inside file at owner p from small within is =
    let here = sh_offset file at + p in
    let names = numbered true (number_in (vna_other file here)) (link_name (strings_of file at) (vna_name file here) (here + 0)) in
    let whole = lt_false (sh_size file at) (p + 16) within in
    need_tested file at owner p from ∙ ap (λ o. tested o true (nat_lt (number_in (vna_other file here)) 1024) o from here names) whole ∙ ap (λ s. tested false true s false from here names) is

pub need_large : (file : List ℕ) (at owner p from word : ℕ) (place : RecordPlace) (fault : LinkFault) → IsInside file at p 16 place → word ≡ vna_other file (sh_offset file at + p) → FindsNumber word place.at (Err fault)
    → IsRecordRefusal (refusal_of (names_here file at (state_at Need owner p from))) fault
need_large file at owner p from word place fault inside is found =
    let large = lt_false (number_in (vna_other file (sh_offset file at + p))) 1024 (subst (λ w. 1024 ≤ number_in w) is found.0) in
    refused_as (names_here file at (state_at Need owner p from)) (sh_offset file at + p) place.at VersionIndex fault (need_inside file at owner p from false inside.within large) inside.at_is found.1

need_name : (file : List ℕ) (at p index : ℕ) (place : RecordPlace) → IsInside file at p 16 place → index ≡ vna_name file (sh_offset file at + p)
    → link_name (strings_of file at) (vna_name file (sh_offset file at + p)) (sh_offset file at + p + 0) ≡ link_name (strings_of file at) index place.at
need_name file at p index place inside is =
    let here = sh_offset file at + p in
    let there : here + 0 ≡ place.at = omega (arith, inside.at_is) in
    ap (λ i. link_name (strings_of file at) i (here + 0)) (sym is) ∙ ap (link_name (strings_of file at) index) there

need_small : (file : List ℕ) (at p word : ℕ) → word ≡ vna_other file (sh_offset file at + p) → number_in word < 1024 → nat_lt (number_in (vna_other file (sh_offset file at + p))) 1024 ≡ true
need_small file at p word is small = lt_true (number_in (vna_other file (sh_offset file at + p))) 1024 (subst (λ w. number_in w < 1024) is small)

pub need_unnamed : (file bytes : List ℕ) (at owner p from word index : ℕ) (place : RecordPlace) (fault : LinkFault) → IsInside file at p 16 place → word ≡ vna_other file (sh_offset file at + p) → number_in word < 1024
    → index ≡ vna_name file (sh_offset file at + p) → FindsText bytes (strings_of file at) index place.at (Err fault) → IsRecordRefusal (refusal_of (names_here file at (state_at Need owner p from))) fault
need_unnamed file bytes at owner p from word index place fault inside is small named found =
    let here = sh_offset file at + p in
    let known = need_inside file at owner p from true inside.within (need_small file at p word is small) in
    subst (λ (r : Result (List NumberedName) LinkRefusal). IsRecordRefusal (refusal_of r) fault) (sym known)
    (numbered_refused bytes (strings_of file at) true (number_in (vna_other file here)) index place.at _ fault found (need_name file at p index place inside named))

pub need_named : (file : List ℕ) (at owner p from word index : ℕ) (name : List ℕ) (place : RecordPlace) → IsInside file at p 16 place → word ≡ vna_other file (sh_offset file at + p) → number_in word < 1024
    → index ≡ vna_name file (sh_offset file at + p) → link_name (strings_of file at) index place.at ≡ Ok name
    → names_here file at (state_at Need owner p from) ≡ Ok (record { number = number_in word; name = name } ∷ [])
need_named file at owner p from word index name place inside is small named called =
    let here = sh_offset file at + p in
    need_inside file at owner p from true inside.within (need_small file at p word is small)
    ∙ ap (numbered true (number_in (vna_other file here))) (need_name file at p index place inside named ∙ called)
    ∙ ap (λ w. Ok (record { number = number_in w; name = name } ∷ [])) (sym is)

pub need_next : (file : List ℕ) (at owner p from distance : ℕ) (place : RecordPlace) (next : Option RecordPlace) → IsInside file at p 16 place → distance ≡ vna_next file (sh_offset file at + p) → next ≡ next_along place distance
    → IsNextRecord Need owner (after_file file at owner) (sh_offset file at) (next_position file (sh_offset file at) (state_at Need owner p from)) next
unfolding next_position next_word
need_next file at owner p from distance place next inside is goes =
    let table = sh_offset file at in
    let end = after_file file at owner in
    let d = vna_next file (table + p) in
    rw (goes, is)
    (next_by Need owner end table (p + d) (table + p) (λ last. if last then end else (if last then None else Some (state_at Need owner (p + d) (table + p)))) (d == 0) (place_along place d) refl refl
    (along_place file at p 16 d place inside))
