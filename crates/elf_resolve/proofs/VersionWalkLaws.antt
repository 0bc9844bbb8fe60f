-- Walks over version records of a shared library, and the names that they find.
use Rattle.std.proofs.Common.{◌≡◌, ℕ, suc, ◌+◌, ◌/◌, ◌==◌, Bool, true, false, List, [], ◌++◌, inl, inr, refl, sym, ap, subst, ◌∙◌, arith}
use Rattle.std.specs.Prelude.{Option, None, Some, Result, Ok, Err, if◌then◌else◌}
use Rattle.std.proofs.lemmas.List.{append-nil, append_assoc}
use Rattle.elf_model.specs.Bytes.{field, slice}
use Rattle.elf_model.specs.LinkArchives.{refusal_of}
use Rattle.elf_model.specs.LinkSymbols.{and_then, followed}
use Rattle.elf_model.specs.Records.{sh_offset, sh_size, vn_aux, vn_next, vn_version}
use Rattle.elf_model.specs.Tables.{section_bytes}
use Rattle.elf_model.specs.Versions.{RecordCursorState, first_position, next_position, record_size}
use Rattle.elf_model.specs.declared.causes.Cause.TheVariants.{VersionCut, BadVersion}
use Rattle.elf_model.specs.declared.link_states.LinkCause.TheVariants as cause
use Rattle.elf_model.specs.declared.link_states.LinkRefusal.{LinkRefusal}
use Rattle.elf_model.specs.declared.versions.VersionKind.{VersionKind}
use Rattle.elf_model.specs.declared.versions.VersionKind.TheVariants.{File, Need}
use Rattle.elf_resolve.specs.LibraryVersions.{NumberedName, version_names}
use Rattle.elf_resolve.specs.VersionWalks.{FindsRecord, HoldsVersionNames, HoldsVersions, IsNextRecord, IsRecordPlace, IsRecordRefusal, PassesAll, ReadsNames, ReadsVersionRecord, WalksNames, after_file, first_along, names_from, names_here, next_along, place_along, state_at}
use Rattle.elf_resolve.specs.declared.link_faults.LinkFault.{LinkFault}
use Rattle.elf_resolve.specs.declared.link_faults.LinkFault.TheVariants as fault
use Rattle.elf_resolve.specs.declared.string_buffer.HeldText.{HeldText}
use Rattle.elf_resolve.specs.declared.version_records.RecordPlace.{RecordPlace}
use Rattle.elf_resolve.specs.declared.version_records.VersionSection.{VersionSection}
use Rattle.elf_resolve.proofs.FollowedLaws.{followed_all, followed_more, followed_none}
use Rattle.elf_resolve.proofs.StringBufferLaws.{held_size}
use Rattle.elf_resolve.proofs.VersionPlaceLaws.{IsInside, along_place, eq_false, eq_true, file_tested, first_field, lt_false, lt_true, names_all, names_end, names_next, names_past, next_by, place_inside, place_outside, refused_as, tested}

-- A WALK at its start, after one record more, at a fault, at its end, and past its end
pub walk_first : (file bytes : List ℕ) (at left : ℕ) (kind : VersionKind) (table : VersionSection) (texts : List (Option HeldText)) (next : Option RecordPlace) → HoldsVersions file bytes at table
    → HoldsVersionNames bytes texts [] → next ≡ first_along table → left ≡ table.records.size / record_size kind
    → WalksNames file bytes at kind 0 None (version_names kind file at) [] left texts next
walk_first file bytes at left kind table texts next held none first most = record {
  state = first_position kind at (sh_size file at);
  done = [];
  known_is =
      names_all kind file at ∙ ap (λ n. names_from file at (first_position kind at (sh_size file at)) n) (sym (most ∙ ap (λ n. n / record_size kind) sized))
      ∙ followed_none (names_from file at (first_position kind at (sh_size file at)) left);
  holds = none;
  next_is = rw (first, sized) (by_test (sh_size file at == 0));
}
  where
    sized : table.records.size ≡ sh_size file at
    sized = sym (held_size bytes table.records (section_bytes file at) held.records) ∙ held.whole

    start : IsRecordPlace (sh_offset file at) 0 at (record { start = 0; at = table.at; led_by = table.header })
    start = record { start = refl; at_is = omega (arith, held.at_is, held.fits); led_by = held.header_is }

    by_test : (none : Bool) → IsNextRecord kind 0 None (sh_offset file at) (if none then None else Some (state_at kind 0 0 at)) (if none then None else Some (record { start = 0; at = table.at; led_by = table.header }))
    by_test true = refl
    by_test false = (0, at, refl, start)

pub walk_here : (file bytes : List ℕ) (at owner left rest : ℕ) (kind : VersionKind) (end : Option RecordCursorState) (known : Result (List NumberedName) LinkRefusal) (names : List NumberedName)
    (texts : List (Option HeldText)) (next : Option RecordPlace) (place : RecordPlace) → left ≡ suc rest → next ≡ Some place → WalksNames file bytes at kind owner end known names left texts next
    → WalksNames file bytes at kind owner end known names (suc rest) texts (Some place)
walk_here file bytes at owner left rest kind end known names texts next place more is walk = record {
  state = walk.state;
  done = walk.done;
  known_is = walk.known_is ∙ ap (λ n. followed walk.done (names_from file at walk.state n)) more;
  holds = walk.holds;
  next_is = subst (IsNextRecord kind owner end (sh_offset file at) walk.state) is walk.next_is;
}

-- the record at a place of a walk
pub walk_more : (file bytes : List ℕ) (at owner left : ℕ) (kind : VersionKind) (end : Option RecordCursorState) (known : Result (List NumberedName) LinkRefusal) (names : List NumberedName)
    (texts next_texts : List (Option HeldText)) (place : RecordPlace) (next : Option RecordPlace) (walk : WalksNames file bytes at kind owner end known names (suc left) texts (Some place))
    → ReadsVersionRecord file bytes at (state_at kind owner walk.next_is.0 walk.next_is.1) (names ++ walk.done) next_texts end (Ok next) → WalksNames file bytes at kind owner end known names left next_texts next
walk_more file bytes at owner left kind end known names texts next_texts place next walk read =
    let stand = state_at kind owner walk.next_is.0 walk.next_is.1 in
    let step = ap (λ s. names_from file at s (suc left)) walk.next_is.2 ∙ names_next file at left stand in
    record {
      state = next_position file (sh_offset file at) stand;
      done = walk.done ++ read.0;
      known_is = followed_more known (names_from file at walk.state (suc left)) (names_here file at stand) (names_from file at (next_position file (sh_offset file at) stand) left) walk.done read.0 walk.known_is step read.1;
      holds = subst (HoldsVersionNames bytes next_texts) (append_assoc names walk.done read.0) read.2;
      next_is = read.3;
    }

refusal_then : (known left part rest : Result (List NumberedName) LinkRefusal) (done : List NumberedName) (fault : LinkFault) → known ≡ followed done left → left ≡ and_then part rest
    → IsRecordRefusal (refusal_of part) fault → IsRecordRefusal (refusal_of known) fault
refusal_then known left (Ok names) rest done (fault.Refused refusal) so_far step is = absurd (cc)
refusal_then known left (Err other) rest done (fault.Refused refusal) so_far step is = ap refusal_of (so_far ∙ ap (followed done) step) ∙ is
refusal_then known left part rest done fault.Read so_far step is = absurd is
refusal_then known left part rest done fault.Open so_far step is = absurd is
refusal_then known left part rest done fault.Memory so_far step is = absurd is

pub walk_fault : (file bytes : List ℕ) (at owner left : ℕ) (kind : VersionKind) (end : Option RecordCursorState) (known : Result (List NumberedName) LinkRefusal) (names : List NumberedName)
    (texts : List (Option HeldText)) (place : RecordPlace) (fault : LinkFault) (walk : WalksNames file bytes at kind owner end known names (suc left) texts (Some place))
    → IsRecordRefusal (refusal_of (names_here file at (state_at kind owner walk.next_is.0 walk.next_is.1))) fault → IsRecordRefusal (refusal_of known) fault
walk_fault file bytes at owner left kind end known names texts place fault walk is =
    let stand = state_at kind owner walk.next_is.0 walk.next_is.1 in
    let step = ap (λ s. names_from file at s (suc left)) walk.next_is.2 ∙ names_next file at left stand in
    refusal_then known (names_from file at walk.state (suc left)) (names_here file at stand) (names_from file at (next_position file (sh_offset file at) stand) left) walk.done fault walk.known_is step is

pub walk_end : (file bytes : List ℕ) (at owner left : ℕ) (kind : VersionKind) (known : Result (List NumberedName) LinkRefusal) (texts : List (Option HeldText)) (next : Option RecordPlace) → next ≡ None
    → WalksNames file bytes at kind owner None known [] left texts next → ReadsNames known bytes texts (Ok tt)
walk_end file bytes at owner left kind known texts next last walk =
    let ended : walk.state ≡ None = subst (IsNextRecord kind owner None (sh_offset file at) walk.state) last walk.next_is in (
      walk.done,
      followed_all known (names_from file at walk.state left) walk.done walk.known_is (ap (λ s. names_from file at s left) ended ∙ names_end file at left),
      walk.holds,
    )

pub walk_past : (file bytes : List ℕ) (at owner left : ℕ) (kind : VersionKind) (end : Option RecordCursorState) (known : Result (List NumberedName) LinkRefusal) (names : List NumberedName)
    (texts : List (Option HeldText)) (next : Option RecordPlace) (fault : LinkFault) → left ≡ 0 → WalksNames file bytes at kind owner end known names left texts next → PassesAll next (Err fault)
    → IsRecordRefusal (refusal_of known) fault
walk_past file bytes at owner left kind end known names texts next fault none walk past =
    let here = subst (IsNextRecord kind owner end (sh_offset file at) walk.state) past.1 walk.next_is in
    let stand = state_at kind owner here.0 here.1 in
    let all = walk.known_is ∙ ap (λ n. followed walk.done (names_from file at walk.state n)) none ∙ ap (λ s. followed walk.done (names_from file at s 0)) here.2 ∙ ap (followed walk.done) (names_past file at stand) in
    rw (past.2, all) (ap (λ a. Some (record { at = a; cause = cause.Refused VersionCut })) (sym here.3.led_by))

-- THE VERSIONS OF A FILE: a walk at the first, the names that they leave, and their refusal
pub walk_versions : (file bytes : List ℕ) (at owner p from left : ℕ) (names : List NumberedName) (texts : List (Option HeldText)) (place : RecordPlace) → IsRecordPlace (sh_offset file at) p from place
    → HoldsVersionNames bytes texts names → WalksNames file bytes at Need owner (after_file file at owner) (names_from file at (Some (state_at Need owner p from)) left) names left texts (Some place)
walk_versions file bytes at owner p from left names texts place is held = record {
  state = Some (state_at Need owner p from);
  done = [];
  known_is = followed_none (names_from file at (Some (state_at Need owner p from)) left);
  holds = subst (HoldsVersionNames bytes texts) (sym (append-nil names)) held;
  next_is = (p, from, refl, is);
}

pub walk_left : (file bytes : List ℕ) (at owner left rest : ℕ) (kind : VersionKind) (end : Option RecordCursorState) (known : Result (List NumberedName) LinkRefusal) (names : List NumberedName)
    (texts : List (Option HeldText)) (next : Option RecordPlace) → next ≡ None → rest ≡ left → (walk : WalksNames file bytes at kind owner end known names left texts next)
    → known ≡ followed walk.done (names_from file at end rest)
walk_left file bytes at owner left rest kind end known names texts next last same walk =
    let ended : walk.state ≡ end = subst (IsNextRecord kind owner end (sh_offset file at) walk.state) last walk.next_is in
    walk.known_is ∙ ap (λ s. followed walk.done (names_from file at s left)) ended ∙ ap (λ n. followed walk.done (names_from file at end n)) (sym same)

-- a walk whose records are all read, or one too many
pub ended : (file bytes : List ℕ) (at owner left : ℕ) (kind : VersionKind) (known : Result (List NumberedName) LinkRefusal) (texts : List (Option HeldText)) (next : Option RecordPlace) (result : Result (Unit {0}) LinkFault)
    → left ≡ 0 → WalksNames file bytes at kind owner None known [] left texts next → PassesAll next result → ReadsNames known bytes texts result
ended file bytes at owner left kind known texts next (Ok tt) none walk past = walk_end file bytes at owner left kind known texts next past walk
ended file bytes at owner left kind known texts next (Err fault) none walk past = walk_past file bytes at owner left kind None known [] texts next fault none walk past

-- A NEEDED FILE of a walk: its record is refused, or its versions are next
pub file_refused : (file bytes : List ℕ) (at p from : ℕ) (table : VersionSection) (place : RecordPlace) (fault : LinkFault) → HoldsVersions file bytes at table → IsRecordPlace (sh_offset file at) p from place
    → FindsRecord (section_bytes file at) place 16 (Err fault) → IsRecordRefusal (refusal_of (names_here file at (state_at File 0 p from))) fault
file_refused file bytes at p from table place fault held is (inl found) =
    let here = sh_offset file at + p in
    let outside = lt_true (sh_size file at) (p + 16) (place_outside file bytes at p from 16 table place held is found.0) in
    refused_as (names_here file at (state_at File 0 p from)) from place.led_by VersionCut fault
    (file_tested file at p from ∙ ap (λ o. tested o (vn_version file here == 1) true o from here (Ok [])) outside) is.led_by found.1
file_refused file bytes at p from table place fault held is (inr found) =
    let here = sh_offset file at + p in
    let inside = place_inside file bytes at p from 16 table place held is (omega arith) found.0 in
    let whole = lt_false (sh_size file at) (p + 16) inside.within in
    let other = eq_false (vn_version file here) 1 (λ e. found.1 (first_field file _ at p 16 2 place inside refl (omega arith) ∙ e)) in
    refused_as (names_here file at (state_at File 0 p from)) here place.at BadVersion fault
    (file_tested file at p from ∙ ap (λ o. tested o (vn_version file here == 1) true o from here (Ok [])) whole ∙ ap (λ f. tested false f true false from here (Ok [])) other) inside.at_is found.2

file_unnamed : (file record_bytes : List ℕ) (at p from : ℕ) (place : RecordPlace) → IsInside file at p 16 place → record_bytes ≡ slice (section_bytes file at) place.start 16 → field record_bytes 0 2 ≡ 1
    → names_here file at (state_at File 0 p from) ≡ Ok []
file_unnamed file record_bytes at p from place inside part form =
    let here = sh_offset file at + p in
    let whole = lt_false (sh_size file at) (p + 16) inside.within in
    let one = eq_true (vn_version file here) 1 (sym (first_field file record_bytes at p 16 2 place inside part (omega arith)) ∙ form) in
    file_tested file at p from ∙ ap (λ o. tested o (vn_version file here == 1) true o from here (Ok [])) whole ∙ ap (λ f. tested false f true false from here (Ok [])) one

file_leads : (file : List ℕ) (at p from : ℕ) → next_position file (sh_offset file at) (state_at File 0 p from) ≡ Some (state_at Need p (p + vn_aux file (sh_offset file at + p)) (sh_offset file at + p))
unfolding next_position
file_leads file at p from = refl

-- what is known after a file's record
pub file_step : (file bytes record_bytes : List ℕ) (at p from rest : ℕ) (known : Result (List NumberedName) LinkRefusal) (texts : List (Option HeldText)) (place : RecordPlace)
    (walk : WalksNames file bytes at File 0 None known [] (suc rest) texts (Some place)) → p ≡ walk.next_is.0 → from ≡ walk.next_is.1
    → IsInside file at p 16 place → record_bytes ≡ slice (section_bytes file at) place.start 16 → field record_bytes 0 2 ≡ 1
    → known ≡ followed walk.done (names_from file at (Some (state_at Need p (p + vn_aux file (sh_offset file at + p)) (sh_offset file at + p))) rest)
file_step file bytes record_bytes at p from rest known texts place walk p_is from_is inside part form =
    let stand = state_at File 0 p from in
    let here : walk.state ≡ Some stand = walk.next_is.2 ∙ ap (λ q. Some (state_at File 0 q walk.next_is.1)) (sym p_is) ∙ ap (λ f. Some (state_at File 0 p f)) (sym from_is) in
    let step : names_from file at (Some stand) (suc rest) ≡ names_from file at (next_position file (sh_offset file at) stand) rest =
    names_next file at rest stand ∙ ap (λ r. and_then r (names_from file at (next_position file (sh_offset file at) stand) rest)) (file_unnamed file record_bytes at p from place inside part form)
    ∙ sym (followed_none (names_from file at (next_position file (sh_offset file at) stand) rest)) in
    walk.known_is ∙ ap (λ s. followed walk.done (names_from file at s (suc rest))) here ∙ ap (followed walk.done) (step ∙ ap (λ s. names_from file at s rest) (file_leads file at p from))

pub versions_refused : (known left : Result (List NumberedName) LinkRefusal) (done : List NumberedName) (fault : LinkFault) → known ≡ followed done left → IsRecordRefusal (refusal_of left) fault
    → IsRecordRefusal (refusal_of known) fault
versions_refused known (Ok names) done (fault.Refused refusal) so_far is = absurd (cc)
versions_refused known (Err other) done (fault.Refused refusal) so_far is = ap refusal_of so_far ∙ is
versions_refused known left done fault.Read so_far is = absurd is
versions_refused known left done fault.Open so_far is = absurd is
versions_refused known left done fault.Memory so_far is = absurd is

followed_twice : (known rest : Result (List NumberedName) LinkRefusal) (done more : List NumberedName) → known ≡ followed done (followed more rest) → known ≡ followed (done ++ more) rest
followed_twice known (Ok names) done more is = is ∙ ap (λ l. Ok l) (sym (append_assoc done more names))
followed_twice known (Err refusal) done more is = is

pub file_more : (file bytes : List ℕ) (at p left distance : ℕ) (known versions : Result (List NumberedName) LinkRefusal) (done more : List NumberedName) (texts : List (Option HeldText)) (place : RecordPlace) (next : Option RecordPlace)
    → IsInside file at p 16 place → distance ≡ vn_next file (sh_offset file at + p) → next ≡ next_along place distance
    → known ≡ followed done versions → versions ≡ followed more (names_from file at (after_file file at p) left) → HoldsVersionNames bytes texts (done ++ more)
    → WalksNames file bytes at File 0 None known [] left texts next
file_more file bytes at p left distance known versions done more texts place next inside far goes so_far is held =
    let table = sh_offset file at in
    let d = vn_next file (table + p) in
    record {
      state = after_file file at p;
      done = done ++ more;
      known_is = followed_twice known (names_from file at (after_file file at p) left) done more (so_far ∙ ap (followed done) is);
      holds = held;
      next_is = rw (goes, far)
          (next_by File 0 None table (p + d) (table + p) (λ last. if last then None else Some (state_at File 0 (p + d) (table + p))) (d == 0) (place_along place d) refl refl (along_place file at p 16 d place inside));
    }
