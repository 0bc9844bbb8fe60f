-- Whether the records of a file define a version.
use Rattle.std.proofs.Common.{◌≡◌, ℕ, zero, suc, ◌+◌, if◌then◌else◌, Bool, true, false, List, [], ◌∷◌, Option, None, Some, Result, Ok, Err, IfErr, IfSome, inl, inr, refl, sym, ap, subst, ◌∙◌, arith}
use Rattle.std.proofs.lemmas.Bool.{cases_Bool}
use Rattle.std.proofs.lemmas.Bool.Decides.{nat_tests}
use Rattle.std.specs.Prelude.{◌==◌, is_none, is_some, not, option_map}
use Rattle.elf_model.specs.Prelude.{DT_VERDEF, DT_VERSYM, Meets, NeededVersion, RecordCursorState, VersionRecordRead, VersionRecordTable as IsTableOf, Versions, VisitedRecord, along, define_version, dynamic_segment_index, first_position, first_refusal, hash_word, name_index, named_at, next_position, next_word, readings_of, record_checks, version_records_at, rest_checks, rest_place, rest_size, same, segment_at, segment_strings, state_by_records, state_by_segments, state_in_file, tagged_row, visited_at, visited_from, with_visited}
use Rattle.elf_model.specs.Records.{vd_hash}
use Rattle.elf_model.specs.declared.causes.Cause.{Cause}
use Rattle.elf_model.specs.declared.causes.Refusal.{Refusal}
use Rattle.elf_model.specs.declared.states.VersionState.{VersionState}
use Rattle.elf_model.specs.declared.states.VersionState.TheVariants as state
use Rattle.elf_model.specs.declared.versions.VersionKind.{VersionKind}
use Rattle.elf_model.specs.declared.versions.VersionKind.TheVariants.{Definition, File, Need}
use Rattle.elf_table.specs.Prelude.{ComparesName, fault_of_result}
use Rattle.elf_table.specs.declared.fault.Fault.{Fault}
use Rattle.elf_table.specs.declared.fault.Fault.TheVariants.{Refused, Source}
use Rattle.elf_hash.specs.Prelude.{IsVersionRecordTable, RefusesAs, VersionRecordsInBounds}
use Rattle.elf_hash.specs.declared.symbols.VersionRecordTable.{VersionRecordTable}
use Rattle.elf_note.specs.Reading.{GivesVersion, IsVersion, LeadsOn, ReturnsVersion, VersionCursorState, record_position_of, versions_left}
use Rattle.elf_note.specs.declared.record.VersionRecord.{VersionRecord}
use Rattle.elf_note.specs.declared.record_position.RecordPosition.{RecordPosition}
use Rattle.elf_loader.proofs.LeftReadings.{ended-left, left_of, refused-left}
use Rattle.elf_library.specs.NeedWalks.{AtDefinition, DefinesOne}
use Rattle.elf_library.specs.Sought.{IsReportedAlone}
use Rattle.elf_library.specs.VersionTables.{AreRecordsAt, AreVersionsAt, AreVersionsOf, FileVersionsInBounds, no_file_versions}
use Rattle.elf_library.specs.declared.version_tables.FileVersions.{FileVersions}

-- two numbers are the same, or not
unequal : (m n : ℕ) → (m ≡ n → ⊥) → (m == n) ≡ false
unequal m n other = elim (cases_Bool (m == n)) [
  | inl t ↦ absurd (other (grind (arith, nat_tests)))
  | inr f ↦ f
]

equal : (m n : ℕ) → m ≡ n → (m == n) ≡ true
equal m n is = rw is (grind (arith, nat_tests))

-- a comparison that fails
pub says_if : (P : Fault → Type 0) (result : Result Bool Fault) → IfErr result P → IfSome (fault_of_result result) P
says_if P (Ok x) says = tt
says_if P (Err fault) says = says

-- ONE RECORD
module _ (file version : List ℕ) (hash : ℕ) (strings : List ℕ) (met : VisitedRecord) (others : List VersionRecordRead) where
  abbrev all : Result Bool Refusal
  all = define_version file version hash (Meets strings met ∷ others)

  abbrev rest : Result Bool Refusal
  rest = define_version file version hash others

  other_hash : (vd_hash file met.at == hash) ≡ false → all ≡ rest
  unfolding define_version
  other_hash e = rw (e, define_version) refl

  same_name : (vd_hash file met.at == hash) ≡ true → same strings (name_index file met) version ≡ Ok true → all ≡ Ok true
  unfolding define_version
  same_name e n = rw (e, n, define_version) refl

  other_name : (vd_hash file met.at == hash) ≡ true → same strings (name_index file met) version ≡ Ok false → all ≡ rest
  unfolding define_version
  other_name e n = rw (e, n, define_version) refl

  no_name : (cause : Cause) → (vd_hash file met.at == hash) ≡ true → same strings (name_index file met) version ≡ Err cause → all ≡ Err (record { at = named_at file met; cause = cause })
  unfolding define_version
  no_name cause e n = rw (e, n, define_version) refl

  module _ (given : VersionRecord) (is : IsVersion file met given) (kind : met.kind ≡ Definition) where
    hash_is : vd_hash file met.at ≡ given.hash
    unfolding hash_word
    hash_is = let e : hash_word file met ≡ vd_hash file met.at = rw (kind, hash_word) refl in sym (is.hash ∙ e)

    pub hash_differs : (given.hash ≡ hash → ⊥) → DefinesOne all rest (Ok false)
    hash_differs e = other_hash (ap (λ (h : ℕ). h == hash) hash_is ∙ unequal given.hash hash e)

    compared : (given.hash == hash) ≡ true → (result : Result Bool Fault) → ComparesName given.named_at result (same strings (name_index file met) version) → DefinesOne all rest result
    compared e (Ok true) n = same_name (ap (λ (h : ℕ). h == hash) hash_is ∙ e) n
    compared e (Ok false) n = other_name (ap (λ (h : ℕ). h == hash) hash_is ∙ e) n
    compared e (Err (Refused refusal)) n = λ other.
        let r = n other in
        let at = is.named_at in
        no_name refusal.cause (ap (λ (h : ℕ). h == hash) hash_is ∙ e) r.1 ∙ ap (λ (a : ℕ). Err (record { at = a; cause = refusal.cause })) (sym at ∙ sym r.0)
    compared e (Err (Source fault at)) n = tt

    pub name_compares : given.hash ≡ hash → (result : Result Bool Fault) → ComparesName given.named_at result (same strings given.name version) → DefinesOne all rest result
    name_compares e result n = let i = is.name in compared (equal given.hash hash e) result (rw i at n)

-- A WALK OVER DEFINITIONS reads only these
empty : (met : VisitedRecord) (rest : List VisitedRecord) → [] ≡ met ∷ rest → ⊥
empty met rest e = cc

nowhere : {A : Type 0} (a : A) → Some a ≡ None → ⊥
nowhere a e = cc

pub at_first : (standing : Option RecordPosition) (kind : VersionKind) (head size : ℕ) → option_map record_position_of standing ≡ first_position kind head size → kind ≡ Definition → AtDefinition standing
at_first None kind head size e is = tt
at_first (Some s) kind head size e is = go (size == 0) refl
  where
    go : (b : Bool) → (size == 0) ≡ b → s.kind ≡ Definition
    go true z = absurd (nowhere (record_position_of s) (rw (z, first_position) at e))
    go false z =
        let f : Some (record_position_of s) ≡ Some (record { kind = kind; place = 0; from = head; owner = 0 }) = rw (z, first_position) at e in
        let same : record_position_of s ≡ record { kind = kind; place = 0; from = head; owner = 0 } = cc in
        ap (λ (r : RecordCursorState). r.kind) same ∙ is

module _ (file : List ℕ) (table : ℕ) where
  met_in : (size : ℕ) (standing : Option RecordPosition) (left : ℕ) (met : VisitedRecord) (rest : Versions) → visited_from file table size (option_map record_position_of standing) left ≡ with_visited met rest
      → AtDefinition standing → met.kind ≡ Definition
  unfolding visited_from
  met_in size None left met rest e at = absurd (empty met rest.met (ap (λ (v : Versions). v.met) e))
  met_in size (Some s) zero met rest e at = absurd (empty met rest.met (ap (λ (v : Versions). v.met) e))
  met_in size (Some s) (suc left) met rest e at = go (first_refusal (record_checks file table size (record_position_of s))) refl
    where
      go : (o : Option Refusal) → first_refusal (record_checks file table size (record_position_of s)) ≡ o → met.kind ≡ Definition
      go (Some refusal) c = absurd (empty met rest.met (ap (λ (v : Versions). v.met) (rw (c, visited_from) at e)))
      go None c =
          let first = ap (λ (v : Versions). v.met) (rw (c, visited_from) at e) in
          let same : visited_at table (record_position_of s) ≡ met = cc in
          sym (ap (λ (m : VisitedRecord). m.kind) same) ∙ at

  after : (kind : VersionKind) (place from owner : ℕ) → kind ≡ Definition
      → next_position file table (record { kind = kind; place = place; from = from; owner = owner }) ≡ along table Definition place (next_word file (record { kind = kind; at = table + place })) 0
  unfolding next_position
  after Definition place from owner is = refl
  after File place from owner is = let no : File ≡ Definition = is in absurd (cc)
  after Need place from owner is = let no : Need ≡ Definition = is in absurd (cc)

  next_in : (old new : Option RecordPosition) → IfSome old (λ s. option_map record_position_of new ≡ next_position file table (record_position_of s)) → (old ≡ None → ⊥) → AtDefinition old → AtDefinition new
  next_in None new leads some at = absurd (some refl)
  next_in (Some s) None leads some at = tt
  next_in (Some s) (Some n) leads some at =
      let d = next_word file (record { kind = s.kind; at = table + s.place }) in
      let e : Some (record_position_of n) ≡ along table Definition s.place d 0 = leads ∙ after s.kind s.place s.from s.owner at in
      go d e (d == 0) refl
    where
      go : (d : ℕ) → Some (record_position_of n) ≡ along table Definition s.place d 0 → (b : Bool) → (d == 0) ≡ b → n.kind ≡ Definition
      go d e true z = absurd (nowhere (record_position_of n) (rw (z, along) at e))
      go d e false z =
          let f : Some (record_position_of n) ≡ Some (record { kind = Definition; place = s.place + d; from = table + s.place; owner = 0 }) = rw (z, along) at e in
          let same : record_position_of n ≡ record { kind = Definition; place = s.place + d; from = table + s.place; owner = 0 } = cc in
          ap (λ (r : RecordCursorState). r.kind) same

  is_at : (size : ℕ) (standing : Option RecordPosition) (left : ℕ) (met : VisitedRecord) (rest : Versions) → visited_from file table size (option_map record_position_of standing) left ≡ with_visited met rest
      → standing ≡ None → ⊥
  unfolding visited_from
  is_at size None left met rest e none = empty met rest.met (ap (λ (v : Versions). v.met) e)
  is_at size (Some s) left met rest e none = nowhere s none

module _ (file : List ℕ) (old new : VersionCursorState) (given : VersionRecord) (gives : GivesVersion file (versions_left file old) (versions_left file new) given) where
  pub met_kind : AtDefinition old.standing → gives.met.kind ≡ Definition
  met_kind at = met_in file old.held.table.at old.held.table.count old.standing old.left gives.met (versions_left file new) gives.first at

  pub next_kind : LeadsOn file old new → AtDefinition old.standing → AtDefinition new.standing
  next_kind leads at =
      next_in file old.held.table.at old.standing new.standing leads (is_at file old.held.table.at old.held.table.count old.standing old.left gives.met (versions_left file new) gives.first) at

-- THE RECORDS THAT ARE LEFT
module _ (file version : List ℕ) (hash : ℕ) (strings : List ℕ) where
  pub define_fails : (old new : VersionCursorState) (fault : Fault) → ReturnsVersion file (versions_left file old) (versions_left file new) (Err fault)
      → RefusesAs (define_version file version hash (left_of file strings [] old)) fault
  unfolding define_version
  define_fails old new (Refused refusal) tells = λ other.
      refused-left file strings old.held.table.at old.held.table.count old.standing old.left [] refusal
      (λ (all : List VersionRecordRead). define_version file version hash all ≡ Err refusal) (tells other) refl refl
  define_fails old new (Source fault at) tells = tt

  pub define_ends : (old new : VersionCursorState) → ReturnsVersion file (versions_left file old) (versions_left file new) (Ok None) → define_version file version hash (left_of file strings [] old) ≡ Ok false
  unfolding define_version
  define_ends old new tells = let e = ended-left file strings old.held.table.at old.held.table.count old.standing old.left [] tells in rw e refl

pub refuses_then : (all left : Result Bool Refusal) (fault : Fault) → all ≡ left → RefusesAs left fault → RefusesAs all fault
refuses_then all left fault same refuses = subst (λ (r : Result Bool Refusal). RefusesAs r fault) (sym same) refuses

-- THE STATE OF A NEEDED VERSION
module _ (file : List ℕ) where
  none_at : (told : Result (Option IsTableOf) Refusal) → AreRecordsAt file told (Ok None) → told ≡ Ok None
  none_at (Ok None) are = refl
  none_at (Ok (Some told)) are = absurd are
  none_at (Err refusal) are = absurd are

  refused_at : (told : Result (Option IsTableOf) Refusal) (fault : Fault) → AreRecordsAt file told (Err fault) → (refusal : Refusal) × (told ≡ Err refusal)
  refused_at (Ok None) fault are = absurd are
  refused_at (Ok (Some told)) fault are = absurd are
  refused_at (Err refusal) fault are = (refusal, refl)

  some_at : (told : Result (Option IsTableOf) Refusal) (records : VersionRecordTable) → AreRecordsAt file told (Ok (Some records)) → (table : IsTableOf) × (told ≡ Ok (Some table)) × IsVersionRecordTable file table records
  some_at (Ok None) records are = absurd are
  some_at (Ok (Some table)) records are = (table, refl, are)
  some_at (Err refusal) records are = absurd are

  abbrev no_table : Result (Option IsTableOf) Refusal
  no_table = Ok None

  not_some : (table : IsTableOf) → no_table ≡ Ok (Some table) → ⊥
  not_some table e = cc

  kind_at : (at tag : ℕ) (kind : VersionKind) (table : IsTableOf) → version_records_at file at tag kind ≡ Ok (Some table) → table.kind ≡ kind
  unfolding version_records_at
  kind_at at tag kind table e = go (tagged_row file at tag) refl
    where
      by_checks : (row : ℕ) → tagged_row file at tag ≡ Some row → (o : Option Refusal) → first_refusal (rest_checks file row) ≡ o → table.kind ≡ kind
      by_checks row some (Some refusal) c = let f : Err refusal ≡ Ok (Some table) = rw (some, c, version_records_at) at e in absurd (cc)
      by_checks row some None c =
          let f : Ok (Some (record { kind = kind; head = row; place = rest_place file row; size = rest_size file row; strings = segment_strings file at })) ≡ Ok (Some table) = rw (some, c, version_records_at) at e in
          let same : record { kind = kind; head = row; place = rest_place file row; size = rest_size file row; strings = segment_strings file at } ≡ table = cc in
          sym (ap (λ (t : IsTableOf). t.kind) same)

      go : (o : Option ℕ) → tagged_row file at tag ≡ o → table.kind ≡ kind
      go None none = absurd (not_some table (rw (none, version_records_at) at e))
      go (Some row) some = by_checks row some (first_refusal (rest_checks file row)) refl

  module _ (needed : NeededVersion) where
    abbrev here : Option VersionState
    here = state_by_segments file needed

    no_segment : dynamic_segment_index file ≡ None → here ≡ Some state.Bare
    unfolding state_by_segments
    no_segment none = rw (none, state_by_segments) refl

    in_segment : (i : ℕ) → dynamic_segment_index file ≡ Some i → here ≡ state_in_file file (segment_at file i) needed
    unfolding state_by_segments
    in_segment i some = rw (some, state_by_segments) refl

    bare : (at : ℕ) → version_records_at file at DT_VERDEF Definition ≡ Ok None → state_in_file file at needed ≡ (if is_none (tagged_row file at DT_VERSYM) then Some state.Bare else None)
    unfolding state_in_file
    bare at e = rw (e, state_in_file) refl

    refused_in : (at : ℕ) (refusal : Refusal) → version_records_at file at DT_VERDEF Definition ≡ Err refusal → state_in_file file at needed ≡ Some state.Refused
    unfolding state_in_file
    refused_in at refusal e = rw (e, state_in_file) refl

    defined_in : (at : ℕ) (table : IsTableOf) → version_records_at file at DT_VERDEF Definition ≡ Ok (Some table)
        → state_in_file file at needed ≡ state_by_records needed.weak (define_version file needed.name needed.hash (readings_of file table []))
    unfolding state_in_file
    defined_in at table e = rw (e, state_in_file) refl

    turned : (row : Option ℕ) (b : Bool) → b ≡ is_some row → (if is_none row then Some state.Bare else None) ≡ (if b then None else Some state.Bare)
    turned None b e = rw e refl
    turned (Some row) b e = rw e refl

    module _ (versions : FileVersions) (are : AreVersionsOf file versions) where
      pub state_none : (found : Option VersionRecordTable) → versions.definitions ≡ Ok found → found ≡ None → here ≡ (if versions.has_versym then None else Some state.Bare)
      state_none None none is = go (dynamic_segment_index file) refl
        where
          go : (o : Option ℕ) → dynamic_segment_index file ≡ o → here ≡ (if versions.has_versym then None else Some state.Bare)
          go None e =
              let is : versions ≡ no_file_versions = rw (e, AreVersionsOf) at are in
              let versym : versions.has_versym ≡ false = ap (λ (v : FileVersions). v.has_versym) is in
              no_segment e ∙ rw versym refl
          go (Some i) e =
              let a : AreVersionsAt file (segment_at file i) versions = rw (e, AreVersionsOf) at are in
              in_segment i e ∙ bare (segment_at file i) (none_at _ (rw none at a.definitions)) ∙ turned (tagged_row file (segment_at file i) DT_VERSYM) versions.has_versym a.versym
      state_none (Some records) none is = absurd (nowhere records is)

      pub state_refused : (fault : Fault) → versions.definitions ≡ Err fault → here ≡ Some state.Refused
      state_refused fault refused = go (dynamic_segment_index file) refl
        where
          go : (o : Option ℕ) → dynamic_segment_index file ≡ o → here ≡ Some state.Refused
          go None e = absurd (let is : versions ≡ no_file_versions = rw (e, AreVersionsOf) at are in let no : Ok None ≡ Err fault = sym (ap (λ (v : FileVersions). v.definitions) is) ∙ refused in cc)
          go (Some i) e =
              let a : AreVersionsAt file (segment_at file i) versions = rw (e, AreVersionsOf) at are in
              let r = refused_at _ fault (rw refused at a.definitions) in
              in_segment i e ∙ refused_in (segment_at file i) r.0 r.1

      -- the definitions, and the state by them
      pub record IsDefinedIn (records : VersionRecordTable) : Type 0 where
        pub table : IsTableOf
        pub is : IsVersionRecordTable file table records
        pub kind : records.kind ≡ Definition
        pub state : here ≡ state_by_records needed.weak (define_version file needed.name needed.hash (readings_of file table []))

      state_some : (records : VersionRecordTable) → versions.definitions ≡ Ok (Some records) → IsDefinedIn records
      state_some records defined = go (dynamic_segment_index file) refl
        where
          go : (o : Option ℕ) → dynamic_segment_index file ≡ o → IsDefinedIn records
          go None e = absurd (let is : versions ≡ no_file_versions = rw (e, AreVersionsOf) at are in let no : Ok None ≡ Ok (Some records) = sym (ap (λ (v : FileVersions). v.definitions) is) ∙ defined in cc)
          go (Some i) e =
              let a : AreVersionsAt file (segment_at file i) versions = rw (e, AreVersionsOf) at are in
              let t = some_at _ records (rw defined at a.definitions) in
              record { table = t.0; is = t.2; kind = t.2.kind ∙ kind_at (segment_at file i) DT_VERDEF Definition t.0 t.1; state = in_segment i e ∙ defined_in (segment_at file i) t.0 t.1 }

      pub state_defined : (found : Option VersionRecordTable) (records : VersionRecordTable) → versions.definitions ≡ Ok found → found ≡ Some records → IsDefinedIn records
      state_defined found records is some = state_some records (is ∙ ap Ok some)

-- definitions that are found lie within the source
pub lies_in : (size : ℕ) (versions : FileVersions) (found : Option VersionRecordTable) (records : VersionRecordTable) → FileVersionsInBounds size versions → versions.definitions ≡ Ok found → found ≡ Some records
    → VersionRecordsInBounds size records
lies_in size versions found records lies is some = let e : versions.definitions ≡ Ok (Some records) = is ∙ ap Ok some in rw e at lies.definitions

-- the state by a fault of the definitions
pub by_fault : (weak : Bool) (told : Result Bool Refusal) (fault : Fault) → (IsReportedAlone fault → ⊥) → RefusesAs told fault → state_by_records weak told ≡ Some state.Refused
by_fault weak told (Refused refusal) other refuses = let e = refuses (λ budget. other budget) in rw e refl
by_fault weak told (Source fault at) other refuses = absurd (other tt)
