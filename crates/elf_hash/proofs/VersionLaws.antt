-- The version tables by the section headers.
use Rattle.std.proofs.Common.{◌≡◌, ℕ, ◌/◌, ◌<◌, ◌==◌, not, true, false, inl, inr, List, [], ◌∷◌, ◌++◌, length, Option, None, Some, Ok, Err, refl, sym, ap, ◌∙◌, arith, eq-eqb}
use Rattle.std.proofs.lemmas.Bool.{cases_Bool, eqb-true}
use Rattle.elf_model.specs.Prelude.{Check, SHT_GNU_VERDEF, SHT_GNU_VERNEED, SHT_GNU_VERSYM, VERSYM_SIZE, VersionRecordTable as IsTableOf, VersymTable as IsWordsOf, all_checks, checks_of_type, first_of_type, first_refusal, has_bytes, range_checks_of, records_of_type, records_with, refuse, section_at, section_words, sh_link, sh_offset, sh_size, strings_checks, table_checks, unless_empty, version_checks, version_table, words_section}
use Rattle.elf_model.specs.declared.causes.Cause.TheVariants.{BadLink}
use Rattle.elf_model.specs.declared.versions.VersionKind.TheVariants.{Definition, File}
use Rattle.elf_model.specs.declared.versions.VersionKind.{VersionKind}
use Rattle.elf_table.specs.Prelude.{ChecksThenValue, RefusedBy, TableRange, byte_rows, rows, string_table_at, strings_in, table_at}
use Rattle.elf_table.specs.declared.fault.Fault.{Fault}
use Rattle.elf_table.proofs.RelocationLaws.{table-fails, table-passes}
use Rattle.elf_hash.specs.Prelude.{AreInFront, AreVersionRecordTables, AreVersions, AreVersymTable, IsVersionRecordTable, IsVersymTable, records_at, table_if_any, words_checks}
use Rattle.elf_hash.specs.declared.symbols.VersionRecordTable.{VersionRecordTable}
use Rattle.elf_hash.specs.declared.versions.VersionTables.{VersionTables}
use Rattle.elf_hash.specs.declared.symbols.VersymTable.{VersymTable}
use Rattle.elf_hash.proofs.SettleLaws.{checked_fails, checked_passes, none_refused, passed_both, refused_back, refused_front}

-- the versym entries of a section: its own checks
abbrev words_own : List ℕ → ℕ → List Check
words_own file at = unless_empty (sh_size file at) (table_checks file at VERSYM_SIZE)

-- the checks of the bytes of a section
abbrev range_own : List ℕ → ℕ → List Check
range_own file at = range_checks_of (length file) (sh_offset file at) (sh_size file at) at

module _ (file : List ℕ) (at : ℕ) where
  own_refused : (fault : Fault) → Err fault ≡ table_at file at 2 → RefusedBy (words_own file at) fault
  own_refused fault h = let p = table-fails (sh_size file at == 0) _ _ (table_checks file at 2) fault (sym h) in rw p.0 p.1

  own_passes : (table : TableRange) → Ok table ≡ table_at file at 2
      → (first_refusal (words_own file at) ≡ None) × ((table.at ≡ sh_offset file at) × (table.count ≡ sh_size file at / 2))
  own_passes table h =
      let p = table-passes (sh_size file at == 0) (rows (sh_offset file at) 0 2) (rows (sh_offset file at) (sh_size file at / 2) 2) table (table_checks file at 2) (sym h) in
      elim (cases_Bool (sh_size file at == 0)) [
        | inl empty ↦
            let is : rows (sh_offset file at) 0 2 ≡ table = rw empty at p.1 in
            let none : 0 ≡ sh_size file at / 2 = rw (eqb-true (sh_size file at) 0 empty) refl in
            (p.0, (sym (ap (λ (t : TableRange). t.at) is), sym (ap (λ (t : TableRange). t.count) is) ∙ none))
        | inr some ↦
            let is : rows (sh_offset file at) (sh_size file at / 2) 2 ≡ table = rw some at p.1 in
            (p.0, (sym (ap (λ (t : TableRange). t.at) is), sym (ap (λ (t : TableRange). t.count) is)))
      ]

-- it is read if one of both kinds of records has a byte
module _ (file : List ℕ) where
  pub words_unread : has_bytes file SHT_GNU_VERDEF ≡ false → has_bytes file SHT_GNU_VERNEED ≡ false → None ≡ words_section file
  unfolding words_section
  words_unread d n = rw (d, n, words_section) refl

  pub words_defined : has_bytes file SHT_GNU_VERDEF ≡ true → first_of_type file SHT_GNU_VERSYM ≡ words_section file
  unfolding words_section
  words_defined d = rw (d, words_section) refl

  pub words_needed : has_bytes file SHT_GNU_VERDEF ≡ false → has_bytes file SHT_GNU_VERNEED ≡ true → first_of_type file SHT_GNU_VERSYM ≡ words_section file
  unfolding words_section
  words_needed d n = rw (d, n, words_section) refl

-- the first section of versym entries
module _ (file : List ℕ) (at : ℕ) where
  pub words_none : words_section file ≡ None → ChecksThenValue (words_checks file at) (AreVersymTable (section_words file)) (Ok None)
  unfolding section_words
  words_none e =
      let checks : words_checks file at ≡ [] = rw e refl in
      let told : AreVersymTable (section_words file) None = rw (e, section_words) tt in
      (ap first_refusal checks, told)

  module _ (i : ℕ) (e : words_section file ≡ Some i) where
    link : List Check
    link = refuse (not (sh_link file (section_at file i) == sh_link file at)) (section_at file i) BadLink ∷ []

    these : words_checks file at ≡ words_own file (section_at file i) ++ link
    unfolding link
    these = rw e refl

    pub words_refused : (fault : Fault) → Err fault ≡ table_at file (section_at file i) 2 → RefusedBy (words_checks file at) fault
    words_refused fault h = rw these (refused_front (words_own file (section_at file i)) link fault (own_refused file (section_at file i) fault h))

    pub words_are : (words : VersymTable) → Ok words.words ≡ table_at file (section_at file i) 2 → words.head ≡ section_at file i → words.index ≡ i
        → sh_link file (section_at file i) ≡ sh_link file at → ChecksThenValue (words_checks file at) (AreVersymTable (section_words file)) (Ok (Some words))
    unfolding link section_words
    words_are words h head index same =
        let p = own_passes file (section_at file i) words.words h in
        let equal : (sh_link file (section_at file i) == sh_link file at) ≡ true = eq-eqb _ _ same in
        let link_passes : first_refusal link ≡ None = rw equal refl in
        let is : IsVersymTable (record { place = sh_offset file (section_at file i); count = sh_size file (section_at file i) / 2; head = section_at file i; index = i }) words
        = record { place = p.1.0; count = p.1.1; head = head; index = index } in
        let told : AreVersymTable (section_words file) (Some words) = rw (e, section_words) is in
        (ap first_refusal these ∙ passed_both (words_own file (section_at file i)) link p.0 link_passes, told)

-- the records of a section
module _ (file : List ℕ) (at : ℕ) where
  pub strings_refused : (table : TableRange) (fault : Fault) → Ok table ≡ byte_rows (length file) (sh_offset file at) (sh_size file at) at → 0 < table.count
      → Err fault ≡ string_table_at file at → RefusedBy (all_checks version_table file at) fault
  strings_refused table fault h some s =
      let p = table-passes (sh_size file at == 0) (rows (sh_offset file at) 0 1) (rows (sh_offset file at) (sh_size file at) 1) table (range_own file at) (sym h) in
      elim (cases_Bool (sh_size file at == 0)) [
        | inl empty ↦
            let is : rows (sh_offset file at) 0 1 ≡ table = rw empty at p.1 in
            let none : 0 ≡ table.count = ap (λ (t : TableRange). t.count) is in absurd (omega (arith, none, some))
        | inr full ↦
            rw full (refused_back (range_own file at) (strings_checks file at) fault (rw full at p.0) (checked_fails (strings_checks file at) _ fault s))
      ]

  pub records_are : (kind : VersionKind) (records : VersionRecordTable) → Ok records.table ≡ byte_rows (length file) (sh_offset file at) (sh_size file at) at
      → records.kind ≡ kind → records.head ≡ at → (0 < records.table.count → Ok records.names ≡ string_table_at file at)
      → ChecksThenValue (all_checks version_table file at) (IsVersionRecordTable file (records_at file kind at)) (Ok records)
  records_are kind records h same head named =
      let p = table-passes (sh_size file at == 0) (rows (sh_offset file at) 0 1) (rows (sh_offset file at) (sh_size file at) 1) records.table (range_own file at) (sym h) in
      elim (cases_Bool (sh_size file at == 0)) [
        | inl empty ↦
            let is : rows (sh_offset file at) 0 1 ≡ records.table = rw empty at p.1 in
            let none : 0 ≡ records.table.count = ap (λ (t : TableRange). t.count) is in
            let zero : 0 ≡ sh_size file at = sym (eqb-true (sh_size file at) 0 empty) in (
              rw empty refl,
              record {
                kind = same;
                head = head;
                place = sym (ap (λ (t : TableRange). t.at) is);
                size = sym none ∙ zero;
                names = λ some. absurd (omega (arith, none, some));
              },
            )
        | inr full ↦
            let is : rows (sh_offset file at) (sh_size file at) 1 ≡ records.table = rw full at p.1 in
            let count : sh_size file at ≡ records.table.count = ap (λ (t : TableRange). t.count) is in
            let other : sh_size file at ≡ 0 → ⊥ = λ z. let f = rw z at full in cc in
            let some : 0 < records.table.count = positive _ (λ z. other (count ∙ z)) in
            let q = checked_passes (strings_checks file at) _ records.names (named some) in (
              rw full (passed_both (range_own file at) (strings_checks file at) (rw full at p.0) q.0),
              record {
                kind = same;
                head = head;
                place = sym (ap (λ (t : TableRange). t.at) is);
                size = sym count;
                names = λ _. ap (strings_in file) (sym q.1);
              },
            )
      ]
    where
      positive : (n : ℕ) → (n ≡ 0 → ⊥) → 0 < n
      positive n some = grind arith

-- the first section of records of a type
module _ (file : List ℕ) (type : ℕ) (kind : VersionKind) where
  pub first_none : first_of_type file type ≡ None → ChecksThenValue (checks_of_type file type (all_checks version_table file)) (AreInFront file (records_of_type file type kind)) (Ok None)
  first_none e =
      let same : (others : List IsTableOf) → records_of_type file type kind others ≡ others = λ others. rw (e, records_of_type) refl in
      let checks : checks_of_type file type (all_checks version_table file) ≡ [] = rw (e, checks_of_type) refl in
      (ap first_refusal checks, λ others tables h. rw (same others) h)

  module _ (i : ℕ) (e : first_of_type file type ≡ Some i) where
    first_checks : checks_of_type file type (all_checks version_table file) ≡ all_checks version_table file (section_at file i)
    first_checks = rw (e, checks_of_type) refl

    pub first_refused : (fault : Fault) → RefusedBy (all_checks version_table file (section_at file i)) fault → RefusedBy (checks_of_type file type (all_checks version_table file)) fault
    first_refused fault r = rw first_checks r

    pub first_are : (records : VersionRecordTable) → ChecksThenValue (all_checks version_table file (section_at file i)) (IsVersionRecordTable file (records_at file kind (section_at file i))) (Ok records)
        → ChecksThenValue (checks_of_type file type (all_checks version_table file)) (AreInFront file (records_of_type file type kind)) (Ok (Some records))
    first_are records s =
        let same : (others : List IsTableOf) → records_of_type file type kind others ≡ records_at file kind (section_at file i) ∷ others = λ others. rw (e, records_of_type) refl in
        (ap first_refusal first_checks ∙ s.0, λ others tables h. rw (same others) (s.1, h))

-- nothing after
one_alone : (found : Option VersionRecordTable) → table_if_any found ++ [] ≡ table_if_any found
one_alone None = refl
one_alone (Some table) = refl

-- both tables of records, one before the other
pub both_in_front : (file : List ℕ) (front back : List IsTableOf → List IsTableOf) (one other : Option VersionRecordTable) → AreInFront file front one → AreInFront file back other
    → AreVersionRecordTables file (front (back [])) (table_if_any one ++ table_if_any other)
both_in_front file front back one other f b =
    let alone : AreVersionRecordTables file (back []) (table_if_any other ++ []) = b [] [] tt in
    let behind : AreVersionRecordTables file (back []) (table_if_any other) = rw (one_alone other) at alone in
    f (back []) (table_if_any other) behind

-- the records that come with versym entries
pub records_kept : (told : Option IsWordsOf) (words : VersymTable) (records : List IsTableOf) → AreVersymTable told (Some words) → records_with told records ≡ records
records_kept None words records h = absurd h
records_kept (Some one) words records h = refl

-- all version tables
module _ (file : List ℕ) (at : ℕ) where
  abbrev definitions : List Check
  definitions = checks_of_type file SHT_GNU_VERDEF (all_checks version_table file)

  abbrev needs : List Check
  needs = checks_of_type file SHT_GNU_VERNEED (all_checks version_table file)

  abbrev told : List IsTableOf
  told = records_of_type file SHT_GNU_VERDEF Definition (records_of_type file SHT_GNU_VERNEED File [])

  none_at_all : words_section file ≡ None → version_checks file at ≡ []
  unfolding version_checks
  none_at_all e = rw (e, version_checks) refl

  all_of_them : (i : ℕ) → words_section file ≡ Some i → version_checks file at ≡ words_checks file at ++ definitions ++ needs
  unfolding version_checks
  all_of_them i e = rw (e, version_checks) refl

  found_words : (found : Option ℕ) (words : VersymTable) → words_section file ≡ found → AreVersymTable (section_words file) (Some words)
      → version_checks file at ≡ words_checks file at ++ definitions ++ needs
  unfolding section_words
  found_words None words e h = absurd (rw (e, section_words) at h)
  found_words (Some i) words e h = all_of_them i e

  pub words_refuse : (fault : Fault) → RefusedBy (words_checks file at) fault → RefusedBy (version_checks file at) fault
  words_refuse fault r = go (words_section file) refl
    where
      go : (found : Option ℕ) → words_section file ≡ found → RefusedBy (version_checks file at) fault
      go None e =
          let none : words_checks file at ≡ [] = rw e refl in
          absurd (none_refused fault (rw none at r))
      go (Some i) e = rw (all_of_them i e) (refused_front (words_checks file at ++ definitions) needs fault (refused_front (words_checks file at) definitions fault r))

  pub no_versions : (versions : VersionTables) → AreVersymTable (section_words file) None → versions.words ≡ None → versions.definitions ≡ None → versions.needs ≡ None
      → ChecksThenValue (version_checks file at) (AreVersions file (section_words file) told) (Ok versions)
  unfolding section_words
  no_versions versions h w d n = go (words_section file) refl
    where
      go : (found : Option ℕ) → words_section file ≡ found → ChecksThenValue (version_checks file at) (AreVersions file (section_words file) told) (Ok versions)
      go None e =
          let words : section_words file ≡ None = rw (e, section_words) refl in
          (ap first_refusal (none_at_all e), record { words = rw (words, w) tt; records = rw (words, d, n) tt })
      go (Some i) e = absurd (rw (e, section_words) at h)

  module _ (words : VersymTable) (w : ChecksThenValue (words_checks file at) (AreVersymTable (section_words file)) (Ok (Some words))) where
    pub definitions_refuse : (fault : Fault) → RefusedBy definitions fault → RefusedBy (version_checks file at) fault
    definitions_refuse fault r =
        rw (found_words (words_section file) words refl w.1) (refused_front (words_checks file at ++ definitions) needs fault (refused_back (words_checks file at) definitions fault w.0 r))

    pub needs_refuse : (fault : Fault) → first_refusal definitions ≡ None → RefusedBy needs fault → RefusedBy (version_checks file at) fault
    needs_refuse fault d r =
        rw (found_words (words_section file) words refl w.1) (refused_back (words_checks file at ++ definitions) needs fault (passed_both (words_checks file at) definitions w.0 d) r)

    pub versions_are : (versions : VersionTables) → versions.words ≡ Some words
        → ChecksThenValue definitions (AreInFront file (records_of_type file SHT_GNU_VERDEF Definition)) (Ok versions.definitions)
        → ChecksThenValue needs (AreInFront file (records_of_type file SHT_GNU_VERNEED File)) (Ok versions.needs)
        → ChecksThenValue (version_checks file at) (AreVersions file (section_words file) told) (Ok versions)
    versions_are versions same d n =
        let all = found_words (words_section file) words refl w.1 in (
          ap first_refusal all ∙ passed_both (words_checks file at ++ definitions) needs (passed_both (words_checks file at) definitions w.0 d.0) n.0,
          record {
            words = rw same w.1;
            records = rw (records_kept (section_words file) words told w.1)
                (both_in_front file (records_of_type file SHT_GNU_VERDEF Definition) (records_of_type file SHT_GNU_VERNEED File) versions.definitions versions.needs d.1 n.1);
          },
        )
