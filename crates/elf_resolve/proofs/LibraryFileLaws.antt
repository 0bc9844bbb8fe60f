-- The tables of a shared library are read, or refused.
use Rattle.std.proofs.Common.{◌≡◌, ℕ, ◌+◌, ◌*◌, ◌/◌, ◌%◌, ◌<◌, ◌≤◌, ◌^◌, ◌==◌, ◌++◌, not, true, false, List, [], ◌∷◌, length, drop, inl, inr, refl, sym, ap, subst, ◌∙◌, arith}
use Rattle.std.specs.Prelude.{Option, None, Some, Result, Ok, Err}
use Rattle.std.proofs.lemmas.Bool.{cases_Bool, cases_lt, eqb-true}
use Rattle.std.proofs.lemmas.List.{length-drop, length-take}
use Rattle.elf_model.specs.Bytes.{slice}
use Rattle.elf_model.specs.Checks.{Check, first_refusal, range_checks, refuse, strings_checks, table_checks, unless_empty, whole_checks_of}
use Rattle.elf_model.specs.LinkArchives.{refusal_of}
use Rattle.elf_model.specs.Records.{sh_entsize, sh_offset, sh_size}
use Rattle.elf_model.specs.Tables.{dynamic_table_checks, linked_at, section_bytes}
use Rattle.elf_model.specs.declared.causes.Cause.TheVariants.{EntrySize}
use Rattle.elf_model.specs.declared.causes.Refusal.{Refusal}
use Rattle.elf_model.specs.declared.link_states.LinkRefusal.{LinkRefusal}
use Rattle.elf_model.proofs.CheckSteps.{first_refusal-back, first_refusal-none, first_refusal-some}
use Rattle.elf_table.specs.Prelude.{RefusedBy, StringTableRange, TableRange, byte_rows, names_at, rows, string_table_at, table_at, table_of}
use Rattle.elf_table.specs.declared.fault.Fault.{Fault}
use Rattle.elf_table.specs.declared.fault.Fault.TheVariants as table
use Rattle.elf_table.proofs.RelocationLaws.{passed_first, table-fails}
use Rattle.elf_resolve.specs.LibraryFiles.{AreBytesOf, ReadNamedRows, ReadsDynamic, ReadsIndexes, ReadsVersionRecords, checks_if, unless_refused, version_index_checks, version_record_checks}
use Rattle.elf_resolve.specs.LinkFaults.{fault_of_table}
use Rattle.elf_resolve.specs.ObjectParts.{as_any_refusal}
use Rattle.elf_resolve.specs.StringBuffers.{HoldsText, ReadText, TableTexts}
use Rattle.elf_resolve.specs.Taken.{IsLinkFault}
use Rattle.elf_resolve.specs.declared.link_faults.LinkFault.{LinkFault}
use Rattle.elf_resolve.specs.declared.string_buffer.HeldText.{HeldText}
use Rattle.elf_resolve.proofs.LinkFaultLaws.{fault_of_any}
use Rattle.elf_resolve.proofs.ObjectLaws.{table_refused}
use Rattle.elf_resolve.proofs.StringBufferLaws.{holds_appended, holds_read}

-- THE STRINGS that a section links to are refused, or found
pub strings_fail : (file : List ℕ) (at : ℕ) (fault : Fault) → string_table_at file at ≡ Err fault → RefusedBy (strings_checks file at) fault
strings_fail file at fault h = (table-fails false (names_at file (linked_at file at)) (names_at file (linked_at file at)) (strings_checks file at) fault h).1

pub strings_found : (file : List ℕ) (at : ℕ) (strings : StringTableRange) → string_table_at file at ≡ Ok strings → (first_refusal (strings_checks file at) ≡ None) × (names_at file (linked_at file at) ≡ strings)
strings_found file at strings h = passed_first (first_refusal (strings_checks file at)) (names_at file (linked_at file at)) strings h

-- ROWS AND STRINGS are in the buffer once both are read
pub whole_bytes : (file : List ℕ) (at : ℕ) (found : TableRange) → AreBytesOf file at found → length (section_bytes file at) ≡ sh_size file at
whole_bytes file at found are = elim (cases_lt 0 (sh_size file at)) [
  | inl some ↦
      let within : sh_offset file at + sh_size file at ≤ length file = omega (arith, are.placed, are.sized, are.within (counted some)) in
      length-take (sh_size file at) (drop (sh_offset file at) file) ∙ omega (arith, length-drop (sh_offset file at) file)
  | inr none ↦ length-take (sh_size file at) (drop (sh_offset file at) file) ∙ omega arith
]
  where
    counted : 0 < sh_size file at → 0 < found.count
    counted some = elim (cases_lt 0 found.count) [
      | inl rows ↦ rows
      | inr none ↦
          let zero : found.count ≡ 0 = omega arith in
          let empty : 0 * found.entry ≡ sh_size file at = ap (λ n. n * found.entry) (sym zero) ∙ are.sized in
          absurd (omega (arith, empty))
    ]

pub named_read : (file : List ℕ) (at : ℕ) (found : TableRange) (strings : StringTableRange) (old now new : TableTexts) (rows names : HeldText) → string_table_at file at ≡ Ok strings → AreBytesOf file at found
    → ReadText file found.at (found.count * found.entry) old now rows → ReadText file strings.at strings.size now new names → ReadNamedRows file new.bytes at (rows, names)
named_read file at found strings old now new rows names is are r n =
    let known = strings_found file at strings is in
    let bytes : slice file found.at (found.count * found.entry) ≡ section_bytes file at = ap (λ a. slice file a (found.count * found.entry)) are.placed ∙ ap (slice file (sh_offset file at)) are.sized in
    record {
      pass = known.0;
      rows = rw (n.bytes, ← bytes) (holds_appended now.bytes _ rows _ (holds_read file found.at (found.count * found.entry) old now rows r));
      strings = subst (λ (s : StringTableRange). HoldsText new.bytes names (slice file s.at s.size)) (sym known.1) (holds_read file strings.at strings.size now new names n);
      whole = whole_bytes file at found are;
    }

-- A TABLE of rows of one size is refused before what follows, or is the bytes of its section
pub rows_refused : (file : List ℕ) (at entry : ℕ) (back : List Check) (fault : Fault) → table_at file at entry ≡ Err fault → RefusedBy (unless_empty (sh_size file at) (table_checks file at entry ++ back)) fault
rows_refused file at entry back fault h = let p = table-fails (sh_size file at == 0) _ _ (table_checks file at entry) fault h in rw p.0 (front fault p.1)
  where
    front : (fault : Fault) → RefusedBy (table_checks file at entry) fault → RefusedBy (table_checks file at entry ++ back) fault
    front (table.Refused refusal) k = first_refusal-some (table_checks file at entry) back refusal k
    front (table.Source fault offset) k = k

module _ (file : List ℕ) (at entry : ℕ) (divides : (n : ℕ) → n % entry ≡ 0 → n / entry * entry ≡ n) (found : TableRange) (held : table_at file at entry ≡ Ok found) where
  passes : (sh_size file at == 0) ≡ false → (first_refusal (table_checks file at entry) ≡ None) × (rows (sh_offset file at) (sh_size file at / entry) entry ≡ found)
  passes some = passed_first _ _ found (rw (some, table_at, table_of) at held)

  whole : first_refusal (table_checks file at entry) ≡ None → sh_size file at % entry ≡ 0
  whole pass =
      let rest = first_refusal-back (refuse (not (sh_entsize file at == entry)) at EntrySize ∷ []) (whole_checks_of (length file) (sh_offset file at) (sh_size file at) at entry) pass in
      elim (cases_Bool (sh_size file at % entry == 0)) [
        | inl divided ↦ eqb-true (sh_size file at % entry) 0 divided
        | inr other ↦ let refuses = rw other at rest in cc
      ]

  pub table_bytes : (0 < found.count → found.at + found.count * found.entry ≤ length file) → AreBytesOf file at found
  table_bytes within = elim (cases_Bool (sh_size file at == 0)) [
    | inl empty ↦
        let none : rows (sh_offset file at) 0 entry ≡ found = let is = rw (empty, table_at, table_of) at held in cc in
        let size : sh_size file at ≡ 0 = eqb-true (sh_size file at) 0 empty in
        let bytes : found.count * found.entry ≡ 0 * entry = ap (λ (t : TableRange). t.count * t.entry) (sym none) in
        record { placed = ap (λ (t : TableRange). t.at) (sym none); sized = omega (arith, bytes, size); within = within }
    | inr some ↦
        let p = passes some in
        record {
          placed = ap (λ (t : TableRange). t.at) (sym p.1);
          sized = ap (λ (t : TableRange). t.count * t.entry) (sym p.1) ∙ divides (sh_size file at) (whole p.0);
          within = within;
        }
  ]

  -- what follows decides, if it has rows
  pub rest_decides : (back : List Check) → (sh_size file at == 0) ≡ false → first_refusal (unless_empty (sh_size file at) (table_checks file at entry ++ back)) ≡ first_refusal back
  rest_decides back some = rw some (first_refusal-none (table_checks file at entry) back (passes some).0)

  -- alone it passes
  pub table_alone : first_refusal (unless_empty (sh_size file at) (table_checks file at entry ++ [])) ≡ None
  table_alone = elim (cases_Bool (sh_size file at == 0)) [
    | inl empty ↦ rw empty refl
    | inr some ↦ rest_decides [] some
  ]

-- a table without rows has no bytes, and one with rows has some
pub no_bytes : (file : List ℕ) (at : ℕ) (found : TableRange) → AreBytesOf file at found → found.count ≡ 0 → sh_size file at ≡ 0
no_bytes file at found are none = let bytes : found.count * found.entry ≡ 0 * found.entry = ap (λ n. n * found.entry) none in omega (arith, bytes, are.sized)

pub some_bytes : (file : List ℕ) (at : ℕ) (found : TableRange) (entry : ℕ) → found.entry ≡ entry → ((n : ℕ) → n * entry ≡ 0 → n ≡ 0) → AreBytesOf file at found → (found.count ≡ 0 → ⊥)
    → (sh_size file at == 0) ≡ false
some_bytes file at found entry is none are rows = elim (cases_Bool (sh_size file at == 0)) [
  | inl empty ↦ absurd (rows (none found.count (ap (λ e. found.count * e) (sym is) ∙ are.sized ∙ eqb-true (sh_size file at) 0 empty)))
  | inr some ↦ some
]

-- BYTES of a section are refused, or found
pub bytes_same : (a b c d at : ℕ) (file : List ℕ) → a ≡ length file → b ≡ sh_offset file at → c ≡ sh_size file at → d ≡ at → byte_rows a b c d ≡ byte_rows (length file) (sh_offset file at) (sh_size file at) at
bytes_same a b c d at file e f g h = rw (e, f, g, h) refl

pub bytes_refused : (file : List ℕ) (at : ℕ) (back : List Check) (fault : Fault) → byte_rows (length file) (sh_offset file at) (sh_size file at) at ≡ Err fault
    → RefusedBy (unless_empty (sh_size file at) (range_checks file at ++ back)) fault
bytes_refused file at back fault h = let p = table-fails (sh_size file at == 0) _ _ (range_checks file at) fault h in rw p.0 (front fault p.1)
  where
    front : (fault : Fault) → RefusedBy (range_checks file at) fault → RefusedBy (range_checks file at ++ back) fault
    front (table.Refused refusal) k = first_refusal-some (range_checks file at) back refusal k
    front (table.Source fault offset) k = k

module _ (file : List ℕ) (at : ℕ) (found : TableRange) (held : byte_rows (length file) (sh_offset file at) (sh_size file at) at ≡ Ok found) where
  bytes_pass : (sh_size file at == 0) ≡ false → (first_refusal (range_checks file at) ≡ None) × (rows (sh_offset file at) (sh_size file at) 1 ≡ found)
  bytes_pass some = passed_first _ _ found (rw (some, byte_rows) at held)

  pub bytes_found : (0 < found.count → found.at + found.count * found.entry ≤ length file) → AreBytesOf file at found
  bytes_found within = elim (cases_Bool (sh_size file at == 0)) [
    | inl empty ↦
        let none : rows (sh_offset file at) 0 1 ≡ found = let is = rw (empty, byte_rows) at held in cc in
        let size : sh_size file at ≡ 0 = eqb-true (sh_size file at) 0 empty in
        let bytes : found.count * found.entry ≡ 0 * 1 = ap (λ (t : TableRange). t.count * t.entry) (sym none) in
        record { placed = ap (λ (t : TableRange). t.at) (sym none); sized = omega (arith, bytes, size); within = within }
    | inr some ↦
        let p = bytes_pass some in
        record { placed = ap (λ (t : TableRange). t.at) (sym p.1); sized = ap (λ (t : TableRange). t.count * t.entry) (sym p.1) ∙ omega arith; within = within }
  ]

  pub bytes_single : found.entry ≡ 1
  bytes_single = elim (cases_Bool (sh_size file at == 0)) [
    | inl empty ↦ let none : rows (sh_offset file at) 0 1 ≡ found = let is = rw (empty, byte_rows) at held in cc in ap (λ (t : TableRange). t.entry) (sym none)
    | inr some ↦ ap (λ (t : TableRange). t.entry) (sym (bytes_pass some).1)
  ]

  pub bytes_decide : (back : List Check) → (sh_size file at == 0) ≡ false → first_refusal (unless_empty (sh_size file at) (range_checks file at ++ back)) ≡ first_refusal back
  bytes_decide back some = rw some (first_refusal-none (range_checks file at) back (bytes_pass some).0)

-- A REFUSAL of what follows is that of the whole
pub refused_later : (whole back : List Check) (fault : LinkFault) → first_refusal whole ≡ first_refusal back → IsLinkFault (as_any_refusal (first_refusal back)) fault → IsLinkFault (as_any_refusal (first_refusal whole)) fault
refused_later whole back fault same is = rw same is

-- what is refused by the first of two checks, and what follows a check that passes
pub refused_first : {A : Type 0} (first : Option Refusal) (rest : Result A LinkRefusal) (fault : LinkFault) → IsLinkFault (as_any_refusal first) fault → IsLinkFault (refusal_of (unless_refused first rest)) fault
refused_first None rest fault is = fault_of_any (refusal_of rest) fault is
refused_first (Some refusal) rest fault is = is

pub passed_check : {A : Type 0} (first : Option Refusal) (rest : Result A LinkRefusal) → first ≡ None → unless_refused first rest ≡ rest
passed_check first rest none = rw none refl

-- THE DYNAMIC ENTRIES: there is no section, or its table is refused, or it has no bytes, or its strings
-- are refused, or all are read
pub dynamic_none : (file bytes : List ℕ) (header : Option ℕ) → None ≡ header → ReadsDynamic file bytes header (Ok None)
dynamic_none file bytes header is = (ap (λ h. first_refusal (checks_if dynamic_table_checks file h)) (sym is), λ at some. absurd (cc))

pub dynamic_unread : (file bytes : List ℕ) (header : Option ℕ) (at : ℕ) (fault : Fault) → Some at ≡ header → table_at file at 16 ≡ Err fault → ReadsDynamic file bytes header (Err (fault_of_table fault))
dynamic_unread file bytes header at fault is held =
    subst (λ h. IsLinkFault (as_any_refusal (first_refusal (checks_if dynamic_table_checks file h))) (fault_of_table fault)) is
    (table_refused (dynamic_table_checks file at) fault (rows_refused file at 16 (strings_checks file at) fault held))

pub by_16 : (n : ℕ) → n % 16 ≡ 0 → n / 16 * 16 ≡ n
by_16 n whole = omega (arith, whole)

pub by_2 : (n : ℕ) → n % 2 ≡ 0 → n / 2 * 2 ≡ n
by_2 n whole = omega (arith, whole)

pub dynamic_empty : (file bytes : List ℕ) (header : Option ℕ) (at : ℕ) (found : TableRange) → Some at ≡ header → AreBytesOf file at found → found.count ≡ 0 → ReadsDynamic file bytes header (Ok None)
dynamic_empty file bytes header at found is are none =
    let size = no_bytes file at found are none in
    let empty : (sh_size file at == 0) ≡ true = rw size refl in
    subst (λ h. ReadsDynamic file bytes h (Ok None)) is (rw empty refl, λ other same. let e : at ≡ other = cc in subst (λ a. sh_size file a ≡ 0) e size)

pub dynamic_unnamed : (file bytes : List ℕ) (header : Option ℕ) (at : ℕ) (found : TableRange) (fault : LinkFault) → Some at ≡ header → table_at file at 16 ≡ Ok found → (sh_size file at == 0) ≡ false
    → IsLinkFault (as_any_refusal (first_refusal (strings_checks file at))) fault → ReadsDynamic file bytes header (Err fault)
dynamic_unnamed file bytes header at found fault is held some refused =
    subst (λ h. IsLinkFault (as_any_refusal (first_refusal (checks_if dynamic_table_checks file h))) fault) is
    (refused_later (dynamic_table_checks file at) (strings_checks file at) fault (rest_decides file at 16 by_16 found held (strings_checks file at) some) refused)

pub dynamic_read : (file bytes : List ℕ) (header : Option ℕ) (at place : ℕ) (found : TableRange) (rows names : HeldText) → Some at ≡ header → table_at file at 16 ≡ Ok found → (sh_size file at == 0) ≡ false
    → AreBytesOf file at found → found.at + found.count * found.entry < 2 ^ 64 → place ≡ found.at → ReadNamedRows file bytes at (rows, names)
    → ReadsDynamic file bytes header (Ok (Some (record { rows = rows; at = place; strings = names })))
dynamic_read file bytes header at place found rows names is held some are fits placed read = (
  subst (λ h. first_refusal (checks_if dynamic_table_checks file h) ≡ None) is (rest_decides file at 16 by_16 found held (strings_checks file at) some ∙ read.pass),
  (at, sym is, record { rows = read.rows; strings = read.strings; whole = read.whole; at_is = placed ∙ are.placed; fits = omega (arith, fits, placed, are.sized) }),
)

-- THE VERSION INDEXES: there is no section, or its table is refused or not read, or they are read
pub indexes_none : (file bytes : List ℕ) (header : Option ℕ) → None ≡ header → ReadsIndexes file bytes header (Ok None)
indexes_none file bytes header is = (ap (λ h. first_refusal (checks_if version_index_checks file h)) (sym is), sym is)

pub indexes_unread : (file bytes : List ℕ) (header : Option ℕ) (at : ℕ) (fault : Fault) → Some at ≡ header → table_at file at 2 ≡ Err fault → ReadsIndexes file bytes header (Err (fault_of_table fault))
indexes_unread file bytes header at fault is held =
    subst (λ h. IsLinkFault (as_any_refusal (first_refusal (checks_if version_index_checks file h))) (fault_of_table fault)) is
    (table_refused (version_index_checks file at) fault (rows_refused file at 2 [] fault held))

pub indexes_read : (file : List ℕ) (header : Option ℕ) (at place section : ℕ) (found : TableRange) (old new : TableTexts) (rows : HeldText) → Some at ≡ header → table_at file at 2 ≡ Ok found → AreBytesOf file at found
    → found.at + found.count * found.entry < 2 ^ 64 → place ≡ found.at → section ≡ at → ReadText file found.at (found.count * found.entry) old new rows
    → ReadsIndexes file new.bytes header (Ok (Some (record { rows = rows; at = place; header = section })))
indexes_read file header at place section found old new rows is held are fits placed there read =
    let bytes : slice file found.at (found.count * found.entry) ≡ section_bytes file at = ap (λ a. slice file a (found.count * found.entry)) are.placed ∙ ap (slice file (sh_offset file at)) are.sized in (
      subst (λ h. first_refusal (checks_if version_index_checks file h) ≡ None) is (table_alone file at 2 by_2 found held),
      (
        at,
        sym is,
        record {
          rows = subst (HoldsText new.bytes rows) bytes (holds_read file found.at (found.count * found.entry) old new rows read);
          whole = whole_bytes file at found are;
          at_is = placed ∙ are.placed;
          header_is = there;
          fits = omega (arith, fits, placed, are.sized);
        },
      ),
    )

-- RECORDS OF VERSIONS: likewise
pub records_none : (file bytes : List ℕ) (header : Option ℕ) → None ≡ header → ReadsVersionRecords file bytes header (Ok None)
records_none file bytes header is = λ at some. absurd (cc)

pub records_outside : (file bytes : List ℕ) (header : Option ℕ) (at : ℕ) (fault : Fault) → Some at ≡ header → byte_rows (length file) (sh_offset file at) (sh_size file at) at ≡ Err fault
    → ReadsVersionRecords file bytes header (Err (fault_of_table fault))
records_outside file bytes header at fault is held =
    subst (λ h. IsLinkFault (as_any_refusal (first_refusal (checks_if version_record_checks file h))) (fault_of_table fault)) is
    (table_refused (version_record_checks file at) fault (bytes_refused file at (strings_checks file at) fault held))

pub records_empty : (file bytes : List ℕ) (header : Option ℕ) (at : ℕ) (found : TableRange) → Some at ≡ header → AreBytesOf file at found → found.count ≡ 0 → ReadsVersionRecords file bytes header (Ok None)
records_empty file bytes header at found is are none = λ other same. let e : at ≡ other = cc in subst (λ a. sh_size file a ≡ 0) e (no_bytes file at found are none)

pub records_unnamed : (file bytes : List ℕ) (header : Option ℕ) (at : ℕ) (found : TableRange) (fault : LinkFault) → Some at ≡ header → byte_rows (length file) (sh_offset file at) (sh_size file at) at ≡ Ok found
    → (sh_size file at == 0) ≡ false → IsLinkFault (as_any_refusal (first_refusal (strings_checks file at))) fault → ReadsVersionRecords file bytes header (Err fault)
records_unnamed file bytes header at found fault is held some refused =
    subst (λ h. IsLinkFault (as_any_refusal (first_refusal (checks_if version_record_checks file h))) fault) is
    (refused_later (version_record_checks file at) (strings_checks file at) fault (bytes_decide file at found held (strings_checks file at) some) refused)

pub records_read : (file bytes : List ℕ) (header : Option ℕ) (at place section : ℕ) (found : TableRange) (rows names : HeldText) → Some at ≡ header
    → byte_rows (length file) (sh_offset file at) (sh_size file at) at ≡ Ok found → (sh_size file at == 0) ≡ false → AreBytesOf file at found → found.at + found.count * found.entry < 2 ^ 64
    → place ≡ found.at → section ≡ at → ReadNamedRows file bytes at (rows, names)
    → ReadsVersionRecords file bytes header (Ok (Some (record { records = rows; strings = names; at = place; header = section })))
records_read file bytes header at place section found rows names is held some are fits placed there read = (
  at,
  sym is,
  record {
    some = some;
    pass = bytes_decide file at found held (strings_checks file at) some ∙ read.pass;
    holds = record { records = read.rows; strings = read.strings; whole = read.whole; at_is = placed ∙ are.placed; header_is = there; fits = omega (arith, fits, placed, are.sized) };
  },
)
