-- A section of version records, by its checks and a walk over its bytes.
use Rattle.std.proofs.Common.{◌≡◌, ℕ, ◌+◌, ◌*◌, ◌/◌, ◌≤◌, ◌==◌, true, false, List, ◌++◌, length, None, Result, Ok, Err, refl, sym, ap, ◌∙◌, arith}
use Rattle.elf_model.specs.Prelude.{Check, ListingStyle, all_checks, first_refusal, range_checks_of, record_size, section_at, sh_link, sh_offset, sh_size, strings_checks, strings_of, table_rows, version_table, versions_in, versions_rows, visited_from, visited_rows}
use Rattle.elf_model.specs.declared.versions.VersionKind.TheVariants.{Definition, File, Need}
use Rattle.elf_model.specs.declared.versions.VersionKind.{VersionKind}
use Rattle.elf_model.proofs.CheckSteps.{first_refusal-none, first_refusal-some}
use Rattle.elf_table.specs.Prelude.{RefusedBy, StringTableRange, TableRange, byte_rows, names_at, rows, string_table_at, strings_in}
use Rattle.elf_table.specs.declared.fault.Fault.{Fault}
use Rattle.elf_table.specs.declared.run_fault.RunFault.{RunFault}
use Rattle.elf_table.specs.declared.fault.Fault.TheVariants.{Refused, Source}
use Rattle.elf_note.proofs.SpendsLaws.{SpendsAtMost-reads, SpendsAtMost-then, SpendsAtMost-to}
use Rattle.elf_source.specs.Prelude.{CountedState, OutState, ReadsUpTo}
use Rattle.elf_table.proofs.RelocationLaws.{passed_first, table-fails}
use Rattle.elf_note.specs.Reading.{StartsVersions, VersionCursorState, versions_left}
use Rattle.elf_listing.specs.Prelude.{SpentCredit, WroteItems, records_kind, versions_items}
use Rattle.elf_listing.proofs.SectionShown.{table_passes}
use Rattle.elf_listing.proofs.ShowLaws.{StopSays-then, Whole-none}

-- a call after reads, in a bound on what both read
pub SpentCredit-account : {X : Type 0} (a b c : CountedState) (out : OutState) (x y : ℕ) (result : Result X RunFault) (n m k : ℕ) → b.asked + m ≤ a.asked + k → ReadsUpTo a b n
    → SpentCredit b c out x y result m → SpentCredit a c out x y result k
SpentCredit-account a b c out x y (Ok v) n m k within p q = (SpendsAtMost-to (SpendsAtMost-then (SpendsAtMost-reads x p) q.0) (omega (arith, within, q.0.account)), tt)
SpentCredit-account a b c out x y (Err stop) n m k within p q =
    (SpendsAtMost-to (SpendsAtMost-then (SpendsAtMost-reads x p) q.0) (omega (arith, within, q.0.account)), StopSays-then a b c out stop n (x + m) (x + k) (omega (arith, within)) p q.1)

-- the checks of a section that is not empty: its range, then its string table's
module _ (file : List ℕ) (at : ℕ) (some : (sh_size file at == 0) ≡ false) where
  range : List Check
  range = range_checks_of (length file) (sh_offset file at) (sh_size file at) at

  pub outside : (fault : Fault) → byte_rows (length file) (sh_offset file at) (sh_size file at) at ≡ Err fault → RefusedBy (all_checks version_table file at) fault
  unfolding range
  outside fault h =
      rw some (front fault (table-fails (sh_size file at == 0) (rows (sh_offset file at) 0 1) (rows (sh_offset file at) (sh_size file at) 1) range fault h).1)
    where
      front : (fault : Fault) → RefusedBy range fault → RefusedBy (range ++ strings_checks file at) fault
      front (Refused refusal) k = first_refusal-some range (strings_checks file at) refusal k
      front (Source fault offset) k = k

  module _ (table : TableRange) (held : byte_rows (length file) (sh_offset file at) (sh_size file at) at ≡ Ok table) where
    own : (first_refusal range ≡ None) × (rows (sh_offset file at) (sh_size file at) 1 ≡ table)
    unfolding range
    own = passed_first _ _ _ (rw (some, byte_rows) at held)

    pub unnamed : (fault : Fault) → string_table_at file at ≡ Err fault → RefusedBy (all_checks version_table file at) fault
    unfolding range
    unnamed fault h =
        let names = names_at file (section_at file (sh_link file at)) in
        rw some (after fault (table-fails false names names (strings_checks file at) fault h).1)
      where
        after : (fault : Fault) → RefusedBy (strings_checks file at) fault → RefusedBy (range ++ strings_checks file at) fault
        after (Refused refusal) by = first_refusal-none range (strings_checks file at) own.0 ∙ by
        after (Source fault offset) by = by

    pub found : (names : StringTableRange) → string_table_at file at ≡ Ok names
        → (first_refusal (all_checks version_table file at) ≡ None) × (strings_of file at ≡ strings_in file names) × (table ≡ rows (sh_offset file at) (sh_size file at) 1)
    unfolding range
    found names h =
        let linked = passed_first (first_refusal (strings_checks file at)) (names_at file (section_at file (sh_link file at))) names h in
        (rw some (first_refusal-none range (strings_checks file at) own.0 ∙ linked.0), ap (λ (n : StringTableRange). strings_in file n) linked.1, sym own.1)

-- what a new cursor gives are the records of the table
pub left_all : (kind : VersionKind) (file : List ℕ) (head : ℕ) (table : TableRange) (c : VersionCursorState) → StartsVersions kind head table c
    → versions_left file c ≡ versions_in kind file head table.at table.count
unfolding versions_in
left_all kind file head table c starts =
    let its_table = starts.its_table in
    let standing = starts.standing in
    let left = starts.left in
    rw (its_table, standing, left) refl

-- the rows of a section whose checks pass
pub section_is : (kind : VersionKind) (file : List ℕ) (style : ListingStyle) (section at : ℕ) (names : StringTableRange) (table : TableRange) (c : VersionCursorState)
    → ((records_kind kind).has_table file at) ≡ true → first_refusal (all_checks version_table file at) ≡ None → strings_of file at ≡ strings_in file names
    → table ≡ rows (sh_offset file at) (sh_size file at) 1 → StartsVersions kind at table c
    → table_rows (records_kind kind) file style section at ≡ versions_items file style section (strings_in file names) (versions_left file c)
unfolding versions_rows
section_is kind file style section at names table c has pass strings same starts =
    let left : versions_left file c ≡ versions_in kind file at (sh_offset file at) (sh_size file at) =
    left_all kind file at table c starts ∙ ap (λ (t : TableRange). versions_in kind file at t.at t.count) same in
    table_passes (records_kind kind) file style section at has pass ∙ rw (strings, left) refl

-- those of an empty one
pub none_are : (kind : VersionKind) (file : List ℕ) (style : ListingStyle) (section : ℕ) (a : OutState) (at : ℕ) → ((records_kind kind).has_table file at) ≡ true → sh_size file at ≡ 0
    → WroteItems a a (table_rows (records_kind kind) file style section at)
unfolding versions_rows versions_in visited_rows visited_from
none_are kind file style section a at has empty = rw (table_passes (records_kind kind) file style section at has (rw empty refl)) (rw empty (Whole-none a))

-- what a section's records read: each itself, and its name
pub none_asked : (kind : VersionKind) (each : ℕ) → 0 / record_size kind * each ≡ 0
none_asked Definition each = omega arith
none_asked File each = omega arith
none_asked Need each = omega arith

pub same_le : (n : ℕ) → n ≤ n
same_le n = omega arith

pub walk_pays : (before after unread left most each own bound : ℕ) → left ≡ most → after + unread ≤ before + most * each → most * (each + own) ≤ bound
    → after + (unread + left * own) ≤ before + bound
walk_pays before after unread left most each own bound same walk within =
    let product : most * (each + own) ≡ most * each + most * own = grind arith in
    rw same (omega (arith, product, walk, within))

pub reads_pay : (most each own bound : ℕ) → most * (each + own) ≤ bound → most * each ≤ bound
reads_pay most each own bound within =
    let product : most * (each + own) ≡ most * each + most * own = grind arith in
    omega (arith, product, within)
