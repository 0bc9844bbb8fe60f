-- A shared library is read: its tables, and the names of its versions.
use Rattle.std.proofs.Common.{◌≡◌, ℕ, ◌==◌, ◌&&◌, Bool, true, false, List, [], length, take, inl, inr, refl, sym, ap, subst, ◌∙◌, if◌then◌else◌}
use Rattle.std.specs.Prelude.{Option, None, Some, Result, Ok, Err, is_some}
use Rattle.std.proofs.lemmas.Bool.{cases_Bool}
use Rattle.elf_model.specs.Checks.{first_refusal}
use Rattle.elf_model.specs.HeaderTables.{file_sections, first_typed}
use Rattle.elf_model.specs.LinkArchives.{refusal_of}
use Rattle.elf_model.specs.LinkSymbols.{table_checks_in}
use Rattle.elf_model.specs.Numbers.{SHT_DYNAMIC, SHT_DYNSYM, SHT_GNU_VERSYM}
use Rattle.elf_model.specs.Records.{section_at, sh_size}
use Rattle.elf_model.specs.Tables.{dynamic_table_checks}
use Rattle.elf_model.specs.declared.causes.Refusal.{Refusal}
use Rattle.elf_model.specs.declared.link_states.LinkRefusal.{LinkRefusal}
use Rattle.elf_model.specs.declared.versions.VersionKind.{VersionKind}
use Rattle.elf_resolve.specs.LibraryFiles.{HoldsSomeDynamic, ReadLibrary, ReadVersionNames, ReadsDynamic, ReadsIndexes, ReadsNamesOfVersions, ReadsVersionNames, checks_if, defined_names, header_of_type, library_versions, names_of_header, needed_names, unless_refused, version_index_checks, version_record_checks, versions_named, versions_with}
use Rattle.elf_resolve.specs.LibraryKeys.{LibraryVersions}
use Rattle.elf_resolve.specs.LibraryTables.{HoldsSomeIndexes, HoldsSomeSymbols}
use Rattle.elf_resolve.specs.LibraryVersions.{NumberedName, name_of_number, version_names}
use Rattle.elf_resolve.specs.ObjectParts.{ReadsFound, as_any_refusal}
use Rattle.elf_resolve.specs.ObjectSymbols.{HoldsSome}
use Rattle.elf_resolve.specs.Taken.{IsLinkFault}
use Rattle.elf_resolve.specs.VersionTexts.{text_of_number}
use Rattle.elf_resolve.specs.VersionWalks.{HoldsNoNames, HoldsVersionNames, IsRecordRefusal, ReadsNames}
use Rattle.elf_resolve.specs.declared.library.DynamicRows.{DynamicRows}
use Rattle.elf_resolve.specs.declared.library.VersionRows.{VersionRows}
use Rattle.elf_resolve.specs.declared.link_faults.LinkFault.{LinkFault}
use Rattle.elf_resolve.specs.declared.link_faults.LinkFault.TheVariants.{Refused, Read, Open, Memory}
use Rattle.elf_resolve.specs.declared.object.SymbolRows.{SymbolRows}
use Rattle.elf_resolve.specs.declared.string_buffer.HeldText.{HeldText}
use Rattle.elf_resolve.specs.declared.version_room.VersionNames.{VersionNames}
use Rattle.elf_resolve.proofs.LibraryFileLaws.{passed_check, refused_first}
use Rattle.elf_resolve.proofs.LinkFaultLaws.{fault_of_any}
use Rattle.elf_resolve.proofs.ObjectLaws.{symbols_kept}
use Rattle.elf_resolve.proofs.StringBufferLaws.{holds_kept}

-- A SECTION OF RECORDS has no names, or those of its records, or is refused
pub names_missing : (kind : VersionKind) (file : List ℕ) (header : Option ℕ) → ((at : ℕ) → header ≡ Some at → sh_size file at ≡ 0) → names_of_header kind file header ≡ Ok []
names_missing kind file None none = refl
names_missing kind file (Some at) none = rw (none at refl) refl

if_false : (b : Bool) (first rest : Result (List NumberedName) LinkRefusal) → b ≡ false → (if b then first else rest) ≡ rest
if_false true first rest is = absurd (cc)
if_false false first rest is = refl

pub names_there : (kind : VersionKind) (file : List ℕ) (header : Option ℕ) (at : ℕ) → header ≡ Some at → (sh_size file at == 0) ≡ false → first_refusal (version_record_checks file at) ≡ None
    → names_of_header kind file header ≡ version_names kind file at
names_there kind file header at is some pass =
    ap (names_of_header kind file) is ∙ if_false (sh_size file at == 0) (Ok []) (unless_refused (first_refusal (version_record_checks file at)) (version_names kind file at)) some
    ∙ passed_check (first_refusal (version_record_checks file at)) (version_names kind file at) pass

pub names_refused : (kind : VersionKind) (file : List ℕ) (header : Option ℕ) (fault : LinkFault) → IsLinkFault (as_any_refusal (first_refusal (checks_if version_record_checks file header))) fault
    → IsLinkFault (refusal_of (names_of_header kind file header)) fault
names_refused kind file None fault is = is
names_refused kind file (Some at) fault is = elim (cases_Bool (sh_size file at == 0)) [
  | inl empty ↦ fault_of_any (refusal_of (names_of_header kind file (Some at))) fault (rw empty at is)
  | inr some ↦
      let rest = unless_refused (first_refusal (version_record_checks file at)) (version_names kind file at) in
      subst (λ (known : Result (List NumberedName) LinkRefusal). IsLinkFault (refusal_of known) fault) (sym (if_false (sh_size file at == 0) (Ok []) rest some))
      (refused_first (first_refusal (version_record_checks file at)) (version_names kind file at) fault is)
]

pub record_fault : (known : Option LinkRefusal) (fault : LinkFault) → IsRecordRefusal known fault → IsLinkFault known fault
record_fault known (Refused refusal) is = inr is
record_fault known Read is = absurd is
record_fault known Open is = absurd is
record_fault known Memory is = absurd is

pub names_of_records : (known whole : Result (List NumberedName) LinkRefusal) (bytes : List ℕ) (texts : List (Option HeldText)) (result : Result (Unit {0}) LinkFault) → whole ≡ known → ReadsNames known bytes texts result
    → ReadsNamesOfVersions whole bytes texts result
names_of_records known whole bytes texts (Ok done) same read = (read.0, same ∙ read.1, read.2)
names_of_records known whole bytes texts (Err fault) same is = subst (λ (k : Result (List NumberedName) LinkRefusal). IsLinkFault (refusal_of k) fault) (sym same) (record_fault (refusal_of known) fault is)

-- NAMES STAY, if the bytes of a buffer stay the first ones
some_kept : (old new : List ℕ) (text : Option HeldText) (name : Option (List ℕ)) → take (length old) new ≡ old → HoldsSome old text name → HoldsSome new text name
some_kept old new None name first held = held
some_kept old new (Some text) None first held = held
some_kept old new (Some text) (Some name) first held = holds_kept old new text name first held

pub names_stay : (old new : List ℕ) (texts : List (Option HeldText)) (names : List NumberedName) → take (length old) new ≡ old → HoldsVersionNames old texts names → HoldsVersionNames new texts names
names_stay old new texts names first held = record {
  room = held.room;
  names_are = λ number. some_kept old new (text_of_number texts number) (name_of_number names number) first (held.names_are number);
}

-- THE NAMES of both sections
pub definitions_refused : (defined needed : Result (List NumberedName) LinkRefusal) (fault : LinkFault) → IsLinkFault (refusal_of defined) fault → IsLinkFault (refusal_of (versions_named None defined needed)) fault
definitions_refused (Err refusal) needed fault is = is
definitions_refused (Ok names) needed fault is = fault_of_any (refusal_of (versions_named None (Ok names) needed)) fault is

needs_refused : (defined needed : Result (List NumberedName) LinkRefusal) (names : List NumberedName) (fault : LinkFault) → defined ≡ Ok names → IsLinkFault (refusal_of needed) fault
    → IsLinkFault (refusal_of (versions_named None defined needed)) fault
needs_refused defined (Err refusal) names fault is refused = rw is refused
needs_refused defined (Ok others) names fault is refused = fault_of_any (refusal_of (versions_named None defined (Ok others))) fault refused

pub both_read : (file old new : List ℕ) (texts : VersionNames) (result : Result (Unit {0}) LinkFault) → ReadsNamesOfVersions (defined_names file) old texts.defined.items (Ok tt) → take (length old) new ≡ old
    → ReadsNamesOfVersions (needed_names file) new texts.needed.items result → ReadsVersionNames file new texts result
both_read file old new texts (Ok done) defined first needed = record {
  defined = defined.0;
  needed = needed.0;
  defined_are = defined.1;
  needed_are = needed.1;
  holds_defined = names_stay old new texts.defined.items defined.0 first defined.2;
  holds_needed = needed.2;
}
both_read file old new texts (Err fault) defined first refused = needs_refused (defined_names file) (needed_names file) defined.0 fault defined.1 refused

-- THE REFUSALS OF A LIBRARY, in the order of what is checked
module _ (file : List ℕ) (fault : LinkFault) where
  abbrev symbol_checks_refuse : Option Refusal
  symbol_checks_refuse = first_refusal (table_checks_in file (first_typed (file_sections file) SHT_DYNSYM))

  abbrev dynamic_checks_refuse : Option Refusal
  dynamic_checks_refuse = first_refusal (checks_if dynamic_table_checks file (header_of_type file SHT_DYNAMIC))

  abbrev index_checks_refuse : Option Refusal
  index_checks_refuse = first_refusal (checks_if version_index_checks file (header_of_type file SHT_GNU_VERSYM))

  abbrev versions_after : Result LibraryVersions LinkRefusal
  versions_after = versions_with (first_typed (file_sections file) SHT_DYNSYM) (header_of_type file SHT_GNU_VERSYM) (defined_names file) (needed_names file)

  pub symbols_fault : IsLinkFault (as_any_refusal symbol_checks_refuse) fault → IsLinkFault (refusal_of (library_versions file)) fault
  unfolding library_versions
  symbols_fault is = refused_first symbol_checks_refuse (unless_refused dynamic_checks_refuse (unless_refused index_checks_refuse versions_after)) fault is

  pub dynamic_fault : symbol_checks_refuse ≡ None → IsLinkFault (as_any_refusal dynamic_checks_refuse) fault → IsLinkFault (refusal_of (library_versions file)) fault
  unfolding library_versions
  dynamic_fault symbols is = rw symbols (refused_first dynamic_checks_refuse (unless_refused index_checks_refuse versions_after) fault is)

  pub indexes_fault : symbol_checks_refuse ≡ None → dynamic_checks_refuse ≡ None → IsLinkFault (as_any_refusal index_checks_refuse) fault → IsLinkFault (refusal_of (library_versions file)) fault
  unfolding library_versions
  indexes_fault symbols dynamic is = rw (symbols, dynamic) (refused_first index_checks_refuse versions_after fault is)

  pub versions_fault : symbol_checks_refuse ≡ None → dynamic_checks_refuse ≡ None → index_checks_refuse ≡ None → IsLinkFault (refusal_of versions_after) fault → IsLinkFault (refusal_of (library_versions file)) fault
  unfolding library_versions
  versions_fault symbols dynamic indexes is = rw (symbols, dynamic, indexes) is

all_pass : (file : List ℕ) (versions : LibraryVersions) → first_refusal (table_checks_in file (first_typed (file_sections file) SHT_DYNSYM)) ≡ None
    → first_refusal (checks_if dynamic_table_checks file (header_of_type file SHT_DYNAMIC)) ≡ None → first_refusal (checks_if version_index_checks file (header_of_type file SHT_GNU_VERSYM)) ≡ None
    → versions_with (first_typed (file_sections file) SHT_DYNSYM) (header_of_type file SHT_GNU_VERSYM) (defined_names file) (needed_names file) ≡ Ok versions → library_versions file ≡ Ok versions
unfolding library_versions
all_pass file versions symbols dynamic indexes is = rw (symbols, dynamic, indexes) is

-- the checks of the symbols pass once they are read
pub found_passes : (file bytes : List ℕ) (found : Option ℕ) (symbols : Option SymbolRows) → ReadsFound file bytes found (Ok symbols) → first_refusal (table_checks_in file found) ≡ None
found_passes file bytes found None is = ap (λ t. first_refusal (table_checks_in file t)) is
found_passes file bytes found (Some symbols) is = ap (λ t. first_refusal (table_checks_in file t)) is.0 ∙ is.1.pass

-- WHAT WAS READ stays in the buffer
symbols_stay : (file old new : List ℕ) (symbols : Option SymbolRows) → ReadsFound file old (first_typed (file_sections file) SHT_DYNSYM) (Ok symbols) → take (length old) new ≡ old → HoldsSomeSymbols file new symbols
symbols_stay file old new None found first = found
symbols_stay file old new (Some symbols) found first = record {
  table = found.0;
  holds = symbols_kept file old new (section_at file symbols.section) symbols first found.1.holds;
  first = found.1.first;
}

dynamic_stays : (file old new : List ℕ) (header : Option ℕ) (dynamic : Option DynamicRows) → HoldsSomeDynamic file old header dynamic → take (length old) new ≡ old → HoldsSomeDynamic file new header dynamic
dynamic_stays file old new header None held first = held
dynamic_stays file old new header (Some dynamic) held first = (
  held.0,
  held.1,
  record {
    rows = holds_kept old new dynamic.rows _ first held.2.rows;
    strings = holds_kept old new dynamic.strings _ first held.2.strings;
    whole = held.2.whole;
    at_is = held.2.at_is;
    fits = held.2.fits;
  },
)

indexes_stay : (file old new : List ℕ) (header : Option ℕ) (indexes : Option VersionRows) → HoldsSomeIndexes file old header indexes → take (length old) new ≡ old → HoldsSomeIndexes file new header indexes
indexes_stay file old new header None held first = held
indexes_stay file old new header (Some indexes) held first = (
  held.0,
  held.1,
  record {
    rows = holds_kept old new indexes.rows _ first held.2.rows;
    whole = held.2.whole;
    at_is = held.2.at_is;
    header_is = held.2.header_is;
    fits = held.2.fits;
  },
)

-- THERE ARE VERSIONS or none, by what was read
without_versions : (file bytes : List ℕ) (header : Option ℕ) (symbols : Option SymbolRows) (indexes : Option VersionRows) (defined needed : Result (List NumberedName) LinkRefusal)
    → HoldsSomeSymbols file bytes symbols → HoldsSomeIndexes file bytes header indexes → (is_some indexes && is_some symbols) ≡ false
    → versions_with (first_typed (file_sections file) SHT_DYNSYM) header defined needed ≡ Ok (record { indexes = header; defined = []; needed = [] })
without_versions file bytes header None indexes defined needed found held lacks = rw found refl
without_versions file bytes header (Some symbols) None defined needed found held lacks = rw (found.table, held) refl
without_versions file bytes header (Some symbols) (Some indexes) defined needed found held lacks = absurd (cc)

with_versions : (file bytes : List ℕ) (header : Option ℕ) (symbols : Option SymbolRows) (indexes : Option VersionRows) (defined needed : Result (List NumberedName) LinkRefusal)
    → HoldsSomeSymbols file bytes symbols → HoldsSomeIndexes file bytes header indexes → (is_some indexes && is_some symbols) ≡ true
    → versions_with (first_typed (file_sections file) SHT_DYNSYM) header defined needed ≡ versions_named header defined needed
with_versions file bytes header None indexes defined needed found held has = let lacked = no_symbols (is_some indexes) in absurd (cc)
  where
    no_symbols : (b : Bool) → (b && false) ≡ false
    no_symbols true = refl
    no_symbols false = refl
with_versions file bytes header (Some symbols) None defined needed found held has = absurd (cc)
with_versions file bytes header (Some symbols) (Some indexes) defined needed found held has = rw (found.table, held.1) refl

-- the refusals of the names do not depend on the indexes
names_refuse : (indexes : Option ℕ) (defined needed : Result (List NumberedName) LinkRefusal) → refusal_of (versions_named indexes defined needed) ≡ refusal_of (versions_named None defined needed)
names_refuse indexes (Err refusal) needed = refl
names_refuse indexes (Ok defined) (Err refusal) = refl
names_refuse indexes (Ok defined) (Ok needed) = refl

-- A LIBRARY IS READ without versions, or with them, or their names are refused
module _ (file b1 b2 b3 : List ℕ) (symbols : Option SymbolRows) (dynamic : Option DynamicRows) (indexes : Option VersionRows)
    (found : ReadsFound file b1 (first_typed (file_sections file) SHT_DYNSYM) (Ok symbols))
    (entries : ReadsDynamic file b2 (header_of_type file SHT_DYNAMIC) (Ok dynamic))
    (held : ReadsIndexes file b3 (header_of_type file SHT_GNU_VERSYM) (Ok indexes)) where
  pub read_without : (row : ℕ) (texts : VersionNames) → take (length b1) b3 ≡ b1 → take (length b2) b3 ≡ b2 → HoldsNoNames texts → (is_some indexes && is_some symbols) ≡ false
      → ReadLibrary file b3 row texts (record { row = row; symbols = symbols; versions = indexes; dynamic = dynamic })
  read_without row texts first second none lacks =
      let there = symbols_stay file b1 b3 symbols found first in
      record {
        versions = record { indexes = header_of_type file SHT_GNU_VERSYM; defined = []; needed = [] };
        known = all_pass file _ (found_passes file b1 _ symbols found) entries.0 held.0
            (without_versions file b3 (header_of_type file SHT_GNU_VERSYM) symbols indexes (defined_names file) (needed_names file) there held.1 lacks);
        holds = record { symbols = there; versions_are = record { indexes_are = held.1; defined = none.defined b3; needed = none.needed b3 } };
        dynamic = dynamic_stays file b2 b3 (header_of_type file SHT_DYNAMIC) dynamic entries.1 second;
        row_is = refl;
      }

  pub read_with : (b4 : List ℕ) (row : ℕ) (texts : VersionNames) → take (length b1) b4 ≡ b1 → take (length b2) b4 ≡ b2 → take (length b3) b4 ≡ b3 → ReadVersionNames file b4 texts
      → (is_some indexes && is_some symbols) ≡ true → ReadLibrary file b4 row texts (record { row = row; symbols = symbols; versions = indexes; dynamic = dynamic })
  read_with b4 row texts first second third names has =
      let there = symbols_stay file b1 b4 symbols found first in
      let rows = indexes_stay file b3 b4 (header_of_type file SHT_GNU_VERSYM) indexes held.1 third in
      record {
        versions = record { indexes = header_of_type file SHT_GNU_VERSYM; defined = names.defined; needed = names.needed };
        known = all_pass file _ (found_passes file b1 _ symbols found) entries.0 held.0
            (with_versions file b4 (header_of_type file SHT_GNU_VERSYM) symbols indexes (defined_names file) (needed_names file) there rows has
            ∙ rw (names.defined_are, names.needed_are) refl);
        holds = record { symbols = there; versions_are = record { indexes_are = rows; defined = names.holds_defined; needed = names.holds_needed } };
        dynamic = dynamic_stays file b2 b4 (header_of_type file SHT_DYNAMIC) dynamic entries.1 second;
        row_is = refl;
      }

  pub names_fault : (fault : LinkFault) → take (length b1) b3 ≡ b1 → (is_some indexes && is_some symbols) ≡ true → IsLinkFault (refusal_of (versions_named None (defined_names file) (needed_names file))) fault
      → IsLinkFault (refusal_of (library_versions file)) fault
  names_fault fault first has is =
      let there = symbols_stay file b1 b3 symbols found first in
      let e = with_versions file b3 (header_of_type file SHT_GNU_VERSYM) symbols indexes (defined_names file) (needed_names file) there held.1 has in
      versions_fault file fault (found_passes file b1 _ symbols found) entries.0 held.0
      (subst (λ known. IsLinkFault known fault) (sym (ap refusal_of e ∙ names_refuse (header_of_type file SHT_GNU_VERSYM) (defined_names file) (needed_names file))) is)
