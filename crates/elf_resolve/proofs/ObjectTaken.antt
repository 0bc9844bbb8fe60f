-- An object is taken by its parts, up to the first refusal.
use Rattle.std.proofs.Common.{◌≡◌, ℕ, List, length, take, refl, ap, ◌∙◌}
use Rattle.std.specs.Prelude.{Bool, Option, None, Some, Result, Ok, Err, map}
use Rattle.elf_model.specs.Checks.{first_refusal}
use Rattle.elf_model.specs.LinkArchives.{refusal_of}
use Rattle.elf_model.specs.LinkKeys.{symbols_taken}
use Rattle.elf_model.specs.LinkObjects.{NamedSection, ObjectSymbol, SectionGroup, groups_taken, object_taken, sections_noted, symbol_without}
use Rattle.elf_model.specs.LinkSymbols.{groups_from, object_by, object_of, object_refusal, sections_from, symbol_table_in, symbols_if, table_checks_in}
use Rattle.elf_model.specs.Records.{e_shnum, section_at}
use Rattle.elf_model.specs.declared.link_states.LinkRefusal.{LinkRefusal}
use Rattle.elf_table.specs.Prelude.{HoldsSectionHeaders, LoadedFile, StoreState}
use Rattle.elf_resolve.specs.KeyTables.{KeyList}
use Rattle.elf_resolve.specs.ObjectParts.{as_any_refusal}
use Rattle.elf_resolve.specs.ObjectSymbols.{TakesObjectSymbols}
use Rattle.elf_resolve.specs.ObjectTables.{HoldsObjectSymbols, HoldsSectionNames, HoldsTables}
use Rattle.elf_resolve.specs.Objects.{TakesLoaded, loaded_refusal, object_parts, refused_before}
use Rattle.elf_resolve.specs.SectionGroups.{DroppedGroups, NotedSections, none_dropped}
use Rattle.elf_resolve.specs.Taken.{IsLinkFault, TakesObject}
use Rattle.elf_resolve.specs.declared.link_faults.LinkFault.{LinkFault}
use Rattle.elf_resolve.specs.declared.object.ObjectTables.{ObjectTables}
use Rattle.elf_resolve.specs.declared.object.SymbolRows.{SymbolRows}
use Rattle.elf_resolve.specs.declared.string_buffer.HeldText.{HeldText}
use Rattle.elf_resolve.proofs.LinkFaultLaws.{fault_of_part}
use Rattle.elf_resolve.proofs.ObjectLaws.{symbols_kept}
use Rattle.elf_resolve.proofs.StringBufferLaws.{holds_kept}

-- how many sections a loaded file has
pub sections_loaded : (file : List ℕ) (loaded : LoadedFile) (store : StoreState) → HoldsSectionHeaders file loaded store → store.loaded ≡ e_shnum file
sections_loaded file loaded store held = held.count ∙ held.header.e_shnum

-- A FAULT of its tables, its groups, its sections or its symbols
pub tables_first : (file : List ℕ) (fault : LinkFault) → IsLinkFault (as_any_refusal (first_refusal (table_checks_in file (symbol_table_in file)))) fault → IsLinkFault (loaded_refusal file) fault
tables_first file fault is =
    let tables = as_any_refusal (first_refusal (table_checks_in file (symbol_table_in file))) in
    fault_of_part tables (loaded_refusal file) fault (λ refusal e. before tables (refusal_of (object_parts file)) refusal e) is
  where
    before : (first rest : Option LinkRefusal) (refusal : LinkRefusal) → first ≡ Some refusal → refused_before first rest ≡ Some refusal
    before (Some other) rest refusal e = e
    before None rest refusal e = absurd (cc)

parts_first : (file : List ℕ) (fault : LinkFault) (part : Option LinkRefusal) → first_refusal (table_checks_in file (symbol_table_in file)) ≡ None
    → ((refusal : LinkRefusal) → part ≡ Some refusal → refusal_of (object_parts file) ≡ Some refusal) → IsLinkFault part fault → IsLinkFault (loaded_refusal file) fault
parts_first file fault part pass same is =
    fault_of_part part (loaded_refusal file) fault (λ refusal e. ap (λ t. refused_before (as_any_refusal t) (refusal_of (object_parts file))) pass ∙ same refusal e) is

groups_by : (groups : Result (List SectionGroup) LinkRefusal) (sections : Result (List NamedSection) LinkRefusal) (symbols : Result (List ObjectSymbol) LinkRefusal) (refusal : LinkRefusal) → refusal_of groups ≡ Some refusal → refusal_of (object_by groups sections symbols) ≡ Some refusal
groups_by (Err other) sections symbols refusal e = e
groups_by (Ok groups) sections symbols refusal e = absurd (cc)

sections_by : (groups : List SectionGroup) (sections : Result (List NamedSection) LinkRefusal) (symbols : Result (List ObjectSymbol) LinkRefusal) (refusal : LinkRefusal) → refusal_of sections ≡ Some refusal → refusal_of (object_by (Ok groups) sections symbols) ≡ Some refusal
sections_by groups (Err other) symbols refusal e = e
sections_by groups (Ok sections) symbols refusal e = absurd (cc)

symbols_by : (groups : List SectionGroup) (sections : List NamedSection) (symbols : Result (List ObjectSymbol) LinkRefusal) (refusal : LinkRefusal) → refusal_of symbols ≡ Some refusal → refusal_of (object_by (Ok groups) (Ok sections) symbols) ≡ Some refusal
symbols_by groups sections (Err other) refusal e = e
symbols_by groups sections (Ok symbols) refusal e = absurd (cc)

pub groups_first : (file : List ℕ) (fault : LinkFault) → first_refusal (table_checks_in file (symbol_table_in file)) ≡ None → IsLinkFault (refusal_of (groups_from file 0 (e_shnum file))) fault → IsLinkFault (loaded_refusal file) fault
groups_first file fault pass is =
    parts_first file fault (refusal_of (groups_from file 0 (e_shnum file))) pass (groups_by (groups_from file 0 (e_shnum file)) (sections_from file 0 (e_shnum file)) (symbols_if file (symbol_table_in file))) is

pub sections_then : (file : List ℕ) (fault : LinkFault) (old now : KeyList) (marks : List Bool) → first_refusal (table_checks_in file (symbol_table_in file)) ≡ None → DroppedGroups file old now marks
    → IsLinkFault (refusal_of (sections_from file 0 (e_shnum file))) fault → IsLinkFault (loaded_refusal file) fault
sections_then file fault old now marks pass groups is =
    let rest = symbols_if file (symbol_table_in file) in
    parts_first file fault (refusal_of (sections_from file 0 (e_shnum file))) pass
    (λ refusal e. ap (λ g. refusal_of (object_by g (sections_from file 0 (e_shnum file)) rest)) groups.are ∙ sections_by groups.groups (sections_from file 0 (e_shnum file)) rest refusal e) is

-- ITS SYMBOLS come last
pub symbols_then : (file : List ℕ) (row : ℕ) (old now next new : KeyList) (marks : List Bool) (result : Result (Unit {0}) LinkFault) → first_refusal (table_checks_in file (symbol_table_in file)) ≡ None
    → (groups : DroppedGroups file old now marks) → NotedSections file (groups_taken (none_dropped old) groups.groups).sections now next
    → TakesObjectSymbols (groups_taken (none_dropped old) groups.groups).sections (symbols_if file (symbol_table_in file)) next new row result → TakesLoaded file row old new result
unfolding object_taken
symbols_then file row old now next new marks (Err fault) pass groups sections takes =
    let rest = symbols_if file (symbol_table_in file) in
    parts_first file fault (refusal_of rest) pass
    (λ refusal e.
    ap (λ g. refusal_of (object_by g (sections_from file 0 (e_shnum file)) rest)) groups.are
    ∙ ap (λ s. refusal_of (object_by (Ok groups.groups) s rest)) sections.are ∙ symbols_by groups.groups sections.sections rest refusal e) takes
symbols_then file row old now next new marks (Ok done) pass groups sections takes =
    let dropped = (groups_taken (none_dropped old) groups.groups).sections in
    let rest = symbols_if file (symbol_table_in file) in
    record {
      pass = pass;
      object = record { groups = groups.groups; sections = sections.sections; symbols = takes.0 };
      parts =
          ap (λ g. object_by g (sections_from file 0 (e_shnum file)) rest) groups.are ∙ ap (λ s. object_by (Ok groups.groups) s rest) sections.are
          ∙ ap (object_by (Ok groups.groups) (Ok sections.sections)) takes.1;
      took = record {
        keys =
            takes.2.keys ∙ ap (λ k. symbols_taken (Some row) k (map (symbol_without dropped) takes.0)) sections.keys
            ∙ ap (λ k. symbols_taken (Some row) (sections_noted dropped k sections.sections) (map (symbol_without dropped) takes.0)) groups.keys;
        most = takes.2.most ∙ sections.most ∙ groups.most;
        most_further = takes.2.most_further ∙ sections.most_further ∙ groups.most_further;
      };
    }

-- AN OBJECT by its bytes: refused before its sections, or by its parts
refused_of : (file : List ℕ) (headers : ℕ) (refusal : LinkRefusal) → object_refusal file headers ≡ Some refusal → object_of file headers ≡ Err refusal
unfolding object_of
refused_of file headers refusal is = rw (is, object_of) refl

passed_of : (file : List ℕ) (headers : ℕ) → object_refusal file headers ≡ None → object_of file headers ≡ object_parts file
unfolding object_of
passed_of file headers is = rw (is, object_of) refl

pub object_fault : (file : List ℕ) (headers : ℕ) (fault : LinkFault) → IsLinkFault (object_refusal file headers) fault → IsLinkFault (refusal_of (object_of file headers)) fault
object_fault file headers fault is =
    fault_of_part (object_refusal file headers) (refusal_of (object_of file headers)) fault (λ refusal e. ap refusal_of (refused_of file headers refusal e)) is

pub object_then : (file : List ℕ) (headers row : ℕ) (old new : KeyList) (result : Result (Unit {0}) LinkFault) → object_refusal file headers ≡ as_any_refusal (first_refusal (table_checks_in file (symbol_table_in file)))
    → TakesLoaded file row old new result → TakesObject file headers row old new result
object_then file headers row old new (Ok done) is takes =
    (takes.object, passed_of file headers (is ∙ ap as_any_refusal takes.pass) ∙ takes.parts, takes.took)
object_then file headers row old new (Err fault) is takes =
    let tables = as_any_refusal (first_refusal (table_checks_in file (symbol_table_in file))) in
    fault_of_part (loaded_refusal file) (refusal_of (object_of file headers)) fault (λ refusal e. by_tables tables is refusal e) takes
  where
    by_tables : (tables : Option LinkRefusal) → object_refusal file headers ≡ tables → (refusal : LinkRefusal) → refused_before tables (refusal_of (object_parts file)) ≡ Some refusal → refusal_of (object_of file headers) ≡ Some refusal
    by_tables None passes refusal e = ap refusal_of (passed_of file headers passes) ∙ e
    by_tables (Some other) refuses refusal e = ap refusal_of (refused_of file headers other refuses) ∙ e

-- TABLES STAY, if the bytes of a buffer stay the first ones
pub tables_kept : (file old new : List ℕ) (tables : ObjectTables) → take (length old) new ≡ old → HoldsTables file old tables → HoldsTables file new tables
tables_kept file old new tables first held = record { symbols = by_symbols tables.symbols held.symbols; sections = by_names tables.sections held.sections }
  where
    by_symbols : (symbols : Option SymbolRows) → HoldsObjectSymbols file old symbols → HoldsObjectSymbols file new symbols
    by_symbols None none = none
    by_symbols (Some symbols) one = record { table = one.table; holds = symbols_kept file old new (section_at file symbols.section) symbols first one.holds; first = one.first }

    by_names : (names : Option HeldText) → HoldsSectionNames file old names → HoldsSectionNames file new names
    by_names None none = none
    by_names (Some names) one = record { some = one.some; holds = holds_kept old new names _ first one.holds }
