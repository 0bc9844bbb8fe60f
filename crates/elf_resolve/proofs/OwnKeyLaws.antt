-- Keys without shared libraries: what symbols of objects, groups and sections keep of them.
use Rattle.std.proofs.Common.{ℕ, zero, suc, ◌+◌, ◌<◌, ◌≤◌, Bool, true, false, List, [], ◌∷◌, ◌++◌, length, length-append, get_or, set, map, sym, ap, subst, ◌∙◌, arith}
use Rattle.std.specs.Prelude.{Option, None, Some, if◌then◌else◌}
use Rattle.elf_model.specs.LinkInputs.{argument_symbol}
use Rattle.elf_model.specs.LinkKeys.{LinkKeys, LinkSymbol, default_used, entered, entered_at, entry_named, entry_named_as, further_after, is_further, key_change, key_changed, key_index, key_in, key_used, name_used, new_key, prepared, removed, symbol_taken, symbols_taken, used, with_entry}
use Rattle.elf_model.specs.LinkObjects.{DroppedSections, LinkObject, NamedSection, ObjectSymbol, SectionGroup, group_taken, groups_taken, is_dropped, kept, name_noted, object_taken, section_noted, sections_noted, signature_kept, symbol_without}
use Rattle.elf_model.specs.LinkSteps.{ends_at, key_state_after}
use Rattle.elf_model.specs.declared.link_states.FurtherDefinition.{FurtherDefinition}
use Rattle.elf_model.specs.declared.link_states.IndexEntry.{IndexEntry}
use Rattle.elf_model.specs.declared.link_states.KeyEntry.{KeyEntry}
use Rattle.elf_model.specs.declared.link_states.KeyState.{KeyState}
use Rattle.elf_model.specs.declared.link_states.KeyState.TheVariants.{Shared}
use Rattle.elf_model.specs.declared.link_states.SymbolUse.{SymbolUse}
use Rattle.elf_resolve.specs.KeyLists.{AreKeyedEntries, AreKeyedFurther}
use Rattle.elf_resolve.specs.KeyStates.{IsOwn, IsOwnState}
use Rattle.elf_resolve.specs.OwnLinks.{AreOwnEntries, AreOwnKeys}
use Rattle.elf_resolve.proofs.EntryLaws.{change_own, changed_state, references_state}
use Rattle.elf_resolve.proofs.FollowLaws.{without_own}
use Rattle.elf_resolve.proofs.KeyLaws.{index_within}
use Rattle.elf_resolve.proofs.StateLaws.{stays_own}

-- KEYS BECOME OTHERS, not fewer, and are without shared libraries still
pub record StayOwn (old new : LinkKeys) : Type 0 where
  pub more : length old.names ≤ length new.names
  pub own : AreOwnKeys new

pub stay_itself : (keys : LinkKeys) → AreOwnKeys keys → StayOwn keys keys
stay_itself keys own = record { more = omega arith; own = own }

pub stay_then : (a b c : LinkKeys) → StayOwn a b → StayOwn b c → StayOwn a c
stay_then a b c first second = record { more = omega (arith, first.more, second.more); own = second.own }

-- symbols of objects, and of an object
abbrev pub AreOwnSymbols : List LinkSymbol → Type 0
AreOwnSymbols [] = Unit {0}
AreOwnSymbols (s ∷ symbols) = IsOwn s.symbol.role × AreOwnSymbols symbols

abbrev pub AreOwnInObject : List ObjectSymbol → Type 0
AreOwnInObject [] = Unit {0}
AreOwnInObject (s ∷ symbols) = IsOwn s.symbol.symbol.role × AreOwnInObject symbols

-- entries
entries_push : (entries : List KeyEntry) (e : KeyEntry) → AreOwnEntries entries → IsOwnState e.state → AreOwnEntries (entries ++ e ∷ [])
entries_push [] e are is = (is, tt)
entries_push (x ∷ entries) e are is = (are.0, entries_push entries e are.1 is)

entries_set : (entries : List KeyEntry) (i : ℕ) (e : KeyEntry) → AreOwnEntries entries → IsOwnState e.state → AreOwnEntries (set entries i e)
entries_set [] i e are is = tt
entries_set (x ∷ entries) zero e are is = (is, are.1)
entries_set (x ∷ entries) (suc i) e are is = (are.0, entries_set entries i e are.1 is)

pub entries_at : (entries : List KeyEntry) (i : ℕ) → AreOwnEntries entries → IsOwnState (get_or entries i new_key).state
entries_at [] i are = tt
entries_at (x ∷ entries) zero are = are.0
entries_at (x ∷ entries) (suc i) are = entries_at entries i are.1

-- further definitions, and the entries of an index
pub further_more : (n m : ℕ) (further : List FurtherDefinition) → n ≤ m → AreKeyedFurther n further → AreKeyedFurther m further
further_more n m [] below are = tt
further_more n m (f ∷ further) below are = (omega (arith, below, are.0), further_more n m further below are.1)

further_push : (n : ℕ) (further : List FurtherDefinition) (f : FurtherDefinition) → AreKeyedFurther n further → f.key + 1 ≤ n → AreKeyedFurther n (further ++ f ∷ [])
further_push n [] f are below = (below, tt)
further_push n (x ∷ further) f are below = (are.0, further_push n further f are.1 below)

further_by : (n : ℕ) (further : List FurtherDefinition) (i : ℕ) (row : Option ℕ) (is_one : Bool) → i < n → AreKeyedFurther n further → AreKeyedFurther n (further_after further i row is_one)
further_by n further i row true below are = further_push n further (record { key = i; row = row }) are (omega (arith, below))
further_by n further i row false below are = are

pub keyed_more : (n m : ℕ) (entries : List IndexEntry) → n ≤ m → AreKeyedEntries n entries → AreKeyedEntries m entries
keyed_more n m [] below are = tt
keyed_more n m (e ∷ entries) below are = (omega (arith, below, are.0), omega (arith, below, are.1), keyed_more n m entries below are.2)

pub keyed_push : (n : ℕ) (entries : List IndexEntry) (e : IndexEntry) → AreKeyedEntries n entries → e.key + 1 ≤ n → e.default_key + 1 ≤ n → AreKeyedEntries n (entries ++ e ∷ [])
keyed_push n [] e are key default = (key, default, tt)
keyed_push n (x ∷ entries) e are key default = (are.0, are.1, keyed_push n entries e are.2 key default)

-- A KEY USED by a symbol of an object
removed_own : (asked : Bool) (s : KeyState) → IsOwnState s → IsOwnState (removed asked s)
removed_own asked (Shared y) own = absurd own
removed_own asked s own = own

prepared_own : (entry : KeyEntry) (restricted : Bool) → IsOwnState entry.state
    → (let before : KeyEntry = if restricted then record entry { state = removed entry.is_asked entry.state; is_restricted = true } else entry in IsOwnState before.state)
prepared_own entry true own = removed_own entry.is_asked entry.state own
prepared_own entry false own = own

used_own : (entry : KeyEntry) (symbol : SymbolUse) (row : Option ℕ) → IsOwn symbol.role → IsOwnState entry.state → IsOwnState (used entry symbol row).state
unfolding used
used_own entry symbol row own is =
    let before = prepared entry symbol in
    let state_is = references_state symbol symbol.role row (key_changed before symbol row (key_change before symbol)) ∙ changed_state before symbol row (key_change before symbol) ∙ ap (λ c. key_state_after before.state c) (change_own before symbol own) in
    subst (λ s. IsOwnState s) (sym state_is) (stays_own before.state symbol.role (prepared_own entry symbol.restricted is) own)

pub entered_stay : (keys : LinkKeys) (name : List ℕ) → AreOwnKeys keys → StayOwn keys (entered keys name)
unfolding entered
entered_stay keys name own = by (key_in keys.names name) where
  by : (place : Option ℕ) → StayOwn keys (entered_at place keys name)
  by None =
      let more : length keys.names ≤ length (keys.names ++ name ∷ []) = omega (arith, length-append keys.names (name ∷ [])) in
      record { more = more; own = record { own = entries_push keys.entries new_key own.own tt; further = further_more (length keys.names) (length (keys.names ++ name ∷ [])) keys.further more own.further } }
  by (Some i) = stay_itself keys own

key_stay : (keys : LinkKeys) (i : ℕ) (symbol : SymbolUse) (row : Option ℕ) → i < length keys.names → IsOwn symbol.role → AreOwnKeys keys → StayOwn keys (key_used keys i symbol row)
unfolding key_used
key_stay keys i symbol row below is own = record {
  more = omega arith;
  own = record {
    own = entries_set keys.entries i (used (entry_named_as keys i) symbol row) own.own (used_own (entry_named_as keys i) symbol row is (entries_at keys.entries i own.own));
    further = further_by (length keys.names) keys.further i row (is_further (entry_named_as keys i) symbol) below own.further;
  };
}

name_stay : (row : Option ℕ) (keys : LinkKeys) (name : List ℕ) (symbol : SymbolUse) → IsOwn symbol.role → AreOwnKeys keys → StayOwn keys (name_used row keys name symbol)
unfolding name_used
name_stay row keys name symbol is own =
    let first = entered_stay keys name own in
    stay_then keys (entered keys name) (name_used row keys name symbol) first (key_stay (entered keys name) (key_index keys name) symbol row (index_within keys name) is first.own)

default_stay : (row : Option ℕ) (keys : LinkKeys) (default : Option (List ℕ)) (symbol : SymbolUse) (ends : Bool) → IsOwn symbol.role → AreOwnKeys keys → StayOwn keys (default_used row keys default symbol ends)
default_stay row keys None symbol ends is own = stay_itself keys own
default_stay row keys (Some name) symbol true is own = stay_itself keys own
default_stay row keys (Some name) symbol false is own = name_stay row keys name symbol is own

symbol_stay : (row : Option ℕ) (keys : LinkKeys) (s : LinkSymbol) → IsOwn s.symbol.role → AreOwnKeys keys → StayOwn keys (symbol_taken row keys s)
unfolding symbol_taken
symbol_stay row keys s is own =
    let first = name_stay row keys s.name s.symbol is own in
    stay_then keys (name_used row keys s.name s.symbol) (symbol_taken row keys s) first
    (default_stay row (name_used row keys s.name s.symbol) s.default_name s.symbol (ends_at (prepared (entry_named keys s.name) s.symbol).state s.symbol.role) is first.own)

pub symbols_stay : (row : Option ℕ) (keys : LinkKeys) (symbols : List LinkSymbol) → AreOwnSymbols symbols → AreOwnKeys keys → StayOwn keys (symbols_taken row keys symbols)
symbols_stay row keys [] are own = stay_itself keys own
symbols_stay row keys (s ∷ symbols) are own =
    let first = symbol_stay row keys s are.0 own in
    stay_then keys (symbol_taken row keys s) (symbols_taken row (symbol_taken row keys s) symbols) first (symbols_stay row (symbol_taken row keys s) symbols are.1 first.own)

-- names that arguments ask for
pub arguments_own : (names : List (List ℕ)) → AreOwnSymbols (map argument_symbol names)
arguments_own [] = tt
arguments_own (name ∷ names) = (tt, arguments_own names)

-- AN OBJECT: its symbols, of which some are dropped; its groups; and its sections
symbols_own : (sections : List ℕ) (symbols : List ObjectSymbol) → AreOwnInObject symbols → AreOwnSymbols (map (symbol_without sections) symbols)
unfolding symbol_without
symbols_own sections [] are = tt
symbols_own sections (s ∷ symbols) are = (without_own sections s (is_dropped sections s.section) are.0, symbols_own sections symbols are.1)

kept_own : (is_link_once : Bool) (entry : KeyEntry) → IsOwnState entry.state → IsOwnState (kept is_link_once entry).state
kept_own true entry own = own
kept_own false entry own = own

with_stay : (keys : LinkKeys) (i : ℕ) (entry : KeyEntry) → IsOwnState entry.state → AreOwnKeys keys → StayOwn keys (with_entry keys i entry)
with_stay keys i entry is own = record { more = omega arith; own = record { own = entries_set keys.entries i entry own.own is; further = own.further } }

group_stay : (before : DroppedSections) (group : SectionGroup) → AreOwnKeys before.keys → StayOwn before.keys (group_taken before group).keys
unfolding signature_kept
group_stay before group own =
    let now = entered before.keys group.signature in
    let index = key_index before.keys group.signature in
    let first = entered_stay before.keys group.signature own in
    stay_then before.keys now (group_taken before group).keys first
    (with_stay now index (kept group.is_link_once (entry_named_as now index)) (kept_own group.is_link_once (entry_named_as now index) (entries_at now.entries index first.own.own)) first.own)

groups_stay : (before : DroppedSections) (groups : List SectionGroup) → AreOwnKeys before.keys → StayOwn before.keys (groups_taken before groups).keys
groups_stay before [] own = stay_itself before.keys own
groups_stay before (group ∷ groups) own =
    let first = group_stay before group own in
    stay_then before.keys (group_taken before group).keys (groups_taken (group_taken before group) groups).keys first (groups_stay (group_taken before group) groups first.own)

noted_stay : (keys : LinkKeys) (name : List ℕ) → AreOwnKeys keys → StayOwn keys (name_noted keys name)
unfolding name_noted
noted_stay keys name own =
    let now = entered keys name in
    let index = key_index keys name in
    let first = entered_stay keys name own in
    stay_then keys now (name_noted keys name) first (with_stay now index (record (entry_named_as now index) { is_section = true }) (entries_at now.entries index first.own.own) first.own)

section_stay : (keys : LinkKeys) (name : List ℕ) (dropped : Bool) → AreOwnKeys keys → StayOwn keys (if dropped then keys else name_noted keys name)
section_stay keys name true own = stay_itself keys own
section_stay keys name false own = noted_stay keys name own

sections_stay : (dropped : List ℕ) (keys : LinkKeys) (sections : List NamedSection) → AreOwnKeys keys → StayOwn keys (sections_noted dropped keys sections)
sections_stay dropped keys [] own = stay_itself keys own
sections_stay dropped keys (section ∷ sections) own =
    let first = section_stay keys section.name (is_dropped dropped (Some section.index)) own in
    stay_then keys (section_noted dropped keys section) (sections_noted dropped (section_noted dropped keys section) sections) first
    (sections_stay dropped (section_noted dropped keys section) sections first.own)

pub object_stay : (row : Option ℕ) (keys : LinkKeys) (object : LinkObject) → AreOwnInObject object.symbols → AreOwnKeys keys → StayOwn keys (object_taken row keys object)
unfolding object_taken
object_stay row keys object are own =
    let start : DroppedSections = record { keys = keys; sections = [] } in
    let groups = groups_taken start object.groups in
    let first = groups_stay start object.groups own in
    let noted = sections_noted groups.sections groups.keys object.sections in
    let second = sections_stay groups.sections groups.keys object.sections first.own in
    stay_then keys groups.keys (object_taken row keys object) first
    (stay_then groups.keys noted (object_taken row keys object) second
    (symbols_stay row noted (map (symbol_without groups.sections) object.symbols) (symbols_own groups.sections object.symbols are) second.own))
