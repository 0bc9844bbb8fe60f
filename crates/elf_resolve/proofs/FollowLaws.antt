-- How keys follow others while symbols of objects are taken: how many have been asked for grows, or
-- nothing new is asked for.
use Rattle.std.proofs.Common.{◌≡◌, ℕ, zero, suc, ◌+◌, ◌≤◌, Bool, true, false, List, [], ◌∷◌, ◌⊎◌, inl, inr, get_or, set, map, refl, sym, ap, ◌∙◌, arith}
use Rattle.std.specs.Prelude.{Option, None, Some, ◌&&◌, ◌||◌, not, nat_lt, if◌then◌else◌}
use Rattle.elf_model.specs.LinkKeys.{LinkKeys, LinkSymbol, asks_after, key_change, key_changed, default_used, entered, entered_at, entry_named, entry_named_as, first_row, key_index, key_in, key_used, name_used, new_key, prepared, references_by, symbol_taken, symbols_taken, used, with_entry}
use Rattle.elf_model.specs.LinkObjects.{DroppedSections, LinkObject, NamedSection, ObjectSymbol, SectionGroup, dropped_symbol, group_taken, groups_taken, is_dropped, kept, name_noted, object_taken, reference_role, section_noted, sections_noted, signature_kept, symbol_without}
use Rattle.elf_model.specs.LinkPasses.{is_new}
use Rattle.elf_model.specs.LinkSteps.{common_over, common_over_shared, defined_over, defined_over_shared, ends_at, key_state_after, state_change, weak_over, weak_over_shared}
use Rattle.elf_model.specs.declared.link_states.KeyEntry.{KeyEntry}
use Rattle.elf_model.specs.declared.link_states.KeyState.{KeyState}
use Rattle.elf_model.specs.declared.link_states.KeyState.TheVariants.{New, Weak, Undefined, WeakDefined, Defined, Shared}
use Rattle.elf_model.specs.declared.link_states.KeyState.TheVariants as state
use Rattle.elf_model.specs.declared.link_states.SharedKind.{SharedKind}
use Rattle.elf_model.specs.declared.link_states.SharedKind.TheVariants.{Function, NoBits, Absolute}
use Rattle.elf_model.specs.declared.link_states.StateChange.{StateChange}
use Rattle.elf_model.specs.declared.link_states.StateChange.TheVariants.{Stays, Multiple, Enlarged, BecomesState}
use Rattle.elf_model.specs.declared.link_states.SymbolRole.{SymbolRole}
use Rattle.elf_model.specs.declared.link_states.SymbolRole.TheVariants.{WeakReference, Reference, Common, WeakDefinition, Definition}
use Rattle.elf_model.specs.declared.link_states.SymbolRole.TheVariants as role
use Rattle.elf_model.specs.declared.link_states.SymbolUse.{SymbolUse}
use Rattle.elf_resolve.specs.KeyOrders.{AreUnrestricted, AskedAreKnown, IsQuiet, is_unasked}
use Rattle.elf_resolve.specs.KeyStates.{IsOwn}
use Rattle.elf_resolve.proofs.EntryLaws.{change_own, either_gone, prepared_plain, push_default, used_state}
use Rattle.elf_resolve.proofs.KeyLaws.{references_asked}

-- whether a key has been asked for after a change of its state
abbrev asked_by : KeyState → (is_asked : Bool) → StateChange → Bool
asked_by before is_asked (BecomesState made) = is_asked || asks_after before made
asked_by before is_asked _ = is_asked

-- ONE ENTRY FOLLOWS ANOTHER
record Moves (before : KeyState) (was_asked : Bool) (after : KeyState) (is_asked : Bool) : Type 0 where
  undefined : after ≡ Undefined → (is_asked ≡ true → was_asked ≡ true) → before ≡ Undefined
  new : is_new after ≡ true → is_new before ≡ true
  known : is_unasked after ≡ true → is_asked ≡ false

-- a change that makes no key new, weak or undefined
abbrev IsDefining : StateChange → Type 0
IsDefining (BecomesState New) = ⊥
IsDefining (BecomesState Weak) = ⊥
IsDefining (BecomesState Undefined) = ⊥
IsDefining _ = Unit {0}

defining_either : (b : Bool) (x y : StateChange) → IsDefining x → IsDefining y → IsDefining (if b then x else y)
defining_either true x y first second = first
defining_either false x y first second = second

apart : (b : Bool) → b ≡ false → b ≡ true → ⊥
apart b first second = cc

shared_common_defines : (kind : SharedKind) (weak : Bool) (size : ℕ) → IsDefining (common_over_shared kind weak size)
shared_common_defines Function weak size = tt
shared_common_defines (NoBits other) weak size = tt
shared_common_defines kind weak size = defining_either weak (BecomesState (state.Common size)) Stays tt tt

common_defines : (s : KeyState) (size : ℕ) → IsDefining (common_over s size)
common_defines (state.Common other) size = defining_either (nat_lt other size) (BecomesState (state.Common size)) Stays tt tt
common_defines (Shared symbol) size = shared_common_defines symbol.kind symbol.weak size
common_defines s size = tt

shared_weak_defines : (kind : SharedKind) → IsDefining (weak_over_shared kind)
shared_weak_defines Absolute = tt
shared_weak_defines kind = tt

weak_defines : (s : KeyState) → IsDefining (weak_over s)
weak_defines (Shared symbol) = shared_weak_defines symbol.kind
weak_defines s = tt

shared_defined_defines : (kind : SharedKind) (weak : Bool) → IsDefining (defined_over_shared kind weak)
shared_defined_defines Absolute weak = defining_either weak (BecomesState Defined) Multiple tt tt
shared_defined_defines kind weak = tt

defined_defines : (s : KeyState) → IsDefining (defined_over s)
defined_defines (Shared symbol) = shared_defined_defines symbol.kind symbol.weak
defined_defines s = tt

-- what a change of a state moves
moves_stays : (s : KeyState) (asked : Bool) → (is_unasked s ≡ true → asked ≡ false) → Moves s asked s asked
moves_stays s asked known = record { undefined = λ u q. u; new = λ n. n; known = known }

moves_away : (s after : KeyState) (asked is_asked : Bool) → (after ≡ Undefined → ⊥) → is_unasked after ≡ false → is_new after ≡ false → Moves s asked after is_asked
moves_away s after asked is_asked not_undefined not_unasked not_new = record {
  undefined = λ u q. absurd (not_undefined u);
  new = λ n. absurd (apart (is_new after) not_new n);
  known = λ k. absurd (apart (is_unasked after) not_unasked k);
}

moves_defining : (s : KeyState) (asked : Bool) (c : StateChange) → IsDefining c → (is_unasked s ≡ true → asked ≡ false) → Moves s asked (key_state_after s c) (asked_by s asked c)
moves_defining s asked Stays defines known = moves_stays s asked known
moves_defining s asked Multiple defines known = moves_stays s asked known
moves_defining s asked (Enlarged size) defines known = moves_away s (state.Common size) asked asked (λ u. cc) refl refl
moves_defining s asked (BecomesState New) defines known = absurd defines
moves_defining s asked (BecomesState Weak) defines known = absurd defines
moves_defining s asked (BecomesState Undefined) defines known = absurd defines
moves_defining s asked (BecomesState (state.Common size)) defines known = moves_away s (state.Common size) asked (asked || asks_after s (state.Common size)) (λ u. cc) refl refl
moves_defining s asked (BecomesState WeakDefined) defines known = moves_away s WeakDefined asked (asked || false) (λ u. cc) refl refl
moves_defining s asked (BecomesState Defined) defines known = moves_away s Defined asked (asked || false) (λ u. cc) refl refl
moves_defining s asked (BecomesState (Shared symbol)) defines known = moves_away s (Shared symbol) asked (asked || false) (λ u. cc) refl refl

or_right : (a : Bool) → (a || true) ≡ true
or_right true = refl
or_right false = refl

or_neither : (a : Bool) → a ≡ false → (a || false) ≡ false
or_neither true is = is
or_neither false is = refl

moves_asked : (s : KeyState) (asked : Bool) → is_unasked s ≡ true → (is_unasked s ≡ true → asked ≡ false) → Moves s asked Undefined (asked || true)
moves_asked s asked unasked known = record {
  undefined = λ u q. absurd (apart asked (known unasked) (q (or_right asked)));
  new = λ n. cc;
  known = λ k. cc;
}

moves_weakly : (s : KeyState) (asked : Bool) → is_unasked s ≡ true → (is_unasked s ≡ true → asked ≡ false) → Moves s asked Weak (asked || false)
moves_weakly s asked unasked known = record { undefined = λ u q. cc; new = λ n. cc; known = λ k. or_neither asked (known unasked) }

moves_by : (s : KeyState) (asked : Bool) (r : SymbolRole) → IsOwn r → (is_unasked s ≡ true → asked ≡ false) → Moves s asked (key_state_after s (state_change s r)) (asked_by s asked (state_change s r))
moves_by New asked WeakReference own known = moves_weakly New asked refl known
moves_by s asked WeakReference own known = moves_stays s asked known
moves_by New asked Reference own known = moves_asked New asked refl known
moves_by Weak asked Reference own known = moves_asked Weak asked refl known
moves_by s asked Reference own known = moves_stays s asked known
moves_by s asked (Common size) own known = moves_defining s asked (common_over s size) (common_defines s size) known
moves_by s asked WeakDefinition own known = moves_defining s asked (weak_over s) (weak_defines s) known
moves_by s asked Definition own known = moves_defining s asked (defined_over s) (defined_defines s) known
moves_by s asked (role.Shared symbol) own known = absurd own

-- AN ENTRY USED by a symbol of an object, of default visibility
changed_is_asked : (entry : KeyEntry) (symbol : SymbolUse) (row : Option ℕ) (c : StateChange) → (key_changed entry symbol row c).is_asked ≡ asked_by entry.state entry.is_asked c
changed_is_asked entry symbol row Stays = refl
changed_is_asked entry symbol row Multiple = refl
changed_is_asked entry symbol row (Enlarged size) = refl
changed_is_asked entry symbol row (BecomesState made) = refl

changed_gone : (entry : KeyEntry) (symbol : SymbolUse) (row : Option ℕ) (c : StateChange) → (key_changed entry symbol row c).is_gone ≡ entry.is_gone
changed_gone entry symbol row Stays = refl
changed_gone entry symbol row Multiple = refl
changed_gone entry symbol row (Enlarged size) = refl
changed_gone entry symbol row (BecomesState made) = refl

references_gone : (symbol : SymbolUse) (r : SymbolRole) (row : Option ℕ) (entry : KeyEntry) → (references_by symbol r row entry).is_gone ≡ entry.is_gone
references_gone symbol Reference row entry = either_gone (symbol.dropped || symbol.of_library) entry (record entry { reference = first_row entry.reference row }) refl
references_gone symbol WeakReference row entry = either_gone (symbol.dropped || symbol.of_library) entry (record entry { weak_reference = first_row entry.weak_reference row }) refl
references_gone symbol r row entry = refl

or_left : (a b : Bool) → a ≡ true → (a || b) ≡ true
or_left true b is = refl
or_left false b is = cc

used_moves : (entry : KeyEntry) (symbol : SymbolUse) (row : Option ℕ) → symbol.restricted ≡ false → IsOwn symbol.role → (is_unasked entry.state ≡ true → entry.is_asked ≡ false)
    → (let after = used entry symbol row in Moves entry.state entry.is_asked after.state after.is_asked)
unfolding used
used_moves entry symbol row unrestricted own known =
    let before = prepared entry symbol in
    let same : before ≡ entry = prepared_plain entry symbol.restricted unrestricted in
    let change : key_change before symbol ≡ state_change entry.state symbol.role = change_own before symbol own ∙ ap (λ (e : KeyEntry). state_change e.state symbol.role) same in
    let state_is : (used entry symbol row).state ≡ key_state_after entry.state (state_change entry.state symbol.role) = used_state entry symbol row unrestricted own in
    let asked_is : (used entry symbol row).is_asked ≡ asked_by entry.state entry.is_asked (state_change entry.state symbol.role) =
    references_asked symbol symbol.role row (key_changed before symbol row (key_change before symbol))
    ∙ changed_is_asked before symbol row (key_change before symbol)
    ∙ ap (λ c. asked_by before.state before.is_asked c) change
    ∙ ap (λ (e : KeyEntry). asked_by e.state e.is_asked (state_change entry.state symbol.role)) same in
    rw (state_is, asked_is) (moves_by entry.state entry.is_asked symbol.role own known)

pub used_gone : (entry : KeyEntry) (symbol : SymbolUse) (row : Option ℕ) → symbol.restricted ≡ false → entry.is_gone ≡ true → (used entry symbol row).is_gone ≡ true
unfolding used
used_gone entry symbol row unrestricted gone =
    let before = prepared entry symbol in
    or_left _ symbol.dropped
    (references_gone symbol symbol.role row (key_changed before symbol row (key_change before symbol))
    ∙ changed_gone before symbol row (key_change before symbol)
    ∙ ap (λ (e : KeyEntry). e.is_gone) (prepared_plain entry symbol.restricted unrestricted)
    ∙ gone)

-- KEYS FOLLOW OTHERS
pub record Follows (before after : LinkKeys) : Type 0 where
  pub grows : before.asked ≤ after.asked
  pub quiet : after.asked ≡ before.asked → IsQuiet before after
  pub known : AskedAreKnown after

pub follows_itself : (keys : LinkKeys) → AskedAreKnown keys → Follows keys keys
follows_itself keys known = record { grows = omega arith; quiet = λ same. record { undefined = λ i u. u; gone = λ i g. g; new = λ i n. n }; known = known }

pub follows_then : (a b c : LinkKeys) → Follows a b → Follows b c → Follows a c
follows_then a b c first second = record {
  grows = omega (arith, first.grows, second.grows);
  quiet = λ same.
      let one = first.quiet (omega (arith, first.grows, second.grows, same)) in
      let two = second.quiet (omega (arith, first.grows, second.grows, same)) in
      record { undefined = λ i u. one.undefined i (two.undefined i u); gone = λ i g. two.gone i (one.gone i g); new = λ i n. one.new i (two.new i n) };
  known = second.known;
}

-- entries that are alike
record Alike (a b : KeyEntry) : Type 0 where
  same_state : b.state ≡ a.state
  same_asked : b.is_asked ≡ a.is_asked
  same_gone : b.is_gone ≡ a.is_gone

alike_same : (a b : KeyEntry) → b ≡ a → Alike a b
alike_same a b same = record { same_state = ap (λ (e : KeyEntry). e.state) same; same_asked = ap (λ (e : KeyEntry). e.is_asked) same; same_gone = ap (λ (e : KeyEntry). e.is_gone) same }

follows_alike : (before after : LinkKeys) → after.asked ≡ before.asked → ((i : ℕ) → Alike (entry_named_as before i) (entry_named_as after i)) → AskedAreKnown before → Follows before after
follows_alike before after same alike known = record {
  grows = omega (arith, same);
  quiet = λ again. record {
    undefined = λ i u. sym (alike i).same_state ∙ u;
    gone = λ i g. (alike i).same_gone ∙ g;
    new = λ i n. ap is_new (sym (alike i).same_state) ∙ n;
  };
  known = λ i k. (alike i).same_asked ∙ known i (ap is_unasked (sym (alike i).same_state) ∙ k);
}

-- an element of a list with another one at an index
get_or_set : {X : Type 0} (xs : List X) (i : ℕ) (x : X) (j : ℕ) (d : X) → (get_or (set xs i x) j d ≡ get_or xs j d) ⊎ ((j ≡ i) × (get_or (set xs i x) j d ≡ x))
get_or_set [] i x j d = inl refl
get_or_set (y ∷ xs) zero x zero d = inr (refl, refl)
get_or_set (y ∷ xs) zero x (suc j) d = inl refl
get_or_set (y ∷ xs) (suc i) x zero d = inl refl
get_or_set (y ∷ xs) (suc i) x (suc j) d = at_next (get_or_set xs i x j d) where
  at_next : (get_or (set xs i x) j d ≡ get_or xs j d) ⊎ ((j ≡ i) × (get_or (set xs i x) j d ≡ x)) → (get_or (set xs i x) j d ≡ get_or xs j d) ⊎ ((suc j ≡ suc i) × (get_or (set xs i x) j d ≡ x))
  at_next (inl same) = inl same
  at_next (inr (at, is)) = inr (ap suc at, is)

-- a name entered
entered_alike : (keys : LinkKeys) (name : List ℕ) (place : Option ℕ) (i : ℕ) → entry_named_as (entered_at place keys name) i ≡ entry_named_as keys i
entered_alike keys name (Some found) i = refl
entered_alike keys name None i = push_default keys.entries new_key i

entered_asked : (keys : LinkKeys) (name : List ℕ) (place : Option ℕ) → (entered_at place keys name).asked ≡ keys.asked
entered_asked keys name (Some found) = refl
entered_asked keys name None = refl

pub follows_entered : (keys : LinkKeys) (name : List ℕ) → AskedAreKnown keys → Follows keys (entered keys name)
unfolding entered
follows_entered keys name known =
    follows_alike keys (entered keys name) (entered_asked keys name (key_in keys.names name))
    (λ i. alike_same (entry_named_as keys i) (entry_named_as (entered keys name) i) (entered_alike keys name (key_in keys.names name) i)) known

-- another entry that is alike
with_alike : (keys : LinkKeys) (index : ℕ) (entry : KeyEntry) (j : ℕ) → Alike (entry_named_as keys index) entry
    → (entry_named_as (with_entry keys index entry) j ≡ entry_named_as keys j) ⊎ ((j ≡ index) × (entry_named_as (with_entry keys index entry) j ≡ entry)) → Alike (entry_named_as keys j) (entry_named_as (with_entry keys index entry) j)
with_alike keys index entry j alike (inl same) = alike_same (entry_named_as keys j) (entry_named_as (with_entry keys index entry) j) same
with_alike keys index entry j alike (inr (at, is)) = rw (is, at) alike

follows_with : (keys : LinkKeys) (index : ℕ) (entry : KeyEntry) → Alike (entry_named_as keys index) entry → AskedAreKnown keys → Follows keys (with_entry keys index entry)
follows_with keys index entry alike known =
    follows_alike keys (with_entry keys index entry) refl (λ j. with_alike keys index entry j alike (get_or_set keys.entries index entry j new_key)) known

-- a key used
grown : (n : ℕ) (b : Bool) → n ≤ (if b then n + 1 else n)
grown n true = omega arith
grown n false = omega arith

not_grown : (n : ℕ) (b : Bool) → (if b then n + 1 else n) ≡ n → b ≡ false
not_grown n true same = absurd (omega (arith, same))
not_grown n false same = refl

not_new_asked : (now was : Bool) → (now && not was) ≡ false → now ≡ true → was ≡ true
not_new_asked true true is asked = refl
not_new_asked true false is asked = cc
not_new_asked false was is asked = cc

module _ (keys : LinkKeys) (i : ℕ) (symbol : SymbolUse) (row : Option ℕ) (unrestricted : symbol.restricted ≡ false) (own : IsOwn symbol.role) (known : AskedAreKnown keys) where
  abbrev Either : (j : ℕ) → KeyEntry → Type 0
  Either j after = (after ≡ entry_named_as keys j) ⊎ ((j ≡ i) × (after ≡ used (entry_named_as keys i) symbol row))

  either_of : (j : ℕ) → Either j (entry_named_as (key_used keys i symbol row) j)
  unfolding key_used
  either_of j = get_or_set keys.entries i (used (entry_named_as keys i) symbol row) j new_key

  moves_here : (let after = used (entry_named_as keys i) symbol row in Moves (entry_named_as keys i).state (entry_named_as keys i).is_asked after.state after.is_asked)
  moves_here = used_moves (entry_named_as keys i) symbol row unrestricted own (known i)

  quiet_undefined : (j : ℕ) (after : KeyEntry) → Either j after → ((used (entry_named_as keys i) symbol row).is_asked ≡ true → (entry_named_as keys i).is_asked ≡ true) → after.state ≡ Undefined → (entry_named_as keys j).state ≡ Undefined
  quiet_undefined j after (inl same) asked u = ap (λ (e : KeyEntry). e.state) (sym same) ∙ u
  quiet_undefined j after (inr (at, is)) asked u = rw at (moves_here.undefined (ap (λ (e : KeyEntry). e.state) (sym is) ∙ u) asked)

  quiet_new : (j : ℕ) (after : KeyEntry) → Either j after → is_new after.state ≡ true → is_new (entry_named_as keys j).state ≡ true
  quiet_new j after (inl same) n = ap (λ (e : KeyEntry). is_new e.state) (sym same) ∙ n
  quiet_new j after (inr (at, is)) n = rw at (moves_here.new (ap (λ (e : KeyEntry). is_new e.state) (sym is) ∙ n))

  quiet_gone : (j : ℕ) (after : KeyEntry) → Either j after → (entry_named_as keys j).is_gone ≡ true → after.is_gone ≡ true
  quiet_gone j after (inl same) g = ap (λ (e : KeyEntry). e.is_gone) same ∙ g
  quiet_gone j after (inr (at, is)) g = ap (λ (e : KeyEntry). e.is_gone) is ∙ used_gone (entry_named_as keys i) symbol row unrestricted (ap (λ k. (entry_named_as keys k).is_gone) (sym at) ∙ g)

  known_after : (j : ℕ) (after : KeyEntry) → Either j after → is_unasked after.state ≡ true → after.is_asked ≡ false
  known_after j after (inl same) k = ap (λ (e : KeyEntry). e.is_asked) same ∙ known j (ap (λ (e : KeyEntry). is_unasked e.state) (sym same) ∙ k)
  known_after j after (inr (at, is)) k = ap (λ (e : KeyEntry). e.is_asked) is ∙ moves_here.known (ap (λ (e : KeyEntry). is_unasked e.state) (sym is) ∙ k)

  pub follows_used : Follows keys (key_used keys i symbol row)
  unfolding key_used
  follows_used = record {
    grows = grown keys.asked ((used (entry_named_as keys i) symbol row).is_asked && not (entry_named_as keys i).is_asked);
    quiet = λ same.
        let asked = not_new_asked (used (entry_named_as keys i) symbol row).is_asked (entry_named_as keys i).is_asked (not_grown keys.asked ((used (entry_named_as keys i) symbol row).is_asked && not (entry_named_as keys i).is_asked) same) in
        record {
          undefined = λ j u. quiet_undefined j (entry_named_as (key_used keys i symbol row) j) (either_of j) asked u;
          gone = λ j g. quiet_gone j (entry_named_as (key_used keys i symbol row) j) (either_of j) g;
          new = λ j n. quiet_new j (entry_named_as (key_used keys i symbol row) j) (either_of j) n;
        };
    known = λ j k. known_after j (entry_named_as (key_used keys i symbol row) j) (either_of j) k;
  }

-- a symbol, and the symbols of a file
follows_name : (row : Option ℕ) (keys : LinkKeys) (name : List ℕ) (symbol : SymbolUse) → symbol.restricted ≡ false → IsOwn symbol.role → AskedAreKnown keys → Follows keys (name_used row keys name symbol)
unfolding name_used
follows_name row keys name symbol unrestricted own known =
    let first = follows_entered keys name known in
    follows_then keys (entered keys name) (name_used row keys name symbol) first (follows_used (entered keys name) (key_index keys name) symbol row unrestricted own first.known)

follows_default : (row : Option ℕ) (keys : LinkKeys) (default : Option (List ℕ)) (symbol : SymbolUse) (ends : Bool) → symbol.restricted ≡ false → IsOwn symbol.role → AskedAreKnown keys → Follows keys (default_used row keys default symbol ends)
follows_default row keys None symbol ends unrestricted own known = follows_itself keys known
follows_default row keys (Some name) symbol true unrestricted own known = follows_itself keys known
follows_default row keys (Some name) symbol false unrestricted own known = follows_name row keys name symbol unrestricted own known

pub follows_symbol : (row : Option ℕ) (keys : LinkKeys) (s : LinkSymbol) → s.symbol.restricted ≡ false → IsOwn s.symbol.role → AskedAreKnown keys → Follows keys (symbol_taken row keys s)
unfolding symbol_taken
follows_symbol row keys s unrestricted own known =
    let first = follows_name row keys s.name s.symbol unrestricted own known in
    follows_then keys (name_used row keys s.name s.symbol) (symbol_taken row keys s) first
    (follows_default row (name_used row keys s.name s.symbol) s.default_name s.symbol (ends_at (prepared (entry_named keys s.name) s.symbol).state s.symbol.role) unrestricted own first.known)

-- the symbols of an object, of which some are dropped
reference_own : (r : SymbolRole) → IsOwn r → IsOwn (reference_role r)
reference_own (role.Shared symbol) own = absurd own
reference_own r own = tt

without_unrestricted : (sections : List ℕ) (s : ObjectSymbol) (dropped : Bool) → s.symbol.symbol.restricted ≡ false → (if dropped then dropped_symbol s.symbol else s.symbol).symbol.restricted ≡ false
without_unrestricted sections s true is = is
without_unrestricted sections s false is = is

pub without_own : (sections : List ℕ) (s : ObjectSymbol) (dropped : Bool) → IsOwn s.symbol.symbol.role → IsOwn (if dropped then dropped_symbol s.symbol else s.symbol).symbol.role
without_own sections s true own = reference_own s.symbol.symbol.role own
without_own sections s false own = own

follows_without : (row : Option ℕ) (sections : List ℕ) (keys : LinkKeys) (s : ObjectSymbol) → s.symbol.symbol.restricted ≡ false → IsOwn s.symbol.symbol.role → AskedAreKnown keys → Follows keys (symbol_taken row keys (symbol_without sections s))
unfolding symbol_without
follows_without row sections keys s unrestricted own known =
    follows_symbol row keys (symbol_without sections s) (without_unrestricted sections s (is_dropped sections s.section) unrestricted) (without_own sections s (is_dropped sections s.section) own) known

follows_symbols : (row : Option ℕ) (sections : List ℕ) (keys : LinkKeys) (symbols : List ObjectSymbol) → AreUnrestricted symbols → AskedAreKnown keys → Follows keys (symbols_taken row keys (map (symbol_without sections) symbols))
follows_symbols row sections keys [] are known = follows_itself keys known
follows_symbols row sections keys (s ∷ symbols) are known =
    let first = follows_without row sections keys s are.0.0 are.0.1 known in
    follows_then keys (symbol_taken row keys (symbol_without sections s)) (symbols_taken row (symbol_taken row keys (symbol_without sections s)) (map (symbol_without sections) symbols)) first
    (follows_symbols row sections (symbol_taken row keys (symbol_without sections s)) symbols are.1 first.known)

-- the groups and the sections of an object
kept_alike : (is_link_once : Bool) (entry : KeyEntry) → Alike entry (kept is_link_once entry)
kept_alike true entry = record { same_state = refl; same_asked = refl; same_gone = refl }
kept_alike false entry = record { same_state = refl; same_asked = refl; same_gone = refl }

follows_group : (before : DroppedSections) (group : SectionGroup) → AskedAreKnown before.keys → Follows before.keys (group_taken before group).keys
unfolding signature_kept
follows_group before group known =
    let now = entered before.keys group.signature in
    let index = key_index before.keys group.signature in
    let first = follows_entered before.keys group.signature known in
    follows_then before.keys now (group_taken before group).keys first (follows_with now index (kept group.is_link_once (entry_named_as now index)) (kept_alike group.is_link_once (entry_named_as now index)) first.known)

follows_groups : (before : DroppedSections) (groups : List SectionGroup) → AskedAreKnown before.keys → Follows before.keys (groups_taken before groups).keys
follows_groups before [] known = follows_itself before.keys known
follows_groups before (group ∷ groups) known =
    let first = follows_group before group known in
    follows_then before.keys (group_taken before group).keys (groups_taken (group_taken before group) groups).keys first (follows_groups (group_taken before group) groups first.known)

follows_noted : (keys : LinkKeys) (name : List ℕ) → AskedAreKnown keys → Follows keys (name_noted keys name)
unfolding name_noted
follows_noted keys name known =
    let now = entered keys name in
    let index = key_index keys name in
    let first = follows_entered keys name known in
    follows_then keys now (name_noted keys name) first (follows_with now index (record (entry_named_as now index) { is_section = true }) (record { same_state = refl; same_asked = refl; same_gone = refl }) first.known)

follows_section : (keys : LinkKeys) (name : List ℕ) (dropped : Bool) → AskedAreKnown keys → Follows keys (if dropped then keys else name_noted keys name)
follows_section keys name true known = follows_itself keys known
follows_section keys name false known = follows_noted keys name known

follows_sections : (dropped : List ℕ) (keys : LinkKeys) (sections : List NamedSection) → AskedAreKnown keys → Follows keys (sections_noted dropped keys sections)
follows_sections dropped keys [] known = follows_itself keys known
follows_sections dropped keys (section ∷ sections) known =
    let first = follows_section keys section.name (is_dropped dropped (Some section.index)) known in
    follows_then keys (section_noted dropped keys section) (sections_noted dropped (section_noted dropped keys section) sections) first
    (follows_sections dropped (section_noted dropped keys section) sections first.known)

-- AN OBJECT
pub follows_object : (row : Option ℕ) (keys : LinkKeys) (object : LinkObject) → AreUnrestricted object.symbols → AskedAreKnown keys → Follows keys (object_taken row keys object)
unfolding object_taken
follows_object row keys object are known =
    let start : DroppedSections = record { keys = keys; sections = [] } in
    let groups = groups_taken start object.groups in
    let first = follows_groups start object.groups known in
    let noted = sections_noted groups.sections groups.keys object.sections in
    let second = follows_sections groups.sections groups.keys object.sections first.known in
    follows_then keys groups.keys (object_taken row keys object) first
    (follows_then groups.keys noted (object_taken row keys object) second (follows_symbols row groups.sections noted object.symbols are second.known))
