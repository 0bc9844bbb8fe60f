-- What symbols make of the entry of one name among keys.
use Rattle.std.proofs.Common.{◌≡◌, ℕ, zero, suc, ◌<◌, ◌≤◌, Bool, true, false, List, [], ◌∷◌, ◌++◌, length, length-append, get_or, refl, sym, ap, ◌∙◌, arith}
use Rattle.std.specs.Prelude.{Option, None, Some, bytes_eq, ◌&&◌, ◌||◌, if◌then◌else◌}
use Rattle.std.proofs.lemmas.List.{get_or-set_other, get_or-set_same, get_or_past, length-set}
use Rattle.std.proofs.lemmas.List.Quantifiers.{position-Some}
use Rattle.std.proofs.lemmas.Slice.Eq.{bytes_eq-Decides}
use Rattle.elf_model.specs.LinkKeys.{LinkKeys, LinkSymbol, key_change, key_changed, default_used, entered, entered_at, key_entry, entry_named, first_row, key_index, index_or, is_shared, key_in, key_used, name_used, new_key, prepared, references_by, removed, symbol_taken, symbols_taken, used}
use Rattle.elf_model.specs.LinkSteps.{ends_at, key_state_after, state_change}
use Rattle.elf_model.specs.declared.link_states.KeyEntry.{KeyEntry}
use Rattle.elf_model.specs.declared.link_states.StateChange.{StateChange}
use Rattle.elf_model.specs.declared.link_states.StateChange.TheVariants.{Stays, Multiple, Enlarged, BecomesState}
use Rattle.elf_model.specs.declared.link_states.SymbolRole.{SymbolRole}
use Rattle.elf_model.specs.declared.link_states.SymbolRole.TheVariants.{WeakReference, Reference, Common, WeakDefinition, Definition}
use Rattle.elf_model.specs.declared.link_states.SymbolRole.TheVariants as role
use Rattle.elf_model.specs.declared.link_states.SymbolUse.{SymbolUse}
use Rattle.elf_resolve.specs.KeyStates.{ArePlain, IsOwn, IsPlainState, after, after_all, roles_of}
use Rattle.elf_resolve.proofs.ListLaws.{position_push, position_push_new, position_push_other}

-- a new entry after others is what the lack of one is
pub push_default : {X : Type 0} (xs : List X) (d : X) (i : ℕ) → get_or (xs ++ d ∷ []) i d ≡ get_or xs i d
push_default [] d zero = refl
push_default [] d (suc i) = refl
push_default (x ∷ xs) d zero = refl
push_default (x ∷ xs) d (suc i) = push_default xs d i

-- of two entries that are gone alike, either is gone like the first
pub either_gone : (which : Bool) (a b : KeyEntry) → b.is_gone ≡ a.is_gone → (if which then a else b).is_gone ≡ a.is_gone
either_gone true a b same = refl
either_gone false a b same = same

-- the entries of all names are those of before if a name is entered
entered_by : (keys : LinkKeys) (name q : List ℕ) → length keys.entries ≤ length keys.names → (place : Option ℕ) → key_in keys.names name ≡ place
    → (found : Option ℕ) → key_in keys.names q ≡ found → (same : Bool) → bytes_eq q name ≡ same → entry_named (entered_at place keys name) q ≡ entry_named keys q
unfolding entry_named
entered_by keys name q paired (Some i) is found there same is_same_entry = refl
entered_by keys name q paired None is (Some j) there same is_same_entry =
    ap (λ o. key_entry o (entered_at None keys name)) (position_push (bytes_eq q) keys.names name j there)
    ∙ push_default keys.entries new_key j
    ∙ sym (ap (λ o. key_entry o keys) there)
entered_by keys name q paired None is None there true is_same_entry =
    ap (λ o. key_entry o (entered_at None keys name)) (position_push_new (bytes_eq q) keys.names name there is_same_entry)
    ∙ push_default keys.entries new_key (length keys.names)
    ∙ get_or_past keys.entries (length keys.names) new_key paired
    ∙ sym (ap (λ o. key_entry o keys) there)
entered_by keys name q paired None is None there false is_same_entry =
    ap (λ o. key_entry o (entered_at None keys name)) (position_push_other (bytes_eq q) keys.names name is_same_entry ∙ there)
    ∙ sym (ap (λ o. key_entry o keys) there)

pub entered_entry : (keys : LinkKeys) (name q : List ℕ) → length keys.entries ≤ length keys.names → entry_named (entered keys name) q ≡ entry_named keys q
unfolding entered
entered_entry keys name q paired = entered_by keys name q paired (key_in keys.names name) refl (key_in keys.names q) refl (bytes_eq q name) refl

-- a name that is entered has its index
placed_by : (keys : LinkKeys) (name : List ℕ) (place : Option ℕ) → key_in keys.names name ≡ place → key_in (entered_at place keys name).names name ≡ Some (index_or place (length keys.names))
placed_by keys name (Some i) is = is
placed_by keys name None is = position_push_new (bytes_eq name) keys.names name is ((bytes_eq-Decides name name).1 refl)

placed : (keys : LinkKeys) (name : List ℕ) → key_in (entered keys name).names name ≡ Some (key_index keys name)
unfolding entered key_index
placed keys name = placed_by keys name (key_in keys.names name) refl

-- two names of one index are one
same_place : (names : List (List ℕ)) (a b : List ℕ) (i : ℕ) → key_in names a ≡ Some i → key_in names b ≡ Some i → a ≡ b
same_place names a b i first second =
    (bytes_eq-Decides a (get_or names i [])).0 (position-Some (bytes_eq a) names i [] first).1
    ∙ sym ((bytes_eq-Decides b (get_or names i [])).0 (position-Some (bytes_eq b) names i [] second).1)

apart : (b : Bool) → b ≡ false → b ≡ true → ⊥
apart b first second = cc

-- one key used
used_by : (keys : LinkKeys) (name q : List ℕ) (i : ℕ) (symbol : SymbolUse) (row : Option ℕ) → i < length keys.entries → key_in keys.names name ≡ Some i
    → (found : Option ℕ) → key_in keys.names q ≡ found → (same : Bool) → bytes_eq q name ≡ same
    → entry_named (key_used keys i symbol row) q ≡ (if same then used (entry_named keys q) symbol row else entry_named keys q)
unfolding entry_named key_used
used_by keys name q i symbol row within is found there true is_same_entry =
    let one : q ≡ name = (bytes_eq-Decides q name).0 is_same_entry in
    let place : key_in keys.names q ≡ Some i = ap (λ n. key_in keys.names n) one ∙ is in
    ap (λ o. key_entry o (key_used keys i symbol row)) place
    ∙ get_or-set_same keys.entries i (used (get_or keys.entries i new_key) symbol row) new_key within
    ∙ sym (ap (λ o. used (key_entry o keys) symbol row) place)
used_by keys name q i symbol row within is None there false is_same_entry =
    ap (λ o. key_entry o (key_used keys i symbol row)) there
    ∙ sym (ap (λ o. key_entry o keys) there)
used_by keys name q i symbol row within is (Some j) there false is_same_entry =
    ap (λ o. key_entry o (key_used keys i symbol row)) there
    ∙ get_or-set_other keys.entries i j (used (get_or keys.entries i new_key) symbol row) new_key
    (λ at_one. apart (bytes_eq q name) is_same_entry ((bytes_eq-Decides q name).1 (same_place keys.names q name i (there ∙ ap Some at_one) is)))
    ∙ sym (ap (λ o. key_entry o keys) there)

-- there is an entry for each name, after a symbol too
entered_paired : (keys : LinkKeys) (name : List ℕ) (place : Option ℕ) → length keys.entries ≡ length keys.names → length (entered_at place keys name).entries ≡ length (entered_at place keys name).names
entered_paired keys name (Some i) paired = paired
entered_paired keys name None paired = omega (arith, length-append keys.entries (new_key ∷ []), length-append keys.names (name ∷ []))

pub entries_entered : (keys : LinkKeys) (name : List ℕ) → length keys.entries ≡ length keys.names → length (entered keys name).entries ≡ length (entered keys name).names
unfolding entered
entries_entered keys name paired = entered_paired keys name (key_in keys.names name) paired

pub name_paired : (row : Option ℕ) (keys : LinkKeys) (name : List ℕ) (symbol : SymbolUse) → length keys.entries ≡ length keys.names
    → length (name_used row keys name symbol).entries ≡ length (name_used row keys name symbol).names
unfolding name_used key_used
name_paired row keys name symbol paired = length-set (entered keys name).entries (key_index keys name) _ ∙ entries_entered keys name paired

-- THE ENTRY OF A NAME after a name is used: its own is, and the others are what they were
pub name_entry : (row : Option ℕ) (keys : LinkKeys) (name q : List ℕ) (symbol : SymbolUse) → length keys.entries ≡ length keys.names
    → entry_named (name_used row keys name symbol) q ≡ (if bytes_eq q name then used (entry_named keys q) symbol row else entry_named keys q)
unfolding name_used
name_entry row keys name q symbol paired =
    let there = placed keys name in
    let within : key_index keys name < length (entered keys name).entries =
    rw (entries_entered keys name paired) ((position-Some (bytes_eq name) (entered keys name).names (key_index keys name) [] there).0) in
    used_by (entered keys name) name q (key_index keys name) symbol row within there (key_in (entered keys name).names q) refl (bytes_eq q name) refl
    ∙ ap (λ e. if bytes_eq q name then used e symbol row else e) (entered_entry keys name q (omega (arith, paired)))

-- the state of an entry that is used by an own symbol of default visibility
pub prepared_plain : (entry : KeyEntry) (restricted : Bool) → restricted ≡ false → (let before : KeyEntry = if restricted then record entry { state = removed entry.is_asked entry.state; is_restricted = true } else entry in before ≡ entry)
prepared_plain entry true is = cc
prepared_plain entry false is = refl

pub changed_state : (entry : KeyEntry) (symbol : SymbolUse) (row : Option ℕ) (change : StateChange) → (key_changed entry symbol row change).state ≡ key_state_after entry.state change
changed_state entry symbol row Stays = refl
changed_state entry symbol row Multiple = refl
changed_state entry symbol row (Enlarged size) = refl
changed_state entry symbol row (BecomesState made) = refl

either_state : (which : Bool) (a b : KeyEntry) → b.state ≡ a.state → (if which then a else b).state ≡ a.state
either_state true a b same = refl
either_state false a b same = same

pub references_state : (symbol : SymbolUse) (r : SymbolRole) (row : Option ℕ) (entry : KeyEntry) → (references_by symbol r row entry).state ≡ entry.state
references_state symbol Reference row entry = either_state (symbol.dropped || symbol.of_library) entry (record entry { reference = first_row entry.reference row }) refl
references_state symbol WeakReference row entry = either_state (symbol.dropped || symbol.of_library) entry (record entry { weak_reference = first_row entry.weak_reference row }) refl
references_state symbol r row entry = refl

not_shared : (r : SymbolRole) → IsOwn r → is_shared r ≡ false
not_shared (role.Shared y) own = absurd own
not_shared r own = refl

unless_both : (a b : Bool) (x : StateChange) → b ≡ false → (if a && b then Stays else x) ≡ x
unless_both true true x is = cc
unless_both true false x is = refl
unless_both false b x is = refl

pub change_own : (entry : KeyEntry) (symbol : SymbolUse) → IsOwn symbol.role → key_change entry symbol ≡ state_change entry.state symbol.role
change_own entry symbol own = unless_both entry.is_restricted (is_shared symbol.role) (state_change entry.state symbol.role) (not_shared symbol.role own)

pub used_state : (entry : KeyEntry) (symbol : SymbolUse) (row : Option ℕ) → symbol.restricted ≡ false → IsOwn symbol.role → (used entry symbol row).state ≡ after entry.state symbol.role
unfolding used
used_state entry symbol row unrestricted own =
    let before = prepared entry symbol in
    references_state symbol symbol.role row (key_changed before symbol row (key_change before symbol))
    ∙ changed_state before symbol row (key_change before symbol)
    ∙ ap (λ c. key_state_after before.state c) (change_own before symbol own)
    ∙ ap (λ (e : KeyEntry). after e.state symbol.role) (prepared_plain entry symbol.restricted unrestricted)

-- a symbol of one name
one_name : (row : Option ℕ) (keys : LinkKeys) (s : LinkSymbol) → s.default_name ≡ None → symbol_taken row keys s ≡ name_used row keys s.name s.symbol
unfolding symbol_taken
one_name row keys s one = ap (λ d. default_used row (name_used row keys s.name s.symbol) d s.symbol (ends_at (prepared (entry_named keys s.name) s.symbol).state s.symbol.role)) one

-- THE STATE OF A NAME after the symbols of a file is what the symbols of that name make of it
state_by : (row : Option ℕ) (entry : KeyEntry) (s : LinkSymbol) (roles : List SymbolRole) (same : Bool) → IsPlainState s
    → after_all (if same then used entry s.symbol row else entry).state roles ≡ after_all entry.state (if same then s.symbol.role ∷ roles else roles)
state_by row entry s roles true plain = ap (λ t. after_all t roles) (used_state entry s.symbol row plain.unrestricted plain.own)
state_by row entry s roles false plain = refl

pub symbols_state : (row : Option ℕ) (keys : LinkKeys) (symbols : List LinkSymbol) (q : List ℕ) → ArePlain symbols → length keys.entries ≡ length keys.names
    → (entry_named (symbols_taken row keys symbols) q).state ≡ after_all (entry_named keys q).state (roles_of q symbols)
symbols_state row keys [] q plain paired = refl
symbols_state row keys (s ∷ symbols) q plain paired =
    ap (λ k. (entry_named (symbols_taken row k symbols) q).state) (one_name row keys s plain.0.one_name)
    ∙ symbols_state row (name_used row keys s.name s.symbol) symbols q plain.1 (name_paired row keys s.name s.symbol paired)
    ∙ ap (λ (e : KeyEntry). after_all e.state (roles_of q symbols)) (name_entry row keys s.name q s.symbol paired)
    ∙ state_by row (entry_named keys q) s (roles_of q symbols) (bytes_eq q s.name) plain.0
