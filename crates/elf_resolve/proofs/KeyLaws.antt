-- What a symbol keeps of the entry of its key, and the counts of entries.
use Rattle.std.proofs.Common.{◌≡◌, ℕ, ◌+◌, ◌<◌, Bool, true, false, List, [], ◌∷◌, length, length-append, get_or, set, count_by, refl, sym, ◌∙◌, arith}
use Rattle.std.proofs.lemmas.List.Quantifiers.{position-Some}
use Rattle.std.specs.Prelude.{Option, None, Some, bytes_eq, ◌||◌, ◌&&◌, not, if◌then◌else◌}
use Rattle.elf_model.specs.LinkKeys.{LinkKeys, references_after, asks_after, key_change, key_changed, entered, entered_at, first_row, key_index, index_or, key_in, new_key, order_after, prepared, references_by, removed, used}
use Rattle.elf_model.specs.LinkObjects.{kept}
use Rattle.elf_model.specs.declared.link_states.KeyEntry.{KeyEntry}
use Rattle.elf_model.specs.declared.link_states.StateChange.{StateChange}
use Rattle.elf_model.specs.declared.link_states.StateChange.TheVariants.{Stays, Multiple, Enlarged, BecomesState}
use Rattle.elf_model.specs.declared.link_states.SymbolRole.{SymbolRole}
use Rattle.elf_model.specs.declared.link_states.SymbolRole.TheVariants.{WeakReference, Reference}
use Rattle.elf_model.specs.declared.link_states.SymbolUse.{SymbolUse}
use Rattle.elf_resolve.proofs.ListLaws.{count_by_kept, count_by_more}

-- a key that was asked for has been asked for since
prepared_by : (entry : KeyEntry) (restricted : Bool) → (let after : KeyEntry = if restricted then record entry { state = removed entry.is_asked entry.state; is_restricted = true } else entry in after.is_asked ≡ entry.is_asked)
prepared_by entry true = refl
prepared_by entry false = refl

pub prepared_asked : (entry : KeyEntry) (symbol : SymbolUse) → (prepared entry symbol).is_asked ≡ entry.is_asked
prepared_asked entry symbol = prepared_by entry symbol.restricted

or_true : (a b : Bool) → a ≡ true → (a || b) ≡ true
or_true true b is = refl
or_true false b is = cc

changed_asked : (entry : KeyEntry) (symbol : SymbolUse) (row : Option ℕ) (change : StateChange) → entry.is_asked ≡ true → (key_changed entry symbol row change).is_asked ≡ true
changed_asked entry symbol row Stays is = is
changed_asked entry symbol row Multiple is = is
changed_asked entry symbol row (Enlarged size) is = is
changed_asked entry symbol row (BecomesState made) is = or_true entry.is_asked (asks_after entry.state made) is

either_asked : (which : Bool) (a b : KeyEntry) → b.is_asked ≡ a.is_asked → (if which then a else b).is_asked ≡ a.is_asked
either_asked true a b same = refl
either_asked false a b same = same

pub references_asked : (symbol : SymbolUse) (role : SymbolRole) (row : Option ℕ) (entry : KeyEntry) → (references_by symbol role row entry).is_asked ≡ entry.is_asked
references_asked symbol Reference row entry = either_asked (symbol.dropped || symbol.of_library) entry (record entry { reference = first_row entry.reference row }) refl
references_asked symbol WeakReference row entry = either_asked (symbol.dropped || symbol.of_library) entry (record entry { weak_reference = first_row entry.weak_reference row }) refl
references_asked symbol role row entry = refl

pub used_asked : (entry : KeyEntry) (symbol : SymbolUse) (row : Option ℕ) → entry.is_asked ≡ true → (used entry symbol row).is_asked ≡ true
unfolding used
used_asked entry symbol row is =
    let before = prepared entry symbol in
    references_asked symbol symbol.role row (key_changed before symbol row (key_change before symbol))
    ∙ changed_asked before symbol row (key_change before symbol) (prepared_asked entry symbol ∙ is)

pub used_met : (entry : KeyEntry) (symbol : SymbolUse) (row : Option ℕ) → (used entry symbol row).is_met ≡ true
unfolding used
used_met entry symbol row = refl

-- the order has each key that is met once
ordered_by : (entries : List KeyEntry) (order : List ℕ) (i : ℕ) (after : KeyEntry) (is_met : Bool) → i < length entries → (get_or entries i new_key).is_met ≡ is_met
    → after.is_met ≡ true → length order ≡ count_by (λ (e : KeyEntry). e.is_met) entries → length (order_after order i is_met) ≡ count_by (λ (e : KeyEntry). e.is_met) (set entries i after)
ordered_by entries order i after true there before now symbol_counts = symbol_counts ∙ sym (count_by_kept (λ (e : KeyEntry). e.is_met) entries i after new_key there (before ∙ sym now))
ordered_by entries order i after false there before now symbol_counts =
    omega (arith, length-append order (i ∷ []), symbol_counts, count_by_more (λ (e : KeyEntry). e.is_met) entries i after new_key there before now)

pub ordered : (entries : List KeyEntry) (order : List ℕ) (i : ℕ) (after : KeyEntry) → i < length entries → after.is_met ≡ true
    → length order ≡ count_by (λ (e : KeyEntry). e.is_met) entries → length (order_after order i (get_or entries i new_key).is_met) ≡ count_by (λ (e : KeyEntry). e.is_met) (set entries i after)
ordered entries order i after there now symbol_counts = ordered_by entries order i after (get_or entries i new_key).is_met there refl now symbol_counts

-- and as many have been asked for as are counted
asked_by : (entries : List KeyEntry) (asked i : ℕ) (after : KeyEntry) (before now : Bool) → i < length entries → (get_or entries i new_key).is_asked ≡ before → after.is_asked ≡ now
    → (before ≡ true → now ≡ true) → asked ≡ count_by (λ (e : KeyEntry). e.is_asked) entries
    → (if now && not before then asked + 1 else asked) ≡ count_by (λ (e : KeyEntry). e.is_asked) (set entries i after)
asked_by entries asked i after true true there was is kept symbol_counts = symbol_counts ∙ sym (count_by_kept (λ (e : KeyEntry). e.is_asked) entries i after new_key there (was ∙ sym is))
asked_by entries asked i after false false there was is kept symbol_counts = symbol_counts ∙ sym (count_by_kept (λ (e : KeyEntry). e.is_asked) entries i after new_key there (was ∙ sym is))
asked_by entries asked i after true false there was is kept symbol_counts = let lost = kept refl in cc
asked_by entries asked i after false true there was is kept symbol_counts =
    omega (arith, symbol_counts, count_by_more (λ (e : KeyEntry). e.is_asked) entries i after new_key there was is)

pub asked_counted : (entries : List KeyEntry) (asked i : ℕ) (after : KeyEntry) → i < length entries → ((get_or entries i new_key).is_asked ≡ true → after.is_asked ≡ true)
    → asked ≡ count_by (λ (e : KeyEntry). e.is_asked) entries → references_after asked (get_or entries i new_key) after ≡ count_by (λ (e : KeyEntry). e.is_asked) (set entries i after)
asked_counted entries asked i after there kept symbol_counts = asked_by entries asked i after (get_or entries i new_key).is_asked after.is_asked there refl refl kept symbol_counts

-- another entry at an index that is met and asked for as the one before
pub counted_as_before : (p : KeyEntry → Bool) (entries : List KeyEntry) (i count : ℕ) (after : KeyEntry) → i < length entries → p after ≡ p (get_or entries i new_key)
    → count ≡ count_by p entries → count ≡ count_by p (set entries i after)
counted_as_before p entries i count after there same symbol_counts = symbol_counts ∙ sym (count_by_kept p entries i after new_key there (sym same))

-- the index of a name is one of the keys among which it is entered
within_by : (keys : LinkKeys) (name : List ℕ) (place : Option ℕ) → key_in keys.names name ≡ place → index_or place (length keys.names) < length (entered_at place keys name).names
within_by keys name None is = omega (arith, length-append keys.names (name ∷ []))
within_by keys name (Some i) is = (position-Some (bytes_eq name) keys.names i [] is).0

pub index_within : (keys : LinkKeys) (name : List ℕ) → key_index keys name < length (entered keys name).names
unfolding key_index entered
index_within keys name = within_by keys name (key_in keys.names name) refl

-- a group is kept at a key with the counts as before
pub kept_met : (is_link_once : Bool) (entry : KeyEntry) → (kept is_link_once entry).is_met ≡ entry.is_met
kept_met true entry = refl
kept_met false entry = refl

pub kept_asked : (is_link_once : Bool) (entry : KeyEntry) → (kept is_link_once entry).is_asked ≡ entry.is_asked
kept_asked true entry = refl
kept_asked false entry = refl
