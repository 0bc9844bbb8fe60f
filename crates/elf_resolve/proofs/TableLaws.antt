-- Names that are entered in a table of keys, and keys that are used.
use Rattle.std.proofs.Common.{◌≡◌, ℕ, ◌+◌, Bool, true, false, cond, List, [], ◌∷◌, ◌++◌, length, Bor, refl, sym, ap, subst, ◌∙◌, inl, inr, arith}
use Rattle.std.specs.Prelude.{Option, None, Some, bytes_eq}
use Rattle.std.specs.Map.{lookup}
use Rattle.std.proofs.lemmas.Slice.Eq.{bytes_eq-Decides}
use Rattle.elf_model.specs.LinkKeys.{LinkKeys, entered, entered_at, entry_named, entry_named_as, is_further, key_entry, key_index, index_or, key_in, key_used, name_used, new_key, with_entry}
use Rattle.elf_model.specs.LinkObjects.{is_kept, kept, name_noted, signature_kept}
use Rattle.elf_model.specs.declared.link_states.KeyEntry.{KeyEntry}
use Rattle.elf_model.specs.declared.link_states.SymbolUse.{SymbolUse}
use Rattle.elf_resolve.specs.KeyTables.{Entered, FindsKeys, KeptGroup, NotEntered, NotUsed, NotedSection, KeyList, fresh, fresh_or}
use Rattle.elf_resolve.specs.Symbols.{LacksRoomForUse, NotUsedName, UsedName}
use Rattle.elf_resolve.specs.declared.table.KeyFault.{KeyFault}
use Rattle.elf_resolve.proofs.ListLaws.{position_push_new, position_push_other}

-- a name that is known
pub known : (old : KeyList) (name : List ℕ) (index : ℕ) → key_in old.keys.names name ≡ Some index → Entered old old name index
unfolding entered key_index fresh
known old name index found = record {
  keys = subst (λ o. old.keys ≡ entered_at o old.keys name) (sym found) refl;
  index_is = subst (λ o. index ≡ index_or o (length old.keys.names)) (sym found) refl;
  most = refl;
  most_further = refl;
  room = subst (λ o. old.room + length (fresh_or o name) ≡ old.room) (sym found) (omega arith);
}

-- a new name
pub new_name : (old new : KeyList) (name : List ℕ) (index : ℕ) → key_in old.keys.names name ≡ None
    → new.keys ≡ record old.keys { names = old.keys.names ++ name ∷ []; entries = old.keys.entries ++ new_key ∷ [] }
    → index ≡ length old.keys.names → new.most ≡ old.most → new.most_further ≡ old.most_further → new.room + length name ≡ old.room → Entered old new name index
unfolding entered key_index fresh
new_name old new name index absent keys next most most_further room = record {
  keys = subst (λ o. new.keys ≡ entered_at o old.keys name) (sym absent) keys;
  index_is = subst (λ o. index ≡ index_or o (length old.keys.names)) (sym absent) next;
  most = most;
  most_further = most_further;
  room = subst (λ o. new.room + length (fresh_or o name) ≡ old.room) (sym absent) room;
}

-- a test that fails in one order fails in the other
not_back : (xs ys : List ℕ) (back : Bool) → bytes_eq ys xs ≡ back → bytes_eq xs ys ≡ false → back ≡ false
not_back xs ys false is apart = refl
not_back xs ys true is apart = let yes : bytes_eq xs ys ≡ true = (bytes_eq-Decides xs ys).1 (sym ((bytes_eq-Decides ys xs).0 is)) in cc

finds_by : (places others : List (Bor (List ℕ) × ℕ)) (names : List (List ℕ)) (name : List ℕ) (next : ℕ) → FindsKeys places names → key_in names name ≡ None → next ≡ length names
    → ((q : List ℕ) → lookup (λ k. bytes_eq q k.now) others ≡ cond (bytes_eq name q) (Some next) (lookup (λ k. bytes_eq q k.now) places))
    → (q : List ℕ) (same : Bool) → bytes_eq name q ≡ same → lookup (λ k. bytes_eq q k.now) others ≡ key_in (names ++ name ∷ []) q
finds_by places others names name next finds absent is_next updates q true same =
    let is : name ≡ q = (bytes_eq-Decides name q).0 same in
    updates q
    ∙ ap (λ b. cond b (Some next) (lookup (λ k. bytes_eq q k.now) places)) same
    ∙ ap Some is_next
    ∙ sym (position_push_new (bytes_eq q) names name (subst (λ n. key_in names n ≡ None) is absent) ((bytes_eq-Decides q name).1 (sym is)))
finds_by places others names name next finds absent is_next updates q false same =
    updates q
    ∙ ap (λ b. cond b (Some next) (lookup (λ k. bytes_eq q k.now) places)) same
    ∙ finds q
    ∙ sym (position_push_other (bytes_eq q) names name (not_back name q (bytes_eq q name) refl same))

-- a map that has one more name at the next index finds it after the others
pub finds_more : (places others : List (Bor (List ℕ) × ℕ)) (names : List (List ℕ)) (name : List ℕ) (next : ℕ) → FindsKeys places names → key_in names name ≡ None → next ≡ length names
    → ((q : List ℕ) → lookup (λ k. bytes_eq q k.now) others ≡ cond (bytes_eq name q) (Some next) (lookup (λ k. bytes_eq q k.now) places))
    → FindsKeys others (names ++ name ∷ [])
finds_more places others names name next finds absent is_next updates q =
    finds_by places others names name next finds absent is_next updates q (bytes_eq name q) refl

-- a group kept at the key of its signature, and a section noted at that of its name
pub group_kept : (old now new : KeyList) (signature : List ℕ) (is_link_once : Bool) (index : ℕ) (entry after : KeyEntry) (dropped : Bool) → Entered old now signature index
    → entry ≡ entry_named_as now.keys index → after ≡ kept is_link_once entry → new ≡ record now { keys = with_entry now.keys index after } → dropped ≡ is_kept is_link_once entry
    → KeptGroup old new signature is_link_once dropped
unfolding signature_kept
group_kept old now new signature is_link_once index entry after dropped before known kept_is new_is dropped_is = record {
  keys =
      ap (λ (t : KeyList). t.keys) new_is
      ∙ ap (λ a. with_entry now.keys index a) (kept_is ∙ ap (λ e. kept is_link_once e) known)
      ∙ ap (λ k. with_entry k index (kept is_link_once (entry_named_as k index))) before.keys
      ∙ ap (λ i. with_entry (entered old.keys signature) i (kept is_link_once (entry_named_as (entered old.keys signature) i))) before.index_is;
  dropped_is =
      dropped_is
      ∙ ap (λ e. is_kept is_link_once e) known
      ∙ ap (λ k. is_kept is_link_once (entry_named_as k index)) before.keys
      ∙ ap (λ i. is_kept is_link_once (entry_named_as (entered old.keys signature) i)) before.index_is;
  most = ap (λ (t : KeyList). t.most) new_is ∙ before.most;
  most_further = ap (λ (t : KeyList). t.most_further) new_is ∙ before.most_further;
  room = ap (λ (t : KeyList). t.room + length (fresh old.keys signature)) new_is ∙ before.room;
}

pub section_noted : (old now new : KeyList) (name : List ℕ) (index : ℕ) (entry after : KeyEntry) → Entered old now name index
    → entry ≡ entry_named_as now.keys index → after ≡ record entry { is_section = true } → new ≡ record now { keys = with_entry now.keys index after }
    → NotedSection old new name
unfolding name_noted
section_noted old now new name index entry after before known noted_is new_is =
    let noted : KeyEntry → KeyEntry = λ e. record e { is_section = true } in
    record {
      keys =
          ap (λ (t : KeyList). t.keys) new_is
          ∙ ap (λ a. with_entry now.keys index a) (noted_is ∙ ap noted known)
          ∙ ap (λ k. with_entry k index (noted (entry_named_as k index))) before.keys
          ∙ ap (λ i. with_entry (entered old.keys name) i (noted (entry_named_as (entered old.keys name) i))) before.index_is;
      most = ap (λ (t : KeyList). t.most) new_is ∙ before.most;
      most_further = ap (λ (t : KeyList). t.most_further) new_is ∙ before.most_further;
      room = ap (λ (t : KeyList). t.room + length (fresh old.keys name)) new_is ∙ before.room;
    }

-- a name used
pub name_used_by : (old now new : KeyList) (name : List ℕ) (index : ℕ) (symbol : SymbolUse) (row : Option ℕ) → Entered old now name index
    → new ≡ record now { keys = key_used now.keys index symbol row } → UsedName old new name symbol row
unfolding name_used
name_used_by old now new name index symbol row before new_is = record {
  keys =
      ap (λ (t : KeyList). t.keys) new_is
      ∙ ap (λ k. key_used k index symbol row) before.keys
      ∙ ap (λ i. key_used (entered old.keys name) i symbol row) before.index_is;
  most = ap (λ (t : KeyList). t.most) new_is ∙ before.most;
  most_further = ap (λ (t : KeyList). t.most_further) new_is ∙ before.most_further;
  room = ap (λ (t : KeyList). t.room + length (fresh old.keys name)) new_is ∙ before.room;
}

-- a name that can't be entered, and one that was entered and can't be used
pub not_entered_used : (old new : KeyList) (name : List ℕ) (symbol : SymbolUse) (fault : KeyFault) → NotEntered old new name fault → NotUsedName old new name symbol fault
not_entered_used old new name symbol fault not = record {
  limits = record { most = ap (λ (t : KeyList). t.most) not.same; most_further = ap (λ (t : KeyList). t.most_further) not.same };
  full = subst (λ t. LacksRoomForUse t name symbol fault) (sym not.same) (inl (not.absent, not.full));
}

entry_entered : (keys : LinkKeys) (name : List ℕ) (found : Option ℕ) → key_in keys.names name ≡ found
    → key_entry (key_in (entered_at found keys name).names name) (entered_at found keys name) ≡ entry_named_as (entered_at found keys name) (index_or found (length keys.names))
entry_entered keys name None absent =
    ap (λ p. key_entry p (entered_at None keys name)) (position_push_new (bytes_eq name) keys.names name absent ((bytes_eq-Decides name name).1 refl))
entry_entered keys name (Some index) found = ap (λ p. key_entry p keys) found

entry_of_entered : (keys : LinkKeys) (name : List ℕ) → entry_named (entered keys name) name ≡ entry_named_as (entered keys name) (key_index keys name)
unfolding entered key_index entry_named
entry_of_entered keys name = entry_entered keys name (key_in keys.names name) refl

pub entered_not_used : (old now new : KeyList) (name : List ℕ) (index : ℕ) (symbol : SymbolUse) (fault : KeyFault) → Entered old now name index → NotUsed now new index symbol fault → NotUsedName old new name symbol fault
entered_not_used old now new name index symbol fault before not = record {
  limits = record { most = ap (λ (t : KeyList). t.most) not.same ∙ before.most; most_further = ap (λ (t : KeyList). t.most_further) not.same ∙ before.most_further };
  full = subst (λ t. LacksRoomForUse t name symbol fault) (sym not.same) (inr (
    not.fault_is,
    ap (λ e. is_further e symbol)
        (ap (λ k. entry_named k name) before.keys ∙ entry_of_entered old.keys name ∙ ap (λ k. entry_named_as k (key_index old.keys name)) (sym before.keys) ∙ ap (λ i. entry_named_as now.keys i) (sym before.index_is))
        ∙ not.once_more,
    not.full,
  ));
}
