use Rattle.std.proofs.Common.{rules, ◌≡◌, ◌++◌, ◌∷◌, [], List, ℕ, length, length-append, map, arith, refl, sym, ap, subst, ◌∙◌}
use Rattle.std.specs.Prelude.{None}
use Rattle.std.proofs.lemmas.List.{length-map, map-append}
use Rattle.elf_model.specs.LinkKeys.{LinkKeys, key_in, new_key}
use Rattle.elf_model.specs.declared.link_states.KeyEntry.{KeyEntry}
use Rattle.elf_resolve.specs.KeyTables.{FindsKeys, KeyList}
use Rattle.elf_resolve.proofs.ListLaws.{count_by_push}
use Rattle.elf_resolve.proofs.TableLaws.{finds_more, known, new_name}
use Rattle.elf_resolve.proofs.table.KeyTable.enter.Goals as goal

pub returns-in-Some : goal.returns-in-Some
returns-in-Some c = known c.args.self.now c.args.name.now c.in-Some.index (search rules)

-- the name is not in the table
absent : (c : goal.After-unwrap-3) → key_in c.args.self.now.keys.names c.args.name.now ≡ None
absent c = search rules

-- the names then are those before and the one that was kept
names_then : (c : goal.After-unwrap-3) → map (λ n. n.now) c.push.new.self.items ≡ map (λ n. n.now) c.self.inside.names.items ++ c.in_ok-kept.kept.now ∷ []
names_then c =
    let items : c.push.new.self.items ≡ c.self.inside.names.items ++ c.in_ok-kept.kept ∷ [] = search rules in
    ap (λ l. map (λ n. n.now) l) items ∙ map-append (λ n. n.now) c.self.inside.names.items (c.in_ok-kept.kept ∷ [])

-- the index is the next one
next_is : (c : goal.After-unwrap-3) → c.len-index.result ≡ length (map (λ n. n.now) c.self.inside.names.items)
next_is c =
    let next : c.len-index.result ≡ length c.self.inside.names.items = search rules in
    next ∙ sym (length-map c.self.inside.names.items (λ n. n.now))

pub invariant_of-self : goal.invariant_of-self
invariant_of-self c =
    let held = c.self.invariant in
    let names = c.self.inside.names.items in
    let entries = c.self.inside.entries.items in
    let items : c.push.new.self.items ≡ names ++ c.in_ok-kept.kept ∷ [] = search rules in
    let states : c.push-2.new.self.items ≡ entries ++ new_key ∷ [] = search rules in
    let more = ap length items ∙ length-append names (c.in_ok-kept.kept ∷ []) in
    let more_states = ap length states ∙ length-append entries (new_key ∷ []) in
    let missing : key_in (map (λ n. n.now) names) c.in_ok-kept.kept.now ≡ None =
    rw (c.in_ok-kept.ensures) (subst (λ (t : KeyList). key_in t.keys.names c.args.name.now ≡ None) (sym c.self.view_is) (absent c)) in
    let updates = rw c.unwrap.ensures at c.insert-inserted.ensures.updates in
    record {
      finds = subst (λ ns. FindsKeys c.insert-inserted.new.self.entries ns) (sym (names_then c))
          (finds_more _ _ _ _ c.len-index.result held.finds missing (next_is c) (λ q. updates.0 (record c.in_ok-kept.kept { now = q })));
      paired = omega (arith, more, more_states, held.paired);
      within = omega (arith, more);
      names_fit = omega (arith);
      entries_fit = omega (arith);
      order_fits = held.order_fits;
      places_fit = omega (arith, more);
      indexed = held.indexed;
      met = rw states (held.met ∙ sym (count_by_push (λ (e : KeyEntry). e.is_met) entries new_key refl));
      asks = rw states (held.asks ∙ sym (count_by_push (λ (e : KeyEntry). e.is_asked) entries new_key refl));
      further_within = held.further_within;
      further_fit = held.further_fit;
    }

-- the keys then
abbrev keys_with : LinkKeys → List (List ℕ) → List KeyEntry → LinkKeys
keys_with keys names entries = record keys { names = names; entries = entries }

pub returns : goal.returns
returns c =
    let was = c.self.view_is in
    let states : c.push-2.new.self.items ≡ c.self.inside.entries.items ++ new_key ∷ [] = search rules in
    let names = names_then c ∙ ap (λ n. map (λ n. n.now) c.self.inside.names.items ++ n ∷ []) c.in_ok-kept.ensures in
    new_name _ _ _ _ (absent c)
    (ap (λ ns. keys_with (record { names = []; entries = []; order = c.self.inside.order.items; asked = c.self.inside.asked; further = c.self.inside.further.items }) ns c.push-2.new.self.items) names
    ∙ ap (λ es. keys_with (record { names = []; entries = []; order = c.self.inside.order.items; asked = c.self.inside.asked; further = c.self.inside.further.items }) (map (λ n. n.now) c.self.inside.names.items ++ c.args.name.now ∷ []) es) states
    ∙ ap (λ (t : KeyList). record t.keys { names = t.keys.names ++ c.args.name.now ∷ []; entries = t.keys.entries ++ new_key ∷ [] }) was)
    (next_is c ∙ ap (λ (t : KeyList). length t.keys.names) was)
    (ap (λ (t : KeyList). t.most) was)
    (ap (λ (t : KeyList). t.most_further) was)
    (omega arith ∙ ap (λ (t : KeyList). t.room) was)
