-- The lists by keys of entries and further definitions, one more at a time.
use Rattle.std.proofs.Common.{◌≡◌, ◌≢◌, ℕ, zero, suc, ◌+◌, ◌<◌, ◌≤◌, Bool, true, false, List, [], ◌∷◌, length, get_or, drop, drop-cons, refl, sym, ap, subst, ◌∙◌, arith, add-one}
use Rattle.std.specs.Prelude.{◌==◌, if◌then◌else◌}
use Rattle.std.proofs.lemmas.Bool.{eqb-true, eqb-false, eq-eqb, ne_eqb}
use Rattle.elf_model.specs.declared.link_states.FurtherDefinition.{FurtherDefinition}
use Rattle.elf_model.specs.declared.link_states.IndexEntry.{IndexEntry}
use Rattle.elf_resolve.specs.KeyChains.{AddsNumber, AscendWithin, ChainTable, HasLists, IsListFrom, LIST_END, first_number, list_with, number_or_end}
use Rattle.elf_resolve.specs.KeyLists.{AreKeyedEntries, AreKeyedFurther, HasNumberRoom, ListsEntry, entry_numbers, further_places, with_place}
use Rattle.elf_resolve.proofs.ChainLaws.{ascends_below}

-- the same lists, by another function
pub lists_by : (chains : ChainTable) (from : ℕ) (list other : ℕ → List ℕ) → ((key : ℕ) → list key ≡ other key) → HasLists chains from list → HasLists chains from other
lists_by chains from list other same has = record {
  follow = λ key. subst (λ (numbers : List ℕ). IsListFrom chains (first_number chains key) numbers) (same key) (has.follow key);
  ascend = λ key. subst (λ (numbers : List ℕ). AscendWithin from chains.numbers numbers) (same key) (has.ascend key);
}

pub lists_below : (chains : ChainTable) (from less : ℕ) (list : ℕ → List ℕ) → less ≤ from → HasLists chains from list → HasLists chains less list
lists_below chains from less list below has = record { follow = has.follow; ascend = λ key. ascends_below from less chains.numbers (list key) below (has.ascend key) }

pub no_lists : (chains : ChainTable) (from : ℕ) → chains.heads ≡ [] → HasLists chains from (λ key. [])
no_lists chains from empty = record { follow = λ key. ap (λ (heads : List ℕ). number_or_end (get_or heads key LIST_END)) empty; ascend = λ key. tt }

turned : (a b : ℕ) → (a == b) ≡ (b == a)
turned a b = by (a == b) refl
  where
    by : (is : Bool) → (a == b) ≡ is → (a == b) ≡ (b == a)
    by true is = is ∙ sym (eq-eqb b a (sym (eqb-true a b is)))
    by false is = is ∙ sym (ne_eqb b a (λ same. eqb-false a b is (sym same)))

-- the list of a key that is another one is as it was
other_key : (e : IndexEntry) (k place : ℕ) (numbers : List ℕ) → (k == e.key) ≡ false → (if k == e.default_key then (place + place + 1) ∷ numbers else numbers) ≡ with_place e k place numbers
other_key e k place numbers apart =
    let isnt : (e.key == k) ≡ false = ne_eqb e.key k (λ same. eqb-false k e.key apart (sym same)) in
    ap (λ (b : Bool). if b then (place + place + 1) ∷ numbers else numbers) (turned k e.default_key)
    ∙ sym (ap (λ (b : Bool). if b then (place + place) ∷ numbers else (if e.default_key == k then (place + place + 1) ∷ numbers else numbers)) isnt)

-- AN ENTRY of two keys, or of one
pub two_listed : (old mid new : ChainTable) (e : IndexEntry) (place m n : ℕ) → (place + place < LIST_END → m ≡ place + place + 1) → (place + place < LIST_END → n ≡ place + place) → e.default_key ≢ e.key
    → AddsNumber old mid e.default_key m → AddsNumber mid new e.key n → ListsEntry old new e place
two_listed old mid new e place m n m_is n_is apart first second = record {
  keys = second.keys ∙ first.keys;
  numbers = second.numbers ∙ first.numbers;
  lists = λ list key_fits default_fits fits ends has.
      let first_at = subst (λ (number : ℕ). AddsNumber old mid e.default_key number) (m_is (omega (arith, fits, ends))) first in
      let second_at = subst (λ (number : ℕ). AddsNumber mid new e.key number) (n_is (omega (arith, fits, ends))) second in
      let one = first_at.lists list default_fits (omega (arith, fits)) ends (lists_below old (place + place + 2) (place + place + 1 + 1) list (omega arith) has) in
      let two = second_at.lists (list_with list e.default_key (place + place + 1)) (omega (arith, key_fits, first.keys)) (omega (arith, fits, first.numbers)) (omega (arith, ends, first.numbers)) one in
      lists_by new (place + place) (list_with (list_with list e.default_key (place + place + 1)) e.key (place + place)) (λ key. with_place e key place (list key)) (λ k. by list k (k == e.key) refl) two;
}
  where
    by : (list : ℕ → List ℕ) (k : ℕ) (is : Bool) → (k == e.key) ≡ is → list_with (list_with list e.default_key (place + place + 1)) e.key (place + place) k ≡ with_place e k place (list k)
    by list k true is =
        let at : k ≡ e.key = eqb-true k e.key is in
        let here : (e.key == k) ≡ true = eq-eqb e.key k (sym at) in
        let isnt : (k == e.default_key) ≡ false = ne_eqb k e.default_key (λ same. apart (sym same ∙ at)) in
        ap (λ (b : Bool). if b then (place + place) ∷ list_with list e.default_key (place + place + 1) k else list_with list e.default_key (place + place + 1) k) is
        ∙ ap (λ (b : Bool). (place + place) ∷ (if b then (place + place + 1) ∷ list k else list k)) isnt
        ∙ sym (ap (λ (b : Bool). if b then (place + place) ∷ list k else (if e.default_key == k then (place + place + 1) ∷ list k else list k)) here)
    by list k false is =
        ap (λ (b : Bool). if b then (place + place) ∷ list_with list e.default_key (place + place + 1) k else list_with list e.default_key (place + place + 1) k) is
        ∙ other_key e k place (list k) is

pub one_listed : (old new : ChainTable) (e : IndexEntry) (place n : ℕ) → (place + place < LIST_END → n ≡ place + place) → e.default_key ≡ e.key → AddsNumber old new e.key n → ListsEntry old new e place
one_listed old new e place n n_is same added = record {
  keys = added.keys;
  numbers = added.numbers;
  lists = λ list key_fits default_fits fits ends has.
      let added_at = subst (λ (number : ℕ). AddsNumber old new e.key number) (n_is (omega (arith, fits, ends))) added in
      let one = added_at.lists list key_fits (omega (arith, fits)) ends (lists_below old (place + place + 2) (place + place + 1) list (omega arith) has) in
      lists_by new (place + place) (list_with list e.key (place + place)) (λ key. with_place e key place (list key)) (λ k. by list k (k == e.key) refl) one;
}
  where
    by : (list : ℕ → List ℕ) (k : ℕ) (is : Bool) → (k == e.key) ≡ is → list_with list e.key (place + place) k ≡ with_place e k place (list k)
    by list k true is =
        let here : (e.key == k) ≡ true = eq-eqb e.key k (sym (eqb-true k e.key is)) in
        ap (λ (b : Bool). if b then (place + place) ∷ list k else list k) is
        ∙ sym (ap (λ (b : Bool). if b then (place + place) ∷ list k else (if e.default_key == k then (place + place + 1) ∷ list k else list k)) here)
    by list k false is =
        let isnt : (k == e.default_key) ≡ false = ap (λ (d : ℕ). k == d) same ∙ is in
        ap (λ (b : Bool). if b then (place + place) ∷ list k else list k) is
        ∙ sym (ap (λ (b : Bool). if b then (place + place + 1) ∷ list k else list k) isnt)
        ∙ other_key e k place (list k) is

-- THE ENTRIES from a place on are listed
pub record AreListedFrom (first chains : ChainTable) (place : ℕ) (entries : List IndexEntry) : Type 0 where
  pub keys : chains.keys ≡ first.keys
  pub numbers : chains.numbers ≡ first.numbers
  pub lists : AreKeyedEntries first.keys entries → HasNumberRoom first (length entries + length entries) → HasLists chains (place + place) (λ key. entry_numbers key place (drop place entries))

drop_past : {A : Type 0} (n : ℕ) (xs : List A) → length xs ≤ n → drop n xs ≡ []
drop_past zero [] past = refl
drop_past (suc n) [] past = refl
drop_past zero (x ∷ xs) past = absurd (omega (arith, past))
drop_past (suc n) (x ∷ xs) past = drop_past n xs (omega (arith, past))

pub none_listed : (first : ChainTable) (entries : List IndexEntry) (place : ℕ) → place ≡ length entries → AreListedFrom first first place entries
none_listed first entries place all = record {
  keys = refl;
  numbers = refl;
  lists = λ keys room. lists_by first (place + place) (λ key. []) (λ key. entry_numbers key place (drop place entries))
      (λ key. sym (ap (entry_numbers key place) (drop_past place entries (omega (arith, all))))) (no_lists first (place + place) room.empty);
}

pub entries_within : (keys : ℕ) (entries : List IndexEntry) (place : ℕ) (d : IndexEntry) → place < length entries → AreKeyedEntries keys entries → ((get_or entries place d).key + 1 ≤ keys) × ((get_or entries place d).default_key + 1 ≤ keys)
entries_within keys [] place d there within = absurd (omega (arith, there))
entries_within keys (e ∷ entries) zero d there within = (within.0, within.1)
entries_within keys (e ∷ entries) (suc place) d there within = entries_within keys entries place d (omega (arith, there)) within.2

pub entry_more : (first mid chains : ChainTable) (entries : List IndexEntry) (at place : ℕ) (d : IndexEntry) → at ≡ place + 1 → place < length entries
    → AreListedFrom first mid at entries → ListsEntry mid chains (get_or entries place d) place → AreListedFrom first chains place entries
entry_more first mid chains entries at place d next there before lists = record {
  keys = lists.keys ∙ before.keys;
  numbers = lists.numbers ∙ before.numbers;
  lists = λ keys room.
      let e = get_or entries place d in
      let within = entries_within first.keys entries place d there keys in
      let fits = room.fits in
      let ends = room.ends in
      let has = lists_below mid (at + at) (place + place + 2) (λ key. entry_numbers key at (drop at entries)) (omega (arith, next)) (before.lists keys room) in
      lists_by chains (place + place) (λ key. with_place e key place (entry_numbers key at (drop at entries))) (λ key. entry_numbers key place (drop place entries))
      (λ key.
      ap (λ (n : ℕ). with_place e key place (entry_numbers key n (drop n entries))) next
      ∙ ap (λ (n : ℕ). with_place e key place (entry_numbers key (place + 1) (drop n entries))) (add-one place)
      ∙ ap (entry_numbers key place) (sym (drop-cons entries place d there)))
      (lists.lists (λ key. entry_numbers key at (drop at entries)) (omega (arith, within.0, before.keys)) (omega (arith, within.1, before.keys))
      (omega (arith, fits, there, before.numbers)) (omega (arith, ends, before.numbers)) has);
}

pub all_listed : (first chains : ChainTable) (entries : List IndexEntry) (place : ℕ) → place ≡ 0 → AreListedFrom first chains place entries
    → AreKeyedEntries first.keys entries → HasNumberRoom first (length entries + length entries) → HasLists chains 0 (λ key. entry_numbers key 0 entries)
all_listed first chains entries place none listed keys room = subst (λ (n : ℕ). HasLists chains (n + n) (λ key. entry_numbers key n (drop n entries))) none (listed.lists keys room)

-- THE FURTHER DEFINITIONS from a place on are listed
pub record AreFurtherListed (first chains : ChainTable) (place : ℕ) (further : List FurtherDefinition) : Type 0 where
  pub keys : chains.keys ≡ first.keys
  pub numbers : chains.numbers ≡ first.numbers
  pub lists : AreKeyedFurther first.keys further → HasNumberRoom first (length further) → HasLists chains place (λ key. further_places key place (drop place further))

pub none_further : (first : ChainTable) (further : List FurtherDefinition) (place : ℕ) → place ≡ length further → AreFurtherListed first first place further
none_further first further place all = record {
  keys = refl;
  numbers = refl;
  lists = λ keys room. lists_by first place (λ key. []) (λ key. further_places key place (drop place further))
      (λ key. sym (ap (further_places key place) (drop_past place further (omega (arith, all))))) (no_lists first place room.empty);
}

further_within : (keys : ℕ) (further : List FurtherDefinition) (place : ℕ) (d : FurtherDefinition) → place < length further → AreKeyedFurther keys further → (get_or further place d).key + 1 ≤ keys
further_within keys [] place d there within = absurd (omega (arith, there))
further_within keys (f ∷ further) zero d there within = within.0
further_within keys (f ∷ further) (suc place) d there within = further_within keys further place d (omega (arith, there)) within.1

pub further_more : (first mid chains : ChainTable) (further : List FurtherDefinition) (at place : ℕ) (d : FurtherDefinition) → at ≡ place + 1 → place < length further
    → AreFurtherListed first mid at further → AddsNumber mid chains (get_or further place d).key place → AreFurtherListed first chains place further
further_more first mid chains further at place d next there before adds = record {
  keys = adds.keys ∙ before.keys;
  numbers = adds.numbers ∙ before.numbers;
  lists = λ keys room.
      let f = get_or further place d in
      let within = further_within first.keys further place d there keys in
      let fits = room.fits in
      let ends = room.ends in
      let list : ℕ → List ℕ = λ key. further_places key at (drop at further) in
      let has = lists_below mid at (place + 1) list (omega (arith, next)) (before.lists keys room) in
      lists_by chains place (list_with list f.key place) (λ key. further_places key place (drop place further))
      (λ key.
      ap (λ (b : Bool). if b then place ∷ list key else list key) (turned key f.key)
      ∙ ap (λ (n : ℕ). if f.key == key then place ∷ further_places key n (drop n further) else further_places key n (drop n further)) next
      ∙ ap (λ (n : ℕ). if f.key == key then place ∷ further_places key (place + 1) (drop n further) else further_places key (place + 1) (drop n further)) (add-one place)
      ∙ ap (further_places key place) (sym (drop-cons further place d there)))
      (adds.lists list (omega (arith, within, before.keys)) (omega (arith, fits, there, before.numbers)) (omega (arith, ends, before.numbers)) has);
}

pub all_further : (first chains : ChainTable) (further : List FurtherDefinition) (place : ℕ) → place ≡ 0 → AreFurtherListed first chains place further
    → AreKeyedFurther first.keys further → HasNumberRoom first (length further) → HasLists chains 0 (λ key. further_places key 0 further)
all_further first chains further place none listed keys room = subst (λ (n : ℕ). HasLists chains n (λ key. further_places key n (drop n further))) none (listed.lists keys room)
