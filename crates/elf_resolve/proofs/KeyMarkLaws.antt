-- The rows that the lines of a key name are marked, and those of all keys.
use Rattle.std.proofs.Common.{◌≡◌, ℕ, ◌+◌, ◌<◌, ◌≤◌, Bool, true, false, ◌&&◌, ◌||◌, List, [], ◌∷◌, ◌++◌, length, drop, get_or, drop-cons, Option, refl, sym, ap, subst, ◌∙◌, arith, add-one}
use Rattle.std.proofs.lemmas.List.{drop_all}
use Rattle.elf_model.specs.LinkInputs.{Linking}
use Rattle.elf_model.specs.LinkLines.{definition_row, is_unresolved, reference_of}
use Rattle.elf_model.specs.declared.formats.Format.TheVariants.{Columns}
use Rattle.elf_model.specs.declared.link_states.KeyEntry.{KeyEntry}
use Rattle.elf_resolve.specs.FoundStates.{is_fault_state}
use Rattle.elf_resolve.specs.KeyFinds.{entry_held, state_found}
use Rattle.elf_resolve.specs.LinkerNames.{output_of}
use Rattle.elf_resolve.specs.ListRooms.{HasListRoom}
use Rattle.elf_resolve.specs.MarkedRows.{AreFaultsMarked, AreMarked, is_row_named, rows_after_key, rows_found_after, rows_of_fault, rows_of_faults, rows_of_key}
use Rattle.elf_resolve.specs.RowTables.{LinkRows}
use Rattle.elf_resolve.specs.Resolved.{linking_of}
use Rattle.elf_resolve.specs.StaticLinks.{AreKeysListed}
use Rattle.elf_resolve.specs.declared.key_states.FoundState.{FoundState}
use Rattle.elf_resolve.specs.declared.resolver.Resolver.{Resolver}
use Rattle.elf_resolve.proofs.KeyShownLaws.{unresolved_is, word_is}
use Rattle.elf_resolve.proofs.ListedLaws.{listed_marked}
use Rattle.elf_resolve.proofs.MarkedRowLaws.{after_named, if_false, if_true, marked_as, marked_none, marked_then}

and_true : (a b : Bool) → a ≡ true → b ≡ true → (a && b) ≡ true
and_true true b first second = second
and_true false b first second = cc

and_first : (a b : Bool) → a ≡ false → (a && b) ≡ false
and_first true b first = cc
and_first false b first = refl

and_second : (a b : Bool) → b ≡ false → (a && b) ≡ false
and_second true b second = second
and_second false b second = refl

module _ (link : Resolver) (key : ℕ) (entry : KeyEntry) (state : FoundState) (listed : AreKeysListed link) (held : entry ≡ entry_held link key) (found : state ≡ state_found link key entry) where
  key_rows : rows_of_key (output_of link.output) (linking_of link) key ≡ definition_row entry.state entry.row ∷ reference_of entry ∷ rows_found_after (linking_of link) key state
  key_rows =
      let made = linking_of link in
      let was = entry_held link key in
      ap (λ (word : List ℕ). definition_row was.state was.row ∷ reference_of was ∷ rows_after_key made key word) (word_is Columns link key entry state listed held found)
      ∙ ap (λ (l : List (Option ℕ)). definition_row was.state was.row ∷ reference_of was ∷ l) (after_named made key state)
      ∙ ap (λ (e : KeyEntry). definition_row e.state e.row ∷ reference_of e ∷ rows_found_after made key state) (sym held)

  fault_is : is_unresolved (output_of link.output) (linking_of link) key ≡ (entry.is_own && is_fault_state state)
  fault_is = unresolved_is Columns link key entry state listed held found

  fault_rows : entry.is_own ≡ true → is_fault_state state ≡ true → rows_of_fault (output_of link.output) (linking_of link) key ≡ definition_row entry.state entry.row ∷ reference_of entry ∷ rows_found_after (linking_of link) key state
  fault_rows own fault =
      if_true (is_unresolved (output_of link.output) (linking_of link) key) (rows_of_key (output_of link.output) (linking_of link) key) [] (fault_is ∙ and_true entry.is_own (is_fault_state state) own fault) ∙ key_rows

  no_rows : (entry.is_own && is_fault_state state) ≡ false → rows_of_fault (output_of link.output) (linking_of link) key ≡ []
  no_rows isnt = if_false (is_unresolved (output_of link.output) (linking_of link) key) (rows_of_key (output_of link.output) (linking_of link) key) [] (fault_is ∙ isnt)

  pub unmarked_foreign : entry.is_own ≡ false → AreMarked link.link.rows (rows_of_fault (output_of link.output) (linking_of link) key) link.problems.items link.problems.items
  unmarked_foreign isnt =
      marked_as link.link.rows [] (rows_of_fault (output_of link.output) (linking_of link) key) link.problems.items link.problems.items (sym (no_rows (and_first entry.is_own (is_fault_state state) isnt)))
      (marked_none link.link.rows link.problems.items)

  pub unmarked_right : is_fault_state state ≡ false → AreMarked link.link.rows (rows_of_fault (output_of link.output) (linking_of link) key) link.problems.items link.problems.items
  unmarked_right isnt =
      marked_as link.link.rows [] (rows_of_fault (output_of link.output) (linking_of link) key) link.problems.items link.problems.items (sym (no_rows (and_second entry.is_own (is_fault_state state) isnt)))
      (marked_none link.link.rows link.problems.items)

  pub key_marked : (r1 r2 new : Resolver) (definer referrer : Option ℕ) → definer ≡ definition_row entry.state entry.row → referrer ≡ reference_of entry → entry.is_own ≡ true → is_fault_state state ≡ true
      → r1 ≡ record link { problems = r1.problems } → r2 ≡ record r1 { problems = r2.problems }
      → AreMarked link.link.rows (definer ∷ []) link.problems.items r1.problems.items → AreMarked r1.link.rows (referrer ∷ []) r1.problems.items r2.problems.items
      → (AreKeysListed r2 → AreMarked r2.link.rows (rows_found_after (linking_of r2) key state) r2.problems.items new.problems.items)
      → AreMarked link.link.rows (rows_of_fault (output_of link.output) (linking_of link) key) link.problems.items new.problems.items
  key_marked r1 r2 new definer referrer definer_is referrer_is own fault first second one two after =
      let rows = link.link.rows in
      let rows1 : r1.link.rows ≡ rows = ap (λ (r : Resolver). r.link.rows) first in
      let rows2 : r2.link.rows ≡ rows = ap (λ (r : Resolver). r.link.rows) second ∙ rows1 in
      let made : linking_of r2 ≡ linking_of link = ap (λ (r : Resolver). linking_of r) second ∙ ap (λ (r : Resolver). linking_of r) first in
      let rest = after (listed_marked r1 r2 r1.output second (listed_marked link r1 link.output first listed)) in
      let three = subst (λ (l : Linking). AreMarked rows (rows_found_after l key state) r2.problems.items new.problems.items) made (subst (λ (l : LinkRows). AreMarked l (rows_found_after (linking_of r2) key state) r2.problems.items new.problems.items) rows2 rest) in
      let both = subst (λ (l : LinkRows). AreMarked l (referrer ∷ []) r1.problems.items r2.problems.items) rows1 two in
      marked_as rows (definer ∷ referrer ∷ rows_found_after (linking_of link) key state) (rows_of_fault (output_of link.output) (linking_of link) key) link.problems.items new.problems.items
      (ap (λ (d : Option ℕ). d ∷ referrer ∷ rows_found_after (linking_of link) key state) definer_is ∙ ap (λ (r : Option ℕ). definition_row entry.state entry.row ∷ r ∷ rows_found_after (linking_of link) key state) referrer_is ∙ sym (fault_rows own fault))
      (marked_then rows (definer ∷ []) (referrer ∷ rows_found_after (linking_of link) key state) link.problems.items r1.problems.items new.problems.items one
      (marked_then rows (referrer ∷ []) (rows_found_after (linking_of link) key state) r1.problems.items r2.problems.items new.problems.items both three))

-- ALL KEYS, up to one
pub record AreKeysMarked (start now : Resolver) (at : ℕ) : Type 0 where
  pub done : List (Option ℕ)
  pub split : rows_of_faults (output_of start.output) (linking_of start) start.link.keys.keys.order ≡ done ++ rows_of_faults (output_of start.output) (linking_of start) (drop at start.link.keys.keys.order)
  pub marks : AreMarked start.link.rows done start.problems.items now.problems.items

pub keys_begun : (start : Resolver) → AreKeysMarked start start 0
keys_begun start = record { done = []; split = refl; marks = marked_none start.link.rows start.problems.items }

append_again : (xs ys zs : List (Option ℕ)) → xs ++ (ys ++ zs) ≡ (xs ++ ys) ++ zs
append_again [] ys zs = refl
append_again (x ∷ xs) ys zs = ap (λ l. x ∷ l) (append_again xs ys zs)

append_none : (xs : List (Option ℕ)) → xs ++ [] ≡ xs
append_none [] = refl
append_none (x ∷ xs) = ap (λ l. x ∷ l) (append_none xs)

pub keys_next : (start now new : Resolver) (at d key : ℕ) → now ≡ record start { problems = now.problems } → AreKeysListed start → at < length start.link.keys.keys.order → key ≡ get_or start.link.keys.keys.order at d → AreKeysMarked start now at
    → (AreKeysListed now → AreMarked now.link.rows (rows_of_fault (output_of now.output) (linking_of now) key) now.problems.items new.problems.items) → AreKeysMarked start new (at + 1)
keys_next start now new at d key same listed there key_is before marks =
    let rows = start.link.rows in
    let order = start.link.keys.keys.order in
    let output = output_of start.output in
    let made = linking_of start in
    let one = marks (listed_marked start now start.output same listed) in
    let here = subst (λ (r : Resolver). AreMarked r.link.rows (rows_of_fault (output_of r.output) (linking_of r) key) now.problems.items new.problems.items) same one in
    let next : drop at order ≡ get_or order at d ∷ drop (at + 1) order = drop-cons order at d there ∙ ap (λ n. get_or order at d ∷ drop n order) (sym (add-one at)) in
    record {
      done = before.done ++ rows_of_fault output made key;
      split = before.split ∙ ap (λ (l : List ℕ). before.done ++ rows_of_faults output made l) next
          ∙ ap (λ (k : ℕ). before.done ++ (rows_of_fault output made k ++ rows_of_faults output made (drop (at + 1) order))) (sym key_is)
          ∙ append_again before.done (rows_of_fault output made key) (rows_of_faults output made (drop (at + 1) order));
      marks = marked_then rows before.done (rows_of_fault output made key) start.problems.items now.problems.items new.problems.items before.marks here;
    }

pub keys_ended : (start now : Resolver) (at : ℕ) → length start.link.keys.keys.order ≤ at → AreKeysMarked start now at
    → AreMarked start.link.rows (rows_of_faults (output_of start.output) (linking_of start) start.link.keys.keys.order) start.problems.items now.problems.items
keys_ended start now at past before =
    let rows = start.link.rows in
    let order = start.link.keys.keys.order in
    marked_as rows before.done (rows_of_faults (output_of start.output) (linking_of start) order) start.problems.items now.problems.items
    (sym (before.split ∙ ap (λ (l : List ℕ). before.done ++ rows_of_faults (output_of start.output) (linking_of start) l) (drop_all at order past) ∙ append_none before.done)) before.marks

-- THE FAULTS of a link in which no row was marked
pub faults_marked : (old start new : Resolver) → start.link.rows ≡ old.link.rows → start.problems ≡ old.problems → HasListRoom old → AreKeysListed start → new ≡ record start { problems = new.problems }
    → (AreKeysListed start → AreMarked start.link.rows (rows_of_faults (output_of start.output) (linking_of start) start.link.keys.keys.order) start.problems.items new.problems.items) → AreFaultsMarked new
faults_marked old start new rows problems room listed same marks = λ index below.
    let marked = marks listed in
    let enough : start.link.rows.most ≤ length start.problems.items = omega (arith, room.marks, ap (λ (t : LinkRows). t.most) rows, ap (λ v. length v.items) problems) in
    let there : index < length start.link.rows.rows = omega (arith, below, ap (λ (r : Resolver). length r.link.rows.rows) same) in
    let none : get_or start.problems.items index false ≡ false = ap (λ v. get_or v.items index false) problems ∙ room.problems index in
    marked.marks enough index there
    ∙ ap (λ (b : Bool). b || is_row_named start.link.rows.rows (rows_of_faults (output_of start.output) (linking_of start) start.link.keys.keys.order) index) none
    ∙ sym (ap (λ (r : Resolver). is_row_named r.link.rows.rows (rows_of_faults (output_of r.output) (linking_of r) r.link.keys.keys.order) index) same)

pub faults_ended : (old new : Resolver) → new ≡ record old { end = new.end } → AreFaultsMarked old → AreFaultsMarked new
faults_ended old new same marked = subst (λ (r : Resolver). AreFaultsMarked r) (sym same) marked
