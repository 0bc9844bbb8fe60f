-- The lines of a key, and of the keys in their order.
use Rattle.std.proofs.Common.{◌≡◌, ℕ, zero, suc, ◌+◌, ◌<◌, ◌≤◌, Bool, true, false, ◌&&◌, ◌||◌, List, [], ◌∷◌, ◌++◌, length, map, drop, get_or, drop-cons, Option, Result, Ok, Err, refl, sym, ap, subst, ◌∙◌, arith, append_assoc, add-one}
use Rattle.std.specs.Prelude.{codes, if◌then◌else◌, not}
use Rattle.std.specs.List.{concat, list_any}
use Rattle.elf_model.specs.LinkInputs.{Linking}
use Rattle.elf_model.specs.LinkKeys.{entry_named_as}
use Rattle.elf_model.specs.LinkLines.{LinkOutput, definition_row, is_any, is_unresolved, key_front, key_lines, lines_after, offer_lines, reference_of, word_of_key}
use Rattle.elf_model.specs.Lines.{named_line}
use Rattle.elf_model.specs.Names.DisplayedName.{Whole}
use Rattle.elf_model.specs.declared.formats.Format.{Format}
use Rattle.elf_model.specs.declared.link_states.KeyEntry.{KeyEntry}
use Rattle.elf_source.specs.Output.{IsOutFault, OutState, SinkTakes, SinkTakesPrefix}
use Rattle.elf_source.specs.declared.faults.OutFault.{OutFault}
use Rattle.elf_source.proofs.PutsLaws.{SinkTakes-nothing, SinkTakes-then, SinkTakesPrefix-then, SinkTakesPrefix-more}
use Rattle.elf_resolve.specs.EntryRows.{AreConsecutive}
use Rattle.elf_resolve.specs.FoundStates.{found_word, has_offer_lines, is_fault_state, is_multiple_state}
use Rattle.elf_resolve.specs.KeyChains.{IsListFrom, first_number}
use Rattle.elf_resolve.specs.KeyFinds.{entry_held, state_found}
use Rattle.elf_resolve.specs.KeyLines.{line_of_number, line_of_further, lines_found}
use Rattle.elf_resolve.specs.KeyLists.{entry_numbers, further_places}
use Rattle.elf_resolve.specs.LinkTexts.{WritesText}
use Rattle.elf_resolve.specs.LinkerNames.{output_of}
use Rattle.elf_resolve.specs.Resolved.{linking_of}
use Rattle.elf_resolve.specs.ShownLinks.{is_shown_key, key_if_shown, shown_keys}
use Rattle.elf_resolve.specs.StaticLinks.{AreKeysListed}
use Rattle.elf_resolve.specs.declared.key_states.FoundState.{FoundState}
use Rattle.elf_resolve.specs.declared.resolver.Resolver.{Resolver}
use Rattle.elf_resolve.proofs.KeyFindLaws.{after_found, fault_found, word_found}
use Rattle.elf_resolve.proofs.KeyLineLaws.{further_shown, list_fits, offers_shown}

-- ONE TEXT after another
pub writes_then : {X : Type 0} {a b : OutState} (c : OutState) (xs ys : List ℕ) (result : Result X OutFault) → SinkTakes a b xs → WritesText b c result ys → WritesText a c result (xs ++ ys)
writes_then c xs ys (Ok x) first next = SinkTakes-then xs ys first next
writes_then c xs ys (Err fault) first next = (SinkTakesPrefix-then xs ys first next.0, next.1)

pub writes_first : {a b : OutState} (xs ys : List ℕ) (fault : OutFault) → SinkTakesPrefix a b xs × IsOutFault b fault → SinkTakesPrefix a b (xs ++ ys) × IsOutFault b fault
writes_first xs ys fault puts = (SinkTakesPrefix-more xs ys puts.0, puts.1)

pub writes_as : {X : Type 0} (a b : OutState) (result : Result X OutFault) (xs ys : List ℕ) → xs ≡ ys → WritesText a b result xs → WritesText a b result ys
writes_as {X} a b result xs ys same writes = subst (λ (text : List ℕ). WritesText a b result text) same writes

-- what writes nothing more
pub writes_still : {X : Type 0} {a b c : OutState} (x : X) (result : Result X OutFault) (text : List ℕ) → SinkTakes a b text → c ≡ b → result ≡ Ok x → WritesText a c result text
writes_still {X} {a} {b} {c} x result text takes still ended = subst (λ (r : Result X OutFault). WritesText a c r text) (sym ended) (subst (λ (o : OutState). SinkTakes a o text) (sym still) takes)

-- THE LINES AFTER that of a key
choose : {A : Type 0} (b other : Bool) (x y z : A) → (b ≡ true → (if b then x else (if other then y else z)) ≡ x) × (b ≡ false → other ≡ true → (if b then x else (if other then y else z)) ≡ y)
choose true other x y z = (λ is. refl, λ is there. cc)
choose false true x y z = (λ is. cc, λ is there. refl)
choose false false x y z = (λ is. cc, λ is there. cc)

module _ (format : Format) (link : Resolver) (name : List ℕ) (key : ℕ) (state : FoundState) (listed : AreKeysListed link) {X : Type 0} (a b : OutState) (result : Result X OutFault) where
  pub after_multiple : is_multiple_state state ≡ true
      → ((places : List ℕ) → IsListFrom link.further (first_number link.further key) places → length places ≤ link.further.numbers
      → WritesText a b result (concat (map (line_of_further format link.link.keys.keys.further name) places)))
      → WritesText a b result (concat (lines_found format (linking_of link) name key state))
  after_multiple is writes =
      let further = link.link.keys.keys.further in
      writes_as a b result (concat (map (line_of_further format further name) (further_places key 0 further))) (concat (lines_found format (linking_of link) name key state))
      (ap concat (further_shown format name key further ∙ sym ((choose (is_multiple_state state) (has_offer_lines state) _ (offer_lines format name key (linking_of link).archives) []).0 is)))
      (writes (further_places key 0 further) (listed.further.follow key) (list_fits link.further (λ k. further_places k 0 further) key listed.further))

  pub after_offers : is_multiple_state state ≡ false → has_offer_lines state ≡ true
      → ((from count : ℕ) (numbers : List ℕ) → AreConsecutive from link.tables.archives.items count → IsListFrom link.offers (first_number link.offers key) numbers → length numbers ≤ link.offers.numbers
      → WritesText a b result (concat (map (line_of_number format link.tables.archives.items link.tables.entries.items name) numbers)))
      → WritesText a b result (concat (lines_found format (linking_of link) name key state))
  after_offers isnt has writes =
      let entries = link.tables.entries.items in
      let archives = link.tables.archives.items in
      writes_as a b result (concat (map (line_of_number format archives entries name) (entry_numbers key 0 entries))) (concat (lines_found format (linking_of link) name key state))
      (ap concat (offers_shown format name key archives entries link.taken.items listed.archives ∙ sym ((choose (is_multiple_state state) (has_offer_lines state) _ (offer_lines format name key (linking_of link).archives) []).1 isnt has)))
      (writes 0 (length entries) (entry_numbers key 0 entries) listed.archives (listed.offers.follow key) (list_fits link.offers (λ k. entry_numbers k 0 entries) key listed.offers))

-- THE LINES of a key
module _ (format : Format) (link : Resolver) (key : ℕ) (entry : KeyEntry) (state : FoundState) (listed : AreKeysListed link) (held : entry ≡ entry_held link key) (found : state ≡ state_found link key entry) where
  pub word_is : word_of_key (output_of link.output) (linking_of link) key ≡ found_word state
  word_is = sym (ap found_word found ∙ word_found link key entry listed held)

  pub key_lines_are : key_lines format (output_of link.output) (linking_of link) key
      ≡ named_line (key_front format (found_word state) (definition_row entry.state entry.row) (reference_of entry)) (Whole (get_or link.link.keys.keys.names key [])) ∷ lines_found format (linking_of link) (get_or link.link.keys.keys.names key []) key state
  unfolding key_lines
  key_lines_are =
      let name = get_or link.link.keys.keys.names key [] in
      let made = linking_of link in
      let was = entry_held link key in
      ap (λ (word : List ℕ). named_line (key_front format word (definition_row was.state was.row) (reference_of was)) (Whole name) ∷ lines_after format made name key word) word_is
      ∙ ap (λ (e : KeyEntry). named_line (key_front format (found_word state) (definition_row e.state e.row) (reference_of e)) (Whole name) ∷ lines_after format made name key (found_word state)) (sym held)
      ∙ ap (λ (lines : List (List ℕ)). named_line (key_front format (found_word state) (definition_row entry.state entry.row) (reference_of entry)) (Whole name) ∷ lines) (after_found format made name key state)

  -- by what the code has of it
  pub key_text : (word : List ℕ) (definer referrer : Option ℕ) (name : List ℕ) → word ≡ found_word state → definer ≡ definition_row entry.state entry.row → referrer ≡ reference_of entry → name ≡ get_or link.link.keys.keys.names key []
      → named_line (key_front format word definer referrer) (Whole name) ++ concat (lines_found format (linking_of link) name key state) ≡ concat (key_lines format (output_of link.output) (linking_of link) key)
  key_text word definer referrer name word_same definer_same referrer_same name_same =
      ap (λ (w : List ℕ). named_line (key_front format w definer referrer) (Whole name) ++ concat (lines_found format (linking_of link) name key state)) word_same
      ∙ ap (λ (d : Option ℕ). named_line (key_front format (found_word state) d referrer) (Whole name) ++ concat (lines_found format (linking_of link) name key state)) definer_same
      ∙ ap (λ (r : Option ℕ). named_line (key_front format (found_word state) (definition_row entry.state entry.row) r) (Whole name) ++ concat (lines_found format (linking_of link) name key state)) referrer_same
      ∙ ap (λ (n : List ℕ). named_line (key_front format (found_word state) (definition_row entry.state entry.row) (reference_of entry)) (Whole n) ++ concat (lines_found format (linking_of link) n key state)) name_same
      ∙ sym (ap concat key_lines_are)

  pub unresolved_is : is_unresolved (output_of link.output) (linking_of link) key ≡ (entry.is_own && is_fault_state state)
  unresolved_is =
      ap (λ (word : List ℕ). (entry_held link key).is_own && is_any (codes "undef" ∷ codes "order" ∷ codes "multiple" ∷ []) word) word_is
      ∙ ap (λ (b : Bool). (entry_held link key).is_own && b) (fault_found state)
      ∙ ap (λ (e : KeyEntry). e.is_own && is_fault_state state) (sym held)

  pub shown_is : (problems : Bool) → is_shown_key problems (output_of link.output) (linking_of link) key ≡ (entry.is_own && (not problems || is_fault_state state))
  shown_is true = unresolved_is
  shown_is false = ap (λ (e : KeyEntry). e.is_own) (sym held) ∙ and_true entry.is_own
    where
      and_true : (b : Bool) → b ≡ (b && true)
      and_true true = refl
      and_true false = refl

  -- it is left out if only faults are written and it is none
  out_by : (problems own fault : Bool) → (problems && not fault) ≡ true → ((own && (not problems || fault)) ≡ false) × (false ≡ (own && fault))
  out_by true true true out = cc
  out_by true true false out = (refl, refl)
  out_by true false fault out = (refl, refl)
  out_by false own fault out = cc

  in_by : (problems own fault : Bool) → own ≡ true → (problems && not fault) ≡ false → ((own && (not problems || fault)) ≡ true) × (fault ≡ (own && fault))
  in_by true true true is out = (refl, refl)
  in_by true true false is out = cc
  in_by false true true is out = (refl, refl)
  in_by false true false is out = (refl, refl)
  in_by problems false fault is out = cc

  pub left_out : (problems fails : Bool) → fails ≡ is_fault_state state → (problems && not fails) ≡ true
      → (is_shown_key problems (output_of link.output) (linking_of link) key ≡ false) × (false ≡ is_unresolved (output_of link.output) (linking_of link) key)
  left_out problems fails is out =
      let by = out_by problems entry.is_own (is_fault_state state) (ap (λ (b : Bool). problems && not b) (sym is) ∙ out) in
      (shown_is problems ∙ by.0, by.1 ∙ sym unresolved_is)

  pub put_in : (problems fails : Bool) → entry.is_own ≡ true → fails ≡ is_fault_state state → (problems && not fails) ≡ false
      → (is_shown_key problems (output_of link.output) (linking_of link) key ≡ true) × (fails ≡ is_unresolved (output_of link.output) (linking_of link) key)
  put_in problems fails own is out =
      let by = in_by problems entry.is_own (is_fault_state state) own (ap (λ (b : Bool). problems && not b) (sym is) ∙ out) in
      (shown_is problems ∙ by.0, is ∙ by.1 ∙ sym unresolved_is)

pub not_own : (format : Format) (output : LinkOutput) (made : Linking) (key : ℕ) (problems : Bool) → (entry_named_as made.keys key).is_own ≡ false → is_shown_key problems output made key ≡ false
not_own format output made key true isnt = ap (λ (b : Bool). b && is_any (codes "undef" ∷ codes "order" ∷ codes "multiple" ∷ []) (word_of_key output made key)) isnt
not_own format output made key false isnt = isnt

module _ (problems : Bool) (format : Format) (output : LinkOutput) (made : Linking) (key : ℕ) where
  pub key_hidden : (a : OutState) → is_shown_key problems output made key ≡ false → SinkTakes a a (concat (key_if_shown problems format output made key))
  key_hidden a isnt = subst (λ (text : List ℕ). SinkTakes a a text) (sym (ap (λ (b : Bool). concat (if b then key_lines format output made key else [])) isnt)) (SinkTakes-nothing a)

  pub key_seen : is_shown_key problems output made key ≡ true → key_lines format output made key ≡ key_if_shown problems format output made key
  key_seen is = sym (ap (λ (b : Bool). if b then key_lines format output made key else []) is)

-- THE KEYS IN THEIR ORDER
concat_append : (xs ys : List (List ℕ)) → concat (xs ++ ys) ≡ concat xs ++ concat ys
concat_append [] ys = refl
concat_append (x ∷ xs) ys = ap (λ (t : List ℕ). x ++ t) (concat_append xs ys) ∙ sym (append_assoc x (concat xs) (concat ys))

append_nil : {A : Type 0} (xs : List A) → xs ++ [] ≡ xs
append_nil [] = refl
append_nil (x ∷ xs) = ap (λ ys. x ∷ ys) (append_nil xs)

drop_past : {A : Type 0} (n : ℕ) (xs : List A) → length xs ≤ n → drop n xs ≡ []
drop_past zero [] past = refl
drop_past (suc n) [] past = refl
drop_past zero (x ∷ xs) past = absurd (omega (arith, past))
drop_past (suc n) (x ∷ xs) past = drop_past n xs (omega (arith, past))

or_assoc : (a b c : Bool) → ((a || b) || c) ≡ (a || (b || c))
or_assoc true b c = refl
or_assoc false b c = refl

-- those up to one are written, and it is known whether one of them is a fault
pub record AreKeysShown (problems : Bool) (format : Format) (output : LinkOutput) (made : Linking) (order : List ℕ) (at : ℕ) (fails : Bool) (a b : OutState) : Type 0 where
  pub done : List ℕ
  pub split : concat (shown_keys problems format output made order) ≡ done ++ concat (shown_keys problems format output made (drop at order))
  pub takes : SinkTakes a b done
  pub fails_so_far : list_any (is_unresolved output made) order ≡ (fails || list_any (is_unresolved output made) (drop at order))

module _ (problems : Bool) (format : Format) (output : LinkOutput) (made : Linking) (order : List ℕ) where
  pub keys_begun : (a : OutState) → AreKeysShown problems format output made order 0 false a a
  keys_begun a = record { done = []; split = refl; takes = SinkTakes-nothing a; fails_so_far = refl }

  next_split : (at d : ℕ) → at < length order → concat (shown_keys problems format output made (drop at order))
      ≡ concat (key_if_shown problems format output made (get_or order at d)) ++ concat (shown_keys problems format output made (drop (at + 1) order))
  next_split at d there =
      ap (λ (l : List ℕ). concat (shown_keys problems format output made l)) (drop-cons order at d there)
      ∙ concat_append (key_if_shown problems format output made (get_or order at d)) (shown_keys problems format output made (drop (suc at) order))
      ∙ ap (λ (n : ℕ). concat (key_if_shown problems format output made (get_or order at d)) ++ concat (shown_keys problems format output made (drop n order))) (sym (add-one at))

  next_fails : (at d : ℕ) → at < length order → list_any (is_unresolved output made) (drop at order) ≡ (is_unresolved output made (get_or order at d) || list_any (is_unresolved output made) (drop (at + 1) order))
  next_fails at d there =
      ap (list_any (is_unresolved output made)) (drop-cons order at d there)
      ∙ ap (λ (n : ℕ). is_unresolved output made (get_or order at d) || list_any (is_unresolved output made) (drop n order)) (sym (add-one at))

  pub keys_more : (at d : ℕ) (fails more : Bool) (a b c : OutState) → at < length order → AreKeysShown problems format output made order at fails a b
      → SinkTakes b c (concat (key_if_shown problems format output made (get_or order at d))) → more ≡ is_unresolved output made (get_or order at d)
      → AreKeysShown problems format output made order (at + 1) (fails || more) a c
  keys_more at d fails more a b c there before takes is =
      let line = concat (key_if_shown problems format output made (get_or order at d)) in
      let rest = concat (shown_keys problems format output made (drop (at + 1) order)) in
      record {
        done = before.done ++ line;
        split = before.split ∙ ap (λ (t : List ℕ). before.done ++ t) (next_split at d there) ∙ sym (append_assoc before.done line rest);
        takes = SinkTakes-then before.done line before.takes takes;
        fails_so_far = before.fails_so_far ∙ ap (λ (b : Bool). fails || b) (next_fails at d there)
            ∙ ap (λ (b : Bool). fails || (b || list_any (is_unresolved output made) (drop (at + 1) order))) (sym is)
            ∙ sym (or_assoc fails more (list_any (is_unresolved output made) (drop (at + 1) order)));
      }

  pub keys_fail : (at d : ℕ) (fails : Bool) (a b c : OutState) (fault : OutFault) → at < length order → AreKeysShown problems format output made order at fails a b
      → SinkTakesPrefix b c (concat (key_if_shown problems format output made (get_or order at d))) × IsOutFault c fault
      → SinkTakesPrefix a c (concat (shown_keys problems format output made order)) × IsOutFault c fault
  keys_fail at d fails a b c fault there before puts =
      let line = concat (key_if_shown problems format output made (get_or order at d)) in
      let rest = concat (shown_keys problems format output made (drop (at + 1) order)) in (
        subst (λ (text : List ℕ). SinkTakesPrefix a c text) (sym (before.split ∙ ap (λ (t : List ℕ). before.done ++ t) (next_split at d there)))
            (SinkTakesPrefix-then before.done (line ++ rest) before.takes (SinkTakesPrefix-more line rest puts.0)),
        puts.1,
      )

  pub keys_ended : (at : ℕ) (fails : Bool) (a b : OutState) → length order ≤ at → AreKeysShown problems format output made order at fails a b
      → SinkTakes a b (concat (shown_keys problems format output made order)) × (fails ≡ list_any (is_unresolved output made) order)
  keys_ended at fails a b all before =
      let none = drop_past at order all in (
        subst (λ (text : List ℕ). SinkTakes a b text) (sym (before.split ∙ ap (λ (l : List ℕ). before.done ++ concat (shown_keys problems format output made l)) none ∙ append_nil before.done)) before.takes,
        sym (before.fails_so_far ∙ ap (λ (l : List ℕ). fails || list_any (is_unresolved output made) l) none ∙ or_false fails),
      )
    where
      or_false : (b : Bool) → (b || false) ≡ b
      or_false true = refl
      or_false false = refl
