-- The entries of an index so far, one after the other.
use Rattle.std.proofs.Common.{◌≡◌, ℕ, zero, suc, ◌+◌, ◌*◌, ◌<◌, ◌≤◌, List, [], ◌∷◌, ◌++◌, length, drop, take, None, Some, Result, Ok, Err, refl, sym, ap, subst, ◌∙◌, inl, inr, arith, append_assoc}
use Rattle.std.proofs.lemmas.List.{append-nil, drop-drop}
use Rattle.elf_model.specs.LinkArchives.{LinkMember, big, index_symbols, link_member_at, refusal_of, symbol_of_index, symbols_after}
use Rattle.elf_model.specs.LinkInputs.{EnteredIndex, IndexSymbol, index_entered, symbol_entered}
use Rattle.elf_model.specs.LinkKeys.{LinkKeys}
use Rattle.elf_model.specs.Names.{nul_in}
use Rattle.elf_model.specs.declared.link_states.LinkCause.TheVariants as cause
use Rattle.elf_model.specs.declared.link_states.IndexEntry.{IndexEntry}
use Rattle.elf_model.specs.declared.link_states.LinkRefusal.{LinkRefusal}
use Rattle.elf_resolve.specs.ArchiveIndexes.{EnteredEntry, EnteredIndexBy, EnteredName, NumbersMember, entry_of_symbol, keys_with_symbol}
use Rattle.elf_resolve.specs.KeyTables.{KeyList}
use Rattle.elf_resolve.specs.Taken.{IsLinkFault}
use Rattle.elf_resolve.specs.declared.link_faults.LinkFault.{LinkFault}
use Rattle.elf_resolve.specs.declared.link_faults.LinkFault.TheVariants.{Refused}
use Rattle.elf_resolve.proofs.LinkFaultLaws.{fault_of_any}
use Rattle.elf_resolve.proofs.IndexLaws.{all_after, entered_more, entry_astray, entry_cut, entry_found, no_entry, none_before, one_more_before}

-- the bytes of the names from an index on
abbrev pub names_from : (bytes : List ℕ) → (width count name : ℕ) → List ℕ
names_from bytes width count name = drop name (drop (width * (count + 1)) bytes)

abbrev pub entered_of : KeyList → List IndexSymbol → EnteredIndex
entered_of old done = index_entered (record { keys = old.keys; entries = [] }) done

-- entries that were entered, and those from an index on
pub record EnteredSoFar (members : List LinkMember) (bytes : List ℕ) (start width count index name : ℕ) (old now : KeyList) (before after : List IndexEntry) : Type 0 where
  pub done : List IndexSymbol
  pub left : ℕ
  pub left_is : index + left ≡ count
  pub are : index_symbols members bytes start width 0 count (names_from bytes width count 0) ≡ all_after done (index_symbols members bytes start width index left (names_from bytes width count name))
  pub keys : now.keys ≡ (entered_of old done).keys
  pub entries : after ≡ before ++ (entered_of old done).entries
  pub most : now.most ≡ old.most
  pub most_further : now.most_further ≡ old.most_further

pub enters_begin : (members : List LinkMember) (bytes : List ℕ) (start width count : ℕ) (old : KeyList) (before : List IndexEntry) → EnteredSoFar members bytes start width count 0 0 old old before before
enters_begin members bytes start width count old before = record {
  done = [];
  left = count;
  left_is = omega arith;
  are = sym (none_before (index_symbols members bytes start width 0 count (names_from bytes width count 0)));
  keys = refl;
  entries = sym (append-nil before);
  most = refl;
  most_further = refl;
}

symbol_is : (before : EnteredIndex) (s : IndexSymbol) → symbol_entered before s ≡ record { keys = keys_with_symbol before.keys s; entries = before.entries ++ entry_of_symbol before.keys s ∷ [] }
unfolding symbol_entered
symbol_is before s = refl

next_names : (bytes : List ℕ) (from name end next : ℕ) → next ≡ name + end + 1 → drop (end + 1) (drop name (drop from bytes)) ≡ drop next (drop from bytes)
next_names bytes from name end next is =
    let sum : name + (end + 1) ≡ next = omega (arith, is) in
    drop-drop (end + 1) name (drop from bytes) ∙ ap (λ n. drop n (drop from bytes)) sum

pub enters_more : (members : List LinkMember) (bytes : List ℕ) (start width count index name next : ℕ) (old now new : KeyList) (before after final : List IndexEntry) → index < count
    → EnteredSoFar members bytes start width count index name old now before after
    → EnteredEntry members (names_from bytes width count name) (big bytes (width * (index + 1)) width) now new after final name next
    → EnteredSoFar members bytes start width count (index + 1) next old new before final
enters_more members bytes start width count index name next old now new before after final below p e = by_left p.left refl
  where
    by_left : (left : ℕ) → p.left ≡ left → EnteredSoFar members bytes start width count (index + 1) next old new before final
    by_left zero is = absurd (omega (arith, is, p.left_is, below))
    by_left (suc left) is =
        let s = symbol_of_index (take e.end (names_from bytes width count name)) e.member in
        let found = entry_found members bytes start width index left e.end e.member (names_from bytes width count name) e.ends e.found in
        let rest = index_symbols members bytes start width (index + 1) left (names_from bytes width count next) in
        let moved = ap (λ n. symbols_after s (index_symbols members bytes start width (index + 1) left n)) (next_names bytes (width * (count + 1)) name e.end next e.next_is) in
        let entered = entered_more (record { keys = old.keys; entries = [] }) p.done s ∙ symbol_is (entered_of old p.done) s in
        record {
          done = p.done ++ s ∷ [];
          left = left;
          left_is = omega (arith, is, p.left_is);
          are = p.are ∙ ap (λ n. all_after p.done (index_symbols members bytes start width index n (names_from bytes width count name))) is ∙ ap (λ r. all_after p.done r) (found ∙ moved) ∙ one_more_before p.done s rest;
          keys = e.keys ∙ ap (λ (k : LinkKeys). keys_with_symbol k s) p.keys ∙ sym (ap (λ (all : EnteredIndex). all.keys) entered);
          entries = e.entries ∙ ap (λ l. l ++ entry_of_symbol now.keys s ∷ []) p.entries ∙ append_assoc before (entered_of old p.done).entries (entry_of_symbol now.keys s ∷ [])
              ∙ ap (λ (k : LinkKeys). before ++ ((entered_of old p.done).entries ++ entry_of_symbol k s ∷ [])) p.keys ∙ sym (ap (λ (all : EnteredIndex). before ++ all.entries) entered);
          most = e.most ∙ p.most;
          most_further = e.most_further ∙ p.most_further;
        }

pub enters_end : (members : List LinkMember) (bytes : List ℕ) (start width count index name : ℕ) (old now : KeyList) (before after : List IndexEntry) → count ≤ index
    → EnteredSoFar members bytes start width count index name old now before after
    → EnteredIndexBy (index_symbols members bytes start width 0 count (names_from bytes width count 0)) old now before after
enters_end members bytes start width count index name old now before after past p =
    let none : p.left ≡ zero = omega (arith, past, p.left_is) in
    record {
      symbols = p.done;
      are = p.are ∙ ap (λ n. all_after p.done (index_symbols members bytes start width index n (names_from bytes width count name))) none
          ∙ ap (λ r. all_after p.done r) (no_entry members bytes start width index (names_from bytes width count name)) ∙ ap (λ l. Ok l) (append-nil p.done);
      keys = p.keys;
      entries = p.entries;
      most = p.most;
      most_further = p.most_further;
    }

refused_after : (done : List IndexSymbol) (rest : Result (List IndexSymbol) LinkRefusal) → refusal_of (all_after done rest) ≡ refusal_of rest
refused_after done (Ok rest) = refl
refused_after done (Err refusal) = refl

-- a fault of an entry is one of the index
pub enters_stop : (members : List LinkMember) (bytes : List ℕ) (start width count index name : ℕ) (old now : KeyList) (before after : List IndexEntry) (f : LinkFault) → index < count
    → EnteredSoFar members bytes start width count index name old now before after
    → ((left : ℕ) → IsLinkFault (refusal_of (index_symbols members bytes start width index (suc left) (names_from bytes width count name))) f)
    → IsLinkFault (refusal_of (index_symbols members bytes start width 0 count (names_from bytes width count 0))) f
enters_stop members bytes start width count index name old now before after f below p says = by_left p.left refl
  where
    by_left : (left : ℕ) → p.left ≡ left → IsLinkFault (refusal_of (index_symbols members bytes start width 0 count (names_from bytes width count 0))) f
    by_left zero is = absurd (omega (arith, is, p.left_is, below))
    by_left (suc left) is =
        let same = ap refusal_of (p.are ∙ ap (λ n. all_after p.done (index_symbols members bytes start width index n (names_from bytes width count name))) is)
        ∙ refused_after p.done (index_symbols members bytes start width index (suc left) (names_from bytes width count name)) in
        subst (λ r. IsLinkFault r f) (sym same) (says left)

-- A FAULT of an entry
pub cut_entry : (members : List LinkMember) (bytes : List ℕ) (start width index left : ℕ) (names : List ℕ) (f : LinkFault) → nul_in names ≡ None → f ≡ Refused (record { at = 8; cause = cause.IndexCut })
    → IsLinkFault (refusal_of (index_symbols members bytes start width index (suc left) names)) f
cut_entry members bytes start width index left names f none is = rw is (inr (ap refusal_of (entry_cut members bytes start width index left names none)))

astray_entry : (members : List LinkMember) (bytes : List ℕ) (start width index left end at : ℕ) (names : List ℕ) → nul_in names ≡ Some end → link_member_at members (big bytes (width * (index + 1)) width) ≡ None
    → at ≡ start + width * (index + 1) → IsLinkFault (refusal_of (index_symbols members bytes start width index (suc left) names)) (Refused (record { at = at; cause = cause.IndexMember }))
astray_entry members bytes start width index left end at names ends none is =
    rw is (inr (ap refusal_of (entry_astray members bytes start width index left end names ends none)))

pub astray : (members : List LinkMember) (bytes : List ℕ) (start width index left end offset at : ℕ) (names : List ℕ) (f : LinkFault) → nul_in names ≡ Some end → offset ≡ big bytes (width * (index + 1)) width
    → at ≡ start + width * (index + 1) → NumbersMember members offset at (Err f) → IsLinkFault (refusal_of (index_symbols members bytes start width index (suc left) names)) f
astray members bytes start width index left end offset at names f ends is place (inl limit) = fault_of_any (refusal_of (index_symbols members bytes start width index (suc left) names)) f limit
astray members bytes start width index left end offset at names f ends is place (inr none) =
    rw none.1 (astray_entry members bytes start width index left end at names ends (ap (λ n. link_member_at members n) (sym is) ∙ none.0) place)

pub one_entered : (members : List LinkMember) (names : List ℕ) (offset : ℕ) (old new : KeyList) (before after : List IndexEntry) (from next end member : ℕ) (entry : IndexEntry) → nul_in names ≡ Some end → next ≡ from + end + 1
    → link_member_at members offset ≡ Some member → EnteredName (symbol_of_index (take end names) member) old new entry → after ≡ before ++ entry ∷ [] → EnteredEntry members names offset old new before after from next
one_entered members names offset old new before after from next end member entry ends next_is found e added = record {
  end = end;
  member = member;
  ends = ends;
  next_is = next_is;
  found = found;
  entries = added ∙ ap (λ (i : IndexEntry). before ++ i ∷ []) e.entry_is;
  keys = e.keys;
  most = e.most;
  most_further = e.most_further;
}

-- the bytes of a buffer after an entry
pub forgotten : (first old new last : List ℕ) (used : ℕ) → old ≡ first → used ≡ length first → take (length old) new ≡ old → last ≡ take used new → last ≡ first
forgotten first old new last used same is kept forgets = forgets ∙ ap (λ n. take n new) (is ∙ ap length (sym same)) ∙ kept ∙ same
