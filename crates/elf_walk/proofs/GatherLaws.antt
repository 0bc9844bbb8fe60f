-- The names of a directory, entry by entry.
use Rattle.std.proofs.Common.{◌≡◌, ◌≢◌, ℕ, suc, ◌+◌, ◌-◌, ◌^◌, ◌<◌, ◌≤◌, inl, inr, Bool, true, false, min, All, Option, None, Some, Result, Ok, OnOk, List, [], ◌∷◌, ◌++◌, length, take, drop, get_or, refl, ap, sym, ◌∙◌, arith, subst, append_assoc, append-nil, length-drop}
use Rattle.std.proofs.lemmas.Bool.{cases_lt}
use Rattle.std.proofs.lemmas.Grind.{flat_map-append}
use Rattle.std.proofs.lemmas.List.{take_all, drop_all, drop-drop}
use Rattle.std.proofs.lemmas.List.Elements.{All-head, All-tail}
use Rattle.std.specs.Io.KnownBytes.{Consumes, IsAtEnd, Keeps}
use Rattle.std.specs.List.{flat_map}
use Rattle.elf_walk.specs.Prelude.{AreNamesOf, EndsEntry, GathersNames, IsNameable, KeepsFirstNames, KeptNames, PutsNames, ReadsJoin, all_bytes, is_dot_entry, last_entry, list_entries, rest_from, saturated, unnamed_count, whole_entries}
use Rattle.elf_walk.specs.declared.batch.Insertion.{Insertion}
use Rattle.elf_walk.specs.declared.batch.Insertion.TheVariants.{Placed, Unnamed}
use Rattle.elf_walk.proofs.EntryLaws.{all_left, entries_join, first_ends, none_ends, rest_join}

-- entries, and then others
pub sorted_join : (entries others : List (List ℕ)) (names more : List (List ℕ)) (n m : ℕ) → AreNamesOf entries names n → AreNamesOf others more m
    → AreNamesOf (entries ++ others) (names ++ more) (n + m)
sorted_join [] others names more n m p q =
    subst (λ ns. AreNamesOf others (ns ++ more) (n + m)) (sym p.0) (subst (λ k. AreNamesOf others more k) (omega (arith, p.1)) q)
sorted_join (entry ∷ entries) others names more n m p q = elim p [
  | inl dots ↦ inl (dots.0, sorted_join entries others names more n m dots.1 q)
  | inr named ↦ elim named [
    | inl one ↦ inr (inl (one.0 ++ more, one.1, one.2, ap (λ ns. ns ++ more) one.3, sorted_join entries others one.0 more n m one.4 q))
    | inr none ↦ inr (inr (none.0 + m, none.1, none.2, omega (arith, none.3), sorted_join entries others names more none.0 m none.4 q))
  ]
]

dots_sorted : (entry : List ℕ) → is_dot_entry entry ≡ true → AreNamesOf (entry ∷ []) [] 0
dots_sorted entry is = inl (is, (refl, refl))

name_sorted : (entry : List ℕ) → is_dot_entry entry ≡ false → IsNameable entry → AreNamesOf (entry ∷ []) (entry ∷ []) 0
name_sorted entry isnt is = inr (inl ([], isnt, is, refl, (refl, refl)))

other_sorted : (entry : List ℕ) → is_dot_entry entry ≡ false → ¬ (IsNameable entry) → AreNamesOf (entry ∷ []) [] 1
other_sorted entry isnt is = inr (inr (0, isnt, is, refl, (refl, refl)))

-- an entry that was put
pub record PutOne (entry : List ℕ) (put : Insertion) (old new : KeptNames) : Type 0 where
  pub names : List (List ℕ)
  pub sorted : AreNamesOf (entry ∷ []) names (unnamed_count put)
  pub keeps : (before : List (List ℕ)) → KeepsFirstNames before old → KeepsFirstNames (before ++ names) new

ok_same : {E : Type 0} (a b : Insertion) (result : Result Insertion E) → result ≡ Ok a → result ≡ Ok b → a ≡ b
ok_same a b result p q = cc

keeps_still : (old new : KeptNames) → new ≡ old → (before : List (List ℕ)) → KeepsFirstNames before old → KeepsFirstNames (before ++ []) new
keeps_still old new same before h = subst (λ names. KeepsFirstNames names new) (sym (append-nil before)) (subst (KeepsFirstNames before) (sym same) h)

put_dots : (entry : List ℕ) (put : Insertion) (old new : KeptNames) → is_dot_entry entry ≡ true → put ≡ Placed → new ≡ old → PutOne entry put old new
put_dots entry put old new dot is same = record {
  names = [];
  sorted = subst (λ p. AreNamesOf (entry ∷ []) [] (unnamed_count p)) (sym is) (dots_sorted entry dot);
  keeps = keeps_still old new same;
}

put_named : {E : Type 0} (entry : List ℕ) (put : Insertion) (old new : KeptNames) (result : Result Insertion E) → result ≡ Ok put → is_dot_entry entry ≡ false
    → (¬ (IsNameable entry) → (result ≡ Ok Unnamed) × (new ≡ old)) → (IsNameable entry → OnOk result (result ≡ Ok Placed)) → (result ≡ Ok Placed → IsNameable entry)
    → (IsNameable entry → OnOk result ((names : List (List ℕ)) → KeepsFirstNames names old → KeepsFirstNames (names ++ entry ∷ []) new)) → PutOne entry put old new
put_named {E} entry Placed old new result is isnt unnamed placed named keeps =
    let can = named is in
    record {
      names = entry ∷ [];
      sorted = name_sorted entry isnt can;
      keeps = (subst (λ (r : Result Insertion E). OnOk r ((names : List (List ℕ)) → KeepsFirstNames names old → KeepsFirstNames (names ++ entry ∷ []) new)) is (keeps can));
    }
put_named {E} entry Unnamed old new result is isnt unnamed placed named keeps =
    let cannot : ¬ (IsNameable entry) = λ can.
    let e : result ≡ Ok Placed = subst (λ (r : Result Insertion E). OnOk r (result ≡ Ok Placed)) is (placed can) in
    let f : Unnamed ≡ Placed = ok_same Unnamed Placed result is e in cc in
    record { names = []; sorted = other_sorted entry isnt cannot; keeps = keeps_still old new (unnamed cannot).1 }

pub put_one : {E : Type 0} (entry : List ℕ) (put : Insertion) (old new : KeptNames) (result : Result Insertion E) → result ≡ Ok put
    → (is_dot_entry entry ≡ true → (result ≡ Ok Placed) × (new ≡ old))
    → (is_dot_entry entry ≡ false → ¬ (IsNameable entry) → (result ≡ Ok Unnamed) × (new ≡ old))
    → (is_dot_entry entry ≡ false → IsNameable entry → OnOk result (result ≡ Ok Placed))
    → (result ≡ Ok Placed → is_dot_entry entry ≡ false → IsNameable entry)
    → (is_dot_entry entry ≡ false → IsNameable entry → OnOk result ((names : List (List ℕ)) → KeepsFirstNames names old → KeepsFirstNames (names ++ entry ∷ []) new))
    → PutOne entry put old new
put_one {E} entry put old new result is dots unnamed placed named keeps =
    let by : (b : Bool) → is_dot_entry entry ≡ b → PutOne entry put old new = λ b. elim b as (λ b. is_dot_entry entry ≡ b → PutOne entry put old new) [
      | true ↦ λ dot. put_dots entry put old new dot (ok_same put Placed result is (dots dot).0) (dots dot).1
      | false ↦ λ isnt. put_named entry put old new result is isnt (unnamed isnt) (placed isnt) (λ e. named e isnt) (keeps isnt)
    ] in
    by (is_dot_entry entry) refl

none_of_none : list_entries [] ≡ []
unfolding whole_entries rest_from
none_of_none = refl

-- bytes without NUL
last_one : (a : List ℕ) (end : ℕ) → 0 < length a → end ≡ length a → ((k : ℕ) → k < end → get_or a k 0 ≢ 0) → list_entries a ≡ take end a ∷ list_entries (drop (suc end) a)
last_one [] end some is none = absurd (omega arith)
last_one (x ∷ a) end some is none =
    let bytes = x ∷ a in
    let open_end = none_ends [] bytes (λ k low. none k (omega (arith, is))) in
    let left = all_left [] bytes open_end in
    let entry : take end bytes ≡ bytes = take_all end bytes (omega (arith, is)) in
    let behind : drop (suc end) bytes ≡ [] = drop_all (suc end) bytes (omega (arith, is)) in
    ap (λ es. es ++ last_entry (rest_from [] bytes)) open_end ∙ ap last_entry left ∙ ap (λ e. e ∷ []) (sym entry)
    ∙ ap (λ d. take end bytes ∷ d) (sym (ap list_entries behind ∙ none_of_none))

-- the first entry of some bytes, and those after it
pub first_entry : (a : List ℕ) (end : ℕ) → 0 < length a → end ≤ length a → (end < length a → get_or a end 0 ≡ 0) → ((k : ℕ) → k < end → get_or a k 0 ≢ 0)
    → list_entries a ≡ take end a ∷ list_entries (drop (suc end) a)
first_entry a end some within nul none = elim (cases_lt end (length a)) [
  | inl low ↦
      let found = first_ends [] a end low (nul low) none in
      ap (λ r. whole_entries [] a ++ last_entry r) found.1 ∙ ap (λ es. es ++ last_entry (rest_from [] (drop (suc end) a))) found.0
  | inr high ↦ last_one a end some (omega arith) none
]

-- what was put of the entries in some bytes, so far
pub record PutSoFar (bytes : List ℕ) (at unnamed : ℕ) (old new : KeptNames) : Type 0 where
  pub done : List (List ℕ)
  pub names : List (List ℕ)
  pub others : ℕ
  pub entries : list_entries bytes ≡ done ++ list_entries (drop at bytes)
  pub sorted : AreNamesOf done names others
  pub counts : unnamed ≡ saturated others
  pub keeps : (before : List (List ℕ)) → KeepsFirstNames before old → KeepsFirstNames (before ++ names) new

pub put_none : (bytes : List ℕ) (old : KeptNames) → PutSoFar bytes 0 0 old old
put_none bytes old = record {
  done = [];
  names = [];
  others = 0;
  entries = refl;
  sorted = (refl, refl);
  counts = refl;
  keeps = λ before h. subst (λ names. KeepsFirstNames names old) (sym (append-nil before)) h;
}

-- one more entry
pub put_more : (bytes : List ℕ) (at end next unnamed count : ℕ) (names : List (List ℕ)) (n : ℕ) (old mid new : KeptNames) → PutSoFar bytes at unnamed old mid
    → list_entries (drop at bytes) ≡ take end (drop at bytes) ∷ list_entries (drop (suc end) (drop at bytes)) → next ≡ suc (at + end)
    → AreNamesOf (take end (drop at bytes) ∷ []) names n → count ≡ min (unnamed + n) (2 ^ 64 - 1)
    → ((before : List (List ℕ)) → KeepsFirstNames before mid → KeepsFirstNames (before ++ names) new) → PutSoFar bytes next count old new
put_more bytes at end next unnamed count names n old mid new so first is sorted counts keeps =
    let entry = take end (drop at bytes) in
    let behind : drop (suc end) (drop at bytes) ≡ drop next bytes = drop-drop (suc end) at bytes ∙ ap (λ k. drop k bytes) (omega (arith, is)) in
    record {
      done = so.done ++ entry ∷ [];
      names = so.names ++ names;
      others = so.others + n;
      entries = so.entries ∙ ap (λ es. so.done ++ es) (first ∙ ap (λ d. entry ∷ list_entries d) behind) ∙ sym (append_assoc so.done (entry ∷ []) (list_entries (drop next bytes)));
      sorted = sorted_join so.done (entry ∷ []) so.names names so.others n so.sorted sorted;
      counts = omega (arith, counts, so.counts);
      keeps = λ before h. subst (λ ns. KeepsFirstNames ns new) (append_assoc before so.names names) (keeps (before ++ so.names) (so.keeps before h));
    }

-- one step over them
pub put_step : (bytes : List ℕ) (at end next unnamed count : ℕ) (put : Insertion) (old mid new : KeptNames) → PutSoFar bytes at unnamed old mid → at < length bytes
    → end ≤ length (take (length bytes - at) (drop at bytes))
    → (end < length (take (length bytes - at) (drop at bytes)) → get_or (take (length bytes - at) (drop at bytes)) end 0 ≡ 0)
    → ((k : ℕ) → k < end → get_or (take (length bytes - at) (drop at bytes)) k 0 ≢ 0)
    → PutOne (take (at + end - at) (drop at bytes)) put mid new → next ≡ at + end + 1 → count ≡ min (unnamed + unnamed_count put) (2 ^ 64 - 1) → PutSoFar bytes next count old new
put_step bytes at end next unnamed count put old mid new so some within nul first one is counts =
    let rest = drop at bytes in
    let whole : take (length bytes - at) rest ≡ rest = take_all (length bytes - at) rest (omega (arith, length-drop at bytes)) in
    let there : 0 < length rest = omega (arith, length-drop at bytes) in
    let within_rest : end ≤ length rest = subst (λ l. end ≤ length l) whole within in
    let nul_rest : end < length rest → get_or rest end 0 ≡ 0 = subst (λ l. end < length l → get_or l end 0 ≡ 0) whole nul in
    let first_rest : (k : ℕ) → k < end → get_or rest k 0 ≢ 0 = subst (λ l. (k : ℕ) → k < end → get_or l k 0 ≢ 0) whole first in
    let back : at + end - at ≡ end = omega arith in
    let entry : PutOne (take end rest) put mid new = subst (λ n. PutOne (take n rest) put mid new) back one in
    put_more bytes at end next unnamed count entry.names (unnamed_count put) old mid new so (first_entry rest end there within_rest nul_rest first_rest) (omega (arith, is))
    entry.sorted counts entry.keeps

-- all of them
pub put_whole : (bytes : List ℕ) (at unnamed : ℕ) (old new : KeptNames) → PutSoFar bytes at unnamed old new → length bytes ≤ at → PutsNames bytes unnamed old new
put_whole bytes at unnamed old new so all =
    let behind : drop at bytes ≡ [] = drop_all at bytes all in
    let entries : list_entries bytes ≡ so.done =
    so.entries ∙ ap (λ d. so.done ++ list_entries d) behind ∙ ap (λ es. so.done ++ es) none_of_none ∙ append-nil so.done in
    record { names = so.names; others = so.others; sorted = subst (λ es. AreNamesOf es so.names so.others) (sym entries) so.sorted; counts = so.counts; keeps = so.keeps }

-- bytes that are read, and then others
pub consumed_more : (a b c : Option (List ℕ)) (xs ys : List ℕ) → Consumes a b xs → Consumes b c ys → Consumes a c (xs ++ ys)
consumed_more None b c xs ys p q = tt
consumed_more (Some x) None c xs ys p q = absurd p
consumed_more (Some x) (Some y) None xs ys p q = absurd q
consumed_more (Some x) (Some y) (Some z) xs ys p q = p ∙ ap (λ l. xs ++ l) q ∙ sym (append_assoc xs ys z)

-- a read that gives nothing
pub consumed_still : (a b c : Option (List ℕ)) (xs : List ℕ) → Consumes a b xs → Keeps b c → Consumes a c xs
consumed_still None b c xs p q = tt
consumed_still (Some x) None c xs p q = absurd p
consumed_still (Some x) (Some y) None xs p q = absurd q
consumed_still (Some x) (Some y) (Some z) xs p q = p ∙ ap (λ l. xs ++ l) (sym q)

consumed_none : (a : Option (List ℕ)) → Consumes a a []
consumed_none None = tt
consumed_none (Some x) = refl

-- what was gathered at some reads
pub record GatheredSoFar (had left : Option (List ℕ)) (unnamed : ℕ) (old new : KeptNames) : Type 0 where
  pub reads : List (List ℕ)
  pub names : List (List ℕ)
  pub others : ℕ
  pub read : Consumes had left (all_bytes reads)
  pub sorted : AreNamesOf (flat_map list_entries reads) names others
  pub counts : unnamed ≡ saturated others
  pub keeps : KeepsFirstNames names new
  pub after : new.after ≡ old.after

pub gathered_none : (had : Option (List ℕ)) (old : KeptNames) → KeepsFirstNames [] old → GatheredSoFar had had 0 old old
gathered_none had old h = record { reads = []; names = []; others = 0; read = consumed_none had; sorted = (refl, refl); counts = refl; keeps = h; after = refl }

-- a read that gives nothing
pub gathered_still : (had mid left : Option (List ℕ)) (unnamed : ℕ) (old new : KeptNames) → GatheredSoFar had mid unnamed old new → Keeps mid left → GatheredSoFar had left unnamed old new
gathered_still had mid left unnamed old new so still = record {
  reads = so.reads;
  names = so.names;
  others = so.others;
  read = consumed_still had mid left (all_bytes so.reads) so.read still;
  sorted = so.sorted;
  counts = so.counts;
  keeps = so.keeps;
  after = so.after;
}

pub gathered_more : (had first left : Option (List ℕ)) (bytes : List ℕ) (unnamed more count : ℕ) (old mid new : KeptNames) → GatheredSoFar had first unnamed old mid
    → Consumes first left bytes → PutsNames bytes more mid new → new.after ≡ mid.after → count ≡ min (unnamed + more) (2 ^ 64 - 1) → GatheredSoFar had left count old new
gathered_more had first left bytes unnamed more count old mid new so reads puts after counts = record {
  reads = so.reads ++ bytes ∷ [];
  names = so.names ++ puts.names;
  others = so.others + puts.others;
  read =
      let joined : all_bytes (so.reads ++ bytes ∷ []) ≡ all_bytes so.reads ++ bytes =
      flat_map-append (λ (read : List ℕ). read) so.reads (bytes ∷ []) ∙ ap (λ l. all_bytes so.reads ++ l) (append-nil bytes) in
      subst (Consumes had left) (sym joined) (consumed_more had first left (all_bytes so.reads) bytes so.read reads);
  sorted =
      let one : AreNamesOf (list_entries bytes ++ []) puts.names puts.others = subst (λ es. AreNamesOf es puts.names puts.others) (sym (append-nil (list_entries bytes))) puts.sorted in
      subst (λ es. AreNamesOf es (so.names ++ puts.names) (so.others + puts.others)) (sym (flat_map-append list_entries so.reads (bytes ∷ [])))
      (sorted_join (flat_map list_entries so.reads) (list_entries bytes ++ []) so.names puts.names so.others puts.others so.sorted one);
  counts = omega (arith, counts, so.counts, puts.counts);
  keeps = puts.keeps so.names so.keeps;
  after = after ∙ so.after;
}

-- the last read gives no bytes
pub gathers_all : (room : ℕ) (had mid left : Option (List ℕ)) (unnamed : ℕ) (old kept new : KeptNames) → GatheredSoFar had mid unnamed old kept → Consumes mid left [] → (0 < room → IsAtEnd left)
    → new.held ≡ new.names → ((names : List (List ℕ)) → KeepsFirstNames names kept → KeepsFirstNames names new) → new.after ≡ kept.after → GathersNames room had left unnamed old new
gathers_all room had mid left unnamed old kept new so read whole order keeps after = record {
  reads = so.reads;
  names = so.names;
  others = so.others;
  read = subst (Consumes had left) (append-nil (all_bytes so.reads)) (consumed_more had mid left (all_bytes so.reads) [] so.read read);
  whole = whole;
  sorted = so.sorted;
  counts = so.counts;
  keeps = keeps so.names so.keeps;
  order = order;
  after = after ∙ so.after;
}

-- entries of bytes, and of those after them, if no entry begins in the first and ends in the others
entries_after : (a b : List ℕ) → EndsEntry a → list_entries a ++ list_entries b ≡ list_entries (a ++ b)
entries_after a b ends =
    let last : list_entries a ≡ whole_entries [] a = ap (λ r. whole_entries [] a ++ last_entry r) ends ∙ append-nil (whole_entries [] a) in
    let joined : whole_entries [] (a ++ b) ≡ whole_entries [] a ++ whole_entries [] b =
    entries_join [] a b ∙ ap (λ r. whole_entries [] a ++ whole_entries r b) ends in
    let left : rest_from [] (a ++ b) ≡ rest_from [] b = rest_join [] a b ∙ ap (λ r. rest_from r b) ends in
    ap (λ es. es ++ list_entries b) last ∙ sym (append_assoc (whole_entries [] a) (whole_entries [] b) (last_entry (rest_from [] b)))
    ∙ sym (ap (λ es. es ++ last_entry (rest_from [] (a ++ b))) joined ∙ ap (λ r. (whole_entries [] a ++ whole_entries [] b) ++ last_entry r) left)

pub reads_join : ReadsJoin
reads_join [] all = sym none_of_none
reads_join (read ∷ reads) all =
    ap (λ es. list_entries read ++ es) (reads_join reads (All-tail EndsEntry read reads all)) ∙ entries_after read (all_bytes reads) (All-head EndsEntry read reads all)
