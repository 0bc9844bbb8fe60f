-- The archives of a link: how one is found, one more is added, and the members of one are taken.
use Rattle.std.proofs.Common.{◌≡◌, ◌≢◌, ℕ, zero, suc, ◌+◌, ◌-◌, ◌≤◌, Bool, true, false, List, [], ◌∷◌, ◌++◌, length, length-append, length-drop, map, take, drop, refl, sym, ap, subst, ◌∙◌, ◌⊎◌, inl, inr, eqb, append_assoc, zero-add, arith}
use Rattle.std.specs.Prelude.{Option, None, Some, option_map, ◌==◌, if◌then◌else◌}
use Rattle.std.specs.List.{slice_get}
use Rattle.std.proofs.lemmas.Bool.{eq-eqb, eqb-true}
use Rattle.std.proofs.lemmas.Bool.Decides.{eqb_tells}
use Rattle.std.proofs.lemmas.List.{drop-append-le, drop-take, length-take, take-append-le}
use Rattle.std.proofs.Math.Seq.{drop-append_seam}
use borrow.Rule.Slice.PartMut.{post_of}
use Rattle.elf_model.specs.LinkArchives.{LinkFiles}
use Rattle.elf_model.specs.LinkInputs.{opened_at, with_taken}
use Rattle.elf_model.specs.declared.link_states.IndexEntry.{IndexEntry}
use Rattle.elf_resolve.specs.KeyOrders.{AreDistinctInputs}
use Rattle.elf_resolve.specs.OpenedArchives.{AreDistinctArchives, AreOpened, IsOpenedArchive, IsInputState, SameOutside, archive_of_input}
use Rattle.elf_resolve.specs.Resolved.{elements_in, open_archive}
use Rattle.elf_resolve.specs.declared.archives.OpenedArchive.{OpenedArchive}
use Rattle.elf_resolve.specs.declared.resolver.InputState.{InputState}
use Rattle.elf_resolve.specs.declared.resolver.InputState.TheVariants as state

pub some_of : {A : Type 0} → (x y : A) → Some x ≡ Some y → x ≡ y
some_of x y is = cc

-- elements of a list that is longer, or of which others changed
pub elements_more : {A : Type 0} → (xs ys : List A) (range : ℕ × ℕ) → range.0 ≤ range.1 → range.1 ≤ length xs → elements_in (xs ++ ys) range ≡ elements_in xs range
elements_more xs ys range ordered within =
    ap (λ l. take (range.1 - range.0) l) (drop-append-le range.0 xs ys (omega (arith, ordered, within)))
    ∙ take-append-le (range.1 - range.0) (drop range.0 xs) ys (omega (arith, ordered, within, length-drop range.0 xs))

elements_by_take : {A : Type 0} → (xs : List A) (start end : ℕ) → start ≤ end → drop start (take end xs) ≡ take (end - start) (drop start xs)
elements_by_take xs start end ordered =
    let sum : end ≡ start + (end - start) = omega (arith, ordered) in
    ap (λ n. drop start (take n xs)) sum ∙ drop-take start (end - start) xs

drop_nil : {A : Type 0} → (n : ℕ) → drop {A = A} n [] ≡ []
drop_nil zero = refl
drop_nil (suc n) = refl

drop_twice : {A : Type 0} → (n m : ℕ) (xs : List A) → drop (n + m) xs ≡ drop m (drop n xs)
drop_twice zero m xs = ap (λ k. drop k xs) (zero-add m)
drop_twice (suc n) m [] = let more : suc n + m ≡ suc (n + m) = omega arith in ap (λ k. drop k []) more ∙ sym (drop_nil m)
drop_twice (suc n) m (x ∷ xs) = let more : suc n + m ≡ suc (n + m) = omega arith in ap (λ k. drop k (x ∷ xs)) more ∙ drop_twice n m xs

take_less : {A : Type 0} → (n m : ℕ) (xs : List A) → n ≤ m → take n (take m xs) ≡ take n xs
take_less zero m xs less = refl
take_less (suc n) zero xs less = absurd (omega (arith, less))
take_less (suc n) (suc m) [] less = refl
take_less (suc n) (suc m) (x ∷ xs) less = ap (λ l. x ∷ l) (take_less n m xs (omega (arith, less)))

elements_before : (old new : List Bool) (changed range : ℕ × ℕ) → SameOutside old new changed → range.0 ≤ range.1 → range.1 ≤ changed.0 → elements_in new range ≡ elements_in old range
elements_before old new changed range same ordered apart =
    let fronts : take range.1 new ≡ take range.1 old = sym (take_less range.1 changed.0 new apart) ∙ ap (λ l. take range.1 l) same.before ∙ take_less range.1 changed.0 old apart in
    sym (elements_by_take new range.0 range.1 ordered) ∙ ap (λ l. drop range.0 l) fronts ∙ elements_by_take old range.0 range.1 ordered

elements_after : (old new : List Bool) (changed range : ℕ × ℕ) → SameOutside old new changed → changed.1 ≤ range.0 → elements_in new range ≡ elements_in old range
elements_after old new changed range same apart =
    let sum : range.0 ≡ changed.1 + (range.0 - changed.1) = omega (arith, apart) in
    let backs : drop range.0 new ≡ drop range.0 old =
    ap (λ n. drop n new) sum ∙ drop_twice changed.1 (range.0 - changed.1) new ∙ ap (λ l. drop (range.0 - changed.1) l) same.after
    ∙ sym (drop_twice changed.1 (range.0 - changed.1) old) ∙ ap (λ n. drop n old) (sym sum) in
    ap (λ l. take (range.1 - range.0) l) backs

-- marks of a range that were written
pub outside_put : (old new : List Bool) (range of : ℕ × ℕ) → range ≡ of → range.0 ≤ range.1 → range.1 ≤ length old → length new ≡ range.1 - range.0
    → SameOutside old (take range.0 old ++ (new ++ post_of range.0 (range.1 - range.0) old)) of
outside_put old new range of same ordered within count =
    let sum : range.0 + (range.1 - range.0) ≡ range.1 = omega (arith, ordered) in
    let post : post_of range.0 (range.1 - range.0) old ≡ drop range.1 old = sym (drop_twice range.0 (range.1 - range.0) old) ∙ ap (λ n. drop n old) sum in
    let front : length (take range.0 old) ≡ range.0 = omega (arith, ordered, within, length-take range.0 old) in
    let both : length (take range.0 old ++ new) ≡ range.1 = omega (arith, front, count, ordered, length-append (take range.0 old) new) in
    let all = λ (l : List Bool). take range.0 old ++ (new ++ l) in
    let is : SameOutside old (take range.0 old ++ (new ++ drop range.1 old)) range = record {
      count = omega (arith, both, within, length-append (take range.0 old) (new ++ drop range.1 old), length-append new (drop range.1 old), length-append (take range.0 old) new, length-drop range.1 old);
      before = take-append-le range.0 (take range.0 old) (new ++ drop range.1 old) (omega (arith, front)) ∙ take_less range.0 range.0 old (omega arith);
      after = ap (λ l. drop range.1 l) (sym (append_assoc (take range.0 old) new (drop range.1 old))) ∙ ap (λ n. drop n ((take range.0 old ++ new) ++ drop range.1 old)) (sym both)
          ∙ drop-append_seam (take range.0 old ++ new) (drop range.1 old);
    } in
    subst (λ r. SameOutside old (take range.0 old ++ (new ++ post_of range.0 (range.1 - range.0) old)) r) same
    (subst (λ l. SameOutside old (all l) range) (sym post) is)

-- archives as the definition has them
pub opened_as : (entries : List IndexEntry) (taken : List Bool) (archives : List OpenedArchive) (i : ℕ) → opened_at (map (open_archive entries taken) archives) i ≡ option_map (open_archive entries taken) (archive_of_input archives i)
opened_as entries taken [] i = refl
opened_as entries taken (a ∷ archives) i = by (a.input == i) (opened_as entries taken archives i) where
  by : (here : Bool) → opened_at (map (open_archive entries taken) archives) i ≡ option_map (open_archive entries taken) (archive_of_input archives i)
      → (if here then Some (open_archive entries taken a) else opened_at (map (open_archive entries taken) archives) i) ≡ option_map (open_archive entries taken) (if here then Some a else archive_of_input archives i)
  by true rest = refl
  by false rest = rest

pub distinct_as : (entries : List IndexEntry) (taken : List Bool) (archives : List OpenedArchive) → AreDistinctArchives archives → AreDistinctInputs (map (open_archive entries taken) archives)
distinct_as entries taken [] distinct = tt
distinct_as entries taken (a ∷ archives) distinct =
    (opened_as entries taken archives a.input ∙ ap (λ o. option_map (open_archive entries taken) o) distinct.0, distinct_as entries taken archives distinct.1)

-- the archive of an input
input_by : (archives : List OpenedArchive) (i : ℕ) (x a : OpenedArchive) (here : Bool) → (x.input == i) ≡ here → (archive_of_input archives i ≡ Some a → a.input ≡ i) → (if here then Some x else archive_of_input archives i) ≡ Some a → a.input ≡ i
input_by archives i x a true is rest found = ap (λ (o : OpenedArchive). o.input) (sym (some_of x a found)) ∙ eqb-true x.input i is
input_by archives i x a false is rest found = rest found

pub input_found : (archives : List OpenedArchive) (i : ℕ) (a : OpenedArchive) → archive_of_input archives i ≡ Some a → a.input ≡ i
input_found [] i a found = absurd cc
input_found (x ∷ archives) i a found = input_by archives i x a (x.input == i) refl (λ there. input_found archives i a there) found

-- an archive more
or_then : Option OpenedArchive → Option OpenedArchive → Option OpenedArchive
or_then None other = other
or_then (Some a) other = Some a

found_more : (archives : List OpenedArchive) (b : OpenedArchive) (i : ℕ) (found : Option OpenedArchive) → archive_of_input archives i ≡ found → archive_of_input (archives ++ b ∷ []) i ≡ or_then found (if b.input == i then Some b else None)
unfolding or_then
found_more [] b i None is = refl
found_more [] b i (Some a) is = absurd cc
found_more (x ∷ archives) b i found is = by (x.input == i) found (λ there. found_more archives b i found there) is where
  by : (here : Bool) (found : Option OpenedArchive) → (archive_of_input archives i ≡ found → archive_of_input (archives ++ b ∷ []) i ≡ or_then found (if b.input == i then Some b else None)) → (if here then Some x else archive_of_input archives i) ≡ found
      → (if here then Some x else archive_of_input (archives ++ b ∷ []) i) ≡ or_then found (if b.input == i then Some b else None)
  by true None rest is = absurd cc
  by true (Some a) rest is = is
  by false found rest is = rest is

pub found_still : (archives : List OpenedArchive) (b a : OpenedArchive) (i : ℕ) → archive_of_input archives i ≡ Some a → archive_of_input (archives ++ b ∷ []) i ≡ Some a
unfolding or_then
found_still archives b a i is = found_more archives b i (Some a) is

pub found_none : (archives : List OpenedArchive) (b : OpenedArchive) (i : ℕ) → (b.input ≡ i → ⊥) → archive_of_input archives i ≡ None → archive_of_input (archives ++ b ∷ []) i ≡ None
unfolding or_then
found_none archives b i differ is = found_more archives b i None is ∙ by (eqb_tells b.input i) where
  by : ((eqb b.input i ≡ true) × (b.input ≡ i)) ⊎ ((eqb b.input i ≡ false) × (b.input ≢ i)) → (if b.input == i then Some b else None) ≡ None
  by (inl (is, same)) = absurd (differ same)
  by (inr (is, other)) = ap (λ h. if h then Some b else None) is

pub found_new : (archives : List OpenedArchive) (b : OpenedArchive) → archive_of_input archives b.input ≡ None → archive_of_input (archives ++ b ∷ []) b.input ≡ Some b
unfolding or_then
found_new archives b is = found_more archives b b.input None is ∙ ap (λ h. if h then Some b else None) (eq-eqb b.input b.input refl)

none_first : (archives : List OpenedArchive) (i : ℕ) (x : OpenedArchive) → archive_of_input (x ∷ archives) i ≡ None → (x.input ≡ i → ⊥) × (archive_of_input archives i ≡ None)
none_first archives i x none = by (x.input == i) refl none where
  by : (here : Bool) → (x.input == i) ≡ here → (if here then Some x else archive_of_input archives i) ≡ None → (x.input ≡ i → ⊥) × (archive_of_input archives i ≡ None)
  by true is none = absurd cc
  by false is none = (λ same. let both : true ≡ false = sym (eq-eqb x.input i same) ∙ is in cc, none)

pub distinct_push : (archives : List OpenedArchive) (b : OpenedArchive) → AreDistinctArchives archives → archive_of_input archives b.input ≡ None → AreDistinctArchives (archives ++ b ∷ [])
distinct_push [] b distinct none = (refl, tt)
distinct_push (x ∷ archives) b distinct none =
    let apart = none_first archives b.input x none in
    (found_none archives b x.input (λ same. apart.0 (sym same)) distinct.0, distinct_push archives b distinct.1 apart.1)

-- states of inputs
get_more : {A : Type 0} → (xs : List A) (i : ℕ) (y x : A) → slice_get xs i ≡ Some x → slice_get (xs ++ y ∷ []) i ≡ Some x
get_more [] i y x is = absurd cc
get_more (z ∷ xs) zero y x is = is
get_more (z ∷ xs) (suc i) y x is = get_more xs i y x is

get_last : {A : Type 0} → (xs : List A) (y : A) → slice_get (xs ++ y ∷ []) (length xs) ≡ Some y
get_last [] y = refl
get_last (z ∷ xs) y = get_last xs y

pub state_still : (s : Option InputState) (archives : List OpenedArchive) (b : OpenedArchive) (i : ℕ) → (b.input ≡ i → ⊥) → IsInputState s archives i → IsInputState s (archives ++ b ∷ []) i
state_still None archives b i differ is = found_none archives b i differ is
state_still (Some state.New) archives b i differ is = found_none archives b i differ is
state_still (Some state.Done) archives b i differ is = found_none archives b i differ is
state_still (Some (state.Archive index)) archives b i differ is = (is.0, get_more archives index b is.0 is.1, found_still archives b is.0 i is.2)
state_still (Some (state.Library index)) archives b i differ is = is

pub state_new : (archives : List OpenedArchive) (b : OpenedArchive) → archive_of_input archives b.input ≡ None → IsInputState (Some (state.Archive (length archives))) (archives ++ b ∷ []) b.input
state_new archives b none = (b, get_last archives b, found_new archives b none)

-- archives of longer lists
opened_more : (files : LinkFiles) (members more : List ℕ) (entries entries_after from : ℕ) (a : OpenedArchive) → entries ≤ entries_after → IsOpenedArchive files members entries from a → IsOpenedArchive files (members ++ more) entries_after from a
opened_more files members more entries entries_after from a less is = record {
  file = is.file;
  count = is.count;
  symbols = is.symbols;
  file_is = is.file_is;
  input_is = is.input_is;
  has_members = record {
    ordered = is.has_members.ordered;
    within = omega (arith, is.has_members.within, length-append members more);
    are = record { unrefused = is.has_members.are.unrefused; offsets_are = elements_more members more a.members is.has_members.ordered is.has_members.within ∙ is.has_members.are.offsets_are; names_are = is.has_members.are.names_are };
  };
  starts = is.starts;
  entries_ordered = is.entries_ordered;
  entries_within = omega (arith, is.entries_within, less);
}

pub all_more : (files : LinkFiles) (members more : List ℕ) (entries entries_after from : ℕ) (archives : List OpenedArchive) → entries ≤ entries_after → AreOpened files members entries from archives → AreOpened files (members ++ more) entries_after from archives
all_more files members more entries entries_after from [] less are = omega (arith, are, length-append members more)
all_more files members more entries entries_after from (a ∷ archives) less are =
    (opened_more files members more entries entries_after from a less are.0, all_more files members more entries entries_after a.members.1 archives less are.1)

-- and one more
pub all_push : (files : LinkFiles) (members more : List ℕ) (entries entries_after from : ℕ) (archives : List OpenedArchive) (b : OpenedArchive) → entries ≤ entries_after → AreOpened files members entries from archives
    → IsOpenedArchive files (members ++ more) entries_after (length members) b → AreOpened files (members ++ more) entries_after from (archives ++ b ∷ [])
all_push files members more entries entries_after from [] b less are is = (
  record {
    file = is.file;
    count = is.count;
    symbols = is.symbols;
    file_is = is.file_is;
    input_is = is.input_is;
    has_members = is.has_members;
    starts = omega (arith, are, is.starts);
    entries_ordered = is.entries_ordered;
    entries_within = is.entries_within;
  },
  is.has_members.within,
)
all_push files members more entries entries_after from (a ∷ archives) b less are is =
    (opened_more files members more entries entries_after from a less are.0, all_push files members more entries entries_after a.members.1 archives b less are.1 is)

-- the archive that is found is opened
pub found_opened : (files : LinkFiles) (members : List ℕ) (entries from : ℕ) (archives : List OpenedArchive) (i : ℕ) (a : OpenedArchive) → AreOpened files members entries from archives → archive_of_input archives i ≡ Some a → IsOpenedArchive files members entries from a
found_opened files members entries from [] i a are found = absurd cc
found_opened files members entries from (x ∷ archives) i a are found = by (x.input == i) (λ there. found_opened files members entries x.members.1 archives i a are.1 there) found where
  later : IsOpenedArchive files members entries x.members.1 a → IsOpenedArchive files members entries from a
  later is = record {
    file = is.file;
    count = is.count;
    symbols = is.symbols;
    file_is = is.file_is;
    input_is = is.input_is;
    has_members = is.has_members;
    starts = omega (arith, is.starts, are.0.starts, are.0.has_members.ordered);
    entries_ordered = is.entries_ordered;
    entries_within = is.entries_within;
  }

  by : (here : Bool) → (archive_of_input archives i ≡ Some a → IsOpenedArchive files members entries x.members.1 a) → (if here then Some x else archive_of_input archives i) ≡ Some a → IsOpenedArchive files members entries from a
  by true rest there = subst (λ o. IsOpenedArchive files members entries from o) (some_of x a there) are.0
  by false rest there = later (rest there)

-- MEMBERS OF ONE ARCHIVE ARE TAKEN: the others are what they were
none_taken : (es : List IndexEntry) (files : LinkFiles) (members : List ℕ) (entries from : ℕ) (archives : List OpenedArchive) (i : ℕ) (old new marks : List Bool) (changed : ℕ × ℕ)
    → AreOpened files members entries from archives → archive_of_input archives i ≡ None → SameOutside old new changed → changed.1 ≤ from
    → map (open_archive es new) archives ≡ with_taken (map (open_archive es old) archives) i marks
none_taken es files members entries from [] i old new marks changed are none same apart = refl
none_taken es files members entries from (x ∷ archives) i old new marks changed are none same apart =
    by (x.input == i) refl (λ none_there. none_taken es files members entries x.members.1 archives i old new marks changed are.1 none_there same (omega (arith, apart, are.0.starts, are.0.has_members.ordered))) none where
      by : (here : Bool) → (x.input == i) ≡ here → (archive_of_input archives i ≡ None → map (open_archive es new) archives ≡ with_taken (map (open_archive es old) archives) i marks) → (if here then Some x else archive_of_input archives i) ≡ None
          → open_archive es new x ∷ map (open_archive es new) archives ≡ (if here then record (open_archive es old x) { taken = marks } else open_archive es old x) ∷ with_taken (map (open_archive es old) archives) i marks
      by true is rest none_here = absurd cc
      by false is rest none_here =
          let head : elements_in new x.members ≡ elements_in old x.members = elements_after old new changed x.members same (omega (arith, apart, are.0.starts)) in
          ap (λ t. record (open_archive es old x) { taken = t } ∷ map (open_archive es new) archives) head ∙ ap (λ l. open_archive es old x ∷ l) (rest none_here)

pub one_taken : (es : List IndexEntry) (files : LinkFiles) (members : List ℕ) (entries from : ℕ) (archives : List OpenedArchive) (i : ℕ) (a : OpenedArchive) (old new marks : List Bool)
    → AreOpened files members entries from archives → AreDistinctArchives archives → archive_of_input archives i ≡ Some a → SameOutside old new a.members → elements_in new a.members ≡ marks
    → map (open_archive es new) archives ≡ with_taken (map (open_archive es old) archives) i marks
one_taken es files members entries from [] i a old new marks are distinct found same is = absurd cc
one_taken es files members entries from (x ∷ archives) i a old new marks are distinct found same is =
    by (x.input == i) refl (λ there. one_taken es files members entries x.members.1 archives i a old new marks are.1 distinct.1 there same is)
    (λ none. none_taken es files members entries x.members.1 archives i old new marks x.members are.1 none) (λ there. found_opened files members entries x.members.1 archives i a are.1 there) found where
      by : (here : Bool) → (x.input == i) ≡ here → (archive_of_input archives i ≡ Some a → map (open_archive es new) archives ≡ with_taken (map (open_archive es old) archives) i marks)
          → (archive_of_input archives i ≡ None → SameOutside old new x.members → x.members.1 ≤ x.members.1 → map (open_archive es new) archives ≡ with_taken (map (open_archive es old) archives) i marks)
          → (archive_of_input archives i ≡ Some a → IsOpenedArchive files members entries x.members.1 a) → (if here then Some x else archive_of_input archives i) ≡ Some a
          → open_archive es new x ∷ map (open_archive es new) archives ≡ (if here then record (open_archive es old x) { taken = marks } else open_archive es old x) ∷ with_taken (map (open_archive es old) archives) i marks
      by true at rest others later there =
          let one : x ≡ a = some_of x a there in
          let head : elements_in new x.members ≡ marks = ap (λ (o : OpenedArchive). elements_in new o.members) one ∙ is in
          let none : archive_of_input archives i ≡ None = ap (λ n. archive_of_input archives n) (sym (eqb-true x.input i at)) ∙ distinct.0 in
          ap (λ t. record (open_archive es old x) { taken = t } ∷ map (open_archive es new) archives) head
          ∙ ap (λ l. record (open_archive es old x) { taken = marks } ∷ l) (others none (subst (λ (o : OpenedArchive). SameOutside old new o.members) (sym one) same) (omega arith))
      by false at rest others later there =
          let head : elements_in new x.members ≡ elements_in old x.members = elements_before old new a.members x.members same are.0.has_members.ordered (later there).starts in
          ap (λ t. record (open_archive es old x) { taken = t } ∷ map (open_archive es new) archives) head ∙ ap (λ l. open_archive es old x ∷ l) (rest there)
