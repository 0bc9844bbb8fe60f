-- Groups of inputs: their rounds take members, or ask for nothing new.
use Rattle.std.proofs.Common.{◌≡◌, ℕ, zero, suc, ◌+◌, ◌<◌, ◌≤◌, Bool, true, false, List, [], ◌∷◌, ◌⊎◌, inl, inr, refl, sym, ap, ◌∙◌, arith}
use Rattle.std.specs.Prelude.{Option, None, Some, ◌==◌, if◌then◌else◌}
use Rattle.std.proofs.lemmas.Bool.{eq-eqb, eqb-true}
use Rattle.elf_model.specs.LinkInputs.{InputFile, LinkInputs, Linking, OpenArchive, again_at, archive_again, group_settled, input_again, inputs_again, opened_at, rounds_made, untaken_in, with_taken}
use Rattle.elf_model.specs.LinkInputs.InputFile.{ObjectFile, SearchedFile, WholeFile, MissingFile}
use Rattle.elf_model.specs.LinkInputs.LinkInputs.{NoInputs, Input, Group}
use Rattle.elf_model.specs.LinkKeys.{LinkKeys}
use Rattle.elf_model.specs.LinkPasses.{ArchiveMembers, ArchivePass, LinkArchive, archive_searched, index_passed, passes_made, untaken}
use Rattle.elf_model.specs.declared.link_states.IndexEntry.{IndexEntry}
use Rattle.elf_resolve.specs.KeyOrders.{AreDistinctInputs}
use Rattle.elf_resolve.specs.Passing.{Moved}
use Rattle.elf_resolve.proofs.PassLaws.{pass_grows, pass_keeps, pass_still}
use Rattle.elf_resolve.proofs.PassingLaws.{moved_then}

-- a search moves a pass
pass_moved : (archive : LinkArchive) (p : ArchivePass) (es : List IndexEntry) → Moved p (index_passed archive p es)
pass_moved archive p es = record {
  fewer = omega (arith, pass_keeps archive p es, pass_grows archive p es);
  still = λ same. ap (λ (q : ArchivePass). q.keys) (pass_still archive p es (omega (arith, pass_keeps archive p es, same)));
}

moved_either : (p x y : ArchivePass) (b : Bool) → Moved p x → Moved p y → Moved p (if b then x else y)
moved_either p x y true first second = first
moved_either p x y false first second = second

passes_moved : (archive : LinkArchive) (n : ℕ) (es : List IndexEntry) (p : ArchivePass) → Moved p (passes_made n archive es p)
passes_moved archive zero es p = record { fewer = omega arith; still = λ same. refl }
passes_moved archive (suc n) es p =
    let next = index_passed archive p es in
    moved_either p next (passes_made n archive es next) (next.keys.asked == p.keys.asked) (pass_moved archive p es)
    (moved_then p next (passes_made n archive es next) (pass_moved archive p es) (passes_moved archive n es next))

searched_moved : (archive : LinkArchive) (es : List IndexEntry) (p : ArchivePass) → Moved p (archive_searched archive es p)
unfolding archive_searched
searched_moved archive es p = passes_moved archive (suc (untaken p.taken)) es p

-- ONE LINK SHRINKS TO ANOTHER: of its archives' members not fewer are taken, and if not more, the keys
-- are what they were; and its archives are still distinct
record Shrinks (old new : Linking) : Type 0 where
  fewer : untaken_in new.archives ≤ untaken_in old.archives
  still : untaken_in new.archives ≡ untaken_in old.archives → new.keys ≡ old.keys
  distinct : AreDistinctInputs new.archives

shrinks_not : (link : Linking) → AreDistinctInputs link.archives → Shrinks link link
shrinks_not link distinct = record { fewer = omega arith; still = λ same. refl; distinct = distinct }

shrinks_then : (a b c : Linking) → Shrinks a b → Shrinks b c → Shrinks a c
shrinks_then a b c first second = record {
  fewer = omega (arith, first.fewer, second.fewer);
  still = λ same. second.still (omega (arith, first.fewer, second.fewer, same)) ∙ first.still (omega (arith, first.fewer, second.fewer, same));
  distinct = second.distinct;
}

none_some : (a : OpenArchive) → None ≡ Some a → ⊥
none_some a same = cc

archive_or : OpenArchive → Option OpenArchive → OpenArchive
archive_or other None = other
archive_or other (Some a) = a

some_is : (x a : OpenArchive) → Some x ≡ Some a → x ≡ a
unfolding archive_or
some_is x a same = ap (archive_or x) same

-- archives of which one has other members taken
opened_by : (archives : List OpenArchive) (x : OpenArchive) (j : ℕ) (here : Bool) → (x.input == j) ≡ here → opened_at (x ∷ archives) j ≡ (if here then Some x else opened_at archives j)
opened_by archives x j here is = ap (λ b. if b then Some x else opened_at archives j) is

none_of : (archives : List OpenArchive) (x : OpenArchive) (j : ℕ) (here : Bool) → (x.input == j) ≡ here → opened_at (x ∷ archives) j ≡ None → (here ≡ false) × (opened_at archives j ≡ None)
none_of archives x j true is none = absurd (none_some x (sym none ∙ opened_by archives x j true is))
none_of archives x j false is none = (refl, sym (opened_by archives x j false is) ∙ none)

with_input : (x : OpenArchive) (i : ℕ) (taken : List Bool) (here : Bool) → (if here then record x { taken = taken } else x).input ≡ x.input
with_input x i taken true = refl
with_input x i taken false = refl

none_after : (archives : List OpenArchive) (i : ℕ) (taken : List Bool) (j : ℕ) → opened_at archives j ≡ None → opened_at (with_taken archives i taken) j ≡ None
none_after [] i taken j none = refl
none_after (x ∷ archives) i taken j none =
    let apart = none_of archives x j (x.input == j) refl none in
    let head = if x.input == i then record x { taken = taken } else x in
    opened_by (with_taken archives i taken) head j false (ap (λ n. n == j) (with_input x i taken (x.input == i)) ∙ apart.0)
    ∙ none_after archives i taken j apart.1

distinct_after : (archives : List OpenArchive) (i : ℕ) (taken : List Bool) → AreDistinctInputs archives → AreDistinctInputs (with_taken archives i taken)
distinct_after [] i taken distinct = tt
distinct_after (x ∷ archives) i taken distinct = (
  ap (λ n. opened_at (with_taken archives i taken) n) (with_input x i taken (x.input == i)) ∙ none_after archives i taken x.input distinct.0,
  distinct_after archives i taken distinct.1,
)

same_without : (archives : List OpenArchive) (i : ℕ) (taken : List Bool) → opened_at archives i ≡ None → untaken_in (with_taken archives i taken) ≡ untaken_in archives
same_without [] i taken none = refl
same_without (x ∷ archives) i taken none =
    let apart = none_of archives x i (x.input == i) refl none in
    ap (λ b. untaken (if b then record x { taken = taken } else x).taken + untaken_in (with_taken archives i taken)) apart.0
    ∙ ap (λ n. untaken x.taken + n) (same_without archives i taken apart.1)

untaken_by : (archives : List OpenArchive) (x : OpenArchive) (i : ℕ) (taken : List Bool) (a : OpenArchive) (here : Bool) → (x.input == i) ≡ here → AreDistinctInputs (x ∷ archives)
    → (if here then Some x else opened_at archives i) ≡ Some a
    → (opened_at archives i ≡ Some a → untaken_in (with_taken archives i taken) + untaken a.taken ≡ untaken_in archives + untaken taken)
    → (untaken (if here then record x { taken = taken } else x).taken + untaken_in (with_taken archives i taken)) + untaken a.taken ≡ (untaken x.taken + untaken_in archives) + untaken taken
untaken_by archives x i taken a true is distinct found rest =
    let at : x.input ≡ i = eqb-true x.input i is in
    let same : untaken_in (with_taken archives i taken) ≡ untaken_in archives = same_without archives i taken (ap (λ n. opened_at archives n) (sym at) ∙ distinct.0) in
    let one : x ≡ a = some_is x a found in
    omega (arith, same, ap (λ (o : OpenArchive). untaken o.taken) one)
untaken_by archives x i taken a false is distinct found rest = omega (arith, rest found)

untaken_after : (archives : List OpenArchive) (i : ℕ) (taken : List Bool) (a : OpenArchive) → AreDistinctInputs archives → opened_at archives i ≡ Some a
    → untaken_in (with_taken archives i taken) + untaken a.taken ≡ untaken_in archives + untaken taken
untaken_after [] i taken a distinct found = absurd (none_some a found)
untaken_after (x ∷ archives) i taken a distinct found =
    untaken_by archives x i taken a (x.input == i) refl distinct found (λ there. untaken_after archives i taken a distinct.1 there)

-- an archive once more
input_by : (archives : List OpenArchive) (x : OpenArchive) (i : ℕ) (a : OpenArchive) (here : Bool) → (x.input == i) ≡ here → (opened_at archives i ≡ Some a → a.input ≡ i) → (if here then Some x else opened_at archives i) ≡ Some a → a.input ≡ i
input_by archives x i a true is rest there = ap (λ (o : OpenArchive). o.input) (sym (some_is x a there)) ∙ eqb-true x.input i is
input_by archives x i a false is rest there = rest there

found_input : (archives : List OpenArchive) (i : ℕ) (a : OpenArchive) → opened_at archives i ≡ Some a → a.input ≡ i
found_input [] i a found = absurd (none_some a found)
found_input (x ∷ archives) i a found = input_by archives x i a (x.input == i) refl (λ there. found_input archives i a there) found

again_shrinks : (link : Linking) (i : ℕ) (a : OpenArchive) (members : ArchiveMembers) → AreDistinctInputs link.archives → opened_at link.archives i ≡ Some a → Shrinks link (archive_again link a members)
unfolding archive_again
again_shrinks link i a members distinct found =
    let p : ArchivePass = record { keys = link.keys; rows = link.rows; taken = a.taken } in
    let archive : LinkArchive = record { input = a.input; row = a.row; members = members } in
    let moved = searched_moved archive a.entries p in
    let pass = archive_searched archive a.entries p in
    let there : opened_at link.archives a.input ≡ Some a = ap (λ n. opened_at link.archives n) (found_input link.archives i a found) ∙ found in
    let counts = untaken_after link.archives a.input pass.taken a distinct there in
    record {
      fewer = omega (arith, counts, moved.fewer);
      still = λ same. moved.still (omega (arith, counts, same));
      distinct = distinct_after link.archives a.input pass.taken distinct;
    }

again_at_shrinks : (link : Linking) (i : ℕ) (found : Option OpenArchive) (members : ArchiveMembers) → AreDistinctInputs link.archives → opened_at link.archives i ≡ found → Shrinks link (again_at link found members)
again_at_shrinks link i None members distinct found = shrinks_not link distinct
again_at_shrinks link i (Some a) members distinct found = again_shrinks link i a members distinct found

input_shrinks : (link : Linking) (i : ℕ) (file : InputFile) → AreDistinctInputs link.archives → Shrinks link (input_again link i file)
unfolding input_again
input_shrinks link i (SearchedFile count symbols members) distinct = again_at_shrinks link i (opened_at link.archives i) members distinct refl
input_shrinks link i (ObjectFile object) distinct = shrinks_not link distinct
input_shrinks link i (WholeFile members) distinct = shrinks_not link distinct
input_shrinks link i MissingFile distinct = shrinks_not link distinct

-- rounds
abbrev Keeps : (Linking → Linking) → Type 0
Keeps round = (l : Linking) → AreDistinctInputs l.archives → Shrinks l (round l)

shrinks_either : (old x y : Linking) (b : Bool) → Shrinks old x → Shrinks old y → Shrinks old (if b then x else y)
shrinks_either old x y true first second = first
shrinks_either old x y false first second = second

rounds_shrink : (n : ℕ) (round : Linking → Linking) (asked : ℕ) (link : Linking) → Keeps round → AreDistinctInputs link.archives → Shrinks link (rounds_made n round asked link)
rounds_shrink zero round asked link keeps distinct = shrinks_not link distinct
rounds_shrink (suc n) round asked link keeps distinct =
    let first = keeps link distinct in
    shrinks_either link link (rounds_made n round link.keys.asked (round link)) (link.keys.asked == asked) (shrinks_not link distinct)
    (shrinks_then link (round link) (rounds_made n round link.keys.asked (round link)) first (rounds_shrink n round link.keys.asked (round link) keeps first.distinct))

group_shrinks : (round : Linking → Linking) (asked : ℕ) (link : Linking) → Keeps round → AreDistinctInputs link.archives → Shrinks link (group_settled round asked link)
unfolding group_settled
group_shrinks round asked link keeps distinct = rounds_shrink (suc (untaken_in link.archives)) round asked link keeps distinct

inputs_shrink : (files : ℕ → InputFile) (inputs : LinkInputs) → Keeps (inputs_again files inputs)
inputs_shrink files NoInputs link distinct = shrinks_not link distinct
inputs_shrink files (Input index rest) link distinct =
    let first = input_shrinks link index (files index) distinct in
    shrinks_then link (input_again link index (files index)) (inputs_again files rest (input_again link index (files index))) first (inputs_shrink files rest (input_again link index (files index)) first.distinct)
inputs_shrink files (Group group rest) link distinct =
    let one = inputs_again files group link in
    let all = group_settled (inputs_again files group) link.keys.asked one in
    let first = inputs_shrink files group link distinct in
    let second = group_shrinks (inputs_again files group) link.keys.asked one (inputs_shrink files group) first.distinct in
    shrinks_then link one (inputs_again files rest all) first (shrinks_then one all (inputs_again files rest all) second (inputs_shrink files rest all second.distinct))

-- ENOUGH ROUNDS are as good as more
choose : {A : Type 0} (b : Bool) (k x y : A) → (b ≡ false → x ≡ y) → (if b then k else x) ≡ (if b then k else y)
choose true k x y same = refl
choose false k x y same = same refl

settled : (n : ℕ) (round : Linking → Linking) (asked : ℕ) (link : Linking) → link.keys.asked ≡ asked → rounds_made n round asked link ≡ link
settled zero round asked link same = refl
settled (suc n) round asked link same = ap (λ b. if b then link else rounds_made n round link.keys.asked (round link)) (eq-eqb link.keys.asked asked same)

less_or_same : (a b : ℕ) → a ≤ b → (a < b) ⊎ (a ≡ b)
less_or_same zero zero below = inr refl
less_or_same zero (suc b) below = inl (omega arith)
less_or_same (suc a) zero below = absurd (omega (arith, below))
less_or_same (suc a) (suc b) below = next (less_or_same a b (omega (arith, below))) where
  next : (a < b) ⊎ (a ≡ b) → (suc a < suc b) ⊎ (suc a ≡ suc b)
  next (inl less) = inl (omega (arith, less))
  next (inr same) = inr (ap suc same)

further : (n m : ℕ) (round : Linking → Linking) (link : Linking) → Shrinks link (round link) → (untaken_in (round link).archives < untaken_in link.archives → rounds_made n round link.keys.asked (round link) ≡ rounds_made m round link.keys.asked (round link))
    → (untaken_in (round link).archives < untaken_in link.archives) ⊎ (untaken_in (round link).archives ≡ untaken_in link.archives)
    → rounds_made n round link.keys.asked (round link) ≡ rounds_made m round link.keys.asked (round link)
further n m round link shrinks rest (inl less) = rest less
further n m round link shrinks rest (inr same) =
    let asked_same : (round link).keys.asked ≡ link.keys.asked = ap (λ (k : LinkKeys). k.asked) (shrinks.still same) in
    settled n round link.keys.asked (round link) asked_same ∙ sym (settled m round link.keys.asked (round link) asked_same)

rounds_enough : (n m : ℕ) (round : Linking → Linking) (asked : ℕ) (link : Linking) → Keeps round → AreDistinctInputs link.archives → untaken_in link.archives < n → untaken_in link.archives < m
    → rounds_made n round asked link ≡ rounds_made m round asked link
rounds_enough zero m round asked link keeps distinct below other = absurd (omega (arith, below))
rounds_enough (suc n) zero round asked link keeps distinct below other = absurd (omega (arith, other))
rounds_enough (suc n) (suc m) round asked link keeps distinct below other =
    choose (link.keys.asked == asked) link (rounds_made n round link.keys.asked (round link)) (rounds_made m round link.keys.asked (round link))
    (λ differs.
    further n m round link (keeps link distinct)
    (λ less. rounds_enough n m round link.keys.asked (round link) keeps (keeps link distinct).distinct (omega (arith, less, below)) (omega (arith, less, other)))
    (less_or_same (untaken_in (round link).archives) (untaken_in link.archives) (keeps link distinct).fewer))

pub group_is_least : (files : ℕ → InputFile) (group : LinkInputs) (link : Linking) (asked most : ℕ) → AreDistinctInputs link.archives → untaken_in link.archives < most
    → rounds_made most (inputs_again files group) asked link ≡ group_settled (inputs_again files group) asked link
unfolding group_settled
group_is_least files group link asked most distinct below =
    rounds_enough most (suc (untaken_in link.archives)) (inputs_again files group) asked link (inputs_shrink files group) distinct below (omega arith)

-- A ROUND MORE, or none
pub group_done : (files : ℕ → InputFile) (group : LinkInputs) (link : Linking) (asked : ℕ) → link.keys.asked ≡ asked → group_settled (inputs_again files group) asked link ≡ link
unfolding group_settled
group_done files group link asked same = settled (suc (untaken_in link.archives)) (inputs_again files group) asked link same

pub group_more : (files : ℕ → InputFile) (group : LinkInputs) (link : Linking) (asked : ℕ) → AreDistinctInputs link.archives → (link.keys.asked == asked) ≡ false
    → group_settled (inputs_again files group) asked link ≡ group_settled (inputs_again files group) link.keys.asked (inputs_again files group link)
unfolding group_settled
group_more files group link asked distinct differs =
    let round = inputs_again files group in
    let keeps = inputs_shrink files group in
    let first = keeps link distinct in
    ap (λ b. if b then link else rounds_made (untaken_in link.archives) round link.keys.asked (round link)) differs
    ∙ further (untaken_in link.archives) (suc (untaken_in (round link).archives)) round link first
    (λ less. rounds_enough (untaken_in link.archives) (suc (untaken_in (round link).archives)) round link.keys.asked (round link) keeps first.distinct less (omega arith))
    (less_or_same (untaken_in (round link).archives) (untaken_in link.archives) first.fewer)
