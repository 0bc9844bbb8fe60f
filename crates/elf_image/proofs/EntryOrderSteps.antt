-- The parts of the order of entries, one after another, and what is left of them.
use Rattle.std.proofs.Common.{◌≡◌, ◌∙◌, ℕ, zero, suc, ◌+◌, ◌-◌, ◌*◌, ◌≤◌, nat_lt, Bool, true, false, List, [], ◌∷◌, ◌++◌, length, map, filter, ap, sym, refl, arith, append_assoc, append-nil}
use Rattle.std.specs.List.{flat_map}
use Rattle.std.proofs.lemmas.List.{map-append}
use Rattle.std.proofs.lemmas.List.Elements.{filter-append}
use Rattle.elf_model.specs.Apply.{places_from}
use Rattle.elf_model.specs.Image.{ImageChange, ImageSource, direct_change, direct_changes, entry_change, entry_ranges, is_resolved, range_changes, resolved_changes}
use Rattle.elf_model.specs.ImageChecks.{linkage_table, rela_table, row_value}
use Rattle.elf_model.specs.Numbers.{DT_RELACOUNT}
use Rattle.elf_model.specs.Tables.{RELA_SIZE}
use Rattle.elf_model.proofs.ChangeSteps.{length-places_from}
use Rattle.elf_table.specs.Prelude.{TableRange}
use Rattle.elf_image.specs.EntryOrder.{numbered_changes, part_changes, parts_left, entry_places_left, relative_from}
use Rattle.elf_image.specs.Relocated.{AreEntryRanges, entry_places, places_in}
use Rattle.elf_image.specs.declared.ranges.EntryRanges.{EntryRanges}

-- LISTS OF CHANGES, of some entries and then others
pub direct-append : (source : ImageSource) (count : ℕ) (xs ys : List ℕ)
    → direct_changes source count (xs ++ ys) ≡ direct_changes source count xs ++ direct_changes source (count - length xs) ys
unfolding direct_changes
direct-append source count [] ys = let e : count ≡ count - 0 = omega arith in ap (λ n. direct_changes source n ys) e
direct-append source count (x ∷ xs) ys =
    let e : count - 1 - length xs ≡ count - suc (length xs) = omega arith in
    ap (λ changes. direct_change source (nat_lt 0 count) x ∷ changes)
    (direct-append source (count - 1) xs ys ∙ ap (λ n. direct_changes source (count - 1) xs ++ direct_changes source n ys) e)

pub resolved-append : (source : ImageSource) (xs ys : List ℕ) → resolved_changes source (xs ++ ys) ≡ resolved_changes source xs ++ resolved_changes source ys
unfolding resolved_changes
resolved-append source xs ys =
    ap (map (entry_change source)) (filter-append (is_resolved source.file) xs ys)
    ∙ map-append (entry_change source) (filter (is_resolved source.file) xs) (filter (is_resolved source.file) ys)

-- offsets of some entries, and then others
pub places-split : (place : ℕ → ℕ) (i n m k : ℕ) → k ≡ n + m → places_from place i k ≡ places_from place i n ++ places_from place (i + n) m
unfolding places_from
places-split place i zero m k e =
    let a : k ≡ m = omega arith in
    let b : i ≡ i + 0 = omega arith in
    ap (places_from place i) a ∙ ap (λ j. places_from place j m) b
places-split place i (suc n) m zero e = absurd (omega arith)
places-split place i (suc n) m (suc k) e =
    let rest : k ≡ n + m = omega arith in
    let next : suc i + n ≡ i + suc n = omega arith in
    ap (λ places. place i ∷ places) (places-split place (suc i) n m k rest ∙ ap (λ j. places_from place (suc i) n ++ places_from place j m) next)

-- THE RANGES OF THE DEFINITION ARE THE PARTS IN THEIR ORDER
joined-changes : (a b c d : List ImageChange) → a ++ (b ++ (c ++ (d ++ []))) ≡ ((a ++ b) ++ (c ++ d)) ++ ([] ++ [])
joined-changes a b c d = simp (append_assoc, append-nil)

apart-changes : (a b c d : List ImageChange) → a ++ (b ++ (c ++ (d ++ []))) ≡ (a ++ b) ++ (c ++ d)
apart-changes a b c d = simp (append_assoc, append-nil)

parts-of : (source : ImageSource) (first second : TableRange) (relative : ℕ) (joined : Bool)
    → parts_left source (record { first = first; second = second; joined = joined; relative = relative }) 0
    ≡ range_changes source relative (places_in (record { first = first; second = second; joined = joined; relative = relative })).0
    ++ range_changes source 0 (places_in (record { first = first; second = second; joined = joined; relative = relative })).1
unfolding parts_left places_from direct_changes resolved_changes
parts-of source first second relative true =
    let a : first.count - 0 ≡ first.count = omega arith in
    let b : second.count - 0 ≡ second.count = omega arith in
    let c : relative - 0 ≡ relative = omega arith in
    let d : relative - (first.count + 0) ≡ relative - first.count = omega arith in
    let xs = entry_places first in
    let ys = entry_places second in
    let direct = direct-append source relative xs ys ∙ ap (λ n. direct_changes source relative xs ++ direct_changes source (relative - n) ys) (length-places_from (λ i. first.at + RELA_SIZE * i) 0 first.count) in
    rw (a, b, c, d) (rw (direct, resolved-append source xs ys) (joined-changes (direct_changes source relative xs) (direct_changes source (relative - first.count) ys) (resolved_changes source xs) (resolved_changes source ys)))
parts-of source first second relative false =
    let a : first.count - 0 ≡ first.count = omega arith in
    let b : second.count - 0 ≡ second.count = omega arith in
    let c : relative - 0 ≡ relative = omega arith in
    let xs = entry_places first in
    let ys = entry_places second in
    rw (a, b, c) (apart-changes (direct_changes source relative xs) (resolved_changes source xs) (direct_changes source 0 ys) (resolved_changes source ys))

pub parts_are_ranges : (source : ImageSource) (ranges : EntryRanges) → AreEntryRanges source.file source.at ranges
    → parts_left source ranges 0
    ≡ range_changes source (row_value source.file source.at DT_RELACOUNT) (entry_ranges (rela_table source.file source.at) (linkage_table source.file source.at)).0
    ++ range_changes source 0 (entry_ranges (rela_table source.file source.at) (linkage_table source.file source.at)).1
parts_are_ranges source ranges are =
    parts-of source ranges.first ranges.second ranges.relative ranges.joined
    ∙ ap (λ (places : List ℕ × List ℕ). range_changes source ranges.relative places.0 ++ range_changes source 0 places.1) are.places
    ∙ ap (λ (count : ℕ). range_changes source count (entry_ranges (rela_table source.file source.at) (linkage_table source.file source.at)).0 ++ range_changes source 0 (entry_ranges (rela_table source.file source.at) (linkage_table source.file source.at)).1) are.relative

-- A PART'S ENTRIES from an index on: some of them, and those after these
relative-less : (first other : TableRange) (relative : ℕ) (joined second : Bool) (index n next : ℕ) → next ≡ index + n
    → relative_from (record { first = first; second = other; joined = joined; relative = relative }) second index - n
    ≡ relative_from (record { first = first; second = other; joined = joined; relative = relative }) second next
relative-less first other relative joined false index n next is = omega arith
relative-less first other relative true true index n next is = omega arith
relative-less first other relative false true index n next is = omega arith

-- the offset of an entry
abbrev pub entry_of : TableRange → ℕ → ℕ
entry_of table i = table.at + RELA_SIZE * i

places-next : (table : TableRange) (index n next : ℕ) → next ≡ index + n → next ≤ table.count
    → entry_places_left table index ≡ places_from (entry_of table) index n ++ entry_places_left table next
places-next table index n next is few =
    let more : table.count - index ≡ n + (table.count - next) = omega arith in
    places-split (entry_of table) index n (table.count - next) (table.count - index) more
    ∙ ap (λ j. places_from (entry_of table) index n ++ places_from (entry_of table) j (table.count - next)) (sym is)

pub part-split : (source : ImageSource) (ranges : EntryRanges) (indirect second : Bool) (table : TableRange) (index n next : ℕ) → next ≡ index + n → next ≤ table.count
    → part_changes source indirect (relative_from ranges second index) (entry_places_left table index)
    ≡ part_changes source indirect (relative_from ranges second index) (places_from (entry_of table) index n)
    ++ part_changes source indirect (relative_from ranges second next) (entry_places_left table next)
part-split source ranges true second table index n next is few =
    ap (resolved_changes source) (places-next table index n next is few) ∙ resolved-append source (places_from (entry_of table) index n) (entry_places_left table next)
part-split source ranges false second table index n next is few =
    let count = relative_from ranges second index in
    let less : count - length (places_from (entry_of table) index n) ≡ relative_from ranges second next
    = ap (λ k. count - k) (length-places_from (entry_of table) index n) ∙ relative-less ranges.first ranges.second ranges.relative ranges.joined second index n next is in
    ap (direct_changes source count) (places-next table index n next is few) ∙ direct-append source count (places_from (entry_of table) index n) (entry_places_left table next)
    ∙ ap (λ k. direct_changes source count (places_from (entry_of table) index n) ++ direct_changes source k (entry_places_left table next)) less

pub part-none : (source : ImageSource) (indirect : Bool) (relative : ℕ) (place : ℕ → ℕ) (i n : ℕ) → n ≡ 0 → part_changes source indirect relative (places_from place i n) ≡ []
unfolding places_from direct_changes resolved_changes
part-none source true relative place i zero none = refl
part-none source false relative place i zero none = refl
part-none source indirect relative place i (suc n) none = absurd (omega arith)

-- the part of a number, and those after it
pub parts-next : (source : ImageSource) (ranges : EntryRanges) (begun next left : ℕ) → 4 - begun ≡ suc left → next ≡ begun + 1
    → parts_left source ranges begun ≡ numbered_changes source ranges begun ++ parts_left source ranges next
unfolding parts_left places_from
parts-next source ranges begun next left some is =
    let after : suc begun ≡ next = omega arith in
    let rest : left ≡ 4 - next = omega arith in
    ap (λ n. flat_map (numbered_changes source ranges) (places_from (λ k. k) begun n)) some
    ∙ ap (λ j. numbered_changes source ranges begun ++ flat_map (numbered_changes source ranges) (places_from (λ k. k) j left)) after
    ∙ ap (λ n. numbered_changes source ranges begun ++ flat_map (numbered_changes source ranges) (places_from (λ k. k) next n)) rest
